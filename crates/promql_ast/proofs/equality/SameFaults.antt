-- `==` of faults and errors holds exactly of one kind with the same data.
use Rattle.std.proofs.Common.{◌≡◌, ℕ, eqb, IsTrue, true, false, Option, Some, None, refl, ap, string_bytes}
use Rattle.std.specs.Prelude.{◌↔◌}
use Rattle.std.specs.Bool.{Decides}
use Rattle.promql_kind.specs.declared.value.ValueType.{ValueType}
use Rattle.std.proofs.lemmas.Bool.{eq-eqb}
use Rattle.std.proofs.lemmas.Bool.Decides.{Decides-like, Decides-and, Decides-eqb}
use Rattle.std.proofs.lemmas.Slice.Eq.{bytes_eq-Decides}
use Rattle.promql_text.specs.Equalities.{IsSameBy}
use Rattle.promql_kind.proofs.Equal.{number_Decides, type_Decides}
use Rattle.promql_ast.specs.Faults.{Fault, context_of, in_call, fault_of, binary_operator, bool_modifier, scalar_comparison, label_twice, set_on_scalar, no_grouping, binary_types, vector_matching, aggregator_expected, type_expected, arity_exact, arity_least, arity_most, unary_type, subquery_type, name_twice, empty_selector, node, error_fault}
use Rattle.promql_ast.specs.contracts.fault.TypeContextPartialEq.TheImpl as contexts
use Rattle.promql_ast.specs.contracts.fault.NodeFaultPartialEq.TheImpl as nodes
use Rattle.promql_ast.specs.contracts.fault.CheckFaultPartialEq.TheImpl as faults
use Rattle.promql_ast.specs.contracts.fault.CheckErrorPartialEq.TheImpl as errors
use Rattle.promql_ast.specs.contracts.at_modifier.AtFaultPartialEq.TheImpl as times
use Rattle.promql_ast.specs.declared.fault.TypeContext.TheVariants.{Aggregation, CallOf}
use Rattle.promql_ast.specs.declared.fault.CheckFault.{CheckFault}
use Rattle.promql_ast.specs.declared.fault.NodeFault.{NodeFault}
use Rattle.promql_ast.specs.declared.fault.NodeFault.TheVariants.{UnaryLiteral, OffsetBeforeRange, AtBeforeRange, RangeBase, AtTwice, AtBase, OffsetTwice, OffsetBase, NoArguments, ArgumentCount, ModeTwice, ModeBase}
use Rattle.promql_ast.specs.declared.fault.CheckFault.TheVariants.{BinaryOperator, BoolModifier, ScalarComparison, LabelTwice, SetOnScalar, NoGrouping, BinaryTypes, VectorMatching, AggregatorExpected, TypeExpected, ArityExact, ArityLeast, ArityMost, UnaryType, SubqueryType, NameTwice, EmptySelector, Node}
use Rattle.promql_ast.specs.declared.fault.CheckError.TheVariants.{Memory, Check}
use Rattle.promql_ast.specs.declared.at_modifier.AtFault.TheVariants.{NotPreprocessor, OutOfBounds, NotANumber}

pub context_Decides : IsSameBy context_of contexts.ghosts.eq
context_Decides Aggregation Aggregation = ((λ _. refl), (λ _. refl))
context_Decides (CallOf a) (CallOf b) = Decides-like _ (λ e. ap in_call e) (λ e. cc) (bytes_eq-Decides a.now b.now)
context_Decides _ _ = ((λ h. cc), (λ h. cc))

-- the number of the variant, by which other variants are told apart at once
node_rank : NodeFault → ℕ
node_rank (UnaryLiteral a) = 0
node_rank OffsetBeforeRange = 1
node_rank AtBeforeRange = 2
node_rank RangeBase = 3
node_rank AtTwice = 4
node_rank AtBase = 5
node_rank OffsetTwice = 6
node_rank OffsetBase = 7
node_rank (NoArguments a) = 8
node_rank (ArgumentCount a b) = 9
node_rank ModeTwice = 10
node_rank ModeBase = 11

node_apart : (a b : NodeFault) → eqb (node_rank a) (node_rank b) ≡ false → nodes.ghosts.eq a b ≡ false
unfolding node_rank
node_apart (UnaryLiteral a) (UnaryLiteral c) apart = cc
node_apart OffsetBeforeRange OffsetBeforeRange apart = cc
node_apart AtBeforeRange AtBeforeRange apart = cc
node_apart RangeBase RangeBase apart = cc
node_apart AtTwice AtTwice apart = cc
node_apart AtBase AtBase apart = cc
node_apart OffsetTwice OffsetTwice apart = cc
node_apart OffsetBase OffsetBase apart = cc
node_apart (NoArguments a) (NoArguments c) apart = cc
node_apart (ArgumentCount a b) (ArgumentCount c d) apart = cc
node_apart ModeTwice ModeTwice apart = cc
node_apart ModeBase ModeBase apart = cc
node_apart _ _ apart = refl

node_apart_Decides : (a b : NodeFault) → eqb (node_rank a) (node_rank b) ≡ false → IsTrue (nodes.ghosts.eq a b) ↔ (a ≡ b)
node_apart_Decides a b apart = (
  λ yes. let no = node_apart a b apart in cc,
  λ same. let one = eq-eqb (node_rank a) (node_rank b) (ap node_rank same) in cc,
)

pub node_Decides : IsSameBy (λ f. f) nodes.ghosts.eq
unfolding node_rank
node_Decides (UnaryLiteral a) (UnaryLiteral b) = Decides-like _ (λ e. ap UnaryLiteral e) (λ e. cc) (type_Decides a b)
node_Decides OffsetBeforeRange OffsetBeforeRange = ((λ _. refl), (λ _. refl))
node_Decides AtBeforeRange AtBeforeRange = ((λ _. refl), (λ _. refl))
node_Decides RangeBase RangeBase = ((λ _. refl), (λ _. refl))
node_Decides AtTwice AtTwice = ((λ _. refl), (λ _. refl))
node_Decides AtBase AtBase = ((λ _. refl), (λ _. refl))
node_Decides OffsetTwice OffsetTwice = ((λ _. refl), (λ _. refl))
node_Decides OffsetBase OffsetBase = ((λ _. refl), (λ _. refl))
node_Decides (NoArguments a) (NoArguments b) = Decides-like _ (λ e. ap NoArguments e) (λ e. cc) (Decides-eqb a b)
node_Decides (ArgumentCount a b) (ArgumentCount c d) =
    Decides-like _ (λ same. let first = same.0 in let second = same.1 in cc) (λ same. ((cc), (cc)))
    (Decides-and _ _ (Decides-eqb a c) (Decides-eqb b d))
node_Decides ModeTwice ModeTwice = ((λ _. refl), (λ _. refl))
node_Decides ModeBase ModeBase = ((λ _. refl), (λ _. refl))
node_Decides a b = node_apart_Decides a b refl

nothing : ◌≡◌ {A = Option ValueType} None None
nothing = refl

none_none : Decides true (◌≡◌ {A = Option ValueType} None None)
none_none = ((λ _. nothing), (λ _. refl))

none_some : (g : ValueType) → Decides false (None ≡ Some g)
none_some g = ((λ h. cc), (λ h. cc))

some_none : (f : ValueType) → Decides false (Some f ≡ None)
some_none f = ((λ h. cc), (λ h. cc))

rank : Fault → ℕ
rank (binary_operator a) = 0
rank bool_modifier = 1
rank scalar_comparison = 2
rank (label_twice a) = 3
rank (set_on_scalar a) = 4
rank (no_grouping a) = 5
rank binary_types = 6
rank vector_matching = 7
rank (aggregator_expected a) = 8
rank (type_expected a p k) = 9
rank (arity_exact a n k) = 10
rank (arity_least a n k) = 11
rank (arity_most a n k) = 12
rank (unary_type a) = 13
rank (subquery_type a) = 14
rank (name_twice n v) = 15
rank empty_selector = 16
rank (node a) = 17

fault_apart : (a b : CheckFault) → eqb (rank (fault_of a)) (rank (fault_of b)) ≡ false → faults.ghosts.eq a b ≡ false
unfolding rank
fault_apart (BinaryOperator a) (BinaryOperator c) apart = cc
fault_apart BoolModifier BoolModifier apart = cc
fault_apart ScalarComparison ScalarComparison apart = cc
fault_apart (LabelTwice a) (LabelTwice c) apart = cc
fault_apart (SetOnScalar a) (SetOnScalar c) apart = cc
fault_apart (NoGrouping a) (NoGrouping c) apart = cc
fault_apart BinaryTypes BinaryTypes apart = cc
fault_apart VectorMatching VectorMatching apart = cc
fault_apart (AggregatorExpected a) (AggregatorExpected c) apart = cc
fault_apart (TypeExpected a p k) (TypeExpected c q j) apart = cc
fault_apart (ArityExact a n k) (ArityExact c m j) apart = cc
fault_apart (ArityLeast a n k) (ArityLeast c m j) apart = cc
fault_apart (ArityMost a n k) (ArityMost c m j) apart = cc
fault_apart (UnaryType a) (UnaryType c) apart = cc
fault_apart (SubqueryType a) (SubqueryType c) apart = cc
fault_apart (NameTwice n v) (NameTwice m w) apart = cc
fault_apart EmptySelector EmptySelector apart = cc
fault_apart (Node a) (Node c) apart = cc
fault_apart _ _ apart = refl

fault_apart_Decides : (a b : CheckFault) → eqb (rank (fault_of a)) (rank (fault_of b)) ≡ false → IsTrue (faults.ghosts.eq a b) ↔ (fault_of a ≡ fault_of b)
fault_apart_Decides a b apart = (
  λ yes. let no = fault_apart a b apart in cc,
  λ same. let one = eq-eqb (rank (fault_of a)) (rank (fault_of b)) (ap rank same) in cc,
)

pub fault_Decides : IsSameBy fault_of faults.ghosts.eq
unfolding rank
fault_Decides (BinaryOperator a) (BinaryOperator b) = Decides-like _ (λ e. ap binary_operator e) (λ e. cc) (Decides-eqb a b)
fault_Decides BoolModifier BoolModifier = ((λ _. refl), (λ _. refl))
fault_Decides ScalarComparison ScalarComparison = ((λ _. refl), (λ _. refl))
fault_Decides (LabelTwice a) (LabelTwice b) = Decides-like _ (λ e. ap label_twice e) (λ e. cc) (bytes_eq-Decides (string_bytes a) (string_bytes b))
fault_Decides (SetOnScalar a) (SetOnScalar b) = Decides-like _ (λ e. ap set_on_scalar e) (λ e. cc) (Decides-eqb a b)
fault_Decides (NoGrouping a) (NoGrouping b) = Decides-like _ (λ e. ap no_grouping e) (λ e. cc) (Decides-eqb a b)
fault_Decides BinaryTypes BinaryTypes = ((λ _. refl), (λ _. refl))
fault_Decides VectorMatching VectorMatching = ((λ _. refl), (λ _. refl))
fault_Decides (AggregatorExpected a) (AggregatorExpected b) = Decides-like _ (λ e. ap aggregator_expected e) (λ e. cc) (Decides-eqb a b)
fault_Decides (TypeExpected a p None) (TypeExpected b q None) =
    Decides-like _ (λ same. let first = same.0 in let second = same.1.0 in cc) (λ same. ((cc), ((cc), nothing)))
    (Decides-and _ _ (type_Decides a b) (Decides-and _ _ (context_Decides p q) none_none))
fault_Decides (TypeExpected a p (Some f)) (TypeExpected b q (Some g)) =
    Decides-like _ (λ same. let first = same.0 in let second = same.1.0 in let third = same.1.1 in cc) (λ same. ((cc), ((cc), (cc))))
    (Decides-and _ _ (type_Decides a b) (Decides-and _ _ (context_Decides p q) (type_Decides f g)))
fault_Decides (TypeExpected a p None) (TypeExpected b q (Some g)) =
    Decides-like _ (λ same. let third = same.1.1 in cc) (λ same. ((cc), ((cc), (cc))))
    (Decides-and _ _ (type_Decides a b) (Decides-and _ _ (context_Decides p q) (none_some g)))
fault_Decides (TypeExpected a p (Some f)) (TypeExpected b q None) =
    Decides-like _ (λ same. let third = same.1.1 in cc) (λ same. ((cc), ((cc), (cc))))
    (Decides-and _ _ (type_Decides a b) (Decides-and _ _ (context_Decides p q) (some_none f)))
fault_Decides (ArityExact a n k) (ArityExact b m j) =
    Decides-like _ (λ same. let first = same.0 in let second = same.1.0 in let third = same.1.1 in cc) (λ same. ((cc), ((cc), (cc))))
    (Decides-and _ _ (Decides-eqb a b) (Decides-and _ _ (bytes_eq-Decides n.now m.now) (Decides-eqb k j)))
fault_Decides (ArityLeast a n k) (ArityLeast b m j) =
    Decides-like _ (λ same. let first = same.0 in let second = same.1.0 in let third = same.1.1 in cc) (λ same. ((cc), ((cc), (cc))))
    (Decides-and _ _ (Decides-eqb a b) (Decides-and _ _ (bytes_eq-Decides n.now m.now) (Decides-eqb k j)))
fault_Decides (ArityMost a n k) (ArityMost b m j) =
    Decides-like _ (λ same. let first = same.0 in let second = same.1.0 in let third = same.1.1 in cc) (λ same. ((cc), ((cc), (cc))))
    (Decides-and _ _ (Decides-eqb a b) (Decides-and _ _ (bytes_eq-Decides n.now m.now) (Decides-eqb k j)))
fault_Decides (UnaryType a) (UnaryType b) = Decides-like _ (λ e. ap unary_type e) (λ e. cc) (type_Decides a b)
fault_Decides (SubqueryType a) (SubqueryType b) = Decides-like _ (λ e. ap subquery_type e) (λ e. cc) (type_Decides a b)
fault_Decides (NameTwice n v) (NameTwice m w) =
    Decides-like _ (λ same. let first = same.0 in let second = same.1 in cc) (λ same. ((cc), (cc)))
    (Decides-and _ _ (bytes_eq-Decides (string_bytes n) (string_bytes m)) (bytes_eq-Decides (string_bytes v) (string_bytes w)))
fault_Decides EmptySelector EmptySelector = ((λ _. refl), (λ _. refl))
fault_Decides (Node a) (Node b) = Decides-like _ (λ e. ap node e) (λ e. cc) (node_Decides a b)
fault_Decides a b = fault_apart_Decides a b refl

pub error_Decides : IsSameBy error_fault errors.ghosts.eq
error_Decides Memory Memory = ((λ _. refl), (λ _. refl))
error_Decides (Check a) (Check b) = Decides-like _ (λ e. ap Some e) (λ e. cc) (fault_Decides a b)
error_Decides _ _ = ((λ h. cc), (λ h. cc))

pub at_Decides : IsSameBy (λ f. f) times.ghosts.eq
at_Decides (NotPreprocessor a) (NotPreprocessor b) = Decides-like _ (λ e. ap NotPreprocessor e) (λ e. cc) (Decides-eqb a b)
at_Decides (OutOfBounds a) (OutOfBounds b) = Decides-like _ (λ e. ap OutOfBounds e) (λ e. cc) (number_Decides a b)
at_Decides NotANumber NotANumber = ((λ _. refl), (λ _. refl))
at_Decides _ _ = ((λ h. cc), (λ h. cc))
