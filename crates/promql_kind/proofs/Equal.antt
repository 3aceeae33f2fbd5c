-- `==` of modifiers and functions holds exactly of those that are seen as the same.
use Rattle.std.proofs.Common.{◌≡◌, ◌∙◌, Bool, true, false, Option, Some, None, refl, ap, sym, option_map, string_bytes}
use Rattle.std.specs.Cmp.{booleans_Decides}
use Rattle.std.specs.Cmp.Derive.Mapped.{pointwise-map}
use Rattle.std.specs.Str.{bytes_eq}
use Rattle.std.proofs.lemmas.Bool.Decides.{Decides-and, Decides-int_eq, Decides-like}
use Rattle.std.proofs.lemmas.Slice.Eq.{bytes_eq-Decides, slice_eq-Decides}
use Rattle.promql_text.specs.Equalities.{IsSameBy}
use Rattle.promql_label.specs.Labels.{labels_of}
use Rattle.promql_label.specs.contracts.labels.LabelsPartialEq.TheImpl as labels
use Rattle.promql_text.specs.contracts.number.Number as number
use Rattle.promql_text.specs.contracts.number.NumberPartialEq.TheImpl as numbers
use Rattle.std.specs.contracts.prelude.OptionPartialEq.TheImpl as options
use Rattle.promql_text.specs.declared.number.Number.TheVariants.{Finite, Inf, NegInf, NaN}
use Rattle.promql_kind.specs.Functions.{signature_of}
use Rattle.promql_kind.specs.Modifiers.{including, excluding, many_to_one, one_to_many}
use Rattle.promql_kind.specs.ModifierViews.{clause_of, cardinality_of, fills_of, matching_of}
use Rattle.promql_kind.specs.contracts.bin_modifier.BinModifierPartialEq.TheImpl as matchings
use Rattle.promql_kind.specs.contracts.cardinality.VectorMatchCardinalityPartialEq.TheImpl as cardinalities
use Rattle.promql_kind.specs.contracts.fill_values.VectorMatchFillValuesPartialEq.TheImpl as fill_values
use Rattle.promql_kind.specs.contracts.function.FunctionPartialEq.TheImpl as functions
use Rattle.promql_kind.specs.contracts.label_modifier.LabelModifier as clause
use Rattle.promql_kind.specs.contracts.label_modifier.LabelModifierPartialEq.TheImpl as clauses
use Rattle.promql_kind.specs.contracts.value.ValueTypePartialEq.TheImpl as types
use Rattle.promql_kind.specs.declared.cardinality.VectorMatchCardinality.TheVariants.{OneToOne, ManyToOne, OneToMany, ManyToMany}
use Rattle.promql_kind.specs.declared.label_modifier.LabelModifier.TheVariants.{Include, Exclude}
use Rattle.promql_kind.specs.declared.value.ValueType.TheVariants.{Vector, Scalar, Matrix, String}
use Rattle.promql_kind.proofs.SameModifiersDecide.{number_eq-Decides}

pub type_Decides : IsSameBy (λ t. t) types.ghosts.eq
type_Decides Vector Vector = ((λ _. refl), (λ _. refl))
type_Decides Scalar Scalar = ((λ _. refl), (λ _. refl))
type_Decides Matrix Matrix = ((λ _. refl), (λ _. refl))
type_Decides String String = ((λ _. refl), (λ _. refl))
type_Decides _ _ = ((λ h. cc), (λ h. cc))

labels_Decides : IsSameBy labels_of labels.ghosts.eq
labels_Decides x y =
    let texts = pointwise-map string_bytes bytes_eq x.labels.items y.labels.items in
    let decides = slice_eq-Decides bytes_eq-Decides (labels_of x) (labels_of y) _ refl in
    (λ e. decides.0 (texts ∙ e), λ e. sym texts ∙ decides.1 e)

pub clause_Decides : IsSameBy clause_of clauses.ghosts.eq
clause_Decides (Include ls) (Include ks) = Decides-like _ (λ e. ap including e) (λ e. cc) (labels_Decides ls ks)
clause_Decides (Exclude ls) (Exclude ks) = Decides-like _ (λ e. ap excluding e) (λ e. cc) (labels_Decides ls ks)
clause_Decides _ _ = ((λ h. cc), (λ h. cc))

pub cardinality_Decides : IsSameBy cardinality_of cardinalities.ghosts.eq
cardinality_Decides OneToOne OneToOne = ((λ _. refl), (λ _. refl))
cardinality_Decides (ManyToOne ls) (ManyToOne ks) = Decides-like _ (λ e. ap many_to_one e) (λ e. cc) (labels_Decides ls ks)
cardinality_Decides (OneToMany ls) (OneToMany ks) = Decides-like _ (λ e. ap one_to_many e) (λ e. cc) (labels_Decides ls ks)
cardinality_Decides ManyToMany ManyToMany = ((λ _. refl), (λ _. refl))
cardinality_Decides _ _ = ((λ h. cc), (λ h. cc))

-- `==` of options, from that of what they hold
same_option : {X Y : Type 0} (view : X → Y) (test : X → X → Bool) (both : Option X → Option X → Bool)
    → ((a b : X) → both (Some a) (Some b) ≡ test a b) → ((a : X) → both (Some a) None ≡ false) → ((b : X) → both None (Some b) ≡ false)
    → both None None ≡ true → IsSameBy view test → IsSameBy (option_map view) both
same_option view test both some left right none each None None = ((λ _. refl), (λ _. none))
same_option view test both some left right none each (Some a) None = let e = left a in ((λ h. cc), (λ h. cc))
same_option view test both some left right none each None (Some b) = let e = right b in ((λ h. cc), (λ h. cc))
same_option view test both some left right none each (Some a) (Some b) =
    let e = some a b in let d = each a b in
    ((λ h. let same = d.0 (sym e ∙ h) in cc), (λ h. let same = d.1 (cc) in e ∙ same))

pub number_Decides : IsSameBy (λ n. n) numbers.ghosts.eq
number_Decides (Finite a) (Finite b) = number_eq-Decides (Finite a) (Finite b)
number_Decides Inf Inf = ((λ _. refl), (λ _. refl))
number_Decides NegInf NegInf = ((λ _. refl), (λ _. refl))
number_Decides NaN NaN = ((λ _. refl), (λ _. refl))
number_Decides _ _ = ((λ h. cc), (λ h. cc))

option_id : {X : Type 0} (o : Option X) → option_map (λ x. x) o ≡ o
option_id None = refl
option_id (Some x) = refl

pub fills_Decides : IsSameBy fills_of fill_values.ghosts.eq
fills_Decides a b =
    let numbers_of = same_option (λ n. n) numbers.ghosts.eq (options.ghosts number.the_row numbers.ghosts numbers.dict).eq (λ a b. refl) (λ a. refl) (λ b. refl) refl number_Decides in
    Decides-like _
    (λ same. let right = sym (option_id a.rhs) ∙ same.0 ∙ option_id b.rhs in let left = sym (option_id a.lhs) ∙ same.1 ∙ option_id b.lhs in cc)
    (λ same. (cc, cc))
    (Decides-and _ _ (numbers_of a.rhs b.rhs) (numbers_of a.lhs b.lhs))

pub matching_Decides : IsSameBy matching_of matchings.ghosts.eq
matching_Decides a b =
    let clauses_of = same_option clause_of clauses.ghosts.eq (options.ghosts clause.the_row clauses.ghosts clauses.dict).eq (λ a b. refl) (λ a. refl) (λ b. refl) refl clause_Decides in
    Decides-like _
    (λ same. let card = same.0 in let clause = same.1.0 in let bool = same.1.1.0 in let values = same.1.1.1 in cc)
    (λ same. (cc, (cc, (cc, cc))))
    (Decides-and _ _ (cardinality_Decides a.card b.card)
    (Decides-and _ _ (clauses_of a.matching b.matching)
    (Decides-and _ _ (booleans_Decides a.return_bool b.return_bool) (fills_Decides a.fill_values b.fill_values))))

pub function_Decides : IsSameBy signature_of functions.ghosts.eq
function_Decides a b =
    Decides-like _
    (λ same. let name = same.0 in let types = same.1.0 in let more = same.1.1.0 in let gives = same.1.1.1.0 in let experimental = same.1.1.1.1 in cc)
    (λ same. (cc, (cc, (cc, (cc, cc)))))
    (Decides-and _ _ (bytes_eq-Decides a.name.now b.name.now)
    (Decides-and _ _ (slice_eq-Decides type_Decides a.arg_types.items b.arg_types.items _ refl)
    (Decides-and _ _ (Decides-int_eq a.variadic b.variadic)
    (Decides-and _ _ (type_Decides a.return_type b.return_type) (booleans_Decides a.experimental b.experimental)))))
