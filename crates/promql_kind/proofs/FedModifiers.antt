-- The derived hashes of numbers, value types, modifiers and functions feed what the definitions say.
use Rattle.std.proofs.Common.{◌≡◌, ◌∙◌, ◌++◌, Option, None, Some, map-id, refl, ap, pos}
use Rattle.std.specs.Hash.{bool, i32, isize, option, slice, str}
use Rattle.promql_text.specs.contracts.number.NumberHash.TheImpl as numbers
use Rattle.promql_text.specs.declared.number.Number.{Number}
use Rattle.promql_text.specs.declared.number.Number.TheVariants.{Finite, Inf, NegInf, NaN}
use Rattle.promql_label.proofs.equality.FedLists.{option_fed, slice_fed}
use Rattle.promql_label.proofs.equality.FedMatchers.{labels_fed}
use Rattle.promql_kind.specs.Functions.{signature_of}
use Rattle.promql_kind.specs.ModifierFeeds.{cardinality_feed, clause_feed, fills_feed, matching_feed, number_feed, signature_feed, type_feed}
use Rattle.promql_kind.specs.ModifierViews.{clause_of, cardinality_of, fills_of, matching_of}
use Rattle.promql_kind.specs.contracts.bin_modifier.BinModifierHash.TheImpl as matchings
use Rattle.promql_kind.specs.contracts.cardinality.VectorMatchCardinalityHash.TheImpl as cardinalities
use Rattle.promql_kind.specs.contracts.fill_values.VectorMatchFillValuesHash.TheImpl as fill_values
use Rattle.promql_kind.specs.contracts.function.FunctionHash.TheImpl as functions
use Rattle.promql_kind.specs.contracts.label_modifier.LabelModifierHash.TheImpl as clauses
use Rattle.promql_kind.specs.contracts.value.ValueTypeHash.TheImpl as types
use Rattle.promql_kind.specs.declared.bin_modifier.BinModifier.{BinModifier}
use Rattle.promql_kind.specs.declared.cardinality.VectorMatchCardinality.{VectorMatchCardinality}
use Rattle.promql_kind.specs.declared.cardinality.VectorMatchCardinality.TheVariants.{OneToOne, ManyToOne, OneToMany, ManyToMany}
use Rattle.promql_kind.specs.declared.fill_values.VectorMatchFillValues.{VectorMatchFillValues}
use Rattle.promql_kind.specs.declared.function.Function.{Function}
use Rattle.promql_kind.specs.declared.label_modifier.LabelModifier.{LabelModifier}
use Rattle.promql_kind.specs.declared.label_modifier.LabelModifier.TheVariants.{Include, Exclude}
use Rattle.promql_kind.specs.declared.value.ValueType.{ValueType}
use Rattle.promql_kind.specs.declared.value.ValueType.TheVariants.{Vector, Scalar, Matrix, String}

pub type_fed : (t : ValueType) → types.ghosts.hash_input t ≡ type_feed t
type_fed Vector = refl
type_fed Scalar = refl
type_fed Matrix = refl
type_fed String = refl

pub number_fed : (n : Number) → numbers.ghosts.hash_input n ≡ number_feed n
number_fed (Finite e) = refl
number_fed Inf = refl
number_fed NegInf = refl
number_fed NaN = refl

pub clause_fed : (m : LabelModifier) → clauses.ghosts.hash_input m ≡ clause_feed (clause_of m)
clause_fed (Include ls) = ap (λ w. isize (pos 0) ++ w) (labels_fed ls)
clause_fed (Exclude ls) = ap (λ w. isize (pos 1) ++ w) (labels_fed ls)

pub cardinality_fed : (card : VectorMatchCardinality) → cardinalities.ghosts.hash_input card ≡ cardinality_feed (cardinality_of card)
cardinality_fed OneToOne = refl
cardinality_fed (ManyToOne ls) = ap (λ w. isize (pos 1) ++ w) (labels_fed ls)
cardinality_fed (OneToMany ls) = ap (λ w. isize (pos 2) ++ w) (labels_fed ls)
cardinality_fed ManyToMany = refl

number_option : (o : Option Number) → option numbers.ghosts.hash_input o ≡ option number_feed o
number_option None = refl
number_option (Some n) = ap (λ w. isize (pos 1) ++ w) (number_fed n)

pub fills_fed : (values : VectorMatchFillValues) → fill_values.ghosts.hash_input values ≡ fills_feed (fills_of values)
fills_fed values = λ i. number_option values.rhs i ++ number_option values.lhs i

pub matching_fed : (m : BinModifier) → matchings.ghosts.hash_input m ≡ matching_feed (matching_of m)
matching_fed m =
    λ i. cardinality_fed m.card i
    ++ (option_fed clause_of clause_feed clauses.ghosts.hash_input clause_fed m.matching i
    ++ (bool m.return_bool ++ fills_fed m.fill_values i))

pub function_fed : (f : Function) → functions.ghosts.hash_input f ≡ signature_feed (signature_of f)
function_fed f =
    let types_fed = slice_fed (λ t. t) type_feed types.ghosts.hash_input type_fed f.arg_types.items ∙ ap (slice type_feed) (map-id f.arg_types.items) in
    λ i. str f.name.now ++ (types_fed i ++ (i32 f.variadic ++ (type_fed f.return_type i ++ bool f.experimental)))
