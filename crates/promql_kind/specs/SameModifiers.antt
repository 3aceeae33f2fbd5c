-- Tests of whether modifiers, numbers and functions are the same (docs/reference/tree.md, "Equality"). Each decides
-- `≡`.
use Rattle.std.specs.Prelude.{Bool, true, false, ◌&&◌, List}
use mathlib.Core.Bool.{beq}
use lib.Pointwise.{pointwise}
use Rattle.std.specs.Option.{option_eq}
use Rattle.std.specs.Ordering.{int_eq}
use Rattle.std.specs.Str.{bytes_eq}
use Rattle.promql_text.specs.Texts.{Text}
use Rattle.promql_kind.specs.Functions.{Signature, signature}
use Rattle.promql_kind.specs.Modifiers.{Clause, including, excluding, Cardinality, one_to_one, many_to_one, one_to_many, many_to_many, Fills, fills, Matching, matching, number_eq}
use Rattle.promql_kind.specs.ValueTypes.{type_eq}

abbrev pub texts_eq : List Text → List Text → Bool
texts_eq = pointwise bytes_eq

abbrev pub clause_eq : Clause → Clause → Bool
clause_eq (including ls) (including ks) = texts_eq ls ks
clause_eq (excluding ls) (excluding ks) = texts_eq ls ks
clause_eq _ _ = false

abbrev pub cardinality_eq : Cardinality → Cardinality → Bool
cardinality_eq one_to_one one_to_one = true
cardinality_eq (many_to_one ls) (many_to_one ks) = texts_eq ls ks
cardinality_eq (one_to_many ls) (one_to_many ks) = texts_eq ls ks
cardinality_eq many_to_many many_to_many = true
cardinality_eq _ _ = false

abbrev pub fills_eq : Fills → Fills → Bool
fills_eq (fills r l) (fills s m) = option_eq number_eq r s && option_eq number_eq l m

abbrev pub matching_eq : Matching → Matching → Bool
matching_eq (matching c m b f) (matching d n e g) =
    cardinality_eq c d && (option_eq clause_eq m n && (beq b e && fills_eq f g))

abbrev pub signature_eq : Signature → Signature → Bool
signature_eq (signature n xs v g e) (signature m ys w h f) =
    bytes_eq n m && (pointwise type_eq xs ys && (int_eq v w && (type_eq g h && beq e f)))
