-- What numbers, value types, modifiers and functions feed a hasher (docs/reference/tree.md, "Hashes").
use Rattle.std.specs.Prelude.{◌++◌, pos}
use Rattle.std.specs.Hash.{HashWrites, bool, i32, isize, option, slice, str, u16, u128}
use Rattle.promql_text.specs.Numbers.{Exact}
use Rattle.promql_text.specs.declared.number.Number.{Number}
use Rattle.promql_text.specs.declared.number.Number.TheVariants.{Finite, Inf, NegInf, NaN}
use Rattle.promql_label.specs.MatcherFeeds.{labels_feed}
use Rattle.promql_kind.specs.Functions.{Signature, signature}
use Rattle.promql_kind.specs.Modifiers.{Clause, including, excluding, Cardinality, one_to_one, many_to_one, one_to_many, many_to_many, Fills, fills, Matching, matching}
use Rattle.promql_kind.specs.declared.value.ValueType.{ValueType}
use Rattle.promql_kind.specs.declared.value.ValueType.TheVariants.{Vector, Scalar, Matrix, String}

abbrev pub exact_feed : Exact → HashWrites
exact_feed e = u128 e.digits ++ (u16 e.zeros ++ (u16 e.places ++ bool e.is_negative))

abbrev pub number_feed : Number → HashWrites
number_feed (Finite e) = isize (pos 0) ++ exact_feed e
number_feed Inf = isize (pos 1)
number_feed NegInf = isize (pos 2)
number_feed NaN = isize (pos 3)

abbrev pub type_feed : ValueType → HashWrites
type_feed Vector = isize (pos 0)
type_feed Scalar = isize (pos 1)
type_feed Matrix = isize (pos 2)
type_feed String = isize (pos 3)

abbrev pub clause_feed : Clause → HashWrites
clause_feed (including ls) = isize (pos 0) ++ labels_feed ls
clause_feed (excluding ls) = isize (pos 1) ++ labels_feed ls

abbrev pub cardinality_feed : Cardinality → HashWrites
cardinality_feed one_to_one = isize (pos 0)
cardinality_feed (many_to_one ls) = isize (pos 1) ++ labels_feed ls
cardinality_feed (one_to_many ls) = isize (pos 2) ++ labels_feed ls
cardinality_feed many_to_many = isize (pos 3)

abbrev pub fills_feed : Fills → HashWrites
fills_feed (fills right left) = option number_feed right ++ option number_feed left

abbrev pub matching_feed : Matching → HashWrites
matching_feed (matching card clause return_bool values) =
    cardinality_feed card ++ (option clause_feed clause ++ (bool return_bool ++ fills_feed values))

abbrev pub signature_feed : Signature → HashWrites
signature_feed (signature name args variadic gives experimental) =
    str name ++ (slice type_feed args ++ (i32 variadic ++ (type_feed gives ++ bool experimental)))
