-- Value types (docs/reference/tree.md, "Value types").
use Rattle.std.specs.Prelude.{Bool, true, false, codes}
use Rattle.promql_text.specs.Texts.{Text}
use Rattle.promql_kind.specs.declared.value.ValueType.{ValueType}
use Rattle.promql_kind.specs.declared.value.ValueType.TheVariants.{Vector, Scalar, Matrix, String}

abbrev pub type_text : ValueType → Text
type_text Vector = codes "vector"
type_text Scalar = codes "scalar"
type_text Matrix = codes "matrix"
type_text String = codes "string"

abbrev pub type_eq : ValueType → ValueType → Bool
type_eq Vector Vector = true
type_eq Scalar Scalar = true
type_eq Matrix Matrix = true
type_eq String String = true
type_eq _ _ = false
