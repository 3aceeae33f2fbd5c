-- Functions, as plain data, and the row that a name has in the table (docs/reference/functions.md).
use Rattle.std.specs.Prelude.{ℤ, Bool, List, Option, find, map}
use Rattle.std.specs.Str.{bytes_eq}
use Rattle.promql_text.specs.Texts.{Text}
use Rattle.promql_kind.specs.declared.function.Function.{Function}
use Rattle.promql_kind.specs.declared.function_table.TheConstants.{FUNCTIONS}
use Rattle.promql_kind.specs.declared.value.ValueType.{ValueType}

-- a function: its name, the types of its arguments, how many more or fewer it takes, the type of its value, and
-- whether it is experimental
pub data Signature : Type 0 where
  signature : Text → List ValueType → ℤ → ValueType → Bool → Signature

abbrev pub signature_of : Function → Signature
signature_of f = signature f.name.now f.arg_types.items f.variadic f.return_type f.experimental

abbrev pub name_of : Signature → Text
name_of (signature name args variadic gives experimental) = name

abbrev pub value_type_of : Signature → ValueType
value_type_of (signature name args variadic gives experimental) = gives

-- a row of the table
abbrev pub Row : Type 0
Row = record { now : Text } × record { now : List ValueType } × ℤ × ValueType × Bool

abbrev pub row_signature : Row → Signature
row_signature (name, args, variadic, gives, experimental) = signature name.now args.now variadic gives experimental

abbrev pub is_named : Text → Signature → Bool
is_named name f = bytes_eq (name_of f) name

-- the function that a name has, by the table
abbrev pub function_named : Text → Option Signature
function_named name = find (is_named name) (map row_signature FUNCTIONS)
