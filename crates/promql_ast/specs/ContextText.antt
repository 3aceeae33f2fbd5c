-- How the place where a type is expected prints in a message (docs/reference/tree.md, "Checks").
use Rattle.std.specs.Prelude.{◌++◌, codes}
use Rattle.promql_text.specs.Texts.{Text}
use Rattle.promql_ast.specs.Faults.{Context, in_aggregation, in_call}

abbrev pub context_text : Context → Text
context_text in_aggregation = codes "aggregation expression"
context_text (in_call name) = codes "call to function '" ++ (name ++ codes "'")
