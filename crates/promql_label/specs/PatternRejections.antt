-- Why no pattern is built: docs/reference/matchers.md, "Patterns".
use Rattle.std.specs.Prelude.{Option, Some, None, string_bytes}
use Rattle.promql_label.specs.declared.pattern.PatternFault.{PatternFault}
use Rattle.promql_label.specs.declared.pattern.PatternFault.TheVariants.{Memory, Refused}
use Rattle.promql_text.specs.Texts.{Text}

-- a fault as plain data: the rejected value, or nothing where memory ran out
abbrev pub rejected_value : PatternFault → Option Text
rejected_value Memory = None
rejected_value (Refused s) = Some (string_bytes s)
