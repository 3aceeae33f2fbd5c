-- What is written of a query that is enforced (docs/reference/programs.md, "One query, enforced").
use Rattle.std.specs.Prelude.{◌≡◌, ◌++◌, Ok, codes}
use Rattle.promql_text.specs.Texts.{Text}
use Rattle.promql_query.specs.EnforcedLines.{IsEnforcedLine}
use Rattle.promql_span.specs.declared.limits.Limits.{Limits}

-- the line and a line feed
abbrev pub IsEnforcedAnswer : Limits → Text → Text → Text → Type 0
IsEnforcedAnswer limits matcher query answer = (line : Text) × IsEnforcedLine limits query matcher (Ok line) × (answer ≡ line ++ codes "\n")
