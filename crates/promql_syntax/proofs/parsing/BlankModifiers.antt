-- A modifier is none exactly where nothing comes between the operator and its right side.
use Rattle.std.proofs.Common.{◌≡◌, refl, Option, Some, None, cond}
use Rattle.std.specs.Prelude.{is_some, Result, Ok}
use Rattle.promql_kind.specs.Modifiers.{Matching, matching}
use Rattle.promql_grammar.specs.GrammarParts as part
use Rattle.promql_grammar.specs.Results.{◌then◌}
use Rattle.promql_syntax.specs.BuildErrors.{BuildError}
use Rattle.promql_syntax.specs.PartBuilding.{matching_value, fills_value, modifier_value}
use Rattle.promql_syntax.specs.PartWords.{is_blank}

-- what is built where something comes between them
abbrev pub given_value : part.Modifier → Result (Option Matching) BuildError
given_value (flag, m, f) = matching_value m then λ c. fills_value f then λ v. Ok (Some (matching c.0 c.1 (is_some flag) v))

pub by_blank : (w : part.Modifier) → modifier_value w ≡ cond (is_blank w) (Ok None) (given_value w)
by_blank (None, None, part.no_fill) = refl
by_blank w = refl
