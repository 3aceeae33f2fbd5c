-- Matchers whose pattern is what `regex` answers for their value (docs/reference/grammar.md, "Answers about patterns").
use Rattle.std.specs.Prelude.{◌≡◌}
use Rattle.promql_text.specs.Texts.{Text}
use Rattle.promql_label.specs.Answers.{Answer, built}
use Rattle.promql_label.specs.PlainMatchers.{matches, matches_not, PlainMatcher, plain_matcher}

abbrev pub IsAnswered : (Text → Answer) → PlainMatcher → Type 0
IsAnswered g (plain_matcher (matches w) name value) = g value ≡ built w
IsAnswered g (plain_matcher (matches_not w) name value) = g value ≡ built w
IsAnswered g _ = Unit {0}
