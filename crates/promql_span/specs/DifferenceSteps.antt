-- Matchers by their tokens, as the code has them. Private: nothing rests on believing it.
use Rattle.std.specs.Prelude.{Bool}
use Rattle.promql_text.specs.Texts.{Text}
use Rattle.promql_span.specs.declared.differences.Matched.{Matched}

abbrev pub matched : Matched → Text × Bool
matched m = (m.label.now, m.is_equal)
