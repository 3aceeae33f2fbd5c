-- The parts of the measure of a pattern (private: nothing rests on believing it).
use Rattle.std.specs.Prelude.{ℕ, ◌+◌, ◌==◌, length, not, take_while}
use Rattle.promql_text.specs.Texts.{Text, code}
use Rattle.promql_label.specs.PatternMeasure.{class_weight}

-- the bytes of the anchored text, and what its classes weigh
abbrev pub weight : Text → ℕ
weight v = length v + 6 + class_weight v

-- how many bytes come before the first `{`
abbrev pub brace_place : Text → ℕ
brace_place v = length (take_while (λ b. not (b == code "{")) v)
