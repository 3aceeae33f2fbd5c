-- The sizes and weights of plain patterns (docs/reference/matchers.md, "Sizes of plain patterns").
use Rattle.std.specs.Prelude.{ℕ, ◌+◌, ◌*◌, ◌==◌, if◌then◌else◌, [], ◌∷◌, length}
use Rattle.regex.specs.Patterns.{Re}
use Rattle.promql_text.specs.Texts.{Text, code}
use Rattle.promql_label.specs.declared.plain.After.{After}
use Rattle.promql_label.specs.declared.plain.After.TheVariants as after
use Rattle.promql_label.specs.declared.plain.Scan.{Scan}
use Rattle.promql_label.specs.PlainPatterns.{next, start}

-- f, times one more than the greatest number of the count that the byte ends, if it ends one
abbrev pub times : After → ℕ → ℕ → ℕ
times (after.Least n) b f = if b == code "}" then (1 + n) * f else f
times (after.Comma n) b f = if b == code "}" then (1 + n) * f else f
times (after.Most least n) b f = if b == code "}" then (1 + n) * f else f
times _ b f = f

-- how often a part of the rest of a plain pattern can be repeated: those numbers of all its counts, multiplied
abbrev pub repeats_from : Scan → Text → ℕ
repeats_from scan [] = 1
repeats_from scan (b ∷ z) = times scan.after b (repeats_from (next scan b) z)

-- the bytes of the anchored text, so often
abbrev pub size : Text → ℕ
size v = (length v + 6) * repeats_from start v

-- what the grammar reads weighs as many bytes, classes and assertions as it has, each as often as it is repeated
abbrev pub weight : Re → ℕ
weight Re.empty = 0
weight (Re.cat a b) = weight a + weight b
weight (Re.alt a b) = weight a + weight b
weight (Re.group n a) = weight a
weight (Re.plus greedy a) = weight a
weight _ = 1
