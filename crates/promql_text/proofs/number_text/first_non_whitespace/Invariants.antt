use Rattle.std.proofs.Common.{◌≡◌, length}
use Rattle.std.specs.Str.{IsUtf8}
use Rattle.std.specs.Str.Iter.{chars_rest}
use Rattle.promql_text.specs.NumberText.{without_whitespace}
use Rattle.promql_text.proofs.number_text.first_non_whitespace.Given as goal

abbrev pub invariant-loop-c : goal.invariant-loop-c
invariant-loop-c l = (without_whitespace (chars_rest l.chars) ≡ without_whitespace l.text) × IsUtf8 (chars_rest l.chars)

abbrev pub decreases-loop-c : goal.decreases-loop-c
decreases-loop-c l = length (chars_rest l.chars)
