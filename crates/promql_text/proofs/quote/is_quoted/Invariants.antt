use Rattle.std.proofs.Common.{◌≡◌, length, true}
use Rattle.std.specs.Prelude.{is_some}
use Rattle.std.specs.Str.Iter.{chars_rest}
use Rattle.promql_text.specs.Quoting.{is_quote, inside, unquoted_text}
use Rattle.promql_text.proofs.quote.is_quoted.Given as goal

-- the text is quoted exactly if what is left closes it
abbrev pub invariant-loop-c : goal.invariant-loop-c
invariant-loop-c l =
    (is_some (unquoted_text l.s) ≡ is_some (inside l.quote 0 (chars_rest l.rest)))
    × (is_quote l.quote ≡ true)

abbrev pub decreases-loop-c : goal.decreases-loop-c
decreases-loop-c l = length (chars_rest l.rest)
