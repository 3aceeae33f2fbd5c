use Rattle.std.proofs.Common.{◌≡◌, ◌++◌, length, true}
use Rattle.std.specs.Prelude.{option_map}
use Rattle.std.specs.String.{string_bytes}
use Rattle.std.specs.Str.Iter.{chars_rest}
use Rattle.promql_text.specs.Quoting.{is_quote, inside, unquoted_text}
use Rattle.promql_text.proofs.quote.unquote.Given as goal

-- what is written, and what is left is for
abbrev pub invariant-loop-c : goal.invariant-loop-c
invariant-loop-c l =
    (unquoted_text l.s ≡ option_map (λ more. string_bytes l.out ++ more) (inside l.quote 0 (chars_rest l.rest)))
    × (is_quote l.quote ≡ true)

abbrev pub decreases-loop-c : goal.decreases-loop-c
decreases-loop-c l = length (chars_rest l.rest)
