use Rattle.std.proofs.Common.{◌≡◌, ◌++◌, ◌∷◌, replicate, string_bytes}
use Rattle.promql_text.specs.Texts.{code}
use Rattle.promql_span.proofs.snippets.push_mark.Given as goal

-- the mark so far
abbrev pub invariant-loop-at : goal.invariant-loop-at
invariant-loop-at l = string_bytes l.out ≡ string_bytes l.fn.out ++ code "^" ∷ replicate l._at (code "~")
