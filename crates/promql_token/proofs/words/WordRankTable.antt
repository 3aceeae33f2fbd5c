-- The table of words' bytes has the rank of each byte, and what is in a list of numbers that count up.
use Rattle.std.proofs.Common.{◌≡◌, ℕ, zero, suc, ◌+◌, ◌<◌, map, get_or, refl, ap, ◌∙◌, arith}
use Rattle.promql_token.specs.declared.class.TheConstants.{WORD_BYTES}
use Rattle.promql_token.specs.WordRanks.{count_up, word_rank}

at_count : (f : ℕ → ℕ) (k n b : ℕ) → b < n → get_or (map f (count_up k n)) b 0 ≡ f (k + b)
at_count f k zero b below = absurd (omega arith)
at_count f k (suc n) zero below = ap f {x = k} {y = k + 0} (omega arith)
at_count f k (suc n) (suc b) below = at_count f (k + 1) n b (omega arith) ∙ ap f {x = k + 1 + b} {y = k + suc b} (omega arith)

-- the numbers from 0 on, by their places
pub counted : (n b : ℕ) → b < n → get_or (count_up 0 n) b 0 ≡ b
counted n b below = from 0 n b below ∙ (let e : 0 + b ≡ b = omega arith in e)
  where
    from : (k n b : ℕ) → b < n → get_or (count_up k n) b 0 ≡ k + b
    from k zero b below = absurd (omega arith)
    from k (suc n) zero below = omega arith
    from k (suc n) (suc b) below = from (k + 1) n b (omega arith) ∙ (let e : k + 1 + b ≡ k + suc b = omega arith in e)

table_is : WORD_BYTES ≡ map word_rank (count_up 0 256)
table_is = refl

pub word_ranks : (b : ℕ) → b < 256 → get_or WORD_BYTES b 0 ≡ word_rank b
word_ranks b below = ap (λ table. get_or table b 0) table_is ∙ at_count word_rank 0 256 b below ∙ ap word_rank {x = 0 + b} {y = b} (omega arith)
