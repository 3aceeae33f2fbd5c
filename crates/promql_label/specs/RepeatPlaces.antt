-- Where the escaped form of a pattern has its backslashes (docs/reference/matchers.md, "Repetitions").
use Rattle.std.specs.Prelude.{ℕ, zero, suc, ◌+◌, ◌%◌, Bool, not, ◌&&◌, ◌==◌, if◌then◌else◌, [], ◌∷◌, ◌++◌, drop, reverse, slice_index, take}
use Rattle.std.specs.List.{prefix_len}
use Rattle.promql_text.specs.Texts.{Text, code}
use Rattle.promql_label.specs.Repeats.{is_literal_brace}

-- how many backslashes come directly before the place k
abbrev pub backslashes_before : Text → ℕ → ℕ
backslashes_before z k = prefix_len (λ b. b == code "\\") (reverse (take k z))

-- they are an odd number, so the last of them takes the byte at k
abbrev pub is_taken : Text → ℕ → Bool
is_taken z k = backslashes_before z k % 2 == 1

-- the byte at k is a `{` that no backslash takes and after which no count comes
abbrev pub is_loose_at : Text → ℕ → Bool
is_loose_at z k = not (is_taken z k) && is_literal_brace (slice_index z k) (drop (k + 1) z)

-- the byte at k, with a backslash before it if it is such a brace
abbrev pub byte_at : Text → ℕ → Text
byte_at z k = (if is_loose_at z k then code "\\" ∷ [] else []) ++ slice_index z k ∷ []

-- so for n places, from k on
abbrev pub bytes_from : Text → ℕ → ℕ → Text
bytes_from z k zero = []
bytes_from z k (suc n) = byte_at z k ++ bytes_from z (k + 1) n
