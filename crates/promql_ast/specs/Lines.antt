-- Lines, and what a layout keeps of one (docs/reference/printing.md, "Lines").
use Rattle.std.specs.Prelude.{◌≡◌, ◌<◌, ◌≤◌, ◌*◌, ◌++◌, ◌⊎◌, Err, ℕ, zero, suc, ◌==◌, nat_lt, not, ◌&&◌, Bool, [], ◌∷◌, Option, Result, IfSome, IfOk, IsTrue, String, string_bytes}
use Rattle.std.specs.List.{filter}
use Rattle.std.specs.declared.alloc.Global.{Global}
use Rattle.promql_text.specs.Texts.{Text, code}
use Rattle.promql_text.specs.PrintedLen.{usize_max, printed_len}

-- the line has more bytes than `most`
abbrev pub is_longer : ℕ → Text → Bool
is_longer most line = nat_lt most (printed_len line)

-- `needs_split` may say this of the line: that it is too long, only where it is; or what the implementation's own may say
abbrev pub MaySplit : Option Text → ℕ → (Bool → Type 0) → Bool → Type 0
MaySplit line most own split = IfSome line (λ t. (IsTrue split → IsTrue (is_longer most t)) ⊎ own split)

-- two spaces a level
abbrev pub indent : ℕ → Text
indent zero = []
indent (suc n) = code " " ∷ code " " ∷ indent n

-- the text without spaces and line feeds
abbrev pub squeeze : Text → Text
squeeze t = filter (λ b. not (b == code " ") && not (b == code "\n")) t

-- the one line, indented; `too_wide` only where the indentation has more bytes than a `usize` counts
abbrev pub IsLine : {E : Type 0} → Option Text → ℕ → E → Result (String Global) E → Type 0
IsLine line level too_wide result =
    IfSome line (λ t. IfOk result (λ s. string_bytes s ≡ indent level ++ t)) × (result ≡ Err too_wide → usize_max < 2 * level) × IfOk result (λ s. 2 * level ≤ usize_max)

-- the layout of the line changes nothing else
abbrev pub Keeps : {E : Type 0} → Option Text → Result (String Global) E → Type 0
Keeps line result = IfSome line (λ t. IfOk result (λ s. squeeze (string_bytes s) ≡ squeeze t))
