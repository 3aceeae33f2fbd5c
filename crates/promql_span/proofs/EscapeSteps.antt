-- The first escape of a text, byte by byte.
use Rattle.std.proofs.Common.{◌≡◌, ℕ, ◌+◌, ◌≤◌, Bool, true, false, not, ◌&&◌, ◌==◌, [], ◌∷◌, length, Option, None, Some, IfSome, cond, refl, sym, ap, true≢false, arith}
use Rattle.promql_text.specs.Texts.{Text, code}
use Rattle.promql_span.specs.ByteEscapes.{first_escape, is_byte_escape}

not_both : (a : Bool) → false ≡ a && false
not_both true = refl
not_both false = refl

-- where no escape begins with a byte, the first one is that of the rest
pub after_byte : (escaped : Bool) (at b : ℕ) (z : Text) → ((b == code "\\" && not escaped) && is_byte_escape z) ≡ false
    → first_escape escaped at (b ∷ z) ≡ first_escape (b == code "\\" && not escaped) (at + 1) z
after_byte true at b z none = ap (λ e. first_escape e (at + 1) z) (not_both (b == code "\\"))
after_byte false at b z none = go (b == code "\\") (is_byte_escape z) none
  where
    go : (a e : Bool) → ((a && true) && e) ≡ false → cond (a && e) (Some at) (first_escape a (at + 1) z) ≡ first_escape (a && true) (at + 1) z
    go true true h = absurd (true≢false h)
    go true false h = refl
    go false e h = refl

-- ---- an escape is within its text

both_true : (a b : Bool) → (a && b) ≡ true → b ≡ true
both_true true b h = h
both_true false b h = absurd (true≢false (sym h))

three_follow : (z : Text) → is_byte_escape z ≡ true → 3 ≤ length z
three_follow [] h = absurd (true≢false (sym h))
three_follow (b ∷ []) h = absurd (true≢false (sym h))
three_follow (b ∷ c ∷ []) h = absurd (true≢false (sym h))
three_follow (b ∷ c ∷ d ∷ z) h = omega arith

later : (at : ℕ) (z : Text) (o : Option ℕ) → IfSome o (λ a. a + 4 ≤ at + 1 + length z) → (b : ℕ) → IfSome o (λ a. a + 4 ≤ at + length (b ∷ z))
later at z None h b = tt
later at z (Some a) h b = omega (arith, h)

pub found_within : (escaped : Bool) (at : ℕ) (z : Text) → IfSome (first_escape escaped at z) (λ a. a + 4 ≤ at + length z)
found_within escaped at [] = tt
found_within true at (b ∷ z) = later at z _ (found_within false (at + 1) z) b
found_within false at (b ∷ z) = go (b == code "\\" && is_byte_escape z) refl (later at z _ (found_within (b == code "\\") (at + 1) z) b)
  where
    go : (e : Bool) → (b == code "\\" && is_byte_escape z) ≡ e → IfSome (first_escape (b == code "\\") (at + 1) z) (λ a. a + 4 ≤ at + length (b ∷ z))
        → IfSome (cond e (Some at) (first_escape (b == code "\\") (at + 1) z)) (λ a. a + 4 ≤ at + length (b ∷ z))
    go true is h = omega (arith, three_follow z (both_true (b == code "\\") (is_byte_escape z) is))
    go false is h = h
