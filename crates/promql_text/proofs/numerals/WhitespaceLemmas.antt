-- Texts without their white space.
use Rattle.std.proofs.Common.{◌≡◌, ℕ, ◌≤◌, Bool, true, false, not, cond, ◌&&◌, ◌<◌, List, [], ◌∷◌, ◌++◌, length, arith, refl, ap, ◌∙◌}
use Rattle.std.specs.Char.{encode_utf8, is_whitespace, is_not_whitespace}
use Rattle.std.specs.List.{filter, list_all}
use Rattle.std.specs.Str.{IsAscii, IsUtf8, chars}
use Rattle.std.proofs.lemmas.Bool.Decides.{nat_tests}
use Rattle.std.proofs.lemmas.Str.{chars-nil, chars_past_char, chars-IsAscii, encodes-chars, length-le-encodes}
use Rattle.std.proofs.lemmas.Str.Ascii.{IsAscii-nil, IsAscii-cons}
use Rattle.promql_text.specs.Texts.{Text}
use Rattle.promql_text.specs.NumberText.{is_visible, without_whitespace}

pub kept_char : (bs rest : Text) (c : ℕ) → IsUtf8 bs → bs ≡ encode_utf8 c ++ rest → is_whitespace c ≡ false → without_whitespace bs ≡ c ∷ without_whitespace rest
kept_char bs rest c utf8 is plain = ap (filter is_not_whitespace) (chars_past_char bs rest c utf8 is) ∙ ap (λ b. cond (not b) (c ∷ without_whitespace rest) (without_whitespace rest)) plain

pub kept_white : (bs rest : Text) (c : ℕ) → IsUtf8 bs → bs ≡ encode_utf8 c ++ rest → is_whitespace c ≡ true → without_whitespace bs ≡ without_whitespace rest
kept_white bs rest c utf8 is white = ap (filter is_not_whitespace) (chars_past_char bs rest c utf8 is) ∙ ap (λ b. cond (not b) (c ∷ without_whitespace rest) (without_whitespace rest)) white

pub kept_end : (bs : Text) → length bs ≡ 0 → without_whitespace bs ≡ []
kept_end [] end = ap (filter is_not_whitespace) chars-nil
kept_end (b ∷ bs) end = absurd (omega arith)

filter_at : (b : Bool) (x : ℕ) (xs ys : List ℕ) → length ys ≤ length xs → length (cond b (x ∷ ys) ys) ≤ length (x ∷ xs)
filter_at true x xs ys short = omega arith
filter_at false x xs ys short = omega arith

filter_short : (p : ℕ → Bool) (xs : List ℕ) → length (filter p xs) ≤ length xs
filter_short p [] = omega arith
filter_short p (x ∷ xs) = filter_at (p x) x xs (filter p xs) (filter_short p xs)

pub kept_short : (bs : Text) → IsUtf8 bs → length (without_whitespace bs) ≤ length bs
kept_short bs utf8 =
    let kept_chars = filter_short is_not_whitespace (chars bs) in
    let few = length-le-encodes (chars bs) in
    omega (arith, kept_chars, few, ap length (encodes-chars bs utf8))

visible_char : (c : ℕ) → is_visible c ≡ true → (c < 128) × (is_not_whitespace c ≡ true)
visible_char c seen = grind (arith, nat_tests)

visible_kept : (s : Text) → list_all is_visible s ≡ true → IsAscii s × (filter is_not_whitespace s ≡ s)
visible_kept [] all = (IsAscii-nil, refl)
visible_kept (c ∷ s) all = go (is_visible c) refl all (visible_kept s)
  where
    go : (b : Bool) → is_visible c ≡ b → (b && list_all is_visible s) ≡ true → (list_all is_visible s ≡ true → IsAscii s × (filter is_not_whitespace s ≡ s))
        → IsAscii (c ∷ s) × (filter is_not_whitespace (c ∷ s) ≡ c ∷ s)
    go true seen more later =
        let own = visible_char c seen in
        let rest = later more in
        (IsAscii-cons c s own.0 rest.0, ap (λ b. cond b (c ∷ filter is_not_whitespace s) (filter is_not_whitespace s)) own.1 ∙ ap (λ z. c ∷ z) rest.1)
    go false seen more later = cc

pub visible_whole : (s : Text) → list_all is_visible s ≡ true → without_whitespace s ≡ s
visible_whole s all =
    let kept = visible_kept s all in
    ap (filter is_not_whitespace) (chars-IsAscii s kept.0) ∙ kept.1
