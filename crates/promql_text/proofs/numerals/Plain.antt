-- Texts of digits, points and minus signs.
use Rattle.std.proofs.Common.{◌≡◌, ℕ, zero, suc, ◌<◌, Bool, true, false, not, cond, ◌||◌, [], ◌∷◌, ◌++◌, arith, ap, ◌∙◌, refl}
use Rattle.std.specs.Prelude.{◌==◌}
use Rattle.std.specs.Char.{digit_value, is_ascii_digit, is_whitespace, is_not_whitespace}
use Rattle.std.specs.List.{filter, list_any}
use Rattle.std.specs.Str.{IsAscii}
use Rattle.std.specs.Str.Parse.{AllDigits}
use Rattle.std.proofs.lemmas.Bool.Decides.{nat_tests}
use Rattle.std.proofs.lemmas.Str.{chars-IsAscii}
use Rattle.std.proofs.lemmas.Str.Parse.{digit_from_value}
use Rattle.promql_text.specs.Texts.{Text}
use Rattle.promql_text.specs.NumberText.{without_whitespace, is_x, is_past_octal}
use Rattle.promql_text.proofs.numerals.TextForms.{with_sign}

abbrev pub is_plain : ℕ → Bool
is_plain c = is_ascii_digit c || (c == 45 || c == 46)

abbrev pub AllPlain : Text → Type 0
AllPlain [] = Unit {0}
AllPlain (c ∷ cs) = (is_plain c ≡ true) × AllPlain cs

pub plain_append : (xs ys : Text) → AllPlain xs → AllPlain ys → AllPlain (xs ++ ys)
plain_append [] ys left right = right
plain_append (x ∷ xs) ys left right = (left.0, plain_append xs ys left.1 right)

plain_digit : (c : ℕ) → digit_value c < 10 → is_plain c ≡ true
plain_digit c below = let h = digit_from_value c below in grind (arith, nat_tests)

pub plain_digits : (ds : Text) → AllDigits 10 ds → AllPlain ds
plain_digits [] digits = tt
plain_digits (c ∷ cs) digits = (plain_digit c digits.0, plain_digits cs digits.1)

-- ---- they are kept, and hold no `x`

plain_low : (c : ℕ) → is_plain c ≡ true → c < 128
plain_low c plain = grind (arith, nat_tests)

plain_seen : (c : ℕ) → is_plain c ≡ true → is_whitespace c ≡ false
plain_seen c plain = grind (arith, nat_tests)

plain_no_x : (c : ℕ) → is_plain c ≡ true → is_x c ≡ false
plain_no_x c plain = grind (arith, nat_tests)

plain_ascii : (t : Text) → AllPlain t → IsAscii t
plain_ascii [] plain i = omega arith
plain_ascii (c ∷ cs) plain zero = plain_low c plain.0
plain_ascii (c ∷ cs) plain (suc i) = plain_ascii cs plain.1 i

plain_filter : (t : Text) → AllPlain t → filter is_not_whitespace t ≡ t
plain_filter [] plain = refl
plain_filter (c ∷ cs) plain =
    ap (λ b. cond (not b) (c ∷ filter is_not_whitespace cs) (filter is_not_whitespace cs)) (plain_seen c plain.0)
    ∙ ap (λ z. c ∷ z) (plain_filter cs plain.1)

pub kept_plain : (t : Text) → AllPlain t → without_whitespace t ≡ t
kept_plain t plain = ap (filter is_not_whitespace) (chars-IsAscii t (plain_ascii t plain)) ∙ plain_filter t plain

pub plain_holds_no_x : (t : Text) → AllPlain t → list_any is_x t ≡ false
plain_holds_no_x [] plain = refl
plain_holds_no_x (c ∷ cs) plain = ap (λ b. b || list_any is_x cs) (plain_no_x c plain.0) ∙ plain_holds_no_x cs plain.1

-- ---- a point among them

or_true : (b : Bool) → (b || true) ≡ true
or_true true = refl
or_true false = refl

pub holds_point : (xs ys : Text) → list_any is_past_octal (xs ++ (46 ∷ ys)) ≡ true
holds_point [] ys = refl
holds_point (x ∷ xs) ys = ap (λ b. is_past_octal x || b) (holds_point xs ys) ∙ or_true (is_past_octal x)

-- ---- a sign in front

pub plain_signed : (b : Bool) (t : Text) → AllPlain t → AllPlain (with_sign b t)
plain_signed true t plain = (refl, plain)
plain_signed false t plain = plain

pub point_signed : (b : Bool) (xs ys : Text) → list_any is_past_octal (with_sign b (xs ++ (46 ∷ ys))) ≡ true
point_signed true xs ys = holds_point xs ys
point_signed false xs ys = holds_point xs ys
