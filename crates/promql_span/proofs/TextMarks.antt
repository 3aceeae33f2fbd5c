-- What `contains` and `is_ascii` tell of a text.
use Rattle.std.proofs.Common.{◌≡◌, ℕ, suc, ◌≤◌, ◌<◌, refl, sym, ◌∙◌, ap, Bool, true, false, MatchBool, arith, ◌||◌, [], ◌∷◌, ◌++◌, length, take, drop, take-append-drop, append-nil, ◌↔◌}
use Rattle.std.specs.Prelude.{bytes_eq, nat_le, not, slice_index}
use Rattle.std.specs.List.{list_any}
use Rattle.std.specs.Str.{IsAscii, IsNotAscii}
use Rattle.std.specs.Str.Iter.{HasSubslice}
use Rattle.std.proofs.lemmas.Bool.Decides.{nat_tests}
use Rattle.std.proofs.lemmas.Slice.Eq.{bytes_eq-Decides}
use Rattle.std.proofs.Math.Bool.{or-true}
use Rattle.promql_text.specs.Texts.{Text}
use Rattle.promql_span.specs.QueryMarks.{has_text}
use Rattle.promql_span.proofs.WithoutMarks.{ascii_text}

same : (a b : Bool) → (a ≡ true → b ≡ true) → (b ≡ true → a ≡ true) → a ≡ b
same true b there back = sym (there refl)
same false true there back = back refl
same false false there back = refl

-- ---- a text that stands in another one

bytes_same : (w : Text) → bytes_eq w w ≡ true
bytes_same w = (bytes_eq-Decides w w).1 refl

front_taken : (w r : Text) → take (length w) (w ++ r) ≡ w
front_taken [] r = refl
front_taken (b ∷ w) r = ap (λ z. b ∷ z) (front_taken w r)

begins : (w r : Text) → has_text w (w ++ r) ≡ true
begins [] [] = refl
begins [] (b ∷ r) = refl
begins (b ∷ w) r =
    ap (λ z. bytes_eq z (b ∷ w) || has_text (b ∷ w) (w ++ r)) (front_taken (b ∷ w) r) ∙ ap (λ a. a || has_text (b ∷ w) (w ++ r)) (bytes_same (b ∷ w))

found_after : (w a r : Text) → has_text w (a ++ (w ++ r)) ≡ true
found_after w [] r = begins w r
found_after w (b ∷ a) r = ap (λ x. bytes_eq (take (length w) (b ∷ (a ++ (w ++ r)))) w || x) (found_after w a r) ∙ or-true _

found_in : (w s : Text) → HasSubslice s w → has_text w s ≡ true
found_in w s is = ap (has_text w) is.2 ∙ found_after w is.0 is.1

stands_in : (w s : Text) → has_text w s ≡ true → HasSubslice s w
stands_in w [] is = ([], [], (bytes_eq-Decides [] w).0 is ∙ sym (append-nil w))
stands_in w (b ∷ s) is = go (bytes_eq (take (length w) (b ∷ s)) w) refl is (stands_in w s)
  where
    go : (a : Bool) → bytes_eq (take (length w) (b ∷ s)) w ≡ a → a || has_text w s ≡ true → (has_text w s ≡ true → HasSubslice s w) → HasSubslice (b ∷ s) w
    go true front is rest = ([], drop (length w) (b ∷ s), sym (take-append-drop (length w) (b ∷ s)) ∙ ap (λ z. z ++ drop (length w) (b ∷ s)) ((bytes_eq-Decides _ w).0 front))
    go false other is rest = let later = rest is in (b ∷ later.0, later.1, ap (λ z. b ∷ z) later.2)

pub has_text_if : (w s : Text) (r : Bool) → (r ≡ true) ↔ HasSubslice s w → r ≡ has_text w s
has_text_if w s r told = same r (has_text w s) (λ is. found_in w s (told.0 is)) (λ is. told.1 (stands_in w s is))

-- ---- bytes past ASCII

below : (b : ℕ) → b < 128 → nat_le 128 b ≡ false
below b small = grind (arith, nat_tests)

none_past : (s : Text) → IsAscii s → list_any (nat_le 128) s ≡ false
none_past [] ascii = refl
none_past (b ∷ s) ascii = ap (λ a. a || list_any (nat_le 128) s) (below b (ascii 0)) ∙ none_past s (λ i. ascii (suc i))

too_small : (n : ℕ) → n < 128 → 128 ≤ n → ⊥
too_small n small large = omega (arith, small, large)

pub past_ascii_if : (s : Text) (r : Bool) → MatchBool r (IsAscii s) (IsNotAscii s) → not r ≡ list_any (nat_le 128) s
past_ascii_if s true ascii = sym (none_past s ascii)
past_ascii_if s false past = go (list_any (nat_le 128) s) refl
  where
    go : (b : Bool) → list_any (nat_le 128) s ≡ b → true ≡ b
    go true is = refl
    go false none = absurd (too_small (slice_index s past.0) (ascii_text s none past.0) past.1)
