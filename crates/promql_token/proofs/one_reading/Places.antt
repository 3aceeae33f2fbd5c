-- Places between characters: the front, the end, or after an ASCII byte.
use Rattle.std.proofs.Common.{◌≡◌, ℕ, zero, suc, ◌+◌, ◌-◌, ◌<◌, ◌≤◌, Bool, true, false, not, cond, [], ◌∷◌, length, get_or, drop, IsUtf8, refl, sym, ap, ◌∙◌, subst, inl, inr, ◌⊎◌, ⊎_elim, add-one, arith, lit<, length-drop, get_or-drop, below_more}
use Rattle.std.specs.Prelude.{◌==◌}
use Rattle.std.specs.Char.{is_ascii_whitespace}
use Rattle.std.specs.List.{prefix_len}
use Rattle.std.specs.Str.{IsCharBoundary}
use Rattle.std.proofs.lemmas.Bool.{cond_both}
use Rattle.std.proofs.lemmas.Grind.{common_steps}
use Rattle.std.proofs.lemmas.List.{get_or_past}
use Rattle.std.proofs.str.Laws.{order}
use Rattle.std.proofs.lemmas.List.Sums.{prefix_len_passes, prefix_len-le-length}
use Rattle.std.proofs.lemmas.Str.{IsCharBoundary-start, IsCharBoundary-end, IsCharBoundary-after_ascii}
use Rattle.promql_token.specs.declared.class.Class.{Class}
use Rattle.promql_token.specs.declared.class.Class.TheVariants as class
use Rattle.promql_token.specs.declared.state.Mode.{Mode}
use Rattle.promql_token.specs.declared.state.Mode.TheVariants as mode
use Rattle.promql_text.specs.Texts.{Text}
use Rattle.promql_token.specs.Classes.{is_in, end_of_run}
use Rattle.promql_token.specs.TokenScanning.{trivia_from, trivia_in, trivia_len, is_line_end}

-- n is the front, the end, or after an ASCII byte
pub record Ends (z : Text) (n : ℕ) : Type 0 where
  pub within : n ≤ length z
  pub last : (n ≡ 0) ⊎ ((n ≡ length z) ⊎ ((k : ℕ) × (n ≡ suc k) × (get_or z k 0 < 128)))

pub boundary : (z : Text) (n : ℕ) → IsUtf8 z → Ends z n → IsCharBoundary z n
boundary z n u e =
    ⊎_elim (λ front. subst (IsCharBoundary z) (sym front) (IsCharBoundary-start z u))
    (λ other. ⊎_elim (λ full. subst (IsCharBoundary z) (sym full) (IsCharBoundary-end z))
    (λ low. let within = e.within in let is = low.1 in subst (IsCharBoundary z) (add-one low.0 ∙ sym is) (IsCharBoundary-after_ascii z low.0 u (omega arith) low.2)) other)
    e.last

pub front : (z : Text) → Ends z 0
front z = record { within = omega arith; last = inl refl }

pub ends_after_low : (z : Text) (at : ℕ) → at < length z → get_or z at 0 < 128 → Ends z (at + 1)
ends_after_low z at h low = record { within = omega arith; last = inr (inr (at, add-one at, low)) }

pub low_eq : (b n : ℕ) → (b == n) ≡ true → n < 128 → b < 128
low_eq b n h low = grind (arith, common_steps)

-- ---- trivia

-- a byte before the end
pub ends_cons : (b : ℕ) (z : Text) (n : ℕ) → Ends z n → (n ≡ 0 → (length z ≡ 0) ⊎ (b < 128)) → Ends (b ∷ z) (suc n)
ends_cons b z n e h = record {
  within = let within = e.within in omega arith;
  last = ⊎_elim
      (λ front. ⊎_elim (λ none. inr (inl (ap suc (front ∙ sym none)))) (λ low. inr (inr (n, refl, let is : get_or (b ∷ z) n 0 ≡ b = ap (λ k. get_or (b ∷ z) k 0) front in omega arith))) (h front))
      (λ other. ⊎_elim (λ full. inr (inl (ap suc full))) (λ low. inr (inr (suc low.0, ap suc low.1, low.2))) other)
      e.last;
}

in_comment : (z : Text) → trivia_from true z ≡ 0 → length z ≡ 0
in_comment [] h = refl
in_comment (b ∷ z) h = absurd (omega arith)

line_end_low : (b : ℕ) → is_line_end b ≡ true → b < 128
line_end_low b h = grind (arith, common_steps)

space_low : (b : ℕ) → is_ascii_whitespace b ≡ true → b < 128
space_low b h = grind (arith, common_steps)

after_comment_byte : (b : ℕ) (z : Text) → trivia_from (not (is_line_end b)) z ≡ 0 → (length z ≡ 0) ⊎ (b < 128)
after_comment_byte b z = cases (is_line_end b) refl
  where
    cases : (e : Bool) → is_line_end b ≡ e → trivia_from (not e) z ≡ 0 → (length z ≡ 0) ⊎ (b < 128)
    cases true is h = inr (line_end_low b is)
    cases false is h = inl (in_comment z h)

pub trivia_from_ends : (c : Bool) (z : Text) → Ends z (trivia_from c z)
trivia_from_ends c [] = front []
trivia_from_ends true (b ∷ z) = ends_cons b z _ (trivia_from_ends (not (is_line_end b)) z) (after_comment_byte b z)
trivia_from_ends false (b ∷ z) =
    cond_both (b == 35) _ _ (Ends (b ∷ z))
    (λ hash. ends_cons b z _ (trivia_from_ends true z) (λ _. inr (low_eq b 35 hash (lit< tt))))
    (λ _. cond_both (is_ascii_whitespace b) _ _ (Ends (b ∷ z))
    (λ space. ends_cons b z _ (trivia_from_ends false z) (λ _. inr (space_low b space)))
    (λ _. front (b ∷ z)))

-- ---- runs of ASCII bytes

pub record IsAsciiRun (z : Text) (n : ℕ) : Type 0 where
  pub within : n ≤ length z
  pub low : (k : ℕ) → k < n → get_or z k 0 < 128

pub run_ends : (z : Text) (n : ℕ) → IsAsciiRun z n → Ends z n
run_ends z zero r = front z
run_ends z (suc n) r = record { within = r.within; last = inr (inr (n, refl, r.low n (omega arith))) }

pub no_run : (z : Text) → IsAsciiRun z 0
no_run z = record { within = omega arith; low = λ k h. absurd (omega arith) }

low_in : (c : Class) (b : ℕ) → is_in c b ≡ true → b < 128
low_in class.White b h = grind (arith, common_steps)
low_in class.Digit b h = grind (arith, common_steps)
low_in class.HexDigit b h = grind (arith, common_steps)
low_in class.Name b h = grind (arith, common_steps)
low_in class.Word b h = grind (arith, common_steps)

-- bytes of one class go on a run
pub past_run : (c : Class) (z : Text) (at : ℕ) → IsAsciiRun z at → IsAsciiRun z (end_of_run c z at)
past_run c z at r = record {
  within = let within = r.within in omega (arith, prefix_len-le-length (is_in c) (drop at z), length-drop at z);
  low = λ k h. ⊎_elim (r.low k)
      (λ (end_of_run : at ≤ k). let i : k - at < prefix_len (is_in c) (drop at z) = omega arith in let is : at + (k - at) ≡ k = omega arith in
      low_in c _ (subst (λ j. is_in c (get_or z j 0) ≡ true) is (ap (is_in c) (sym (get_or-drop at z (k - at) 0)) ∙ prefix_len_passes (is_in c) (drop at z) (k - at) 0 i)))
      (order k at);
}

-- so does one ASCII byte that is not NUL
pub one_more : (z : Text) (at : ℕ) → IsAsciiRun z at → get_or z at 0 < 128 → 0 < get_or z at 0 → IsAsciiRun z (at + 1)
one_more z at r low some = record {
  within = let within = r.within in ⊎_elim (λ below. omega arith) (λ (over : length z ≤ at). absurd (omega (arith, get_or_past z at 0 over))) (order at (length z));
  low = below_more _ at r.low low;
}

-- a byte of the class is counted
pub past_moves : (c : Class) (z : Text) → 0 < length z → is_in c (get_or z 0 0) ≡ true → 0 < end_of_run c z 0
past_moves c [] h passes = absurd (omega arith)
past_moves c (b ∷ z) h passes = subst (λ t. 0 < 0 + cond t (1 + prefix_len (is_in c) z) 0) (sym passes) (omega arith)

trivia_ends : (m : Mode) (z : Text) → Ends z (trivia_in m z)
trivia_ends mode.Outside z = trivia_from_ends false z
trivia_ends mode.Braces z = trivia_from_ends false z
trivia_ends (mode.Brackets inside) z = run_ends z _ (past_run class.White z 0 (no_run z))

pub trivia_len_ends : (m : Mode) (z : Text) → Ends z (trivia_len m z)
unfolding trivia_len
trivia_len_ends m z = trivia_ends m z
