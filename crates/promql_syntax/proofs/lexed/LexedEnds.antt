-- What may follow an expression ends words, numbers and operators.
use Rattle.std.proofs.Common.{◌≡◌, ⊎_elim, ℕ, refl, sym, subst, Bool, true, false, not, List, [], ◌∷◌, eqb-true}
use Rattle.std.specs.Prelude.{◌==◌, slice_index}
use Rattle.std.specs.List.{list_any}
use Rattle.promql_text.specs.Texts.{Text}
use Rattle.promql_token.specs.Laws.{stops_numeral}
use Rattle.promql_token.specs.TokenScanning.{opens}
use Rattle.promql_syntax.proofs.parsing.Booleans.{and_cases, not_true, or_cases}
use Rattle.promql_syntax.proofs.lexed.Lexes.{ends_word, is_break, is_clear}

-- what holds of each number of a list
abbrev pub All : (ℕ → Type 0) → List ℕ → Type 0
All P [] = Unit {0}
All P (n ∷ ns) = P n × All P ns

-- holds of one that is among them
pub among : (P : ℕ → Type 0) (ns : List ℕ) (n : ℕ) → All P ns → list_any (λ k. n == k) ns ≡ true → P n
among P [] n all is = cc
among P (k ∷ ns) n all is = ⊎_elim (λ h. subst P (sym (eqb-true n k h)) all.0) (λ h. among P ns n all.1 h) (or_cases (n == k) (list_any (λ k. n == k) ns) is)

-- a test of the first byte that all of these pass
module _ (test : Text → Bool) (none : test [] ≡ true) (each : (z : Text) → All (λ b. test (b ∷ z) ≡ true) (10 ∷ 32 ∷ 41 ∷ 44 ∷ 91 ∷ [])) where
  clear_passes : (r : Text) → is_clear r ≡ true → test r ≡ true
  clear_passes [] clear = none
  clear_passes (b ∷ r) clear = among (λ b. test (b ∷ r) ≡ true) (10 ∷ 32 ∷ 41 ∷ 44 ∷ 91 ∷ []) b (each r) (and_cases (is_break b) _ clear).0

pub clear_stops : (w r : Text) → is_clear r ≡ true → stops_numeral w r ≡ true
clear_stops w = clear_passes (stops_numeral w) refl (λ z. (refl, (refl, (refl, (refl, (refl, tt))))))

pub clear_ends : (r : Text) → is_clear r ≡ true → ends_word r ≡ true
clear_ends = clear_passes ends_word refl (λ z. (refl, (refl, (refl, (refl, (refl, tt))))))

pub clear_colon : (r : Text) → is_clear r ≡ true → (slice_index r 0 == 58) ≡ false
clear_colon r clear = not_true _ (clear_passes (λ r. not (slice_index r 0 == 58)) refl (λ z. (refl, (refl, (refl, (refl, (refl, tt)))))) r clear)

pub clear_shut : (r : Text) → is_clear r ≡ true → opens r ≡ false
clear_shut [] clear = refl
clear_shut (b ∷ r) clear = not_true _ (and_cases (is_break b) _ clear).1
