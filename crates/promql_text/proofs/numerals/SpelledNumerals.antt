-- The decimal form is what is spelled so.
use Rattle.std.proofs.Common.{◌≡◌, ◌⊎◌, ⊎_elim, inl, inr, ℕ, ◌+◌, ◌<◌, Bool, true, false, cond, ◌&&◌, ◌||◌, [], ◌∷◌, ◌++◌, length, drop, arith, ap, ◌∙◌, sym, refl, subst, append-nil, take-append-drop, Option, Some, None}
use Rattle.std.specs.Prelude.{◌==◌, ◌↔◌}
use Rattle.std.specs.Char.{is_ascii_digit}
use Rattle.std.specs.List.{prefix_len}
use Rattle.std.specs.Str.Parse.{AllDigits}
use Rattle.std.proofs.lemmas.Bool.{eq-eqb, eqb-true, ne_eqb}
use Rattle.promql_text.specs.Texts.{Text}
use Rattle.promql_text.specs.DecimalForm.{front, digit_run, past_run, past_point, without_sign, is_minus, is_exponent, ends_well, Numeral, numeral}
use Rattle.promql_text.specs.NumeralSpelling.{IsSign, IsExponent, Spells}
use Rattle.promql_text.specs.DecimalParts.{IsPoint}
use Rattle.promql_text.proofs.numerals.Runs.{run_digits, past_run_digit, past_run_other, digit_run_digit, digit_run_other, run_append, past_append, run_all, past_all, front_digit}
use Rattle.promql_text.proofs.numerals.TextForms.{digit_no_sign, digit_no_minus}

-- ---- what is spelled so is read so

first_digit : (ds : Text) → 0 < length ds → AllDigits 10 ds → is_ascii_digit (front ds) ≡ true
first_digit ds some digits = ap (λ s. is_ascii_digit (front s)) (sym (append-nil ds)) ∙ front_digit ds [] some digits

-- a sign before digits
pub record Signs (b : Bool) (t x : Text) : Type 0 where
  pub rest : without_sign t ≡ x
  pub minus : is_minus t ≡ b

no_sign : (x : Text) → is_ascii_digit (front x) ≡ true → Signs false x x
no_sign x digit = record { rest = ap (λ b. cond b (drop 1 x) x) (digit_no_sign x digit); minus = digit_no_minus x digit }

pub signs_at : (b : Bool) (s t x : Text) → s ≡ t → Signs b (t ++ x) x → Signs b (s ++ x) x
signs_at b s t x e h = let P : Text → Type 0 = λ z. Signs b (z ++ x) x in subst P (sym e) h

signs : (b : Bool) (s x : Text) → IsSign b s → is_ascii_digit (front x) ≡ true → Signs b (s ++ x) x
signs true s x is digit = signs_at true s (45 ∷ []) x is (record { rest = refl; minus = refl })
signs false s x is digit =
    ⊎_elim (λ e. signs_at false s [] x e (no_sign x digit)) (λ e. signs_at false s (43 ∷ []) x e (record { rest = refl; minus = refl })) is

-- what the end of a numeral says
record Ended (n : Numeral) (t : Text) : Type 0 where
  stops : is_ascii_digit (front t) ≡ false
  no_point : past_point t ≡ t
  well : ends_well t ≡ true
  down : is_minus (drop 1 t) ≡ n.is_down
  exponent : digit_run (without_sign (drop 1 t)) ≡ n.exponent

ended_at : (n : Numeral) (t u : Text) → t ≡ u → Ended n u → Ended n t
ended_at n t u e h = let P : Text → Type 0 = λ z. Ended n z in subst P (sym e) h

or_true : (b : Bool) → (b || true) ≡ true
or_true true = refl
or_true false = refl

letter_test : (c : ℕ) → (c ≡ 101) ⊎ (c ≡ 69) → (c == 101 || c == 69) ≡ true
letter_test c letter = ⊎_elim (λ e. ap (λ b. b || c == 69) (eq-eqb c 101 e)) (λ e. ap (λ b. c == 101 || b) (eq-eqb c 69 e) ∙ or_true (c == 101)) letter

letter_stops : (c : ℕ) → (c ≡ 101) ⊎ (c ≡ 69) → is_ascii_digit c ≡ false
letter_stops c letter = ⊎_elim (λ e. rw e refl) (λ e. rw e refl) letter

letter_no_point : (c : ℕ) → (c ≡ 101) ⊎ (c ≡ 69) → (c == 46) ≡ false
letter_no_point c letter = ne_eqb c 46 (λ e. ⊎_elim (λ f. absurd (omega arith)) (λ f. absurd (omega arith)) letter)

ended_letter : (n : Numeral) (c : ℕ) (s : Text) → (c ≡ 101) ⊎ (c ≡ 69) → IsSign n.is_down s → 0 < length n.exponent → AllDigits 10 n.exponent → Ended n (c ∷ (s ++ n.exponent))
ended_letter n c s letter sign some digits =
    let x : Text = n.exponent in
    let z : Text = s ++ x in
    let first : is_ascii_digit (front x) ≡ true = first_digit x some digits in
    let g : Signs n.is_down z x = signs n.is_down s x sign first in
    let exponent_is : is_exponent (c ∷ z) ≡ true =
    ap (λ u. (c == 101 || c == 69) && (is_ascii_digit (front u) && length (past_run u) == 0)) g.rest
    ∙ ap (λ b. b && (is_ascii_digit (front x) && length (past_run x) == 0)) (letter_test c letter)
    ∙ ap (λ b. b && length (past_run x) == 0) first ∙ ap (λ r. length r == 0) (past_all x digits) in
    record {
      stops = letter_stops c letter;
      no_point = ap (λ b. cond b z (c ∷ z)) (letter_no_point c letter);
      well = ap (λ b. (length (c ∷ z) == 0) || b) exponent_is ∙ or_true (length (c ∷ z) == 0);
      down = g.minus;
      exponent = ap digit_run g.rest ∙ run_all x digits;
    }

exponent_or_none : (n : Numeral) (t : Text) → IsExponent n t → Ended n t
exponent_or_none n t h =
    ⊎_elim
    (λ none. ended_at n t [] none.0 (record { stops = refl; no_point = refl; well = refl; down = sym none.1; exponent = sym none.2 }))
    (λ more. ended_at n t (more.0 ∷ (more.1 ++ n.exponent)) more.2 (ended_letter n more.0 more.1 more.3 more.4 more.5 more.6))
    h

-- what comes after the digits before the point
record AfterPoint (r f : Text) : Type 0 where
  stops : is_ascii_digit (front r) ≡ false
  past : past_point r ≡ f

after_point_at : (p q f : Text) → p ≡ q → AfterPoint (q ++ f) f → AfterPoint (p ++ f) f
after_point_at p q f e h = let P : Text → Type 0 = λ z. AfterPoint (z ++ f) f in subst P (sym e) h

after_point : (p f e : Text) → IsPoint p f → is_ascii_digit (front e) ≡ false → past_point e ≡ e → AfterPoint (p ++ (f ++ e)) (f ++ e)
after_point p f e is stops no_point =
    ⊎_elim
    (λ point. after_point_at p (46 ∷ []) (f ++ e) point (record { stops = refl; past = refl }))
    (λ none.
    let P : Text → Type 0 = λ z. AfterPoint (z ++ e) (z ++ e) in
    after_point_at p [] (f ++ e) none.0 (subst P (sym none.1) (record { stops = stops; past = no_point })))
    is

abbrev pub numeral_of : Text → Text → Bool → Text → Numeral
numeral_of w f d x = record { whole = w; fraction = f; is_down = d; exponent = x }

abbrev pub numeral_of_parts : Text → Text → Text → Option Numeral
numeral_of_parts t b e =
    cond ((is_ascii_digit (front t) || is_ascii_digit (front b)) && ends_well e) (Some (numeral_of (digit_run t) (digit_run b) (is_minus (drop 1 e)) (digit_run (without_sign (drop 1 e))))) None

pub numeral_is : (t : Text) → numeral t ≡ numeral_of_parts t (past_point (past_run t)) (past_run (past_point (past_run t)))
unfolding numeral
numeral_is t = refl

some_digit : (w r f e : Text) → 0 < length w + length f → AllDigits 10 w → AllDigits 10 f → (is_ascii_digit (front (w ++ r)) || is_ascii_digit (front (f ++ e))) ≡ true
some_digit [] r f e some whole fraction = ap (λ b. is_ascii_digit (front r) || b) (front_digit f e (omega arith) fraction) ∙ or_true (is_ascii_digit (front r))
some_digit (c ∷ w) r f e some whole fraction = ap (λ b. b || is_ascii_digit (front (f ++ e))) (front_digit (c ∷ w) r (omega arith) whole)

pub spelled_reads : (t : Text) (n : Numeral) → Spells n t → numeral t ≡ Some n
spelled_reads t n s =
    let f : Text = n.fraction in
    let e : Text = s.1 in
    let r : Text = s.0 ++ (f ++ e) in
    let u : Text = n.whole ++ r in
    let en : Ended n e = exponent_or_none n e s.7 in
    let b : AfterPoint r (f ++ e) = after_point s.0 f e s.6 en.stops en.no_point in
    let rest : past_point (past_run u) ≡ f ++ e = ap past_point (past_append n.whole r s.3 b.stops) ∙ b.past in
    ap numeral s.2 ∙ numeral_is u
    ∙ ap (λ z. numeral_of_parts u z (past_run z)) rest
    ∙ ap (numeral_of_parts u (f ++ e)) (past_append f e s.4 en.stops)
    ∙ ap (λ x. cond (x && ends_well e) (Some (numeral_of (digit_run u) (digit_run (f ++ e)) (is_minus (drop 1 e)) (digit_run (without_sign (drop 1 e))))) None) (some_digit n.whole r f e s.5 s.3 s.4)
    ∙ ap (λ x. cond x (Some (numeral_of (digit_run u) (digit_run (f ++ e)) (is_minus (drop 1 e)) (digit_run (without_sign (drop 1 e))))) None) en.well
    ∙ ap (λ w. Some (numeral_of w (digit_run (f ++ e)) (is_minus (drop 1 e)) (digit_run (without_sign (drop 1 e))))) (run_append n.whole r s.3 b.stops)
    ∙ ap (λ g. Some (numeral_of n.whole g (is_minus (drop 1 e)) (digit_run (without_sign (drop 1 e))))) (run_append f e s.4 en.stops)
    ∙ ap (λ d. Some (numeral_of n.whole f d (digit_run (without_sign (drop 1 e))))) en.down
    ∙ ap (λ x. Some (numeral_of n.whole f n.is_down x)) en.exponent

-- ---- what is read so is spelled so

pub run_and_rest : (t : Text) → t ≡ digit_run t ++ past_run t
run_and_rest t = sym (take-append-drop (prefix_len is_ascii_digit t) t)

past_ends_at : (c : ℕ) (z : Text) (b : Bool) → is_ascii_digit c ≡ b → is_ascii_digit (front (past_run z)) ≡ false → is_ascii_digit (front (past_run (c ∷ z))) ≡ false
past_ends_at c z true is rest = rw (past_run_digit c z is) rest
past_ends_at c z false is rest = rw (past_run_other c z is) is

past_ends : (t : Text) → is_ascii_digit (front (past_run t)) ≡ false
past_ends [] = refl
past_ends (c ∷ z) = past_ends_at c z (is_ascii_digit c) refl (past_ends z)

pub run_some : (t : Text) → is_ascii_digit (front t) ≡ true → 0 < length (digit_run t)
run_some [] digit = cc
run_some (c ∷ z) digit = rw (digit_run_digit c z digit) (omega arith)

run_none : (t : Text) → is_ascii_digit (front t) ≡ false → digit_run t ≡ []
run_none [] stops = refl
run_none (c ∷ z) stops = digit_run_other c z stops

record Pointed (t : Text) : Type 0 where
  point : Text
  is : t ≡ point ++ past_point t
  has : IsPoint point (digit_run (past_point t))

pointed_at : (c : ℕ) (z : Text) (b : Bool) → (c == 46) ≡ b → is_ascii_digit c ≡ false → Pointed (c ∷ z)
pointed_at c z true is stops = record {
  point = 46 ∷ [];
  is = ap (λ k. k ∷ z) (eqb-true c 46 is) ∙ ap (λ w. 46 ∷ w) (sym (ap (λ b. cond b z (c ∷ z)) is));
  has = inl refl;
}
pointed_at c z false is stops = record {
  point = [];
  is = sym (ap (λ b. cond b z (c ∷ z)) is);
  has = inr (refl, ap (λ b. digit_run (cond b z (c ∷ z))) is ∙ digit_run_other c z stops);
}

point_or_none : (t : Text) → is_ascii_digit (front t) ≡ false → Pointed t
point_or_none [] stops = record { point = []; is = refl; has = inr (refl, refl) }
point_or_none (c ∷ z) stops = pointed_at c z (c == 46) refl stops

pub both : (x y : Bool) → (x && y) ≡ true → (x ≡ true) × (y ≡ true)
both true y h = (refl, h)
both false y h = absurd cc

pub either : (x y : Bool) → (x || y) ≡ true → (x ≡ true) ⊎ (y ≡ true)
either true y h = inl refl
either false y h = inr h

pub nothing_left : (t : Text) → (length t == 0) ≡ true → t ≡ []
nothing_left [] h = refl
nothing_left (c ∷ t) h = absurd (let e = eqb-true (length (c ∷ t)) 0 h in omega (arith, e))

pub record SignCut (z : Text) : Type 0 where
  pub sign : Text
  pub is : z ≡ sign ++ without_sign z
  pub has : IsSign (is_minus z) sign

sign_has : (b d : Bool) (s : Text) → b ≡ d → IsSign d s → IsSign b s
sign_has b d s e h = let P : Bool → Type 0 = λ x. IsSign x s in subst P (sym e) h

pub sign_at : (d : ℕ) (z : Text) (plus minus : Bool) → (d == 43) ≡ plus → (d == 45) ≡ minus → SignCut (d ∷ z)
sign_at d z true true p m = absurd (let e = eqb-true d 43 p in let f = eqb-true d 45 m in omega (arith, e, f))
sign_at d z true false p m = record {
  sign = 43 ∷ [];
  is = ap (λ k. k ∷ z) (eqb-true d 43 p) ∙ ap (λ w. 43 ∷ w) (sym (ap (λ b. cond (b || d == 45) z (d ∷ z)) p));
  has = sign_has (d == 45) false (43 ∷ []) m (inr refl);
}
sign_at d z false true p m = record {
  sign = 45 ∷ [];
  is = ap (λ k. k ∷ z) (eqb-true d 45 m) ∙ ap (λ w. 45 ∷ w) (sym (ap (λ b. cond (b || d == 45) z (d ∷ z)) p ∙ ap (λ b. cond b z (d ∷ z)) m));
  has = sign_has (d == 45) true (45 ∷ []) m refl;
}
sign_at d z false false p m = record {
  sign = [];
  is = sym (ap (λ b. cond (b || d == 45) z (d ∷ z)) p ∙ ap (λ b. cond b z (d ∷ z)) m);
  has = sign_has (d == 45) false [] m (inl refl);
}

sign_cut : (z : Text) → is_ascii_digit (front (without_sign z)) ≡ true → SignCut z
sign_cut [] digit = absurd cc
sign_cut (d ∷ z) digit = sign_at d z (d == 43) (d == 45) refl refl

abbrev ended_numeral : Text → Text → Text → Numeral
ended_numeral w f e = numeral_of w f (is_minus (drop 1 e)) (digit_run (without_sign (drop 1 e)))

exponent_is : (w f : Text) (c : ℕ) (z : Text) → is_exponent (c ∷ z) ≡ true → IsExponent (ended_numeral w f (c ∷ z)) (c ∷ z)
exponent_is w f c z ex =
    let u : Text = without_sign z in
    let h : ((c == 101 || c == 69) ≡ true) × ((is_ascii_digit (front u) && length (past_run u) == 0) ≡ true) =
    both (c == 101 || c == 69) (is_ascii_digit (front u) && length (past_run u) == 0) ex in
    let k : (is_ascii_digit (front u) ≡ true) × ((length (past_run u) == 0) ≡ true) = both (is_ascii_digit (front u)) (length (past_run u) == 0) h.1 in
    let s : SignCut z = sign_cut z k.0 in
    let all : u ≡ digit_run u = run_and_rest u ∙ ap (λ r. digit_run u ++ r) (nothing_left (past_run u) k.1) ∙ append-nil (digit_run u) in
    inr (
      c,
      s.sign,
      ap (λ r. c ∷ r) (s.is ∙ ap (λ r. s.sign ++ r) all),
      ⊎_elim (λ e. inl (eqb-true c 101 e)) (λ e. inr (eqb-true c 69 e)) (either (c == 101) (c == 69) h.0),
      s.has,
      run_some u k.0,
      run_digits u,
    )

end_is : (w f e : Text) → ends_well e ≡ true → IsExponent (ended_numeral w f e) e
end_is w f [] well = inl (refl, refl, refl)
end_is w f (c ∷ z) well =
    let some : (length (c ∷ z) == 0) ≡ false = ne_eqb (length (c ∷ z)) 0 (omega arith) in
    exponent_is w f c z (sym (ap (λ b. b || is_exponent (c ∷ z)) some) ∙ well)

some_run : (t b : Text) → (is_ascii_digit (front t) || is_ascii_digit (front b)) ≡ true → 0 < length (digit_run t) + length (digit_run b)
some_run t b h =
    ⊎_elim (λ left. let k = run_some t left in omega (arith, k)) (λ right. let k = run_some b right in omega (arith, k))
    (either (is_ascii_digit (front t)) (is_ascii_digit (front b)) h)

pub some_numeral_is : (x : Bool) (r n : Numeral) → cond x (Some r) None ≡ Some n → (x ≡ true) × (r ≡ n)
some_numeral_is true r n is = (refl, cc)
some_numeral_is false r n is = absurd cc

pub reads_spelled : (t : Text) (n : Numeral) → numeral t ≡ Some n → Spells n t
reads_spelled t n is =
    let p : Pointed (past_run t) = point_or_none (past_run t) (past_ends t) in
    let b : Text = past_point (past_run t) in
    let e : Text = past_run b in
    let r : Numeral = ended_numeral (digit_run t) (digit_run b) e in
    let digit : Bool = is_ascii_digit (front t) || is_ascii_digit (front b) in
    let g : ((digit && ends_well e) ≡ true) × (r ≡ n) = some_numeral_is (digit && ends_well e) r n (sym (numeral_is t) ∙ is) in
    let h : (digit ≡ true) × (ends_well e ≡ true) = both digit (ends_well e) g.0 in
    let s : Spells r t = (
      p.point,
      e,
      run_and_rest t ∙ ap (λ w. digit_run t ++ w) (p.is ∙ ap (λ w. p.point ++ w) (run_and_rest b)),
      run_digits t,
      run_digits b,
      some_run t b h.0,
      p.has,
      end_is (digit_run t) (digit_run b) e h.1,
    ) in
    let P : Numeral → Type 0 = λ m. Spells m t in
    subst P g.1 s

pub numeral_spelled : (t : Text) (n : Numeral) → (numeral t ≡ Some n) ↔ Spells n t
numeral_spelled t n = (reads_spelled t n, spelled_reads t n)
