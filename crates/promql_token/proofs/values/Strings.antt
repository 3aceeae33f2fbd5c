-- What is read after a quote: a string by its spellings, or a fault.
use Rattle.std.proofs.Common.{◌≡◌, ℕ, suc, ◌+◌, ◌<◌, Bool, true, false, cond, List, [], ◌∷◌, ◌++◌, length, get_or, take, drop, Ok, Err, refl, sym, ap, ◌∙◌, subst, inl, inr, ◌⊎◌, ⊎_elim, arith, append_assoc, length-append}
use Rattle.std.specs.Prelude.{◌==◌, not, ◌&&◌, ◌||◌}
use Rattle.std.specs.List.{concat, list_all}
use Rattle.std.proofs.Math.Seq.{take-append_seam, drop-append_seam}
use Rattle.std.proofs.lemmas.Bool.{cond_both}
use Rattle.std.proofs.lemmas.Grind.{common_steps}
use Rattle.promql_token.specs.declared.fault.LexFaultKind.TheVariants.{Escape, EscapeAtEnd, OpenString}
use Rattle.promql_token.specs.declared.ids.TheConstants.{T_STRING}
use Rattle.promql_text.specs.Texts.{Text}
use Rattle.promql_token.specs.Begins.{IsBody, IsString, has_escapes}
use Rattle.promql_token.specs.FaultPlaces.{IsEscaping}
use Rattle.promql_token.specs.Vocabulary.{next}
use Rattle.promql_token.specs.TokenScanning.{Scanned, is_escape, is_quote, string, string_from}
use Rattle.promql_token.specs.Printed.{is_spelling}
use Rattle.promql_token.proofs.cursors.TestsAndCounts.{same_number, by_bool}
use Rattle.promql_token.proofs.one_reading.Ends.{and_left, and_right, or_cases}
use Rattle.promql_token.proofs.one_reading.Steps.{not_true}

abbrev AreSpelled : ℕ → List Text → Type 0
AreSpelled quote ps = (has_escapes quote ≡ true) × (list_all (is_spelling quote) ps ≡ true)

-- what is read of a text after a quote
data Reads (quote at : ℕ) (z : Text) (p : Scanned) : Type 0 where
  closed : (body r : Text) → IsBody quote body → z ≡ body ++ quote ∷ r → p ≡ Ok (T_STRING, at + length body + 1) → Reads quote at z p
  unclosed : IsBody quote z → p ≡ Err (OpenString, 0) → Reads quote at z p
  at_end : (ps : List Text) → AreSpelled quote ps → z ≡ concat ps ++ 92 ∷ [] → p ≡ Err (EscapeAtEnd, at + length (concat ps) + 1) → Reads quote at z p
  unknown : (ps : List Text) (v : Text) → AreSpelled quote ps → z ≡ concat ps ++ 92 ∷ v → 0 < length v → is_escape quote (next v) ≡ false → p ≡ Err (Escape, at + length (concat ps) + 1) → Reads quote at z p

-- one more spelling in front
abbrev IsFront : ℕ → Text → Type 0
IsFront quote q = (((quote == 96) ≡ true) × (list_all (λ b. not (b == 96)) q ≡ true)) ⊎ ((has_escapes quote ≡ true) × (is_spelling quote q ≡ true))

backtick_apart : (quote : ℕ) → (quote == 96) ≡ true → has_escapes quote ≡ true → ⊥
backtick_apart quote h e = grind (arith, common_steps)

all_append : (p : ℕ → Bool) (x y : Text) → list_all p x ≡ true → list_all p y ≡ true → list_all p (x ++ y) ≡ true
all_append p [] y h k = k
all_append p (b ∷ x) y h k = λ i. and_left (p b) (list_all p x) h i && all_append p x y (and_right (p b) (list_all p x) h) k i

front_body : (quote : ℕ) (q body : Text) → IsFront quote q → IsBody quote body → IsBody quote (q ++ body)
front_body quote q body (inl f) (inl b) = inl (f.0, all_append (λ b. not (b == 96)) q body f.1 b.1)
front_body quote q body (inl f) (inr b) = absurd (backtick_apart quote f.0 b.0)
front_body quote q body (inr f) (inl b) = absurd (backtick_apart quote b.0 f.0)
front_body quote q body (inr f) (inr b) = inr (f.0, q ∷ b.1, (λ i. f.1 i && b.2 i), ap (λ t. q ++ t) b.3)

front_spelled : (quote : ℕ) (q : Text) (ps : List Text) → IsFront quote q → AreSpelled quote ps → AreSpelled quote (q ∷ ps)
front_spelled quote q ps (inl f) h = absurd (backtick_apart quote f.0 h.0)
front_spelled quote q ps (inr f) h = (h.0, λ i. f.1 i && h.1 i)

longer : (quote at n : ℕ) (q z : Text) (p : Scanned) → IsFront quote q → at + length q ≡ n → Reads quote n z p → Reads quote at (q ++ z) p
longer quote at n q z p f len (closed body r b is e) =
    let same : n + length body + 1 ≡ at + length (q ++ body) + 1 = omega (arith, length-append q body) in
    closed (q ++ body) r (front_body quote q body f b) (ap (λ t. q ++ t) is ∙ sym (append_assoc q body (quote ∷ r))) (e ∙ ap (λ k. Ok (T_STRING, k)) same)
longer quote at n q z p f len (unclosed b e) = unclosed (front_body quote q z f b) e
longer quote at n q z p f len (at_end ps h is e) =
    let same : n + length (concat ps) + 1 ≡ at + length (q ++ concat ps) + 1 = omega (arith, length-append q (concat ps)) in
    at_end (q ∷ ps) (front_spelled quote q ps f h) (ap (λ t. q ++ t) is ∙ sym (append_assoc q (concat ps) (92 ∷ []))) (e ∙ ap (λ k. Err (EscapeAtEnd, k)) same)
longer quote at n q z p f len (unknown ps v h is some other e) =
    let same : n + length (concat ps) + 1 ≡ at + length (q ++ concat ps) + 1 = omega (arith, length-append q (concat ps)) in
    unknown (q ∷ ps) v (front_spelled quote q ps f h) (ap (λ t. q ++ t) is ∙ sym (append_assoc q (concat ps) (92 ∷ v))) some other (e ∙ ap (λ k. Err (Escape, k)) same)

quotes : (quote : ℕ) → is_quote quote ≡ true → (quote == 96) ≡ false → has_escapes quote ≡ true
quotes quote h e = grind (arith, common_steps)

empty_body : (quote : ℕ) → is_quote quote ≡ true → IsBody quote []
empty_body quote h = by_bool (quote == 96) (λ e. inl (e, refl)) (λ e. inr (quotes quote h e, [], refl, refl))

-- a byte that is neither the quote nor takes the next
plain_front : (quote b : ℕ) → is_quote quote ≡ true → (b == quote) ≡ false → ((b == 92) && not (quote == 96)) ≡ false → IsFront quote (b ∷ [])
plain_front quote b h other plain =
    by_bool (quote == 96) (λ e. inl (e, no_tick quote b e other)) (λ e. inr (quotes quote h e, spelling e))
  where
    no_tick : (quote b : ℕ) → (quote == 96) ≡ true → (b == quote) ≡ false → (not (b == 96) && true) ≡ true
    no_tick quote b e other = grind (arith, common_steps)

    no_slash : (c d : Bool) → (c && not d) ≡ false → d ≡ false → c ≡ false
    no_slash true d h e = sym (ap not e) ∙ h
    no_slash false d h e = refl

    spelling : (quote == 96) ≡ false → is_spelling quote (b ∷ []) ≡ true
    spelling e =
        let slash = no_slash (b == 92) (quote == 96) plain e in
        λ i. (((not (other i)) && (not (slash i))) && true) || ((1 == 2) && (b == 92) && is_escape quote 0)

pair_front : (quote c : ℕ) → has_escapes quote ≡ true → is_escape quote c ≡ true → is_spelling quote (92 ∷ c ∷ []) ≡ true
pair_front quote c h e = cases (list_all (λ b. not (b == quote) && not (b == 92)) (92 ∷ c ∷ []))
  where
    cases : (x : Bool) → (x || is_escape quote c) ≡ true
    cases true = refl
    cases false = e

slash_is : (b quote : ℕ) → ((b == 92) && not (quote == 96)) ≡ true → b ≡ 92
slash_is b quote h = grind (arith, common_steps)

no_tick : (b quote : ℕ) → ((b == 92) && not (quote == 96)) ≡ true → (quote == 96) ≡ false
no_tick b quote h = not_true (quote == 96) (and_right (b == 92) (not (quote == 96)) h)

-- from a place, and from a backslash before it
abbrev Both : ℕ → ℕ → Text → Type 0
Both quote at z = Reads quote at z (string_from quote false at z) × (has_escapes quote ≡ true → Reads quote at (92 ∷ z) (string_from quote true (at + 1) z))

plain_step : (quote at b : ℕ) (z : Text) → is_quote quote ≡ true → ((n : ℕ) → Both quote n z) → Reads quote at (b ∷ z) (string_from quote false at (b ∷ z))
plain_step quote at b z h more =
    let next_state = (b == 92) && not (quote == 96) in
    cond_both (b == quote) _ _ (Reads quote at (b ∷ z))
    (λ e. let b_is : b ≡ quote = grind (arith, common_steps) in let same : at + 1 ≡ at + 0 + 1 = omega arith in
    closed [] z (empty_body quote h) (ap (λ b. b ∷ z) b_is) (ap (λ n. Ok (T_STRING, n)) same))
    (λ other. elim next_state as (λ s. next_state ≡ s → Reads quote at (b ∷ z) (string_from quote s (at + 1) z)) [
      | true ↦ λ slash. subst (λ b. Reads quote at (b ∷ z) (string_from quote true (at + 1) z)) (sym (slash_is b quote slash)) ((more at).1 (quotes quote h (no_tick b quote slash)))
      | false ↦ λ plain. longer quote at (at + 1) (b ∷ []) z _ (plain_front quote b h other plain) (omega arith) (more (at + 1)).0
    ] refl)

both : (quote : ℕ) (z : Text) (at : ℕ) → is_quote quote ≡ true → Both quote at z
both quote [] at h = (
  unclosed (empty_body quote h) refl,
  λ esc. let same : at + 1 ≡ at + 0 + 1 = omega arith in at_end [] (esc, refl) refl (ap (λ n. Err (EscapeAtEnd, n)) same),
)
both quote (b ∷ z) at h = (
  plain_step quote at b z h (λ n. both quote z n h),
  λ esc. cond_both (is_escape quote b) _ _ (Reads quote at (92 ∷ b ∷ z))
      (λ e. longer quote at (at + 1 + 1) (92 ∷ b ∷ []) z _ (inr (esc, pair_front quote b esc e)) (omega arith) (both quote z (at + 1 + 1) h).0)
      (λ other. let same : at + 1 ≡ at + 0 + 1 = omega arith in unknown [] (b ∷ z) (esc, refl) refl (omega arith) other (ap (λ n. Err (Escape, n)) same)),
)

-- ---- what it says

abbrev pub StringSays : Text → Scanned → Type 0
StringSays z (Ok t) = IsString t.0 (take t.1 z)
StringSays z (Err (Escape, n)) = (quote : ℕ) × IsEscaping quote (take n z) × (0 < length (drop n z)) × (is_escape quote (next (drop n z)) ≡ false)
StringSays z (Err (EscapeAtEnd, n)) = (quote : ℕ) × IsEscaping quote (take n z) × (drop n z ≡ [])
StringSays z (Err (OpenString, n)) = (n ≡ 0) × (quote : ℕ) × (body : Text) × IsBody quote body × (z ≡ quote ∷ body)
StringSays z (Err f) = ⊥

seam : (u v z : Text) (n : ℕ) → z ≡ u ++ v → n ≡ length u → (take n z ≡ u) × (drop n z ≡ v)
seam u v z n is len = ((λ i. take (len i) (is i)) ∙ take-append_seam u v, (λ i. drop (len i) (is i)) ∙ drop-append_seam u v)

pub string_says : (quote : ℕ) (z : Text) → is_quote quote ≡ true → StringSays (quote ∷ z) (string (quote ∷ z))
unfolding string
string_says quote z h = cases _ (both quote z 1 h).0
  where
    cases : (p : Scanned) → Reads quote 1 z p → StringSays (quote ∷ z) p
    cases p (closed body r b is e) =
        let u : Text = quote ∷ (body ++ quote ∷ []) in
        let whole : quote ∷ z ≡ u ++ r = ap (λ t. quote ∷ t) (is ∙ sym (append_assoc body (quote ∷ []) r)) in
        let len : 1 + length body + 1 ≡ length u = omega (arith, length-append body (quote ∷ [])) in
        subst (StringSays (quote ∷ z)) (sym e) (refl, quote, body, b, (seam u r (quote ∷ z) (1 + length body + 1) whole len).0)
    cases p (unclosed b e) = subst (StringSays (quote ∷ z)) (sym e) (refl, quote, z, b, refl)
    cases p (at_end ps s is e) =
        let u : Text = quote ∷ (concat ps ++ 92 ∷ []) in
        let whole : quote ∷ z ≡ u ++ [] = ap (λ t. quote ∷ t) (is ∙ sym (append_assoc (concat ps) (92 ∷ []) [])) in
        let len : 1 + length (concat ps) + 1 ≡ length u = omega (arith, length-append (concat ps) (92 ∷ [])) in
        let both = seam u [] (quote ∷ z) (1 + length (concat ps) + 1) whole len in
        subst (StringSays (quote ∷ z)) (sym e) (quote, (s.0, ps, s.1, both.0), both.1)
    cases p (unknown ps v s is some other e) =
        let u : Text = quote ∷ (concat ps ++ 92 ∷ []) in
        let whole : quote ∷ z ≡ u ++ v = ap (λ t. quote ∷ t) (is ∙ sym (append_assoc (concat ps) (92 ∷ []) v)) in
        let len : 1 + length (concat ps) + 1 ≡ length u = omega (arith, length-append (concat ps) (92 ∷ [])) in
        let both = seam u v (quote ∷ z) (1 + length (concat ps) + 1) whole len in
        subst (StringSays (quote ∷ z)) (sym e) (quote, (s.0, ps, s.1, both.0), subst (λ v. 0 < length v) (sym both.1) some, ap (λ v. is_escape quote (next v)) both.1 ∙ other)

-- ---- the same from the spellings

run_passed : (quote : ℕ) (p z : Text) (at : ℕ) → list_all (λ b. not (b == quote) && not (b == 92)) p ≡ true → string_from quote false at (p ++ z) ≡ string_from quote false (at + length p) z
run_passed quote [] z at h = let same : at ≡ at + 0 = omega arith in ap (λ n. string_from quote false n z) same
run_passed quote (b ∷ p) z at h =
    let here = and_left (not (b == quote) && not (b == 92)) (list_all (λ b. not (b == quote) && not (b == 92)) p) h in
    let rest = and_right (not (b == quote) && not (b == 92)) (list_all (λ b. not (b == quote) && not (b == 92)) p) h in
    let no_quote = not_true (b == quote) (and_left (not (b == quote)) (not (b == 92)) here) in
    let no_slash = not_true (b == 92) (and_right (not (b == quote)) (not (b == 92)) here) in
    let same : at + 1 + length p ≡ at + suc (length p) = omega arith in
    ap (λ c. cond c (Ok (T_STRING, at + 1)) (string_from quote ((b == 92) && not (quote == 96)) (at + 1) (p ++ z))) no_quote
    ∙ ap (λ c. string_from quote (c && not (quote == 96)) (at + 1) (p ++ z)) no_slash
    ∙ run_passed quote p z (at + 1) rest ∙ ap (λ n. string_from quote false n z) same

raw_passed : (quote : ℕ) (p z : Text) (at : ℕ) → (quote == 96) ≡ true → list_all (λ b. not (b == 96)) p ≡ true → string_from quote false at (p ++ z) ≡ string_from quote false (at + length p) z
raw_passed quote [] z at raw h = let same : at ≡ at + 0 = omega arith in ap (λ n. string_from quote false n z) same
raw_passed quote (b ∷ p) z at raw h =
    let no_quote : (b == quote) ≡ false = apart b quote raw (and_left (not (b == 96)) (list_all (λ b. not (b == 96)) p) h) in
    let same : at + 1 + length p ≡ at + suc (length p) = omega arith in
    ap (λ c. cond c (Ok (T_STRING, at + 1)) (string_from quote ((b == 92) && not (quote == 96)) (at + 1) (p ++ z))) no_quote
    ∙ ap (λ c. string_from quote ((b == 92) && not c) (at + 1) (p ++ z)) raw
    ∙ ap (λ c. string_from quote c (at + 1) (p ++ z)) (never (b == 92))
    ∙ raw_passed quote p z (at + 1) raw (and_right (not (b == 96)) (list_all (λ b. not (b == 96)) p) h) ∙ ap (λ n. string_from quote false n z) same
  where
    apart : (b quote : ℕ) → (quote == 96) ≡ true → not (b == 96) ≡ true → (b == quote) ≡ false
    apart b quote raw h = grind (arith, common_steps)

    never : (c : Bool) → (c && false) ≡ false
    never true = refl
    never false = refl

pair_passed : (quote b c : ℕ) (z : Text) (at : ℕ) → has_escapes quote ≡ true → (b == 92) ≡ true → is_escape quote c ≡ true → string_from quote false at (b ∷ c ∷ z) ≡ string_from quote false (at + 2) z
pair_passed quote b c z at esc slash h =
    let same : at + 1 + 1 ≡ at + 2 = omega arith in
    ap (λ x. cond x (Ok (T_STRING, at + 1)) (string_from quote ((b == 92) && not (quote == 96)) (at + 1) (c ∷ z))) (no_quote b quote slash esc)
    ∙ ap (λ x. string_from quote x (at + 1) (c ∷ z)) (takes b quote slash esc)
    ∙ ap (λ x. cond x (string_from quote false (at + 1 + 1) z) (Err (Escape, at + 1))) h ∙ ap (λ n. string_from quote false n z) same
  where
    no_quote : (b quote : ℕ) → (b == 92) ≡ true → has_escapes quote ≡ true → (b == quote) ≡ false
    no_quote b quote slash esc = grind (arith, common_steps)

    takes : (b quote : ℕ) → (b == 92) ≡ true → has_escapes quote ≡ true → ((b == 92) && not (quote == 96)) ≡ true
    takes b quote slash esc = grind (arith, common_steps)

spelling_passed : (quote : ℕ) (p z : Text) (at : ℕ) → has_escapes quote ≡ true → is_spelling quote p ≡ true → string_from quote false at (p ++ z) ≡ string_from quote false (at + length p) z
spelling_passed quote p z at esc h =
    ⊎_elim (λ plain. run_passed quote p z at plain) (λ pair. pairs p pair)
    (or_cases (list_all (λ b. not (b == quote) && not (b == 92)) p) ((length p == 2) && (get_or p 0 0 == 92) && is_escape quote (get_or p 1 0)) h)
  where
    three : (n : ℕ) → (suc (suc (suc n)) == 2) ≡ false
    three n = grind (arith, common_steps)

    pairs : (p : Text) → ((length p == 2) && (get_or p 0 0 == 92) && is_escape quote (get_or p 1 0)) ≡ true → string_from quote false at (p ++ z) ≡ string_from quote false (at + length p) z
    pairs [] h = absurd (cc)
    pairs (b ∷ []) h = absurd (cc)
    pairs (b ∷ c ∷ []) h =
        let front = and_left (true && (b == 92)) (is_escape quote c) h in
        pair_passed quote b c z at esc (and_right true (b == 92) front) (and_right (true && (b == 92)) (is_escape quote c) h)
    pairs (b ∷ c ∷ d ∷ p) h = let never = three (length p) in absurd (cc)

spelled_passed : (quote : ℕ) (ps : List Text) (z : Text) (at : ℕ) → has_escapes quote ≡ true → list_all (is_spelling quote) ps ≡ true → string_from quote false at (concat ps ++ z) ≡ string_from quote false (at + length (concat ps)) z
spelled_passed quote [] z at esc h = let same : at ≡ at + 0 = omega arith in ap (λ n. string_from quote false n z) same
spelled_passed quote (p ∷ ps) z at esc h =
    let same : at + length p + length (concat ps) ≡ at + length (p ++ concat ps) = omega (arith, length-append p (concat ps)) in
    ap (string_from quote false at) (append_assoc p (concat ps) z)
    ∙ spelling_passed quote p (concat ps ++ z) at esc (and_left (is_spelling quote p) (list_all (is_spelling quote) ps) h)
    ∙ spelled_passed quote ps z (at + length p) esc (and_right (is_spelling quote p) (list_all (is_spelling quote) ps) h) ∙ ap (λ n. string_from quote false n z) same

body_passed : (quote : ℕ) (body z : Text) (at : ℕ) → IsBody quote body → string_from quote false at (body ++ z) ≡ string_from quote false (at + length body) z
body_passed quote body z at (inl b) = raw_passed quote body z at b.0 b.1
body_passed quote body z at (inr b) = subst (λ t. string_from quote false at (t ++ z) ≡ string_from quote false (at + length t) z) (sym b.3) (spelled_passed quote b.1 z at b.0 b.2)

pub body_quote : (quote : ℕ) (body : Text) → IsBody quote body → is_quote quote ≡ true
body_quote quote body (inl b) = let h = b.0 in grind (arith, common_steps)
body_quote quote body (inr b) = let h = b.0 in grind (arith, common_steps)

pub escaping_quote : (quote : ℕ) → has_escapes quote ≡ true → is_quote quote ≡ true
escaping_quote quote h = grind (arith, common_steps)

-- a closed string
pub string_closed : (quote : ℕ) (body r : Text) → IsBody quote body → string ((quote ∷ (body ++ quote ∷ [])) ++ r) ≡ Ok (T_STRING, length (quote ∷ (body ++ quote ∷ [])))
unfolding string
string_closed quote body r b =
    let len : 1 + length body + 1 ≡ suc (length (body ++ quote ∷ [])) = omega (arith, length-append body (quote ∷ [])) in
    ap (string_from quote false 1) (append_assoc body (quote ∷ []) r) ∙ body_passed quote body (quote ∷ r) 1 b
    ∙ ap (λ c. cond c (Ok (T_STRING, 1 + length body + 1)) (string_from quote ((quote == 92) && not (quote == 96)) (1 + length body + 1) r)) (same_number quote)
    ∙ ap (λ n. Ok (T_STRING, n)) len

pub string_unclosed : (quote : ℕ) (body : Text) → IsBody quote body → string (quote ∷ body) ≡ Err (OpenString, 0)
unfolding string
string_unclosed quote body b = ap (string_from quote false 1) (nil body) ∙ body_passed quote body [] 1 b
  where
    nil : (t : Text) → t ≡ t ++ []
    nil [] = refl
    nil (b ∷ t) = ap (λ t. b ∷ t) (nil t)

-- up to a backslash
slash_passed : (quote : ℕ) (ps : List Text) (v : Text) → has_escapes quote ≡ true → list_all (is_spelling quote) ps ≡ true
    → string ((quote ∷ (concat ps ++ 92 ∷ [])) ++ v) ≡ string_from quote true (length (quote ∷ (concat ps ++ 92 ∷ []))) v
unfolding string
slash_passed quote ps v esc h =
    let len : 1 + length (concat ps) + 1 ≡ suc (length (concat ps ++ 92 ∷ [])) = omega (arith, length-append (concat ps) (92 ∷ [])) in
    ap (string_from quote false 1) (append_assoc (concat ps) (92 ∷ []) v) ∙ spelled_passed quote ps (92 ∷ v) 1 esc h
    ∙ ap (λ c. cond c (Ok (T_STRING, 1 + length (concat ps) + 1)) (string_from quote ((92 == 92) && not (quote == 96)) (1 + length (concat ps) + 1) v)) (no_quote quote esc)
    ∙ ap (λ c. string_from quote c (1 + length (concat ps) + 1) v) (takes quote esc)
    ∙ ap (λ n. string_from quote true n v) len
  where
    no_quote : (quote : ℕ) → has_escapes quote ≡ true → (92 == quote) ≡ false
    no_quote quote esc = grind (arith, common_steps)

    takes : (quote : ℕ) → has_escapes quote ≡ true → not (quote == 96) ≡ true
    takes quote esc = grind (arith, common_steps)

pub string_at_end : (quote : ℕ) (u : Text) → IsEscaping quote u → string (u ++ []) ≡ Err (EscapeAtEnd, length u)
string_at_end quote u h = subst (λ u. string (u ++ []) ≡ Err (EscapeAtEnd, length u)) (sym h.3) (slash_passed quote h.1 [] h.0 h.2)

pub string_unknown : (quote : ℕ) (u v : Text) → IsEscaping quote u → 0 < length v → is_escape quote (next v) ≡ false → string (u ++ v) ≡ Err (Escape, length u)
string_unknown quote u [] h some other = absurd (omega arith)
string_unknown quote u (c ∷ v) h some other =
    let n = length u in
    subst (λ u. string (u ++ c ∷ v) ≡ Err (Escape, length u)) (sym h.3)
    (slash_passed quote h.1 (c ∷ v) h.0 h.2 ∙ ap (λ x. cond x (string_from quote false (length (quote ∷ (concat h.1 ++ 92 ∷ [])) + 1) v) (Err (Escape, length (quote ∷ (concat h.1 ++ 92 ∷ []))))) other)
