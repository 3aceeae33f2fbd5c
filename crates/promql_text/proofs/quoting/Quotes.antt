-- Escapes and back; what characters do to a reading in bytes.
use Rattle.std.proofs.Common.{◌≡◌, ℕ, suc, ◌+◌, ◌-◌, ◌*◌, ◌^◌, ◌<◌, ◌≤◌, true, false, cond, [], ◌∷◌, ◌++◌, length, get_or, drop, Option, Some, None, refl, sym, ap, ◌∙◌, subst, ⊎_elim, lit<, arith}
use Rattle.std.specs.Prelude.{◌==◌, nat_lt, nat_le, option_and_then, option_map}
use Rattle.std.specs.Char.{encode_utf8, digit_value}
use Rattle.std.specs.Option.{option_map_or}
use Rattle.std.proofs.lemmas.Bool.{cond_both, cond-true, cond-false, eqb-true, eq-eqb, ne_eqb, lt-ltb, le-ltb, le-leb, lt-leb, leb-true}
use Rattle.std.proofs.lemmas.Grind.{common_steps}
use Rattle.std.proofs.lemmas.List.{get_or_append_left}
use Rattle.std.proofs.lemmas.Str.{encode_ascii, inside_one, length-encode, len_utf8_bounds}
use Rattle.std.proofs.lemmas.Nat.{mul-le}
use Rattle.std.proofs.Math.Nat.{pow-suc, one-le-pow}
use Rattle.std.proofs.str.Laws.{order}
use Rattle.promql_text.specs.Texts.{Text}
use Rattle.promql_text.specs.Quoting.{escaped_byte, escaped_text, quoted_text, is_quote, letter, number, hexadecimal, octal, escape, inside, unquoted_text}

-- ---- unquoting what was escaped

Reads : Text → Text → Type 0
Reads z s = inside 34 0 z ≡ Some s

-- an escape of two bytes is read as the byte that it is for
two : (x b : ℕ) (z s : Text) → escape 34 (x ∷ z) ≡ Some (b, 1) → b < 128 → Reads z s → Reads (92 ∷ x ∷ z) (b ∷ s)
unfolding Reads
two x b z s is low reads =
    ap (λ f. option_and_then (λ (s : Text × ℕ). option_map (λ more. s.0 ++ more) (inside 34 (s.1 - 1) (x ∷ z))) (option_map (λ f. (encode_utf8 f.0, f.1 + 1)) f)) is
    ∙ ap (λ e. option_map (λ more. e ++ more) (inside 34 0 z)) (encode_ascii b low)
    ∙ ap (option_map (λ more. b ∷ more)) reads

escaped_reads : (s : Text) → Reads (escaped_text s ++ 34 ∷ []) s
unfolding Reads escape
escaped_reads [] = refl
escaped_reads (b ∷ s) =
    let z : Text = escaped_text s ++ 34 ∷ [] in
    let rest = escaped_reads s in
    let P : Option ℕ → Type 0 = λ k. Reads ((option_map_or (λ k. 92 ∷ k ∷ []) k (b ∷ []) ++ escaped_text s) ++ 34 ∷ []) (b ∷ s) in
    cond_both (b == 92) _ _ P (λ e. subst (λ k. Reads (92 ∷ 92 ∷ z) (k ∷ s)) (sym (eqb-true b 92 e)) (two 92 92 z s refl (lit< tt) rest)) (λ slash.
    cond_both (b == 34) _ _ P (λ e. subst (λ k. Reads (92 ∷ 34 ∷ z) (k ∷ s)) (sym (eqb-true b 34 e)) (two 34 34 z s refl (lit< tt) rest)) (λ quote.
    cond_both (b == 10) _ _ P (λ e. subst (λ k. Reads (92 ∷ 110 ∷ z) (k ∷ s)) (sym (eqb-true b 10 e)) (two 110 10 z s refl (lit< tt) rest)) (λ feed.
    cond_both (b == 13) _ _ P (λ e. subst (λ k. Reads (92 ∷ 114 ∷ z) (k ∷ s)) (sym (eqb-true b 13 e)) (two 114 13 z s refl (lit< tt) rest)) (λ _.
    cond_both (b == 9) _ _ P (λ e. subst (λ k. Reads (92 ∷ 116 ∷ z) (k ∷ s)) (sym (eqb-true b 9 e)) (two 116 9 z s refl (lit< tt) rest)) (λ _.
    rw (quote, feed, slash) (ap (option_map (λ more. b ∷ more)) rest))))))

pub unquoted_text-quoted : (s : Text) → unquoted_text (quoted_text s) ≡ Some s
unfolding unquoted_text Reads
unquoted_text-quoted s = escaped_reads s

-- ---- characters of more than one byte

-- all bytes of a character past ASCII are past ASCII
pub bytes_high : (c : ℕ) → 128 ≤ c → (k : ℕ) → k < length (encode_utf8 c) → 128 ≤ get_or (encode_utf8 c) k 0
bytes_high c h k lt =
    ⊎_elim
    (λ (low : get_or (encode_utf8 c) k 0 < 128).
    let same : get_or (encode_utf8 c ++ []) k 0 ≡ get_or (encode_utf8 c) k 0 = get_or_append_left (encode_utf8 c) [] 0 k lt in
    let is = inside_one c [] (encode_utf8 c ++ []) k refl lt (omega arith) in
    omega arith)
    (λ high. high)
    (order (get_or (encode_utf8 c) k 0) 128)

escaped_high : (h r : Text) → ((k : ℕ) → k < length h → 128 ≤ get_or h k 0) → escaped_text (h ++ r) ≡ h ++ escaped_text r
escaped_high [] r high = refl
escaped_high (b ∷ h) r high = ap (λ e. e ++ escaped_text (h ++ r)) (plain b (high 0 (omega arith))) ∙ ap (λ t. b ∷ t) (escaped_high h r (λ k lt. high (suc k) (omega arith)))
  where
    plain : (b : ℕ) → 128 ≤ b → escaped_byte b ≡ b ∷ []
    plain b h = grind (arith, common_steps)

-- a character that isn't escaped stays in front
pub escaped_plain : (c : ℕ) (r : Text) → (c < 128 → escaped_byte c ≡ c ∷ []) → escaped_text (encode_utf8 c ++ r) ≡ encode_utf8 c ++ escaped_text r
escaped_plain c r plain =
    ⊎_elim
    (λ (low : c < 128). ap (λ e. escaped_text (e ++ r)) (encode_ascii c low) ∙ ap (λ e. e ++ escaped_text r) (plain low) ∙ ap (λ e. e ++ escaped_text r) (sym (encode_ascii c low)))
    (λ high. escaped_high (encode_utf8 c) r (bytes_high c high))
    (order c 128)

-- ---- digits

no_digit : (base n value : ℕ) (h r : Text) → base ≤ 36 → 0 < length h → 128 ≤ get_or h 0 0 → number base (suc n) value (h ++ r) ≡ None
no_digit base n value [] r small some high = absurd (omega arith)
no_digit base n value (b ∷ h) r small some high = ap (λ t. cond t (number base n (value * base + digit_value b) (h ++ r)) None) (past b high)
  where
    past : (b : ℕ) → 128 ≤ b → nat_lt (digit_value b) base ≡ false
    past b high = grind (arith, common_steps)

-- the first byte of a character past ASCII is past ASCII
first_high : (c : ℕ) → 128 ≤ c → (0 < length (encode_utf8 c)) × (128 ≤ get_or (encode_utf8 c) 0 0)
first_high c high =
    let some : 0 < length (encode_utf8 c) = omega (arith, length-encode c, len_utf8_bounds c) in
    (some, bytes_high c high 0 some)

digit_low : (c : ℕ) → digit_value c < 36 → c < 128
digit_low c h = grind (arith, common_steps)

-- a character that is a digit is read as one
pub number-digit : (base n value c : ℕ) (r : Text) → base ≤ 36 → digit_value c < base → number base (suc n) value (encode_utf8 c ++ r) ≡ number base n (value * base + digit_value c) r
number-digit base n value c r small digit =
    ap (λ e. number base (suc n) value (e ++ r)) (encode_ascii c (digit_low c (omega arith)))
    ∙ ap (λ t. cond t (number base n (value * base + digit_value c) r) None) (lt-ltb (digit_value c) base digit)

pub drop-digit : (base n c : ℕ) (r : Text) → base ≤ 36 → digit_value c < base → drop (suc n) (encode_utf8 c ++ r) ≡ drop n r
drop-digit base n c r small digit = ap (λ e. drop (suc n) (e ++ r)) (encode_ascii c (digit_low c (omega arith)))

-- one that is none ends the reading
pub number-other : (base n value c : ℕ) (r : Text) → base ≤ 36 → base ≤ digit_value c → number base (suc n) value (encode_utf8 c ++ r) ≡ None
number-other base n value c r small other =
    ⊎_elim
    (λ (low : c < 128).
    ap (λ e. number base (suc n) value (e ++ r)) (encode_ascii c low)
    ∙ ap (λ t. cond t (number base n (value * base + digit_value c) r) None) (le-ltb (digit_value c) base other))
    (λ high. no_digit base n value (encode_utf8 c) r small (first_high c high).0 (first_high c high).1)
    (order c 128)

pub number-end : (base n value : ℕ) (z : Text) → length z ≡ 0 → number base (suc n) value z ≡ None
number-end base n value [] e = refl
number-end base n value (b ∷ z) e = absurd (omega arith)

-- ---- room for the digits that are left

pub more_left : (count i : ℕ) → i < count → count - i ≡ suc (count - (i + 1))
more_left count i h = omega arith

-- a digit takes its share of the room
pub room : (v b d n : ℕ) → d < b → (v + 1) * b ^ suc n ≤ 2 ^ 32 → (v * b + d + 1) * b ^ n ≤ 2 ^ 32
room v b d n digit fits =
    let P : ℕ → Type 0 = λ p. (v + 1) * p ≤ 2 ^ 32 in
    let wide : (v + 1) * (b ^ n * b) ≤ 2 ^ 32 = subst P (pow-suc b n) fits in
    let below : v * b + d + 1 ≤ (v + 1) * b = omega arith in
    omega (arith, mul-le (v * b + d + 1) (b ^ n) ((v + 1) * b) (b ^ n) below (omega arith))

pub room_now : (v b d n : ℕ) → d < b → (v + 1) * b ^ suc n ≤ 2 ^ 32 → v * b + d < 2 ^ 32
room_now v b d n digit fits =
    let one : 1 ≤ b ^ n = one-le-pow n b (omega arith) in
    omega (arith, room v b d n digit fits, mul-le (v * b + d + 1) 1 (v * b + d + 1) (b ^ n) (omega arith) one)

-- ---- the quote at the front

pub unquoted_text-none : (z : Text) → length z ≡ 0 → unquoted_text z ≡ None
unfolding unquoted_text
unquoted_text-none [] e = refl
unquoted_text-none (b ∷ z) e = absurd (omega arith)

pub quote_low : (c : ℕ) → is_quote c ≡ true → c < 128
quote_low c h = grind (arith, common_steps)

pub unquoted_text-quote : (c : ℕ) (z r : Text) → z ≡ encode_utf8 c ++ r → is_quote c ≡ true → unquoted_text z ≡ inside c 0 r
unfolding unquoted_text
unquoted_text-quote c z r front is =
    ap unquoted_text (front ∙ ap (λ e. e ++ r) (encode_ascii c (quote_low c is)))
    ∙ cond-true (is_quote c) (inside c 0 r) None is

high_no_quote : (b : ℕ) → 128 ≤ b → is_quote b ≡ false
high_no_quote b h = grind (arith, common_steps)

unquoted_high : (h r : Text) → 0 < length h → 128 ≤ get_or h 0 0 → unquoted_text (h ++ r) ≡ None
unfolding unquoted_text
unquoted_high [] r some high = absurd (omega arith)
unquoted_high (b ∷ h) r some high = cond-false (is_quote b) (inside b 0 (h ++ r)) None (high_no_quote b high)

pub unquoted_text-other : (c : ℕ) (z r : Text) → z ≡ encode_utf8 c ++ r → is_quote c ≡ false → unquoted_text z ≡ None
unfolding unquoted_text
unquoted_text-other c z r front is =
    ap unquoted_text front
    ∙ ⊎_elim
    (λ (low : c < 128). ap (λ e. unquoted_text (e ++ r)) (encode_ascii c low) ∙ cond-false (is_quote c) (inside c 0 r) None is)
    (λ high. unquoted_high (encode_utf8 c) r (first_high c high).0 (first_high c high).1)
    (order c 128)

-- ---- escapes

pub escape-none : (quote : ℕ) (z : Text) → length z ≡ 0 → escape quote z ≡ None
unfolding escape
escape-none quote [] e = refl
escape-none quote (b ∷ z) e = absurd (omega arith)

pub escape_low : (quote c : ℕ) (z r : Text) → z ≡ encode_utf8 c ++ r → c < 128 → escape quote z ≡ escape quote (c ∷ r)
escape_low quote c z r front low = ap (escape quote) (front ∙ ap (λ e. e ++ r) (encode_ascii c low))

pub escape-own : (quote : ℕ) (r : Text) → escape quote (quote ∷ r) ≡ Some (quote, 1)
unfolding escape
escape-own quote r = cond-true (quote == quote) _ _ (eq-eqb quote quote refl)

module _ (quote : ℕ) (r : Text) where
  pub escape-x : (120 ≡ quote → ⊥) → escape quote (120 ∷ r) ≡ hexadecimal 2 r
  unfolding escape
  escape-x other = cond-false (120 == quote) (Some (120, 1)) _ (ne_eqb 120 quote other)

  pub escape-u : (117 ≡ quote → ⊥) → escape quote (117 ∷ r) ≡ hexadecimal 4 r
  unfolding escape
  escape-u other = cond-false (117 == quote) (Some (117, 1)) _ (ne_eqb 117 quote other)

  pub escape-U : (85 ≡ quote → ⊥) → escape quote (85 ∷ r) ≡ hexadecimal 8 r
  unfolding escape
  escape-U other = cond-false (85 == quote) (Some (85, 1)) _ (ne_eqb 85 quote other)

  pub escape-octal : (b : ℕ) → (b ≡ quote → ⊥) → 48 ≤ b → b ≤ 55 → escape quote (b ∷ r) ≡ octal b r
  unfolding escape
  escape-octal b other low high =
      cond-false (b == quote) _ _ (ne_eqb b quote other)
      ∙ cond-false (b == 120) _ _ (ne_eqb b 120 (λ e. absurd (omega arith)))
      ∙ cond-false (b == 117) _ _ (ne_eqb b 117 (λ e. absurd (omega arith)))
      ∙ cond-false (b == 85) _ _ (ne_eqb b 85 (λ e. absurd (omega arith)))
      ∙ cond-true (nat_le 48 b) _ _ (le-leb 48 b low)
      ∙ cond-true (nat_le b 55) _ _ (le-leb b 55 high)

  pub escape-letter : (b : ℕ) → (b ≡ quote → ⊥) → (b ≡ 120 → ⊥) → (b ≡ 117 → ⊥) → (b ≡ 85 → ⊥) → (48 ≤ b → b ≤ 55 → ⊥) → escape quote (b ∷ r) ≡ option_map (λ c. (c, 1)) (letter b)
  unfolding escape
  escape-letter b other x u U outside =
      cond-false (b == quote) _ _ (ne_eqb b quote other)
      ∙ cond-false (b == 120) _ _ (ne_eqb b 120 x)
      ∙ cond-false (b == 117) _ _ (ne_eqb b 117 u)
      ∙ cond-false (b == 85) _ _ (ne_eqb b 85 U)
      ∙ cond_both (nat_le 48 b) _ _ (λ e. e ≡ option_map (λ c. (c, 1)) (letter b))
      (λ above. cond-false (nat_le b 55) _ _ (lt-leb b 55 (no_digit_past b (leb-true 48 b above) outside)))
      (λ below. refl)
    where
      no_digit_past : (b : ℕ) → 48 ≤ b → (48 ≤ b → b ≤ 55 → ⊥) → 55 < b
      no_digit_past b above none = omega arith

letter_high : (b : ℕ) → 128 ≤ b → letter b ≡ None
letter_high b h = grind (arith, common_steps)

escape_high : (quote : ℕ) (h r : Text) → quote < 128 → 0 < length h → 128 ≤ get_or h 0 0 → escape quote (h ++ r) ≡ None
escape_high quote [] r low some high = absurd (omega arith)
escape_high quote (b ∷ h) r low some high =
    escape-letter quote (h ++ r) b (λ e. absurd (omega arith)) (λ e. absurd (omega arith)) (λ e. absurd (omega arith)) (λ e. absurd (omega arith)) (λ l u. absurd (omega arith))
    ∙ ap (option_map (λ c. (c, 1))) (letter_high b high)

-- a character past ASCII begins no escape
pub escape-other : (quote c : ℕ) (z r : Text) → z ≡ encode_utf8 c ++ r → quote < 128 → 128 ≤ c → escape quote z ≡ None
escape-other quote c z r front low high = ap (escape quote) front ∙ escape_high quote (encode_utf8 c) r low (first_high c high).0 (first_high c high).1
