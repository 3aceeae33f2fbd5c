-- What a character, or an escape, does to a reading between quotes.
use Rattle.std.proofs.Common.{◌≡◌, ℕ, zero, suc, ◌+◌, ◌-◌, ◌<◌, ◌≤◌, true, cond, [], ◌∷◌, ◌++◌, length, get_or, drop, Some, None, Option, refl, sym, ap, ◌∙◌, subst, ⊎_elim, lit<, append_assoc, add-one, arith}
use Rattle.std.specs.Prelude.{◌==◌, option_and_then, option_map}
use Rattle.std.specs.Char.{encode_utf8}
use Rattle.std.proofs.lemmas.Bool.{cond-true, cond-false, eq-eqb, ne_eqb}
use Rattle.std.proofs.lemmas.Grind.{common_steps}
use Rattle.std.proofs.lemmas.Str.{encode_ascii}
use Rattle.std.proofs.str.Laws.{order}
use Rattle.promql_text.specs.Texts.{Text}
use Rattle.promql_text.specs.Quoting.{is_quote, letter, escape, spelling, inside}
use Rattle.promql_text.specs.QuoteReaders.{ReadsDigits, ReadsEscape, ReadsSpelling}
use Rattle.promql_text.proofs.quoting.Quotes.{bytes_high, escape-letter, escape-other, quote_low}

-- ---- escapes

-- an escape that ends by n digits, after one byte
pub reads_digits : (quote b n : ℕ) (said : Option (ℕ × ℕ)) (old rest new : Text) (r : Option ℕ) → old ≡ b ∷ rest → escape quote (b ∷ rest) ≡ said → ReadsDigits said n rest r new → ReadsEscape quote old r new
reads_digits quote b n said old rest new None front is reads = ap (escape quote) front ∙ is ∙ reads
reads_digits quote b n said old rest new (Some c) front is reads =
    (n + 1, ap (escape quote) front ∙ is ∙ reads.0, reads.1 ∙ sym (ap (drop (n + 1)) front ∙ rw add-one refl))

reads_letter_low : (quote : ℕ) (old rest : Text) (r : Option ℕ) → escape quote old ≡ option_map (λ c. (c, 1)) r → rest ≡ drop 1 old → ReadsEscape quote old r rest
reads_letter_low quote old rest None is front = is
reads_letter_low quote old rest (Some c) is front = (1, is, front)

pub letter_past : (b : ℕ) → 128 ≤ b → letter b ≡ None
letter_past b h = grind (arith, common_steps)

-- an escape of one character that is none of those before
pub reads_letter : (quote c : ℕ) (old rest : Text) → quote < 128 → old ≡ encode_utf8 c ++ rest → (c ≡ quote → ⊥) → (c ≡ 120 → ⊥) → (c ≡ 117 → ⊥) → (c ≡ 85 → ⊥) → (48 ≤ c → c ≤ 55 → ⊥) → ReadsEscape quote old (letter c) rest
reads_letter quote c old rest ascii front other x u U outside =
    ⊎_elim
    (λ (low : c < 128).
    let one = front ∙ ap (λ e. e ++ rest) (encode_ascii c low) in
    reads_letter_low quote old rest (letter c) (ap (escape quote) one ∙ escape-letter quote rest c other x u U outside) (sym (ap (drop 1) one)))
    (λ high. let P : Option ℕ → Type 0 = λ r. ReadsEscape quote old r rest in subst P (sym (letter_past c high)) (escape-other quote c old rest front ascii high))
    (order c 128)

-- ---- bytes of a spelling that are passed

pub inside-passed : (quote n : ℕ) (z : Text) → inside quote n z ≡ inside quote 0 (drop n z)
inside-passed quote zero z = refl
inside-passed quote (suc n) [] = refl
inside-passed quote (suc n) (b ∷ z) = inside-passed quote n z

-- ---- bytes that are for themselves

abbrev IsPlain : ℕ → ℕ → Type 0
IsPlain quote b = (b ≡ quote → ⊥) × ((z : Text) → spelling quote b z ≡ Some (b ∷ [], 1))

map_nothing : (o : Option Text) → o ≡ option_map (λ more. [] ++ more) o
map_nothing None = refl
map_nothing (Some x) = refl

map_twice : (b : ℕ) (h : Text) (o : Option Text) → option_map (λ more. (b ∷ []) ++ more) (option_map (λ more. h ++ more) o) ≡ option_map (λ more. (b ∷ h) ++ more) o
map_twice b h None = refl
map_twice b h (Some x) = refl

one_plain : (quote b : ℕ) (z : Text) → IsPlain quote b → inside quote 0 (b ∷ z) ≡ option_map (λ more. (b ∷ []) ++ more) (inside quote 0 z)
one_plain quote b z plain =
    cond-false (b == quote) _ _ (ne_eqb b quote plain.0)
    ∙ ap (option_and_then (λ (s : Text × ℕ). option_map (λ more. s.0 ++ more) (inside quote (s.1 - 1) z))) (plain.1 z)

plain_bytes : (quote : ℕ) (h r : Text) → ((k : ℕ) → k < length h → IsPlain quote (get_or h k 0)) → inside quote 0 (h ++ r) ≡ option_map (λ more. h ++ more) (inside quote 0 r)
plain_bytes quote [] r plain = map_nothing (inside quote 0 r)
plain_bytes quote (b ∷ h) r plain =
    one_plain quote b (h ++ r) (plain 0 (omega arith))
    ∙ ap (option_map (λ more. (b ∷ []) ++ more)) (plain_bytes quote h r (λ k lt. plain (suc k) (omega arith)))
    ∙ map_twice b h (inside quote 0 r)

plain_outside : (quote b : ℕ) → (b ≡ quote → ⊥) → (b ≡ 10 → ⊥) → (b ≡ 92 → ⊥) → IsPlain quote b
plain_outside quote b other feed slash =
    (other, λ z. grind (arith, common_steps, ne_eqb b 10 feed, ne_eqb b 92 slash))

-- a character that is for itself
pub reads_plain : (quote c : ℕ) (r : Text) → quote < 128 → (c < 128 → IsPlain quote c) → inside quote 0 (encode_utf8 c ++ r) ≡ option_map (λ more. encode_utf8 c ++ more) (inside quote 0 r)
reads_plain quote c r ascii plain =
    ⊎_elim
    (λ (low : c < 128).
    ap (λ e. inside quote 0 (e ++ r)) (encode_ascii c low)
    ∙ one_plain quote c r (plain low)
    ∙ ap (λ (e : Text). option_map (λ more. e ++ more) (inside quote 0 r)) (sym (encode_ascii c low)))
    (λ high. plain_bytes quote (encode_utf8 c) r (λ k lt.
    let past = bytes_high c high k lt in
    plain_outside quote (get_or (encode_utf8 c) k 0) (λ e. absurd (omega arith)) (λ e. absurd (omega arith)) (λ e. absurd (omega arith))))
    (order c 128)

pub reads_between_backticks : (quote c : ℕ) (r : Text) → quote ≡ 96 → (c ≡ quote → ⊥) → inside quote 0 (encode_utf8 c ++ r) ≡ option_map (λ more. encode_utf8 c ++ more) (inside quote 0 r)
reads_between_backticks quote c r is other =
    reads_plain quote c r (omega arith) (λ low. (other, λ z. cond-true (quote == 96) _ _ (eq-eqb quote 96 is)))

pub reads_itself : (quote c : ℕ) (r : Text) → is_quote quote ≡ true → (c ≡ quote → ⊥) → (c ≡ 10 → ⊥) → (c ≡ 92 → ⊥) → inside quote 0 (encode_utf8 c ++ r) ≡ option_map (λ more. encode_utf8 c ++ more) (inside quote 0 r)
reads_itself quote c r is other feed slash = reads_plain quote c r (quote_low quote is) (λ low. plain_outside quote c other feed slash)

-- ---- an escape

pub slash_reads : (quote : ℕ) (r : Text) (o : Option (ℕ × ℕ)) → (quote ≡ 96 → ⊥) → (92 ≡ quote → ⊥) → escape quote r ≡ o → inside quote 0 (92 ∷ r) ≡ option_and_then (λ (e : ℕ × ℕ). option_map (λ more. encode_utf8 e.0 ++ more) (inside quote (e.1 + 1 - 1) r)) o
slash_reads quote r o ticks other is =
    cond-false (92 == quote) _ _ (ne_eqb 92 quote other)
    ∙ ap (option_and_then (λ (s : Text × ℕ). option_map (λ more. s.0 ++ more) (inside quote (s.1 - 1) r))) (cond-false (quote == 96) _ _ (ne_eqb quote 96 ticks) ∙ ap (option_map (λ (e : ℕ × ℕ). (encode_utf8 e.0, e.1 + 1))) is)
    ∙ inside_after_skip o
  where
    inside_after_skip : (o : Option (ℕ × ℕ)) → option_and_then (λ (s : Text × ℕ). option_map (λ more. s.0 ++ more) (inside quote (s.1 - 1) r)) (option_map (λ (e : ℕ × ℕ). (encode_utf8 e.0, e.1 + 1)) o) ≡ option_and_then (λ (e : ℕ × ℕ). option_map (λ more. encode_utf8 e.0 ++ more) (inside quote (e.1 + 1 - 1) r)) o
    inside_after_skip None = refl
    inside_after_skip (Some e) = refl

pub reads_escape : (quote : ℕ) (old new : Text) (r : Option ℕ) → (quote ≡ 96 → ⊥) → (92 ≡ quote → ⊥) → ReadsEscape quote old r new → ReadsSpelling quote (encode_utf8 92 ++ old) r new
reads_escape quote old new None ticks other reads =
    ap (λ e. inside quote 0 (e ++ old)) (encode_ascii 92 (lit< tt)) ∙ slash_reads quote old None ticks other reads
reads_escape quote old new (Some c) ticks other reads =
    let len : ℕ = reads.0 in
    let same : len + 1 - 1 ≡ len = omega arith in
    ap (λ e. inside quote 0 (e ++ old)) (encode_ascii 92 (lit< tt))
    ∙ slash_reads quote old (Some (c, len)) ticks other reads.1
    ∙ ap (option_map (λ more. encode_utf8 c ++ more)) (ap (λ n. inside quote n old) same ∙ inside-passed quote len old ∙ ap (inside quote 0) (sym reads.2))

-- ---- the loop

-- what is in front, and what the rest is for
pub front_more : (front more : Text) (o : Option Text) → option_map (λ x. front ++ x) (option_map (λ x. more ++ x) o) ≡ option_map (λ x. (front ++ more) ++ x) o
front_more front more None = refl
front_more front more (Some x) = ap Some (sym (append_assoc front more x))

-- at the closing quote
pub closes : (quote : ℕ) (old rest : Text) → is_quote quote ≡ true → old ≡ encode_utf8 quote ++ rest → inside quote 0 old ≡ cond (length rest == 0) (Some []) None
closes quote old rest is front =
    ap (inside quote 0) (front ∙ ap (λ e. e ++ rest) (encode_ascii quote (quote_low quote is)))
    ∙ cond-true (quote == quote) _ _ (eq-eqb quote quote refl)

pub inside-none : (quote : ℕ) (z : Text) → length z ≡ 0 → inside quote 0 z ≡ None
inside-none quote [] e = refl
inside-none quote (b ∷ z) e = absurd (omega arith)
