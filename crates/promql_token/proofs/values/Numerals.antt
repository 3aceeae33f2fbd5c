-- Numerals by their grammar: what is read as one is one, and the other way round.
use Rattle.std.proofs.Common.{◌≡◌, ℕ, zero, suc, ◌+◌, ◌-◌, ◌<◌, ◌≤◌, Bool, true, false, cond, List, [], ◌∷◌, ◌++◌, length, get_or, take, drop, Ok, Err, refl, sym, ap, ◌∙◌, subst, inl, inr, ⊎_elim, arith, append_assoc, length-append, zero-add, add-zero, eqb-true}
use Rattle.std.specs.Prelude.{◌==◌, not, ◌&&◌, ◌||◌}
use Rattle.std.specs.Char.{is_ascii_digit}
use Rattle.std.specs.List.{list_all, prefix_len}
use Rattle.std.proofs.Math.Seq.{take-append_seam, drop-append_seam}
use Rattle.std.proofs.lemmas.Bool.{cond_both}
use Rattle.std.proofs.lemmas.Grind.{common_steps}
use Rattle.promql_token.specs.declared.class.Class.TheVariants as class
use Rattle.promql_token.specs.declared.fault.LexFaultKind.TheVariants.{Numeral}
use Rattle.promql_token.specs.declared.ids.TheConstants.{T_DURATION, T_NUMBER}
use Rattle.promql_text.specs.Texts.{Text}
use Rattle.promql_token.specs.Begins.{IsDuration, IsNumber, IsNumeral, is_unit_text}
use Rattle.promql_token.specs.Classes.{is_in, end_of_run}
use Rattle.promql_token.specs.FaultPlaces.{NoNumeral}
use Rattle.promql_token.specs.Vocabulary.{is_exponent, next}
use Rattle.promql_token.specs.Printed.{are_digits}
use Rattle.promql_token.specs.TokenScanning.{Scanned, begins_numeral, is_unit, number_end, numeral, part_len, parts_from, past_whole, unit_len, units}
use Rattle.promql_token.specs.Printed.{is_part, parts_text}
use Rattle.promql_token.proofs.cursors.TestsAndCounts.{same_number, by_bool}
use Rattle.promql_token.proofs.printed.DurationTokens.{front_byte, joined_names, parts_all, parts_names, parts_no_s, unit_byte, unit_text, units_all}
use Rattle.promql_token.proofs.one_reading.Ends.{and_left, and_right}
use Rattle.promql_token.proofs.values.NumberParts.{Front, IsApart, byte_at, front_of, number_is, past_at, run_of}
use Rattle.promql_token.proofs.printed.LaterDurationParts.{parts_go}
use Rattle.promql_token.proofs.printed.PrintedForms.{number_whole, past_front, whole_is}

-- ---- units and parts

record UnitFront (first : Bool) (z : Text) : Type 0 where
  unit : Text
  rest : Text
  is : z ≡ unit ++ rest
  text : is_unit_text first unit ≡ true
  len : unit_len first z ≡ length unit

-- a second byte that is `s`
second : (y : Text) → (next y == 115) ≡ true → (rest : Text) × (y ≡ 115 ∷ rest)
second [] e = absurd (cc)
second (c ∷ y) e = (y, ap (λ c. c ∷ y) (eqb-true c 115 e))

no_unit : (first : Bool) → unit_len first [] ≡ 0
no_unit true = refl
no_unit false = refl

unit_front : (first : Bool) (z : Text) → (unit_len first z == 0) ≡ false → UnitFront first z
unit_front first [] some = let none = ap (λ n. n == 0) (no_unit first) in absurd (cc)
unit_front first (b ∷ y) some =
    by_bool (is_unit first b)
    (λ unit. by_bool (next y == 115)
    (λ s. let more = second y s in record {
      unit = b ∷ 115 ∷ [];
      rest = more.0;
      is = ap (λ t. b ∷ t) more.1;
      text = λ i. unit i && true;
      len = ap (λ c. cond c (cond (next y == 115) 2 1) 0) unit ∙ ap (λ c. cond c 2 1) s;
    })
    (λ s. record { unit = b ∷ []; rest = y; is = refl; text = λ i. unit i && true; len = ap (λ c. cond c (cond (next y == 115) 2 1) 0) unit ∙ ap (λ c. cond c 2 1) s }))
    (λ other. let none : (unit_len first (b ∷ y) == 0) ≡ true = ap (λ c. cond c (cond (next y == 115) 2 1) 0 == 0) other in absurd (cc))

record PartFront (z : Text) : Type 0 where
  digits : Text
  unit : Text
  rest : Text
  is : z ≡ digits ++ (unit ++ rest)
  part : is_part false (digits, unit) ≡ true
  len : part_len z ≡ length digits + length unit
  some : 0 < length digits

part_front : (z : Text) → (part_len z == 0) ≡ false → PartFront z
part_front z some =
    let k = run_of is_ascii_digit z refl in
    let count : end_of_run class.Digit z 0 ≡ length k.run = past_at class.Digit z [] k.run k.rest 0 k.is refl k.all k.stop ∙ zero-add (length k.run) in
    let after_number : drop (length k.run) z ≡ k.rest = ap (drop (length k.run)) k.is ∙ drop-append_seam k.run k.rest in
    let n = length k.run in
    let f : ℕ → ℕ → ℕ = λ count unit. cond ((count == 0) || (unit == 0)) 0 (count + unit) in
    let len : part_len z ≡ f n (unit_len false k.rest) = ap (λ n. f n (unit_len false (drop n z))) count ∙ ap (λ t. f n (unit_len false t)) after_number in
    by_bool (n == 0) (λ none. let never = ap (λ x. x == 0) (len ∙ ap (λ c. cond (c || (unit_len false k.rest == 0)) 0 (n + unit_len false k.rest)) none) in absurd (cc)) (λ counted.
    by_bool (unit_len false k.rest == 0)
    (λ none. let never = ap (λ x. x == 0) (len ∙ (λ i. cond (counted i || none i) 0 (n + unit_len false k.rest))) in absurd (cc))
    (λ unit.
    let u = unit_front false k.rest unit in
    record {
      digits = k.run;
      unit = u.unit;
      rest = u.rest;
      is = k.is ∙ ap (λ t. k.run ++ t) u.is;
      part = λ i. ((not (counted i) && k.all i) && and_left (is_unit false (next u.unit)) _ u.text i) && and_right (is_unit false (next u.unit)) _ u.text i;
      len = len ∙ (λ i. cond (counted i || unit i) 0 (n + unit_len false k.rest)) ∙ ap (λ m. n + m) u.len;
      some = some_of n counted;
    }))
  where
    some_of : (n : ℕ) → (n == 0) ≡ false → 0 < n
    some_of n h = grind (arith, common_steps)

parts_of : (fuel : ℕ) (z : Text) → length z ≤ fuel → parts_from 0 z ≡ true → (ps : List (Text × Text)) × (z ≡ parts_text ps) × (list_all (is_part false) ps ≡ true)
parts_of fuel [] fits h = ([], refl, refl)
parts_of zero (b ∷ z) fits h = absurd (omega arith)
parts_of (suc fuel) (b ∷ z) fits h =
    by_bool (part_len (b ∷ z) == 0)
    (λ none. let never : parts_from 0 (b ∷ z) ≡ false = ap (λ c. cond c false (parts_from (part_len (b ∷ z) - 1) z)) none in absurd (cc))
    (λ some.
    let p = part_front (b ∷ z) some in
    let n = length p.digits + length p.unit in
    let counted = p.some in
    let whole : length (b ∷ z) ≡ length p.digits + (length p.unit + length p.rest) = ap length p.is ∙ length-append p.digits (p.unit ++ p.rest) ∙ ap (λ k. length p.digits + k) (length-append p.unit p.rest) in
    let u : Text = p.digits ++ p.unit in
    let is : b ∷ z ≡ u ++ p.rest = p.is ∙ sym (append_assoc p.digits p.unit p.rest) in
    let after_number : drop n (b ∷ z) ≡ p.rest = (λ i. drop (sym (length-append p.digits p.unit) i) (is i)) ∙ drop-append_seam u p.rest in
    let more = parts_of fuel p.rest (omega arith) (ap (parts_from 0) (sym after_number) ∙ sym (parts_go (b ∷ z) n (sym p.len) (omega arith) (omega arith)) ∙ h) in
    ((p.digits, p.unit) ∷ more.0, p.is ∙ ap (λ t. p.digits ++ (p.unit ++ t)) more.1, λ i. p.part i && more.2 i))

-- what follows the number of a duration
units_of : (z : Text) → units z ≡ true → (u : Text) × (ps : List (Text × Text)) × (z ≡ u ++ parts_text ps) × (is_unit_text true u ≡ true) × (list_all (is_part false) ps ≡ true)
unfolding units
units_of z h =
    by_bool (unit_len true z == 0)
    (λ none. let never : units z ≡ false = ap (λ c. cond c false (parts_from 0 (drop (unit_len true z) z))) none in absurd (cc))
    (λ some.
    let f = unit_front true z some in
    let after_number : drop (unit_len true z) z ≡ f.rest = (λ i. drop (f.len i) (f.is i)) ∙ drop-append_seam f.unit f.rest in
    let all : parts_from 0 f.rest ≡ true = ap (parts_from 0) (sym after_number) ∙ sym (ap (λ c. cond c false (parts_from 0 (drop (unit_len true z) z))) some) ∙ h in
    let ps = parts_of (length f.rest) f.rest (omega arith) all in
    (f.unit, ps.0, f.is ∙ ap (λ t. f.unit ++ t) ps.1, f.text, ps.2))

-- ---- a numeral by its grammar is read

name_apart : (c : ℕ) → is_in class.Name c ≡ false → (c == 46) ≡ false → IsApart c
name_apart c name point = record { digit = grind (arith, common_steps); point = point; exponent = grind (arith, common_steps); hex = grind (arith, common_steps) }

-- what `numeral` is, by where the number and the run of letters and digits end
by_ends : (z : Text) (end run : ℕ) → number_end z ≡ end → end_of_run class.Name z end ≡ run
    → numeral z ≡ cond ((run == end) && not (get_or z end 0 == 46)) (Ok (T_NUMBER, end)) (cond (units (take (run - end) (drop end z))) (Ok (T_DURATION, run)) (Err (Numeral, 0)))
unfolding numeral
by_ends z end run e r =
    let f : ℕ → ℕ → Scanned = λ end run. cond ((run == end) && not (get_or z end 0 == 46)) (Ok (T_NUMBER, end)) (cond (units (take (run - end) (drop end z))) (Ok (T_DURATION, run)) (Err (Numeral, 0))) in
    ap (λ e. f e (end_of_run class.Name z e)) e ∙ ap (f end) r

-- a number of digits alone
pub digits_alone : (z : Text) (n : ℕ) → n ≡ end_of_run class.Digit z 0
    → (get_or z n 0 == 46) ≡ false → is_exponent (get_or z n 0) ≡ false → ((get_or z n 0 == 120) || (get_or z n 0 == 88)) ≡ false → number_end z ≡ n
digits_alone z n is point exponent hex =
    let k = run_of is_ascii_digit z refl in
    let len : n ≡ length k.run = is ∙ ap (λ z. end_of_run class.Digit z 0) k.is ∙ past_front class.Digit k.run k.rest k.all k.stop in
    let byte : next k.rest ≡ get_or z n 0 = sym (byte_at z k.run k.rest n k.is len) in
    let whole : past_whole z ≡ n = ap past_whole k.is ∙ whole_of k.run k.rest k.all k.stop (ap (λ b. (b == 120) || (b == 88)) byte ∙ hex) ∙ sym len in
    number_whole z n whole point exponent
  where
    no_zero : (b : ℕ) → is_ascii_digit b ≡ false → (b == 48) ≡ false
    no_zero b h = grind (arith, common_steps)

    whole_of : (w r : Text) → are_digits w ≡ true → is_ascii_digit (next r) ≡ false → ((next r == 120) || (next r == 88)) ≡ false → past_whole (w ++ r) ≡ length w
    whole_of [] r all stop hex =
        ap (λ x. end_of_run (cond x class.HexDigit class.Digit) r (cond x 2 0)) (ap (λ c. c && ((get_or r 1 0 == 120) || (get_or r 1 0 == 88))) (no_zero (next r) stop))
        ∙ past_front class.Digit [] r refl stop
    whole_of (b ∷ w) r all stop hex = whole_is (b ∷ w) r (omega arith) all stop hex

number_read : (w r : Text) → is_in class.Name (next r) ≡ false → IsNumber w (next r) → (next r == 46) ≡ false → numeral (w ++ r) ≡ Ok (T_NUMBER, length w)
number_read w r name h point =
    let z : Text = w ++ r in
    let n = length w in
    let end = (number_is w r h (name_apart (next r) name point)).0 in
    let run : end_of_run class.Name z n ≡ n = past_at class.Name z w [] r n refl refl refl name ∙ add-zero n in
    by_ends z n n end run
    ∙ (λ i. cond (same_number n i && not (byte_at z w r n refl refl i == 46)) (Ok (T_NUMBER, n)) (cond (units (take (n - n) (drop n z))) (Ok (T_DURATION, n)) (Err (Numeral, 0))))
    ∙ ap (λ c. cond (not c) (Ok (T_NUMBER, n)) (cond (units (take (n - n) (drop n z))) (Ok (T_DURATION, n)) (Err (Numeral, 0)))) point

duration_read : (w r : Text) → is_in class.Name (next r) ≡ false → IsDuration w → numeral (w ++ r) ≡ Ok (T_DURATION, length w)
duration_read w r name d =
    let number = d.0 in
    let u = d.1 in
    let ps = d.2 in
    let t : Text = u ++ parts_text ps in
    let is_u = and_left (is_unit true (next u)) _ d.5 in
    let unit = unit_text true u (parts_text ps) is_u (and_right (is_unit true (next u)) _ d.5) (parts_no_s ps d.6) in
    let some = unit.some in
    let byte = unit_byte true (next u) is_u in
    let rest : Text = t ++ r in
    let first : next rest ≡ next u = ap next (append_assoc u (parts_text ps) r) ∙ front_byte u (parts_text ps ++ r) some in
    let apart : IsApart (next rest) = subst IsApart (sym first) (record { digit = byte.digit; point = byte.point; exponent = byte.exponent; hex = byte.hex }) in
    let z : Text = w ++ r in
    let is : z ≡ number ++ rest = ap (λ t. t ++ r) d.3 ∙ append_assoc number t r in
    let n = length number in
    let m = n + length t in
    let end : number_end z ≡ n = ap number_end is ∙ (number_is number rest (subst (IsNumber number) (sym first) d.4) apart).0 in
    let names = joined_names u (parts_text ps) unit.names (parts_names ps d.6) in
    let run : end_of_run class.Name z n ≡ m = past_at class.Name z number t r n is refl names name in
    let back : m - n ≡ length t = omega arith in
    let tail : take (m - n) (drop n z) ≡ t = (λ i. take (back i) ((ap (drop n) is ∙ drop-append_seam number rest) i)) ∙ take-append_seam t r in
    let len : m ≡ length w = sym (length-append number t) ∙ ap length (sym d.3) in
    let longer_t : 0 < length t = omega (arith, length-append u (parts_text ps)) in
    by_ends z n m end run
    ∙ ap (λ c. cond (c && not (get_or z n 0 == 46)) (Ok (T_NUMBER, n)) (cond (units (take (m - n) (drop n z))) (Ok (T_DURATION, m)) (Err (Numeral, 0)))) (longer n (length t) longer_t)
    ∙ ap (λ q. cond (units q) (Ok (T_DURATION, m)) (Err (Numeral, 0))) tail
    ∙ ap (λ c. cond c (Ok (T_DURATION, m)) (Err (Numeral, 0))) (units_all u (parts_text ps) unit (parts_all ps d.6))
    ∙ ap (λ k. Ok (T_DURATION, k)) len
  where
    longer : (n k : ℕ) → 0 < k → (n + k == n) ≡ false
    longer n k h = grind (arith, common_steps)

pub numeral_read : (id : ℕ) (w r : Text) → IsNumeral id w r → numeral (w ++ r) ≡ Ok (id, length w)
numeral_read id w r h =
    ⊎_elim (λ n. number_read w r h.0 n.1 n.2 ∙ ap (λ id. Ok (id, length w)) (sym n.0)) (λ d. duration_read w r h.0 d.1 ∙ ap (λ id. Ok (id, length w)) (sym d.0)) h.1

pub numeral_begins : (id : ℕ) (w r : Text) → IsNumeral id w r → begins_numeral (w ++ r) ≡ true
numeral_begins id w r h =
    ⊎_elim (λ n. (number_is w r n.1 (name_apart (next r) h.0 n.2)).1)
    (λ e.
    let d = e.1 in
    let number = d.0 in
    let u = d.1 in
    let ps = d.2 in
    let t : Text = u ++ parts_text ps in
    let is_u = and_left (is_unit true (next u)) _ d.5 in
    let unit = unit_text true u (parts_text ps) is_u (and_right (is_unit true (next u)) _ d.5) (parts_no_s ps d.6) in
    let some = unit.some in
    let byte = unit_byte true (next u) is_u in
    let rest : Text = t ++ r in
    let first : next rest ≡ next u = ap next (append_assoc u (parts_text ps) r) ∙ front_byte u (parts_text ps ++ r) some in
    let apart : IsApart (next rest) = subst IsApart (sym first) (record { digit = byte.digit; point = byte.point; exponent = byte.exponent; hex = byte.hex }) in
    ap begins_numeral (ap (λ t. t ++ r) d.3 ∙ append_assoc number t r) ∙ (number_is number rest (subst (IsNumber number) (sym first) d.4) apart).1)
    h.1

-- ---- what is read is a numeral by its grammar

abbrev pub NumeralSays : Text → Scanned → Type 0
NumeralSays z (Ok t) = IsNumeral t.0 (take t.1 z) (drop t.1 z)
NumeralSays z (Err f) = (f ≡ (Numeral, 0)) × NoNumeral [] z

run_stops : (p : ℕ → Bool) (r : Text) → p 0 ≡ false → prefix_len p r ≡ 0 → p (next r) ≡ false
run_stops p [] none h = none
run_stops p (b ∷ r) none h = by_bool (p b) (λ is. let longer : 1 + prefix_len p r ≡ 0 = sym (ap (λ c. cond c (1 + prefix_len p r) 0) is) ∙ h in absurd (omega arith)) (λ no. no)

number_says : (z : Text) (f : Front z) (end run : ℕ) → end ≡ length f.number → end_of_run class.Name z end ≡ run → ((run == end) && not (get_or z end 0 == 46)) ≡ true → IsNumeral T_NUMBER (take end z) (drop end z)
number_says z f end run len r h =
    let front : take end z ≡ f.number = (λ i. take (len i) (f.is i)) ∙ take-append_seam f.number f.rest in
    let back : drop end z ≡ f.rest = (λ i. drop (len i) (f.is i)) ∙ drop-append_seam f.number f.rest in
    let no_run : end + prefix_len (is_in class.Name) (drop end z) ≡ end = r ∙ eqb-true run end (and_left (run == end) (not (get_or z end 0 == 46)) h) in
    let name = run_stops (is_in class.Name) (drop end z) refl (omega arith) in
    let point = not_false (get_or z end 0 == 46) (and_right (run == end) (not (get_or z end 0 == 46)) h) in
    let byte : get_or z end 0 ≡ next (drop end z) = byte_at z f.number f.rest end f.is len ∙ ap next (sym back) in
    (name, inl (refl, subst (λ w. IsNumber w (next (drop end z))) (sym front) (subst (λ r. IsNumber f.number (next r)) (sym back) f.is_number), ap (λ b. b == 46) (sym byte) ∙ point))
  where
    not_false : (c : Bool) → not c ≡ true → c ≡ false
    not_false true h = sym h
    not_false false h = refl

duration_says : (z : Text) (f : Front z) (end run : ℕ) → end ≡ length f.number → end_of_run class.Name z end ≡ run → units (take (run - end) (drop end z)) ≡ true → IsNumeral T_DURATION (take run z) (drop run z)
duration_says z f end run len r h =
    let k = run_of (is_in class.Name) f.rest refl in
    let whole : z ≡ f.number ++ (k.run ++ k.rest) = f.is ∙ ap (λ t. f.number ++ t) k.is in
    let run_is : run ≡ end + length k.run = sym r ∙ past_at class.Name z f.number k.run k.rest end whole len k.all k.stop in
    let back : run - end ≡ length k.run = omega arith in
    let after_number : drop end z ≡ k.run ++ k.rest = (λ i. drop (len i) (whole i)) ∙ drop-append_seam f.number (k.run ++ k.rest) in
    let tail : take (run - end) (drop end z) ≡ k.run = (λ i. take (back i) (after_number i)) ∙ take-append_seam k.run k.rest in
    let u = units_of k.run (ap units (sym tail) ∙ h) in
    let w : Text = f.number ++ k.run in
    let is : z ≡ w ++ k.rest = whole ∙ sym (append_assoc f.number k.run k.rest) in
    let w_len : run ≡ length w = run_is ∙ ap (λ n. n + length k.run) len ∙ sym (length-append f.number k.run) in
    let front : take run z ≡ w = (λ i. take (w_len i) (is i)) ∙ take-append_seam w k.rest in
    let rest : drop run z ≡ k.rest = (λ i. drop (w_len i) (is i)) ∙ drop-append_seam w k.rest in
    let is_u = and_left (is_unit true (next u.0)) _ u.3 in
    let unit = unit_text true u.0 (parts_text u.1) is_u (and_right (is_unit true (next u.0)) _ u.3) (parts_no_s u.1 u.4) in
    let first : next f.rest ≡ next u.0 = ap next (k.is ∙ ap (λ t. t ++ k.rest) u.2 ∙ append_assoc u.0 (parts_text u.1) k.rest) ∙ front_byte u.0 (parts_text u.1 ++ k.rest) unit.some in
    (ap (λ t. is_in class.Name (next t)) rest ∙ k.stop, inr (refl, (f.number, u.0, u.1, front ∙ ap (λ t. f.number ++ t) u.2, subst (IsNumber f.number) first f.is_number, u.3, u.4)))

no_numeral : (z : Text) → numeral z ≡ Err (Numeral, 0) → NoNumeral [] z
no_numeral z is = (refl, λ id w r whole h. let read = ap numeral whole ∙ numeral_read id w r h in absurd (cc))

pub numeral_says : (z : Text) → begins_numeral z ≡ true → NumeralSays z (numeral z)
numeral_says z begins =
    let f = front_of z begins in
    let end = number_end z in
    let run = end_of_run class.Name z end in
    let is = by_ends z end run refl refl in
    subst (NumeralSays z) (sym is)
    (cond_both ((run == end) && not (get_or z end 0 == 46)) _ _ (λ p. numeral z ≡ p → NumeralSays z p) (λ h _. number_says z f end run f.end refl h) (λ _.
    cond_both (units (take (run - end) (drop end z))) _ _ (λ p. numeral z ≡ p → NumeralSays z p) (λ h _. duration_says z f end run f.end refl h) (λ _ is. (refl, no_numeral z is))) is)
