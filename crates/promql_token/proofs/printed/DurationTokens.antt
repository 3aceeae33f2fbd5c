-- Durations that a printer writes are tokens.
use Rattle.std.proofs.Common.{◌≡◌, ℕ, suc, ◌+◌, ◌-◌, ◌<◌, Bool, true, false, cond, List, [], ◌∷◌, ◌++◌, length, get_or, take, drop, Ok, Err, refl, sym, ap, ◌∙◌, subst, arith, length-append}
use Rattle.std.specs.Prelude.{◌==◌, not, ◌&&◌, ◌||◌}
use Rattle.std.specs.Char.{is_ascii_digit}
use Rattle.std.specs.List.{list_all, prefix_len}
use Rattle.std.proofs.Math.Seq.{drop-append_seam, take-length}
use Rattle.std.proofs.lemmas.Grind.{common_steps}
use Rattle.std.proofs.lemmas.List.{drop-drop}
use Rattle.std.proofs.lemmas.List.Folds.{list_all-append}
use Rattle.promql_token.specs.declared.class.Class.TheVariants as class
use Rattle.promql_token.specs.declared.fault.LexFaultKind.TheVariants.{Numeral}
use Rattle.promql_token.specs.declared.ids.TheConstants.{T_DURATION, T_NUMBER}
use Rattle.promql_text.specs.Texts.{Text}
use Rattle.promql_token.specs.Classes.{is_in, end_of_run}
use Rattle.promql_token.specs.TokenScanning.{Scanned, is_unit, unit_len, part_len, parts_from, units, numeral}
use Rattle.promql_token.specs.Printed.{are_digits, is_part, parts_text, JoinsDuration}
use Rattle.promql_token.proofs.one_reading.Ends.{and_left, and_right}
use Rattle.promql_token.proofs.printed.LaterDurationParts.{parts_go}
use Rattle.promql_token.proofs.printed.PrintedForms.{number_whole, whole_is, at_seam, prefix_whole, digits_first, joins_numeral, digit_name, past_front}

-- a unit with its `s`, before a text that begins with no `s`
pub record IsUnitText (first : Bool) (u rest : Text) : Type 0 where
  pub len : unit_len first (u ++ rest) ≡ length u
  pub some : 0 < length u
  pub names : list_all (is_in class.Name) u ≡ true

unit_name : (first : Bool) (b : ℕ) → is_unit first b ≡ true → is_in class.Name b ≡ true
unit_name true b h = grind (arith, common_steps)
unit_name false b h = grind (arith, common_steps)

pub unit_text : (first : Bool) (u rest : Text) → is_unit first (get_or u 0 0) ≡ true → ((length u == 1) || ((length u == 2) && (get_or u 1 0 == 115))) ≡ true → (get_or rest 0 0 == 115) ≡ false → IsUnitText first u rest
unit_text first [] rest is len no_s = absurd (cc)
unit_text first (b ∷ []) rest is len no_s = record {
  len = ap (λ c. cond c (cond (get_or rest 0 0 == 115) 2 1) 0) is ∙ ap (λ c. cond c 2 1) no_s;
  some = omega arith;
  names = ap (λ c. c && true) (unit_name first b is);
}
unit_text first (b ∷ c ∷ []) rest is len no_s = record {
  len = ap (λ x. cond x (cond (c == 115) 2 1) 0) is ∙ ap (λ x. cond x 2 1) len;
  some = omega arith;
  names = (λ i. unit_name first b is i && (s_name c len i && true));
}
  where
    s_name : (c : ℕ) → (c == 115) ≡ true → is_in class.Name c ≡ true
    s_name c h = grind (arith, common_steps)
unit_text first (b ∷ c ∷ d ∷ u) rest is len no_s = let never = three (length u) in let never2 = four (length u) in absurd (cc)
  where
    three : (n : ℕ) → (suc (suc (suc n)) == 1) ≡ false
    three n = grind (arith, common_steps)

    four : (n : ℕ) → (suc (suc (suc n)) == 2) ≡ false
    four n = grind (arith, common_steps)

-- ---- parts

-- what a part is
record IsPart (first : Bool) (d u rest : Text) : Type 0 where
  count : 0 < length d
  digits : are_digits d ≡ true
  unit : is_unit first (get_or u 0 0) ≡ true
  text : IsUnitText first u rest

some_of : (n : ℕ) → not (n == 0) ≡ true → 0 < n
some_of n h = grind (arith, common_steps)

part_is : (first : Bool) (d u rest : Text) → is_part first (d, u) ≡ true → (get_or rest 0 0 == 115) ≡ false → IsPart first d u rest
part_is first d u rest h no_s =
    let some = not (length d == 0) in
    let ds = are_digits d in
    let un = is_unit first (get_or u 0 0) in
    let ln = (length u == 1) || ((length u == 2) && (get_or u 1 0 == 115)) in
    let three = and_left (some && ds && un) ln h in
    let two = and_left (some && ds) un three in
    record {
      count = some_of (length d) (and_left some ds two);
      digits = and_right some ds two;
      unit = and_right (some && ds) un three;
      text = unit_text first u rest (and_right (some && ds) un three) (and_right (some && ds && un) ln h) no_s;
    }

no_s_digit : (b : ℕ) → is_ascii_digit b ≡ true → (b == 115) ≡ false
no_s_digit b h = grind (arith, common_steps)

-- parts begin with no `s`
pub parts_no_s : (ps : List (Text × Text)) → list_all (is_part false) ps ≡ true → (get_or (parts_text ps) 0 0 == 115) ≡ false
parts_no_s [] h = refl
parts_no_s (p ∷ ps) h =
    let part = and_left (is_part false p) (list_all (is_part false) ps) h in
    let some = not (length p.0 == 0) in
    let ds = are_digits p.0 in
    let un = is_unit false (get_or p.1 0 0) in
    let ln = (length p.1 == 1) || ((length p.1 == 2) && (get_or p.1 1 0 == 115)) in
    let two = and_left (some && ds) un (and_left (some && ds && un) ln part) in
    no_s_digit _ (digits_first p.0 (p.1 ++ parts_text ps) (some_of (length p.0) (and_left some ds two)) (and_right some ds two))

digits_names : (w : Text) → are_digits w ≡ true → list_all (is_in class.Name) w ≡ true
digits_names [] h = refl
digits_names (b ∷ w) h = λ i. digit_name b (and_left (is_ascii_digit b) (list_all is_ascii_digit w) h) i && digits_names w (and_right (is_ascii_digit b) (list_all is_ascii_digit w) h) i

pub joined_names : (x y : Text) → list_all (is_in class.Name) x ≡ true → list_all (is_in class.Name) y ≡ true → list_all (is_in class.Name) (x ++ y) ≡ true
joined_names x y h h2 = list_all-append (is_in class.Name) x y ∙ (λ i. h i && h2 i)

pub parts_names : (ps : List (Text × Text)) → list_all (is_part false) ps ≡ true → list_all (is_in class.Name) (parts_text ps) ≡ true
parts_names [] h = refl
parts_names (p ∷ ps) h =
    let rest = and_right (is_part false p) (list_all (is_part false) ps) h in
    let part = part_is false p.0 p.1 (parts_text ps) (and_left (is_part false p) (list_all (is_part false) ps) h) (parts_no_s ps rest) in
    joined_names p.0 (p.1 ++ parts_text ps) (digits_names p.0 part.digits) (joined_names p.1 (parts_text ps) part.text.names (parts_names ps rest))

-- a unit's first byte is no digit, no `x`, no point and no `e`
pub record IsUnitByte (b : ℕ) : Type 0 where
  pub digit : is_ascii_digit b ≡ false
  pub hex : ((b == 120) || (b == 88)) ≡ false
  pub point : (b == 46) ≡ false
  pub exponent : ((b == 101) || (b == 69)) ≡ false

pub unit_byte : (first : Bool) (b : ℕ) → is_unit first b ≡ true → IsUnitByte b
unit_byte true b h = record { digit = grind (arith, common_steps); hex = grind (arith, common_steps); point = grind (arith, common_steps); exponent = grind (arith, common_steps) }
unit_byte false b h = record { digit = grind (arith, common_steps); hex = grind (arith, common_steps); point = grind (arith, common_steps); exponent = grind (arith, common_steps) }

pub front_byte : (u rest : Text) → 0 < length u → get_or (u ++ rest) 0 0 ≡ get_or u 0 0
front_byte [] rest some = absurd (omega arith)
front_byte (b ∷ u) rest some = refl

after_both : (d u rest : Text) → drop (length d + length u) (d ++ (u ++ rest)) ≡ rest
after_both d u rest = sym (drop-drop (length u) (length d) (d ++ (u ++ rest))) ∙ ap (drop (length u)) (drop-append_seam d (u ++ rest)) ∙ drop-append_seam u rest

-- the length of a part at the front
part_front : (d u rest : Text) → IsPart false d u rest → part_len (d ++ (u ++ rest)) ≡ length d + length u
part_front d u rest p =
    let some = p.count in
    let some_u = p.text.some in
    let byte = unit_byte false (get_or u 0 0) p.unit in
    let count = past_front class.Digit d (u ++ rest) p.digits (ap is_ascii_digit (front_byte u rest some_u) ∙ byte.digit) in
    let f : ℕ → ℕ → ℕ = λ count unit. cond ((count == 0) || (unit == 0)) 0 (count + unit) in
    let z : Text = d ++ (u ++ rest) in
    ap (λ n. f n (unit_len false (drop n z))) count
    ∙ ap (λ t. f (length d) (unit_len false t)) (drop-append_seam d (u ++ rest))
    ∙ ap (f (length d)) p.text.len
    ∙ (λ i. cond (no_zero (length d) some i || no_zero (length u) some_u i) 0 (length d + length u))
  where
    no_zero : (n : ℕ) → 0 < n → (n == 0) ≡ false
    no_zero n h = grind (arith, common_steps)

pub parts_all : (ps : List (Text × Text)) → list_all (is_part false) ps ≡ true → parts_from 0 (parts_text ps) ≡ true
parts_all [] h = refl
parts_all (p ∷ ps) h =
    let rest = and_right (is_part false p) (list_all (is_part false) ps) h in
    let part = part_is false p.0 p.1 (parts_text ps) (and_left (is_part false p) (list_all (is_part false) ps) h) (parts_no_s ps rest) in
    let some = part.count in
    let z : Text = p.0 ++ (p.1 ++ parts_text ps) in
    parts_go z (length p.0 + length p.1) (sym (part_front p.0 p.1 (parts_text ps) part)) (omega arith) (omega (arith, length-append p.0 (p.1 ++ parts_text ps), length-append p.1 (parts_text ps)))
    ∙ ap (parts_from 0) (after_both p.0 p.1 (parts_text ps)) ∙ parts_all ps rest

-- ---- the whole

pub units_all : (u rest : Text) → IsUnitText true u rest → parts_from 0 rest ≡ true → units (u ++ rest) ≡ true
unfolding units
units_all u rest t more =
    let some = t.some in
    ap (λ len. cond (len == 0) false (parts_from 0 (drop len (u ++ rest)))) t.len
    ∙ ap (λ c. cond c false (parts_from 0 (drop (length u) (u ++ rest)))) (no_zero (length u) some)
    ∙ ap (parts_from 0) (drop-append_seam u rest) ∙ more
  where
    no_zero : (n : ℕ) → 0 < n → (n == 0) ≡ false
    no_zero n h = grind (arith, common_steps)

-- digits, and units to the end
duration_all : (d t : Text) → 0 < length d → are_digits d ≡ true → 0 < length t → IsUnitByte (get_or t 0 0) → list_all (is_in class.Name) t ≡ true → units t ≡ true → numeral (d ++ t) ≡ Ok (T_DURATION, length (d ++ t))
unfolding numeral
duration_all d t some h some_t byte names all =
    let z : Text = d ++ t in
    let n = length d in
    let m = n + length t in
    let end = number_whole z n (whole_is d t some h byte.digit byte.hex) (ap (λ b. b == 46) (at_seam d t) ∙ byte.point) (ap (λ b. (b == 101) || (b == 69)) (at_seam d t) ∙ byte.exponent) in
    let run : end_of_run class.Name z n ≡ m = ap (λ r. n + prefix_len (is_in class.Name) r) (drop-append_seam d t) ∙ ap (λ k. n + k) (prefix_whole (is_in class.Name) t names) in
    let f : ℕ → ℕ → Scanned = λ end run. cond ((run == end) && not (get_or z end 0 == 46)) (Ok (T_NUMBER, end)) (cond (units (take (run - end) (drop end z))) (Ok (T_DURATION, run)) (Err (Numeral, 0))) in
    let back : m - n ≡ length t = omega arith in
    let tail : take (m - n) (drop n z) ≡ t = (λ i. take (back i) (drop-append_seam d t i)) ∙ take-length t in
    ap (λ e. f e (end_of_run class.Name z e)) end ∙ ap (f n) run
    ∙ ap (λ c. cond (c && not (get_or z n 0 == 46)) (Ok (T_NUMBER, n)) (cond (units (take (m - n) (drop n z))) (Ok (T_DURATION, m)) (Err (Numeral, 0)))) (longer n (length t) some_t)
    ∙ ap (λ q. cond (units q) (Ok (T_DURATION, m)) (Err (Numeral, 0))) tail
    ∙ ap (λ c. cond c (Ok (T_DURATION, m)) (Err (Numeral, 0))) all
    ∙ ap (λ k. Ok (T_DURATION, k)) (sym (length-append d t))
  where
    longer : (n k : ℕ) → 0 < k → (n + k == n) ≡ false
    longer n k h = grind (arith, common_steps)

pub joins_duration : JoinsDuration
joins_duration state p ps r holds h more stop =
    let rest = parts_text ps in
    let part = part_is true p.0 p.1 rest h (parts_no_s ps more) in
    let t : Text = p.1 ++ rest in
    let some = part.count in
    let some_u = part.text.some in
    let byte : IsUnitByte (get_or t 0 0) = subst IsUnitByte (sym (front_byte p.1 rest some_u)) (unit_byte true (get_or p.1 0 0) part.unit) in
    let is = duration_all p.0 t some part.digits (omega (arith, length-append p.1 rest)) byte (joined_names p.1 rest part.text.names (parts_names ps more)) (units_all p.1 rest part.text (parts_all ps more)) in
    joins_numeral state (p.0 ++ t) r T_DURATION holds (omega (arith, length-append p.0 t)) (digits_first p.0 t some part.digits) is stop
