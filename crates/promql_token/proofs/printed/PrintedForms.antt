-- Tokens that a printer writes are tokens.
use Rattle.std.proofs.Common.{◌≡◌, ℕ, suc, ◌+◌, ◌-◌, ◌<◌, Bool, true, false, cond, List, [], ◌∷◌, ◌++◌, length, get_or, take, drop, Ok, Err, refl, sym, ap, ◌∙◌, subst, ⊎_elim, arith, append_assoc, length-append, add-zero, zero-add, eqb-true}
use Rattle.std.specs.Prelude.{◌==◌, not, ◌&&◌, ◌||◌}
use Rattle.std.specs.Char.{is_ascii_digit}
use Rattle.std.specs.List.{concat, list_all, prefix_len}
use Rattle.std.proofs.Math.Seq.{drop-append_seam, drop-length}
use Rattle.std.proofs.lemmas.Grind.{common_steps}
use Rattle.std.proofs.lemmas.List.{append-nil, drop-drop, get_or_past, get_or-append-add}
use Rattle.promql_token.specs.declared.class.Class.{Class}
use Rattle.promql_token.specs.declared.class.Class.TheVariants as class
use Rattle.promql_token.specs.declared.fault.LexFaultKind.TheVariants.{Escape, Numeral}
use Rattle.promql_token.specs.declared.ids.TheConstants.{T_DURATION, T_NUMBER, T_STRING}
use Rattle.promql_token.specs.declared.state.Mode.{Mode}
use Rattle.promql_token.specs.declared.state.Mode.TheVariants as mode
use Rattle.promql_token.specs.declared.state.State.{State}
use Rattle.promql_text.specs.Texts.{Text}
use Rattle.promql_token.specs.Classes.{is_in, is_letter, end_of_run}
use Rattle.promql_token.specs.Laws.{parts, stops_numeral}
use Rattle.promql_token.specs.Lexing.{pieces}
use Rattle.promql_token.specs.TokenScanning.{Scanned, begins_numeral, is_hex, past_whole, past_point, past_sign, past_exponent, number_end, digits, units, is_quote, is_escape, string, string_from, numeral, outside, in_braces, in_brackets, scan_token, after}
use Rattle.promql_token.specs.Printed.{holds_strings, is_spelling, quote_parts, JoinsString, holds_numerals, are_digits, decimal, JoinsNumber}
use Rattle.promql_token.proofs.cursors.TestsAndCounts.{same_number}
use Rattle.promql_token.proofs.one_reading.Ends.{and_left, and_right, or_cases}
use Rattle.promql_token.proofs.printed.Concatenation.{joins}
use Rattle.promql_token.proofs.one_reading.Steps.{not_true}

-- ---- strings

-- from here on the string is read to the end of the text
abbrev Reads : ℕ → Text → Type 0
Reads quote z = (at : ℕ) → string_from quote false at z ≡ Ok (T_STRING, at + length z)

plain_run : (quote : ℕ) (p z : Text) → (quote == 96) ≡ false → list_all (λ b. not (b == quote) && not (b == 92)) p ≡ true → Reads quote z → Reads quote (p ++ z)
plain_run quote [] z raw h reads at = reads at
plain_run quote (b ∷ p) z raw h reads at =
    let here = and_left (not (b == quote) && not (b == 92)) (list_all (λ b. not (b == quote) && not (b == 92)) p) h in
    let rest = and_right (not (b == quote) && not (b == 92)) (list_all (λ b. not (b == quote) && not (b == 92)) p) h in
    let no_quote = not_true (b == quote) (and_left (not (b == quote)) (not (b == 92)) here) in
    let no_slash = not_true (b == 92) (and_right (not (b == quote)) (not (b == 92)) here) in
    let same : at + 1 + length (p ++ z) ≡ at + suc (length (p ++ z)) = omega arith in
    ap (λ c. cond c (Ok (T_STRING, at + 1)) (string_from quote ((b == 92) && not (quote == 96)) (at + 1) (p ++ z))) no_quote
    ∙ ap (λ c. string_from quote (c && not (quote == 96)) (at + 1) (p ++ z)) no_slash
    ∙ plain_run quote p z raw rest reads (at + 1) ∙ ap (λ n. Ok (T_STRING, n)) same

escape_pair : (quote b c : ℕ) (z : Text) → (quote == 96) ≡ false → (b == 92) ≡ true → is_quote quote ≡ true → is_escape quote c ≡ true → Reads quote z → Reads quote (b ∷ c ∷ z)
escape_pair quote b c z raw slash is_q esc reads at =
    let same : at + 1 + 1 + length z ≡ at + suc (suc (length z)) = omega arith in
    ap (λ x. cond x (Ok (T_STRING, at + 1)) (string_from quote ((b == 92) && not (quote == 96)) (at + 1) (c ∷ z))) (no_quote b quote slash is_q)
    ∙ (λ i. string_from quote (slash i && not (raw i)) (at + 1) (c ∷ z))
    ∙ ap (λ x. cond x (string_from quote false (at + 1 + 1) z) (Err (Escape, at + 1))) esc
    ∙ reads (at + 1 + 1) ∙ ap (λ n. Ok (T_STRING, n)) same
  where
    no_quote : (b quote : ℕ) → (b == 92) ≡ true → is_quote quote ≡ true → (b == quote) ≡ false
    no_quote b quote slash is_q = grind (arith, common_steps)

pair_is : (quote : ℕ) (p z : Text) → (quote == 96) ≡ false → is_quote quote ≡ true → ((length p == 2) && (get_or p 0 0 == 92) && is_escape quote (get_or p 1 0)) ≡ true → Reads quote z → Reads quote (p ++ z)
pair_is quote [] z raw is_q h reads = absurd (cc)
pair_is quote (b ∷ []) z raw is_q h reads = absurd (cc)
pair_is quote (b ∷ c ∷ []) z raw is_q h reads =
    let front = and_left (true && (b == 92)) (is_escape quote c) h in
    escape_pair quote b c z raw (and_right true (b == 92) front) is_q (and_right (true && (b == 92)) (is_escape quote c) h) reads
pair_is quote (b ∷ c ∷ d ∷ p) z raw is_q h reads = let never = three (length p) in absurd (cc)
  where
    three : (n : ℕ) → (suc (suc (suc n)) == 2) ≡ false
    three n = grind (arith, common_steps)

reads_spellings : (quote : ℕ) (ps : List Text) → (quote == 96) ≡ false → is_quote quote ≡ true → list_all (is_spelling quote) ps ≡ true → Reads quote (concat ps ++ quote ∷ [])
reads_spellings quote [] raw is_q h = λ at. ap (λ c. cond c (Ok (T_STRING, at + 1)) (string_from quote ((quote == 92) && not (quote == 96)) (at + 1) [])) (same quote)
  where
    same : (n : ℕ) → (n == n) ≡ true
    same n = grind (arith, common_steps)
reads_spellings quote (p ∷ ps) raw is_q h =
    let z : Text = concat ps ++ quote ∷ [] in
    let reads = reads_spellings quote ps raw is_q (and_right (is_spelling quote p) _ h) in
    subst (Reads quote) (sym (append_assoc p (concat ps) (quote ∷ [])))
    (⊎_elim (λ plain. plain_run quote p z raw plain reads) (λ pair. pair_is quote p z raw is_q pair reads)
    (or_cases (list_all (λ b. not (b == quote) && not (b == 92)) p) ((length p == 2) && (get_or p 0 0 == 92) && is_escape quote (get_or p 1 0)) (and_left (is_spelling quote p) _ h)))

string_alone : (quote : ℕ) (ps : List Text) → (quote == 96) ≡ false → is_quote quote ≡ true → list_all (is_spelling quote) ps ≡ true → string (quote_parts quote ps) ≡ Ok (T_STRING, length (quote_parts quote ps))
unfolding string
string_alone quote ps raw is_q h =
    let z : Text = concat ps ++ quote ∷ [] in
    let same : 1 + length z ≡ suc (length z) = omega arith in
    reads_spellings quote ps raw is_q h 1 ∙ ap (λ n. Ok (T_STRING, n)) same

pub quote_outside : (b c : ℕ) → is_quote b ≡ true → (is_ascii_digit b || ((b == 46) && is_ascii_digit c)) ≡ false
quote_outside b c h = grind (arith, common_steps)

pub quote_no_word : (b : ℕ) → is_quote b ≡ true → (is_letter b || (b == 58)) ≡ false
quote_no_word b h = grind (arith, common_steps)

pub quote_no_letter : (b : ℕ) → is_quote b ≡ true → is_letter b ≡ false
quote_no_letter b h = grind (arith, common_steps)

pub quote_apart : (b n : ℕ) → is_quote b ≡ true → is_quote n ≡ false → (b == n) ≡ false
quote_apart b n is other = by_bool (b == n) (λ e. let same = ap is_quote (eqb-true b n e) in absurd (cc)) (λ apart. apart)
  where
    by_bool : (c : Bool) {X : Type 0} → (c ≡ true → X) → (c ≡ false → X) → X
    by_bool true f g = f refl
    by_bool false f g = g refl

string_piece : (m : Mode) (depth quote : ℕ) (w : Text) (t : ℕ × ℕ) → holds_strings m ≡ true → is_quote quote ≡ true → string (quote ∷ w) ≡ Ok t → scan_token (record { depth = depth; mode = m }) (quote ∷ w) ≡ Ok t
unfolding scan_token outside in_braces
string_piece mode.Outside depth quote w t holds is_q is = rw (quote_outside quote (get_or w 0 0) is_q, quote_no_word quote is_q, is_q) is
string_piece mode.Braces depth quote w t holds is_q is =
    rw (quote_apart quote 44 is_q refl, quote_apart quote 61 is_q refl, quote_apart quote 33 is_q refl, quote_apart quote 123 is_q refl, quote_apart quote 125 is_q refl, quote_no_letter quote is_q, is_q) is
string_piece (mode.Brackets inside) depth quote w t holds is_q is = absurd (cc)

string_parts : (m : Mode) (quote : ℕ) (w r : Text) → holds_strings m ≡ true → is_quote quote ≡ true → parts m (quote ∷ w) r ≡ true
string_parts mode.Outside quote w r holds is_q = rw (quote_outside quote (get_or w 0 0) is_q, quote_no_word quote is_q, is_q) refl
string_parts mode.Braces quote w r holds is_q = rw (quote_no_letter quote is_q, is_q) refl
string_parts (mode.Brackets inside) quote w r holds is_q = absurd (cc)

pub joins_string : JoinsString
joins_string state quote ps r holds is_q raw h =
    let w : Text = concat ps ++ quote ∷ [] in
    joins state (quote ∷ w) r T_STRING (omega arith)
    (string_piece state.mode state.depth quote w (T_STRING, suc (length w)) holds is_q (string_alone quote ps raw is_q h))
    (string_parts state.mode quote w r holds is_q)

-- ---- runs

pub prefix_all : (p : ℕ → Bool) (w r : Text) → list_all p w ≡ true → p (get_or r 0 0) ≡ false → prefix_len p (w ++ r) ≡ length w
prefix_all p [] [] h stop = refl
prefix_all p [] (b ∷ r) h stop = rw stop refl
prefix_all p (b ∷ w) r h stop =
    let e = prefix_all p w r (and_right (p b) (list_all p w) h) stop in
    let same : 1 + length w ≡ suc (length w) = omega arith in
    ap (λ c. cond c (1 + prefix_len p (w ++ r)) 0) (and_left (p b) (list_all p w) h) ∙ ap (λ n. 1 + n) e ∙ same

-- a run after a front
pub past_middle : (c : Class) (u w r : Text) → list_all (is_in c) w ≡ true → is_in c (get_or r 0 0) ≡ false → end_of_run c (u ++ (w ++ r)) (length u) ≡ length u + length w
past_middle c u w r h stop = ap (λ z. length u + prefix_len (is_in c) z) (drop-append_seam u (w ++ r)) ∙ ap (λ n. length u + n) (prefix_all (is_in c) w r h stop)

pub past_front : (c : Class) (w r : Text) → list_all (is_in c) w ≡ true → is_in c (get_or r 0 0) ≡ false → end_of_run c (w ++ r) 0 ≡ length w
past_front c w r h stop = zero-add (prefix_len (is_in c) (w ++ r)) ∙ prefix_all (is_in c) w r h stop

-- ---- digits

no_x : (b : ℕ) → is_ascii_digit b ≡ true → ((b == 120) || (b == 88)) ≡ false
no_x b h = grind (arith, common_steps)

pub digit_name : (b : ℕ) → is_ascii_digit b ≡ true → is_in class.Name b ≡ true
digit_name b h = grind (arith, common_steps)

-- digits before a byte that is no `x` do not begin a hexadecimal number
pub no_hex : (w r : Text) → 0 < length w → are_digits w ≡ true → ((get_or r 0 0 == 120) || (get_or r 0 0 == 88)) ≡ false → is_hex (w ++ r) ≡ false
no_hex [] r some h stop = absurd (omega arith)
no_hex (b ∷ []) r some h stop = ap (λ x. (b == 48) && x) stop ∙ never (b == 48)
  where
    never : (a : Bool) → (a && false) ≡ false
    never true = refl
    never false = refl
no_hex (b ∷ c ∷ w) r some h stop =
    ap (λ x. (b == 48) && x) (no_x c (and_left (is_ascii_digit c) (list_all is_ascii_digit w) (and_right (is_ascii_digit b) (list_all is_ascii_digit (c ∷ w)) h))) ∙ never (b == 48)
  where
    never : (a : Bool) → (a && false) ≡ false
    never true = refl
    never false = refl

-- digits before a text that begins with no digit, no `x`
pub whole_is : (w r : Text) → 0 < length w → are_digits w ≡ true → is_ascii_digit (get_or r 0 0) ≡ false → ((get_or r 0 0 == 120) || (get_or r 0 0 == 88)) ≡ false → past_whole (w ++ r) ≡ length w
whole_is w r some h stop stop_x = ap (λ x. end_of_run (cond x class.HexDigit class.Digit) (w ++ r) (cond x 2 0)) (no_hex w r some h stop_x) ∙ past_front class.Digit w r h stop

first_digit : (w r : Text) → 0 < length w → are_digits w ≡ true → begins_numeral (w ++ r) ≡ true
first_digit [] r some h = absurd (omega arith)
first_digit (b ∷ w) r some h = ap (λ x. x || ((b == 46) && is_ascii_digit (get_or (w ++ r) 0 0))) (and_left (is_ascii_digit b) (list_all is_ascii_digit w) h)

pub at_seam : (w r : Text) → get_or (w ++ r) (length w) 0 ≡ get_or r 0 0
at_seam w r = let e : length w + 0 ≡ length w = omega arith in ap (λ n. get_or (w ++ r) n 0) (sym e) ∙ get_or-append-add w r 0 0

-- where a number ends whose whole digits end at n
pub number_whole : (z : Text) (n : ℕ) → past_whole z ≡ n → (get_or z n 0 == 46) ≡ false → ((get_or z n 0 == 101) || (get_or z n 0 == 69)) ≡ false → number_end z ≡ n
unfolding number_end
number_whole z n whole no_point no_e =
    let c = digits z in
    ap (λ k. past_exponent z (past_point c z k)) whole
    ∙ ap (λ b. past_exponent z (cond b (end_of_run c z (n + 1)) n)) no_point
    ∙ ap (λ b. cond b (end_of_run class.Digit z (past_sign z (n + 1))) n) no_e

-- the same with a point there
number_point : (z : Text) (n m : ℕ) → is_hex z ≡ false → past_whole z ≡ n → (get_or z n 0 == 46) ≡ true → end_of_run class.Digit z (n + 1) ≡ m → ((get_or z m 0 == 101) || (get_or z m 0 == 69)) ≡ false → number_end z ≡ m
unfolding number_end
number_point z n m plain whole point fraction no_e =
    ap (λ k. past_exponent z (past_point (digits z) z k)) whole
    ∙ ap (λ b. past_exponent z (cond b (end_of_run (digits z) z (n + 1)) n)) point
    ∙ ap (λ h. past_exponent z (end_of_run (cond h class.HexDigit class.Digit) z (n + 1))) plain
    ∙ ap (past_exponent z) fraction
    ∙ ap (λ b. cond b (end_of_run class.Digit z (past_sign z (m + 1))) m) no_e

pub prefix_whole : (p : ℕ → Bool) (w : Text) → list_all p w ≡ true → prefix_len p w ≡ length w
prefix_whole p [] h = refl
prefix_whole p (b ∷ w) h =
    let e = prefix_whole p w (and_right (p b) (list_all p w) h) in
    let same : 1 + length w ≡ suc (length w) = omega arith in
    ap (λ c. cond c (1 + prefix_len p w) 0) (and_left (p b) (list_all p w) h) ∙ ap (λ n. 1 + n) e ∙ same

-- a number that is the whole text
number_all : (z : Text) → number_end z ≡ length z → numeral z ≡ Ok (T_NUMBER, length z)
unfolding numeral
number_all z end =
    let n = length z in
    let past_end : get_or z n 0 ≡ 0 = get_or_past z n 0 (omega arith) in
    let f : ℕ → ℕ → Bool → Scanned = λ end run point. cond ((run == end) && not point) (Ok (T_NUMBER, end)) (cond (units (take (run - end) (drop end z))) (Ok (T_DURATION, run)) (Err (Numeral, 0))) in
    let run : end_of_run class.Name z n ≡ n = ap (λ r. n + prefix_len (is_in class.Name) r) (drop-length z) ∙ add-zero n in
    ap (λ e. f e (end_of_run class.Name z e) (get_or z e 0 == 46)) end
    ∙ (λ i. f n (run i) (past_end i == 46))
    ∙ ap (λ b. cond (b && true) (Ok (T_NUMBER, n)) (cond (units (take (n - n) (drop n z))) (Ok (T_DURATION, n)) (Err (Numeral, 0)))) (same_number n)

decimal_end : (whole fraction : Text) → 0 < length whole → are_digits whole ≡ true → are_digits fraction ≡ true → number_end (decimal whole fraction) ≡ length (decimal whole fraction)
decimal_end whole [] some h h2 =
    let past_end : get_or whole (length whole) 0 ≡ 0 = get_or_past whole (length whole) 0 (omega arith) in
    number_whole whole (length whole) (ap past_whole (sym (append-nil whole)) ∙ whole_is whole [] some h refl refl) (ap (λ b. b == 46) past_end) (ap (λ b. (b == 101) || (b == 69)) past_end)
decimal_end whole (b ∷ fraction) some h h2 =
    let digits2 : Text = b ∷ fraction in
    let r : Text = 46 ∷ digits2 in
    let z : Text = whole ++ r in
    let n = length whole in
    let after_point : drop (n + 1) z ≡ digits2 = sym (drop-drop 1 n z) ∙ ap (drop 1) (drop-append_seam whole r) in
    let len : n + 1 + suc (length fraction) ≡ length z = omega (arith, length-append whole r) in
    let fraction_end : end_of_run class.Digit z (n + 1) ≡ length z = ap (λ q. n + 1 + prefix_len is_ascii_digit q) after_point ∙ ap (λ k. n + 1 + k) (prefix_whole is_ascii_digit digits2 h2) ∙ len in
    let past_end : get_or z (length z) 0 ≡ 0 = get_or_past z (length z) 0 (omega arith) in
    number_point z n (length z) (no_hex whole r some h refl) (whole_is whole r some h refl refl) (ap (λ x. x == 46) (at_seam whole r)) fraction_end (ap (λ x. (x == 101) || (x == 69)) past_end)

-- ---- numerals at a place

pub digit_apart : (b n : ℕ) → is_ascii_digit b ≡ true → is_ascii_digit n ≡ false → (b == n) ≡ false
digit_apart b n is other = by_bool (b == n) (λ e. let same = ap is_ascii_digit (eqb-true b n e) in absurd (cc)) (λ apart. apart)
  where
    by_bool : (c : Bool) {X : Type 0} → (c ≡ true → X) → (c ≡ false → X) → X
    by_bool true f g = f refl
    by_bool false f g = g refl

digit_at : (m : Mode) (depth b : ℕ) (w : Text) (t : ℕ × ℕ) → holds_numerals m ≡ true → is_ascii_digit b ≡ true → numeral (b ∷ w) ≡ Ok t → scan_token (record { depth = depth; mode = m }) (b ∷ w) ≡ Ok t
unfolding scan_token outside in_brackets
digit_at mode.Outside depth b w t holds digit is = rw digit is
digit_at mode.Braces depth b w t holds digit is = absurd (cc)
digit_at (mode.Brackets inside) depth b w t holds digit is = rw (digit_apart b 58 digit refl, digit_apart b 93 digit refl, digit_apart b 91 digit refl, digit) is

digit_parts : (m : Mode) (b : ℕ) (w r : Text) → holds_numerals m ≡ true → is_ascii_digit b ≡ true → stops_numeral (b ∷ w) r ≡ true → parts m (b ∷ w) r ≡ true
digit_parts mode.Outside b w r holds digit stop = rw digit stop
digit_parts mode.Braces b w r holds digit stop = absurd (cc)
digit_parts (mode.Brackets inside) b w r holds digit stop = rw digit stop

-- a numeral that begins with a digit
pub joins_numeral : (state : State) (w r : Text) (id : ℕ) → holds_numerals state.mode ≡ true → 0 < length w → is_ascii_digit (get_or w 0 0) ≡ true → numeral w ≡ Ok (id, length w) → stops_numeral w r ≡ true
    → pieces state (w ++ r) ≡ Ok (id, w) ∷ pieces (after state id) r
joins_numeral state [] r id holds some digit is stop = absurd (omega arith)
joins_numeral state (b ∷ w) r id holds some digit is stop =
    joins state (b ∷ w) r id some (digit_at state.mode state.depth b w (id, suc (length w)) holds digit is) (digit_parts state.mode b w r holds digit stop)

pub digits_first : (w r : Text) → 0 < length w → are_digits w ≡ true → is_ascii_digit (get_or (w ++ r) 0 0) ≡ true
digits_first [] r some h = absurd (omega arith)
digits_first (b ∷ w) r some h = and_left (is_ascii_digit b) (list_all is_ascii_digit w) h

decimal_first : (whole fraction : Text) → 0 < length whole → are_digits whole ≡ true → (0 < length (decimal whole fraction)) × (is_ascii_digit (get_or (decimal whole fraction) 0 0) ≡ true)
decimal_first whole [] some h = (some, ap (λ z. is_ascii_digit (get_or z 0 0)) (sym (append-nil whole)) ∙ digits_first whole [] some h)
decimal_first whole (b ∷ fraction) some h = (omega (arith, length-append whole (46 ∷ b ∷ fraction)), digits_first whole (46 ∷ b ∷ fraction) some h)

pub joins_number : JoinsNumber
joins_number state whole fraction r holds some h h2 stop =
    let first = decimal_first whole fraction some h in
    let w = decimal whole fraction in
    joins_numeral state w r T_NUMBER holds first.0 first.1 (number_all w (decimal_end whole fraction some h h2)) stop
