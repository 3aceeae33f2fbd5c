-- The texts of strings, numbers and durations are tokens before what doesn't go on with them.
use Rattle.std.proofs.Common.{◌≡◌, ℕ, zero, suc, ◌-◌, ◌*◌, ◌^◌, ◌<◌, Bool, true, false, cond, List, [], ◌∷◌, ◌++◌, length, get_or, map, Ok, Option, refl, sym, ap, ◌∙◌, subst, arith, append_assoc, length-append}
use Rattle.std.specs.Prelude.{⊤, ◌/◌, ◌%◌, ◌==◌, ◌||◌, codes, replicate}
use Rattle.std.specs.Char.{digit_value, is_ascii_digit}
use Rattle.std.specs.Fmt.{decimal}
use Rattle.std.specs.List.{concat, list_all}
use Rattle.std.specs.Option.{option_map_or}
use Rattle.std.specs.Str.Parse.{AllDigits, digits_value}
use Rattle.std.proofs.lemmas.Bool.{cond_both, eqb-false, ne_eqb}
use Rattle.std.proofs.lemmas.Bool.Decides.{nat_tests}
use Rattle.std.proofs.lemmas.Fmt.{decimal_is_IsNumeral_wide}
use Rattle.std.proofs.lemmas.List.Folds.{list_all-append}
use Rattle.std.proofs.lemmas.Str.Parse.{digit_from_value}
use Rattle.std.proofs.Math.Nat.{div-le_self, mod-le}
use Rattle.promql_text.specs.Durations.{duration_of, nanos_of, word_of}
use Rattle.promql_text.specs.DurationText.{count_text, counts_text, duration_text, fraction_text, whole_text}
use Rattle.promql_text.specs.DurationReaders.{short_units}
use Rattle.promql_text.specs.NumberDigits.{exact_text, magnitude_text, pad_zeros}
use Rattle.promql_text.specs.Numbers.{Exact, IsExact}
use Rattle.promql_text.specs.Quoting.{escaped_byte, escaped_text, quoted_text}
use Rattle.promql_text.specs.Texts.{Text}
use Rattle.promql_text.specs.declared.duration.Unit.{Unit}
use Rattle.promql_text.specs.declared.duration.Unit.TheVariants.{Year, Week, Day, Hour, Minute, Second, Milli}
use Rattle.promql_text.specs.declared.number.Number.TheVariants as number
use Rattle.promql_text.proofs.numerals.Fractions.{fraction_is}
use Rattle.promql_text.proofs.durations.ReadsDuration.{duration_reads}
use Rattle.promql_token.specs.declared.class.Class.TheVariants as class
use Rattle.promql_token.specs.declared.ids.TheConstants.{T_NUMBER, T_STRING, T_DURATION}
use Rattle.promql_token.specs.declared.state.Mode.TheVariants as mode
use Rattle.promql_token.specs.declared.state.State.{State}
use Rattle.promql_token.specs.Classes.{is_in}
use Rattle.promql_token.specs.Ids.{keyword_in_any_case}
use Rattle.promql_token.specs.Laws.{stops_numeral}
use Rattle.promql_token.specs.Lexing.{pieces}
use Rattle.promql_token.specs.TokenScanning.{after, word_id}
use Rattle.promql_token.specs.Printed as printed
use Rattle.promql_token.specs.Printed.{are_digits, holds_numerals, is_part, is_spelling, parts_text, quote_parts}
use Rattle.promql_token.specs.PrintedValues.{JoinsNumberText, JoinsQuoted, JoinsTime, time_id}
use Rattle.promql_token.proofs.printed.InLongerTexts.{stops}
use Rattle.promql_token.proofs.cursors.TestsAndCounts.{and_both}
use Rattle.promql_token.proofs.printed.DurationTokens.{joins_duration}
use Rattle.promql_token.proofs.one_reading.Ends.{and_left, and_right}
use Rattle.promql_token.proofs.printed.Concatenation.{joins_word}
use Rattle.promql_token.proofs.printed.PrintedForms.{joins_number, joins_string}

-- ---- strings

escaped_byte_is_spelling : (b : ℕ) → is_spelling 34 (escaped_byte b) ≡ true
escaped_byte_is_spelling b =
    let P : Option ℕ → Type 0 = λ k. is_spelling 34 (option_map_or (λ k. 92 ∷ k ∷ []) k (b ∷ [])) ≡ true in
    cond_both (b == 92) _ _ P (λ _. refl) (λ slash.
    cond_both (b == 34) _ _ P (λ _. refl) (λ quote.
    cond_both (b == 10) _ _ P (λ _. refl) (λ _.
    cond_both (b == 13) _ _ P (λ _. refl) (λ _.
    cond_both (b == 9) _ _ P (λ _. refl) (λ _. rw (quote, slash) refl)))))

all_spelled : (s : Text) → list_all (is_spelling 34) (map escaped_byte s) ≡ true
all_spelled [] = refl
all_spelled (b ∷ s) = and_both _ _ (escaped_byte_is_spelling b) (all_spelled s)

joined_escapes : (s : Text) → concat (map escaped_byte s) ≡ escaped_text s
joined_escapes [] = refl
joined_escapes (b ∷ s) = ap (λ z. escaped_byte b ++ z) (joined_escapes s)

pub joins_quoted : JoinsQuoted
joins_quoted state s r holds =
    let same : quote_parts 34 (map escaped_byte s) ≡ quoted_text s = ap (λ z. 34 ∷ (z ++ 34 ∷ [])) (joined_escapes s) in
    subst (λ q. pieces state (q ++ r) ≡ Ok (T_STRING, q) ∷ pieces (after state T_STRING) r) same (joins_string state 34 (map escaped_byte s) r holds refl refl (all_spelled s))

-- ---- digits

one_digit : (c : ℕ) → digit_value c < 10 → is_ascii_digit c ≡ true
one_digit c below = let h = digit_from_value c below in grind (arith, nat_tests)

all_digits : (ds : Text) → AllDigits 10 ds → are_digits ds ≡ true
all_digits [] h = refl
all_digits (c ∷ cs) h = and_both _ _ (one_digit c h.0) (all_digits cs h.1)

zeros : (n : ℕ) → are_digits (replicate n 48) ≡ true
zeros zero = refl
zeros (suc n) = zeros n

digits_then : (xs ys : Text) → are_digits xs ≡ true → are_digits ys ≡ true → are_digits (xs ++ ys) ≡ true
digits_then xs ys left right = list_all-append is_ascii_digit xs ys ∙ and_both _ _ left right

record IsDigits (ds : Text) : Type 0 where
  some : 0 < length ds
  digits : are_digits ds ≡ true

decimal_is : (n : ℕ) → n < 10 ^ 64 → IsDigits (decimal n)
decimal_is n h = let is = decimal_is_IsNumeral_wide n h in record { some = is.0.0; digits = all_digits (decimal n) is.0.1 }

-- ---- numbers

with_point : (whole fraction : Text) → 0 < length fraction → printed.decimal whole fraction ≡ whole ++ (46 ∷ fraction)
with_point whole [] some = absurd (omega arith)
with_point whole (b ∷ fraction) some = refl

point_joins : (state : State) (whole fraction r : Text) → holds_numerals state.mode ≡ true → IsDigits whole → IsDigits fraction → stops_numeral (whole ++ (46 ∷ fraction)) r ≡ true
    → pieces state ((whole ++ (46 ∷ fraction)) ++ r) ≡ Ok (T_NUMBER, whole ++ (46 ∷ fraction)) ∷ pieces (after state T_NUMBER) r
point_joins state whole fraction r holds w f =
    subst (λ t. stops_numeral t r ≡ true → pieces state (t ++ r) ≡ Ok (T_NUMBER, t) ∷ pieces (after state T_NUMBER) r) (with_point whole fraction f.some) (joins_number state whole fraction r holds w.some w.digits f.digits)

whole_joins : (state : State) (whole r : Text) → holds_numerals state.mode ≡ true → IsDigits whole → stops_numeral whole r ≡ true → pieces state (whole ++ r) ≡ Ok (T_NUMBER, whole) ∷ pieces (after state T_NUMBER) r
whole_joins state whole r holds w = joins_number state whole [] r holds w.some w.digits refl

div_low : (a b : ℕ) → a < 10 ^ 38 → a / b < 10 ^ 64
div_low a b h = omega (arith, h, div-le_self a b)

magnitude_joins : (state : State) (d : Exact) (r : Text) → holds_numerals state.mode ≡ true → IsExact d → stops_numeral (magnitude_text d) r ≡ true
    → pieces state (magnitude_text d ++ r) ≡ Ok (T_NUMBER, magnitude_text d) ∷ pieces (after state T_NUMBER) r
magnitude_joins state d r holds e =
    let P : Text → Type 0 = λ t. stops_numeral t r ≡ true → pieces state (t ++ r) ≡ Ok (T_NUMBER, t) ∷ pieces (after state T_NUMBER) r in
    cond_both (d.places == 0) _ _ P
    (λ _. whole_joins state (decimal d.digits ++ replicate d.zeros 48) r holds (first_digits d.digits (omega (arith, e.short)) d.zeros))
    (λ _. point_joins state (decimal (d.digits / 10 ^ d.places)) (pad_zeros d.places (d.digits % 10 ^ d.places)) r holds
    (decimal_is _ (div_low d.digits (10 ^ d.places) e.short)) (padded_is d.places _ (mod_low d.digits (10 ^ d.places) e.short)))
  where
    first_digits : (n : ℕ) → n < 10 ^ 64 → (z : ℕ) → IsDigits (decimal n ++ replicate z 48)
    first_digits n low z =
        let own = decimal_is n low in
        let some = own.some in
        record { some = omega (arith, some, length-append (decimal n) (replicate z 48)); digits = digits_then (decimal n) (replicate z 48) own.digits (zeros z) }

    mod_low : (a b : ℕ) → a < 10 ^ 38 → a % b < 10 ^ 64
    mod_low a b h = omega (arith, h, mod-le a b)

    padded_is : (k n : ℕ) → n < 10 ^ 64 → IsDigits (pad_zeros k n)
    padded_is k n low =
        let own = decimal_is n low in
        let some = own.some in
        let more : ℕ = k - length (decimal n) in
        record { some = omega (arith, some, length-append (replicate more 48) (decimal n)); digits = digits_then (replicate more 48) (decimal n) (zeros more) own.digits }

no_word_byte : (b : ℕ) → is_in class.Name b ≡ false → (b == 58) ≡ false → is_in class.Word b ≡ false
no_word_byte b name colon = ap (λ c. c || (b == 58)) name ∙ colon

infinite_id : (r : Text) → word_id (codes "Inf") r ≡ T_NUMBER
unfolding keyword_in_any_case
infinite_id r = refl

nan_id : (r : Text) → word_id (codes "NaN") r ≡ T_NUMBER
unfolding keyword_in_any_case
nan_id r = refl

number_stays : (depth : ℕ) → after (record { depth = depth; mode = mode.Outside }) T_NUMBER ≡ record { depth = depth; mode = mode.Outside }
unfolding after
number_stays depth = refl

pub joins_number_text : JoinsNumberText
joins_number_text depth (number.Finite d) r e above stop colon =
    let state : State = record { depth = depth; mode = mode.Outside } in
    let same : exact_text d ≡ magnitude_text d = ap (λ b. cond b (45 ∷ []) [] ++ magnitude_text d) above in
    subst (λ t. stops_numeral t r ≡ true → pieces state (t ++ r) ≡ Ok (T_NUMBER, t) ∷ pieces state r) (sym same)
    (λ stop. magnitude_joins state d r refl e stop ∙ ap (λ s. Ok (T_NUMBER, magnitude_text d) ∷ pieces s r) (number_stays depth)) stop
joins_number_text depth number.Inf r e above stop colon =
    let s = stops (codes "Inf") r stop in
    joins_word depth (codes "Inf") r refl (no_word_byte (get_or r 0 0) s.name colon) ∙ ap (λ id. Ok (id, codes "Inf") ∷ pieces (record { depth = depth; mode = mode.Outside }) r) (infinite_id r)
joins_number_text depth number.NaN r e above stop colon =
    let s = stops (codes "NaN") r stop in
    joins_word depth (codes "NaN") r refl (no_word_byte (get_or r 0 0) s.name colon) ∙ ap (λ id. Ok (id, codes "NaN") ∷ pieces (record { depth = depth; mode = mode.Outside }) r) (nan_id r)
joins_number_text depth number.NegInf r e above stop colon = absurd (cc)

-- ---- durations

-- parts of which the first may have any unit
abbrev Front : List (Text × Text) → Type 0
Front [] = ⊤
Front (p ∷ ps) = (is_part true p ≡ true) × (list_all (is_part false) ps ≡ true)

record Whole (z : Text) : Type 0 where
  list : List (Text × Text)
  front : Front list
  text : parts_text list ≡ z

record Counts (z : Text) : Type 0 where
  whole : Whole z
  later : list_all (is_part false) whole.list ≡ true

abbrev is_short : Unit → Bool
is_short Year = false
is_short u = true

some_digits : (ds : Text) → IsDigits ds → (length ds == 0) ≡ false
some_digits ds is = let some = is.some in ne_eqb (length ds) 0 (λ e. absurd (omega (arith, some)))

unit_part : (first : Bool) (ds : Text) (u : Unit) → is_short u ≡ true → IsDigits ds → is_part first (ds, word_of u) ≡ true
unit_part first ds Year short is = absurd (cc)
unit_part first ds Week short is = rw (some_digits ds is, is.digits) refl
unit_part first ds Day short is = rw (some_digits ds is, is.digits) refl
unit_part first ds Hour short is = rw (some_digits ds is, is.digits) refl
unit_part first ds Minute short is = rw (some_digits ds is, is.digits) refl
unit_part first ds Second short is = rw (some_digits ds is, is.digits) refl
unit_part first ds Milli short is = rw (some_digits ds is, is.digits) refl

year_part : (ds : Text) → IsDigits ds → is_part true (ds, word_of Year) ≡ true
year_part ds is = rw (some_digits ds is, is.digits) refl

part_below : (a b : ℕ) → a < 10 ^ 64 → a / b < 10 ^ 64
part_below a b h = omega (arith, h, div-le_self a b)

rest_below : (a b : ℕ) → a < 10 ^ 64 → a % b < 10 ^ 64
rest_below a b h = omega (arith, h, mod-le a b)

count_more : (c : ℕ) (u : Unit) (rest : Text) → is_short u ≡ true → c < 10 ^ 64 → Counts rest → Counts (count_text c u ++ rest)
count_more c u rest short low more =
    let is = decimal_is c low in
    cond_both (c == 0) [] (decimal c ++ word_of u) (λ t. Counts (t ++ rest)) (λ _. more)
    (λ _. record {
      whole = record {
        list = (decimal c, word_of u) ∷ more.whole.list;
        front = (unit_part true (decimal c) u short is, more.later);
        text = ap (λ z. decimal c ++ (word_of u ++ z)) more.whole.text ∙ sym (append_assoc (decimal c) (word_of u) rest);
      };
      later = and_both _ _ (unit_part false (decimal c) u short is) more.later;
    })

counts_are : (us : List Unit) (n : ℕ) → list_all is_short us ≡ true → n < 10 ^ 64 → Counts (counts_text us n)
counts_are [] n short low = record { whole = record { list = []; front = tt; text = refl }; later = refl }
counts_are (u ∷ us) n short low =
    count_more (n / nanos_of u) u (counts_text us (n % nanos_of u)) (and_left (is_short u) _ short) (part_below n (nanos_of u) low)
    (counts_are us (n % nanos_of u) (and_right (is_short u) _ short) (rest_below n (nanos_of u) low))

years_are : (c : ℕ) → c < 10 ^ 64 → Whole (count_text c Year)
years_are c low =
    cond_both (c == 0) [] (decimal c ++ word_of Year) Whole (λ _. record { list = []; front = tt; text = refl })
    (λ _. record { list = (decimal c, word_of Year) ∷ []; front = (year_part (decimal c) (decimal_is c low), refl); text = refl })

weeks_are : (c : ℕ) → c < 10 ^ 64 → Whole (count_text c Week)
weeks_are c low =
    cond_both (c == 0) [] (decimal c ++ word_of Week) Whole (λ _. record { list = []; front = tt; text = refl })
    (λ _. record { list = (decimal c, word_of Week) ∷ []; front = (unit_part true (decimal c) Week refl (decimal_is c low), refl); text = refl })

whole_is : (n : ℕ) → n < 10 ^ 64 → Whole (whole_text n)
whole_is n low =
    cond_both (n % nanos_of Year == 0) (count_text (n / nanos_of Year) Year) (cond (n % nanos_of Week == 0) (count_text (n / nanos_of Week) Week) (counts_text short_units n)) Whole
    (λ _. years_are (n / nanos_of Year) (part_below n (nanos_of Year) low))
    (λ _. cond_both (n % nanos_of Week == 0) (count_text (n / nanos_of Week) Week) (counts_text short_units n) Whole
    (λ _. weeks_are (n / nanos_of Week) (part_below n (nanos_of Week) low))
    (λ _. (counts_are short_units n refl low).whole))

no_empty : (n : ℕ) → 0 < n → n < 2 ^ 64 * 1_000_000_000 → duration_text n ≡ [] → ⊥
unfolding duration_of
no_empty n some fits is = let reads : duration_of [] ≡ Ok n = subst (λ z. duration_of z ≡ Ok n) is (duration_reads n some fits) in cc

fraction_some : (fs : Text) (r : ℕ) → digits_value 10 fs * 10 ^ (9 - length fs) ≡ r → (r ≡ 0 → ⊥) → 0 < length fs
fraction_some [] r value some = absurd (some (omega arith))
fraction_some (c ∷ cs) r value some = omega arith

module _ (state : State) (n : ℕ) (r : Text) (holds : holds_numerals state.mode ≡ true) (some : 0 < n) (fits : n < 2 ^ 64 * 1_000_000_000) where
  abbrev Stands : Text → ℕ → Type 0
  Stands z id = stops_numeral z r ≡ true → pieces state (z ++ r) ≡ Ok (id, z) ∷ pieces (after state id) r

  whole_stands : (z : Text) → (z ≡ [] → ⊥) → (list : List (Text × Text)) → Front list → parts_text list ≡ z → Stands z T_DURATION
  whole_stands z filled [] front text = absurd (filled (sym text))
  whole_stands z filled (p ∷ ps) front text = subst (λ z. Stands z T_DURATION) text (joins_duration state p ps r holds front.0 front.1)

  seconds_stand : (n % nanos_of Milli == 0) ≡ false → Stands (decimal (n / nanos_of Second) ++ (46 ∷ fraction_text 9 (n % nanos_of Second))) T_NUMBER
  seconds_stand odd =
      let fs : Text = fraction_text 9 (n % nanos_of Second) in
      let fraction = fraction_is 9 (n % nanos_of Second) (omega arith) in
      let apart = eqb-false _ _ odd in
      point_joins state (decimal (n / nanos_of Second)) fs r holds (decimal_is (n / nanos_of Second) (omega arith))
      (record { some = fraction_some fs (n % nanos_of Second) fraction.value (λ none. apart (omega arith)); digits = all_digits fs fraction.digits })

  by_test : (b : Bool) → (n % nanos_of Milli == 0) ≡ b
      → duration_text n ≡ cond b (whole_text n) (decimal (n / nanos_of Second) ++ (46 ∷ fraction_text 9 (n % nanos_of Second))) → Stands (duration_text n) (cond b T_DURATION T_NUMBER)
  by_test true even text =
      let w = whole_is n (omega arith) in
      subst (λ z. Stands z T_DURATION) (sym text) (whole_stands (whole_text n) (λ none. no_empty n some fits (text ∙ none)) w.list w.front w.text)
  by_test false odd text = subst (λ z. Stands z T_NUMBER) (sym text) (seconds_stand odd)

  time_stands : Stands (duration_text n) (time_id n)
  unfolding duration_text
  time_stands =
      by_test (n % nanos_of Milli == 0) refl
      (ap (λ c. cond c (codes "0s") (cond (n % nanos_of Milli == 0) (whole_text n) (decimal (n / nanos_of Second) ++ (46 ∷ fraction_text 9 (n % nanos_of Second))))) (ne_eqb n 0 (λ e. absurd (omega arith))))

pub joins_time : JoinsTime
joins_time state n r holds some fits = time_stands state n r holds some fits
