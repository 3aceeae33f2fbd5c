-- Printed numbers, times, labels and groupings read back.
use Rattle.std.proofs.Common.{◌≡◌, ℕ, ◌*◌, ◌%◌, ◌^◌, ◌<◌, refl, sym, ◌∙◌, ap, subst, arith, Bool, true, false, cond, not, ◌&&◌, Option, Some, None, length}
use Rattle.std.specs.Prelude.{Result, Ok, Err, ok_or, ◌==◌, nat_lt, if◌then◌else◌, option_map}
use Rattle.std.proofs.lemmas.Bool.Decides.{nat_tests}
use Rattle.promql_text.specs.Durations.{duration_of, in_range, of_form, of_parts, of_seconds, nanos_of, second_nanos, parts_nanos, units}
use Rattle.promql_text.specs.DecimalForm as form
use Rattle.promql_text.specs.DurationText.{duration_text}
use Rattle.promql_text.specs.NumberText.{number_text, read_number}
use Rattle.promql_text.specs.Numbers.{Exact, IsExact}
use Rattle.promql_text.specs.Quoting.{quoted_text}
use Rattle.promql_text.specs.Texts.{Text}
use Rattle.promql_text.specs.Values.{IsNumber, is_below_zero, neg, from_nanos}
use Rattle.promql_text.specs.declared.duration.DurationFault.{DurationFault}
use Rattle.promql_text.specs.declared.duration.DurationFault.TheVariants as fault
use Rattle.promql_text.specs.declared.duration.Unit.TheVariants.{Milli}
use Rattle.promql_text.specs.declared.number.Number.{Number}
use Rattle.promql_text.specs.declared.number.Number.TheVariants.{Finite, Inf, NegInf, NaN}
use Rattle.promql_text.specs.declared.number.NumberFault.{NumberFault}
use Rattle.promql_text.proofs.numbers.Exacts.{seconds_value, with_places_is}
use Rattle.promql_text.proofs.numbers.InForm.{read_in_form}
use Rattle.promql_text.proofs.numbers.OneForm.{negated_in_form}
use Rattle.promql_text.proofs.quoting.Quotes.{unquoted_text-quoted}
use Rattle.promql_text.proofs.numbers.ReadsBack.{reads_back}
use Rattle.promql_text.proofs.durations.ReadsDuration.{duration_reads}
use Rattle.promql_text.proofs.numerals.ShortNumbers.{zeroless}
use Rattle.promql_grammar.specs.Results.{◌then◌}
use Rattle.promql_grammar.specs.GrammarParts as part
use Rattle.promql_syntax.specs.BuildErrors as errors
use Rattle.promql_syntax.specs.PartBuilding.{string_value, number_value, signed_number, duration_value, time_value, on_error}
use Rattle.promql_grammar.specs.GrammarParts.{is_minus}
use Rattle.promql_syntax.proofs.printed.PrintedParts.{sign, magnitude, time}
use Rattle.promql_syntax.proofs.building.SingleAnswers.{then_steps, then_leads, same_ok}
use Rattle.promql_syntax.specs.PartWords.{step_value}

-- ---- strings

pub string_again : (s : Text) → string_value (quoted_text s) ≡ Ok s
string_again s = ap (λ o. ok_or o Rattle.promql_syntax.specs.BuildErrors.quoted) (unquoted_text-quoted s)

-- ---- numbers

not_zero : (d : Exact) → IsExact d → d.is_negative ≡ true → (d.digits == 0) ≡ false
not_zero d is minus = decided (d.digits == 0) refl
  where
    decided : (b : Bool) → (d.digits == 0) ≡ b → b ≡ false
    decided true e = let none : d.digits ≡ 0 = grind (arith, nat_tests) in let plus : d.is_negative ≡ false = (is.one_zero none).0 in cc
    decided false e = refl

-- a number below zero is the opposite of its opposite, which is not below zero
pub below_zero : (n : Number) → IsNumber n → is_below_zero n ≡ true → (neg (neg n) ≡ n) × (is_below_zero (neg n) ≡ false)
below_zero (Finite d) is minus =
    let some = not_zero d is minus in (
      (λ i. Finite (record d { is_negative = not (not (minus i) && not (some i)) && not (some i) }))
          ∙ (λ i. Finite (record d { is_negative = sym minus i })),
      λ i. not (minus i) && not (some i),
    )
below_zero Inf is minus = cc
below_zero NegInf is minus = (refl, refl)
below_zero NaN is minus = cc

pub number_is : (text : Text) (n : Number) → number_value text ≡ Ok n → (read_number text ≡ Ok n) × IsNumber n
number_is text n e = go (read_number text) refl e
  where
    go : (r : Result Number NumberFault) → read_number text ≡ r → on_error errors.number r ≡ Ok n → (read_number text ≡ Ok n) × IsNumber n
    go (Ok m) is e = let same : m ≡ n = cc in let both : read_number text ≡ Ok n = is ∙ ap Ok same in (both, read_in_form text n both)
    go (Err f) is e = cc

pub number_again : (n : Number) → IsNumber n → number_value (number_text n) ≡ Ok n
number_again n is = ap (on_error errors.number) (reads_back n is)

-- a sign and the number without it are the number
pub signed_again : (n : Number) → IsNumber n → signed_number (sign (is_below_zero n)) (number_text (magnitude n)) ≡ Ok n
signed_again n is = go (is_below_zero n) refl
  where
    go : (b : Bool) → is_below_zero n ≡ b → signed_number (sign b) (number_text (cond b (neg n) n)) ≡ Ok n
    go true minus = then_leads (number_value (number_text (neg n))) _ (neg n) (Ok n) (number_again (neg n) (negated_in_form n is)) (ap Ok (below_zero n is minus).0)
    go false plus = then_leads (number_value (number_text n)) _ n (Ok n) (number_again n is) refl

signed_in_form : (b : Bool) (n : Number) → IsNumber n → IsNumber (cond b (neg n) n)
signed_in_form true n is = negated_in_form n is
signed_in_form false n is = is

pub signed_is : (s : part.Signed) (text : Text) (n : Number) → signed_number s text ≡ Ok n → IsNumber n
signed_is s text n e =
    let step = then_steps (number_value text) (λ m. Ok (if is_minus s then neg m else m)) n e in
    let same : cond (is_minus s) (neg step.value) step.value ≡ n = same_ok _ _ _ _ refl refl step.leads in
    subst IsNumber same (signed_in_form (is_minus s) step.value (number_is text step.value step.is).1)

-- ---- times

pub record IsTime (n : ℕ) : Type 0 where
  pub some : 0 < n
  pub less : n < 2 ^ 64 * 1_000_000_000

ranged_is : (a b : Bool) (m n : ℕ) (e f : DurationFault) → (m == 0) ≡ a → nat_lt m (2 ^ 64 * 1_000_000_000) ≡ b → cond a (Err e) (cond b (Ok m) (Err f)) ≡ Ok n → IsTime n
ranged_is true b m n u v f h e = cc
ranged_is false true m n u v f h e = let same : m ≡ n = cc in subst IsTime same (record { some = grind (arith, nat_tests); less = grind (arith, nat_tests) })
ranged_is false false m n u v f h e = cc

in_range_is : (m n : ℕ) → in_range m ≡ Ok n → IsTime n
in_range_is m n e = ranged_is (m == 0) (nat_lt m (2 ^ 64 * 1_000_000_000)) m n _ _ refl refl e

parts_are : (o : Option ℕ) (n : ℕ) → of_parts o ≡ Ok n → IsTime n
parts_are None n e = cc
parts_are (Some m) n e = in_range_is m n e

seconds_are : (b : Bool) (r : form.Reading) (n : ℕ) → of_seconds b r ≡ Ok n → IsTime n
seconds_are b form.NotANumber n e = cc
seconds_are true form.Infinite n e = cc
seconds_are false form.Infinite n e = cc
seconds_are true (form.Finite m) n e = cc
seconds_are false (form.Finite m) n e = in_range_is (second_nanos m) n e

form_is : (o : Option form.Signed) (s : Text) (n : ℕ) → of_form o s ≡ Ok n → IsTime n
form_is (Some f) s n e = seconds_are f.is_negative f.reading n e
form_is None s n e = parts_are (parts_nanos units s) n e

duration_is : (s : Text) (n : ℕ) → duration_of s ≡ Ok n → IsTime n
unfolding duration_of
duration_is s n e = go (length s == 0) e
  where
    go : (b : Bool) → cond b (Err fault.Empty) (of_form (form.decimal_form s) s) ≡ Ok n → IsTime n
    go true e = cc
    go false e = form_is (form.decimal_form s) s n e

duration_value_is : (s : Text) (n : ℕ) → duration_value s ≡ Ok n → IsTime n
duration_value_is s n e = go (duration_of s) refl e
  where
    go : (r : Result ℕ DurationFault) → duration_of s ≡ r → on_error errors.duration r ≡ Ok n → IsTime n
    go (Ok m) is e = let same : m ≡ n = cc in subst IsTime same (duration_is s m is)
    go (Err f) is e = cc

pub time_is : (t : part.Time) (n : ℕ) → time_value t ≡ Ok n → IsTime n
time_is (part.seconds text) n e = duration_value_is text n e
time_is (part.duration text) n e = duration_value_is text n e

duration_again : (n : ℕ) → IsTime n → duration_value (duration_text n) ≡ Ok n
duration_again n is = ap (on_error errors.duration) (duration_reads n is.some is.less)

pub time_again : (n : ℕ) → IsTime n → time_value (time n) ≡ Ok n
time_again n is = go (n % nanos_of Milli == 0)
  where
    go : (b : Bool) → time_value (cond b (part.duration (duration_text n)) (part.seconds (duration_text n))) ≡ Ok n
    go true = duration_again n is
    go false = duration_again n is

-- a step, where there is one
abbrev pub IsStep : Option ℕ → Type 0
IsStep None = Unit {0}
IsStep (Some n) = IsTime n

pub step_is : (s : Option part.Time) (m : Option ℕ) → step_value s ≡ Ok m → IsStep m
step_is None m e = let same : None ≡ m = cc in subst IsStep same tt
step_is (Some t) m e =
    let step = then_steps (time_value t) (λ n. Ok (Some n)) m e in
    let same : Some step.value ≡ m = same_ok _ _ _ _ refl refl step.leads in
    subst IsStep same (time_is t step.value step.is)

pub step_again : (m : Option ℕ) → IsStep m → step_value (option_map time m) ≡ Ok m
step_again None is = refl
step_again (Some n) is = then_leads (time_value (time n)) _ n (Ok (Some n)) (time_again n is) refl

-- the seconds of a duration are a number
pub nanos_number : (n : ℕ) → IsTime n → IsNumber (from_nanos n)
nanos_number n is =
    let parts = zeroless 29 n is.some (let less = is.less in omega arith) in
    let above : 0 < parts.digits = (let ends = parts.ends in omega (arith, ends)) in
    let P : Exact → Type 0 = λ d. IsExact d in
    subst P (seconds_value parts.digits parts.zeros n parts.is above parts.ends is.less) (with_places_is parts.digits parts.zeros n 9 parts.is above parts.ends is.less (omega arith))
