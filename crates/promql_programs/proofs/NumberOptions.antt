-- The numbers of options, as `parse` reads them.
use Rattle.std.proofs.Common.{◌≡◌, ℕ, ◌^◌, Bool, true, false, ◌&&◌, cond, [], ◌∷◌, length, Some, None, refl, sym, ap, ◌∙◌}
use Rattle.std.specs.Prelude.{nat_lt, Result, Ok, Err}
use Rattle.std.specs.Char.{digit_value}
use Rattle.std.specs.List.{list_all}
use Rattle.std.specs.Result.{result_ok}
use Rattle.std.specs.Str.Parse.{AllDigits, ParsesUnsigned, digits_value, without_leading_plus}
use Rattle.std.proofs.lemmas.Bool.{and_parts, lt-ltb, ltb-true}
use Rattle.promql_text.specs.Texts.{Text}
use Rattle.promql_programs.specs.LimitOptions.{number_in}

abbrev pub are_digits : Text → Bool
are_digits ds = list_all (λ b. nat_lt (digit_value b) 10) ds

all_digits : (ds : Text) → are_digits ds ≡ true → AllDigits 10 ds
all_digits [] h = tt
all_digits (b ∷ ds) h = let parts = and_parts (nat_lt (digit_value b) 10) (are_digits ds) h in (ltb-true (digit_value b) 10 parts.0, all_digits ds parts.1)

digits_all : (ds : Text) → AllDigits 10 ds → are_digits ds ≡ true
digits_all [] h = refl
digits_all (b ∷ ds) h = ap (λ x. x && are_digits ds) (lt-ltb (digit_value b) 10 h.0) ∙ digits_all ds h.1

-- what `parse` reads is the number of an option
pub number_read : {E : Type 0} (v : Text) (r : Result ℕ E) → ParsesUnsigned 64 10 v r → result_ok r ≡ number_in v
number_read v (Ok n) read =
    let ds = without_leading_plus v in
    let some = lt-ltb 0 (length ds) read.0.0.0 in
    let digits = digits_all ds read.0.0.1 in
    let fits = lt-ltb (digits_value 10 ds) (2 ^ 64) read.0.1 in
    sym (ap (λ b. cond (b && (are_digits ds && nat_lt (digits_value 10 ds) (2 ^ 64))) (Some (digits_value 10 ds)) None) some
    ∙ ap (λ b. cond (b && nat_lt (digits_value 10 ds) (2 ^ 64)) (Some (digits_value 10 ds)) None) digits
    ∙ ap (λ b. cond b (Some (digits_value 10 ds)) None) fits
    ∙ ap (λ n. Some n) (sym read.1))
number_read v (Err e) unread =
    let ds = without_leading_plus v in
    go (nat_lt 0 (length ds)) (are_digits ds) (nat_lt (digits_value 10 ds) (2 ^ 64))
    (λ a b c. unread ((ltb-true 0 (length ds) a, all_digits ds b), ltb-true (digits_value 10 ds) (2 ^ 64) c))
  where
    go : (a b c : Bool) → (a ≡ true → b ≡ true → c ≡ true → ⊥) → None ≡ cond (a && (b && c)) (Some (digits_value 10 (without_leading_plus v))) None
    go false b c never = refl
    go true false c never = refl
    go true true false never = refl
    go true true true never = absurd (never refl refl refl)
