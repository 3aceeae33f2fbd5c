-- A keyword is among those of its first letter, and no keyword has a colon.
use Rattle.std.proofs.Common.{◌≡◌, ℕ, Bool, true, false, cond, List, [], ◌∷◌, filter, get_or, refl, sym, ap, ◌∙◌, arith, eqb-true}
use Rattle.std.specs.Prelude.{◌==◌, ◌||◌, not, Some, None}
use Rattle.std.specs.Char.{to_ascii_lowercase}
use Rattle.std.specs.List.{list_all, list_any}
use Rattle.std.proofs.lemmas.Bool.{eqb-false}
use Rattle.std.proofs.lemmas.Grind.{common_steps}
use Rattle.std.proofs.lemmas.Slice.Eq.{bytes_eq-Decides}
use Rattle.std.specs.Str.{str_to_ascii_lowercase}
use Rattle.promql_text.specs.Texts.{Text, code}
use Rattle.promql_token.specs.declared.ids.Case.{Case}
use Rattle.promql_token.specs.declared.ids.Case.TheVariants as case
use Rattle.promql_token.specs.Ids.{keyword_in_any_case, keywords, lookup}
use Rattle.promql_token.specs.WordCases.{same_word}
use Rattle.promql_token.proofs.one_reading.Ends.{and_left, and_right}
use Rattle.promql_token.proofs.cursors.TestsAndCounts.{by_bool}

-- ---- first letters

first_in_lower_case : (a : Text) → get_or (str_to_ascii_lowercase a) 0 0 ≡ to_ascii_lowercase (get_or a 0 0)
first_in_lower_case [] = refl
first_in_lower_case (b ∷ a) = refl

-- words that are the same begin with one letter
same_letter : (case : Case) (a b : Text) → same_word case a b ≡ true → to_ascii_lowercase (get_or a 0 0) ≡ to_ascii_lowercase (get_or b 0 0)
same_letter case.Lower a b same = ap (λ t. to_ascii_lowercase (get_or t 0 0)) ((bytes_eq-Decides a b).0 same)
same_letter case.Any a b same =
    let lower = (bytes_eq-Decides (str_to_ascii_lowercase a) (str_to_ascii_lowercase b)).0 same in
    sym (first_in_lower_case a) ∙ ap (λ t. get_or t 0 0) lower ∙ first_in_lower_case b

-- of a word whose first letter is a lower case one
abbrev begins_low : Text → Bool
begins_low a = to_ascii_lowercase (get_or a 0 0) == get_or a 0 0

other_letter : (case : Case) (a b : Text) → begins_low a ≡ true → (get_or a 0 0 == to_ascii_lowercase (get_or b 0 0)) ≡ false → same_word case a b ≡ false
other_letter case a b low other =
    by_bool (same_word case a b) (λ same. absurd (eqb-false _ _ other (sym (eqb-true _ _ low) ∙ same_letter case a b same))) (λ differs. differs)

among_letter_in : (case : Case) (ks : List (Text × ℕ)) (w : Text) → list_all (λ k. begins_low k.0) ks ≡ true
    → lookup (same_word case) (filter (λ k. get_or k.0 0 0 == to_ascii_lowercase (get_or w 0 0)) ks) w ≡ lookup (same_word case) ks w
among_letter_in case [] w low = refl
among_letter_in case (k ∷ ks) w low =
    by_letter (get_or k.0 0 0 == to_ascii_lowercase (get_or w 0 0)) refl (among_letter_in case ks w (and_right (begins_low k.0) (list_all (λ k. begins_low k.0) ks) low))
  where
    by_letter : (b : Bool) → (get_or k.0 0 0 == to_ascii_lowercase (get_or w 0 0)) ≡ b
        → lookup (same_word case) (filter (λ k. get_or k.0 0 0 == to_ascii_lowercase (get_or w 0 0)) ks) w ≡ lookup (same_word case) ks w
        → lookup (same_word case) (cond b (k ∷ filter (λ k. get_or k.0 0 0 == to_ascii_lowercase (get_or w 0 0)) ks) (filter (λ k. get_or k.0 0 0 == to_ascii_lowercase (get_or w 0 0)) ks)) w
        ≡ cond (same_word case k.0 w) (Some k.1) (lookup (same_word case) ks w)
    by_letter true is tail = ap (λ o. cond (same_word case k.0 w) (Some k.1) o) tail
    by_letter false is tail =
        tail ∙ sym (ap (λ b. cond b (Some k.1) (lookup (same_word case) ks w)) (other_letter case k.0 w (and_left (begins_low k.0) (list_all (λ k. begins_low k.0) ks) low) is))

pub among_letter : (case : Case) (w : Text) → lookup (same_word case) (filter (λ k. get_or k.0 0 0 == to_ascii_lowercase (get_or w 0 0)) keywords) w ≡ lookup (same_word case) keywords w
among_letter case w = among_letter_in case keywords w refl

-- ---- colons

abbrev has_colon : Text → Bool
has_colon w = list_any (λ b. b == code ":") w

lower_colon : (b : ℕ) → (to_ascii_lowercase b == 58) ≡ (b == 58)
lower_colon b = grind (arith, common_steps)

colon_in_lower_case : (w : Text) → has_colon (str_to_ascii_lowercase w) ≡ has_colon w
colon_in_lower_case [] = refl
colon_in_lower_case (b ∷ w) = λ i. lower_colon b i || colon_in_lower_case w i

no_same_word : (a w : Text) → not (has_colon a) ≡ true → has_colon w ≡ true → same_word case.Any a w ≡ false
no_same_word a w none some =
    by_bool (same_word case.Any a w)
    (λ same.
    let lower = (bytes_eq-Decides (str_to_ascii_lowercase a) (str_to_ascii_lowercase w)).0 same in
    let colons : has_colon a ≡ true = sym (colon_in_lower_case a) ∙ ap (λ t. has_colon t) lower ∙ colon_in_lower_case w ∙ some in
    let both : not true ≡ true = ap not (sym colons) ∙ none in
    absurd (cc))
    (λ differs. differs)

no_colon_among : (ks : List (Text × ℕ)) (w : Text) → list_all (λ k. not (has_colon k.0)) ks ≡ true → has_colon w ≡ true → lookup (same_word case.Any) ks w ≡ None
no_colon_among [] w none some = refl
no_colon_among (k ∷ ks) w none some =
    ap (λ b. cond b (Some k.1) (lookup (same_word case.Any) ks w)) (no_same_word k.0 w (and_left (not (has_colon k.0)) (list_all (λ k. not (has_colon k.0)) ks) none) some)
    ∙ no_colon_among ks w (and_right (not (has_colon k.0)) (list_all (λ k. not (has_colon k.0)) ks) none) some

pub no_keyword_with_colon : (w : Text) → has_colon w ≡ true → keyword_in_any_case w ≡ None
unfolding keyword_in_any_case
no_keyword_with_colon w some = no_colon_among keywords w refl some
