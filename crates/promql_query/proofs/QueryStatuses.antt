-- The numbers of the errors of a query: no program ends with one of these where a read or a write failed, or all went well.
use Rattle.std.proofs.Common.{◌≡◌, ◌⊎◌, ◌∙◌, ⊎_elim, ℕ, ap, inl, inr, refl, sym}
use Rattle.std.specs.Prelude.{Bool, true, false, not, ◌==◌, ◌||◌}
use Rattle.promql_query.proofs.LimitStatus.{rejected_status}
use Rattle.promql_query.specs.QueryErrors.{query_error_number}
use Rattle.promql_query.specs.declared.query_error.QueryError.{QueryError}
use Rattle.promql_query.specs.declared.query_error.QueryError.TheVariants as error

abbrev pub is_own : ℕ → Bool
is_own n = not (n == 0 || n == 2 || n == 5)

numbers_are_own : (e : QueryError) → is_own (query_error_number e) ≡ true
numbers_are_own error.Memory = refl
numbers_are_own error.NotUtf8 = refl
numbers_are_own (error.Rejected r) = ⊎_elim (λ is. ap is_own is) (⊎_elim (λ is. ap is_own is) (⊎_elim (λ is. ap is_own is) (λ is. ap is_own is))) (rejected_status r.rejection.reason)
numbers_are_own (error.NoForm e) = refl
numbers_are_own (error.NotARequest fault) = refl
numbers_are_own (error.UnknownMember name) = refl
numbers_are_own error.UnknownMode = refl
numbers_are_own (error.WideLayout wide) = refl
numbers_are_own (error.Matcher e) = refl
numbers_are_own (error.MatcherOtherwise at) = refl
numbers_are_own (error.Unfaithful e) = refl
numbers_are_own (error.NotPrintable reason) = refl
numbers_are_own error.NotFormatted = refl
numbers_are_own error.Info = refl
numbers_are_own (error.LargeForm fault) = refl
numbers_are_own (error.LargeTree fault) = refl
numbers_are_own (error.Large measured fault) = refl
numbers_are_own (error.NotATree e) = refl
numbers_are_own (error.LongOutput fault) = refl
numbers_are_own error.NotItsLayout = refl
numbers_are_own error.NotAName = refl
numbers_are_own error.MetricName = refl
numbers_are_own error.Clash = refl
numbers_are_own (error.TimeOverflow node) = refl
numbers_are_own error.GridFunction = refl
numbers_are_own (error.NotLabels fault) = refl

pub not_status : (e : QueryError) (n : ℕ) → is_own n ≡ false → ¬ (query_error_number e ≡ n)
not_status e n none is = let same : true ≡ false = sym (numbers_are_own e) ∙ ap is_own is ∙ none in cc

pub three_is_not_utf8 : (e : QueryError) → query_error_number e ≡ 3 → e ≡ error.NotUtf8
three_is_not_utf8 error.NotUtf8 three = refl
three_is_not_utf8 (error.Rejected r) three =
    ⊎_elim
    (λ is. let same : 4 ≡ 3 = sym is ∙ three in cc)
    (⊎_elim (λ is. let same : 14 ≡ 3 = sym is ∙ three in cc)
    (⊎_elim (λ is. let same : 23 ≡ 3 = sym is ∙ three in cc) (λ is. let same : 24 ≡ 3 = sym is ∙ three in cc)))
    (rejected_status r.rejection.reason)
three_is_not_utf8 error.Memory three = cc
three_is_not_utf8 (error.NoForm e) three = cc
three_is_not_utf8 (error.NotARequest fault) three = cc
three_is_not_utf8 (error.UnknownMember name) three = cc
three_is_not_utf8 error.UnknownMode three = cc
three_is_not_utf8 (error.WideLayout wide) three = cc
three_is_not_utf8 (error.Matcher e) three = cc
three_is_not_utf8 (error.MatcherOtherwise at) three = cc
three_is_not_utf8 (error.Unfaithful e) three = cc
three_is_not_utf8 (error.NotPrintable reason) three = cc
three_is_not_utf8 error.NotFormatted three = cc
three_is_not_utf8 error.Info three = cc
three_is_not_utf8 (error.LargeForm fault) three = cc
three_is_not_utf8 (error.LargeTree fault) three = cc
three_is_not_utf8 (error.Large measured fault) three = cc
three_is_not_utf8 (error.NotATree e) three = cc
three_is_not_utf8 (error.LongOutput fault) three = cc
three_is_not_utf8 error.NotItsLayout three = cc
three_is_not_utf8 error.NotAName three = cc
three_is_not_utf8 error.MetricName three = cc
three_is_not_utf8 error.Clash three = cc
three_is_not_utf8 (error.TimeOverflow node) three = cc
three_is_not_utf8 error.GridFunction three = cc
three_is_not_utf8 (error.NotLabels fault) three = cc

-- what is written ends with 0 or 5
abbrev pub is_written : ℕ → Bool
is_written n = n == 0 || n == 5

pub not_written : (n m : ℕ) → is_written m ≡ false → (n ≡ 0) ⊎ (n ≡ 5) → ¬ (n ≡ m)
not_written n m none (inl zero) is = let same : true ≡ false = ap is_written (sym zero ∙ is) ∙ none in cc
not_written n m none (inr five) is = let same : true ≡ false = ap is_written (sym five ∙ is) ∙ none in cc
