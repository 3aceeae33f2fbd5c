-- Printed times after `@` and `offset` read back.
use Rattle.std.proofs.Common.{◌≡◌, ℕ, ℤ, refl, sym, ◌∙◌, ap, subst, Bool, true, false, cond, Option, Some, None}
use Rattle.std.specs.Prelude.{Ok, pos, unsigned_abs, FitsSigned}
use Rattle.std.specs.Int.{is_negative, w64}
use Rattle.promql_text.specs.Millis.{to_millis}
use Rattle.promql_text.specs.NumberText.{read_number}
use Rattle.promql_text.specs.Texts.{Text}
use Rattle.promql_text.specs.Values.{neg}
use Rattle.promql_text.specs.declared.number.Number.{Number}
use Rattle.promql_grammar.specs.GrammarParts as part
use Rattle.promql_ast.specs.AtTimes.{at_of_millis, at_of_number}
use Rattle.promql_ast.specs.Shifts.{Shift, back, ahead, Moment, at_time, time_text}
use Rattle.promql_ast.proofs.normal_form.PrintedMoments.{millis_fits, size_reads, size_text}
use Rattle.promql_syntax.specs.Postfixes.{at_fault, bound_moment}
use Rattle.promql_syntax.specs.BuildErrors as errors
use Rattle.promql_syntax.specs.PartBuilding.{moment_value, number_value, shift_value, signed_number, time_value, on_error}
use Rattle.promql_grammar.specs.GrammarParts.{is_minus}
use Rattle.promql_syntax.proofs.printed.PrintedParts.{seconds_text, sign}
use Rattle.promql_syntax.proofs.readback.Printable.{IsMoment, IsShift}
use Rattle.promql_syntax.proofs.printed.PrintedTimesAndLabels.{IsTime, time_is}
use Rattle.promql_syntax.proofs.building.SingleAnswers.{same_ok, then_leads, then_steps}

pub shift_is : (s : part.Signed) (t : part.Time) (x : Shift) → shift_value s t ≡ Ok x → IsShift (Some x)
shift_is s t x e =
    let step = then_steps (time_value t) (λ n. Ok (cond (is_minus s) (ahead n) (back n))) x e in
    subst (λ y. IsShift (Some y)) (same_ok _ _ _ _ refl refl step.leads) (go (is_minus s) step.value (time_is t step.value step.is))
  where
    go : (b : Bool) (n : ℕ) → IsTime n → IsShift (Some (cond b (ahead n) (back n)))
    go true n is = is
    go false n is = is

pub bound_is : (start : Bool) → IsMoment (bound_moment start)
bound_is true = tt
bound_is false = tt

-- ---- times after `@`

seconds_are : (t : ℤ) → seconds_text t ≡ time_text (pos (unsigned_abs t))
unfolding seconds_text
seconds_are t = sym (size_text (unsigned_abs t))

number_after : (b : Bool) (text : Text) (n : Number) → read_number text ≡ Ok n → signed_number (sign b) text ≡ Ok (cond b (neg n) n)
number_after true text n e = then_leads (number_value text) _ n _ (ap (on_error errors.number) e) refl
number_after false text n e = then_leads (number_value text) _ n _ (ap (on_error errors.number) e) refl

moment_again : (t : ℤ) → FitsSigned w64 t → IsMoment (at_time t)
moment_again t fits =
    let r = size_reads t fits in
    then_leads (signed_number (sign (is_negative t)) (seconds_text t)) _ (cond (is_negative t) (neg r.0) r.0) _
    (number_after (is_negative t) (seconds_text t) r.0 (ap read_number (seconds_are t) ∙ r.1)) (ap at_fault r.2)

pub moment_is : (s : part.Signed) (text : Text) (m : Moment) → moment_value s text ≡ Ok m → IsMoment m
moment_is s text m e =
    let step = then_steps (signed_number s text) (λ n. at_fault (at_of_number n)) m e in
    go step.value (to_millis step.value) refl step.leads
  where
    go : (n : Number) (o : Option ℤ) → to_millis n ≡ o → at_fault (at_of_millis n o) ≡ Ok m → IsMoment m
    go n (Some t) is e = let same : at_time t ≡ m = same_ok _ _ _ _ refl refl e in subst IsMoment same (moment_again t (millis_fits n t is))
    go n None is e = cc
