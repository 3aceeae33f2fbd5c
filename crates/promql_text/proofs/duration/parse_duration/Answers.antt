use Rattle.std.proofs.Common.{◌≡◌, ◌==◌, false, length, Some, None, Result, ℕ, ◌∙◌, sym, ap, subst}
use Rattle.std.proofs.lemmas.Bool.{eqb-true}
use Rattle.promql_text.specs.DecimalForm.{decimal_form}
use Rattle.promql_text.specs.DecimalParts.{form_of}
use Rattle.promql_text.specs.DurationReaders.{GivesDuration}
use Rattle.promql_text.specs.Durations.{of_parts, parts_nanos, units}
use Rattle.promql_text.specs.declared.duration.DurationFault.{DurationFault}
use Rattle.promql_text.proofs.durations.SaturatingParts.{duration-empty, duration-form}
use Rattle.promql_text.proofs.duration.parse_duration.Goals as goal

pub returns-then-is_empty : goal.returns-then-is_empty
returns-then-is_empty c =
    duration-empty c.args.ds.now (eqb-true (length c.args.ds.now) 0 (ap (λ s. length s == 0) (sym c.as_bytes-text.ensures.value) ∙ sym c.if-is_empty.ensures))

pub returns-in-Some-decimal_form : goal.returns-in-Some-decimal_form
returns-in-Some-decimal_form c =
    let text = c.as_bytes-text.ensures.value in
    let some : (length c.args.ds.now == 0) ≡ false = ap (λ s. length s == 0) (sym text) ∙ sym c.if-is_empty.ensures in
    let P : Result ℕ DurationFault → Type 0 = λ said. GivesDuration c.of_seconds.result said in
    subst P (sym (duration-form c.args.ds.now (Some (form_of (λ s. s.now) c.in-Some-decimal_form.form)) some (ap decimal_form (sym text) ∙ c.in-Some-decimal_form.ensures))) c.of_seconds.ensures

pub returns-in-Some : goal.returns-in-Some
returns-in-Some c =
    let text = c.as_bytes-text.ensures.value in
    let some : (length c.args.ds.now == 0) ≡ false = ap (λ s. length s == 0) (sym text) ∙ sym c.if-is_empty.ensures in
    let said = c.in-Some.ensures in
    let means = duration-form c.args.ds.now None some (ap decimal_form (sym text) ∙ said.0) ∙ ap of_parts (ap (parts_nanos units) (sym text) ∙ said.1) in
    let P : Result ℕ DurationFault → Type 0 = λ said. GivesDuration c.in_range.result said in
    subst P (sym means) c.in_range.ensures

pub returns-in-None : goal.returns-in-None
returns-in-None c =
    let text = c.as_bytes-text.ensures.value in
    let some : (length c.args.ds.now == 0) ≡ false = ap (λ s. length s == 0) (sym text) ∙ sym c.if-is_empty.ensures in
    let P : Result ℕ DurationFault → Type 0 = λ said. GivesDuration c.of_parts.result said in
    subst P (ap (λ s. of_parts (parts_nanos units s)) text ∙ sym (duration-form c.args.ds.now None some (ap decimal_form (sym text) ∙ c.in-None.ensures))) c.of_parts.ensures
