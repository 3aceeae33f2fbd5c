-- What a check found is what it says.
use Rattle.std.proofs.Common.{◌≡◌, ℕ, List, String, string_bytes, Global, Bool, true, false, true≢false, subst, sym, ◌∙◌}
use Rattle.std.specs.Prelude.{Option, OnOk, OnErr, Result, Ok, Err}
use Rattle.promql_text.specs.Texts.{Text}
use Rattle.promql_run.specs.Inputs.{IsInput}
use Rattle.promql_programs.specs.CheckedInputs.{IsChecked}
use Rattle.promql_programs.specs.Checking.{HasQuery, IsWarned}
use Rattle.promql_programs.specs.declared.check_settings.CheckSettings.{CheckSettings}
use Rattle.promql_programs.specs.declared.check.Checked.{Checked}
use Rattle.promql_programs.specs.declared.check.Checked.TheVariants.{Warned}
use Rattle.promql_programs.specs.declared.source.Source.{Source}

pub warned : (s : CheckSettings) (source : Source) (found : Checked) (warning : String Global) (said : Text) (left left_after : Option (List ℕ)) → found ≡ Warned warning → said ≡ string_bytes warning
    → IsInput (λ input. IsChecked s source input found) left left_after → HasQuery source.is_file (IsWarned s (string_bytes source.prefix) said) left left_after
warned s source found warning said left left_after is same input =
    subst (λ said. HasQuery source.is_file (IsWarned s (string_bytes source.prefix) said) left left_after) (sym same) (subst (λ f. IsInput (λ text. IsChecked s source text f) left left_after) is input)

-- what a call writes unless it fails
pub written_unless_failed : {T E P : Type 0} (r : Result T E) (failed : Bool) → OnOk r P → OnErr r (failed ≡ true) → failed ≡ false → P
written_unless_failed (Ok value) failed written failing quiet = written
written_unless_failed (Err e) failed written failing quiet = absurd (true≢false (sym failing ∙ quiet))
