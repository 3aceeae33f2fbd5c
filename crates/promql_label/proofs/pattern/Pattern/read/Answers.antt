use Rattle.std.proofs.lemmas.Result.{IfOk-weaker}
use Rattle.std.specs.Prelude.{◌≡◌, Result, Ok, Err, Option, Some, None, IfErr, IfSome}
use Rattle.promql_label.specs.Answers.{Allows, built, rejected}
use Rattle.promql_label.specs.EngineAnswers.{AllowsBy, Anything, IsRejected}
use Rattle.promql_label.specs.PatternRejections.{rejected_value}
use Rattle.promql_label.specs.declared.pattern.PatternFault.{PatternFault}
use Rattle.promql_text.specs.Texts.{Text}
use Rattle.promql_label.proofs.regex_answers.Reading.{allowed}
use Rattle.promql_label.proofs.pattern.Pattern.read.Goals as goal

pub returns-clause-built : goal.returns-clause-built
returns-clause-built c = IfOk-weaker c.read_value.result _ _ (λ p. allowed Anything c.args.value.now (built p)) c.read_value.ensures.built

some_allowed : (value : Text) (o : Option Text) → IfSome o (λ s. (s ≡ value) × AllowsBy Anything value rejected) → IfSome o (λ s. (s ≡ value) × Allows value rejected)
some_allowed value None h = tt
some_allowed value (Some s) h = (h.0, allowed Anything value rejected h.1)

err_allowed : {T : Type 0} (value : Text) (r : Result T PatternFault) → IfErr r (IsRejected value (AllowsBy Anything value rejected))
    → IfErr r (λ fault. IfSome (rejected_value fault) (λ s. (s ≡ value) × Allows value rejected))
err_allowed value (Ok p) h = h
err_allowed value (Err fault) h = some_allowed value (rejected_value fault) h

pub returns-clause-rejected : goal.returns-clause-rejected
returns-clause-rejected c = err_allowed c.args.value.now c.read_value.result c.read_value.ensures.rejected
