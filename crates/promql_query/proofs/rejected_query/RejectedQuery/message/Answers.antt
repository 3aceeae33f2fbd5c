use Rattle.std.proofs.Common.{Some, subst, ◌∙◌}
use Rattle.std.proofs.lemmas.Result.{IfOk-weaker}
use Rattle.promql_query.specs.BatchSteps.{TellsAll}
use Rattle.promql_query.proofs.rejected_query.RejectedQuery.message.Goals as goal

pub returns-in-Some : goal.returns-in-Some
returns-in-Some c = λ query told.
    let tells = subst (TellsAll query c.args.self.now.rejection) c.in-Some.is told in
    IfOk-weaker c.copy_of.result _ _ (λ s same. (Some tells.0, tells.1, same ∙ tells.2.message)) c.copy_of.ensures
