use Rattle.promql_from_json.proofs.from_error.ReadError.at.Goals as goal

pub returns-in-Ok : goal.returns-in-Ok
returns-in-Ok c = λ f d misfit. rw c.in-Ok.ensures.ok misfit
