use Rattle.promql_from_json.proofs.from_error.ReadError.here.Goals as goal

pub returns : goal.returns
returns c = λ f d misfit. rw c.new.ensures.bytes misfit
