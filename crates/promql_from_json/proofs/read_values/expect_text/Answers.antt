use Rattle.promql_from_json.proofs.read_values.expect_text.Goals as goal

pub returns-in_default-clause-place : goal.returns-in_default-clause-place
returns-in_default-clause-place c = λ f misfit. c.here.ensures f _ misfit
