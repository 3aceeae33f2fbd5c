use Rattle.promql_from_json.proofs.read_nodes.from_json_text.Goals as goal
use Rattle.std.proofs.lemmas.Result.{IfErr-weaker}

pub returns-in-Ok-clause-misfit : goal.returns-in-Ok-clause-misfit
returns-in-Ok-clause-misfit c = IfErr-weaker c.from_json.result _ _ (λ e no_form memory other. (_, c.in-Ok.ensures.ok, no_form memory)) c.from_json.ensures.err
