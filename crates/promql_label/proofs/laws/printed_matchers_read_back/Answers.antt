use Rattle.promql_label.proofs.readback.WorkedMatchers.{worked_lists}
use Rattle.promql_label.proofs.readback.MatchersReadBack.{alike, nothing_else, one_meaning, parts_built, tokens_read}
use Rattle.promql_label.proofs.laws.printed_matchers_read_back.Goals as goal

pub returns : goal.returns
returns c = record { tokens = tokens_read; one_meaning = one_meaning; nothing_else = nothing_else; built = parts_built; alike = alike; worked = worked_lists }
