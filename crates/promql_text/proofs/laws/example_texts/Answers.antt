use Rattle.promql_text.proofs.worked.WorkedTexts.{worked_durations, worked_numbers}
use Rattle.promql_text.proofs.laws.example_texts.Goals as goal

pub returns-clause-durations : goal.returns-clause-durations
returns-clause-durations c = worked_durations

pub returns-clause-numbers : goal.returns-clause-numbers
returns-clause-numbers c = worked_numbers
