use Rattle.promql_syntax.specs.ParseAnswers.{plain_error_of}
use Rattle.promql_span.proofs.ErrorPlacing.{found_misfit, placed_at}
use Rattle.promql_span.proofs.diagnosis.found_span.Goals as goal

pub returns-in-Misfit : goal.returns-in-Misfit
returns-in-Misfit c = λ e. rw c.in-Misfit.is (found_misfit c.args.text.now e _ _ c.token_left.ensures.is)

pub returns-in-Fault : goal.returns-in-Fault
returns-in-Fault c = λ e. rw c.in-Fault.is (λ has. placed_at c.args.text.now (plain_error_of e) c.in-Fault.place _ has c.fault_span.ensures.at c.fault_span.ensures.is)
