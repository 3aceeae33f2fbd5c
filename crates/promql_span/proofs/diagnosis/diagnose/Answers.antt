use Rattle.std.proofs.Common.{ap, ◌∙◌, arith}
use Rattle.std.specs.Prelude.{Err}
use Rattle.promql_syntax.proofs.answer.AnswerLemmas.{drawn_answer, build_error_answer, read_error_answer, rejection_answer}
use Rattle.promql_span.proofs.ErrorPlacing.{placed_fault}
use Rattle.promql_span.proofs.diagnosis.diagnose.Goals as goal

pub returns-in-Ok-Ok-clause-answer : goal.returns-in-Ok-Ok-clause-answer
returns-in-Ok-Ok-clause-answer c =
    rw (c.into_inner.ensures, c.in-Ok-Ok.expr-is) (drawn_answer c.checked_trees_are_typed.ensures c.args.text.now _ c.new-tokens.ensures.whole (λ f e. (_, c.new-tokens.ensures.fault f e)) _ (rw c.in-Ok-Ok.field-0-is at rw c.in-Ok-Ok.is at c.parse_query.ensures.whole))

pub returns-in-Ok-Err-clause-answer : goal.returns-in-Ok-Err-clause-answer
returns-in-Ok-Err-clause-answer c =
    rw (c.diagnose_building.ensures.error, c.in-Ok-Err.error-is) (rejection_answer c.args.text.now _ (λ list is some.
    build_error_answer c.args.text.now list is some _ (c.new-tokens.ensures.whole list is) c.in-Ok-Err.error.value (rw c.in-Ok-Err.field-0-is at rw c.in-Ok-Err.is at c.parse_query.ensures.whole)))

pub returns-in-Err-clause-answer : goal.returns-in-Err-clause-answer
returns-in-Err-clause-answer c =
    rw c.diagnose_reading.ensures.error (rejection_answer c.args.text.now _ (λ list is some.
    read_error_answer c.args.text.now list is some _ (c.new-tokens.ensures.whole list is) _ c.in-Err.error (rw c.in-Err.is at c.parse_query.ensures.whole) (λ none. c.parse_query.ensures.memory (c.in-Err.is ∙ ap Err none))))

pub diagnose_building-requires : goal.diagnose_building-requires
diagnose_building-requires c = λ list is.
    let few = c.tokens_are_placed.ensures.few c.args.text.now in
    rw c.in-Ok-Err.error-is (placed_fault c.tokens_are_placed.ensures.whole c.args.text.now list is (omega arith) _ _ (c.new-tokens.ensures.whole list is) (omega (arith, c.new-tokens.ensures.index)) _
    (rw c.in-Ok-Err.field-0-is at rw c.in-Ok-Err.is at c.parse_query.ensures.place))
