use Rattle.std.proofs.Common.{ap, ◌∙◌}
use Rattle.std.specs.Prelude.{Err}
use Rattle.promql_syntax.proofs.answer.AnswerLemmas.{drawn_answer, build_error_answer, read_error_answer, rejection_answer}
use Rattle.promql_syntax.proofs.parser.parse.Goals as goal

pub returns-in-Ok-Ok : goal.returns-in-Ok-Ok
returns-in-Ok-Ok c =
    rw c.into_inner.ensures (drawn_answer c.checked_trees_are_typed.ensures c.args.text.now _ c.new-tokens.ensures.whole (λ f e. (_, c.new-tokens.ensures.fault f e)) _ (rw c.in-Ok-Ok.field-0-is at rw c.in-Ok-Ok.is at c.parse_query.ensures.whole))

pub returns-in-Ok-Err : goal.returns-in-Ok-Err
returns-in-Ok-Err c =
    rw (c.first_error.ensures, c.parse_error_of.ensures) (rejection_answer c.args.text.now _ (λ list is some.
    build_error_answer c.args.text.now list is some _ (c.new-tokens.ensures.whole list is) c.in-Ok-Err.error.value (rw c.in-Ok-Err.field-0-is at rw c.in-Ok-Err.is at c.parse_query.ensures.whole)))

pub returns-in-Err : goal.returns-in-Err
returns-in-Err c =
    rw (c.first_error-in-Err.ensures, c.from.ensures) (rejection_answer c.args.text.now _ (λ list is some.
    read_error_answer c.args.text.now list is some _ (c.new-tokens.ensures.whole list is) _ c.in-Err.error (rw c.in-Err.is at c.parse_query.ensures.whole) (λ none. c.parse_query.ensures.memory (c.in-Err.is ∙ ap Err none))))
