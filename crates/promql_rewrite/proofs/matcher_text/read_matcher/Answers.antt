use Rattle.std.proofs.Common.{Result, Ok, rules}
use Rattle.promql_ast.specs.Tree.{Tree}
use Rattle.promql_ast.specs.View.{tree_of}
use Rattle.promql_syntax.specs.ParseAnswers.{IsAnswerTo, PlainParseError}
use Rattle.promql_rewrite.specs.MatcherTexts.{selector_around}
use Rattle.promql_rewrite.specs.SecondMatchers.{IsCopyFault}
use Rattle.promql_rewrite.proofs.enforcement.SecondMatchers.{fault_is, on_err}
use Rattle.promql_rewrite.proofs.matcher_text.read_matcher.Goals as goal

pub returns-clause-errors : goal.returns-clause-errors
returns-clause-errors c =
    let t : Tree = tree_of c.in-Ok.expr in
    let answer : Result Tree PlainParseError = Ok t in
    let answered : IsAnswerTo (selector_around c.args.text.now) answer = search rules in
    on_err c.copied_matcher-matcher.result (IsCopyFault t) _ (λ e fault other. (answer, answered, (λ is. cc), fault_is t e fault other)) c.copied_matcher-matcher.ensures.errors
