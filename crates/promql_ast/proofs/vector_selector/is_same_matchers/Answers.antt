use Rattle.std.proofs.Common.{◌∙◌}
use Rattle.promql_label.specs.MatcherViews.{plain_matchers_of}
use Rattle.promql_label.proofs.equality.SameMatchers.{list_Decides}
use Rattle.promql_ast.specs.SameLaws.{matchers_eq-Decides}
use Rattle.promql_ast.proofs.equality.SameTests.{same_test}
use Rattle.promql_ast.proofs.vector_selector.is_same_matchers.Goals as goal

pub returns : goal.returns
returns c =
    c.eq.ensures
    ∙ same_test _ _ (list_Decides c.args.a.now c.args.b.now)
    (matchers_eq-Decides (plain_matchers_of c.args.a.now) (plain_matchers_of c.args.b.now))
