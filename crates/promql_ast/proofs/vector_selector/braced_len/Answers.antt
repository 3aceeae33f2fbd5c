use Rattle.std.proofs.Common.{◌∙◌, sym}
use Rattle.promql_label.specs.MatcherViews.{plain_matchers_of}
use Rattle.promql_ast.proofs.layouts.BracedLens.{braced_len_is}
use Rattle.promql_ast.proofs.vector_selector.braced_len.Goals as goal

pub returns-else-is_blank : goal.returns-else-is_blank
returns-else-is_blank c =
    braced_len_is (plain_matchers_of c.args.matchers.now) _ _ (sym c.is_blank.ensures ∙ c.if-is_blank.false) c.printed_len.ensures c.saturating_add.ensures
