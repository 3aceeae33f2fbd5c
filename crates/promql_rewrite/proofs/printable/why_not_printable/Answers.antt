use Rattle.std.proofs.Common.{◌∙◌, ap, Err, string_bytes}
use Rattle.promql_ast.specs.View.{tree_of}
use Rattle.promql_rewrite.proofs.readback.Judging.{judged_other, judged_rejected, judged_yes}
use Rattle.promql_rewrite.proofs.printable.why_not_printable.Goals as goal

pub returns-in-Ok : goal.returns-in-Ok
returns-in-Ok c =
    let trees = c.answers_are_trees.ensures in
    let small = c.small_patterns_need_no_premise.ensures in
    record {
      judged =
          judged_yes c.checked_trees_are_typed.ensures trees.has trees.is small.has small.is small.normal
          (tree_of c.args.expr.now) (string_bytes c.in-Ok.line) c.in-Ok.ensures.line c.in-Ok.ensures.means;
      reason = tt;
    }

pub unreachable-requires : goal.unreachable-requires
unreachable-requires c = c.faithful_line.ensures.no_indent (c.in-Err-IndentTooWide.is ∙ ap Err c.in-Err-IndentTooWide.field-0-is)

pub reason_or-requires : goal.reason_or-requires
reason_or-requires c = c.faithful_line.ensures.rejected c.in-Err-Rejected.error (c.in-Err-Rejected.is ∙ ap Err c.in-Err-Rejected.field-0-is)

pub returns-in-Err-Rejected : goal.returns-in-Err-Rejected
returns-in-Err-Rejected c =
    let trees = c.answers_are_trees.ensures in
    let small = c.small_patterns_need_no_premise.ensures in
    let h = c.faithful_line.ensures.rejected c.in-Err-Rejected.error (c.in-Err-Rejected.is ∙ ap Err c.in-Err-Rejected.field-0-is) in
    record {
      judged =
          judged_rejected c.checked_trees_are_typed.ensures trees.has trees.is small.has small.is small.normal
          (tree_of c.args.expr.now) c.in-Err-Rejected.error h;
      reason = c.reason_or.ensures;
    }

pub other_reason-requires : goal.other_reason-requires
other_reason-requires c = c.faithful_line.ensures.other (c.in-Err-OtherTree.is ∙ ap Err c.in-Err-OtherTree.field-0-is)

pub returns-in-Err-OtherTree : goal.returns-in-Err-OtherTree
returns-in-Err-OtherTree c =
    let trees = c.answers_are_trees.ensures in
    let small = c.small_patterns_need_no_premise.ensures in
    let h = c.faithful_line.ensures.other (c.in-Err-OtherTree.is ∙ ap Err c.in-Err-OtherTree.field-0-is) in
    record {
      judged =
          judged_other c.checked_trees_are_typed.ensures trees.has trees.is small.has small.is small.normal (tree_of c.args.expr.now) h;
      reason = c.other_reason.ensures;
    }
