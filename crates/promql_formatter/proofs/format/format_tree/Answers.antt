use Rattle.std.proofs.Common.{rules, subst}
use Rattle.promql_formatter.specs.Formats.{IsFormatOf}
use Rattle.promql_formatter.proofs.format.format_tree.Goals as goal

pub returns-then-branch-clause-formats : goal.returns-then-branch-clause-formats
returns-then-branch-clause-formats c = (
  search rules,
  search rules,
  subst (IsFormatOf c.args.options.now.keep_spelling c.args.text.now) c.deref.ensures (c.in_ok-is_format.ensures c.if-branch.true),
)
