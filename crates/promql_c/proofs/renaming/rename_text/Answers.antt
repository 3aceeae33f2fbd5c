use Rattle.std.proofs.Common.{inl}
use Rattle.promql_query.specs.RenamedLines.{IsRenamedLine, renaming}
use Rattle.promql_c.proofs.MadeTexts.{made}
use Rattle.promql_c.proofs.renaming.rename_text.Goals as goal

pub returns : goal.returns
returns c =
    let r = renaming c.args.named c.args.from.now c.args.to.now in
    inl (
      (c.utf8.query, c.utf8.from, c.utf8.to),
      made (IsRenamedLine c.args.limits.now c.args.query.now r) c.renamed_line.result c.renamed_line.ensures.ok c.renamed_line.ensures.err,
    )
