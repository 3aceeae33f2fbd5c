use Rattle.std.proofs.Common.{◌+◌, ◌∙◌, string_bytes, arith, rules}
use Rattle.std.proofs.lemmas.List.{drop-set-lt}
use Rattle.std.proofs.lemmas.Grind.{drop_more_same}
use Rattle.promql_rewrite.specs.Renaming.{replaced}
use Rattle.promql_ast.proofs.nodes.ChangedLists.{all_done, left_same, one_more}
use Rattle.promql_rewrite.proofs.renaming.replace_each.Goals as goal

pub loop-i-preserved : goal.loop-i-preserved
loop-i-preserved c = record {
  left = drop-set-lt (c.loop-i.i + 1) c.loop-i.names c.loop-i.i _ (omega arith) ∙ drop_more_same _ _ c.loop-i.i c.loop-i.invariant.left;
  done =
      one_more string_bytes (λ s. replaced c.args.renaming.now.from.now c.args.renaming.now.to.now (string_bytes s)) c.loop-i.names c.args.names.now c.loop-i.i
      c.index-names-i.result c.replace.new.name (search rules) c.loop-i.auto.names
      (left_same c.loop-i.names c.args.names.now c.loop-i.i c.index-names-i.result (search rules) c.loop-i.auto.names c.loop-i.invariant.left) (search rules) c.loop-i.invariant.done;
}

pub returns : goal.returns
returns c =
    all_done string_bytes (λ s. replaced c.args.renaming.now.from.now c.args.renaming.now.to.now (string_bytes s)) c.loop-i.names c.args.names.now c.loop-i.i
    (omega (arith, c.loop-i.auto.names)) (omega arith) c.loop-i.invariant.done
