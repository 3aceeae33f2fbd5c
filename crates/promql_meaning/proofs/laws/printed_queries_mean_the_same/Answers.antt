use Rattle.std.proofs.Common.{ap, sym, ◌∙◌}
use Rattle.promql_ast.specs.Normal.{normal}
use Rattle.promql_meaning.specs.Seen.{seen}
use Rattle.promql_meaning.proofs.SeenNormal.{seen_normal}
use Rattle.promql_meaning.proofs.laws.printed_queries_mean_the_same.Goals as goal

pub returns : goal.returns
returns c = record {
  normal = seen_normal;
  line = λ g source t h. (normal t, c.laid_reads_back.ensures.line g source t h, λ s. seen_normal s t);
  lines = λ g source t h level most. (normal t, c.laid_reads_back.ensures.lines g source t h level most, λ s. seen_normal s t);
  alike = λ g first second t u one other same s.
      sym (seen_normal s t) ∙ ap (seen s) ((c.prints_alike.ensures g first second t u one other).0 same) ∙ seen_normal s u;
}
