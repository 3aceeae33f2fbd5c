use Rattle.promql_rewrite.specs.Parenthesizing.{parenthesized}
use Rattle.promql_rewrite.specs.PrintableTrees.{PatternsAnswered}
use Rattle.promql_rewrite.proofs.rules_broken.EachNode.{listed, throughout}
use Rattle.promql_rewrite.proofs.rules_broken.NodeParts.{parts_listed, parts_throughout, placed_listed}
use Rattle.promql_rewrite.proofs.parentheses.ParenPlaces.{well_placed}
use Rattle.promql_rewrite.proofs.parentheses.ParenTypes.{answered_kept, low_kept, parts_kept, type_kept, typed_kept}
use Rattle.promql_rewrite.proofs.laws.parenthesized_trees_are_printable.Goals as goal

pub returns : goal.returns
returns c = record {
  alone = λ t typed parts low. record {
    typed = typed_kept t typed;
    low = low;
    parts = parts_listed (parenthesized t) (parts_kept t (parts_throughout t parts));
    placed = placed_listed (parenthesized t) (well_placed t);
  };
  printable = λ g t typed parts answered low. (
    record {
      typed = typed_kept t typed;
      low = low;
      parts = parts_listed (parenthesized t) (parts_kept t (parts_throughout t parts));
      placed = placed_listed (parenthesized t) (well_placed t);
    },
    listed (PatternsAnswered g) (parenthesized t) (answered_kept g t (throughout (PatternsAnswered g) t answered)),
  );
  types = type_kept;
  typed = typed_kept;
  heights = low_kept;
}
