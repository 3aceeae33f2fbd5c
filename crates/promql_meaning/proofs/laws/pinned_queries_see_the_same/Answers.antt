use Rattle.promql_meaning.proofs.SeenPinned.{parts_see, pinned_sees}
use Rattle.promql_meaning.proofs.laws.pinned_queries_see_the_same.Goals as goal

pub returns : goal.returns
returns c = record {
  other_times = λ ts start end step s t x. pinned_sees ts start end step s t x;
  parts = λ ts a b c d m n s t xs ys. parts_see ts a b c d m n s t xs ys;
}
