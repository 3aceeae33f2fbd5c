use Rattle.std.proofs.Common.{refl}
use Rattle.std.proofs.Output.{has_written_append, has_written_of_eq, has_written_styled_append, has_written_styled_of_eq}
use Rattle.promql_text.proofs.writing.Joins.{join_next, join_end}
use Rattle.promql_text.proofs.writing.AllOptions.{written_at_plain}
use Rattle.promql_text.proofs.joined.write_joined_by.Goals as goal

pub loop-i-preserved : goal.loop-i-preserved
loop-i-preserved g c = (
  λ text writes plain.
      let so_far = c.loop-i.invariant.0 text writes plain in
      let between = written_at_plain _ _ _ _ so_far.plain (c.in_ok-write_separator.ensures so_far.plain.flush refl) in
      let item = writes _ _ _ _ c.in_ok-write.ensures between.plain refl in
      has_written_of_eq _ _ _ _ _ (join_next text c.args.separator.now c.args.items.now c.loop-i.i c.index-items-i.result c.loop-i-test.true c.index-items-i.is)
      (has_written_append _ _ _ _ _ _ (has_written_append _ _ _ _ _ _ so_far between) item),
  λ text writes flush.
      let so_far = c.loop-i.invariant.1 text writes flush in
      let between = c.in_ok-write_separator.ensures so_far.flush refl in
      let item = writes _ _ _ _ c.in_ok-write.ensures between.flush refl in
      has_written_styled_of_eq _ _ _ _ _ (join_next text c.args.separator.now c.args.items.now c.loop-i.i c.index-items-i.result c.loop-i-test.true c.index-items-i.is)
      (has_written_styled_append _ _ _ _ _ _ (has_written_styled_append _ _ _ _ _ _ so_far between) item),
)

pub returns : goal.returns
returns g c = record {
  writes = λ text writes plain ok.
      has_written_of_eq _ _ _ _ _ (join_end text c.args.separator.now c.args.items.now c.loop-i.i c.loop-i-test.false) (c.loop-i.invariant.0 text writes plain);
  styled = λ text writes flush ok.
      has_written_styled_of_eq _ _ _ _ _ (join_end text c.args.separator.now c.args.items.now c.loop-i.i c.loop-i-test.false) (c.loop-i.invariant.1 text writes flush);
}
