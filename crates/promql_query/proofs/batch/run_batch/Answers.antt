use Rattle.std.proofs.Common.{◌≡◌, ap, refl, subst, sym, ◌∙◌, inr}
use Rattle.std.specs.Prelude.{◌&&◌, Some}
use Rattle.promql_run.proofs.KnownBytes.{always_if_err}
use Rattle.promql_query.proofs.Batches.{answered_kept, answered_partly, input_ends, last_line_ends, line_more, nothing_yet, reading_fails, writing_fails}
use Rattle.promql_query.specs.BatchSteps.{IsAnswered, IsLineRead, IsPartlyAnswered}
use Rattle.promql_query.specs.declared.batch.LineEnd.TheVariants.{Feed}
use Rattle.promql_query.proofs.batch.run_batch.Goals.{then-all_ok, else-all_ok}
use Rattle.promql_query.proofs.batch.run_batch.Goals as goal

pub lines-init : goal.lines-init
lines-init g c = record { quiet = refl; heard = refl; so_far = nothing_yet _ _ _ }

pub returns-in_err-end-clause-before : goal.returns-in_err-end-clause-before
returns-in_err-end-clause-before g c =
    always_if_err _ c.from_residual.result
    (λ e other. reading_fails _ _ _ _ _ _ c.lines.all_ok c.lines.invariant.so_far c.in_err-end.ensures.err)

pub returns-in-None-clause-ok : goal.returns-in-None-clause-ok
returns-in-None-clause-ok g c =
    let read = subst (IsLineRead (g.R.Read.remaining c.lines.reader.inner) (g.R.Read.remaining c.read_line.new.reader.inner) c.read_line.new.line.items) c.in-None.is c.in_ok-end.ensures.ok in
    input_ends _ _ _ _ _ _ _ c.read_line.new.line.items c.lines.all_ok c.lines.invariant.so_far read c.in_ok-flush-in-None.ensures.bytes

pub returns-in_err-flush-in-None-clause-begun : goal.returns-in_err-flush-in-None-clause-begun
returns-in_err-flush-in-None-clause-begun g c = λ is.
    let read = subst (IsLineRead (g.R.Read.remaining c.lines.reader.inner) (g.R.Read.remaining c.read_line.new.reader.inner) c.read_line.new.line.items) c.in-None.is c.in_ok-end.ensures.ok in
    inr (c.lines.all_ok, input_ends _ _ _ _ _ _ _ c.read_line.new.line.items c.lines.all_ok c.lines.invariant.so_far read c.in_err-flush-in-None.ensures.bytes)

pub returns-in_err-is_ok-clause-begun : goal.returns-in_err-is_ok-clause-begun
returns-in_err-is_ok-clause-begun g c = λ is.
    let read = subst (IsLineRead (g.R.Read.remaining c.lines.reader.inner) (g.R.Read.remaining c.read_line.new.reader.inner) c.read_line.new.line.items) c.in-Some.is c.in_ok-end.ensures.ok in
    let part = subst (λ line. IsPartlyAnswered c.args.settings.now line (g.W.Write.contents c.lines.writer.inner) (g.W.Write.contents c.write_answer.new.writer.inner)) c.as_slice.ensures.value c.in_err-is_ok.ensures.begun in
    writing_fails _ _ _ _ _ _ _ c.read_line.new.line.items c.in-Some.end c.lines.all_ok c.lines.invariant.so_far read part

pub lines-preserved : goal.lines-preserved
lines-preserved g c =
    let read = subst (IsLineRead (g.R.Read.remaining c.lines.reader.inner) (g.R.Read.remaining c.read_line.new.reader.inner) c.read_line.new.line.items) (c.in-Some.is ∙ ap Some c.in-Feed.is) c.in_ok-end.ensures.ok in
    let answered = subst (λ line. IsAnswered c.args.settings.now line (g.W.Write.contents c.lines.writer.inner) (g.W.Write.contents c.write_answer.new.writer.inner) c.in_ok-is_ok.is_ok) c.as_slice.ensures.value c.in_ok-is_ok.ensures.ok in
    let both : c.if-all_ok.all_ok ≡ (c.lines.all_ok && c.in_ok-is_ok.is_ok) =
    elim c.if-all_ok.branch [
      | then-all_ok w ↦ w.all_ok-is ∙ sym (ap (λ b. b && c.in_ok-is_ok.is_ok) w.if-all_ok.true)
      | else-all_ok w ↦ w.all_ok-is ∙ w.if-all_ok.false ∙ sym (ap (λ b. b && c.in_ok-is_ok.is_ok) w.if-all_ok.false)
    ] in
    let kept = answered_kept c.args.settings.now c.read_line.new.line.items _ _ _ c.in_ok-is_ok.is_ok answered c.in_ok-flush_before_wait-in-Feed.ensures.bytes in
    record {
      quiet = c.in_ok-flush_before_wait-in-Feed.ensures.quiet ∙ c.in_ok-is_ok.ensures.quiet ∙ c.lines.invariant.quiet;
      heard = c.in_ok-end.ensures.quiet ∙ c.lines.invariant.heard;
      so_far = line_more c.args.settings.now _ (g.R.Read.remaining c.lines.reader.inner) _ _ (g.W.Write.contents c.lines.writer.inner) _ c.read_line.new.line.items c.lines.all_ok c.in_ok-is_ok.is_ok c.if-all_ok.all_ok both c.lines.invariant.so_far read kept;
    }

pub returns-in_err-flush_before_wait-in-Feed-clause-begun : goal.returns-in_err-flush_before_wait-in-Feed-clause-begun
returns-in_err-flush_before_wait-in-Feed-clause-begun g c = λ is.
    let read = subst (IsLineRead (g.R.Read.remaining c.lines.reader.inner) (g.R.Read.remaining c.read_line.new.reader.inner) c.read_line.new.line.items) (c.in-Some.is ∙ ap Some c.in-Feed.is) c.in_ok-end.ensures.ok in
    let answered = subst (λ line. IsAnswered c.args.settings.now line (g.W.Write.contents c.lines.writer.inner) (g.W.Write.contents c.write_answer.new.writer.inner) c.in_ok-is_ok.is_ok) c.as_slice.ensures.value c.in_ok-is_ok.ensures.ok in
    let part = answered_partly c.args.settings.now c.read_line.new.line.items _ _ _ c.in_ok-is_ok.is_ok answered c.in_err-flush_before_wait-in-Feed.ensures.bytes in
    writing_fails _ _ _ _ _ _ _ c.read_line.new.line.items Feed c.lines.all_ok c.lines.invariant.so_far read part

pub returns-in-Input-clause-ok : goal.returns-in-Input-clause-ok
returns-in-Input-clause-ok g c =
    let read = subst (IsLineRead (g.R.Read.remaining c.lines.reader.inner) (g.R.Read.remaining c.read_line.new.reader.inner) c.read_line.new.line.items) (c.in-Some.is ∙ ap Some c.in-Input.is) c.in_ok-end.ensures.ok in
    let answered = subst (λ line. IsAnswered c.args.settings.now line (g.W.Write.contents c.lines.writer.inner) (g.W.Write.contents c.write_answer.new.writer.inner) c.in_ok-is_ok.is_ok) c.as_slice.ensures.value c.in_ok-is_ok.ensures.ok in
    let both : c.if-all_ok.all_ok ≡ (c.lines.all_ok && c.in_ok-is_ok.is_ok) =
    elim c.if-all_ok.branch [
      | then-all_ok w ↦ w.all_ok-is ∙ sym (ap (λ b. b && c.in_ok-is_ok.is_ok) w.if-all_ok.true)
      | else-all_ok w ↦ w.all_ok-is ∙ w.if-all_ok.false ∙ sym (ap (λ b. b && c.in_ok-is_ok.is_ok) w.if-all_ok.false)
    ] in
    last_line_ends c.args.settings.now _ (g.R.Read.remaining c.lines.reader.inner) _ _ (g.W.Write.contents c.lines.writer.inner) (g.W.Write.contents c.write_answer.new.writer.inner) _ c.read_line.new.line.items c.lines.all_ok c.in_ok-is_ok.is_ok c.if-all_ok.all_ok both c.lines.invariant.so_far read answered c.in_ok-flush-in-Input.ensures.bytes

pub returns-in_err-flush-in-Input-clause-begun : goal.returns-in_err-flush-in-Input-clause-begun
returns-in_err-flush-in-Input-clause-begun g c = λ is.
    let read = subst (IsLineRead (g.R.Read.remaining c.lines.reader.inner) (g.R.Read.remaining c.read_line.new.reader.inner) c.read_line.new.line.items) (c.in-Some.is ∙ ap Some c.in-Input.is) c.in_ok-end.ensures.ok in
    let answered = subst (λ line. IsAnswered c.args.settings.now line (g.W.Write.contents c.lines.writer.inner) (g.W.Write.contents c.write_answer.new.writer.inner) c.in_ok-is_ok.is_ok) c.as_slice.ensures.value c.in_ok-is_ok.ensures.ok in
    inr (c.lines.all_ok && c.in_ok-is_ok.is_ok, last_line_ends c.args.settings.now _ (g.R.Read.remaining c.lines.reader.inner) _ _ (g.W.Write.contents c.lines.writer.inner) (g.W.Write.contents c.write_answer.new.writer.inner) _ c.read_line.new.line.items c.lines.all_ok c.in_ok-is_ok.is_ok _ refl c.lines.invariant.so_far read answered c.in_err-flush-in-Input.ensures.bytes)
