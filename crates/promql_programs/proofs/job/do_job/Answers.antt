use Rattle.std.proofs.Common.{rules}
use Rattle.promql_programs.specs.declared.job.Job.TheVariants as job
use Rattle.promql_programs.proofs.JobsDone.{asked, enforced}
use Rattle.promql_programs.proofs.job.do_job.Goals as goal

pub returns-in-Print : goal.returns-in-Print
returns-in-Print g c = asked _ _ _ _ _ _ _ _ _ _ _ _ _ c.args.job (job.Print c.in-Print.format) c.in-Print.is c.print.ensures

pub returns-in-Check : goal.returns-in-Check
returns-in-Check g c =
    let ensures = c.check.ensures in
    asked _ _ _ _ _ _ _ _ _ _ _ _ _ c.args.job (job.Check c.in-Check.settings) c.in-Check.is
    (record { reads = ensures.reads; accepted = ensures.accepted; rejected = ensures.rejected; known = ensures.known }, search rules)

pub returns-in-Enforce : goal.returns-in-Enforce
returns-in-Enforce g c =
    let ensures = c.answer_query-in-Enforce.ensures in
    enforced _ _ _ _ _ _ _ _ _ _ _ _ _ c.args.job c.in-Enforce.limits c.first_of-matcher.result.now c.in-Enforce.is c.first_of-matcher.ensures ensures.answers ensures.closed

pub returns-in-Batch : goal.returns-in-Batch
returns-in-Batch g c =
    let ensures = c.answer_lines.ensures in
    asked _ _ _ _ _ _ _ _ _ _ _ _ _ c.args.job (job.Batch c.in-Batch.settings) c.in-Batch.is (record {
      reads = ensures.reads;
      ok = ensures.ok;
      some_fail = ensures.errors;
      flushed = ensures.flushed;
      silent = ensures.silent;
      known = ensures.known;
      before = ensures.before;
      closed = ensures.closed;
      write = ensures.write;
      begun = ensures.begun;
    })
