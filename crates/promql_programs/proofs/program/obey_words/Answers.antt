use Rattle.std.proofs.Common.{[], refl}
use Rattle.promql_programs.proofs.CommandWords.{no_words}
use Rattle.promql_programs.proofs.program.obey_words.Goals as goal

pub returns-in-empty : goal.returns-in-empty
returns-in-empty g c =
    no_words g.R.Read.remaining g.W.Write.contents g.E.Write.contents c.args.usual c.args.reader.now c.args.reader.now c.args.writer.now c.args.writer.now c.args.errors.now c.show_usage.new.errors c.show_usage.result
    c.args.words.now c.in-empty.len_below (c.show_usage.ensures.status, refl, refl, λ quiet. ([], c.show_usage.ensures.line quiet))
