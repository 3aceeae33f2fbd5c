use Rattle.std.proofs.Common.{length, ap, sym, ◌∙◌}
use Rattle.promql_text.proofs.quoting.Escapes.{escaped_text-other}
use Rattle.promql_text.proofs.printed_len.escaped_len.Goals as goal

pub returns-in-None : goal.returns-in-None
returns-in-None c = c.len_utf8.ensures.len ∙ ap length (sym (escaped_text-other c.args.c (λ low. c.in-None.ensures)))
