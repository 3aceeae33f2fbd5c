use Rattle.std.proofs.Common.{sym}
use Rattle.std.proofs.Output.{has_written_styled_of_eq}
use Rattle.promql_text.proofs.quoting.Escapes.{escaped_text-other}
use Rattle.promql_text.proofs.quoted.write_escaped_char.Goals as goal

pub returns-in-None : goal.returns-in-None
returns-in-None g c = λ flush ok.
    has_written_styled_of_eq _ _ _ _ _ (sym (escaped_text-other c.args.c (λ low. c.in-None.ensures))) (c.write_char.ensures.styled flush ok)
