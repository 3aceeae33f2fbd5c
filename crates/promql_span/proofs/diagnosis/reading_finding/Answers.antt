use Rattle.std.proofs.Common.{arith}
use Rattle.promql_grammar.specs.SymbolsLeft.{symbols_left}
use Rattle.promql_span.proofs.ErrorPlacing.{misfit_found, rest_short}
use Rattle.promql_span.proofs.diagnosis.reading_finding.Goals as goal

pub returns-in-Syntax : goal.returns-in-Syntax
returns-in-Syntax c = λ list is some.
    let law = c.tokens_are_placed.ensures.whole in
    let misfits = c.requires c.in-Syntax.is list is in
    let short = rest_short law c.args.text.now list is (symbols_left c.args.left) misfits in
    let few = c.tokens_are_placed.ensures.few c.args.text.now in
    rw c.in-Syntax.is (misfit_found law c.args.text.now list is (symbols_left c.args.left) misfits c.count.result (c.count.ensures (omega arith)))
