use Rattle.std.proofs.Common.{◌∙◌, rules}
use Rattle.std.specs.Str.Iter.{chars_rest}
use Rattle.promql_text.proofs.quoting.QuotedCharacters.{reads_between_backticks, reads_itself, reads_escape}
use Rattle.promql_text.proofs.quote.read_spelling.Goals as goal

pub returns-then-quote-eq96-clause-value : goal.returns-then-quote-eq96-clause-value
returns-then-quote-eq96-clause-value c =
    reads_between_backticks c.args.quote c.args.first (chars_rest c.args.rest.now) c.if-quote-eq96.true c.requires.inner

pub returns-in-92-clause-value : goal.returns-in-92-clause-value
returns-in-92-clause-value c =
    rw c.in-92.is (reads_escape c.args.quote (chars_rest c.args.rest.now) (chars_rest c.escape.new.rest) c.escape.result c.if-quote-eq96.false (λ e. c.requires.inner (c.in-92.is ∙ e)) c.escape.ensures.value)

pub returns-in_default-clause-value : goal.returns-in_default-clause-value
returns-in_default-clause-value c =
    reads_itself c.args.quote c.args.first (chars_rest c.args.rest.now) c.requires.quote c.requires.inner (search rules) (search rules)
