use Rattle.std.proofs.Common.{sym}
use Rattle.std.specs.Str.Iter.{chars_rest}
use Rattle.promql_text.proofs.quoting.Quotes.{unquoted_text-none, unquoted_text-quote, unquoted_text-other}
use Rattle.promql_text.proofs.quote.opening.Goals as goal

pub returns-in_err-quote : goal.returns-in_err-quote
returns-in_err-quote c = rw c.from_residual.ensures (unquoted_text-none (chars_rest c.args.rest.now) c.in_err-quote.ensures.steps.0.0)

pub returns-then-is_quote : goal.returns-then-is_quote
returns-then-is_quote c =
    let is = sym c.if-is_quote.ensures in
    (is, unquoted_text-quote c.in_ok-quote.quote (chars_rest c.args.rest.now) (chars_rest c.next.new.self) c.in_ok-quote.ensures.steps.0 is)

pub returns-else-is_quote : goal.returns-else-is_quote
returns-else-is_quote c =
    unquoted_text-other c.in_ok-quote.quote (chars_rest c.args.rest.now) (chars_rest c.next.new.self) c.in_ok-quote.ensures.steps.0 (sym c.if-is_quote.ensures)
