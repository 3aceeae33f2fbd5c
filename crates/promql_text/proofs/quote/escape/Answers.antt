use Rattle.std.proofs.Common.{◌≡◌, ℕ, ◌++◌, ◌∷◌, ◌<◌, ◌≤◌, drop, Option, sym, ap, ◌∙◌, subst, lit<, arith, rules}
use Rattle.std.specs.Char.{encode_utf8}
use Rattle.std.specs.Str.Iter.{chars_rest}
use Rattle.std.proofs.lemmas.Str.{encode_ascii}
use Rattle.promql_text.specs.Texts.{Text}
use Rattle.promql_text.specs.Quoting.{escape, hexadecimal, octal}
use Rattle.promql_text.specs.QuoteReaders.{ReadsEscape}
use Rattle.promql_text.proofs.quoting.Quotes.{escape-none, escape-own, escape-x, escape-u, escape-U, escape-octal, quote_low}
use Rattle.promql_text.proofs.quoting.QuotedCharacters.{reads_digits, reads_letter}
use Rattle.promql_text.proofs.quote.escape.Goals as goal
use Rattle.promql_text.proofs.quote.escape.Goals.{in_default-via-then-first-lt48, in_default-via-else-first-lt48+else-first-lt56}

-- the text from a byte of ASCII on
ascii_front : (b : ℕ) (z r : Text) → z ≡ encode_utf8 b ++ r → b < 128 → z ≡ b ∷ r
ascii_front b z r front low = front ∙ ap (λ e. e ++ r) (encode_ascii b low)

pub returns-in_err-first-clause-value : goal.returns-in_err-first-clause-value
returns-in_err-first-clause-value c =
    rw c.from_residual.ensures (escape-none c.args.quote (chars_rest c.args.rest.now) c.in_err-first.ensures.steps.0.0)

pub returns-then-first-quote-clause-value : goal.returns-then-first-quote-clause-value
returns-then-first-quote-clause-value c =
    let is = c.if-first-quote.true in
    let rest = chars_rest c.next.new.self in
    let front = ascii_front c.in_ok-first.first (chars_rest c.args.rest.now) rest c.in_ok-first.ensures.steps.0 (omega (arith, quote_low c.args.quote c.requires)) in
    (1, ap (escape c.args.quote) front ∙ ap (λ q. escape q (c.in_ok-first.first ∷ rest)) (sym is) ∙ escape-own c.in_ok-first.first rest, sym (ap (drop 1) front))

pub returns-in-x-clause-value : goal.returns-in-x-clause-value
returns-in-x-clause-value c =
    let rest = chars_rest c.next.new.self in
    let front = ascii_front 120 (chars_rest c.args.rest.now) rest (rw c.in-x.is at c.in_ok-first.ensures.steps.0) (lit< tt) in
    reads_digits c.args.quote 120 2 (hexadecimal 2 rest) (chars_rest c.args.rest.now) rest (chars_rest c.hexadecimal.new.rest) c.hexadecimal.result front
    (escape-x c.args.quote rest (λ e. c.if-first-quote.false (c.in-x.is ∙ e))) c.hexadecimal.ensures.value

pub returns-in-u-clause-value : goal.returns-in-u-clause-value
returns-in-u-clause-value c =
    let rest = chars_rest c.next.new.self in
    let front = ascii_front 117 (chars_rest c.args.rest.now) rest (rw c.in-u.is at c.in_ok-first.ensures.steps.0) (lit< tt) in
    reads_digits c.args.quote 117 4 (hexadecimal 4 rest) (chars_rest c.args.rest.now) rest (chars_rest c.hexadecimal-in-u.new.rest) c.hexadecimal-in-u.result front
    (escape-u c.args.quote rest (λ e. c.if-first-quote.false (c.in-u.is ∙ e))) c.hexadecimal-in-u.ensures.value

pub returns-in-U-clause-value : goal.returns-in-U-clause-value
returns-in-U-clause-value c =
    let rest = chars_rest c.next.new.self in
    let front = ascii_front 85 (chars_rest c.args.rest.now) rest (rw c.in-U.is at c.in_ok-first.ensures.steps.0) (lit< tt) in
    reads_digits c.args.quote 85 8 (hexadecimal 8 rest) (chars_rest c.args.rest.now) rest (chars_rest c.hexadecimal-in-U.new.rest) c.hexadecimal-in-U.result front
    (escape-U c.args.quote rest (λ e. c.if-first-quote.false (c.in-U.is ∙ e))) c.hexadecimal-in-U.ensures.value

pub returns-in-0-to-7-clause-value : goal.returns-in-0-to-7-clause-value
returns-in-0-to-7-clause-value c =
    let first = c.in_ok-first.first in
    let rest = chars_rest c.next.new.self in
    let low : 48 ≤ first = omega arith in
    let high : first ≤ 55 = omega arith in
    let front = ascii_front first (chars_rest c.args.rest.now) rest c.in_ok-first.ensures.steps.0 (omega arith) in
    reads_digits c.args.quote first 2 (octal first rest) (chars_rest c.args.rest.now) rest (chars_rest c.octal.new.rest) c.octal.result front
    (escape-octal c.args.quote rest first c.if-first-quote.false low high) c.octal.ensures.value

pub returns-in_default-clause-value : goal.returns-in_default-clause-value
returns-in_default-clause-value c =
    let first = c.in_ok-first.first in
    let P : Option ℕ → Type 0 = λ r. ReadsEscape c.args.quote (chars_rest c.args.rest.now) r (chars_rest c.next.new.self) in
    subst P (sym c.letter.ensures)
    (reads_letter c.args.quote first (chars_rest c.args.rest.now) (chars_rest c.next.new.self) (quote_low c.args.quote c.requires) c.in_ok-first.ensures.steps.0
    c.if-first-quote.false (search rules) (search rules) (search rules)
    (λ low high. elim c.in_default.branch [ in_default-via-then-first-lt48 w ↦ absurd (omega arith) | in_default-via-else-first-lt48+else-first-lt56 w ↦ absurd (omega arith) ]))
