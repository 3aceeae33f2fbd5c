use Rattle.std.proofs.Common.{◌≡◌, ℕ, List, [], ◌∷◌, get_or, true, ap, sym, ◌∙◌, arith}
use Rattle.std.proofs.Math.ListN.{drop_of_length-le}
use Rattle.std.specs.Char.{digit_value, is_ascii_digit}
use Rattle.std.proofs.lemmas.List.{drop_more}
use Rattle.std.proofs.lemmas.Str.{digit_value_digit}
use Rattle.std.proofs.lemmas.Str.Parse.{digit_from_value}
use Rattle.promql_text.specs.NumberText.{read_number}
use Rattle.promql_text.proofs.numerals.Runs.{digit_value_below}
use Rattle.promql_text.proofs.numerals.ShortNumbers.{digit_read, parsed_some}
use Rattle.promql_text.proofs.number_text.short_whole.Goals as goal

pub returns-in-len1-up : goal.returns-in-len1-up
returns-in-len1-up c =
    parsed_some c.args.text.now c.as_bytes.result.now c.parse.result c.ok.result c.as_bytes.ensures.value c.if-first-gt48.true
    c.parse.ensures.value.0 c.ok.ensures.value

pub returns-in-len1 : goal.returns-in-len1
returns-in-len1 c =
    let bytes : List ℕ = c.as_bytes.result.now in
    let b : ℕ = get_or bytes 0 0 in
    let digit : is_ascii_digit b ≡ true = sym c.if-is_ascii_digit.ensures.value in
    let value : c.from.result ≡ digit_value b = (let d = digit_value_digit b (digit_from_value b (digit_value_below b digit)) in omega (arith, d, c.from.ensures)) in
    let alone : bytes ≡ b ∷ [] =
    drop_more bytes 0 0 c.in-len1.len_at_least ∙ ap (λ z. b ∷ z) (drop_of_length-le bytes {i = 1} (omega (arith, c.in-len1.len_below))) in
    ap read_number (sym c.as_bytes.ensures.value ∙ alone) ∙ digit_read b c.from.result digit value
