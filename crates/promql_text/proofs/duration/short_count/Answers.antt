use Rattle.std.proofs.Common.{◌≡◌, ℕ, ◌+◌, ◌*◌, ◌<◌, ◌∷◌, List, true, drop, ap, sym, subst, ◌∙◌, arith, slice_index_or}
use Rattle.std.specs.Char.{digit_value, is_ascii_digit}
use Rattle.std.specs.Str.Parse.{AllDigits, digits_value_after}
use Rattle.std.proofs.lemmas.List.{drop_more}
use Rattle.std.proofs.lemmas.Str.{digit_value_digit}
use Rattle.std.proofs.lemmas.Str.Parse.{digit_from_value}
use Rattle.promql_text.proofs.numerals.Runs.{digit_value_below}
use Rattle.promql_text.proofs.duration.short_count.Goals as goal

pub loop-b-preserved : goal.loop-b-preserved
loop-b-preserved c =
    let ds : List ℕ = c.args.digits.now in
    let i : ℕ = c.loop-b.b-index in
    let b : ℕ = slice_index_or ds i 0 in
    let digit : is_ascii_digit b ≡ true = sym c.is_ascii_digit.ensures.value ∙ c.if-not-is_ascii_digit.false in
    let more : drop i ds ≡ b ∷ drop (i + 1) ds = drop_more ds i 0 c.loop-b-test.true in
    let value : c.from.result ≡ digit_value b = (let d = digit_value_digit b (digit_from_value b (digit_value_below b digit)) in omega (arith, d, c.from.ensures)) in
    let below : digit_value b < 10 = digit_value_below b digit in (
      λ rest. c.loop-b.invariant.0 (subst (AllDigits 10) (sym more) (below, rest)),
      ap (λ d. digits_value_after 10 (c.loop-b.count * 10 + d) (drop (i + 1) ds)) value ∙ sym (ap (digits_value_after 10 c.loop-b.count) more) ∙ c.loop-b.invariant.1,
      omega (arith, value, below, c.if-count-ge100000000.false),
    )
