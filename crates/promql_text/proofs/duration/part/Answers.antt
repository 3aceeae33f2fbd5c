use Rattle.std.proofs.Common.{◌≡◌, ℕ, ◌+◌, ◌*◌, ◌<◌, length, take, drop, ◌∙◌, sym, ap, subst}
use Rattle.std.specs.Prelude.{option_map}
use Rattle.std.specs.List.{prefix_len}
use Rattle.promql_text.specs.Texts.{Text}
use Rattle.promql_text.specs.DecimalForm.{past_run}
use Rattle.promql_text.specs.Durations.{is_no_digit, nanos_of, parts_nanos, word_run, past_word}
use Rattle.promql_text.specs.DurationReaders.{cap_u128, seek}
use Rattle.promql_text.proofs.durations.SaturatingParts.{parts-no_digit, parts-no_unit, takes_part, part_shorter}
use Rattle.promql_text.proofs.duration.part.Goals as goal

pub returns-in_err-count : goal.returns-in_err-count
returns-in_err-count c = rw c.from_residual.ensures (parts-no_digit c.args.units.now c.args.text.now c.requires c.in_err-count.ensures)

-- the word that the code cuts off, and what comes after it
word_is : (after_run word s : Text) (len : ℕ) → after_run ≡ past_run s → word ≡ take len after_run → len ≡ prefix_len is_no_digit after_run → word ≡ word_run (past_run s)
word_is after_run word s len at is n = is ∙ ap (λ k. take k after_run) n ∙ ap word_run at

rest_is : (after_run rest s : Text) (len : ℕ) → after_run ≡ past_run s → rest ≡ drop len after_run → len ≡ prefix_len is_no_digit after_run → rest ≡ past_word (past_run s)
rest_is after_run rest s len at is n = is ∙ ap (λ k. drop k after_run) n ∙ ap past_word at

pub returns-in_err-unit : goal.returns-in_err-unit
returns-in_err-unit c =
    let word = word_is c.in_ok-count.more.now c.split_at.result.0.now c.args.text.now c.word_len.result c.in_ok-count.ensures.2 c.split_at.ensures.front c.word_len.ensures.value in
    rw c.from_residual-in_err-unit.ensures (parts-no_unit c.args.units.now c.args.text.now c.requires c.in_ok-count.ensures.0 (ap (seek c.args.units.now) (sym word) ∙ c.in_err-unit.ensures))

pub returns : goal.returns
returns c =
    let s = c.args.text.now in
    let us = c.args.units.now in
    let later = c.in_ok-unit.later.now in
    let word = word_is c.in_ok-count.more.now c.split_at.result.0.now s c.word_len.result c.in_ok-count.ensures.2 c.split_at.ensures.front c.word_len.ensures.value in
    let rest = rest_is c.in_ok-count.more.now c.split_at.result.1.now s c.word_len.result c.in_ok-count.ensures.2 c.split_at.ensures.back c.word_len.ensures.value in
    let unit : c.from.result ≡ nanos_of c.in_ok-unit.unit = c.from.ensures ∙ c.nanos.ensures in
    let nanos : c.saturating_mul.result ≡ cap_u128 (c.in_ok-count.count * nanos_of c.in_ok-unit.unit) = c.saturating_mul.ensures ∙ ap (λ u. cap_u128 (c.in_ok-count.count * u)) unit in (
      λ total.
          ap (λ r. option_map (λ n. cap_u128 (cap_u128 (total + c.saturating_mul.result) + n)) (parts_nanos later r)) rest
          ∙ takes_part us later c.in_ok-unit.unit s c.in_ok-count.count c.saturating_mul.result c.in_ok-count.ensures.0 (ap (seek us) (sym word) ∙ c.in_ok-unit.ensures) c.in_ok-count.ensures.1 nanos total,
      subst (λ r. length r < length s) (sym rest) (part_shorter s c.in_ok-count.ensures.0),
    )
