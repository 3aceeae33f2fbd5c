use Rattle.std.proofs.Common.{◌≡◌, ◌+◌, ◌-◌, ◌*◌, ◌^◌, ◌∷◌, [], ℕ, ◌∙◌, ap, arith, count_by, drop, min, slice_index, sym}
use Rattle.std.proofs.lemmas.List.{drop_all, drop_more}
use Rattle.std.proofs.Math.Nat.{mul-one}
use Rattle.std.specs.Char.{is_ascii_digit}
use Rattle.promql_text.specs.Texts.{Text}
use Rattle.promql_label.proofs.pattern_weight.PatternMeasures.{digit_tens, other_tens}
use Rattle.promql_label.proofs.measure.ten_for_digits.Goals as goal
use Rattle.promql_label.proofs.measure.ten_for_digits.Goals.{then-is_ascii_digit, else-is_ascii_digit}

pub loop-b-preserved : goal.loop-b-preserved
loop-b-preserved c =
    let v : Text = c.args.value.now in
    let i : ℕ = c.loop-b.b-index in
    let k : ℕ = c.loop-b.repeats in
    let begins : drop i v ≡ slice_index v i ∷ drop (i + 1) v = drop_more v i 0 (omega (arith, c.loop-b-test.true)) in
    let before = ap (λ z. min (k * 10 ^ count_by is_ascii_digit z) (2 ^ 64 - 1)) (sym begins) ∙ c.loop-b.invariant.1 in
    elim c.if-is_ascii_digit.branch [
      | then-is_ascii_digit w ↦ (
        omega (arith, w.repeats-is, w.saturating_mul-repeats.type_inv),
        digit_tens _ k _ (slice_index v i) (drop (i + 1) v) (sym c.is_ascii_digit.ensures.value ∙ w.if-is_ascii_digit.true) (w.repeats-is ∙ w.saturating_mul-repeats.ensures) ∙ before,
      )
      | else-is_ascii_digit w ↦ (
        omega (arith, w.repeats-is, c.loop-b.invariant.0),
        ap (λ k. min (k * 10 ^ count_by is_ascii_digit (drop (i + 1) v)) (2 ^ 64 - 1)) w.repeats-is
            ∙ other_tens _ k (slice_index v i) (drop (i + 1) v) (sym c.is_ascii_digit.ensures.value ∙ w.if-is_ascii_digit.false) ∙ before,
      )
    ]

pub returns : goal.returns
returns c =
    let v : Text = c.args.value.now in
    let i : ℕ = c.loop-b.b-index in
    let k : ℕ = c.loop-b.repeats in
    let at_end : drop i v ≡ [] = drop_all i v (omega (arith, c.loop-b-test.false)) in
    let whole : min k (2 ^ 64 - 1) ≡ k = omega (arith, c.loop-b.invariant.0) in
    sym whole ∙ ap (λ k. min k (2 ^ 64 - 1)) (sym (mul-one k)) ∙ ap (λ z. min (k * 10 ^ count_by is_ascii_digit z) (2 ^ 64 - 1)) (sym at_end) ∙ c.loop-b.invariant.1
