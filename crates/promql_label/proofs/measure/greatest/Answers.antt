use Rattle.std.proofs.Common.{◌≡◌, ◌+◌, ◌-◌, ◌^◌, ◌∷◌, ℕ, ◌∙◌, ap, ap₂, arith, drop, max, min, slice_index, sym}
use Rattle.std.proofs.lemmas.Bool.{ne_eqb}
use Rattle.std.proofs.lemmas.Grind.{common_steps}
use Rattle.std.proofs.lemmas.List.{drop_more}
use Rattle.promql_text.specs.Texts.{Text}
use Rattle.promql_label.specs.PatternMeasure as spec
use Rattle.promql_label.proofs.pattern_weight.PatternMeasures.{comma_step, digit_step, other_byte}
use Rattle.promql_label.proofs.measure.greatest.Goals as goal
use Rattle.promql_label.proofs.measure.greatest.Goals.{in-44, in_default, in_default+else-is_ascii_digit}

pub loop-b-preserved : goal.loop-b-preserved
loop-b-preserved c =
    let v : Text = c.args.value.now in
    let i : ℕ = c.loop-b.b-index in
    let z : Text = drop (i + 1) v in
    let most : ℕ = c.loop-b.most in
    let n : ℕ = c.loop-b.number in
    let begins : drop i v ≡ slice_index v i ∷ z = drop_more v i 0 (omega (arith, c.loop-b-test.true)) in
    let before = ap (λ z. min (max most (spec.greatest n z)) (2 ^ 64 - 1)) (sym begins) ∙ c.loop-b.invariant in
    elim c.match-b.branch [
      | in-44 w ↦
          ap₂ (λ m n. min (max m (spec.greatest n z)) (2 ^ 64 - 1)) w.most-is w.number-is
          ∙ comma_step (2 ^ 64 - 1) most n w.max-most.result z w.max-most.ensures
          ∙ ap (λ b. min (max most (spec.greatest n (b ∷ z))) (2 ^ 64 - 1)) (sym w.in-44.is) ∙ before
      | in_default w ↦
          ap₂ (λ m n. min (max m (spec.greatest n z)) (2 ^ 64 - 1)) w.most-is w.number-is
          ∙ digit_step (2 ^ 64 - 1) most n (slice_index v i) w.saturating_add-number.result z (sym w.is_ascii_digit.ensures.value ∙ w.if-is_ascii_digit.true)
          (w.saturating_add-number.ensures ∙ ap₂ (λ n d. min (n + d) (2 ^ 64 - 1)) w.saturating_mul.ensures w.from.ensures)
          ∙ before
      | in_default+else-is_ascii_digit w ↦
          ap₂ (λ m n. min (max m (spec.greatest n z)) (2 ^ 64 - 1)) w.most-is w.number-is
          ∙ ap (λ g. min (max most g) (2 ^ 64 - 1)) (other_byte n (slice_index v i) z (ne_eqb (slice_index v i) 123 (λ e. grind (arith, common_steps))) (ne_eqb (slice_index v i) 125 (λ e. grind (arith, common_steps))) (ne_eqb (slice_index v i) 44 (λ e. grind (arith, common_steps))) (sym w.is_ascii_digit.ensures.value ∙ w.if-is_ascii_digit.false))
          ∙ before
    ]
