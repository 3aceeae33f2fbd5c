use Rattle.std.proofs.Common.{◌≡◌, ◌-◌, ◌*◌, ◌^◌, ◌∷◌, [], ℕ, ◌∙◌, ap, ap₂, arith, drop, length, max, min, slice_index, sym, take}
use Rattle.std.proofs.lemmas.List.{drop_all}
use Rattle.std.proofs.Math.Nat.{mul-one, one-mul}
use Rattle.promql_text.specs.Texts.{Text}
use Rattle.promql_label.specs.PatternMeasure.{group_repeats, item_repeats}
use Rattle.promql_label.proofs.pattern_weight.PatternMeasures.{capped_factors, first_and_rest, group_passes, group_step, some_items}
use Rattle.promql_label.proofs.measure.counted.Goals as goal

pub loop-rest-init : goal.loop-rest-init
loop-rest-init c =
    let v : Text = c.args.value.now in
    let some = some_items 0 v in
    let whole : max 1 (item_repeats 0 v) ≡ item_repeats 0 v = omega (arith, some) in
    (omega arith, ap (λ k. min k (2 ^ 64 - 1)) whole, ap (λ k. min k (2 ^ 64 - 1)) (one-mul (group_repeats 0 v)))

pub loop-rest-preserved-else-ends_item : goal.loop-rest-preserved-else-ends_item
loop-rest-preserved-else-ends_item c =
    let rest : Text = c.loop-rest.rest.now in
    let items : ℕ = c.loop-rest.items in
    let groups : ℕ = c.loop-rest.groups in
    let before : ℕ = c.loop-rest.before in
    let after : Text = take (length rest - 1) (drop 1 rest) in
    let brace : slice_index rest 0 ≡ 123 = c.if-b-eq123.true in
    let begins : rest ≡ 123 ∷ after = first_and_rest rest c.in-len1-up.len_at_least ∙ ap (λ b. b ∷ after) brace in
    let group = sym c.ends_item.ensures ∙ c.if-ends_item.false in (
      c.loop-rest.invariant.0,
      ap (λ b. min (max items (item_repeats b after)) (2 ^ 64 - 1)) brace
          ∙ group_passes (2 ^ 64 - 1) items before after group c.loop-rest.invariant.0
          ∙ ap (λ z. min (max items (item_repeats before z)) (2 ^ 64 - 1)) (sym begins) ∙ c.loop-rest.invariant.1,
      ap (λ b. min (c.saturating_mul-groups.result * group_repeats b after) (2 ^ 64 - 1)) brace
          ∙ group_step (2 ^ 64 - 1) groups c.greatest.result c.saturating_add-repeats.result c.saturating_mul-groups.result before after group c.greatest.ensures c.saturating_add-repeats.ensures c.saturating_mul-groups.ensures
          ∙ ap (λ z. min (groups * group_repeats before z) (2 ^ 64 - 1)) (sym begins) ∙ c.loop-rest.invariant.2,
    )

pub returns : goal.returns
returns c =
    let v : Text = c.args.value.now in
    let rest : Text = c.loop-rest.rest.now in
    let items : ℕ = c.loop-rest.items in
    let groups : ℕ = c.loop-rest.groups in
    let before : ℕ = c.loop-rest.before in
    let at_end : rest ≡ [] = drop_all 0 rest (omega (arith, c.in_default.len_below)) in
    let some = c.loop-rest.invariant.0 in
    let alone : items ≡ max items 1 = omega (arith, some) in
    let of_items = ap (λ k. min k (2 ^ 64 - 1)) alone ∙ ap (λ z. min (max items (item_repeats before z)) (2 ^ 64 - 1)) (sym at_end) ∙ c.loop-rest.invariant.1 in
    let of_groups = ap (λ k. min k (2 ^ 64 - 1)) (sym (mul-one groups)) ∙ ap (λ z. min (groups * group_repeats before z) (2 ^ 64 - 1)) (sym at_end) ∙ c.loop-rest.invariant.2 in
    c.saturating_mul.ensures
    ∙ sym (capped_factors (2 ^ 64 - 1) items groups)
    ∙ ap₂ (λ a b. min (a * b) (2 ^ 64 - 1)) of_items of_groups
    ∙ capped_factors (2 ^ 64 - 1) (item_repeats 0 v) (group_repeats 0 v)
