use Rattle.std.proofs.Common.{◌≡◌, min, ◌+◌, ◌^◌, ◌-◌, ◌<◌, drop}
use Rattle.serde_json.specs.View.{items_view, members_view}
use Rattle.promql_from_json.specs.FormMeasure as spec
use Rattle.promql_from_json.proofs.measure.+size.Given as goal

-- the sum with what is left
abbrev pub invariant-items_measure-loop-item : goal.invariant-items_measure-loop-item
invariant-items_measure-loop-item l =
    (l.sum < 2 ^ 64) × (min (l.sum + spec.items_size (items_view (drop l.item-index l.item-items))) (2 ^ 64 - 1) ≡ min (spec.items_size (items_view l.item-items)) (2 ^ 64 - 1))

abbrev pub invariant-members_measure-loop-member : goal.invariant-members_measure-loop-member
invariant-members_measure-loop-member l =
    (l.sum < 2 ^ 64) × (min (l.sum + spec.members_size (members_view l.member-iterator)) (2 ^ 64 - 1) ≡ min (spec.members_size (members_view l.initial.member-iterator)) (2 ^ 64 - 1))
