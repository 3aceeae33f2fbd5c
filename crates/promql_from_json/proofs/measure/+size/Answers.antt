use Rattle.std.proofs.Common.{◌≡◌, [], ◌+◌, ◌-◌, ◌^◌, min, drop, ap, subst, arith, rules}
use Rattle.std.proofs.lemmas.List.{drop_all}
use Rattle.serde_json.specs.View.{items_view, members_view}
use Rattle.promql_from_json.specs.FormMeasure as spec
use Rattle.promql_from_json.proofs.measure.+size.Goals as goal

pub items_measure-returns : goal.items_measure-returns
items_measure-returns t c =
    let xs = c.deref-item-items.result.now in
    let sum = c.loop-item.sum in
    let none : drop c.loop-item.item-index xs ≡ [] = drop_all c.loop-item.item-index xs (omega arith) in
    let all : min (sum + 0) (2 ^ 64 - 1) ≡ min (spec.items_size (items_view xs)) (2 ^ 64 - 1) =
    subst (λ ys. min (sum + spec.items_size (items_view ys)) (2 ^ 64 - 1) ≡ min (spec.items_size (items_view xs)) (2 ^ 64 - 1)) none c.loop-item.invariant.1 in
    let same = ap (λ ys. min (spec.items_size (items_view ys)) (2 ^ 64 - 1)) c.deref-item-items.ensures.value in
    omega (arith, c.loop-item.invariant.0, all, same)

pub members_measure-returns : goal.members_measure-returns
members_measure-returns t c =
    let sum = c.loop-member.sum in
    let all : c.into_iter-member-iterator.result ≡ c.args.members.now.entries = search rules in
    let whole = subst (λ ys. min (sum + spec.members_size (members_view ys)) (2 ^ 64 - 1) ≡ min (spec.members_size (members_view c.into_iter-member-iterator.result)) (2 ^ 64 - 1)) c.in-None.ensures.steps.0 c.loop-member.invariant.1 in
    let same = ap (λ ys. min (spec.members_size (members_view ys)) (2 ^ 64 - 1)) all in
    omega (arith, c.loop-member.invariant.0, whole, same)
