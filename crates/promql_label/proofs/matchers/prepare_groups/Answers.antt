use Rattle.std.proofs.Common.{◌≡◌, ◌∙◌, Vec, List, ap, arith, length, map, rules, slice_index_or, sym}
use Rattle.std.proofs.lemmas.List.{length-map, with_items_is}
use Rattle.std.specs.Vec.{with_items}
use Rattle.promql_label.specs.MatcherViews.{plain_matcher_of}
use Rattle.promql_label.specs.declared.matcher.Matcher.{Matcher}
use Rattle.promql_label.proofs.label_lists.PlacesSet.{map_after_set}
use Rattle.promql_label.proofs.matchers.prepare_groups.Goals as goal

-- a group whose matchers look the same is filled with as many
refilled : {A : Type 0} (before : Vec Matcher A) (new : List Matcher) → map plain_matcher_of new ≡ map plain_matcher_of before.items
    → map plain_matcher_of (with_items before new).items ≡ map plain_matcher_of before.items
refilled before new same =
    let long : length new ≡ length before.items = sym (length-map new plain_matcher_of) ∙ ap length same ∙ length-map before.items plain_matcher_of in
    ap (map plain_matcher_of) (with_items_is before new (omega (arith, long, before.ok))) ∙ same

pub returns-in_err-prepare_all : goal.returns-in_err-prepare_all
returns-in_err-prepare_all c =
    let before = slice_index_or c.groups.groups c.groups.group-index c.group-item.result in
    let is : c.deref_mut.result.now ≡ before.items = search (rules, c.deref_mut.ensures) in
    map_after_set (λ g. map plain_matcher_of g.items) c.groups.groups c.groups.group-index c.group-item.result (with_items before c.prepare_all.new.matchers) (search rules)
    (refilled before c.prepare_all.new.matchers (c.prepare_all.ensures ∙ ap (map plain_matcher_of) is))
    ∙ c.groups.invariant

pub groups-preserved : goal.groups-preserved
groups-preserved c =
    let before = slice_index_or c.groups.groups c.groups.group-index c.group-item.result in
    let is : c.deref_mut.result.now ≡ before.items = search (rules, c.deref_mut.ensures) in
    map_after_set (λ g. map plain_matcher_of g.items) c.groups.groups c.groups.group-index c.group-item.result (with_items before c.prepare_all.new.matchers) (search rules)
    (refilled before c.prepare_all.new.matchers (c.prepare_all.ensures ∙ ap (map plain_matcher_of) is))
    ∙ c.groups.invariant
