use Rattle.std.proofs.Common.{ap, filter, map, string_bytes, sym}
use Rattle.std.specs.Prelude.{List}
use Rattle.promql_label.specs.MatcherViews.{plain_matcher_of}
use Rattle.promql_label.specs.PlainMatchers.{PlainMatcher, name_of}
use Rattle.promql_label.proofs.label_lists.MatcherSearch.{held_of}
use Rattle.promql_rewrite.specs.Collecting.{is_label_matcher}
use Rattle.promql_rewrite.proofs.names.AppendedLists.{appended_as, appended_both, passed_both}
use Rattle.promql_ast.proofs.nodes.ChangedLists.{on_ok}
use Rattle.promql_rewrite.proofs.collecting.push_selector_labels.Goals as goal

pub returns : goal.returns
returns c =
    let old = map string_bytes c.args.names.now.items in
    let cs : List PlainMatcher = map plain_matcher_of c.args.matchers.now.matchers.items in
    let ds : List PlainMatcher = held_of c.args.matchers.now.or_matchers.items in
    on_ok c.push_group_labels.result _ _
    (λ more.
    appended_as old _ _ _ (sym (passed_both name_of is_label_matcher cs ds))
    (appended_both old _ _ (map name_of (filter is_label_matcher cs)) (map name_of (filter is_label_matcher ds)) _ _
    (ap (λ ms. map name_of (filter is_label_matcher (map plain_matcher_of ms))) c.deref.ensures.value)
    (ap (λ gs. map name_of (filter is_label_matcher (held_of gs))) c.deref-2.ensures.value) c.in_ok-push_matcher_labels.ensures more))
    c.push_group_labels.ensures
