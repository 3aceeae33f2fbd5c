use Rattle.std.proofs.Common.{sym, ◌∙◌}
use Rattle.promql_label.proofs.label_lists.MatcherSearch.{first_value_here, first_value_past}
use Rattle.promql_label.proofs.matchers.Matchers.find_matcher_value.Goals as goal

pub loop-group-preserved : goal.loop-group-preserved
loop-group-preserved c =
    c.loop-group.invariant
    ∙ first_value_past _ _ _ _ _ c.loop-group-test.true c.group-item.is c.deref-in-loop-group.ensures.value
    (sym c.in_default-named_value.ensures)

pub returns-in-Some-named_value : goal.returns-in-Some-named_value
returns-in-Some-named_value c =
    sym (c.loop-group.invariant
    ∙ first_value_here _ _ _ _ _ _ c.loop-group-test.true c.group-item.is c.deref-in-loop-group.ensures.value
    (sym c.in-Some-named_value.ensures))
