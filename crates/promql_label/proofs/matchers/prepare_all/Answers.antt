use Rattle.std.proofs.Common.{◌∙◌, rules}
use Rattle.promql_label.specs.MatcherViews.{plain_matcher_of}
use Rattle.promql_label.proofs.label_lists.PlacesSet.{map_after_set}
use Rattle.promql_label.proofs.matchers.prepare_all.Goals as goal

pub returns-in_err-prepare : goal.returns-in_err-prepare
returns-in_err-prepare c =
    map_after_set plain_matcher_of c.matchers.matchers c.matchers.matcher-index c.matcher-item.result c.prepare.new.self (search rules) c.prepare.ensures ∙ c.matchers.invariant

pub matchers-preserved : goal.matchers-preserved
matchers-preserved c =
    map_after_set plain_matcher_of c.matchers.matchers c.matchers.matcher-index c.matcher-item.result c.prepare.new.self (search rules) c.prepare.ensures ∙ c.matchers.invariant
