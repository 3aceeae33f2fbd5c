use Rattle.std.specs.Hash.{fed_along}
use Rattle.promql_label.proofs.equality.FedLists.{option_fed}
use Rattle.promql_kind.proofs.FedModifiers.{matching_fed}
use Rattle.promql_kind.specs.ModifierFeeds.{matching_feed}
use Rattle.promql_kind.specs.ModifierViews.{matching_of}
use Rattle.promql_ast.proofs.hash.hash_matching.Goals as goal

pub returns : goal.returns
returns g c = fed_along g.H.Hasher.write _ _ (option_fed matching_of matching_feed _ matching_fed c.args.matching.now) c.hash.ensures
