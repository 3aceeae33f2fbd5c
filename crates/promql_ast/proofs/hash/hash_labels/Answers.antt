use Rattle.std.specs.Hash.{fed_along}
use Rattle.promql_label.proofs.equality.FedLists.{option_fed}
use Rattle.promql_kind.proofs.FedModifiers.{clause_fed}
use Rattle.promql_kind.specs.ModifierFeeds.{clause_feed}
use Rattle.promql_kind.specs.ModifierViews.{clause_of}
use Rattle.promql_ast.proofs.hash.hash_labels.Goals as goal

pub returns : goal.returns
returns g c = fed_along g.H.Hasher.write _ _ (option_fed clause_of clause_feed _ clause_fed c.args.labels.now) c.hash.ensures
