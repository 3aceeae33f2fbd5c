use Rattle.std.proofs.Common.{refl}
use Rattle.std.specs.Hash.{fed_along}
use Rattle.promql_label.proofs.equality.FedLists.{option_fed}
use Rattle.promql_ast.specs.Shifts.{moment_of}
use Rattle.promql_ast.specs.TreeFeed.{moment_feed}
use Rattle.promql_ast.proofs.hash.hash_at.Goals as goal

pub returns : goal.returns
returns g c =
    fed_along g.H.Hasher.write _ _ (option_fed moment_of moment_feed (λ a. moment_feed (moment_of a)) (λ a. refl) c.args.at.now) c.hash.ensures
