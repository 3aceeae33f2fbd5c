use Rattle.std.proofs.Common.{refl}
use Rattle.std.specs.Hash.{fed_along}
use Rattle.promql_label.proofs.equality.FedLists.{option_fed}
use Rattle.promql_ast.specs.Shifts.{shift_of}
use Rattle.promql_ast.specs.TreeFeed.{shift_feed}
use Rattle.promql_ast.proofs.hash.hash_offset.Goals as goal

pub returns : goal.returns
returns g c =
    fed_along g.H.Hasher.write _ _ (option_fed shift_of shift_feed (λ o. shift_feed (shift_of o)) (λ o. refl) c.args.offset.now) c.hash.ensures
