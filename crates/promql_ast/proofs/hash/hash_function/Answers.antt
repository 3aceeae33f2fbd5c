use Rattle.std.specs.Hash.{fed_along}
use Rattle.promql_kind.proofs.FedModifiers.{function_fed}
use Rattle.promql_ast.proofs.hash.hash_function.Goals as goal

pub returns : goal.returns
returns g c = fed_along g.H.Hasher.write _ _ (function_fed c.args.func.now) c.hash.ensures
