use Rattle.std.proofs.Common.{refl}
use Rattle.promql_ast.proofs.equality.FedModes.{mode_fed}
use Rattle.promql_ast.proofs.laws.hash_inputs.Goals as goal

pub returns : goal.returns
returns c = record {
  expressions = λ e. refl;
  aggregate = λ a. refl;
  unary = λ u. refl;
  binary = λ b. refl;
  paren = λ p. refl;
  subquery = λ s. refl;
  number = λ n. refl;
  string = λ s. refl;
  vector = λ v. refl;
  matrix = λ m. refl;
  call = λ c. refl;
  extension = λ e. refl;
  arguments = λ a. refl;
  offset = λ o. refl;
  at = λ t. refl;
  mode = mode_fed;
}
