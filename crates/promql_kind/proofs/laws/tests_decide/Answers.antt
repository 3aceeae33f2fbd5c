use Rattle.promql_kind.proofs.SameModifiersDecide.{number_eq-Decides, type_eq-Decides}
use Rattle.promql_kind.proofs.laws.tests_decide.Goals as goal

pub returns : goal.returns
returns c = record { value_types = type_eq-Decides; numbers = number_eq-Decides }
