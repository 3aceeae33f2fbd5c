use Rattle.promql_kind.proofs.FedModifiers.{cardinality_fed, clause_fed, fills_fed, function_fed, matching_fed, number_fed, type_fed}
use Rattle.promql_kind.proofs.laws.hash_inputs.Goals as goal

pub returns : goal.returns
returns c = record {
  numbers = number_fed;
  value_types = type_fed;
  label_modifiers = clause_fed;
  cardinalities = cardinality_fed;
  fill_values = fills_fed;
  bin_modifiers = matching_fed;
  functions = function_fed;
}
