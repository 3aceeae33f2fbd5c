use Rattle.std.proofs.Common.{ap}
use Rattle.promql_meaning.proofs.SeenParts.{args_in, at_in, beside_in, clause_in, expr_in, function_in, literal_in, matching_in, mode_in, name_in, offset_in, one_series, op_in, range_in, right_in, seen_apart, series_in, step_in, type_in}
use Rattle.promql_meaning.proofs.laws.nothing_is_forgotten.Goals as goal

pub returns : goal.returns
returns c = record {
  aggregates = λ s op other e f p q m n same. (ap op_in same, ap expr_in same, ap args_in same, ap clause_in same);
  unaries = λ s e f same. ap expr_in same;
  binaries = λ s op other l r x y m n same. (ap op_in same, ap expr_in same, ap right_in same, ap matching_in same);
  subqueries = λ s e f offset back at moment range length step each same.
      (ap expr_in same, ap offset_in same, ap at_in same, ap range_in same, ap step_in same);
  numbers = λ s n m same. ap literal_in same;
  strings = λ s a b same. ap literal_in same;
  vectors = λ s name other cs ds offset back at moment same. (ap offset_in same, ap at_in same, ap series_in same);
  matrices = λ s name other cs ds offset back at moment range length mode way same.
      (ap offset_in same, ap at_in same, ap range_in same, ap mode_in same, ap series_in same);
  calls = λ s f g es fs same. (ap (function_in f) same, ap beside_in same, ap args_in same);
  extensions = λ s name other gives type es fs same. (ap name_in same, ap (type_in gives) same, ap args_in same);
  selectors = λ a b labels found missed. (one_series labels, seen_apart a b labels found missed);
}
