use Rattle.std.proofs.Common.{string_bytes}
use Rattle.std.proofs.lemmas.Slice.Eq.{bytes_eq-Decides}
use Rattle.promql_kind.proofs.Equal.{number_Decides}
use Rattle.promql_ast.proofs.equality.SameModes.{mode_Decides}
use Rattle.promql_ast.proofs.laws.equal_literals.Goals as goal

pub returns : goal.returns
returns c = record {
  number = λ a b. number_Decides a.val b.val;
  string = λ a b. bytes_eq-Decides (string_bytes a.val) (string_bytes b.val);
  mode = mode_Decides;
}
