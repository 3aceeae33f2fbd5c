use Rattle.std.proofs.Common.{Some, subst, w64}
use Rattle.std.proofs.lemmas.Int.{to_z-of_z}
use Rattle.promql_ast.specs.View.{tree_of}
use Rattle.promql_when.specs.Found.{IsErrorAt}
use Rattle.promql_when.specs.Reads.{overflow}
use Rattle.promql_when.specs.Windows.{instant}
use Rattle.promql_c.proofs.timing.text_of_last_read.Goals as goal

pub returns-in-Err : goal.returns-in-Err
returns-in-Err c =
    let ts = c.args.times.now in let t = tree_of c.args.expr.now in let x = c.args.time in
    c.error_of.ensures (overflow ts t (Some (instant x)))
    (subst (λ x. IsErrorAt (overflow ts t (Some (instant x))) c.in-Err.error) (to_z-of_z w64 x c.ranges.time) c.in-Err.ensures.error)
