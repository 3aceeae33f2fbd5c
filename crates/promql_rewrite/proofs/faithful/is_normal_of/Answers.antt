use Rattle.std.proofs.Common.{◌∙◌, sym, subst, IsTrue}
use Rattle.promql_rewrite.proofs.faithful.is_normal_of.Goals as goal

pub returns : goal.returns
returns c =
    let same = c.equal_expressions.ensures c.args.read.now c.in_ok-normal.normal in
    (λ yes. same.0 (subst IsTrue c.eq-same.ensures yes) ∙ c.in_ok-normal.ensures, λ is. subst IsTrue (sym c.eq-same.ensures) (same.1 (is ∙ sym c.in_ok-normal.ensures)))
