use Rattle.std.proofs.Common.{inl, refl, subst}
use Rattle.promql_when.specs.Found.{IsErrorAt, timed_tree}
use Rattle.promql_query.proofs.windows_text.error_of.Goals as goal

pub returns-in-Ok : goal.returns-in-Ok
returns-in-Ok c =
    λ found at.
    let node = c.in-TimeOverflow.node in
    inl (timed_tree node, c.in-Ok.text, subst (IsErrorAt found) c.in-TimeOverflow.is at, c.in-Ok.ensures, refl)
