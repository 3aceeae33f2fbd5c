-- What a change of a tree in its place says.
use Rattle.std.specs.Prelude.{◌≡◌, MatchResult, Result}
use Rattle.promql_ast.specs.Faults.{Verdict, passes, rejected, node}
use Rattle.promql_ast.specs.Tree.{Tree}
use Rattle.promql_ast.specs.declared.fault.NodeFault.{NodeFault}

-- the result is the builder's verdict; a tree that passes is this one
abbrev pub SettlesAtOnce : {X : Type 0} → Result X NodeFault → Verdict → Tree → Type 0
SettlesAtOnce result verdict t = MatchResult result (λ x. verdict ≡ passes t) (λ f. verdict ≡ rejected (node f))
