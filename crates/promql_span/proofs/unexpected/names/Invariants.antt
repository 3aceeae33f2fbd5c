use Rattle.std.proofs.Common.{map, take}
use Rattle.promql_span.proofs.Naming.{AreNamed, has_in}
use Rattle.promql_span.proofs.unexpected.names.Given as goal

-- the kinds so far have their names
abbrev pub invariant-loop-kind : goal.invariant-loop-kind
invariant-loop-kind l = AreNamed (has_in l.expected.kinds.items) (take l.kind-index l.expected.kinds.items) (map (λ n. n.now) l.names.items)
