use Rattle.std.proofs.Common.{◌≡◌, drop, map, string_bytes, take}
use Rattle.promql_rewrite.specs.Renaming.{replaced}
use Rattle.promql_rewrite.proofs.renaming.replace_each.Given as goal

abbrev pub invariant-loop-i : goal.invariant-loop-i
invariant-loop-i l = record {
  left : drop l.i l.names ≡ drop l.i l.fn.names;
  done : map string_bytes (take l.i l.names) ≡ map (λ s. replaced l.renaming.from.now l.renaming.to.now (string_bytes s)) (take l.i l.fn.names);
}
