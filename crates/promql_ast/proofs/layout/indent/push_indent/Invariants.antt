use Rattle.std.proofs.Common.{◌≡◌, ◌++◌, string_bytes}
use Rattle.promql_ast.specs.Lines.{indent}
use Rattle.promql_ast.proofs.layout.indent.push_indent.Given as goal

abbrev pub invariant-loop-i : goal.invariant-loop-i
invariant-loop-i l = string_bytes l.out ≡ string_bytes l.initial.out ++ indent l._i
