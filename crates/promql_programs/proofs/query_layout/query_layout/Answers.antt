use Rattle.std.proofs.Common.{inr, rules}
use Rattle.std.specs.Prelude.{string_bytes}
use Rattle.promql_programs.proofs.query_layout.query_layout.Goals as goal

pub returns-then-not-settings-clause-ok : goal.returns-then-not-settings-clause-ok
returns-then-not-settings-clause-ok c = (string_bytes c.in_ok-layout.layout, c.in_ok-layout.ensures.ok, search rules)

pub returns-then-eq-clause-ok : goal.returns-then-eq-clause-ok
returns-then-eq-clause-ok c = (string_bytes c.in_ok-layout.layout, c.in_ok-layout.ensures.ok, search rules)

pub returns-clause-err : goal.returns-clause-err
returns-clause-err c = inr (string_bytes c.in_ok-layout.layout, c.in_ok-layout.ensures.ok, search rules)
