use Rattle.std.proofs.Common.{refl}
use Rattle.promql_text.specs.Quoting.{quoted_text}
use Rattle.promql_test_parts.proofs.tests.text.printed.BarredDisplay.fmt.Goals as goal

pub returns-clause-writes : goal.returns-clause-writes
returns-clause-writes g c = c.write_joined.ensures.writes (λ t. quoted_text t.0.now) (λ t. refl)
