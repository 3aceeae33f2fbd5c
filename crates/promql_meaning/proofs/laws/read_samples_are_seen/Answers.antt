use Rattle.promql_meaning.proofs.SeenRead.{read_apart}
use Rattle.promql_meaning.proofs.laws.read_samples_are_seen.Goals as goal

pub returns : goal.returns
returns c = λ ts t x y labels value read. read_apart ts labels y value t x read
