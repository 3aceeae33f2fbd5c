use Rattle.promql_text.proofs.numbers.NumberTests.{below_zero_told, infinite_told, nan_told, zero_told}
use Rattle.promql_text.proofs.laws.number_tests.Goals as goal

pub returns : goal.returns
returns c = record { nan = nan_told; infinite = infinite_told; below_zero = below_zero_told; zero = zero_told }
