-- The derived hash of a range mode feeds what the definition says.
use Rattle.std.proofs.Common.{◌≡◌, refl}
use Rattle.promql_ast.specs.TreeFeed.{mode_feed}
use Rattle.promql_ast.specs.contracts.range_mode.RangeModeHash.TheImpl as modes
use Rattle.promql_ast.specs.declared.range_mode.RangeMode.{RangeMode}
use Rattle.promql_ast.specs.declared.range_mode.RangeMode.TheVariants.{Plain, Smoothed, Anchored}

pub mode_fed : (m : RangeMode) → modes.ghosts.hash_input m ≡ mode_feed m
mode_fed Plain = refl
mode_fed Smoothed = refl
mode_fed Anchored = refl
