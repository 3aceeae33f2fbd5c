-- `==` of range modes holds exactly of one mode.
use Rattle.std.proofs.Common.{refl}
use Rattle.promql_text.specs.Equalities.{IsSameBy}
use Rattle.promql_ast.specs.contracts.range_mode.RangeModePartialEq.TheImpl as modes
use Rattle.promql_ast.specs.declared.range_mode.RangeMode.TheVariants.{Plain, Smoothed, Anchored}

pub mode_Decides : IsSameBy (λ m. m) modes.ghosts.eq
mode_Decides Plain Plain = ((λ _. refl), (λ _. refl))
mode_Decides Smoothed Smoothed = ((λ _. refl), (λ _. refl))
mode_Decides Anchored Anchored = ((λ _. refl), (λ _. refl))
mode_Decides _ _ = ((λ h. cc), (λ h. cc))
