-- `==` of errors holds exactly of one kind.
use Rattle.std.proofs.Common.{refl}
use Rattle.promql_text.specs.Equalities.{IsSameBy}
use Rattle.promql_json.specs.contracts.error.JsonErrorPartialEq.TheImpl as errors
use Rattle.promql_json.specs.declared.error.JsonError.TheVariants.{Memory, NumberTooWide, Extension}

pub error_Decides : IsSameBy (λ e. e) errors.ghosts.eq
error_Decides Memory Memory = ((λ _. refl), (λ _. refl))
error_Decides NumberTooWide NumberTooWide = ((λ _. refl), (λ _. refl))
error_Decides Extension Extension = ((λ _. refl), (λ _. refl))
error_Decides _ _ = ((λ h. cc), (λ h. cc))
