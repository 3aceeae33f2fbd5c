-- The statuses of a query that is not within its limits, or that its target reads otherwise or rejects, are those of no other error.
use Rattle.std.proofs.Common.{◌≡◌, ◌⊎◌, inl, inr, refl}
use Rattle.promql_run.specs.Running.{error_number}
use Rattle.promql_run.specs.declared.run.RunError.{RunError}
use Rattle.promql_run.specs.declared.run.RunError.TheVariants.{Memory, Read, NotUtf8, Parse, Write, Json}
use Rattle.promql_query.specs.Rejecting.{reason_number}
use Rattle.promql_query.specs.declared.rejection.Reason.{Reason}
use Rattle.promql_query.specs.declared.rejection.Reason.TheVariants as reasons

pub not_fourteen : (e : RunError) → ¬ (error_number e ≡ 14)
not_fourteen Memory same = cc
not_fourteen Read same = cc
not_fourteen NotUtf8 same = cc
not_fourteen (Parse e) same = cc
not_fourteen Write same = cc
not_fourteen Json same = cc

pub not_twenty_three : (e : RunError) → ¬ (error_number e ≡ 23)
not_twenty_three Memory same = cc
not_twenty_three Read same = cc
not_twenty_three NotUtf8 same = cc
not_twenty_three (Parse e) same = cc
not_twenty_three Write same = cc
not_twenty_three Json same = cc

pub not_twenty_four : (e : RunError) → ¬ (error_number e ≡ 24)
not_twenty_four Memory same = cc
not_twenty_four Read same = cc
not_twenty_four NotUtf8 same = cc
not_twenty_four (Parse e) same = cc
not_twenty_four Write same = cc
not_twenty_four Json same = cc

-- a rejection has one of four statuses
pub rejected_status : (r : Reason) → (reason_number r ≡ 4) ⊎ (reason_number r ≡ 14) ⊎ (reason_number r ≡ 23) ⊎ (reason_number r ≡ 24)
rejected_status (reasons.Parse e) = inl refl
rejected_status (reasons.Limit f) = inr (inl refl)
rejected_status (reasons.Otherwise kind) = inr (inr (inl refl))
rejected_status (reasons.Refused target kind) = inr (inr (inr refl))
