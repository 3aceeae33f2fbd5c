use Rattle.promql_rewrite.proofs.laws.offsets_by_length.Goals as goal
use Rattle.promql_rewrite.proofs.readback.PrintedOffsets.{offset_is}

pub returns : goal.returns
returns c = offset_is
