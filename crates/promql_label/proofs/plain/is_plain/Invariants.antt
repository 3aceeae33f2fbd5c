use Rattle.std.proofs.Common.{◌≡◌, drop}
use Rattle.promql_label.specs.PlainPatterns.{is_plain, is_plain_from}
use Rattle.promql_label.proofs.plain.is_plain.Given as goal

abbrev pub invariant-bytes : goal.invariant-bytes
invariant-bytes l = is_plain_from l.scan (drop l.b-index l.value) ≡ is_plain l.value
