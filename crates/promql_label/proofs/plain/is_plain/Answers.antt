use Rattle.std.proofs.Common.{◌≡◌, ◌∙◌, [], drop, ap, sym, arith}
use Rattle.std.proofs.lemmas.List.{drop_all}
use Rattle.promql_label.specs.PlainPatterns as spec
use Rattle.promql_label.proofs.plain_patterns.PlainPatternsRead.{plain_pair_is_read}
use Rattle.promql_label.proofs.plain.is_plain.Goals as goal

pub returns-clause-read : goal.returns-clause-read
returns-clause-read c =
    let at_end : drop c.bytes.b-index c.args.value.now ≡ [] = drop_all c.bytes.b-index c.args.value.now (omega (arith, c.bytes-test)) in
    let same : spec.can_end c.bytes.scan ≡ spec.is_plain c.args.value.now = sym (ap (spec.is_plain_from c.bytes.scan) at_end) ∙ c.bytes.invariant in
    λ plain. plain_pair_is_read c.args.value.now (sym same ∙ sym c.can_end.ensures ∙ plain)
