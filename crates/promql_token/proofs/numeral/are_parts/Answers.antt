use Rattle.std.proofs.Common.{◌≤◌, ◌∙◌, sym, ap, length, arith}
use Rattle.std.proofs.lemmas.Grind.{common_steps}
use Rattle.std.proofs.lemmas.List.{take_rest}
use Rattle.promql_token.specs.TokenScanning.{parts_from}
use Rattle.promql_token.proofs.printed.LaterDurationParts.{parts_go, parts_stop}
use Rattle.promql_token.proofs.numeral.are_parts.Goals as goal

pub returns-then-len-eq0 : goal.returns-then-len-eq0
returns-then-len-eq0 c =
    let rest = c.loop-rest.rest.now in
    let some : 1 ≤ length rest = grind (arith, common_steps) in
    sym (sym c.loop-rest.invariant ∙ parts_stop rest some (sym c.part_len-len.ensures.value ∙ c.if-len-eq0.true))

pub loop-rest-preserved : goal.loop-rest-preserved
loop-rest-preserved c =
    let rest = c.loop-rest.rest.now in
    let len = c.part_len-len.result in
    let e = c.part_len-len.ensures in
    ap (parts_from 0) (take_rest rest len) ∙ sym (parts_go rest len e.value (omega arith) e.within) ∙ c.loop-rest.invariant
