use Rattle.std.proofs.Common.{Some, ap, map, string_bytes, sym, ◌∙◌}
use Rattle.std.proofs.lemmas.Map.Iter.{rest_all, rest_more}
use Rattle.std.specs.Map.Iter.{deref}
use Rattle.promql_query.specs.BatchSteps.{first_unknown}
use Rattle.promql_query.specs.Requests.{is_known}
use Rattle.promql_query.proofs.RequestMembers.{known_first, unknown_first}
use Rattle.promql_query.proofs.request.unknown_name.Goals as goal

pub returns-then-not-is_known : goal.returns-then-not-is_known
returns-then-not-is_known c =
    let rest = rest_more deref _ _ c.next.result c.in-Some.key c.in-Some.is c.next.ensures.steps in
    let unknown = ap (is_known c.args.names) (sym c.as_str.ensures.value) ∙ sym c.is_known.ensures ∙ c.if-not-is_known.true in
    ap Some c.as_str-then-not-is_known.ensures.value ∙ unknown_first c.args.names _ _ c.in-Some.key.now rest unknown ∙ c.loop-key.invariant

pub loop-key-preserved : goal.loop-key-preserved
loop-key-preserved c =
    let rest = rest_more deref _ _ c.next.result c.in-Some.key c.in-Some.is c.next.ensures.steps in
    let known = ap (is_known c.args.names) (sym c.as_str.ensures.value) ∙ sym c.is_known.ensures ∙ c.if-not-is_known.false in
    known_first c.args.names _ _ c.in-Some.key.now rest known ∙ c.loop-key.invariant

pub returns : goal.returns
returns c =
    let rest = rest_all deref _ _ c.next.result c.in-None.is c.next.ensures.steps in
    sym (ap (λ keys. first_unknown c.args.names (map string_bytes keys)) rest) ∙ c.loop-key.invariant
