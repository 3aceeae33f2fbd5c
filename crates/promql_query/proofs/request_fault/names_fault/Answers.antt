use Rattle.std.proofs.Common.{◌≡◌, ap, cond, false, option_map, sym, true, ◌∙◌}
use Rattle.std.specs.Prelude.{is_none}
use Rattle.serde_json.specs.View.{members_view, view}
use Rattle.promql_query.specs.Requests.{ends_fault, unknown_name}
use Rattle.promql_query.specs.declared.request.Names.TheVariants.{OfTimes}
use Rattle.promql_query.specs.declared.request_fault.RequestFault.TheVariants.{TimesMember}
use Rattle.promql_query.proofs.RequestMembers.{names_of, times_faults}
use Rattle.promql_query.proofs.request_fault.names_fault.Goals as goal

pub returns-in-Some : goal.returns-in-Some
returns-in-Some c =
    let members = c.in-Object.members in
    let other : is_none (unknown_name OfTimes (members_view members.entries)) ≡ false
    = ap is_none (sym (c.unknown_name.ensures ∙ names_of OfTimes members.entries)) ∙ ap (λ o. is_none (option_map (λ s. s.now) o)) c.in-Some.is in
    sym (times_faults c.args.times.now members c.in-Object.is ∙ ap (λ b. cond b (ends_fault (view c.args.times.now)) TimesMember) other)

pub returns-in-None : goal.returns-in-None
returns-in-None c =
    let members = c.in-Object.members in
    let known : is_none (unknown_name OfTimes (members_view members.entries)) ≡ true
    = ap is_none (sym (c.unknown_name.ensures ∙ names_of OfTimes members.entries)) ∙ ap (λ o. is_none (option_map (λ s. s.now) o)) c.in-None.is in
    c.ends_fault.ensures ∙ sym (times_faults c.args.times.now members c.in-Object.is ∙ ap (λ b. cond b (ends_fault (view c.args.times.now)) TimesMember) known)
