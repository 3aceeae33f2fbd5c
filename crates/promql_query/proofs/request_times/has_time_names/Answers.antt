use Rattle.std.proofs.Common.{ap, sym, ◌∙◌}
use Rattle.std.specs.Prelude.{is_none}
use Rattle.promql_query.specs.declared.request.Names.TheVariants.{OfTimes}
use Rattle.promql_query.proofs.RequestMembers.{names_of, none_from_some, none_of_map, times_object}
use Rattle.promql_query.proofs.request_times.has_time_names.Goals as goal

pub returns-in-Object : goal.returns-in-Object
returns-in-Object c =
    let members = c.in-Object.members in
    none_from_some c.unknown_name.result c.is_none.result c.is_none.ensures ∙ none_of_map (λ s. s.now) c.unknown_name.result ∙ ap is_none (c.unknown_name.ensures ∙ names_of OfTimes members.entries)
    ∙ sym (times_object c.args.value.now members c.in-Object.is)
