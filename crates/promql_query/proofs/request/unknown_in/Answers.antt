use Rattle.std.proofs.Common.{sym, ◌∙◌}
use Rattle.promql_query.proofs.RequestMembers.{names_of, object_has}
use Rattle.promql_query.specs.declared.request.Names.TheVariants.{OfRequest}
use Rattle.promql_query.proofs.request.unknown_in.Goals as goal

pub returns-in-Object : goal.returns-in-Object
returns-in-Object c =
    c.unknown_name.ensures ∙ names_of OfRequest c.in-Object.members.entries ∙ sym (object_has c.args.value.now c.in-Object.members c.in-Object.is)
