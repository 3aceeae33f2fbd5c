use Rattle.promql_json.proofs.parts.write_moment.Goals as goal

pub returns-in-End : goal.returns-in-End
returns-in-End c = rw c.in-End.is c.string_member-in-End.ensures

pub returns-in-At : goal.returns-in-At
returns-in-At c = rw c.in-At.is c.null_member.ensures
