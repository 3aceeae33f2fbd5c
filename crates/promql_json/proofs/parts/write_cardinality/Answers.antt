use Rattle.promql_json.proofs.parts.write_cardinality.Goals as goal

pub returns-in-OneToMany : goal.returns-in-OneToMany
returns-in-OneToMany c = rw c.in-OneToMany.is c.write_grouped-in-OneToMany.ensures
