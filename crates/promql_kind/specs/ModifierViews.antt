-- What contracts see of modifiers.
use Rattle.std.specs.Prelude.{option_map}
use Rattle.promql_label.specs.Labels.{labels_of}
use Rattle.promql_kind.specs.declared.label_modifier.LabelModifier.{LabelModifier}
use Rattle.promql_kind.specs.declared.label_modifier.LabelModifier.TheVariants.{Include, Exclude}
use Rattle.promql_kind.specs.declared.cardinality.VectorMatchCardinality.{VectorMatchCardinality}
use Rattle.promql_kind.specs.declared.cardinality.VectorMatchCardinality.TheVariants.{OneToOne, ManyToOne, OneToMany, ManyToMany}
use Rattle.promql_kind.specs.declared.fill_values.VectorMatchFillValues.{VectorMatchFillValues}
use Rattle.promql_kind.specs.declared.bin_modifier.BinModifier.{BinModifier}
use Rattle.promql_kind.specs.Modifiers.{Clause, including, excluding, Cardinality, one_to_one, many_to_one, one_to_many, many_to_many, Fills, fills, Matching, matching}

abbrev pub clause_of : LabelModifier → Clause
clause_of (Include labels) = including (labels_of labels)
clause_of (Exclude labels) = excluding (labels_of labels)

abbrev pub cardinality_of : VectorMatchCardinality → Cardinality
cardinality_of OneToOne = one_to_one
cardinality_of (ManyToOne labels) = many_to_one (labels_of labels)
cardinality_of (OneToMany labels) = one_to_many (labels_of labels)
cardinality_of ManyToMany = many_to_many

abbrev pub fills_of : VectorMatchFillValues → Fills
fills_of v = fills v.rhs v.lhs

abbrev pub matching_of : BinModifier → Matching
matching_of m =
    matching (cardinality_of m.card) (option_map clause_of m.matching) m.return_bool (fills_of m.fill_values)
