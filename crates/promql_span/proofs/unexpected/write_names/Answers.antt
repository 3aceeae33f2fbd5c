use Rattle.std.proofs.Common.{◌∙◌, refl, sym}
use Rattle.std.proofs.Output.{has_written_styled_append, has_written_styled_of_eq}
use Rattle.promql_span.proofs.Naming.{expected_last}
use Rattle.promql_span.proofs.unexpected.write_names.Goals as goal

pub returns : goal.returns
returns g c = λ flush ok.
    let began = c.in_ok-write_str.ensures.styled flush refl in
    let firsts = c.in_ok-write_firsts.ensures began.flush refl in
    has_written_styled_of_eq _ _ _ _ _
    (expected_last c.args.names.now c.in-Some.firsts.now c.in-Some.last.now c.in-Some.ensures.cases.0 (sym c.is_empty.ensures ∙ c.if-is_empty.false))
    (has_written_styled_append _ _ _ _ _ _ began (has_written_styled_append _ _ _ _ _ _ firsts (c.write_plain-2.ensures firsts.flush ok)))
