use Rattle.std.proofs.Common.{ap, map, refl}
use Rattle.std.proofs.Output.{has_written_styled_append, has_written_styled_of_eq}
use Rattle.promql_span.specs.Unexpected.{expected_text}
use Rattle.promql_span.proofs.unexpected.UnexpectedDisplay.fmt.Goals as goal

pub returns-clause-styled : goal.returns-clause-styled
returns-clause-styled g c = λ flush ok.
    let began = c.in_ok-write_str.ensures.styled flush refl in
    let found = c.in_ok-fmt.ensures.styled began.flush refl in
    let named = c.in_ok-write_names.ensures found.flush refl in
    let names = has_written_styled_of_eq _ _ _ _ _ (ap (λ ns. expected_text (map (λ n. n.now) ns)) c.as_slice.ensures.value) named in
    has_written_styled_append _ _ _ _ _ _ began (has_written_styled_append _ _ _ _ _ _ found (has_written_styled_append _ _ _ _ _ _ names (c.write_hint.ensures named.flush ok)))
