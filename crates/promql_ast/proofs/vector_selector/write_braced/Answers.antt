use Rattle.std.proofs.Common.{refl, sym, ◌∙◌}
use Rattle.std.proofs.Output.{has_written_styled_append, has_written_styled_of_eq}
use Rattle.promql_label.specs.MatcherViews.{plain_matchers_of}
use Rattle.promql_ast.proofs.normal_form.Blank.{braced_text}
use Rattle.promql_ast.proofs.vector_selector.write_braced.Goals as goal

pub returns-in_ok-fmt : goal.returns-in_ok-fmt
returns-in_ok-fmt g c = λ flush ok.
    let opened = c.in_ok-write_str.ensures.styled flush refl in
    let inner = c.in_ok-fmt.ensures.styled opened.flush refl in
    let closed = c.write_str-else-is_blank.ensures.styled inner.flush ok in
    has_written_styled_of_eq _ _ _ _ _ (sym (braced_text (plain_matchers_of c.args.matchers.now) (sym c.is_blank.ensures ∙ c.if-is_blank.false)))
    (has_written_styled_append _ _ _ _ _ _ opened (has_written_styled_append _ _ _ _ _ _ inner closed))
