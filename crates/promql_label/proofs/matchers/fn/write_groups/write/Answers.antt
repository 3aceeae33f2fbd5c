use Rattle.std.proofs.Common.{◌∙◌, codes, map, refl, sym, ap}
use Rattle.std.proofs.Output.{has_written_styled_of_eq}
use Rattle.std.proofs.lemmas.Simd.{map-map}
use Rattle.promql_label.specs.PlainMatchers.{matcher_text}
use Rattle.promql_label.specs.MatcherViews.{plain_matcher_of}
use Rattle.promql_label.specs.NextText.{text_of}
use Rattle.promql_text.specs.Texts.{joined_text}
use Rattle.promql_label.proofs.matchers.fn.write_groups.write.Goals as goal

pub returns : goal.returns
returns g c = λ flush ok. has_written_styled_of_eq _ _ _ _ _
    (ap (λ ms. joined_text (codes ", ") (map text_of ms)) c.deref.ensures.value
    ∙ ap (joined_text (codes ", ")) (sym (map-map matcher_text plain_matcher_of c.args.group.now.items)))
    (c.write_joined.ensures.styled text_of (λ m options. refl) flush ok)
