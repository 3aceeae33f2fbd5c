use Rattle.std.proofs.Common.{◌∙◌, ap, rules, subst₂, sym}
use Rattle.std.specs.Fmt.{HasWrittenStyled, IsFlush, formatter_writer}
use Rattle.promql_text.proofs.writing.AllOptions.{hands_on, if_known}
use Rattle.promql_text.proofs.without_options.write_plain.Goals as goal

pub returns : goal.returns
returns g c =
    let took = g.W.Write.write_str_gives in
    let given = c.new-plain.ensures.writer in
    let back = c.into_inner-f.ensures in
    if_known (g.D.Display.output c.args.value) _ _ (λ bs writes flush ok.
    let all = hands_on took (λ s. s.f) (formatter_writer c.new-plain.result) bs (formatter_writer c.write-result.new.self) (writes c.new-plain.ensures.plain ok).wrote in
    let name = ap (λ s. s.f.ghost_name) back ∙ all.0 ∙ ap (λ s. s.f.ghost_name) given in
    let wrote = subst₂ (λ s t. IsFlush s.f.now → HasWrittenStyled took s.f.now bs t.f.now) given (sym back) all.1 in
    search (rules, wrote flush))
    c.write-result.ensures.writes
