use Rattle.std.proofs.Common.{sym, ap, ◌∙◌}
use Rattle.promql_text.specs.NumberText.{number_of}
use Rattle.promql_text.proofs.numerals.WhitespaceLemmas.{visible_whole}
use Rattle.promql_text.proofs.number_text.parse_str_radix.Goals as goal

pub returns-then-is_visible : goal.returns-then-is_visible
returns-then-is_visible c =
    let whole = visible_whole c.args.text.now (sym c.is_visible.ensures ∙ c.if-is_visible.true) in
    c.number_of.ensures ∙ ap number_of (c.as_bytes.ensures.value ∙ sym whole)
