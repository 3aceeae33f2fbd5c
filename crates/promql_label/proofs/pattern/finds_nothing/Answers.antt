use Rattle.std.proofs.Common.{◌∙◌, map, option_map, string_bytes, subst, sym}
use Rattle.regex.specs.Patterns.{Reads}
use Rattle.regex_hir.specs.Meaning.{meaning}
use Rattle.promql_label.proofs.regex_answers.EmptyText.{found_in_nothing}
use Rattle.promql_label.proofs.regex_answers.Finding.{nothing_of_read}
use Rattle.promql_label.proofs.pattern.finds_nothing.Goals as goal

pub returns-in-Ok : goal.returns-in-Ok
returns-in-Ok c =
    let text = c.args.pattern.now in
    let tree = c.in-Ok.parsed.hir in
    let names = map (option_map string_bytes) c.in-Ok.parsed.names.items in
    c.matches_empty.ensures ∙ sym (found_in_nothing (meaning tree))
    ∙ nothing_of_read text tree names (subst (λ config. Reads config text tree names) c.default.ensures c.in-Ok.ensures.ok)
