use Rattle.promql_label.proofs.regex_answers.Finding.{finds_of_read}
use Rattle.promql_label.proofs.pattern.search.Goals as goal

pub returns : goal.returns
returns c =
    let found = finds_of_read c.args.regex.now c.args.text.now (λ k. (c.type_inv.text k).fits) c.requires.config c.requires.read in
    rw (c.is_match.ensures.found, c.in_ok-matcher.ensures.pattern) found
