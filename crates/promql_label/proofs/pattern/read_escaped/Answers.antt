use Rattle.std.proofs.Common.{◌∙◌}
use Rattle.promql_label.proofs.regex_answers.Reading.{read_escaped, rejected_twice}
use Rattle.promql_label.proofs.pattern.read_escaped.Goals as goal

pub returns-in-Some-clause-built : goal.returns-in-Some-clause-built
returns-in-Some-clause-built g c =
    read_escaped _ _ _ _ _ c.requires (c.as_str.ensures.value ∙ c.in_ok-escaped.ensures) c.in-Some.is c.in_ok-pattern.ensures

pub returns-clause-rejected : goal.returns-clause-rejected
returns-clause-rejected g c =
    let escaped = c.as_str.ensures.value ∙ c.in_ok-escaped.ensures in
    (c.in_ok-from_str-in-None.ensures.ok, rejected_twice _ _ _ _ c.requires escaped c.in-None.is c.in_ok-pattern.ensures)
