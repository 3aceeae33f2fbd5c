use Rattle.std.proofs.Common.{ap, sym, ◌∙◌}
use Rattle.promql_text.specs.Texts.{code}
use Rattle.promql_span.specs.QueryMarks.{has}
use Rattle.promql_span.proofs.WithoutTilde.{no_pattern_without_tilde}
use Rattle.promql_span.proofs.limits.may_have_pattern.Goals as goal

pub returns-clause-none : goal.returns-clause-none
returns-clause-none c = λ is. no_pattern_without_tilde c.args.query.now (sym (c.contains.ensures.value ∙ ap (has (code "~")) c.as_bytes.ensures.value) ∙ is)
