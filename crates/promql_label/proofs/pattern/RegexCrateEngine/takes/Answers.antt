use Rattle.promql_label.proofs.regex_answers.Reading.{taken_is_read}
use Rattle.promql_label.proofs.pattern.RegexCrateEngine.takes.Goals as goal

pub returns-clause-taken : goal.returns-clause-taken
returns-clause-taken c = taken_is_read _ c.in_ok-compile.field-0 _ c.is_some.ensures c.in_ok-compile.ensures
