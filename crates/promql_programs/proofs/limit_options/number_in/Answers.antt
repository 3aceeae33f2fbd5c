use Rattle.std.proofs.Common.{◌∙◌}
use Rattle.promql_programs.proofs.NumberOptions.{number_read}
use Rattle.promql_programs.proofs.limit_options.number_in.Goals as goal

pub returns : goal.returns
returns c = c.ok.ensures.value ∙ number_read c.args.word.now c.parse.result c.parse.ensures.value.0
