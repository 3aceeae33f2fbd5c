use Rattle.std.proofs.Common.{arith, inr, refl}
use Rattle.std.specs.Prelude.{None}
use Rattle.std.proofs.lemmas.Str.Pattern.{strip_suffix_char}
use Rattle.promql_programs.proofs.check.without_return.Goals as goal

pub returns-in-None : goal.returns-in-None
returns-in-None c = inr (refl, strip_suffix_char 13 c.args.line.now None c.in-None.ensures.cases (omega arith))
