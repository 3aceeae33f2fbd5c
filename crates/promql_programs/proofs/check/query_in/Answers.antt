use Rattle.std.proofs.Common.{arith, inl, inr, refl}
use Rattle.std.specs.Prelude.{None, Some}
use Rattle.std.proofs.lemmas.Str.Pattern.{strip_suffix_char}
use Rattle.promql_programs.proofs.check.query_in.Goals as goal

pub returns-in-Some : goal.returns-in-Some
returns-in-Some c =
    inl (c.in-Some.line.now, strip_suffix_char 10 c.args.text.now (Some c.in-Some.line) c.in-Some.ensures.cases (omega arith), c.without_return.ensures)

pub returns-in-None : goal.returns-in-None
returns-in-None c = inr (refl, strip_suffix_char 10 c.args.text.now None c.in-None.ensures.cases (omega arith))
