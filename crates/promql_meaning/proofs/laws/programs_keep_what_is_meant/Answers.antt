use Rattle.promql_ast.specs.Layout.{layout_of}
use Rattle.promql_ast.specs.Normal.{normal}
use Rattle.promql_ast.specs.Text.{text}
use Rattle.promql_meaning.proofs.ProgramLines.{body_is_text, line_is_enforced}
use Rattle.promql_meaning.proofs.SeenNormal.{seen_normal}
use Rattle.promql_meaning.proofs.laws.programs_keep_what_is_meant.Goals as goal

pub returns-clause-line : goal.returns-clause-line
returns-clause-line c = λ g query printed p h.
    (text p.1.0, body_is_text (text p.1.0) printed (p.0, p.1.2, p.2), (normal p.1.0, c.laid_reads_back.ensures.line g query p.1.0 h, λ s. seen_normal s p.1.0))

pub returns-clause-pretty : goal.returns-clause-pretty
returns-clause-pretty c = λ g query printed p h.
    (layout_of p.1.0 0 100, body_is_text (layout_of p.1.0 0 100) printed (p.0, p.1.2, p.2), (normal p.1.0, c.laid_reads_back.ensures.lines g query p.1.0 h 0 100, λ s. seen_normal s p.1.0))

pub returns-clause-enforce : goal.returns-clause-enforce
returns-clause-enforce c = line_is_enforced
