use Rattle.promql_rewrite.proofs.enforcement.EnforcedTexts.{enforced_line, enforced_lines}
use Rattle.promql_rewrite.proofs.laws.enforced_queries_read_back.Goals as goal

pub returns : goal.returns
returns c = record {
  line = λ g source t c h answered other. enforced_line g source t h c answered other;
  lines = λ g source t c h answered other level most. enforced_lines g source t h c answered other level most;
}
