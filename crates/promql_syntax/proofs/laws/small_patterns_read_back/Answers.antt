use Rattle.promql_label.specs.Answers.{pattern_answer}
use Rattle.promql_ast.specs.Layout.{layout_of}
use Rattle.promql_ast.specs.Normal.{normal}
use Rattle.promql_ast.specs.Text.{text}
use Rattle.promql_syntax.proofs.laws.small_patterns_read_back.Goals as goal

pub returns : goal.returns
returns c =
    let small = c.small_patterns_need_no_premise.ensures in
    record {
      line = λ source answers again t answer served such printed.
          small.is (text t) again answer (normal t) printed (c.laid_reads_back.ensures.line pattern_answer source t (small.has source answers t served such)) (small.normal t such);
      lines = λ source answers again t answer served such level most printed.
          small.is (layout_of t level most) again answer (normal t) printed (c.laid_reads_back.ensures.lines pattern_answer source t (small.has source answers t served such) level most) (small.normal t such);
      alike = λ first second answers others s t one two such also.
          c.prints_alike.ensures pattern_answer first second s t (small.has first answers s one such) (small.has second others t two also);
    }
