-- Why a tree is not printable (docs/guide/rewriting.md, "Trees of your own").
use Rattle.std.specs.Prelude.{◌≡◌, ◌≢◌, List, ◌∷◌, ◌++◌, Err}
use Rattle.std.specs.List.{AllByRecursion}
use Rattle.promql_ast.specs.Text.{text}
use Rattle.promql_ast.specs.Tree.{Tree}
use Rattle.promql_syntax.specs.ParseAnswers.{IsAnswerTo, plain_error_of}
use Rattle.promql_syntax.specs.declared.parser.ParseError.TheVariants as parse
use Rattle.promql_rewrite.specs.Collecting.{nodes_of}
use Rattle.promql_rewrite.specs.Everywhere.{Everywhere}
use Rattle.promql_rewrite.specs.Faithful.{MeansOther}
use Rattle.promql_rewrite.specs.NodeRules.{Obeys}
use Rattle.promql_rewrite.specs.declared.printable.NotPrintable.{NotPrintable}
use Rattle.promql_rewrite.specs.declared.printable.NotPrintable.TheVariants as reason

-- the node obeys each rule
abbrev pub IsFitting : Tree → Type 0
IsFitting t = (r : NotPrintable) → Obeys r t

-- the rule that the first node that is not fitting breaks; or all are, and the line is rejected, or has another tree
abbrev pub IsReason : NotPrintable → Tree → Type 0
IsReason (reason.Rejected e) t = Everywhere IsFitting t × IsAnswerTo (text t) (Err (plain_error_of e)) × (e ≢ parse.Memory)
IsReason reason.OtherTree t = Everywhere IsFitting t × MeansOther (text t) t
IsReason r t =
    (before rest : List Tree) × (node : Tree) × (nodes_of t ≡ before ++ node ∷ rest) × AllByRecursion IsFitting before × ¬ (Obeys r node)
