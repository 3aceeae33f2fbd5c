-- What enforcing a matcher on a query does (docs/guide/rewriting.md, "Enforcing").
use Rattle.std.specs.Prelude.{◌≡◌, false, Ok}
use Rattle.promql_text.specs.Texts.{Text}
use Rattle.promql_label.specs.PlainMatchers.{PlainMatcher}
use Rattle.promql_ast.specs.Tree.{Tree}
use Rattle.promql_syntax.specs.ParseAnswers.{IsAnswerTo}
use Rattle.promql_rewrite.specs.Enforcing.{enforced, has_bare_info}
use Rattle.promql_rewrite.specs.Faithful.{IsLineOf}

-- the query has a tree in which each call of `info` has a second argument, and this is so of the enforced tree
abbrev pub HasEnforced : Text → PlainMatcher → (Tree → Type 0) → Type 0
HasEnforced query c P = (t : Tree) × IsAnswerTo query (Ok t) × (has_bare_info t ≡ false) × P (enforced c t)

-- the text is the line of the enforced tree, and means it
abbrev pub IsEnforced : Text → PlainMatcher → Text → Type 0
IsEnforced query c line = HasEnforced query c (λ u. IsLineOf u line)
