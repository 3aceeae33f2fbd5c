-- The patterns in a tree (docs/reference/grammar.md, "Small patterns").
use Rattle.std.specs.Prelude.{◌≡◌, true}
use Rattle.std.specs.List.{AllByRecursion}
use Rattle.promql_label.specs.Answers.{has_one_answer}
use Rattle.promql_label.specs.PlainMatchers.{matches, matches_not, PlainMatcher, plain_matcher, every}
use Rattle.promql_ast.specs.Fold.{folded}
use Rattle.promql_ast.specs.Selectors.{selector}
use Rattle.promql_ast.specs.Tree.{Tree, vector, matrix}

-- `regex` may answer in one way about the matcher's pattern, which is that of its value
abbrev pub IsSmall : PlainMatcher → Type 0
IsSmall (plain_matcher (matches w) name value) = has_one_answer value ≡ true
IsSmall (plain_matcher (matches_not w) name value) = has_one_answer value ≡ true
IsSmall _ = Unit {0}

-- of a node: the matchers of its selector, or those of its children
abbrev pub HasSmallMatchers : Tree → Type 0 → Type 0
HasSmallMatchers (vector (selector name ms offset at)) below = AllByRecursion IsSmall (every ms)
HasSmallMatchers (matrix (selector name ms offset at) range mode) below = AllByRecursion IsSmall (every ms)
HasSmallMatchers t below = below

-- "Small patterns": those of each selector of the tree
abbrev pub HasSmallPatterns : Tree → Type 0
HasSmallPatterns = folded (Unit {0}) (λ A B. A × B) HasSmallMatchers
