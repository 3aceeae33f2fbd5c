-- Whether a query has a pattern (docs/guide/rewriting.md, "Enforcing").
use Rattle.std.specs.Prelude.{◌||◌, Bool, true, false}
use Rattle.std.specs.List.{list_any}
use Rattle.promql_label.specs.PlainMatchers.{matches, matches_not, PlainMatcher, plain_matcher, PlainMatchers, plain_matchers}
use Rattle.promql_ast.specs.Selectors.{selector}
use Rattle.promql_ast.specs.Tree.{Tree, vector, matrix}
use Rattle.promql_rewrite.specs.Collecting.{nodes_of}

-- the matcher has a pattern
abbrev pub is_regex : PlainMatcher → Bool
is_regex (plain_matcher (matches w) name value) = true
is_regex (plain_matcher (matches_not w) name value) = true
is_regex _ = false

-- a matcher of the list has one, outside its groups or in one
abbrev pub has_regex : PlainMatchers → Bool
has_regex (plain_matchers cs groups) = list_any is_regex cs || list_any (list_any is_regex) groups

-- a matcher of the node's own selector has one
abbrev pub has_own_pattern : Tree → Bool
has_own_pattern (vector (selector name cs offset at)) = has_regex cs
has_own_pattern (matrix (selector name cs offset at) range mode) = has_regex cs
has_own_pattern _ = false

abbrev pub has_pattern : Tree → Bool
has_pattern t = list_any has_own_pattern (nodes_of t)
