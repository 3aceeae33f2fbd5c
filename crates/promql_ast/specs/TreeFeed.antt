-- What a tree and its parts feed a hasher (docs/reference/tree.md, "Hashes").
use Rattle.std.specs.Prelude.{[], ◌++◌, pos}
use Rattle.std.specs.Hash.{HashWrites, i64, isize, option, str, u16, u128, usize}
use Rattle.promql_label.specs.MatcherFeeds.{matchers_feed}
use Rattle.promql_kind.specs.ModifierFeeds.{clause_feed, matching_feed, number_feed, signature_feed, type_feed}
use Rattle.promql_ast.specs.Arguments.{count}
use Rattle.promql_ast.specs.Selectors.{Selector, selector}
use Rattle.promql_ast.specs.Shifts.{Shift, back, ahead, Moment, at_start, at_end, at_time}
use Rattle.promql_ast.specs.Tree.{Tree, aggregate, unary, binary, paren, subquery, number, string, vector, matrix, call, extension, MaybeTree, absent, present, Trees, no_trees, first_tree}
use Rattle.promql_ast.specs.declared.range_mode.RangeMode.{RangeMode}
use Rattle.promql_ast.specs.declared.range_mode.RangeMode.TheVariants.{Plain, Smoothed, Anchored}

abbrev pub shift_feed : Shift → HashWrites
shift_feed (back n) = isize (pos 0) ++ u128 n
shift_feed (ahead n) = isize (pos 1) ++ u128 n

abbrev pub moment_feed : Moment → HashWrites
moment_feed at_start = isize (pos 0)
moment_feed at_end = isize (pos 1)
moment_feed (at_time t) = isize (pos 2) ++ i64 t

abbrev pub mode_feed : RangeMode → HashWrites
mode_feed Plain = isize (pos 0)
mode_feed Smoothed = isize (pos 1)
mode_feed Anchored = isize (pos 2)

abbrev pub selector_feed : Selector → HashWrites
selector_feed (selector name matchers offset at) =
    option str name ++ (matchers_feed matchers ++ (option shift_feed offset ++ option moment_feed at))

-- the index of the node's kind, and then its parts in the order of their fields
abbrev mutual
  pub tree_feed : Tree → HashWrites
  tree_feed (aggregate op e p m) = isize (pos 0) ++ (u16 op ++ (tree_feed e ++ (maybe_feed p ++ option clause_feed m)))
  tree_feed (unary e) = isize (pos 1) ++ tree_feed e
  tree_feed (binary op l r m) = isize (pos 2) ++ (u16 op ++ (tree_feed l ++ (tree_feed r ++ option matching_feed m)))
  tree_feed (paren e) = isize (pos 3) ++ tree_feed e
  tree_feed (subquery e offset at range step) =
      isize (pos 4) ++ (tree_feed e ++ (option shift_feed offset ++ (option moment_feed at ++ (u128 range ++ option u128 step))))
  tree_feed (number n) = isize (pos 5) ++ number_feed n
  tree_feed (string w) = isize (pos 6) ++ str w
  tree_feed (vector s) = isize (pos 7) ++ selector_feed s
  tree_feed (matrix s range mode) = isize (pos 8) ++ (selector_feed s ++ (u128 range ++ mode_feed mode))
  tree_feed (call f args) = isize (pos 9) ++ (signature_feed f ++ (usize (count args) ++ each_feed args))
  tree_feed (extension name gives es) = isize (pos 10) ++ (str name ++ (type_feed gives ++ (usize (count es) ++ each_feed es)))

  pub maybe_feed : MaybeTree → HashWrites
  maybe_feed absent = isize (pos 0)
  maybe_feed (present t) = isize (pos 1) ++ tree_feed t

  -- each tree of a list in turn
  pub each_feed : Trees → HashWrites
  each_feed no_trees = []
  each_feed (first_tree t ts) = tree_feed t ++ each_feed ts

-- a list: how many trees there are, and then each
abbrev pub trees_feed : Trees → HashWrites
trees_feed ts = usize (count ts) ++ each_feed ts
