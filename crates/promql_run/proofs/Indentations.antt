-- A layout indents no deeper than its level and the height of its tree.
use Rattle.std.proofs.Common.{ℕ, ◌+◌, ◌*◌, ◌^◌, ◌<◌, ◌≤◌, arith}
use Rattle.std.specs.Prelude.{Bool, true, false, if◌then◌else◌}
use Rattle.promql_text.specs.PrintedLen.{usize_max}
use Rattle.promql_ast.specs.Height.{height, maybe_height, greatest_height}
use Rattle.promql_ast.specs.Layout.{deepest, maybe_deepest, deepests}
use Rattle.promql_ast.specs.Lines.{is_longer}
use Rattle.promql_ast.specs.Text.{text}
use Rattle.promql_ast.specs.Tree.{Tree, aggregate, unary, binary, paren, subquery, number, string, vector, matrix, call, extension, MaybeTree, absent, present, Trees, no_trees, first_tree}
use Rattle.promql_syntax.specs.declared.parser.TheConstants.{MAX_DEPTH}

either_low : (b : Bool) (m n most : ℕ) → m ≤ most → n ≤ most → (if b then m else n) ≤ most
either_low true m n most first second = first
either_low false m n most first second = second

mutual
  deepest_low : (t : Tree) (level most : ℕ) → deepest t level most ≤ level + height t
  deepest_low (aggregate op e p m) level most =
      let param = maybe_deepest_low p (level + 1) most in
      let expr = deepest_low e (level + 1) most in
      either_low (is_longer most (text (aggregate op e p m))) _ _ _ (omega arith) (omega arith)
  deepest_low (unary e) level most = let expr = deepest_low e level most in omega arith
  deepest_low (binary op l r m) level most =
      let left = deepest_low l (level + 1) most in
      let right = deepest_low r (level + 1) most in
      either_low (is_longer most (text (binary op l r m))) _ _ _ (omega arith) (omega arith)
  deepest_low (paren e) level most =
      let expr = deepest_low e (level + 1) most in
      either_low (is_longer most (text (paren e))) _ _ _ (omega arith) (omega arith)
  deepest_low (subquery e offset at range step) level most = let expr = deepest_low e level most in omega arith
  deepest_low (number n) level most = omega arith
  deepest_low (string s) level most = omega arith
  deepest_low (vector s) level most = omega arith
  deepest_low (matrix s range mode) level most = omega arith
  deepest_low (call f args) level most =
      let inner = deepests_low args (level + 1) most in
      either_low (is_longer most (text (call f args))) _ _ _ (omega arith) (omega arith)
  deepest_low (extension name gives es) level most = omega arith

  maybe_deepest_low : (p : MaybeTree) (level most : ℕ) → maybe_deepest p level most ≤ level + maybe_height p
  maybe_deepest_low absent level most = omega arith
  maybe_deepest_low (present e) level most = deepest_low e level most

  deepests_low : (ts : Trees) (level most : ℕ) → deepests ts level most ≤ level + greatest_height ts
  deepests_low no_trees level most = omega arith
  deepests_low (first_tree e es) level most =
      let first = deepest_low e level most in
      let others = deepests_low es level most in
      omega arith

-- an expression that was read is low enough for each indentation below a level of 16 bits
pub low_enough : (t : Tree) (level most : ℕ) → height t ≤ MAX_DEPTH → level < 2 ^ 16 → ¬ (usize_max < 2 * deepest t level most)
low_enough t level most low fits wide = let indented = deepest_low t level most in omega arith
