-- Parentheses where a tree's text needs them (docs/guide/rewriting.md, "Parentheses").
use Rattle.std.specs.Prelude.{ℕ, Bool, true, false, not, ◌==◌, ◌&&◌, ◌||◌, nat_le, nat_lt, if◌then◌else◌}
use Rattle.promql_text.specs.Values.{is_below_zero}
use Rattle.promql_token.specs.declared.ids.TheConstants.{T_POW}
use Rattle.promql_grammar.specs.Grammar.{precedence}
use Rattle.promql_ast.specs.Tree.{Tree, aggregate, unary, binary, paren, subquery, number, string, vector, matrix, call, extension, MaybeTree, absent, present, Trees, no_trees, first_tree}
use Rattle.promql_rewrite.specs.PrintableConditions.{openness}

-- ---- tests of the places, as `FitsLeft`, `IsRightSide`, `IsNegated` and `IsSubqueried` have them

abbrev pub fits_left : ℕ → Tree → Bool
fits_left op t = nat_le (if op == T_POW then 7 else precedence op) (openness t)

abbrev pub binds_right : ℕ → ℕ → Bool
binds_right op inner = nat_lt (precedence op) (precedence inner) || (op == T_POW && inner == T_POW)

abbrev pub fits_right : ℕ → Tree → Bool
fits_right op (binary inner l r m) = binds_right op inner
fits_right op t = true

abbrev pub fits_sign : Tree → Bool
fits_sign (binary op l r m) = op == T_POW
fits_sign (number n) = false
fits_sign t = true

abbrev pub fits_range : Tree → Bool
fits_range (unary e) = false
fits_range (binary op l r m) = false
fits_range (number n) = not (is_below_zero n)
fits_range t = true

-- ---- trees

-- as it is where it fits, and otherwise in parentheses
abbrev pub at_place : (Tree → Bool) → Tree → Tree
at_place fits t = if fits t then t else paren t

-- the leaves first, since what a tree fits depends on the parentheses inside
abbrev mutual
  pub parenthesized : Tree → Tree
  parenthesized (aggregate op e p m) = aggregate op (parenthesized e) (maybe_parenthesized p) m
  parenthesized (unary e) = unary (at_place fits_sign (parenthesized e))
  parenthesized (binary op l r m) =
      binary op (at_place (fits_left op) (parenthesized l)) (at_place (fits_right op) (parenthesized r)) m
  parenthesized (paren e) = paren (parenthesized e)
  parenthesized (subquery e offset at range step) =
      subquery (at_place fits_range (parenthesized e)) offset at range step
  parenthesized (number n) = number n
  parenthesized (string s) = string s
  parenthesized (vector s) = vector s
  parenthesized (matrix s range mode) = matrix s range mode
  parenthesized (call f args) = call f (all_parenthesized args)
  parenthesized (extension name gives es) = extension name gives (all_parenthesized es)

  pub maybe_parenthesized : MaybeTree → MaybeTree
  maybe_parenthesized absent = absent
  maybe_parenthesized (present e) = present (parenthesized e)

  pub all_parenthesized : Trees → Trees
  all_parenthesized no_trees = no_trees
  all_parenthesized (first_tree e es) = first_tree (parenthesized e) (all_parenthesized es)
