-- The patterns in a tree are texts of one kind; those of small patterns.
use Rattle.std.proofs.Common.{◌≡◌, ◌↔◌, Bool, true, List, [], ◌∷◌, ◌++◌}
use Rattle.std.specs.List.{AllByRecursion, flat_map}
use Rattle.promql_text.specs.Texts.{Text}
use Rattle.promql_label.specs.Answers.{has_one_answer}
use Rattle.promql_label.specs.PlainMatchers.{matches, matches_not, PlainMatcher, plain_matcher, plain_matchers}
use Rattle.promql_ast.specs.Fold.{folded, within, maybe_within, all_within}
use Rattle.promql_ast.specs.Selectors.{Selector, selector}
use Rattle.promql_ast.specs.Tree.{Tree, vector, matrix, aggregate, unary, binary, paren, subquery, call, extension, MaybeTree, absent, present, Trees, no_trees, first_tree}
use Rattle.promql_syntax.specs.TreePatterns.{HasSmallMatchers, HasSmallPatterns, IsSmall}

-- each pattern is a text of this kind; a matcher's pattern is that of its value
module _ (is_such : Text → Bool) where
  abbrev pub MatcherPattern : PlainMatcher → Type 0
  MatcherPattern (plain_matcher (matches w) name value) = is_such value ≡ true
  MatcherPattern (plain_matcher (matches_not w) name value) = is_such value ≡ true
  MatcherPattern _ = Unit {0}

  abbrev pub SelectorPatterns : Selector → Type 0
  SelectorPatterns (selector name (plain_matchers plain groups) offset at) = AllByRecursion MatcherPattern plain × AllByRecursion (AllByRecursion MatcherPattern) groups

  -- of a node: those of its selector, or of its children
  abbrev pub NodePatterns : Tree → Type 0 → Type 0
  NodePatterns (vector s) below = SelectorPatterns s
  NodePatterns (matrix s range mode) below = SelectorPatterns s
  NodePatterns t below = below

  abbrev pub TreePatterns : Tree → Type 0
  TreePatterns = folded (Unit {0}) (λ A B. A × B) NodePatterns

-- ---- the matchers of a selector as one list

module _ (P : PlainMatcher → Type 0) where
  joined : (xs ys : List PlainMatcher) → AllByRecursion P xs → AllByRecursion P ys → AllByRecursion P (xs ++ ys)
  joined [] ys h k = k
  joined (x ∷ xs) ys h k = (h.0, joined xs ys h.1 k)

  parted : (xs ys : List PlainMatcher) → AllByRecursion P (xs ++ ys) → AllByRecursion P xs × AllByRecursion P ys
  parted [] ys h = (tt, h)
  parted (x ∷ xs) ys h = let rest = parted xs ys h.1 in ((h.0, rest.0), rest.1)

  groups_joined : (gs : List (List PlainMatcher)) → AllByRecursion (AllByRecursion P) gs → AllByRecursion P (flat_map (λ g. g) gs)
  groups_joined [] h = tt
  groups_joined (g ∷ gs) h = joined g (flat_map (λ g. g) gs) h.0 (groups_joined gs h.1)

  groups_parted : (gs : List (List PlainMatcher)) → AllByRecursion P (flat_map (λ g. g) gs) → AllByRecursion (AllByRecursion P) gs
  groups_parted [] h = tt
  groups_parted (g ∷ gs) h = let rest = parted g (flat_map (λ g. g) gs) h in (rest.0, groups_parted gs rest.1)

-- ---- what leads from one condition of nodes to another leads so in a whole tree

module _ (at other : Tree → Type 0 → Type 0) (leads : (t : Tree) (A B : Type 0) → (A → B) → at t A → other t B) where
  mutual
    below_leads : (t : Tree) → within (Unit {0}) (λ A B. A × B) at t → within (Unit {0}) (λ A B. A × B) other t
    below_leads (aggregate op e p m) h = (maybe_leads p h.0, leads e _ _ (below_leads e) h.1)
    below_leads (unary e) h = leads e _ _ (below_leads e) h
    below_leads (binary op l r m) h = (leads l _ _ (below_leads l) h.0, leads r _ _ (below_leads r) h.1)
    below_leads (paren e) h = leads e _ _ (below_leads e) h
    below_leads (subquery e offset time range step) h = leads e _ _ (below_leads e) h
    below_leads (call f args) h = all_lead args h
    below_leads (extension name gives es) h = all_lead es h
    below_leads t h = tt

    maybe_leads : (p : MaybeTree) → maybe_within (Unit {0}) (λ A B. A × B) at p → maybe_within (Unit {0}) (λ A B. A × B) other p
    maybe_leads absent h = tt
    maybe_leads (present e) h = leads e _ _ (below_leads e) h

    all_lead : (es : Trees) → all_within (Unit {0}) (λ A B. A × B) at es → all_within (Unit {0}) (λ A B. A × B) other es
    all_lead no_trees h = tt
    all_lead (first_tree e es) h = (leads e _ _ (below_leads e) h.0, all_lead es h.1)

  tree_leads : (t : Tree) → folded (Unit {0}) (λ A B. A × B) at t → folded (Unit {0}) (λ A B. A × B) other t
  tree_leads t h = leads t _ _ (below_leads t) h

to_such : (t : Tree) (A B : Type 0) → (A → B) → HasSmallMatchers t A → NodePatterns has_one_answer t B
to_such (vector (selector name (plain_matchers plain groups) offset at)) A B f h =
    let both = parted IsSmall plain (flat_map (λ g. g) groups) h in (both.0, groups_parted IsSmall groups both.1)
to_such (matrix (selector name (plain_matchers plain groups) offset at) range mode) A B f h =
    let both = parted IsSmall plain (flat_map (λ g. g) groups) h in (both.0, groups_parted IsSmall groups both.1)
to_such t A B f h = f h

to_small : (t : Tree) (A B : Type 0) → (A → B) → NodePatterns has_one_answer t A → HasSmallMatchers t B
to_small (vector (selector name (plain_matchers plain groups) offset at)) A B f h =
    joined IsSmall plain (flat_map (λ g. g) groups) h.0 (groups_joined IsSmall groups h.1)
to_small (matrix (selector name (plain_matchers plain groups) offset at) range mode) A B f h =
    joined IsSmall plain (flat_map (λ g. g) groups) h.0 (groups_joined IsSmall groups h.1)
to_small t A B f h = f h

pub small_patterns : (t : Tree) → HasSmallPatterns t ↔ TreePatterns has_one_answer t
small_patterns t = (tree_leads HasSmallMatchers (NodePatterns has_one_answer) to_such t, tree_leads (NodePatterns has_one_answer) HasSmallMatchers to_small t)
