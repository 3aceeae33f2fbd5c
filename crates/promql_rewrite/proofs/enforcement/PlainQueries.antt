-- The line of a query without patterns, in which a matcher without one was enforced, means the enforced tree.
use Rattle.std.proofs.Common.{◌≡◌, ◌≢◌, Bool, true, false, ◌||◌, List, [], ◌∷◌, ◌++◌, codes, refl, sym, ◌∙◌, true≢false}
use Rattle.std.specs.Prelude.{Ok}
use Rattle.std.specs.List.{AllByRecursion, list_any}
use Rattle.std.proofs.lemmas.List.Folds.{list_any-append}
use Rattle.promql_text.specs.Texts.{Text}
use Rattle.promql_label.specs.Answers.{Allows, Answer}
use Rattle.promql_label.specs.PlainMatchers.{matches, matches_not, PlainMatcher, plain_matcher, PlainMatchers, plain_matchers, name_of}
use Rattle.promql_ast.specs.Fold.{all_within, maybe_within, within}
use Rattle.promql_ast.specs.Normal.{normal}
use Rattle.promql_ast.specs.Selectors.{selector}
use Rattle.promql_ast.specs.Text.{text}
use Rattle.promql_ast.specs.Tree.{Tree, aggregate, unary, binary, paren, subquery, vector, matrix, call, extension, MaybeTree, absent, present, Trees, no_trees, first_tree}
use Rattle.promql_syntax.specs.Asking.{Asked}
use Rattle.promql_syntax.specs.ParseAnswers.{HasTree, IsServed}
use Rattle.promql_syntax.proofs.building.SmallAnswers.{tree_is_had}
use Rattle.promql_syntax.proofs.building.SuchPatterns.{MatcherPattern, NodePatterns, TreePatterns}
use Rattle.promql_rewrite.specs.Answered.{IsAnswered}
use Rattle.promql_rewrite.specs.Collecting.{all_nodes, maybe_nodes, nodes_of, nodes_within}
use Rattle.promql_rewrite.specs.Enforcing.{enforced}
use Rattle.promql_rewrite.specs.Faithful.{Means}
use Rattle.promql_rewrite.specs.Patterns.{has_own_pattern, has_pattern, has_regex, is_regex}
use Rattle.promql_rewrite.proofs.enforcement.EnforcedTexts.{enforced_line}

neither : (a b : Bool) → (a || b) ≡ false → (a ≡ false) × (b ≡ false)
neither false b none = (refl, none)
neither true b none = absurd (true≢false none)

abbrev no_text : Text → Bool
no_text v = false

-- ---- no pattern is one of no value

no_matcher : (c : PlainMatcher) → is_regex c ≡ false → MatcherPattern no_text c
no_matcher (plain_matcher (matches w) name value) none = absurd (true≢false none)
no_matcher (plain_matcher (matches_not w) name value) none = absurd (true≢false none)
no_matcher (plain_matcher _ name value) none = tt

no_list : (cs : List PlainMatcher) → list_any is_regex cs ≡ false → AllByRecursion (MatcherPattern no_text) cs
no_list [] none = tt
no_list (c ∷ cs) none = let both = neither (is_regex c) (list_any is_regex cs) none in (no_matcher c both.0, no_list cs both.1)

no_groups : (gs : List (List PlainMatcher)) → list_any (list_any is_regex) gs ≡ false → AllByRecursion (AllByRecursion (MatcherPattern no_text)) gs
no_groups [] none = tt
no_groups (g ∷ gs) none = let both = neither (list_any is_regex g) (list_any (list_any is_regex) gs) none in (no_list g both.0, no_groups gs both.1)

no_lists : (cs : List PlainMatcher) (gs : List (List PlainMatcher)) → has_regex (plain_matchers cs gs) ≡ false
    → AllByRecursion (MatcherPattern no_text) cs × AllByRecursion (AllByRecursion (MatcherPattern no_text)) gs
no_lists cs gs none = let both = neither (list_any is_regex cs) (list_any (list_any is_regex) gs) none in (no_list cs both.0, no_groups gs both.1)

at_node : (t : Tree) (A : Type 0) → has_own_pattern t ≡ false → A → NodePatterns no_text t A
at_node (vector (selector name (plain_matchers cs gs) offset at)) A none below = no_lists cs gs none
at_node (matrix (selector name (plain_matchers cs gs) offset at) range mode) A none below = no_lists cs gs none
at_node t A none below = below

none_of_both : (xs ys : List Tree) → list_any has_own_pattern (xs ++ ys) ≡ false → (list_any has_own_pattern xs ≡ false) × (list_any has_own_pattern ys ≡ false)
none_of_both xs ys none = neither _ _ (sym (list_any-append has_own_pattern xs ys) ∙ none)

own_and_within : (t : Tree) → has_pattern t ≡ false → (has_own_pattern t ≡ false) × (list_any has_own_pattern (nodes_within t) ≡ false)
own_and_within t none = neither (has_own_pattern t) (list_any has_own_pattern (nodes_within t)) none

mutual
  no_within : (t : Tree) → list_any has_own_pattern (nodes_within t) ≡ false → within (Unit {0}) (λ A B. A × B) (NodePatterns no_text) t
  no_within (aggregate op e p m) none =
      let both = none_of_both (maybe_nodes p) (nodes_of e) none in
      let parts = own_and_within e both.1 in
      (no_maybe p both.0, at_node e _ parts.0 (no_within e parts.1))
  no_within (unary e) none = let parts = own_and_within e none in at_node e _ parts.0 (no_within e parts.1)
  no_within (binary op l r m) none =
      let both = none_of_both (nodes_of l) (nodes_of r) none in
      let left = own_and_within l both.0 in
      let right = own_and_within r both.1 in
      (at_node l _ left.0 (no_within l left.1), at_node r _ right.0 (no_within r right.1))
  no_within (paren e) none = let parts = own_and_within e none in at_node e _ parts.0 (no_within e parts.1)
  no_within (subquery e offset time range step) none = let parts = own_and_within e none in at_node e _ parts.0 (no_within e parts.1)
  no_within (call f args) none = no_trees_have args none
  no_within (extension name gives es) none = no_trees_have es none
  no_within t none = tt

  no_maybe : (p : MaybeTree) → list_any has_own_pattern (maybe_nodes p) ≡ false → maybe_within (Unit {0}) (λ A B. A × B) (NodePatterns no_text) p
  no_maybe absent none = tt
  no_maybe (present e) none = let parts = own_and_within e none in at_node e _ parts.0 (no_within e parts.1)

  no_trees_have : (es : Trees) → list_any has_own_pattern (all_nodes es) ≡ false → all_within (Unit {0}) (λ A B. A × B) (NodePatterns no_text) es
  no_trees_have no_trees none = tt
  no_trees_have (first_tree e es) none =
      let both = none_of_both (nodes_of e) (all_nodes es) none in
      let parts = own_and_within e both.0 in
      (at_node e _ parts.0 (no_within e parts.1), no_trees_have es both.1)

no_tree : (t : Tree) → has_pattern t ≡ false → TreePatterns no_text t
no_tree t none = let parts = own_and_within t none in at_node t _ parts.0 (no_within t parts.1)

-- ---- the line

-- a text whose tree has no pattern has it, whatever `regex` answers
pub plain_tree_is_had : (g : Text → Answer) (source : Text) (answers : List Asked) (t : Tree) → IsServed source answers (Ok t) → has_pattern t ≡ false → HasTree g source t
plain_tree_is_had g source answers t served none =
    tree_is_had no_text g (λ v such a allowed. absurd (true≢false (sym such))) source answers t served (no_tree t none)

plain_is_answered : (g : Text → Answer) (c : PlainMatcher) → is_regex c ≡ false → IsAnswered g c
plain_is_answered g (plain_matcher (matches w) name value) none = absurd (true≢false none)
plain_is_answered g (plain_matcher (matches_not w) name value) none = absurd (true≢false none)
plain_is_answered g (plain_matcher _ name value) none = tt

module _ (g : Text → Answer) (serves : (z : Text) (u : Tree) → HasTree g z u → (answers : List Asked) × IsServed z answers (Ok u)) where
  pub enforced_line_means : (source : Text) (answers : List Asked) (t : Tree) (c : PlainMatcher) → IsServed source answers (Ok t)
      → has_pattern t ≡ false → is_regex c ≡ false → name_of c ≢ codes "__name__" → Means (text (enforced c t)) (enforced c t)
  enforced_line_means source answers t c served none plain other =
      let had = enforced_line g source t (plain_tree_is_had g source answers t served none) c (plain_is_answered g c plain) other in
      let again = serves (text (enforced c t)) (normal (enforced c t)) had in
      record { answers = again.0; served = again.1 }
