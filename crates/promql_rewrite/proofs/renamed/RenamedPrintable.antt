-- A printable tree is printable where a label or a metric is renamed.
use Rattle.std.proofs.Common.{◌≡◌, ◌≢◌, ◌+◌, ◌≤◌, ℕ, min, max, refl, sym, ◌∙◌, ap, subst, Bool, true, false, cond, Option, Some, None, List, [], ◌∷◌, map, codes}
use Rattle.std.specs.Prelude.{option_map}
use Rattle.std.specs.Str.{bytes_eq}
use Rattle.promql_text.specs.Texts.{Text}
use Rattle.promql_grammar.specs.Grammar.{FitsLeft, precedence}
use Rattle.promql_label.specs.Answers.{Answer}
use Rattle.promql_label.specs.PlainMatchers.{PlainMatcher, plain_matcher, equal, not_equal, matches, matches_not, PlainMatchers, plain_matchers}
use Rattle.promql_kind.specs.Modifiers.{Cardinality, one_to_one, many_to_one, one_to_many, many_to_many, Clause, Matching, matching, fills}
use Rattle.promql_ast.specs.Selectors.{Selector, selector}
use Rattle.promql_ast.specs.Tree.{Tree, aggregate, unary, binary, paren, subquery, number, string, vector, matrix, call, extension, MaybeTree, absent, present, Trees, no_trees, first_tree}
use Rattle.promql_ast.specs.Typed.{Typed}
use Rattle.promql_syntax.specs.declared.parser.TheConstants.{MAX_DEPTH}
use Rattle.promql_rewrite.specs.Answered.{IsAnswered}
use Rattle.promql_rewrite.specs.PrintableConditions.{IsNegated, IsRightSide, PrintableName, openness}
use Rattle.promql_rewrite.specs.PrintableNodes.{AllAnswered, AllPrintableNodes, FollowsLabels, GroupsAnswered, IsSubqueried, MaybePrintableNodes, NodesArePrintable, PrintableMatchers, PrintableModifier, PrintableNodes, PrintableSelector, has_param}
use Rattle.promql_rewrite.specs.PrintableTrees.{all_printed_height, maybe_printed_height, printed_height}
use Rattle.promql_rewrite.specs.Renaming.{Renaming, of_label, of_metric, all_renamed, listed_clashes, is_name, maybe_renamed, renamed, renamed_cardinality, renamed_clause, renamed_matcher, renamed_matchers, renamed_matching, renamed_name, renamed_selector}
use Rattle.promql_rewrite.proofs.renamed.RenamedTrees.{label_typed, metric_typed}
use Rattle.promql_rewrite.proofs.names.SomeNames.{named_word, some_name}

module _ (r : Renaming) where
  -- ---- heights and places

  mutual
    low_renamed : (t : Tree) → printed_height (renamed r t) ≡ printed_height t
    low_renamed (aggregate op e p m) = λ i. 1 + max (maybe_low p i) (low_renamed e i)
    low_renamed (unary e) = λ i. 1 + low_renamed e i
    low_renamed (binary op x y m) = λ i. 1 + max (low_renamed x i) (low_renamed y i)
    low_renamed (paren e) = λ i. 1 + low_renamed e i
    low_renamed (subquery e offset at range step) = λ i. 1 + low_renamed e i
    low_renamed (number n) = refl
    low_renamed (string s) = refl
    low_renamed (vector s) = refl
    low_renamed (matrix s range mode) = refl
    low_renamed (call f ts) = λ i. 1 + all_low ts i
    low_renamed (extension name gives ts) = λ i. 1 + all_low ts i

    maybe_low : (p : MaybeTree) → maybe_printed_height (maybe_renamed r p) ≡ maybe_printed_height p
    maybe_low absent = refl
    maybe_low (present e) = low_renamed e

    all_low : (ts : Trees) → all_printed_height (all_renamed r ts) ≡ all_printed_height ts
    all_low no_trees = refl
    all_low (first_tree t ts) = λ i. max (low_renamed t i) (all_low ts i)

  open_renamed : (t : Tree) → openness (renamed r t) ≡ openness t
  open_renamed (unary e) = ap (min 5) (open_renamed e)
  open_renamed (binary op x y m) = ap (min (precedence op)) (open_renamed y)
  open_renamed (number n) = refl
  open_renamed t = refl

  same_param : (p : MaybeTree) → has_param (maybe_renamed r p) ≡ has_param p
  same_param absent = refl
  same_param (present e) = refl

  negated : (t : Tree) → IsNegated t → IsNegated (renamed r t)
  negated (binary op x y m) h = h
  negated (number n) h = h
  negated t h = tt

  right : (op : ℕ) (t : Tree) → IsRightSide op t → IsRightSide op (renamed r t)
  right op (binary inner x y m) h = h
  right op t h = tt

  subqueried : (t : Tree) → IsSubqueried t → IsSubqueried (renamed r t)
  subqueried (unary e) h = h
  subqueried (binary op x y m) h = h
  subqueried (number n) h = h
  subqueried t h = tt

  -- ---- modifiers

  follows : (card : Cardinality) (clause : Option Clause) → FollowsLabels card clause → FollowsLabels (renamed_cardinality r card) (option_map (renamed_clause r) clause)
  follows one_to_one None h = h
  follows (many_to_one ls) None h = h
  follows (one_to_many ls) None h = h
  follows many_to_many None h = h
  follows card (Some clause) h = tt

  was_many : (card : Cardinality) → renamed_cardinality r card ≡ many_to_many → card ≡ many_to_many
  was_many one_to_one h = cc
  was_many (many_to_one ls) h = cc
  was_many (one_to_many ls) h = cc
  was_many many_to_many h = refl

  modified : (op : ℕ) (m : Option Matching) → PrintableModifier op m → PrintableModifier op (option_map (renamed_matching r) m)
  modified op None h = h
  modified op (Some (matching card clause return_bool (fills r l))) h = (follows card clause h.0, λ many. h.1 (was_many card many), h.2, h.3)

  module _ (g : Text → Answer) (names : (o : Option Text) → PrintableName o → PrintableName (renamed_name r o)) (answered : (c : PlainMatcher) → IsAnswered g c → IsAnswered g (renamed_matcher r c)) where
    -- ---- selectors

    all_answered : (cs : List PlainMatcher) → AllAnswered g cs → AllAnswered g (map (renamed_matcher r) cs)
    all_answered [] h = h
    all_answered (c ∷ cs) h = (answered c h.0, all_answered cs h.1)

    groups_answered : (gs : List (List PlainMatcher)) → GroupsAnswered g gs → GroupsAnswered g (map (map (renamed_matcher r)) gs)
    groups_answered [] h = h
    groups_answered ([] ∷ gs) h = h
    groups_answered ((c ∷ cs) ∷ gs) h = (all_answered (c ∷ cs) h.0, groups_answered gs h.1)

    printable_matchers : (cs : PlainMatchers) → PrintableMatchers g cs → PrintableMatchers g (renamed_matchers r cs)
    printable_matchers (plain_matchers cs []) h = all_answered cs h
    printable_matchers (plain_matchers [] (k ∷ [])) h = h
    printable_matchers (plain_matchers [] (k ∷ j ∷ gs)) h = groups_answered (k ∷ j ∷ gs) h
    printable_matchers (plain_matchers (c ∷ cs) (k ∷ gs)) h = h

    printable_selector : (s : Selector) → PrintableSelector g s → PrintableSelector g (renamed_selector r s)
    printable_selector (selector name cs offset at) h = (names name h.0, printable_matchers cs h.1, h.2, h.3)

    -- ---- trees

    mutual
      printable_nodes : (t : Tree) → PrintableNodes g t → PrintableNodes g (renamed r t)
      printable_nodes (aggregate op e p m) h = (same_param p ∙ h.0, maybe_printable_nodes p h.1, printable_nodes e h.2)
      printable_nodes (unary e) h = (negated e h.0, printable_nodes e h.1)
      printable_nodes (binary op x y m) h =
          (h.0, modified op m h.1, subst (FitsLeft op) (sym (open_renamed x)) h.2, right op y h.3, printable_nodes x h.4, printable_nodes y h.5)
      printable_nodes (paren e) h = printable_nodes e h
      printable_nodes (subquery e offset at range step) h = (subqueried e h.0, h.1, h.2, h.3, h.4, printable_nodes e h.5)
      printable_nodes (number n) h = h
      printable_nodes (string s) h = h
      printable_nodes (vector s) h = printable_selector s h
      printable_nodes (matrix s range mode) h = (printable_selector s h.0, h.1)
      printable_nodes (call f ts) h = (h.0, all_printable_nodes ts h.1)
      printable_nodes (extension name gives ts) h = h

      maybe_printable_nodes : (p : MaybeTree) → MaybePrintableNodes g p → MaybePrintableNodes g (maybe_renamed r p)
      maybe_printable_nodes absent h = h
      maybe_printable_nodes (present e) h = printable_nodes e h

      all_printable_nodes : (ts : Trees) → AllPrintableNodes g ts → AllPrintableNodes g (all_renamed r ts)
      all_printable_nodes no_trees h = h
      all_printable_nodes (first_tree t ts) h = (printable_nodes t h.0, all_printable_nodes ts h.1)

    printable_renamed : (t : Tree) → Typed (renamed r t) → NodesArePrintable g t → NodesArePrintable g (renamed r t)
    printable_renamed t typed h = record {
      typed = typed;
      low = subst (λ n. n ≤ MAX_DEPTH) (sym (low_renamed t)) h.low;
      nodes = printable_nodes t h.nodes;
    }

module _ (from to : Text) (g : Text → Answer) where
  -- ---- a label

  label_answered : (c : PlainMatcher) → IsAnswered g c → IsAnswered g (renamed_matcher (of_label from to) c)
  label_answered (plain_matcher equal name value) h = h
  label_answered (plain_matcher not_equal name value) h = h
  label_answered (plain_matcher (matches w) name value) h = h
  label_answered (plain_matcher (matches_not w) name value) h = h

  pub label_printable : (t : Tree) → from ≢ codes "__name__" → to ≢ codes "__name__" → listed_clashes from to t ≡ false → NodesArePrintable g t → NodesArePrintable g (renamed (of_label from to) t)
  label_printable t old new apart h = printable_renamed (of_label from to) g (λ o k. k) label_answered t (label_typed from to t old new apart h.typed) h

  -- ---- a metric

  metric_answered : (c : PlainMatcher) → IsAnswered g c → IsAnswered g (renamed_matcher (of_metric from to) c)
  metric_answered (plain_matcher equal name value) h = h
  metric_answered (plain_matcher not_equal name value) h = h
  metric_answered (plain_matcher (matches w) name value) h = h
  metric_answered (plain_matcher (matches_not w) name value) h = h

  metric_name : PrintableName (Some to) → (o : Option Text) → PrintableName o → PrintableName (renamed_name (of_metric from to) o)
  metric_name new None h = h
  metric_name new (Some name) h = by (bytes_eq name from)
    where
      by : (b : Bool) → PrintableName (Some (cond b to name))
      by true = new
      by false = h

  pub metric_printable : (t : Tree) → is_name to ≡ true → NodesArePrintable g t → NodesArePrintable g (renamed (of_metric from to) t)
  metric_printable t named h =
      printable_renamed (of_metric from to) g (metric_name (named_word to named)) metric_answered t (metric_typed from to t (some_name to named) h.typed) h
