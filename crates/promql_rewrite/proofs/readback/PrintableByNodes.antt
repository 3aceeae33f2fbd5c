-- A tree is printable exactly if it is so node by node.
use Rattle.std.proofs.Common.{List, [], ◌∷◌, ◌++◌, flat_map}
use Rattle.promql_text.specs.Texts.{Text}
use Rattle.promql_label.specs.Answers.{Answer}
use Rattle.promql_label.specs.PlainMatchers.{PlainMatcher, PlainMatchers, plain_matchers, every}
use Rattle.promql_ast.specs.Selectors.{Selector, selector}
use Rattle.promql_ast.specs.Tree.{Tree, aggregate, unary, binary, paren, subquery, number, string, vector, matrix, call, extension, MaybeTree, absent, present, Trees, no_trees, first_tree}
use Rattle.promql_rewrite.specs.Throughout.{Throughout, ThroughoutAll, ThroughoutMaybe}
use Rattle.promql_rewrite.proofs.rules_broken.EachNode.{listed, throughout}
use Rattle.promql_rewrite.proofs.readback.Grouped.{grouped, groups}
use Rattle.promql_rewrite.proofs.rules_broken.NodeParts.{parts_listed, parts_throughout, placed_listed, placed_throughout}
use Rattle.promql_rewrite.specs.PrintableNodes.{AllAnswered, AllPrintableNodes, AreGroups, GroupsAnswered, HasNodeParts, HasSelectorParts, IsNodePlaced, MaybePrintableNodes, NodesArePrintable, NoneEmpty, PrintableMatchers, PrintableNodes, PrintableSelector}
use Rattle.promql_rewrite.specs.PrintableTrees.{IsPrintable, PatternsAnswered}

module _ (g : Text → Answer) where
  -- ---- matchers

  both_answered : (cs ds : List PlainMatcher) → AllAnswered g cs → AllAnswered g ds → AllAnswered g (cs ++ ds)
  both_answered [] ds h k = k
  both_answered (c ∷ cs) ds h k = (h.0, both_answered cs ds h.1 k)

  each_answered : (cs ds : List PlainMatcher) → AllAnswered g (cs ++ ds) → AllAnswered g cs × AllAnswered g ds
  each_answered [] ds h = (tt, h)
  each_answered (c ∷ cs) ds h = let rest = each_answered cs ds h.1 in ((h.0, rest.0), rest.1)

  groups_apart : (gs : List (List PlainMatcher)) → GroupsAnswered g gs → NoneEmpty gs × AllAnswered g (flat_map (λ g. g) gs)
  groups_apart [] h = (tt, tt)
  groups_apart ([] ∷ gs) h = absurd h
  groups_apart ((c ∷ cs) ∷ gs) h = let rest = groups_apart gs h.1 in (rest.0, both_answered (c ∷ cs) (flat_map (λ g. g) gs) h.0 rest.1)

  groups_joined : (gs : List (List PlainMatcher)) → NoneEmpty gs → AllAnswered g (flat_map (λ g. g) gs) → GroupsAnswered g gs
  groups_joined [] some h = tt
  groups_joined ([] ∷ gs) some h = absurd some
  groups_joined ((c ∷ cs) ∷ gs) some h = let two = each_answered (c ∷ cs) (flat_map (λ g. g) gs) h in (two.0, groups_joined gs some two.1)

  matchers_apart : (cs : PlainMatchers) → PrintableMatchers g cs → AreGroups cs × AllAnswered g (every cs)
  matchers_apart (plain_matchers cs []) h = (tt, both_answered cs [] h tt)
  matchers_apart (plain_matchers [] (i ∷ [])) h = absurd h
  matchers_apart (plain_matchers [] (i ∷ j ∷ gs)) h = groups_apart (i ∷ j ∷ gs) h
  matchers_apart (plain_matchers (c ∷ cs) (i ∷ gs)) h = absurd h

  matchers_joined : (cs : PlainMatchers) → AreGroups cs → AllAnswered g (every cs) → PrintableMatchers g cs
  matchers_joined (plain_matchers cs []) grouped h = let two = each_answered cs [] h in two.0
  matchers_joined (plain_matchers [] (i ∷ [])) grouped h = absurd grouped
  matchers_joined (plain_matchers [] (i ∷ j ∷ gs)) grouped h = groups_joined (i ∷ j ∷ gs) grouped h
  matchers_joined (plain_matchers (c ∷ cs) (i ∷ gs)) grouped h = absurd grouped

  selector_apart : (s : Selector) → PrintableSelector g s → HasSelectorParts s × PatternsAnswered g (vector s)
  selector_apart (selector name cs offset at) h = let two = matchers_apart cs h.1 in ((h.0, grouped cs two.0, h.2, h.3), two.1)

  selector_joined : (s : Selector) → HasSelectorParts s → PatternsAnswered g (vector s) → PrintableSelector g s
  selector_joined (selector name cs offset at) h answered = (h.0, matchers_joined cs (groups cs h.1) answered, h.2, h.3)

  -- ---- trees

  record Apart (t : Tree) : Type 0 where
    parts : Throughout HasNodeParts t
    placed : Throughout IsNodePlaced t
    answered : Throughout (PatternsAnswered g) t

  record MaybeApart (p : MaybeTree) : Type 0 where
    parts : ThroughoutMaybe HasNodeParts p
    placed : ThroughoutMaybe IsNodePlaced p
    answered : ThroughoutMaybe (PatternsAnswered g) p

  record AllApart (ts : Trees) : Type 0 where
    parts : ThroughoutAll HasNodeParts ts
    placed : ThroughoutAll IsNodePlaced ts
    answered : ThroughoutAll (PatternsAnswered g) ts

  mutual
    apart : (t : Tree) → PrintableNodes g t → Apart t
    apart (aggregate op e p m) h =
        let a = maybe_apart p h.1 in
        let b = apart e h.2 in
        record { parts = (h.0, a.parts, b.parts); placed = (tt, a.placed, b.placed); answered = (tt, a.answered, b.answered) }
    apart (unary e) h = let a = apart e h.1 in record { parts = (tt, a.parts); placed = (h.0, a.placed); answered = (tt, a.answered) }
    apart (binary op l r m) h =
        let a = apart l h.4 in
        let b = apart r h.5 in
        record { parts = ((h.0, h.1), a.parts, b.parts); placed = ((h.2, h.3), a.placed, b.placed); answered = (tt, a.answered, b.answered) }
    apart (paren e) h = let a = apart e h in record { parts = (tt, a.parts); placed = (tt, a.placed); answered = (tt, a.answered) }
    apart (subquery e offset at range step) h =
        let a = apart e h.5 in
        record { parts = ((h.1, h.2, h.3, h.4), a.parts); placed = (h.0, a.placed); answered = (tt, a.answered) }
    apart (number n) h = record { parts = h; placed = tt; answered = tt }
    apart (string s) h = record { parts = tt; placed = tt; answered = tt }
    apart (vector s) h = let two = selector_apart s h in record { parts = two.0; placed = tt; answered = two.1 }
    apart (matrix s range mode) h = let two = selector_apart s h.0 in record { parts = (two.0, h.1); placed = tt; answered = two.1 }
    apart (call f ts) h = let a = all_apart ts h.1 in record { parts = (h.0, a.parts); placed = (tt, a.placed); answered = (tt, a.answered) }
    apart (extension name gives ts) h = absurd h

    maybe_apart : (p : MaybeTree) → MaybePrintableNodes g p → MaybeApart p
    maybe_apart absent h = record { parts = tt; placed = tt; answered = tt }
    maybe_apart (present e) h = let a = apart e h in record { parts = a.parts; placed = a.placed; answered = a.answered }

    all_apart : (ts : Trees) → AllPrintableNodes g ts → AllApart ts
    all_apart no_trees h = record { parts = tt; placed = tt; answered = tt }
    all_apart (first_tree t ts) h =
        let a = apart t h.0 in
        let b = all_apart ts h.1 in
        record { parts = (a.parts, b.parts); placed = (a.placed, b.placed); answered = (a.answered, b.answered) }

  mutual
    joined : (t : Tree) → Throughout HasNodeParts t → Throughout IsNodePlaced t → Throughout (PatternsAnswered g) t → PrintableNodes g t
    joined (aggregate op e p m) h w a = (h.0, maybe_joined p h.1 w.1 a.1, joined e h.2 w.2 a.2)
    joined (unary e) h w a = (w.0, joined e h.1 w.1 a.1)
    joined (binary op l r m) h w a = (h.0.0, h.0.1, w.0.0, w.0.1, joined l h.1 w.1 a.1, joined r h.2 w.2 a.2)
    joined (paren e) h w a = joined e h.1 w.1 a.1
    joined (subquery e offset at range step) h w a = (w.0, h.0.0, h.0.1, h.0.2, h.0.3, joined e h.1 w.1 a.1)
    joined (number n) h w a = h
    joined (string s) h w a = tt
    joined (vector s) h w a = selector_joined s h a
    joined (matrix s range mode) h w a = (selector_joined s h.0 a, h.1)
    joined (call f ts) h w a = (h.0, all_joined ts h.1 w.1 a.1)
    joined (extension name gives ts) h w a = absurd h.0

    maybe_joined : (p : MaybeTree) → ThroughoutMaybe HasNodeParts p → ThroughoutMaybe IsNodePlaced p → ThroughoutMaybe (PatternsAnswered g) p → MaybePrintableNodes g p
    maybe_joined absent h w a = tt
    maybe_joined (present e) h w a = joined e h w a

    all_joined : (ts : Trees) → ThroughoutAll HasNodeParts ts → ThroughoutAll IsNodePlaced ts → ThroughoutAll (PatternsAnswered g) ts → AllPrintableNodes g ts
    all_joined no_trees h w a = tt
    all_joined (first_tree t ts) h w a = (joined t h.0 w.0 a.0, all_joined ts h.1 w.1 a.1)

  pub printable_apart : (t : Tree) → NodesArePrintable g t → IsPrintable g t
  printable_apart t h =
      let a = apart t h.nodes in
      (record { typed = h.typed; low = h.low; parts = parts_listed t a.parts; placed = placed_listed t a.placed }, listed (PatternsAnswered g) t a.answered)

  pub printable_joined : (t : Tree) → IsPrintable g t → NodesArePrintable g t
  printable_joined t h = record {
    typed = h.0.typed;
    low = h.0.low;
    nodes = joined t (parts_throughout t h.0.parts) (placed_throughout t h.0.placed) (throughout (PatternsAnswered g) t h.1);
  }
