-- The rules of printable trees, node by node. Private: nothing rests on believing it.
use Rattle.std.specs.Prelude.{◌≡◌, ◌≤◌, ℕ, Bool, true, false, List, [], ◌∷◌, Option, Some, None, IfSome}
use Rattle.std.specs.List.{AllByRecursion}
use Rattle.promql_text.specs.Texts.{Text}
use Rattle.promql_text.specs.Values.{IsNumber, is_below_zero}
use Rattle.promql_token.specs.Ids.{is_aggregator_with_param, is_set_operator}
use Rattle.promql_grammar.specs.Grammar.{FitsLeft}
use Rattle.promql_grammar.specs.Symbols.{token_kind}
use Rattle.promql_grammar.specs.declared.token_kinds.TokenKind.TheVariants as kind
use Rattle.promql_label.specs.Answers.{Answer}
use Rattle.promql_label.specs.PlainMatchers.{PlainMatcher, PlainMatchers, plain_matchers}
use Rattle.promql_kind.specs.Functions.{function_named, name_of}
use Rattle.promql_kind.specs.Modifiers.{Cardinality, Clause, many_to_many, fills, Matching, matching, is_grouping}
use Rattle.promql_ast.specs.Selectors.{Selector, selector}
use Rattle.promql_ast.specs.Tree.{Tree, aggregate, unary, binary, paren, subquery, number, string, vector, matrix, call, extension, MaybeTree, absent, present, Trees, no_trees, first_tree}
use Rattle.promql_ast.specs.Typed.{Typed}
use Rattle.promql_syntax.specs.declared.parser.TheConstants.{MAX_DEPTH}
use Rattle.promql_rewrite.specs.Answered.{IsAnswered}
use Rattle.promql_rewrite.specs.PrintableConditions.{AreGrouped, IsNegated, IsRightSide, PrintableAt, PrintableFill, PrintableName, PrintableOffset, PrintableTime, openness}
use Rattle.promql_rewrite.specs.PrintableTrees.{printed_height}

-- ---- parts

abbrev pub PrintableStep : Option ℕ → Type 0
PrintableStep step = IfSome step PrintableTime

-- an aggregator that takes a parameter has one, and no other has
abbrev pub has_param : MaybeTree → Bool
has_param absent = false
has_param (present e) = true

-- before the range of a subquery: nothing with an operator or a sign outside
abbrev pub IsSubqueried : Tree → Type 0
IsSubqueried (unary e) = ⊥
IsSubqueried (binary op l r m) = ⊥
IsSubqueried (number n) = is_below_zero n ≡ false
IsSubqueried t = Unit {0}

-- ---- modifiers

-- a grouping has matching labels before it
abbrev pub FollowsLabels : Cardinality → Option Clause → Type 0
FollowsLabels card None = is_grouping card ≡ false
FollowsLabels card (Some clause) = Unit {0}

-- what prints nothing is what is read of nothing: set operators match many elements with many, and no others do
abbrev pub PrintableModifier : ℕ → Option Matching → Type 0
PrintableModifier op None = Unit {0}
PrintableModifier op (Some (matching card clause return_bool (fills r l))) =
    FollowsLabels card clause × (card ≡ many_to_many → is_set_operator op ≡ true) × PrintableFill r × PrintableFill l

-- ---- what a node has beside its children

abbrev pub HasSelectorParts : Selector → Type 0
HasSelectorParts (selector name matchers offset at) =
    PrintableName name × AreGrouped matchers × PrintableOffset offset × PrintableAt at

-- it prints as what is read as it
abbrev pub HasNodeParts : Tree → Type 0
HasNodeParts (aggregate op e p m) = has_param p ≡ is_aggregator_with_param op
HasNodeParts (binary op l r m) = (token_kind op ≡ kind.Operator op) × PrintableModifier op m
HasNodeParts (subquery e offset at range step) =
    PrintableTime range × PrintableStep step × PrintableOffset offset × PrintableAt at
HasNodeParts (number n) = IsNumber n
HasNodeParts (vector s) = HasSelectorParts s
HasNodeParts (matrix s range mode) = HasSelectorParts s × PrintableTime range
HasNodeParts (call f args) = function_named (name_of f) ≡ Some f
HasNodeParts (extension name gives es) = ⊥
HasNodeParts t = Unit {0}

-- ---- the places that it gives its children: each binds tightly enough

abbrev pub IsNodePlaced : Tree → Type 0
IsNodePlaced (unary e) = IsNegated e
IsNodePlaced (binary op l r m) = FitsLeft op (openness l) × IsRightSide op r
IsNodePlaced (subquery e offset at range step) = IsSubqueried e
IsNodePlaced t = Unit {0}

-- ---- or-groups

-- no group is empty
abbrev pub NoneEmpty : List (List PlainMatcher) → Type 0
NoneEmpty [] = Unit {0}
NoneEmpty ([] ∷ gs) = ⊥
NoneEmpty ((c ∷ cs) ∷ gs) = NoneEmpty gs

-- matchers without groups, or two groups at least and no matcher beside them
abbrev pub AreGroups : PlainMatchers → Type 0
AreGroups (plain_matchers cs []) = Unit {0}
AreGroups (plain_matchers [] (h ∷ [])) = ⊥
AreGroups (plain_matchers [] (h ∷ k ∷ gs)) = NoneEmpty (h ∷ k ∷ gs)
AreGroups (plain_matchers (c ∷ cs) (h ∷ gs)) = ⊥

module _ (g : Text → Answer) where
  -- ---- matchers: each pattern is the one of its value

  abbrev pub AllAnswered : List PlainMatcher → Type 0
  AllAnswered = AllByRecursion (IsAnswered g)

  -- no group is empty
  abbrev pub GroupsAnswered : List (List PlainMatcher) → Type 0
  GroupsAnswered [] = Unit {0}
  GroupsAnswered ([] ∷ gs) = ⊥
  GroupsAnswered ((c ∷ cs) ∷ gs) = AllAnswered (c ∷ cs) × GroupsAnswered gs

  -- matchers without groups, or two groups at least and no matcher beside them
  abbrev pub PrintableMatchers : PlainMatchers → Type 0
  PrintableMatchers (plain_matchers cs []) = AllAnswered cs
  PrintableMatchers (plain_matchers [] (h ∷ [])) = ⊥
  PrintableMatchers (plain_matchers [] (h ∷ k ∷ gs)) = GroupsAnswered (h ∷ k ∷ gs)
  PrintableMatchers (plain_matchers (c ∷ cs) (h ∷ gs)) = ⊥

  abbrev pub PrintableSelector : Selector → Type 0
  PrintableSelector (selector name matchers offset at) =
      PrintableName name × PrintableMatchers matchers × PrintableOffset offset × PrintableAt at

  -- ---- trees

  abbrev mutual
    -- each node prints as what is read as this node
    pub PrintableNodes : Tree → Type 0
    PrintableNodes (aggregate op e p m) =
        (has_param p ≡ is_aggregator_with_param op) × MaybePrintableNodes p × PrintableNodes e
    PrintableNodes (unary e) = IsNegated e × PrintableNodes e
    PrintableNodes (binary op l r m) =
        (token_kind op ≡ kind.Operator op) × PrintableModifier op m × FitsLeft op (openness l) × IsRightSide op r
        × PrintableNodes l × PrintableNodes r
    PrintableNodes (paren e) = PrintableNodes e
    PrintableNodes (subquery e offset at range step) =
        IsSubqueried e × PrintableTime range × PrintableStep step × PrintableOffset offset × PrintableAt at
        × PrintableNodes e
    PrintableNodes (number n) = IsNumber n
    PrintableNodes (string s) = Unit {0}
    PrintableNodes (vector s) = PrintableSelector s
    PrintableNodes (matrix s range mode) = PrintableSelector s × PrintableTime range
    PrintableNodes (call f args) = (function_named (name_of f) ≡ Some f) × AllPrintableNodes args
    PrintableNodes (extension name gives es) = ⊥

    pub MaybePrintableNodes : MaybeTree → Type 0
    MaybePrintableNodes absent = Unit {0}
    MaybePrintableNodes (present e) = PrintableNodes e

    pub AllPrintableNodes : Trees → Type 0
    AllPrintableNodes no_trees = Unit {0}
    AllPrintableNodes (first_tree e es) = PrintableNodes e × AllPrintableNodes es

  -- well typed, not too high, and each node as it is read
  pub record NodesArePrintable (t : Tree) : Type 0 where
    pub typed : Typed t
    pub low : printed_height t ≤ MAX_DEPTH
    pub nodes : PrintableNodes t
