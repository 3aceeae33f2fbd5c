-- What a search for reasons finds. Private: nothing rests on believing it.
use Rattle.std.specs.Prelude.{◌≡◌, ◌⊎◌, ℕ, true, false, MatchOption, Option, Some, None}
use Rattle.promql_token.specs.Ids.{is_aggregator_with_param, is_set_operator}
use Rattle.promql_grammar.specs.Grammar.{FitsLeft}
use Rattle.promql_grammar.specs.Symbols.{token_kind}
use Rattle.promql_grammar.specs.declared.token_kinds.TokenKind.TheVariants as kind
use Rattle.promql_kind.specs.Modifiers.{many_to_many, Matching, matching, is_grouping}
use Rattle.promql_ast.specs.Selectors.{Selector, selector}
use Rattle.promql_ast.specs.Tree.{Tree, aggregate, unary, binary, subquery, vector, matrix, extension, MaybeTree, Trees}
use Rattle.promql_rewrite.specs.PrintableConditions.{IsNegated, IsRightSide, PrintableOffset, PrintableTime, openness}
use Rattle.promql_rewrite.specs.PrintableNodes.{AreGroups, FollowsLabels, IsNodePlaced, IsSubqueried, PrintableStep, has_param}
use Rattle.promql_rewrite.specs.Throughout.{FirstWithin, FirstWithinAll, FirstWithinMaybe, Throughout, ThroughoutAll, ThroughoutMaybe}
use Rattle.promql_rewrite.specs.declared.printable.NotPrintable.{NotPrintable}
use Rattle.promql_rewrite.specs.declared.printable.NotPrintable.TheVariants as reason

-- ---- of a node alone: that it is fitting, or what is wrong

-- a grouping has matching labels before it, and only set operators match many elements with many
abbrev pub IsFittingModifier : ℕ → Option Matching → Type 0
IsFittingModifier op None = Unit {0}
IsFittingModifier op (Some (matching card clause return_bool values)) =
    FollowsLabels card clause × (card ≡ many_to_many → is_set_operator op ≡ true)

-- no or-group is alone, empty or beside other matchers, and the offset is longer than nothing
abbrev pub IsFittingSelector : Selector → Type 0
IsFittingSelector (selector name matchers offset at) = AreGroups matchers × PrintableOffset offset

-- the node is one of the language, and each operand of it fits its place
abbrev pub IsFittingNode : Tree → Type 0
IsFittingNode (aggregate op e p m) = has_param p ≡ is_aggregator_with_param op
IsFittingNode (binary op l r m) =
    (token_kind op ≡ kind.Operator op) × IsFittingModifier op m × FitsLeft op (openness l) × IsRightSide op r
IsFittingNode (subquery e offset at range step) =
    IsSubqueried e × PrintableTime range × PrintableStep step × PrintableOffset offset
IsFittingNode (vector s) = IsFittingSelector s
IsFittingNode (matrix s range mode) = IsFittingSelector s × PrintableTime range
IsFittingNode (extension name gives es) = ⊥
IsFittingNode t = IsNodePlaced t

-- what is wrong with a modifier of an operator
abbrev pub IsWrongModifier : NotPrintable → ℕ → Option Matching → Type 0
IsWrongModifier reason.Grouping op (Some (matching card None return_bool values)) = is_grouping card ≡ true
IsWrongModifier reason.Cardinality op (Some (matching card clause return_bool values)) =
    (card ≡ many_to_many) × (is_set_operator op ≡ false)
IsWrongModifier _ _ _ = ⊥

-- what is wrong with a selector
abbrev pub IsWrongSelector : NotPrintable → Selector → Type 0
IsWrongSelector reason.Groups (selector name matchers offset at) = ¬ (AreGroups matchers)
IsWrongSelector reason.Time (selector name matchers offset at) = ¬ (PrintableOffset offset)
IsWrongSelector _ _ = ⊥

-- what is wrong with a node
abbrev pub IsWrongNode : NotPrintable → Tree → Type 0
IsWrongNode reason.Parameter (aggregate op e p m) = ¬ (has_param p ≡ is_aggregator_with_param op)
IsWrongNode reason.Operator (binary op l r m) = ¬ (token_kind op ≡ kind.Operator op)
IsWrongNode reason.Grouping (binary op l r m) = IsWrongModifier reason.Grouping op m
IsWrongNode reason.Cardinality (binary op l r m) = IsWrongModifier reason.Cardinality op m
IsWrongNode reason.LeftSide (binary op l r m) = ¬ (FitsLeft op (openness l))
IsWrongNode reason.RightSide (binary op l r m) = ¬ (IsRightSide op r)
IsWrongNode reason.Operand (unary e) = ¬ (IsNegated e)
IsWrongNode reason.Subqueried (subquery e offset at range step) = ¬ (IsSubqueried e)
IsWrongNode reason.Groups (vector s) = IsWrongSelector reason.Groups s
IsWrongNode reason.Groups (matrix s range mode) = IsWrongSelector reason.Groups s
IsWrongNode reason.Time (subquery e offset at range step) =
    ¬ (PrintableTime range × PrintableStep step × PrintableOffset offset)
IsWrongNode reason.Time (vector s) = IsWrongSelector reason.Time s
IsWrongNode reason.Time (matrix s range mode) = IsWrongSelector reason.Time s ⊎ ¬ (PrintableTime range)
IsWrongNode reason.Extension (extension name gives es) = Unit {0}
IsWrongNode _ _ = ⊥

-- ---- what is found

-- of a modifier of an operator
pub record FoundInModifier (o : Option NotPrintable) (op : ℕ) (m : Option Matching) : Type 0 where
  pub found : MatchOption o (IsFittingModifier op m) (λ r. IsWrongModifier r op m)

pub record FoundInSelector (o : Option NotPrintable) (s : Selector) : Type 0 where
  pub found : MatchOption o (IsFittingSelector s) (λ r. IsWrongSelector r s)

-- of the node alone
pub record FoundAtRoot (o : Option NotPrintable) (t : Tree) : Type 0 where
  pub found : MatchOption o (IsFittingNode t) (λ r. IsWrongNode r t)

pub record Found (o : Option NotPrintable) (t : Tree) : Type 0 where
  pub found : MatchOption o (Throughout IsFittingNode t) (λ r. FirstWithin IsFittingNode (IsWrongNode r) t)

-- below a node that is fitting
pub record FoundBelow (o : Option NotPrintable) (t : Tree) : Type 0 where
  pub found : IsFittingNode t → Found o t

pub record FoundMaybe (o : Option NotPrintable) (p : MaybeTree) : Type 0 where
  pub found : MatchOption o (ThroughoutMaybe IsFittingNode p) (λ r. FirstWithinMaybe IsFittingNode (IsWrongNode r) p)

pub record FoundAmong (o : Option NotPrintable) (ts : Trees) : Type 0 where
  pub found : MatchOption o (ThroughoutAll IsFittingNode ts) (λ r. FirstWithinAll IsFittingNode (IsWrongNode r) ts)
