-- What is found is a reason.
use Rattle.std.proofs.Common.{◌≡◌, Some, None, List, [], ◌∷◌, ◌++◌, ap, inl, inr, refl}
use Rattle.std.specs.List.{AllByRecursion}
use Rattle.promql_ast.specs.Tree.{Tree}
use Rattle.promql_rewrite.specs.Collecting.{nodes_of}
use Rattle.promql_rewrite.specs.Everywhere.{Everywhere}
use Rattle.promql_rewrite.specs.FoundReasons.{Found, IsFittingNode, IsWrongNode}
use Rattle.promql_rewrite.specs.NodeRules.{Obeys}
use Rattle.promql_rewrite.specs.Reasons.{IsFitting, IsReason}
use Rattle.promql_rewrite.specs.Throughout.{FirstWrong}
use Rattle.promql_rewrite.specs.declared.printable.NotPrintable.{NotPrintable}
use Rattle.promql_rewrite.specs.declared.printable.NotPrintable.TheVariants as reason
use Rattle.promql_rewrite.proofs.rules_broken.EachNode.{first_listed, imply, listed}
use Rattle.promql_rewrite.proofs.rules_broken.NodeReasons.{node_breaks, node_fits}

as_reason : (r : NotPrintable) (ts : List Tree) → FirstWrong IsFittingNode (IsWrongNode r) ts → FirstWrong IsFitting (λ n. ¬ (Obeys r n)) ts
as_reason r [] h = h
as_reason r (t ∷ ts) (inl wrong) = inl (node_breaks r t wrong)
as_reason r (t ∷ ts) (inr (fits, more)) = inr (node_fits t fits, as_reason r ts more)

-- the node that breaks the rule, after those that are fitting
abbrev Breaks : NotPrintable → List Tree → Type 0
Breaks r ts = (before rest : List Tree) × (node : Tree) × (ts ≡ before ++ node ∷ rest) × AllByRecursion IsFitting before × ¬ (Obeys r node)

split : (r : NotPrintable) (ts : List Tree) → FirstWrong IsFitting (λ n. ¬ (Obeys r n)) ts → Breaks r ts
split r [] h = absurd h
split r (t ∷ ts) (inl broken) = ([], ts, t, refl, tt, broken)
split r (t ∷ ts) (inr (fits, more)) = let s = split r ts more in (t ∷ s.0, s.1, s.2, ap (λ l. t ∷ l) s.3, (fits, s.4), s.5)

first_wrong : (r : NotPrintable) (t : Tree) → Found (Some r) t → FirstWrong IsFitting (λ n. ¬ (Obeys r n)) (nodes_of t)
first_wrong r t h = as_reason r (nodes_of t) (first_listed IsFittingNode (IsWrongNode r) t h.found)

first_is_reason : (r : NotPrintable) (t : Tree) → Found (Some r) t → Breaks r (nodes_of t)
first_is_reason r t h = split r (nodes_of t) (first_wrong r t h)

-- a reason that is none against any node
not_broken : (r : NotPrintable) → ((n : Tree) → Obeys r n) → (ts : List Tree) → FirstWrong IsFitting (λ n. ¬ (Obeys r n)) ts → ⊥
not_broken r obeyed [] h = h
not_broken r obeyed (t ∷ ts) (inl broken) = broken (obeyed t)
not_broken r obeyed (t ∷ ts) (inr (fits, more)) = not_broken r obeyed ts more

pub all_fitting : (t : Tree) → Found None t → Everywhere IsFitting t
all_fitting t h = imply IsFittingNode IsFitting node_fits (nodes_of t) (listed IsFittingNode t h.found)

pub found_is_reason : (r : NotPrintable) (t : Tree) → Found (Some r) t → IsReason r t
found_is_reason reason.Parameter t h = first_is_reason reason.Parameter t h
found_is_reason reason.Operator t h = first_is_reason reason.Operator t h
found_is_reason reason.Grouping t h = first_is_reason reason.Grouping t h
found_is_reason reason.Cardinality t h = first_is_reason reason.Cardinality t h
found_is_reason reason.LeftSide t h = first_is_reason reason.LeftSide t h
found_is_reason reason.RightSide t h = first_is_reason reason.RightSide t h
found_is_reason reason.Operand t h = first_is_reason reason.Operand t h
found_is_reason reason.Subqueried t h = first_is_reason reason.Subqueried t h
found_is_reason reason.Time t h = first_is_reason reason.Time t h
found_is_reason reason.Groups t h = first_is_reason reason.Groups t h
found_is_reason reason.Extension t h = first_is_reason reason.Extension t h
found_is_reason (reason.Rejected e) t h = absurd (not_broken (reason.Rejected e) (λ n. tt) (nodes_of t) (first_wrong (reason.Rejected e) t h))
found_is_reason reason.OtherTree t h = absurd (not_broken reason.OtherTree (λ n. tt) (nodes_of t) (first_wrong reason.OtherTree t h))
