-- What a search says of a node alone is what is said of it: that it obeys each rule, or the rule that it breaks.
use Rattle.std.proofs.Common.{◌≡◌, ⊎_elim, false, None, Some, sym, true}
use Rattle.promql_token.specs.Ids.{is_set_operator}
use Rattle.promql_kind.specs.Modifiers.{is_grouping, matching}
use Rattle.promql_ast.specs.Selectors.{selector}
use Rattle.promql_ast.specs.Tree.{Tree, aggregate, unary, binary, subquery, vector, matrix, extension, absent, present}
use Rattle.promql_rewrite.specs.FoundReasons.{IsFittingNode, IsWrongNode}
use Rattle.promql_rewrite.specs.NodeRules.{Obeys}
use Rattle.promql_rewrite.specs.Reasons.{IsFitting}
use Rattle.promql_rewrite.specs.declared.printable.NotPrintable.{NotPrintable}
use Rattle.promql_rewrite.specs.declared.printable.NotPrintable.TheVariants as reason
use Rattle.promql_rewrite.proofs.readback.ClosedTrees.{closed, subqueried}
use Rattle.promql_rewrite.proofs.rules_broken.NegatedOperands.{negated_operand, operand_negated}
use Rattle.promql_rewrite.proofs.readback.Grouped.{grouped, groups}

pub node_breaks : (r : NotPrintable) (t : Tree) → IsWrongNode r t → Obeys r t → ⊥
node_breaks reason.Parameter (aggregate op e absent m) h k = h (sym k)
node_breaks reason.Parameter (aggregate op e (present p) m) h k = h (sym k)
node_breaks reason.Operator (binary op l r m) h k = h k
node_breaks reason.Grouping (binary op l r None) h k = h
node_breaks reason.Grouping (binary op l r (Some (matching card None b values))) h k = let is : is_grouping card ≡ true = h in let not : is_grouping card ≡ false = k in cc
node_breaks reason.Grouping (binary op l r (Some (matching card (Some clause) b values))) h k = h
node_breaks reason.Cardinality (binary op l r None) h k = h
node_breaks reason.Cardinality (binary op l r (Some (matching card clause b values))) h k =
    let is : is_set_operator op ≡ true = k h.0 in
    let not : is_set_operator op ≡ false = h.1 in
    cc
node_breaks reason.LeftSide (binary op l r m) h k = h k
node_breaks reason.RightSide (binary op l r m) h k = h k
node_breaks reason.Operand (unary e) h k = h (operand_negated e k)
node_breaks reason.Subqueried (subquery e offset at range step) h k = h (subqueried e k)
node_breaks reason.Groups (vector (selector name matchers offset at)) h k = h (groups matchers k)
node_breaks reason.Groups (matrix (selector name matchers offset at) range mode) h k = h (groups matchers k)
node_breaks reason.Time (subquery e offset at range step) h k = h k
node_breaks reason.Time (vector (selector name matchers offset at)) h k = h k
node_breaks reason.Time (matrix (selector name matchers offset at) range mode) h k = ⊎_elim (λ f. f k.0) (λ f. f k.1) h
node_breaks reason.Extension (extension name gives ts) h k = k
node_breaks r t h k = h

obeys : (r : NotPrintable) (t : Tree) → IsFittingNode t → Obeys r t
obeys reason.Parameter (aggregate op e absent m) h = sym h
obeys reason.Parameter (aggregate op e (present p) m) h = sym h
obeys reason.Operator (binary op l r m) h = h.0
obeys reason.Grouping (binary op l r None) h = tt
obeys reason.Grouping (binary op l r (Some (matching card None b values))) h = h.1.0
obeys reason.Grouping (binary op l r (Some (matching card (Some clause) b values))) h = tt
obeys reason.Cardinality (binary op l r None) h = tt
obeys reason.Cardinality (binary op l r (Some (matching card clause b values))) h = h.1.1
obeys reason.LeftSide (binary op l r m) h = h.2
obeys reason.RightSide (binary op l r m) h = h.3
obeys reason.Operand (unary e) h = negated_operand e h
obeys reason.Subqueried (subquery e offset at range step) h = closed e h.0
obeys reason.Groups (vector (selector name matchers offset at)) h = grouped matchers h.0
obeys reason.Groups (matrix (selector name matchers offset at) range mode) h = grouped matchers h.0.0
obeys reason.Time (subquery e offset at range step) h = (h.1, h.2, h.3)
obeys reason.Time (vector (selector name matchers offset at)) h = h.1
obeys reason.Time (matrix (selector name matchers offset at) range mode) h = (h.0.1, h.1)
obeys reason.Extension (extension name gives ts) h = h
obeys r t h = tt

pub node_fits : (t : Tree) → IsFittingNode t → IsFitting t
node_fits t h = λ r. obeys r t h

-- and the other way
pub fits_node : (t : Tree) → IsFitting t → IsFittingNode t
fits_node (aggregate op e absent m) h = sym (h reason.Parameter)
fits_node (aggregate op e (present p) m) h = sym (h reason.Parameter)
fits_node (unary e) h = operand_negated e (h reason.Operand)
fits_node (binary op l r None) h = (h reason.Operator, tt, h reason.LeftSide, h reason.RightSide)
fits_node (binary op l r (Some (matching card None b values))) h = (h reason.Operator, (h reason.Grouping, h reason.Cardinality), h reason.LeftSide, h reason.RightSide)
fits_node (binary op l r (Some (matching card (Some clause) b values))) h = (h reason.Operator, (tt, h reason.Cardinality), h reason.LeftSide, h reason.RightSide)
fits_node (subquery e offset at range step) h = let times = h reason.Time in (subqueried e (h reason.Subqueried), times.0, times.1, times.2)
fits_node (vector (selector name matchers offset at)) h = (groups matchers (h reason.Groups), h reason.Time)
fits_node (matrix (selector name matchers offset at) range mode) h = let times = h reason.Time in ((groups matchers (h reason.Groups), times.0), times.1)
fits_node (extension name gives ts) h = h reason.Extension
fits_node t h = tt
