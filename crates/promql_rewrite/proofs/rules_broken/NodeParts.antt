-- What is asked of a node, rule by rule and node by node, is one.
use Rattle.std.proofs.Common.{None, Some, sym}
use Rattle.promql_kind.specs.Modifiers.{fills, matching}
use Rattle.promql_ast.specs.Selectors.{selector}
use Rattle.promql_ast.specs.Tree.{Tree, aggregate, unary, binary, subquery, number, vector, matrix, call, extension, absent, present}
use Rattle.promql_rewrite.specs.Collecting.{nodes_of}
use Rattle.promql_rewrite.specs.Everywhere.{Everywhere}
use Rattle.promql_rewrite.specs.PrintableNodes.{HasNodeParts, IsNodePlaced}
use Rattle.promql_rewrite.specs.PrintableTrees.{HasParts, IsPlaced}
use Rattle.promql_rewrite.specs.Throughout.{Throughout}
use Rattle.promql_rewrite.proofs.readback.ClosedTrees.{closed, subqueried}
use Rattle.promql_rewrite.proofs.rules_broken.NegatedOperands.{negated_operand, operand_negated}
use Rattle.promql_rewrite.proofs.rules_broken.EachNode.{imply, listed, throughout}

-- ---- places

obeys_places : (t : Tree) → IsNodePlaced t → IsPlaced t
obeys_places (unary e) h = (tt, tt, negated_operand e h, tt)
obeys_places (binary op l r m) h = (h.0, h.1, tt, tt)
obeys_places (subquery e offset at range step) h = (tt, tt, tt, closed e h)
obeys_places t h = (tt, tt, tt, tt)

has_places : (t : Tree) → IsPlaced t → IsNodePlaced t
has_places (unary e) h = operand_negated e h.2
has_places (binary op l r m) h = (h.0, h.1)
has_places (subquery e offset at range step) h = subqueried e h.3
has_places t h = tt

pub placed_listed : (t : Tree) → Throughout IsNodePlaced t → Everywhere IsPlaced t
placed_listed t h = imply IsNodePlaced IsPlaced obeys_places (nodes_of t) (listed IsNodePlaced t h)

pub placed_throughout : (t : Tree) → Everywhere IsPlaced t → Throughout IsNodePlaced t
placed_throughout t h = throughout IsNodePlaced t (imply IsPlaced IsNodePlaced has_places (nodes_of t) h)

-- ---- parts

obeys_parts : (t : Tree) → HasNodeParts t → HasParts t
obeys_parts (aggregate op e absent m) h = (sym h, tt, tt, tt, tt, tt, tt, tt)
obeys_parts (aggregate op e (present p) m) h = (sym h, tt, tt, tt, tt, tt, tt, tt)
obeys_parts (binary op l r None) h = (tt, h.0, tt, tt, tt, tt, tt, tt)
obeys_parts (binary op l r (Some (matching card None b (fills x y)))) h = (tt, h.0, h.1.0, h.1.1, tt, tt, tt, (h.1.2, h.1.3))
obeys_parts (binary op l r (Some (matching card (Some clause) b (fills x y)))) h = (tt, h.0, tt, h.1.1, tt, tt, tt, (h.1.2, h.1.3))
obeys_parts (subquery e offset at range step) h = (tt, tt, tt, tt, tt, (h.0, h.1, h.2), tt, h.3)
obeys_parts (number n) h = (tt, tt, tt, tt, tt, tt, tt, h)
obeys_parts (vector (selector name matchers offset at)) h = (tt, tt, tt, tt, h.1, h.2, tt, (h.0, h.3))
obeys_parts (matrix (selector name matchers offset at) range mode) h = (tt, tt, tt, tt, h.0.1, (h.0.2, h.1), tt, (h.0.0, h.0.3))
obeys_parts (call f ts) h = (tt, tt, tt, tt, tt, tt, tt, h)
obeys_parts (extension name gives ts) h = absurd h
obeys_parts t h = (tt, tt, tt, tt, tt, tt, tt, tt)

has_parts : (t : Tree) → HasParts t → HasNodeParts t
has_parts (aggregate op e absent m) h = sym h.0
has_parts (aggregate op e (present p) m) h = sym h.0
has_parts (binary op l r None) h = (h.1, tt)
has_parts (binary op l r (Some (matching card None b (fills x y)))) h = (h.1, (h.2, h.3, h.7.0, h.7.1))
has_parts (binary op l r (Some (matching card (Some clause) b (fills x y)))) h = (h.1, (tt, h.3, h.7.0, h.7.1))
has_parts (subquery e offset at range step) h = (h.5.0, h.5.1, h.5.2, h.7)
has_parts (number n) h = h.7
has_parts (vector (selector name matchers offset at)) h = (h.7.0, h.4, h.5, h.7.1)
has_parts (matrix (selector name matchers offset at) range mode) h = ((h.7.0, h.4, h.5.0, h.7.1), h.5.1)
has_parts (call f ts) h = h.7
has_parts (extension name gives ts) h = h.6
has_parts t h = tt

pub parts_listed : (t : Tree) → Throughout HasNodeParts t → Everywhere HasParts t
parts_listed t h = imply HasNodeParts HasParts obeys_parts (nodes_of t) (listed HasNodeParts t h)

pub parts_throughout : (t : Tree) → Everywhere HasParts t → Throughout HasNodeParts t
parts_throughout t h = throughout HasNodeParts t (imply HasParts HasNodeParts has_parts (nodes_of t) h)
