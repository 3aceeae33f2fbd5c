-- The rules of the nodes of a tree, each by the reason that is given where a node breaks it (docs/guide/rewriting.md,
-- "Trees of your own").
use Rattle.std.specs.Prelude.{◌≡◌, true, false, Some, None, IfSome}
use Rattle.promql_token.specs.Ids.{is_aggregator_with_param, is_set_operator}
use Rattle.promql_token.specs.declared.ids.TheConstants.{T_MUL}
use Rattle.promql_grammar.specs.Grammar.{FitsLeft}
use Rattle.promql_grammar.specs.Symbols.{token_kind}
use Rattle.promql_grammar.specs.declared.token_kinds.TokenKind.TheVariants as kind
use Rattle.promql_kind.specs.Modifiers.{many_to_many, matching, is_grouping}
use Rattle.promql_ast.specs.Selectors.{selector}
use Rattle.promql_ast.specs.Tree.{Tree, aggregate, unary, binary, subquery, number, vector, matrix, extension, absent, present}
use Rattle.promql_rewrite.specs.PrintableConditions.{AreGrouped, IsRightSide, PrintableOffset, PrintableTime, openness}
use Rattle.promql_rewrite.specs.declared.printable.NotPrintable.{NotPrintable}
use Rattle.promql_rewrite.specs.declared.printable.NotPrintable.TheVariants as reason

-- that this reason is none against the node, or against an operand of it in its place; a minus binds as `*` does, and a number
-- would take it as its sign
abbrev pub Obeys : NotPrintable → Tree → Type 0
Obeys reason.Parameter (aggregate op e absent m) = is_aggregator_with_param op ≡ false
Obeys reason.Parameter (aggregate op e (present p) m) = is_aggregator_with_param op ≡ true
Obeys reason.Operator (binary op l r m) = token_kind op ≡ kind.Operator op
Obeys reason.Grouping (binary op l r (Some (matching card None return_bool values))) = is_grouping card ≡ false
Obeys reason.Cardinality (binary op l r (Some (matching card clause return_bool values))) = card ≡ many_to_many → is_set_operator op ≡ true
Obeys reason.LeftSide (binary op l r m) = FitsLeft op (openness l)
Obeys reason.RightSide (binary op l r m) = IsRightSide op r
Obeys reason.Operand (unary (number n)) = ⊥
Obeys reason.Operand (unary e) = IsRightSide T_MUL e
Obeys reason.Subqueried (subquery e offset at range step) = openness e ≡ 7
Obeys reason.Groups (vector (selector name matchers offset at)) = AreGrouped matchers
Obeys reason.Groups (matrix (selector name matchers offset at) range mode) = AreGrouped matchers
Obeys reason.Time (subquery e offset at range step) = PrintableTime range × IfSome step PrintableTime × PrintableOffset offset
Obeys reason.Time (vector (selector name matchers offset at)) = PrintableOffset offset
Obeys reason.Time (matrix (selector name matchers offset at) range mode) = PrintableOffset offset × PrintableTime range
Obeys reason.Extension (extension name gives es) = ⊥
Obeys _ _ = Unit {0}
