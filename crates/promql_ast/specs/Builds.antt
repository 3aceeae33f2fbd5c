-- What the builders make of trees (docs/reference/tree.md, "Builders").
use Rattle.std.specs.Prelude.{ℕ, if◌then◌else◌, Option, Some, None}
use Rattle.promql_text.specs.Values.{neg}
use Rattle.promql_text.specs.declared.number.Number.{Number}
use Rattle.promql_token.specs.Ids.{is_aggregator_with_param}
use Rattle.promql_kind.specs.Modifiers.{Clause}
use Rattle.promql_kind.specs.declared.value.ValueType.TheVariants as kind
use Rattle.promql_ast.specs.Arguments.{count}
use Rattle.promql_ast.specs.Faults.{Verdict, passes, rejected, node}
use Rattle.promql_ast.specs.Selectors.{selector}
use Rattle.promql_ast.specs.Shifts.{Shift, Moment}
use Rattle.promql_ast.specs.Tree.{Tree, aggregate, unary, subquery, number, string, vector, matrix, absent, present, Trees, no_trees, first_tree}
use Rattle.promql_ast.specs.declared.fault.NodeFault.TheVariants.{UnaryLiteral, OffsetBeforeRange, AtBeforeRange, RangeBase, AtTwice, AtBase, OffsetTwice, OffsetBase, NoArguments, ArgumentCount, ModeTwice, ModeBase}
use Rattle.promql_ast.specs.declared.range_mode.RangeMode.{RangeMode}
use Rattle.promql_ast.specs.declared.range_mode.RangeMode.TheVariants.{Plain}

-- "Minus": a number changes its sign, everything else gets a node
abbrev pub negate_tree : Tree → Tree
negate_tree (number n) = number (neg n)
negate_tree t = unary t

-- "Minus", but neither over a string literal nor over a matrix selector
abbrev pub minus : Tree → Verdict
minus (string s) = rejected (node (UnaryLiteral kind.String))
minus (matrix s range mode) = rejected (node (UnaryLiteral kind.Matrix))
minus t = passes (negate_tree t)

-- "Range": over a selector that has neither `offset` nor `@`
abbrev pub with_range : Tree → ℕ → Verdict
with_range (vector (selector name matchers (Some offset) at)) range = rejected (node OffsetBeforeRange)
with_range (vector (selector name matchers None (Some at))) range = rejected (node AtBeforeRange)
with_range (vector (selector name matchers None None)) range = passes (matrix (selector name matchers None None) range Plain)
with_range _ range = rejected (node RangeBase)

-- the times of a selector, a matrix selector or a subquery, and the tree with others
abbrev pub timed : Tree → Option (Option Shift × Option Moment × (Option Shift → Option Moment → Tree))
timed (vector (selector name matchers offset at)) = Some (offset, at, λ offset at. vector (selector name matchers offset at))
timed (matrix (selector name matchers offset at) range mode) =
    Some (offset, at, λ offset at. matrix (selector name matchers offset at) range mode)
timed (subquery e offset at range step) = Some (offset, at, λ offset at. subquery e offset at range step)
timed t = None

-- "Offset and @": each once. By the law `times_are_given_once` they are what `timed` says
abbrev pub at_given : Tree → Moment → Verdict
at_given (vector (selector name matchers offset None)) at = passes (vector (selector name matchers offset (Some at)))
at_given (matrix (selector name matchers offset None) range mode) at =
    passes (matrix (selector name matchers offset (Some at)) range mode)
at_given (subquery e offset None range step) at = passes (subquery e offset (Some at) range step)
at_given (vector (selector name matchers offset (Some before))) at = rejected (node AtTwice)
at_given (matrix (selector name matchers offset (Some before)) range mode) at = rejected (node AtTwice)
at_given (subquery e offset (Some before) range step) at = rejected (node AtTwice)
at_given _ at = rejected (node AtBase)

abbrev pub offset_given : Tree → Shift → Verdict
offset_given (vector (selector name matchers None at)) offset = passes (vector (selector name matchers (Some offset) at))
offset_given (matrix (selector name matchers None at) range mode) offset =
    passes (matrix (selector name matchers (Some offset) at) range mode)
offset_given (subquery e None at range step) offset = passes (subquery e (Some offset) at range step)
offset_given (vector (selector name matchers (Some before) at)) offset = rejected (node OffsetTwice)
offset_given (matrix (selector name matchers (Some before) at) range mode) offset = rejected (node OffsetTwice)
offset_given (subquery e (Some before) at range step) offset = rejected (node OffsetTwice)
offset_given _ offset = rejected (node OffsetBase)

-- "Range modes": once, on a matrix selector
abbrev pub mode_given : Tree → RangeMode → Verdict
mode_given (matrix s range Plain) mode = passes (matrix s range mode)
mode_given (matrix s range before) mode = rejected (node ModeTwice)
mode_given _ mode = rejected (node ModeBase)

-- "Aggregations": one argument; a parameter comes before it. The law `aggregations_have_their_arguments` says so
abbrev pub aggregated_alone : ℕ → Option Clause → Trees → Verdict
aggregated_alone op m no_trees = rejected (node (NoArguments op))
aggregated_alone op m (first_tree e no_trees) = passes (aggregate op e absent m)
aggregated_alone op m ts = rejected (node (ArgumentCount 1 (count ts)))

abbrev pub aggregated_with : ℕ → Option Clause → Trees → Verdict
aggregated_with op m no_trees = rejected (node (NoArguments op))
aggregated_with op m (first_tree p (first_tree e no_trees)) = passes (aggregate op e (present p) m)
aggregated_with op m ts = rejected (node (ArgumentCount 2 (count ts)))

abbrev pub aggregate_args : ℕ → Option Clause → Trees → Verdict
aggregate_args op m ts = if is_aggregator_with_param op then aggregated_with op m ts else aggregated_alone op m ts

-- the value of a number literal
abbrev pub scalar_value : Tree → Option Number
scalar_value (number n) = Some n
scalar_value _ = None
