-- Trees that read back from what they print, whoever built them (docs/guide/rewriting.md, "Trees of your own").
use Rattle.std.specs.Prelude.{◌≡◌, ◌+◌, ◌≤◌, ℕ, max, if◌then◌else◌, Some}
use Rattle.std.specs.List.{AllByRecursion}
use Rattle.promql_text.specs.Texts.{Text}
use Rattle.promql_text.specs.Values.{IsNumber, is_below_zero}
use Rattle.promql_label.specs.Answers.{Answer}
use Rattle.promql_label.specs.PlainMatchers.{every}
use Rattle.promql_kind.specs.Functions.{function_named, name_of}
use Rattle.promql_kind.specs.Modifiers.{fills, matching}
use Rattle.promql_ast.specs.Fold.{folded, maybe_within, all_within}
use Rattle.promql_ast.specs.Selectors.{Selector, selector}
use Rattle.promql_ast.specs.Tree.{Tree, binary, subquery, number, vector, matrix, call, MaybeTree, Trees}
use Rattle.promql_ast.specs.Typed.{Typed}
use Rattle.promql_syntax.specs.declared.parser.TheConstants.{MAX_DEPTH}
use Rattle.promql_rewrite.specs.Answered.{IsAnswered}
use Rattle.promql_rewrite.specs.Everywhere.{Everywhere}
use Rattle.promql_rewrite.specs.NodeRules.{Obeys}
use Rattle.promql_rewrite.specs.PrintableConditions.{PrintableAt, PrintableFill, PrintableName}
use Rattle.promql_rewrite.specs.declared.printable.NotPrintable.TheVariants as reason

-- ---- nodes

-- what no reason tells of: names, numbers, times after `@` and functions print as what is read as them
abbrev pub PrintsExactly : Tree → Type 0
PrintsExactly (binary op l r (Some (matching card clause return_bool (fills x y)))) = PrintableFill x × PrintableFill y
PrintsExactly (subquery e offset at range step) = PrintableAt at
PrintsExactly (number n) = IsNumber n
PrintsExactly (vector (selector name matchers offset at)) = PrintableName name × PrintableAt at
PrintsExactly (matrix (selector name matchers offset at) range mode) = PrintableName name × PrintableAt at
PrintsExactly (call f args) = function_named (name_of f) ≡ Some f
PrintsExactly t = Unit {0}

-- what a node has beside its children
abbrev pub HasParts : Tree → Type 0
HasParts t =
    Obeys reason.Parameter t × Obeys reason.Operator t × Obeys reason.Grouping t × Obeys reason.Cardinality t
    × Obeys reason.Groups t × Obeys reason.Time t × Obeys reason.Extension t × PrintsExactly t

-- the places that it gives its children: each binds tightly enough
abbrev pub IsPlaced : Tree → Type 0
IsPlaced t = Obeys reason.LeftSide t × Obeys reason.RightSide t × Obeys reason.Operand t × Obeys reason.Subqueried t

-- ---- heights

-- the height of the tree as it is read: a number below zero is a minus and a number
abbrev pub own_height : Tree → ℕ → ℕ
own_height (number n) below = if is_below_zero n then 2 else 1
own_height t below = 1 + below

abbrev pub printed_height : Tree → ℕ
printed_height = folded 0 max own_height

abbrev pub maybe_printed_height : MaybeTree → ℕ
maybe_printed_height = maybe_within 0 max own_height

abbrev pub all_printed_height : Trees → ℕ
all_printed_height = all_within 0 max own_height

-- ---- all that a tree decides by itself

pub record IsPrintableAlone (t : Tree) : Type 0 where
  pub typed : Typed t
  pub low : printed_height t ≤ MAX_DEPTH
  pub parts : Everywhere HasParts t
  pub placed : Everywhere IsPlaced t

-- ---- with the answers about patterns: each pattern is the one of its value

module _ (g : Text → Answer) where
  abbrev SelectorAnswered : Selector → Type 0
  SelectorAnswered (selector name matchers offset at) = AllByRecursion (IsAnswered g) (every matchers)

  abbrev pub PatternsAnswered : Tree → Type 0
  PatternsAnswered (vector s) = SelectorAnswered s
  PatternsAnswered (matrix s range mode) = SelectorAnswered s
  PatternsAnswered t = Unit {0}

  abbrev pub IsPrintable : Tree → Type 0
  IsPrintable t = IsPrintableAlone t × Everywhere PatternsAnswered t
