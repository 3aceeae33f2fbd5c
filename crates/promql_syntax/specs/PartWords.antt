-- Words of building for parts that stand alone. Private: nothing rests on believing it.
use Rattle.std.specs.Prelude.{ℕ, Bool, true, false, ◌==◌, if◌then◌else◌, Option, None, List, Result}
use Rattle.std.specs.Option.{option_map_or}
use Rattle.promql_text.specs.Texts.{Text}
use Rattle.promql_token.specs.declared.ids.TheConstants.{T_SUB}
use Rattle.promql_grammar.specs.GrammarParts as part
use Rattle.promql_kind.specs.Functions.{Signature}
use Rattle.promql_kind.specs.Modifiers.{Clause, Cardinality, many_to_one, one_to_many}
use Rattle.promql_ast.specs.Builds.{minus}
use Rattle.promql_ast.specs.Checked.{check_tree}
use Rattle.promql_ast.specs.Tree as tree
use Rattle.promql_syntax.specs.Asking.{Asking, gives, fails}
use Rattle.promql_syntax.specs.BuildErrors.{BuildError, unknown_function}
use Rattle.promql_syntax.specs.Building.{from_verdict, from_checked_verdict}
use Rattle.promql_syntax.specs.PartBuilding.{if_given, time_value, grouping_value}

abbrev pub step_value : Option part.Time → Result (Option ℕ) BuildError
step_value s = if_given time_value s

abbrev pub clause_value : part.Clause → Result (Option Clause) BuildError
clause_value c = if_given (λ (before, g). grouping_value g) c

abbrev pub cardinality : Bool → List Text → Cardinality
cardinality left ls = if left then many_to_one ls else one_to_many ls

-- nothing comes between the operator and its right side
abbrev pub is_blank : part.Modifier → Bool
is_blank (None, None, part.no_fill) = true
is_blank m = false

abbrev pub build_call : Text → Option Signature → tree.Trees → Asking tree.Tree
build_call name f ts = option_map_or (λ f. from_verdict (check_tree (tree.call f ts))) f (fails (unknown_function name))

abbrev pub build_unary : ℕ → tree.Tree → Asking tree.Tree
build_unary op t = if op == T_SUB then from_checked_verdict (minus t) else gives t
