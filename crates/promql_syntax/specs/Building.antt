-- What a derivation builds (docs/reference/grammar.md, "Building"): its parts first, then its own tokens, then its
-- checks.
use Rattle.std.specs.Prelude.{◌==◌, if◌then◌else◌, Option, Some, None, Ok, []}
use Rattle.std.specs.Option.{option_map_or}
use Rattle.promql_text.specs.Texts.{Text}
use Rattle.promql_text.specs.Durations.{duration_of}
use Rattle.promql_text.specs.NumberText.{read_number}
use Rattle.promql_text.specs.Numbers.{seconds_of}
use Rattle.promql_text.specs.declared.number.Number.TheVariants.{Finite}
use Rattle.promql_token.specs.declared.ids.TheConstants.{T_SUB}
use Rattle.promql_grammar.specs.GrammarParts as part
use Rattle.promql_grammar.specs.GrammarParts.{is_minus}
use Rattle.promql_grammar.specs.Results.{on_result, ◌then◌}
use Rattle.promql_grammar.specs.Grammar as grammar
use Rattle.promql_label.specs.PlainMatchers.{PlainMatchers, plain_matchers}
use Rattle.promql_kind.specs.Functions.{function_named}
use Rattle.promql_ast.specs.Builds.{minus, with_range, at_given, offset_given, mode_given, aggregate_args}
use Rattle.promql_ast.specs.Checked.{check_tree}
use Rattle.promql_ast.specs.Faults.{Verdict, passes, rejected}
use Rattle.promql_ast.specs.Selectors.{selector}
use Rattle.promql_ast.specs.AtTimes.{at_of_number}
use Rattle.promql_ast.specs.Shifts.{at_start, at_end, back, ahead, moment_of}
use Rattle.promql_ast.specs.Tree as tree
use Rattle.promql_ast.specs.declared.range_mode.RangeMode.TheVariants.{Smoothed, Anchored}
use Rattle.promql_syntax.specs.Asking.{Asking, gives, fails, ◌giving◌, known}
use Rattle.promql_syntax.specs.BuildErrors.{number, duration, at, unknown_function, check}
use Rattle.promql_syntax.specs.PartBuilding.{on_error, string_value, signed_number, time_value, if_given, grouping_value, modifier_value, braces_value}

-- a tree that passes, or the error of a check
abbrev pub from_verdict : Verdict → Asking tree.Tree
from_verdict (passes t) = gives t
from_verdict (rejected fault) = fails (check fault)

-- what a builder gives, and then its checks
abbrev pub from_checked_verdict : Verdict → Asking tree.Tree
from_checked_verdict verdict = from_verdict verdict giving λ t. from_verdict (check_tree t)

abbrev pub selector_tree : Option Text → PlainMatchers → Asking tree.Tree
selector_tree name cs = from_verdict (check_tree (tree.vector (selector name cs None None)))

-- "Postfixes": what one makes of its base
abbrev pub build_postfix : tree.Tree → part.Postfix → Asking tree.Tree
build_postfix t (part.range r) = known (time_value r) giving λ n. from_verdict (with_range t n)
build_postfix t (part.subquery r s) =
    known (time_value r) giving λ n. known (if_given time_value s) giving λ m. from_verdict (check_tree (tree.subquery t None None n m))
build_postfix t (part.at_number s text) =
    known (signed_number s text then λ n. on_error at (on_result moment_of (at_of_number n))) giving λ m. from_verdict (at_given t m)
build_postfix t (part.at_bound start text) = from_verdict (at_given t (if start then at_start else at_end))
build_postfix t (part.offset text s r) =
    known (time_value r then λ n. Ok (if is_minus s then ahead n else back n)) giving λ x. from_verdict (offset_given t x)
build_postfix t (part.mode smoothed text) = from_verdict (mode_given t (if smoothed then Smoothed else Anchored))

-- "Unary operators": a plus leaves nothing; "Calls": the name is looked up after the arguments
abbrev mutual
  pub build : grammar.Derivation → Asking tree.Tree
  build (grammar.number text) = known (on_error number (read_number text)) giving λ n. gives (tree.number n)
  build (grammar.duration text) = known (on_error duration (duration_of text)) giving λ n. gives (tree.number (Finite (seconds_of n)))
  build (grammar.string text) = known (string_value text) giving λ s. gives (tree.string s)
  build (grammar.selector k text b) = option_map_or braces_value b (gives (plain_matchers [] [])) giving λ cs. selector_tree (Some text) cs
  build (grammar.nameless b) = braces_value b giving λ cs. selector_tree None cs
  build (grammar.paren d) = build d giving λ t. gives (tree.paren t)
  build (grammar.call k text ds) =
      build_all ds giving λ ts. option_map_or (λ f. from_verdict (check_tree (tree.call f ts))) (function_named text) (fails (unknown_function text))
  build (grammar.aggregate op text c ds) =
      build_all ds giving λ ts. known (if_given (λ (before, g). grouping_value g) c) giving λ m. from_checked_verdict (aggregate_args op m ts)
  build (grammar.postfixed d p) = build d giving λ t. build_postfix t p
  build (grammar.unary op text d) = build d giving λ t. if op == T_SUB then from_checked_verdict (minus t) else gives t
  build (grammar.binary op text m l r) =
      build l giving λ x. build r giving λ y. known (modifier_value m) giving λ z. from_verdict (check_tree (tree.binary op x y z))

  pub build_all : grammar.Arguments → Asking tree.Trees
  build_all grammar.none = gives tree.no_trees
  build_all (grammar.more d ds) = build d giving λ t. build_all ds giving λ ts. gives (tree.first_tree t ts)
