-- Postfixes as plain data, and what each makes of its base. Private: nothing rests on believing it.
use Rattle.std.specs.Prelude.{◌≡◌, ℕ, ◌+◌, ◌<◌, ◌^◌, Bool, true, false, if◌then◌else◌, Option, Some, None, option_map, List, length, Result, Ok, Err}
use Rattle.std.specs.declared.alloc.Global.{Global}
use Rattle.std.specs.declared.boxed.Box.{Box}
use Rattle.std.specs.Duration.{as_nanos}
use Rattle.promql_grammar.specs.Grammar.{added_height}
use Rattle.promql_grammar.specs.declared.token_kinds.TokenKind.{TokenKind}
use Rattle.promql_grammar.specs.declared.token_kinds.TokenKind.TheVariants as kind
use Rattle.promql_grammar.specs.GrammarParts as part
use Rattle.promql_grammar.specs.GrammarParts.{yield_signed}
use Rattle.promql_grammar.specs.Parsing.{Read, parse_time, parse_range_end}
use Rattle.promql_grammar.specs.Results.{on_result, ◌then◌}
use Rattle.promql_grammar.specs.Symbols.{Symbol}
use Rattle.promql_ast.specs.Builds.{with_range, at_given, offset_given, mode_given}
use Rattle.promql_ast.specs.Checked.{check_tree}
use Rattle.promql_ast.specs.Shifts.{Moment, at_start, at_end, moment_of, Shift, shift_of}
use Rattle.promql_ast.specs.Tree as tree
use Rattle.promql_ast.specs.declared.range_mode.RangeMode.{RangeMode}
use Rattle.promql_ast.specs.declared.range_mode.RangeMode.TheVariants.{Smoothed, Anchored}
use Rattle.promql_syntax.specs.declared.grammar.postfix.ParsedPostfix.{ParsedPostfix}
use Rattle.promql_syntax.specs.declared.grammar.postfix.Postfix as code
use Rattle.promql_syntax.specs.declared.grammar.postfix.Postfix.TheVariants as postfixes
use Rattle.promql_syntax.specs.Asking.{Asking}
use Rattle.promql_syntax.specs.Building.{from_verdict}
use Rattle.promql_ast.specs.declared.at_modifier.AtFault.{AtFault}
use Rattle.promql_ast.specs.declared.at_modifier.AtModifier.{AtModifier}
use Rattle.promql_syntax.specs.declared.grammar.build_error.BuildError as build_errors
use Rattle.promql_syntax.specs.BuildErrors.{BuildError, at, build_error_of, view_result}
use Rattle.promql_syntax.specs.PartBuilding.{on_error, time_value, moment_value, shift_value}
use Rattle.promql_syntax.specs.Placing.{AreTokens}
use Rattle.promql_syntax.specs.PartWords.{step_value}

-- the kinds with which a postfix begins
abbrev pub starts_postfix : TokenKind → Bool
starts_postfix kind.LeftBracket = true
starts_postfix kind.At = true
starts_postfix kind.Offset = true
starts_postfix kind.Smoothed = true
starts_postfix kind.Anchored = true
starts_postfix k = false

-- the moment that a number is, or why it is none
abbrev pub at_fault : Result AtModifier AtFault → Result Moment BuildError
at_fault m = on_error at (on_result moment_of m)

-- the moment of `start` or `end`, and the mode of `smoothed` or `anchored`
abbrev pub bound_moment : Bool → Moment
bound_moment start = if start then at_start else at_end

abbrev pub range_mode : Bool → RangeMode
range_mode smoothed = if smoothed then Smoothed else Anchored

-- what a postfix adds to its base
pub data Change : Type 0 where
  to_range : ℕ → Change
  to_subquery : ℕ → Option ℕ → Change
  to_moment : Moment → Change
  by_shift : Shift → Change
  in_mode : RangeMode → Change

abbrev pub change_of : code.Postfix → Change
change_of (postfixes.Range d) = to_range (as_nanos d)
change_of (postfixes.Subquery r s) = to_subquery (as_nanos r) (option_map as_nanos s)
change_of (postfixes.At a) = to_moment (moment_of a)
change_of (postfixes.Offset x) = by_shift (shift_of x)
change_of (postfixes.Mode m) = in_mode m

abbrev pub change_value : part.Postfix → Result Change BuildError
change_value (part.range r) = time_value r then λ n. Ok (to_range n)
change_value (part.subquery r s) = time_value r then λ n. step_value s then λ m. Ok (to_subquery n m)
change_value (part.at_number s text) = moment_value s text then λ m. Ok (to_moment m)
change_value (part.at_bound start text) = Ok (to_moment (bound_moment start))
change_value (part.offset text s r) = shift_value s r then λ x. Ok (by_shift x)
change_value (part.mode smoothed text) = Ok (in_mode (range_mode smoothed))

abbrev pub apply_change : tree.Tree → Change → Asking tree.Tree
apply_change t (to_range n) = from_verdict (with_range t n)
apply_change t (to_subquery n m) = from_verdict (check_tree (tree.subquery t None None n m))
apply_change t (to_moment m) = from_verdict (at_given t m)
apply_change t (by_shift x) = from_verdict (offset_given t x)
apply_change t (in_mode m) = from_verdict (mode_given t m)

-- the change of a range and of a step, if there is one
abbrev pub optional : {A : Type 0} → Option (Result A BuildError) → Result (Option A) BuildError
optional None = Ok None
optional (Some r) = r then λ x. Ok (Some x)

abbrev pub subquery_change : Result ℕ BuildError → Option (Result ℕ BuildError) → Result Change BuildError
subquery_change r s = r then λ n. optional s then λ m. Ok (to_subquery n m)

-- a range, or the times of a subquery, after the opening bracket
abbrev pub parse_range : List Symbol → Read (Option part.Postfix)
parse_range ts = parse_time ts then λ t. parse_range_end t.0 t.1

-- a number after `@` that is no moment has its tokens there, where k of n tokens come after it
abbrev pub IsMomentAt : ℕ → ℕ → part.Postfix → Result code.Postfix (Box build_errors.BuildError Global) → Type 0
IsMomentAt n k (part.at_number s text) (Err e) =
    (f : AtFault) → build_error_of e.value ≡ at f → AreTokens n (Some (length (yield_signed s) + (1 + k), k)) e.value.place
IsMomentAt n k p value = Unit {0}

-- the value is what the postfix builds, with its height
pub record IsPostfixOf (n k : ℕ) (held : ParsedPostfix) (p : part.Postfix) : Type 0 where
  pub value : view_result change_of held.value ≡ change_value p
  pub adds : held.added_height ≡ added_height p
  pub moment : n < 2 ^ 64 → IsMomentAt n k p held.value

-- a postfix was parsed, and these tokens are left
pub record ParsesPostfix (n : ℕ) (held : ParsedPostfix) (rest : List Symbol) (read : Read (Option part.Postfix)) : Type 0 where
  pub part : part.Postfix
  pub is : read ≡ Ok (Some part, rest)
  pub built : IsPostfixOf n (length rest) held part

-- the same, or there is none
abbrev pub ParsesOptionalPostfix : ℕ → Option ParsedPostfix → List Symbol → Read (Option part.Postfix) → Type 0
ParsesOptionalPostfix n (Some held) rest read = ParsesPostfix n held rest read
ParsesOptionalPostfix n None rest read = read ≡ Ok (None, rest)
