-- The line of a query with a matcher in its selectors (docs/guide/rewriting.md, "Enforcing"; docs/reference/programs.md, "One query,
-- enforced").
use Rattle.std.specs.Prelude.{◌≡◌, ◌-◌, Some, None, Result, Ok, Err}
use Rattle.promql_text.specs.Texts.{Text}
use Rattle.promql_ast.specs.Tree.{Tree}
use Rattle.promql_rewrite.specs.MatcherTexts.{IsEnforcedBy, IsMatcherText, MeetsBareInfo, selector_around}
use Rattle.promql_span.specs.QueryLimits.{IsWithin}
use Rattle.promql_span.specs.Targets.{matcher_difference}
use Rattle.promql_span.specs.declared.span.Span.{Span}
use Rattle.promql_query.specs.LinesWithin.{HasLine}
use Rattle.promql_query.specs.QueryErrors.{IsOver, OfTree, Then}
use Rattle.promql_span.specs.declared.limits.Limits.{Limits}
use Rattle.promql_query.specs.declared.query_error.Measured.TheVariants as measured
use Rattle.promql_query.specs.declared.query_error.QueryError.{QueryError}
use Rattle.promql_query.specs.declared.query_error.QueryError.TheVariants as error

-- the text that a matcher is read in has the limits of a query, and their target reads no part of it otherwise
abbrev pub IsMatcherWithin : Limits → Text → Type 0
IsMatcherWithin limits matcher =
    IsWithin (selector_around matcher) limits × (matcher_difference limits.target (selector_around matcher) ≡ None)

-- the tree with the matcher in every selector, or why that is not made; seven bytes come before the matcher in the text that it is read in
abbrev pub Enforces : Limits → Text → Tree → Result Tree QueryError → Type 0
Enforces limits matcher t (Ok u) = IsMatcherWithin limits matcher × IsEnforcedBy matcher t u
Enforces limits matcher t (Err (error.Large measured.MatcherText fault)) = IsOver limits (selector_around matcher) fault
Enforces limits matcher t (Err (error.MatcherOtherwise at)) =
    IsWithin (selector_around matcher) limits
    × ((span : Span) × (matcher_difference limits.target (selector_around matcher) ≡ Some span) × (at ≡ span.start - 7))
Enforces limits matcher t (Err (error.Matcher e)) = IsMatcherWithin limits matcher × IsMatcherText matcher (Err e)
Enforces limits matcher t (Err error.Info) = IsMatcherWithin limits matcher × MeetsBareInfo matcher t
Enforces limits matcher t (Err e) = e ≡ error.Memory

-- the line of a query's tree with the matcher in every selector; the matcher counts only where the query has a tree
abbrev pub IsEnforcedLine : Limits → Text → Text → Result Text QueryError → Type 0
IsEnforcedLine limits query matcher = OfTree limits query (λ t. Then (Enforces limits matcher t) (HasLine measured.EnforcedLine limits))
