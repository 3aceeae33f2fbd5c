-- What programs write of a query.
use Rattle.std.proofs.Common.{◌≡◌, ◌++◌, ◌∷◌, [], Result, Ok, Err, ap, sym, subst, ◌∙◌}
use Rattle.promql_text.specs.Texts.{Text}
use Rattle.promql_label.specs.PlainMatchers.{PlainMatcher}
use Rattle.promql_ast.specs.Text.{text}
use Rattle.promql_rewrite.specs.Enforced.{IsEnforced}
use Rattle.promql_rewrite.specs.Faithful.{Means}
use Rattle.promql_rewrite.specs.MatcherTexts.{IsMatcherText}
use Rattle.promql_json.specs.declared.error.JsonError.{JsonError}
use Rattle.promql_span.specs.declared.limits.Limits.{Limits}
use Rattle.promql_query.specs.EnforcedLines.{IsEnforcedLine}

pub line_is_enforced : (limits : Limits) (query matcher line : Text) → IsEnforcedLine limits query matcher (Ok line) → (c : PlainMatcher) × IsMatcherText matcher (Ok c) × IsEnforced query c line
line_is_enforced limits query matcher line h =
    let shown = h.2 in
    let by = shown.1.1 in (
      by.0,
      by.1,
      (h.0, h.1.1, by.2, (subst (λ u. line ≡ text u) by.3 shown.2.1.0, subst (Means line) by.3 shown.2.1.1)),
    )

abbrev body_of : Result Text JsonError → Text
body_of (Ok body) = body
body_of (Err e) = []

-- a text that is printed, with a line feed, where this is the text of the tree
pub body_is_text : (whole printed : Text) (h : (body : Text) × (◌≡◌ {A = Result Text JsonError} (Ok whole) (Ok body)) × (printed ≡ body ++ 10 ∷ [])) → printed ≡ whole ++ 10 ∷ []
body_is_text whole printed h = h.2 ∙ ap (λ r. body_of r ++ 10 ∷ []) (sym h.1)
