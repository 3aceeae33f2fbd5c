-- Answers with a warning of what the target rejects, and those without one.
use Rattle.std.proofs.Common.{◌≡◌, ◌++◌, [], Some, None, refl, codes}
use Rattle.promql_text.specs.Texts.{Text}
use Rattle.promql_query.specs.declared.rejection.Rejection.{Rejection}
use Rattle.promql_run.specs.declared.format.Format.{Format}
use Rattle.promql_run.specs.declared.format.Format.TheVariants as formats
use Rattle.promql_span.specs.Locations.{location_of}
use Rattle.promql_span.specs.declared.limits.Limits.{Limits}
use Rattle.promql_span.specs.declared.target.Target.{Target}
use Rattle.promql_target.specs.declared.refusal.Refusal.{Refusal}
use Rattle.promql_query.specs.Batch.{IsOkText, error_value, refused_query, value_text}
use Rattle.promql_query.specs.declared.mode.Mode.TheVariants.{Plain}
use Rattle.promql_query.specs.declared.mode.Wanted.TheVariants.{Print}

-- without a matcher there is no warning
pub unwarned : (limits : Limits) (format : Format) (shown answer : Text) → answer ≡ codes "{\"ok\":" ++ (value_text (Plain format) shown ++ codes "}")
    → IsOkText limits None (Print (Plain format)) shown answer
unwarned limits (formats.Pretty layout) shown answer is = ([], refl, is)
unwarned limits formats.Line shown answer is = ([], refl, is)
unwarned limits formats.Json shown answer is = ([], refl, is)

-- the error of a rejection with this part
pub refused_value : (target : Target) (query message : Text) (f : Refusal) (r : Rejection) → r.span ≡ f.span → r.location ≡ location_of query f.span.start
    → error_value 24 message (Some (record { rejection = r; expectation = None })) ≡ error_value 24 message (Some (refused_query target query f))
refused_value target query message f r span location = rw (span, location)
