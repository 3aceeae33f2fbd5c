use Rattle.std.proofs.Common.{◌≡◌, ◌∙◌, ◌<◌, ◌≤◌, ◌-◌, ◌^◌, true, true≢false, [], MatchOption, Option, Some, None, ap, sym, append-nil, inl, min}
use Rattle.std.specs.Prelude.{is_some, sum}
use Rattle.promql_text.specs.Texts.{Text}
use Rattle.promql_span.specs.Inspections.{IsInspected}
use Rattle.promql_span.specs.QueryLimits.{IsAtPassing, patterns_size}
use Rattle.promql_span.specs.declared.inspection.Inspection.{Inspection}
use Rattle.promql_span.specs.declared.limits.Limits.{Limits}
use Rattle.promql_span.specs.declared.span.Span.{Span}
use Rattle.promql_span.proofs.inspection.Inspection.has_found.Goals as goal

-- a sum that is more than it may be
passed : (limits : Limits) (query : Text) (i : Inspection) → is_some i.measured.passed ≡ true → IsInspected limits query [] i → limits.max_pattern_size < patterns_size query
passed limits query i is inspected =
    let before = inspected.measured.0 in
    let measured = inspected.measured.3 in
    let all = inspected.measured.1 ∙ append-nil before in
    rw (ap (λ ns. min (sum ns) (2 ^ 64 - 1)) all ∙ sym measured.size) (over i.measured.passed is measured.passed)
  where
    over : (o : Option Span) → is_some o ≡ true
        → MatchOption o (i.measured.size ≤ limits.max_pattern_size) (λ place. (limits.max_pattern_size < i.measured.size) × IsAtPassing query limits.max_pattern_size place)
        → limits.max_pattern_size < i.measured.size
    over None is found = absurd (true≢false (sym is))
    over (Some place) is found = found.0

pub returns-then-is_over-clause-some : goal.returns-then-is_over-clause-some
returns-then-is_over-clause-some c = λ is limits query inspected. inl (passed limits query c.args.self.now (sym c.is_over.ensures ∙ is) inspected)
