-- What a pass over the first tokens of a query found. Private: nothing rests on believing it.
use Rattle.std.specs.Prelude.{◌≡◌, ℕ, ◌+◌, ◌≤◌, List, ◌++◌, length, slice_get}
use Rattle.std.specs.Option.{option_or}
use Rattle.promql_text.specs.Texts.{Text}
use Rattle.promql_span.specs.Differences.{Tokens, kinds, kinds_of}
use Rattle.promql_span.specs.MeasuredTokens.{AreMeasured}
use Rattle.promql_span.specs.QueryLimits.{measures, token_measures}
use Rattle.promql_span.specs.declared.inspection.Inspection.{Inspection}
use Rattle.promql_span.specs.declared.limits.Limits.{Limits}

-- these tokens are left
pub record IsInspected (limits : Limits) (s : Text) (left : Tokens) (i : Inspection) : Type 0 where
  pub fits : i.index + length left ≤ length s
  pub measured : (before : List ℕ) × (token_measures s ≡ before ++ measures i.after_operator left) × (length before ≡ i.index) × AreMeasured s limits.max_pattern_size before i.measured
  pub otherwise : slice_get (kinds_of limits s) 0 ≡ option_or i.otherwise (slice_get (kinds limits i.index i.before left) 0)
