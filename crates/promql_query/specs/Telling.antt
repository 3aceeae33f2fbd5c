-- What is told of a rejected query beside its place (docs/reference/grammar.md, "What is expected").
use Rattle.std.specs.Prelude.{◌≡◌, MatchOption, Some, None, option_map, string_bytes}
use Rattle.promql_text.specs.Texts.{Text}
use Rattle.promql_span.specs.Unexpected.{found_name, unexpected_text}
use Rattle.promql_span.specs.declared.unexpected.Unexpected.{Unexpected}
use Rattle.promql_query.specs.Rejecting.{IsTold}
use Rattle.promql_query.specs.declared.rejected_query.Expectation.{Expectation}
use Rattle.promql_query.specs.declared.rejected_query.RejectedQuery.{RejectedQuery}

-- what was expected, by the same names, what was found, and both as a message
pub record Tells (u : Unexpected) (e : Expectation) : Type 0 where
  pub expected : e.expected.items ≡ u.names.items
  pub found : string_bytes e.found ≡ found_name (option_map (λ f. (f.0, f.1.now)) u.found)
  pub message : string_bytes e.message ≡ unexpected_text u

-- exactly where a rejection tells it
abbrev pub IsToldWith : Text → RejectedQuery → Type 0
IsToldWith query r =
    MatchOption r.expectation (IsTold query r.rejection None) (λ e. (u : Unexpected) × IsTold query r.rejection (Some u) × Tells u e)
