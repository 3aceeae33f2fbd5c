-- Why a query is not enforced is never that a text is not valid UTF-8: the query and the matcher are texts.
use Rattle.std.proofs.Common.{Err, inl, inr}
use Rattle.promql_text.specs.Texts.{Text}
use Rattle.promql_span.specs.declared.limits.Limits.{Limits}
use Rattle.promql_query.specs.EnforcedLines.{IsEnforcedLine}
use Rattle.promql_query.specs.declared.query_error.QueryError.TheVariants as error

pub never_not_utf8 : (limits : Limits) (query matcher : Text) → ¬ IsEnforcedLine limits query matcher (Err error.NotUtf8)
never_not_utf8 limits query matcher (inl (inl (r, is, rejected, untold))) = cc
never_not_utf8 limits query matcher (inl (inr is)) = cc
never_not_utf8 limits query matcher (inr (t, read, inl is)) = cc
never_not_utf8 limits query matcher (inr (t, read, inr (u, asked, is))) = cc
