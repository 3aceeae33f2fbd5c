-- Why a query has no layout is never that a text is not valid UTF-8: the query is a text.
use Rattle.std.proofs.Common.{Bool, Err, false, inl, inr, true}
use Rattle.promql_text.specs.Texts.{Text}
use Rattle.promql_query.specs.declared.query_error.QueryError.TheVariants as error
use Rattle.promql_programs.specs.Layouts.{IsFormatAnswer, IsShown}
use Rattle.promql_programs.specs.declared.format_settings.FormatSettings.{FormatSettings}

never_shown : (is_check : Bool) (query layout : Text) → ¬ IsShown is_check query layout (Err error.NotUtf8)
never_shown false query layout is = cc
never_shown true query layout (other, is) = cc

pub never_not_utf8 : (s : FormatSettings) (query : Text) → ¬ IsFormatAnswer s query (Err error.NotUtf8)
never_not_utf8 s query (inl (inl (inl (r, is, rejected, untold)))) = cc
never_not_utf8 s query (inl (inl (inr is))) = cc
never_not_utf8 s query (inl (inr (t, read, inl (inl is)))) = cc
never_not_utf8 s query (inl (inr (t, read, inl (inr (inl (long, too, is)))))) = cc
never_not_utf8 s query (inl (inr (t, read, inl (inr (inr (wide, too, is)))))) = cc
never_not_utf8 s query (inl (inr (t, read, inr is))) = cc
never_not_utf8 s query (inr (layout, formatted, shown)) = never_shown s.is_check query layout shown
