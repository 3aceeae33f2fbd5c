-- What was made of a query, by the two clauses of what makes it.
use Rattle.std.proofs.Common.{Global, String, string_bytes}
use Rattle.std.specs.Prelude.{IfErr, IfOk, Result, Ok, Err}
use Rattle.promql_text.specs.Texts.{Text}
use Rattle.promql_grammar.specs.Results.{on_result}
use Rattle.promql_query.specs.declared.query_error.QueryError.{QueryError}

pub made : (Is : Result Text QueryError → Type 0) (r : Result (String Global) QueryError) → IfOk r (λ s. Is (Ok (string_bytes s))) → IfErr r (λ e. Is (Err e))
    → Is (on_result (λ s. string_bytes s) r)
made Is (Ok s) is fails = is
made Is (Err e) is fails = fails
