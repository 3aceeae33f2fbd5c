-- One step after another.
use Rattle.std.proofs.Common.{inr}
use Rattle.std.specs.Prelude.{Result, Ok, Err}
use Rattle.promql_query.specs.QueryErrors.{Then}
use Rattle.promql_query.specs.declared.query_error.QueryError.{QueryError}

pub then_made : {A B : Type 0} (First : Result A QueryError → Type 0) (Next : A → Result B QueryError → Type 0) (x : A) (made : Result B QueryError) → First (Ok x) → Next x made → Then First Next made
then_made First Next x (Ok y) first next = (x, first, next)
then_made First Next x (Err e) first next = inr (x, first, next)
