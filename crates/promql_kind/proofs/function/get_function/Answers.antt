use Rattle.std.proofs.Common.{◌∙◌, Result, Ok, Err, IfErr}
use Rattle.promql_kind.proofs.function.get_function.Goals as goal

whatever : {X E : Type 0} (r : Result X E) (P : Type 0) → P → IfErr r (λ _. P)
whatever (Ok x) P p = tt
whatever (Err e) P p = p

pub returns-in_err-copy_types-in-Some-clause-unknown : goal.returns-in_err-copy_types-in-Some-clause-unknown
returns-in_err-copy_types-in-Some-clause-unknown c =
    whatever c.from_residual.result _ (λ none. let clash = rw c.in-Some.is at c.row_named.ensures ∙ none in cc)
