-- Tokens that are taken in two steps are counted.
use Rattle.std.proofs.Common.{◌∙◌, ◌<◌, ◌^◌, Ok, Err, subst, sym}
use Rattle.std.specs.Prelude.{Result, OnOk}
use Rattle.promql_grammar.specs.SymbolsLeft.{CountsTaken}
use Rattle.promql_grammar.specs.declared.tokens.Tokens.{Tokens}

pub counted : (old mid new : Tokens) → CountsTaken old mid → CountsTaken mid new → CountsTaken old new
counted old mid new first second fits = second (subst (λ n. n < 2 ^ 64) (sym (first fits)) fits) ∙ first fits

pub counted_if_ok : {A E : Type 0} (r : Result A E) (old mid new : Tokens) → CountsTaken old mid → OnOk r (CountsTaken mid new) → OnOk r (CountsTaken old new)
counted_if_ok (Ok x) old mid new first second = counted old mid new first second
counted_if_ok (Err e) old mid new first second = tt
