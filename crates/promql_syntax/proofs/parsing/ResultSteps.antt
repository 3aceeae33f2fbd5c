-- How steps that may fail follow one another.
use Rattle.std.proofs.Common.{◌≡◌, ◌∙◌, ap, refl}
use Rattle.std.specs.Prelude.{Result, Ok, Err}
use Rattle.promql_grammar.specs.declared.read_error.ReadError.TheVariants.{Memory, Syntax, TooDeep}
use Rattle.promql_grammar.specs.Parsing.{Stop}
use Rattle.promql_grammar.specs.Results.{◌then◌}
use Rattle.promql_grammar.specs.Failures.{Fails, Failure}

-- an error of a step is one of the whole
pub fails_then : {A B : Type 0} (e : Failure) (r : Result A Stop) (f : A → Result B Stop) → Fails e r → Fails e (r then f)
fails_then (Memory, rest) r f fails = tt
fails_then (Syntax, rest) r f fails = ap (λ o. o then f) fails
fails_then (TooDeep, rest) r f fails = ap (λ o. o then f) fails

pub fails_same : {A : Type 0} (e : Failure) (r s : Result A Stop) → s ≡ r → Fails e r → Fails e s
fails_same (Memory, rest) r s same fails = tt
fails_same (Syntax, rest) r s same fails = same ∙ fails
fails_same (TooDeep, rest) r s same fails = same ∙ fails

-- two steps after one another
pub then_then : {A B C E : Type 0} (r : Result A E) (f : A → Result B E) (g : B → Result C E) → ((r then f) then g) ≡ (r then λ x. f x then g)
then_then (Ok x) f g = refl
then_then (Err e) f g = refl

pub then_ok : {A E : Type 0} (r : Result A E) → r ≡ (r then λ x. Ok x)
then_ok (Ok x) = refl
then_ok (Err e) = refl
