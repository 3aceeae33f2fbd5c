-- Why parsing fails, from a step to the whole.
use Rattle.std.proofs.Common.{◌≡◌, ◌∙◌, ap}
use Rattle.std.specs.Prelude.{Result, Ok}
use Rattle.promql_grammar.specs.declared.read_error.ReadError.TheVariants.{Memory, Syntax, TooDeep}
use Rattle.promql_grammar.specs.Parsing.{Stop}
use Rattle.promql_grammar.specs.Results.{◌then◌}
use Rattle.promql_grammar.specs.Failures.{Fails, Failure}

pub fails_bind : {A B : Type 0} (e : Failure) (r : Result A Stop) (f : A → Result B Stop) → Fails e r → Fails e (r then f)
fails_bind (Memory, rest) r f fails = tt
fails_bind (Syntax, rest) r f fails = ap (λ o. o then f) fails
fails_bind (TooDeep, rest) r f fails = ap (λ o. o then f) fails

pub fails_same : {A : Type 0} (e : Failure) (r s : Result A Stop) → s ≡ r → Fails e r → Fails e s
fails_same (Memory, rest) r s same fails = tt
fails_same (Syntax, rest) r s same fails = same ∙ fails
fails_same (TooDeep, rest) r s same fails = same ∙ fails

-- a step fails, and the whole begins with it
pub fails_first : {A B : Type 0} (e : Failure) (r : Result A Stop) (f : A → Result B Stop) (s : Result B Stop) → s ≡ (r then f) → Fails e r → Fails e s
fails_first e r f s same fails = fails_same e (r then f) s same (fails_bind e r f fails)

-- a step after one that was read
pub then_given : {A B : Type 0} (r : Result A Stop) (f : A → Result B Stop) (x : A) (s : Result B Stop) → s ≡ (r then f) → r ≡ Ok x → s ≡ f x
then_given r f x s same is = same ∙ ap (λ o. o then f) is
