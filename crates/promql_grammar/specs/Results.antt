-- Words on results.
use Rattle.std.specs.Prelude.{Result, Ok, Err}

-- the second, if the first is no error
infixl 10 ◌then◌
abbrev pub ◌then◌ : {A B E : Type 0} → Result A E → (A → Result B E) → Result B E
(Ok x) then f = f x
(Err e) then f = Err e

abbrev pub on_result : {A B E : Type 0} → (A → B) → Result A E → Result B E
on_result f r = r then λ x. Ok (f x)
