-- Building that asks `regex` about patterns (docs/reference/grammar.md, "Answers about patterns").
use Rattle.std.specs.Prelude.{◌≡◌, List, [], ◌∷◌, Result, Ok, Err}
use Rattle.std.specs.List.{AllByRecursion}
use Rattle.promql_text.specs.Texts.{Text}
use Rattle.promql_label.specs.Answers.{Answer, Allows}
use Rattle.promql_syntax.specs.BuildErrors.{BuildError}

-- a value, an error, or a question about a pattern and what each answer leads to
pub data Asking (A : Type 0) : Type 0 where
  gives : A → Asking A
  fails : BuildError → Asking A
  asks : Text → (Answer → Asking A) → Asking A

-- first the one, then what its value leads to
infixl 10 ◌giving◌
abbrev pub ◌giving◌ : {A B : Type 0} → Asking A → (A → Asking B) → Asking B
(gives x) giving f = f x
(fails fault) giving f = fails fault
(asks v next) giving f = asks v (λ a. next a giving f)

-- what asks nothing
abbrev pub known : {A : Type 0} → Result A BuildError → Asking A
known (Ok x) = gives x
known (Err fault) = fails fault

-- a pattern, and the answer about it
pub record Asked : Type 0 where
  pub about : Text
  pub answer : Answer

-- `regex` allows each of the answers
abbrev pub AreAllowed : List Asked → Type 0
AreAllowed = AllByRecursion (λ a. Allows a.about a.answer)

-- the questions are these, in this order, and with these answers the end is the result
abbrev pub Ends : {A : Type 0} → Asking A → List Asked → Result A BuildError → Type 0
Ends (gives x) [] result = result ≡ Ok x
Ends (fails fault) [] result = result ≡ Err fault
Ends (asks v next) (a ∷ more) result = (a.about ≡ v) × Ends (next a.answer) more result
Ends _ _ result = ⊥

-- the end, where each pattern has one answer
abbrev pub under : {A : Type 0} → (Text → Answer) → Asking A → Result A BuildError
under answers (gives x) = Ok x
under answers (fails fault) = Err fault
under answers (asks v next) = under answers (next (answers v))

-- each answer of the list is the pattern's one answer
abbrev pub AreAnswersOf : (Text → Answer) → List Asked → Type 0
AreAnswersOf answers = AllByRecursion (λ a. a.answer ≡ answers a.about)

-- building ends in the result, with answers that are allowed
pub record EndsIn {A : Type 0} (building : Asking A) (result : Result A BuildError) : Type 0 where
  pub answers : List Asked
  pub allowed : AllByRecursion (λ a. Allows a.about a.answer) answers
  pub ends : Ends building answers result
