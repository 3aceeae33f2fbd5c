-- What is read of an input, and what becomes of it (docs/reference/programs.md, "Reading and writing").
use Rattle.std.specs.Prelude.{ℕ, List, Option}
use Rattle.std.specs.Str.{IsUtf8}
use Rattle.std.specs.Io.KnownBytes.{Consumes, IsAtEnd}

-- these bytes were read, and none is left
pub record HasRead (old new : Option (List ℕ)) (input : List ℕ) : Type 0 where
  pub consumes : Consumes old new input
  pub ended : IsAtEnd new

-- all of the input was read, and it is no text
abbrev pub IsNotUtf8 : Option (List ℕ) → Option (List ℕ) → Type 0
IsNotUtf8 old new = (input : List ℕ) × HasRead old new input × ¬ (IsUtf8 input)

-- all of the input was read, and it is a text of which this is so
abbrev pub IsInput : (List ℕ → Type 0) → Option (List ℕ) → Option (List ℕ) → Type 0
IsInput P old new = (text : List ℕ) × HasRead old new text × IsUtf8 text × P text

-- and this text has an answer, which was written so
abbrev pub AnswersInput : (List ℕ → List ℕ → Type 0) → Option (List ℕ) → Option (List ℕ) → (List ℕ → Type 0) → Type 0
AnswersInput IsAnswer old new IsWritten = IsInput (λ text. (answer : List ℕ) × IsAnswer text answer × IsWritten answer) old new
