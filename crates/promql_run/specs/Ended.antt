-- When a write has failed and what it has written (docs/reference/programs.md, "Reading and writing").
use Rattle.std.specs.Prelude.{◌≡◌, ◌≢◌, ℕ, ◌==◌, ◌&&◌, Bool, true, false, not, List, length, take, Option, Result}
use Rattle.std.specs.Io.KnownBytes.{Appends}
use Rattle.std.specs.List.{list_any}
use Rattle.std.specs.Option.{option_map_or}
use Rattle.std.specs.Result.{result_ok}
use Rattle.std.specs.IoError.{error_kind}
use Rattle.std.specs.declared.io.Error.{Error}
use Rattle.std.specs.declared.io.ErrorKind.TheVariants.{BrokenPipe}

-- it fails, or takes no byte of a text that is not empty
abbrev pub takes_nothing : {E : Type 0} → Result ℕ E → List ℕ → Bool
takes_nothing r text = option_map_or (λ taken. taken == 0 && not (length text == 0)) (result_ok r) true

abbrev pub takes_bytes : {E : Type 0} → Result ℕ E → Bool
takes_bytes r = option_map_or (λ taken. not (taken == 0)) (result_ok r) false

-- a beginning of the text was written, and nothing else
abbrev pub AppendsBeginning : Option (List ℕ) → Option (List ℕ) → List ℕ → Type 0
AppendsBeginning old new text = (n : ℕ) × Appends old new (take n text)

-- whether nobody reads what is written: it is noted where the error says so, and at no other
abbrev pub IsClosedBy : Error → Bool → Bool → Type 0
IsClosedBy e old new = (error_kind e ≡ BrokenPipe → new ≡ true) × (error_kind e ≢ BrokenPipe → new ≡ old)

-- the end of a line is among the bytes
abbrev pub has_feed : List ℕ → Bool
has_feed = list_any (λ b. b == 10)
