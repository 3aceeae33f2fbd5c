-- What is so of a text that was read is so of the input.
use Rattle.std.proofs.Common.{◌≡◌, ℕ, List, subst, sym}
use Rattle.std.specs.Prelude.{Option}
use Rattle.std.specs.Str.{IsUtf8}
use Rattle.promql_run.specs.Inputs.{HasRead, IsInput}

pub input_of : (P : List ℕ → Type 0) (left left_after : Option (List ℕ)) (input text : List ℕ) → HasRead left left_after input → IsUtf8 text → text ≡ input → P text → IsInput P left left_after
input_of P left left_after input text read utf8 same is = (text, subst (HasRead left left_after) (sym same) read, utf8, is)
