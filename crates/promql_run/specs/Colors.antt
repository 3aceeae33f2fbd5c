-- The colours of messages (docs/reference/programs.md, "Colours").
use Rattle.std.specs.Prelude.{ℕ, ◌==◌, ◌&&◌, ◌++◌, Bool, if◌then◌else◌, not, List, [], ◌∷◌}
use Rattle.std.specs.List.{list_any}
use Rattle.promql_run.specs.declared.colors.TheConstants.{PLAIN}

-- a part of a message in a colour, where colours are wanted
abbrev pub painted : Bool → List ℕ → List ℕ → List ℕ
painted colors color part = if colors then color ++ part ++ PLAIN.now else part

-- a text with its mark in a colour: that begins at the last caret
abbrev pub marked : Bool → List ℕ → List ℕ → List ℕ
marked colors color [] = []
marked colors color (b ∷ bs) = if b == 94 && not (list_any (λ c. c == 94) bs) then painted colors color (b ∷ bs) else b ∷ marked colors color bs
