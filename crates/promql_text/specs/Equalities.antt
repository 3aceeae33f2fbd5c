-- What `==` and hashes say of values (docs/reference/texts.md, "Equality").
use Rattle.std.specs.Prelude.{◌≡◌, ◌↔◌, Bool, IsTrue}

-- the test holds of two values exactly if they have the same view
abbrev pub IsSameBy : {X Y : Type 0} → (X → Y) → (X → X → Bool) → Type 0
IsSameBy {X = X} view test = (a b : X) → IsTrue (test a b) ↔ (view a ≡ view b)

-- a clone has the view of its value
abbrev pub ClonesKeep : {X Y : Type 0} → (X → Y) → (X → X → Type 0) → Type 0
ClonesKeep {X = X} view is_clone = (a b : X) → is_clone a b → view b ≡ view a

-- values with the same view are hashed alike
abbrev pub HashesAlike : {X Y Z : Type 0} → (X → Y) → (X → Z) → Type 0
HashesAlike {X = X} view input = (a b : X) → view a ≡ view b → input a ≡ input b
