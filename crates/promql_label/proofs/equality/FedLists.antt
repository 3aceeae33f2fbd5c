-- A list or an option is fed as what it is seen as, where each item is.
use Rattle.std.proofs.Common.{◌≡◌, List, [], ◌∷◌, ◌++◌, Option, Some, None, map, option_map, refl, sym, ap, pos}
use lib.ListN.{length-map}
use Rattle.std.specs.Hash.{HashWrites, isize, option, slice, usize}
use Rattle.std.specs.List.{flat_map}

module _ {X Y : Type 0} (view : X → Y) (F : Y → HashWrites) (G : X → HashWrites) (each : (x : X) → G x ≡ F (view x)) where
  items_fed : (xs : List X) → flat_map G xs ≡ flat_map F (map view xs)
  items_fed [] = refl
  items_fed (x ∷ xs) = λ i. each x i ++ items_fed xs i

  pub slice_fed : (xs : List X) → slice G xs ≡ slice F (map view xs)
  slice_fed xs = λ i. usize (sym (length-map xs view) i) ++ items_fed xs i

  pub option_fed : (o : Option X) → option G o ≡ option F (option_map view o)
  option_fed None = refl
  option_fed (Some x) = ap (λ w. isize (pos 1) ++ w) (each x)
