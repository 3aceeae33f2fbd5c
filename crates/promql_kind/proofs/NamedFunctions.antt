-- The function that a name has is of that name, and passes what all rows of the table pass.
use Rattle.std.proofs.Common.{◌≡◌, refl, sym, ◌∙◌, ap, Bool, true, false, cond, ◌&&◌, Some, List, [], ◌∷◌, map}
use Rattle.std.specs.Prelude.{find}
use Rattle.std.specs.List.{list_all}
use Rattle.std.proofs.lemmas.Slice.Eq.{bytes_eq-Decides}
use Rattle.promql_text.specs.Texts.{Text}
use Rattle.promql_kind.specs.Functions.{Signature, name_of, is_named, function_named, row_signature}
use Rattle.promql_kind.specs.declared.function_table.TheConstants.{FUNCTIONS}

find_holds : {X : Type 0} (p : X → Bool) (xs : List X) (y : X) → find p xs ≡ Some y → p y ≡ true
find_holds p [] y e = cc
find_holds p (x ∷ xs) y e = go (p x) refl e (find_holds p xs y)
  where
    go : (b : Bool) → p x ≡ b → cond b (Some x) (find p xs) ≡ Some y → (find p xs ≡ Some y → p y ≡ true) → p y ≡ true
    go true is e later = let same : x ≡ y = cc in ap p (sym same) ∙ is
    go false is e later = later e

pub named_so : (name : Text) (f : Signature) → function_named name ≡ Some f → name_of f ≡ name
named_so name f e = (bytes_eq-Decides (name_of f) name).0 (find_holds (is_named name) (map row_signature FUNCTIONS) f e)

find_passes : {X : Type 0} (p q : X → Bool) (xs : List X) (y : X) → list_all q xs ≡ true → find p xs ≡ Some y → q y ≡ true
find_passes p q [] y all e = cc
find_passes p q (x ∷ xs) y all e = go (p x) (q x) refl e all (find_passes p q xs y)
  where
    go : (b c : Bool) → q x ≡ c → cond b (Some x) (find p xs) ≡ Some y → (c && list_all q xs) ≡ true → (list_all q xs ≡ true → find p xs ≡ Some y → q y ≡ true) → q y ≡ true
    go b false is e all later = cc
    go true true is e all later = let same : x ≡ y = cc in ap q (sym same) ∙ is
    go false true is e all later = later all e

-- what all rows of the table pass
pub each_named : (q : Signature → Bool) → list_all q (map row_signature FUNCTIONS) ≡ true → (name : Text) (f : Signature) → function_named name ≡ Some f → q f ≡ true
each_named q all name f e = find_passes (is_named name) q (map row_signature FUNCTIONS) f all e
