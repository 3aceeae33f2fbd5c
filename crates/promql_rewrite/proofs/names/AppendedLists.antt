-- Lists to which parts append what they name.
use Rattle.std.proofs.Common.{◌≡◌, List, ◌++◌, append_assoc, filter, map, ap, ◌∙◌, Bool}
use Rattle.std.proofs.lemmas.List.{map-append}
use Rattle.std.proofs.lemmas.List.Elements.{filter-append}

module _ {Z : Type 0} (old : List Z) where
  pub appended_as : (new a own : List Z) → a ≡ own → new ≡ old ++ a → new ≡ old ++ own
  appended_as new a own same appended = appended ∙ ap (λ s. old ++ s) same

  pub appended_both : (mid new own more a b : List Z) → a ≡ own → b ≡ more → mid ≡ old ++ a → new ≡ mid ++ b → new ≡ old ++ (own ++ more)
  appended_both mid new own more a b same rest first second =
      second ∙ (λ i. first i ++ rest i) ∙ append_assoc old a more ∙ ap (λ s. old ++ (s ++ more)) same

-- what passes a test in two lists
pub passed_both : {X Y : Type 0} (f : X → Y) (p : X → Bool) (xs ys : List X) → map f (filter p (xs ++ ys)) ≡ map f (filter p xs) ++ map f (filter p ys)
passed_both f p xs ys = ap (map f) (filter-append p xs ys) ∙ map-append f (filter p xs) (filter p ys)
