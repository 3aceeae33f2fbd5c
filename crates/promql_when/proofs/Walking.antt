-- A walk for windows, part by part.
use Rattle.std.proofs.Common.{◌≡◌, sym, ◌∙◌, ap, subst, ℕ, ◌+◌, ◌<◌, ◌≤◌, Option, None, List, [], ◌∷◌, ◌++◌, append_assoc, append-nil, drop, get_or, length}
use Rattle.std.specs.Prelude.{Result, Ok, Err}
use Rattle.std.proofs.lemmas.List.{drop_all, drop_more}
use Rattle.promql_ast.specs.Tree.{Tree}
use Rattle.promql_when.specs.Found.{IsErrorAt}
use Rattle.promql_when.specs.Reads.{earlier}
use Rattle.promql_when.specs.Walked.{Walks}
use Rattle.promql_when.specs.declared.overflow.WindowsError.{WindowsError}
use Rattle.promql_when.specs.declared.overflow.WindowsError.TheVariants.{Memory, TimeOverflow}

-- an error of the first of two parts is one of both
first_error : (e : WindowsError) (f g : Option Tree) → IsErrorAt f e → IsErrorAt (earlier f g) e
first_error (TimeOverflow node) f g fails = ap (λ f. earlier f g) fails
first_error Memory f g fails = tt

-- and one of the second, where the first has none
other_error : (e : WindowsError) (f g : Option Tree) → f ≡ None → IsErrorAt g e → IsErrorAt (earlier f g) e
other_error (TimeOverflow node) f g fits fails = ap (λ f. earlier f g) fits ∙ fails
other_error Memory f g fits fails = tt

error_as : (e : WindowsError) (f g : Option Tree) → f ≡ g → IsErrorAt f e → IsErrorAt g e
error_as (TimeOverflow node) f g same fails = sym same ∙ fails
error_as Memory f g same fails = tt

module _ {A : Type 0} where
  -- one part after another
  pub both_walked : (r : Result (Unit {0}) WindowsError) (a b c vs ws : List A) (f g : Option Tree) → (b ≡ a ++ vs) × (f ≡ None) → Walks r b c ws g
      → Walks r a c (vs ++ ws) (earlier f g)
  both_walked (Ok x) a b c vs ws f g (same, fit) (more, fits) = (more ∙ ap (λ b. b ++ ws) same ∙ append_assoc a vs ws, ap (λ f. earlier f g) fit ∙ fits)
  both_walked (Err e) a b c vs ws f g (same, fit) fails = other_error e f g fit fails

  -- the first part failed
  pub first_failed : (e : WindowsError) (a b c vs ws : List A) (f g : Option Tree) → IsErrorAt f e → Walks (Err e) a c (vs ++ ws) (earlier f g)
  first_failed e a b c vs ws f g fails = first_error e f g fails

  -- of a list, item by item: F gives the windows of those that are left, and G the first that does not fit
  module _ {X : Type 0} (F : List X → List A) (G : List X → Option Tree) (xs : List X) (i : ℕ) (before all : List A) (overflow : Option Tree) where
    -- what is left begins with an item
    left : (y : X) → i < length xs → y ≡ get_or xs i y → drop i xs ≡ y ∷ drop (i + 1) xs
    left y within same = drop_more xs i y within ∙ ap (λ z. z ∷ drop (i + 1) xs) (sym same)

    pub one_more : (y : X) (ws after : List A) → i < length xs → y ≡ get_or xs i y → F (y ∷ drop (i + 1) xs) ≡ ws ++ F (drop (i + 1) xs)
        → after ≡ before ++ ws → before ++ F (drop i xs) ≡ all → after ++ F (drop (i + 1) xs) ≡ all
    one_more y ws after within same first more rest =
        ap (λ a. a ++ F (drop (i + 1) xs)) more ∙ append_assoc before ws (F (drop (i + 1) xs)) ∙ ap (λ b. before ++ b) (sym first ∙ ap F (sym (left y within same))) ∙ rest

    pub one_more_fits : (y : X) (g : Option Tree) → i < length xs → y ≡ get_or xs i y → G (y ∷ drop (i + 1) xs) ≡ earlier g (G (drop (i + 1) xs))
        → g ≡ None → G (drop i xs) ≡ overflow → G (drop (i + 1) xs) ≡ overflow
    one_more_fits y g within same first fits rest = sym (ap (λ g. earlier g (G (drop (i + 1) xs))) fits) ∙ sym first ∙ ap G (sym (left y within same)) ∙ rest

    -- an item failed
    pub one_failed : (e : WindowsError) (y : X) (g : Option Tree) → i < length xs → y ≡ get_or xs i y → G (y ∷ drop (i + 1) xs) ≡ earlier g (G (drop (i + 1) xs))
        → IsErrorAt g e → G (drop i xs) ≡ overflow → IsErrorAt overflow e
    one_failed e y g within same begins fails rest =
        error_as e (earlier g (G (drop (i + 1) xs))) overflow (sym begins ∙ ap G (sym (left y within same)) ∙ rest) (first_error e g (G (drop (i + 1) xs)) fails)

    -- all are done
    pub all_walked : F [] ≡ [] → G [] ≡ None → length xs ≤ i → before ++ F (drop i xs) ≡ all → G (drop i xs) ≡ overflow → (before ≡ all) × (overflow ≡ None)
    all_walked nothing holds end rest fits =
        let none = drop_all i xs end in
        (sym (append-nil before) ∙ ap (λ b. before ++ b) (sym (ap F none ∙ nothing)) ∙ rest, sym fits ∙ ap G none ∙ holds)

  -- the same windows, by an equation of what has them
  pub walked_as : {B : Type 0} (F : B → List A) (G : B → Option Tree) (x y : B) (r : Result (Unit {0}) WindowsError) (a b : List A)
      → x ≡ y → Walks r a b (F x) (G x) → Walks r a b (F y) (G y)
  walked_as F G x y r a b same walked = subst (λ z. Walks r a b (F z) (G z)) same walked

  -- after a window that fits
  pub inner_walked : {B : Type 0} (F : B → List A) (G : B → Option Tree) (i j : B) (r : Result (Unit {0}) WindowsError) (a b : List A)
      (f : Option Tree) → i ≡ j → f ≡ None → Walks r a b (F i) (G i) → Walks r a b (F j) (earlier f (G j))
  inner_walked F G i j (Ok x) a b f same fit walked =
      let more = walked_as F G i j (Ok x) a b same walked in (more.0, ap (λ f. earlier f (G j)) fit ∙ more.1)
  inner_walked F G i j (Err e) a b f same fit fails = other_error e f (G j) fit (error_as e (G i) (G j) (ap G same) fails)
