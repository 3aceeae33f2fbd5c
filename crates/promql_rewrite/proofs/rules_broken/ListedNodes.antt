-- Whether one of some nodes passes a test.
use Rattle.std.proofs.Common.{◌≡◌, ℕ, ◌+◌, ◌<◌, ◌≤◌, Bool, true, false, cond, ◌||◌, List, [], ◌∷◌, ◌++◌, Option, Some, None, drop, find, get_or, is_some, length, map, option_map, refl, sym, ap, ◌∙◌}
use Rattle.std.specs.List.{list_any}
use Rattle.std.specs.Str.{bytes_eq}
use Rattle.std.proofs.lemmas.Cmp.{nat_list_eq_equiv}
use Rattle.std.proofs.lemmas.List.{drop_all, drop_more}
use Rattle.std.proofs.lemmas.List.Folds.{list_any-append}
use Rattle.promql_text.specs.Texts.{Text}
use Rattle.promql_label.specs.PlainMatchers.{PlainMatcher, is_of, name_of, value_of}
use Rattle.promql_ast.specs.Tree.{Tree}

-- ---- of two lists

pub any_of_both : {X : Type 0} (p : X → Bool) (xs ys : List X) → list_any p (xs ++ ys) ≡ list_any p xs || list_any p ys
any_of_both p xs ys = list_any-append p xs ys

-- ---- of a list, item by item: F gives the nodes of those that are left

module _ {X : Type 0} (p : Tree → Bool) (F : List X → List Tree) (xs : List X) (i : ℕ) (b all : Bool) where
  next : (y : X) (own : List Tree) → i < length xs → y ≡ get_or xs i y → F (y ∷ drop (i + 1) xs) ≡ own ++ F (drop (i + 1) xs) → b ≡ list_any p own
      → list_any p (F (drop i xs)) ≡ b || list_any p (F (drop (i + 1) xs))
  next y own within same first is =
      ap (list_any p) (ap F (drop_more xs i y within ∙ ap (λ z. z ∷ drop (i + 1) xs) (sym same)) ∙ first)
      ∙ list_any-append p own (F (drop (i + 1) xs))
      ∙ ap (λ a. a || list_any p (F (drop (i + 1) xs))) (sym is)

  pub any_here : (y : X) (own : List Tree) → i < length xs → y ≡ get_or xs i y → F (y ∷ drop (i + 1) xs) ≡ own ++ F (drop (i + 1) xs) → b ≡ list_any p own
      → b ≡ true → list_any p (F (drop i xs)) ≡ all → true ≡ all
  any_here y own within same first is passes left =
      sym (next y own within same first is ∙ ap (λ a. a || list_any p (F (drop (i + 1) xs))) passes) ∙ left

  pub any_after : (y : X) (own : List Tree) → i < length xs → y ≡ get_or xs i y → F (y ∷ drop (i + 1) xs) ≡ own ++ F (drop (i + 1) xs) → b ≡ list_any p own
      → b ≡ false → list_any p (F (drop i xs)) ≡ all → list_any p (F (drop (i + 1) xs)) ≡ all
  any_after y own within same first is fails left =
      sym (next y own within same first is ∙ ap (λ a. a || list_any p (F (drop (i + 1) xs))) fails) ∙ left

  pub any_nowhere : F [] ≡ [] → length xs ≤ i → list_any p (F (drop i xs)) ≡ all → false ≡ all
  any_nowhere nothing end left = sym (ap (list_any p) (ap F (drop_all i xs end) ∙ nothing)) ∙ left

-- ---- of matchers

pub some_found : (l : Text) (cs : List PlainMatcher) → is_some (option_map value_of (find (is_of l) cs)) ≡ list_any (bytes_eq l) (map name_of cs)
some_found l [] = refl
some_found l (c ∷ cs) = go (bytes_eq (name_of c) l) (nat_list_eq_equiv.symm (name_of c) l) (some_found l cs)
  where
    go : (b : Bool) → b ≡ bytes_eq l (name_of c) → is_some (option_map value_of (find (is_of l) cs)) ≡ list_any (bytes_eq l) (map name_of cs)
        → is_some (option_map value_of (cond b (Some c) (find (is_of l) cs))) ≡ bytes_eq l (name_of c) || list_any (bytes_eq l) (map name_of cs)
    go true is rest = ap (λ e. e || list_any (bytes_eq l) (map name_of cs)) is
    go false is rest = rest ∙ ap (λ e. e || list_any (bytes_eq l) (map name_of cs)) is

pub some_mapped : {X Y : Type 0} (f : X → Y) (o : Option X) → is_some o ≡ is_some (option_map f o)
some_mapped f None = refl
some_mapped f (Some x) = refl
