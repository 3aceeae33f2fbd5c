-- An indentation is spaces, and a text without its own begins with none.
use Rattle.std.proofs.Common.{◌≡◌, ℕ, zero, suc, ◌==◌, Bool, true, false, slice_get, [], ◌∷◌, ◌++◌, Some, codes, refl, ap}
use Rattle.std.specs.List.{repeat}
use Rattle.std.specs.Prelude.{◌≢◌, if◌then◌else◌}
use Rattle.std.proofs.lemmas.Bool.{eqb-true}
use Rattle.std.proofs.lemmas.Bool.Decides.{Decides-eqb}
use Rattle.promql_text.specs.Texts.{Text, code}
use Rattle.promql_ast.specs.Layout.{without_indent}
use Rattle.promql_ast.specs.Lines.{indent}

pub indent_is : (n : ℕ) → indent n ≡ repeat n (codes "  ")
indent_is zero = refl
indent_is (suc n) = ap (λ t. code " " ∷ code " " ∷ t) (indent_is n)

spaces_more : (b : ℕ) (t : Text) → ((n : ℕ) × (t ≡ repeat n (codes " ") ++ without_indent t)) → (c : Bool) → (b == code " ") ≡ c
    → (n : ℕ) × (b ∷ t ≡ repeat n (codes " ") ++ (if c then without_indent t else b ∷ t))
spaces_more b t rest true is = (suc rest.0, (λ i. eqb-true b (code " ") is i ∷ rest.1 i))
spaces_more b t rest false is = (0, refl)

pub spaces_before : (t : Text) → (n : ℕ) × (t ≡ repeat n (codes " ") ++ without_indent t)
spaces_before [] = (0, refl)
spaces_before (b ∷ t) = spaces_more b t (spaces_before t) (b == code " ") refl

other_first : (b : ℕ) (t : Text) → slice_get (without_indent t) 0 ≢ Some (code " ") → (c : Bool) → (b == code " ") ≡ c
    → slice_get (if c then without_indent t else b ∷ t) 0 ≢ Some (code " ")
other_first b t rest true is e = rest e
other_first b t rest false is e = let same : b ≡ code " " = cc in let yes = (Decides-eqb b (code " ")).1 same in cc

pub no_space_first : (t : Text) → slice_get (without_indent t) 0 ≢ Some (code " ")
no_space_first [] e = cc
no_space_first (b ∷ t) e = other_first b t (no_space_first t) (b == code " ") refl e
