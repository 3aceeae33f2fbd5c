-- Texts that are pushed one after another.
use Rattle.std.proofs.Common.{◌≡◌, ℕ, List, [], ◌∷◌, ◌++◌, Option, Some, None, IfSome, ap, sym, ◌∙◌, append_assoc, refl, ◌==◌, if◌then◌else◌, Bool, true, false, arith}
use Rattle.std.proofs.lemmas.Bool.{eqb-true}
use Rattle.std.specs.Str.Pattern.{IsTrimStartMatches, CutsPrefixes, FindsTextPrefix}
use Rattle.promql_text.specs.Texts.{Text}
use Rattle.promql_ast.specs.Layout.{without_indent}

-- a push of x, and then another of y
pub two_pushes : (a b c x y : Text) → b ≡ a ++ x → c ≡ b ++ y → c ≡ a ++ (x ++ y)
two_pushes a b c x y p q = q ∙ ap (λ s. s ++ y) p ∙ append_assoc a x y

cuts_take_spaces : (s : Text) (ns : List ℕ) (r : Text) → CutsPrefixes (FindsTextPrefix (32 ∷ [])) s ns r → without_indent r ≡ without_indent s
cuts_take_spaces s [] r e = ap without_indent e
cuts_take_spaces s (n ∷ ns) r h = ap without_indent h.3 ∙ sym (ap without_indent h.2.1) ∙ cuts_take_spaces s ns h.0 h.1

no_space_left_case : (x : ℕ) (xs : Text) (b : Bool) → (x == 32) ≡ b → ((rest : Text) → x ∷ xs ≡ 32 ∷ rest → ⊥) → (if b then without_indent xs else x ∷ xs) ≡ x ∷ xs
no_space_left_case x xs true e lacks = absurd (lacks xs (ap (λ y. y ∷ xs) (eqb-true x 32 e)))
no_space_left_case x xs false e lacks = refl

no_space_left : (r : Text) (o : Option ℕ) → FindsTextPrefix (32 ∷ []) r o → IfSome o (λ n. n ≡ 0) → without_indent r ≡ r
no_space_left [] o h z = refl
no_space_left (x ∷ xs) None h z = no_space_left_case x xs (x == 32) refl h
no_space_left (x ∷ xs) (Some n) h z = absurd (omega (arith, h.0, z))

-- the spaces that it begins with are cut off
pub without_indent_matches : (s r : Text) → IsTrimStartMatches (FindsTextPrefix (32 ∷ [])) s r → r ≡ without_indent s
without_indent_matches s r h = sym (no_space_left r h.1.0 h.1.1 h.1.2) ∙ cuts_take_spaces s h.0.0 r h.0.1
