-- Indentation and the squeezed text.
use Rattle.std.proofs.Common.{◌≡◌, ℕ, zero, suc, ◌+◌, [], ◌∷◌, ◌++◌, Option, Some, None, Result, IfSome, IfOk, String, string_bytes, refl, sym, ap, ◌∙◌, add-one, append_assoc}
use Rattle.std.proofs.lemmas.Result.{IfOk-weaker}
use Rattle.std.specs.declared.alloc.Global.{Global}
use Rattle.promql_text.specs.Texts.{Text}
use Rattle.promql_ast.specs.Lines.{indent, squeeze, Keeps}

indent_next : (n : ℕ) → indent n ++ 32 ∷ 32 ∷ [] ≡ indent (suc n)
indent_next zero = refl
indent_next (suc n) = ap (λ bs. 32 ∷ 32 ∷ bs) (indent_next n)

-- two more spaces are one more level
indent_more : (n : ℕ) → indent n ++ 32 ∷ 32 ∷ [] ≡ indent (n + 1)
indent_more n = indent_next n ∙ ap indent (sym (add-one n))

pub indent_more_after : (bs : Text) (n : ℕ) → (bs ++ indent n) ++ 32 ∷ 32 ∷ [] ≡ bs ++ indent (n + 1)
indent_more_after bs n = append_assoc bs (indent n) _ ∙ ap (λ is. bs ++ is) (indent_more n)

pub squeeze_indent : (n : ℕ) (bs : Text) → squeeze (indent n ++ bs) ≡ squeeze bs
squeeze_indent zero bs = refl
squeeze_indent (suc n) bs = squeeze_indent n bs

-- a line that is indented keeps what it shows
pub keeps_indented : {E : Type 0} (level : ℕ) (line : Option Text) (r : Result (String Global) E) → IfSome line (λ t. IfOk r (λ s. string_bytes s ≡ indent level ++ t)) → Keeps line r
keeps_indented level None r h = tt
keeps_indented level (Some t) r h = IfOk-weaker r _ _ (λ s e. ap squeeze e ∙ squeeze_indent level t) h
