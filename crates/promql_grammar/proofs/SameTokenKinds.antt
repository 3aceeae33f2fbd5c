-- `==` of kinds of tokens holds exactly of those that are the same.
use Rattle.std.proofs.Common.{◌≡◌, ◌∙◌, refl, ap, sym, Bool, true, false, List, [], ◌∷◌}
use Rattle.std.specs.Prelude.{ℕ, ◌==◌}
use Rattle.std.specs.Bool.{Decides}
use mathlib.Core.Logic.{inl, inr}
use denote.Struct.Field.{Field}
use denote.Struct.Values.{Values}
use denote.Enum.Declared.{Choice}
use denote.Enum.Compared.{Each, by}
use Rattle.std.proofs.lemmas.Bool.Decides.{Decides-eqb, Decides-like}
use Rattle.promql_text.specs.Equalities.{IsSameBy}
use Rattle.promql_grammar.specs.contracts.token_kinds.TokenKind.{enum}
use Rattle.promql_grammar.specs.contracts.token_kinds.TokenKindPartialEq.TheImpl as kinds

-- each variant's test holds exactly of the same values
abbrev AllDecide : (Fss : List (List Field)) → Each Bool Fss → Type 0
AllDecide [] es = Unit {0}
AllDecide (Fs ∷ Fss) es = ((x y : Values Fs) → Decides (es.0 x y) (x ≡ y)) × AllDecide Fss es.1

choices_decide : (Fss : List (List Field)) (es : Each Bool Fss) → AllDecide Fss es → (c d : Choice Fss) → Decides (by false false Fss es c d) (c ≡ d)
choices_decide [] es all c d = absurd c
choices_decide (Fs ∷ Fss) es all (inl x) (inl y) = Decides-like _ (λ e. ap inl e) (λ e. cc) (all.0 x y)
choices_decide (Fs ∷ Fss) es all (inl x) (inr y) = ((λ h. cc), (λ h. cc))
choices_decide (Fs ∷ Fss) es all (inr x) (inl y) = ((λ h. cc), (λ h. cc))
choices_decide (Fs ∷ Fss) es all (inr x) (inr y) = Decides-like _ (λ e. ap inr e) (λ e. cc) (choices_decide Fss es.1 all.1 x y)

bare : (x y : Values []) → Decides true (x ≡ y)
bare x y = ((λ _. refl), (λ _. refl))

with_id : (x y : ℕ × Unit {0}) → Decides (x.0 == y.0) (x ≡ y)
with_id x y = Decides-like _ (λ e i. (e i, tt)) (λ e. ap (λ z. z.0) e) (Decides-eqb x.0 y.0)

pub kind_Decides : IsSameBy (λ k. k) kinds.ghosts.eq
kind_Decides a b =
    Decides-like _ (λ e. sym (enum.eta a) ∙ ap enum.make e ∙ enum.eta b) (λ e. ap enum.as_values e)
    (choices_decide enum.parts _ (bare, (bare, (bare, (bare, (bare, (with_id, (with_id, (bare, (bare, (bare, (bare, (bare, (bare, (bare, (bare, (bare, (bare, (bare, (bare, (bare, (bare, (bare, (bare, (bare, (bare, (bare, (bare, (bare, (bare, (bare, (bare, (bare, (bare, (bare, (bare, tt))))))))))))))))))))))))))))))))))) (enum.as_values a) (enum.as_values b))
