-- What the tests of numbers say.
use Rattle.std.proofs.Common.{◌≡◌, ◌⊎◌, ⊎_elim, inl, inr, true, false, refl, ap, ◌∙◌}
use Rattle.std.specs.Prelude.{◌↔◌, IsTrue}
use Rattle.std.proofs.lemmas.Bool.{eq-eqb, eqb-true}
use Rattle.promql_text.specs.Numbers.{Exact}
use Rattle.promql_text.specs.Values.{is_below_zero, is_infinite, is_nan, is_zero}
use Rattle.promql_text.specs.declared.number.Number.{Number}
use Rattle.promql_text.specs.declared.number.Number.TheVariants.{Finite, Inf, NegInf, NaN}

apart : false ≡ true → ⊥
apart e = cc

pub nan_told : (n : Number) → IsTrue (is_nan n) ↔ (n ≡ NaN)
nan_told (Finite d) = ((λ h. absurd (apart h)), (λ e. ap is_nan e))
nan_told Inf = ((λ h. absurd (apart h)), (λ e. ap is_nan e))
nan_told NegInf = ((λ h. absurd (apart h)), (λ e. ap is_nan e))
nan_told NaN = ((λ _. refl), (λ _. refl))

pub infinite_told : (n : Number) → IsTrue (is_infinite n) ↔ ((n ≡ Inf) ⊎ (n ≡ NegInf))
infinite_told (Finite d) = ((λ h. absurd (apart h)), (λ h. ⊎_elim (λ e. ap is_infinite e) (λ e. ap is_infinite e) h))
infinite_told Inf = ((λ _. inl refl), (λ _. refl))
infinite_told NegInf = ((λ _. inr refl), (λ _. refl))
infinite_told NaN = ((λ h. absurd (apart h)), (λ h. ⊎_elim (λ e. ap is_infinite e) (λ e. ap is_infinite e) h))

pub below_zero_told : (n : Number) → IsTrue (is_below_zero n) ↔ ((n ≡ NegInf) ⊎ ((d : Exact) × (n ≡ Finite d) × IsTrue d.is_negative))
below_zero_told (Finite d) = ((λ h. inr (d, refl, h)), (λ h. ⊎_elim (λ e. ap is_below_zero e) (λ f. ap is_below_zero f.1 ∙ f.2) h))
below_zero_told Inf = ((λ h. absurd (apart h)), (λ h. ⊎_elim (λ e. ap is_below_zero e) (λ f. ap is_below_zero f.1 ∙ f.2) h))
below_zero_told NegInf = ((λ _. inl refl), (λ _. refl))
below_zero_told NaN = ((λ h. absurd (apart h)), (λ h. ⊎_elim (λ e. ap is_below_zero e) (λ f. ap is_below_zero f.1 ∙ f.2) h))

pub zero_told : (n : Number) → IsTrue (is_zero n) ↔ ((d : Exact) × (n ≡ Finite d) × (d.digits ≡ 0))
zero_told (Finite d) = ((λ h. (d, refl, eqb-true d.digits 0 h)), (λ f. ap is_zero f.1 ∙ eq-eqb f.0.digits 0 f.2))
zero_told Inf = ((λ h. absurd (apart h)), (λ f. ap is_zero f.1 ∙ eq-eqb f.0.digits 0 f.2))
zero_told NegInf = ((λ h. absurd (apart h)), (λ f. ap is_zero f.1 ∙ eq-eqb f.0.digits 0 f.2))
zero_told NaN = ((λ h. absurd (apart h)), (λ f. ap is_zero f.1 ∙ eq-eqb f.0.digits 0 f.2))
