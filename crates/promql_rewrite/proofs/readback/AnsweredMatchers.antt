-- Which matchers are answered, and which name a metric.
use Rattle.std.proofs.Common.{◌≡◌, ◌⊎◌, inl, inr, true, refl, codes}
use Rattle.std.specs.Prelude.{◌↔◌}
use Rattle.std.proofs.lemmas.Slice.Eq.{bytes_eq-Decides}
use Rattle.promql_text.specs.Texts.{Text}
use Rattle.promql_label.specs.Answers.{Answer, built}
use Rattle.promql_label.specs.PlainMatchers.{Operator, equal, not_equal, matches, matches_not, plain_matcher}
use Rattle.promql_rewrite.specs.Answered.{IsAnswered}
use Rattle.promql_rewrite.specs.Collecting.{is_metric_name}

module _ (g : Text → Answer) (name value : Text) where
  answered : (op : Operator) → IsAnswered g (plain_matcher op name value) → (w : Text) → (op ≡ matches w) ⊎ (op ≡ matches_not w) → g value ≡ built w
  answered equal h w (inl e) = cc
  answered equal h w (inr e) = cc
  answered not_equal h w (inl e) = cc
  answered not_equal h w (inr e) = cc
  answered (matches v) h w (inl e) = cc
  answered (matches v) h w (inr e) = cc
  answered (matches_not v) h w (inl e) = cc
  answered (matches_not v) h w (inr e) = cc

  answers : (op : Operator) → ((w : Text) → (op ≡ matches w) ⊎ (op ≡ matches_not w) → g value ≡ built w) → IsAnswered g (plain_matcher op name value)
  answers equal h = tt
  answers not_equal h = tt
  answers (matches w) h = h w (inl refl)
  answers (matches_not w) h = h w (inr refl)

pub answered_is : (g : Text → Answer) (op : Operator) (name value : Text)
    → IsAnswered g (plain_matcher op name value) ↔ ((w : Text) → (op ≡ matches w) ⊎ (op ≡ matches_not w) → g value ≡ built w)
answered_is g op name value = (answered g name value op, answers g name value op)

names_metric : (op : Operator) (name value : Text) → is_metric_name (plain_matcher op name value) ≡ true → (op ≡ equal) × (name ≡ codes "__name__")
names_metric equal name value e = (refl, (bytes_eq-Decides name (codes "__name__")).0 e)
names_metric not_equal name value e = cc
names_metric (matches w) name value e = cc
names_metric (matches_not w) name value e = cc

metric_named : (op : Operator) (name value : Text) → (op ≡ equal) × (name ≡ codes "__name__") → is_metric_name (plain_matcher op name value) ≡ true
metric_named equal name value h = (bytes_eq-Decides name (codes "__name__")).1 h.1
metric_named not_equal name value h = let e = h.0 in cc
metric_named (matches w) name value h = let e = h.0 in cc
metric_named (matches_not w) name value h = let e = h.0 in cc

pub metric_is : (op : Operator) (name value : Text)
    → (is_metric_name (plain_matcher op name value) ≡ true) ↔ ((op ≡ equal) × (name ≡ codes "__name__"))
metric_is op name value = (names_metric op name value, metric_named op name value)
