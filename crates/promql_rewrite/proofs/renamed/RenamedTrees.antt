-- Renamed trees are well typed if the trees are.
use Rattle.std.proofs.Common.{◌≡◌, ◌≢◌, refl, sym, ◌∙◌, ap, subst, Bool, true, false, not, ◌&&◌, List, [], ◌∷◌, codes}
use Rattle.std.specs.List.{list_any}
use Rattle.std.specs.Str.{bytes_eq}
use Rattle.std.proofs.lemmas.Slice.Eq.{bytes_eq-Decides}
use Rattle.promql_text.specs.Texts.{Text}
use Rattle.promql_ast.specs.Tree.{Tree}
use Rattle.promql_ast.specs.Typed.{Typed}
use Rattle.promql_rewrite.specs.Collecting.{nodes_of}
use Rattle.promql_rewrite.specs.Renaming.{of_label, of_metric, listed_clashes, lists_both, renamed}
use Rattle.promql_rewrite.proofs.renamed.RenamedAlike.{label_itself}
use Rattle.promql_rewrite.proofs.renamed.RenamedSelectors.{label_apart, label_selector, metric_apart, metric_selector}
use Rattle.promql_rewrite.proofs.renamed.RenamedTyped.{typed_renamed}

none_passes : (ts : List Tree) → list_any (λ t. false) ts ≡ false
none_passes [] = refl
none_passes (t ∷ ts) = none_passes ts

module _ (from to : Text) (t : Tree) where
  pub label_typed : from ≢ codes "__name__" → to ≢ codes "__name__" → listed_clashes from to t ≡ false → Typed t → Typed (renamed (of_label from to) t)
  label_typed old new apart h = go (bytes_eq from to) refl apart
    where
      go : (b : Bool) → bytes_eq from to ≡ b → not b && list_any (lists_both from to) (nodes_of t) ≡ false → Typed (renamed (of_label from to) t)
      go true is k = subst Typed (sym (ap (λ l. renamed (of_label from l) t) (sym ((bytes_eq-Decides from to).0 is)) ∙ label_itself from t)) h
      go false is k = typed_renamed (of_label from to) (lists_both from to) (label_selector from to old new) (label_apart from to) t k h

  pub metric_typed : to ≢ [] → Typed t → Typed (renamed (of_metric from to) t)
  metric_typed some h =
      typed_renamed (of_metric from to) (λ t. false) (metric_selector from to some) (λ op x y m none apart. metric_apart from to m apart) t (none_passes (nodes_of t)) h
