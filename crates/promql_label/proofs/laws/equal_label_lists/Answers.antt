use Rattle.std.proofs.Common.{◌∙◌, string_bytes, refl, sym}
use Rattle.std.specs.Cmp.Derive.Mapped.{pointwise-map}
use Rattle.std.specs.Str.{bytes_eq}
use Rattle.std.proofs.lemmas.Slice.Eq.{bytes_eq-Decides, slice_eq-Decides}
use Rattle.promql_label.specs.Labels.{labels_of}
use Rattle.promql_label.proofs.laws.equal_label_lists.Goals as goal

pub returns : goal.returns
returns c = λ x y.
    let texts = pointwise-map string_bytes bytes_eq x.labels.items y.labels.items in
    let decides = slice_eq-Decides bytes_eq-Decides (labels_of x) (labels_of y) _ refl in
    (λ e. decides.0 (texts ∙ e), λ e. sym texts ∙ decides.1 e)
