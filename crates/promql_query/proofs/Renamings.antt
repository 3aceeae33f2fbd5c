-- Why a tree was not renamed, if it was not.
use Rattle.std.proofs.Common.{◌≡◌, ◌∙◌, ap, refl, subst, true, false, ◌||◌}
use Rattle.std.specs.Prelude.{◌↔◌, Bool, IfErr, Result, Some, None, if◌then◌else◌}
use Rattle.promql_text.specs.Texts.{Text}
use Rattle.promql_ast.specs.Tree.{Tree}
use Rattle.promql_rewrite.specs.Renaming.{of_label, of_metric, clashes, is_metric_label, is_name}
use Rattle.promql_query.specs.RenamedLines.{rename_fault}
use Rattle.promql_query.specs.declared.query_error.QueryError.TheVariants as error

true_unless : (b : Bool) → ¬ (b ≡ false) → b ≡ true
true_unless true other = refl
true_unless false other = absurd (other refl)

false_unless : (b : Bool) → ¬ (b ≡ true) → b ≡ false
false_unless true other = absurd (other refl)
false_unless false other = refl

no_error : {T E : Type 0} (x : T) (e : E) → Result.Ok x ≡ Result.Err e → ⊥
no_error x e is = subst (λ r. IfErr r (λ d. ⊥)) is tt

pub metric_may : {T E : Type 0} (x : T) (not_a_name : E) (from to : Text) (t : Tree) → (Result.Ok x ≡ Result.Err not_a_name) ↔ (is_name to ≡ false) → rename_fault (of_metric from to) t ≡ None
metric_may x not_a_name from to t name =
    ap (λ b. if b then None else Some error.NotAName) (true_unless (is_name to) (λ is. no_error x not_a_name (name.1 is)))

pub no_name : (from to : Text) (t : Tree) → is_name to ≡ false → rename_fault (of_metric from to) t ≡ Some error.NotAName
no_name from to t is = ap (λ b. if b then None else Some error.NotAName) is

pub metric_label : (from to : Text) (t : Tree) → is_metric_label from || is_metric_label to ≡ true → rename_fault (of_label from to) t ≡ Some error.MetricName
metric_label from to t is = ap (λ b. if b then Some error.MetricName else if clashes from to t then Some error.Clash else None) is

-- where neither label is that of the metric's name
no_metric_label : (from to : Text) (t : Tree) (b : Bool) → is_metric_label from || is_metric_label to ≡ false → clashes from to t ≡ b
    → rename_fault (of_label from to) t ≡ (if b then Some error.Clash else None)
no_metric_label from to t b plain is =
    ap (λ b. if b then Some error.MetricName else if clashes from to t then Some error.Clash else None) plain
    ∙ ap (λ b. if b then Some error.Clash else None) is

pub both_labels : (from to : Text) (t : Tree) → (is_metric_label from || is_metric_label to ≡ false) × (clashes from to t ≡ true) → rename_fault (of_label from to) t ≡ Some error.Clash
both_labels from to t both = no_metric_label from to t true both.0 both.1

pub label_may : {T E : Type 0} (x : T) (metric_name clash : E) (from to : Text) (t : Tree) → (Result.Ok x ≡ Result.Err metric_name) ↔ (is_metric_label from || is_metric_label to ≡ true)
    → (Result.Ok x ≡ Result.Err clash) ↔ ((is_metric_label from || is_metric_label to ≡ false) × (clashes from to t ≡ true)) → rename_fault (of_label from to) t ≡ None
label_may x metric_name clash from to t name both =
    let plain = false_unless (is_metric_label from || is_metric_label to) (λ is. no_error x metric_name (name.1 is)) in
    no_metric_label from to t false plain (false_unless (clashes from to t) (λ is. no_error x clash (both.1 (plain, is))))
