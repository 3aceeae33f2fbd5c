use Rattle.std.proofs.Common.{◌≡◌, ◌+◌, ◌∙◌, ◌++◌, ◌∷◌, [], ap, map, string_bytes, sym, take, take_all, true, arith}
use Rattle.promql_label.specs.LabelSets.{has_text}
use Rattle.promql_label.specs.Labels.{is_among}
use Rattle.promql_label.proofs.label_lists.LabelSets.{empty_set, next_label, set_after, text_put}
use Rattle.promql_label.proofs.common_labels.to_set.Goals as goal

pub texts-init : goal.texts-init
texts-init c = λ t. empty_set c.new-set.result t c.new-set.ensures.empty

pub texts-preserved : goal.texts-preserved
texts-preserved c = λ t.
    let labels = c.args.labels.now in
    let at = c.texts.label-index in
    let before = map string_bytes (take at labels) in
    let label = c.as_str.result.now in
    let more : map string_bytes (take (at + 1) labels) ≡ before ++ label ∷ [] =
    next_label labels at c.label-item.result label c.texts-test.true c.label-item.is c.as_str.ensures.value in
    text_put before label t (has_text c.texts.set t) (has_text c.insert.new.self t)
    (set_after label c.texts.set c.insert.new.self true c.in_ok-insert.ensures.updates t) (c.texts.invariant t)
    ∙ ap (λ ls. is_among ls t) (sym more)

pub returns : goal.returns
returns c = λ t. c.texts.invariant t ∙ ap (λ ls. is_among (map string_bytes ls) t) (take_all c.texts.label-index c.args.labels.now (omega arith))
