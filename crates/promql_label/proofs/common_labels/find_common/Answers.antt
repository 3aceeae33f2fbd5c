use Rattle.std.proofs.Common.{◌≡◌, ◌+◌, ◌∙◌, ◌&&◌, ◌++◌, ◌∷◌, [], if◌then◌else◌, ap, map, not, string_bytes, sym, take, take_all, arith, rules}
use Rattle.promql_label.specs.LabelSets.{has_text}
use Rattle.promql_label.specs.Labels.{common, is_among}
use Rattle.promql_label.proofs.label_lists.LabelSets.{and-true, common_taken, next_label, text_taken}
use Rattle.promql_label.proofs.common_labels.find_common.Goals as goal

pub search-init : goal.search-init
search-init c = record {
  both = search rules;
  left = λ t. c.in_ok-left.ensures t ∙ sym (and-true (is_among (map string_bytes c.args.others.now) t));
}

pub search-preserved : goal.search-preserved
search-preserved c =
    let labels = c.args.labels.now in
    let others = map string_bytes c.args.others.now in
    let at = c.search.label-index in
    let before = map string_bytes (take at labels) in
    let label = c.as_str.result.now in
    let more : map string_bytes (take (at + 1) labels) ≡ before ++ label ∷ [] =
    next_label labels at c.label-item.result label c.search-test.true c.label-item.is c.as_str.ensures.value in
    let so_far = c.search.invariant in
    let taken = c.in_ok-take_label.ensures in
    record {
      both =
          taken.both
          ∙ ap (λ ls. ls ++ (if has_text c.search.left label then label ∷ [] else [])) so_far.both
          ∙ common_taken before others label (has_text c.search.left label) (so_far.left label)
          ∙ ap (λ ls. common ls others) (sym more);
      left = λ t.
          text_taken before others label t (has_text c.search.left t) (has_text c.take_label.new.left t) (taken.left t) (so_far.left t)
          ∙ ap (λ ls. is_among others t && not (is_among ls t)) (sym more);
    }

pub returns : goal.returns
returns c =
    c.search.invariant.both
    ∙ ap (λ ls. common (map string_bytes ls) (map string_bytes c.args.others.now)) (take_all c.search.label-index c.args.labels.now (omega arith))
