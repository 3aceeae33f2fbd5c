use Rattle.std.proofs.Common.{◌≡◌, ◌+◌, ◌∙◌, ◌++◌, ◌∷◌, [], List, map, string_bytes, take, sym, ap}
use Rattle.std.proofs.lemmas.List.{map_more}
use Rattle.promql_text.specs.Texts.{Text}
use Rattle.promql_label.specs.Labels.{common, is_among, labels_of}
use Rattle.promql_label.proofs.label_lists.CommonLabels.{common-kept, common-not_there, common-seen}
use Rattle.promql_label.proofs.labels.Labels.intersect.Goals as goal
use Rattle.promql_label.proofs.labels.Labels.intersect.Goals.{then-contains+then-not-contains+in_ok-from_str+in_ok-both, else-contains, else-contains-via-then-contains+else-not-contains, else-contains-via-else-contains}

pub loop-own-preserved : goal.loop-own-preserved
loop-own-preserved c =
    let items = c.deref-own-items.result.now in
    let others = labels_of c.args.other.now in
    let label = c.as_str-label.result.now in
    let before : List Text = map string_bytes (take c.loop-own.own-index items) in
    let is : string_bytes c.own-item.result ≡ label = sym c.as_str-label.ensures.value in
    let more : map string_bytes (take (c.loop-own.own-index + 1) items) ≡ before ++ label ∷ [] =
    map_more string_bytes items c.loop-own.own-index c.own-item.result c.loop-own-test.true
    ∙ ap (λ x. before ++ string_bytes x ∷ []) (sym c.own-item.is) ∙ ap (λ l. before ++ l ∷ []) is in
    let same_as : (ls : List Text) → ls ≡ common (before ++ label ∷ []) others → ls ≡ common (map string_bytes (take (c.loop-own.own-index + 1) items)) others =
    λ ls e. e ∙ ap (λ ks. common ks others) (sym more) in
    let so_far = c.loop-own.invariant in
    elim c.if-contains.branch [
      | then-contains+then-not-contains+in_ok-from_str+in_ok-both w ↦
          let new = w.if-not-contains.ensures ∙ ap (λ ls. is_among ls label) so_far in
          same_as _ (
          ap labels_of w.both-is ∙ w.in_ok-both.ensures
          ∙ ap (λ l. labels_of c.loop-own.both ++ l ∷ []) w.in_ok-from_str.ensures.ok ∙ ap (λ ls. ls ++ label ∷ []) so_far
          ∙ sym (common-kept before others label (sym w.if-contains.ensures) (sym new))
          )
      | else-contains w ↦
          same_as _ (ap labels_of w.both-is ∙ so_far ∙ elim w.else-contains.branch [
            | else-contains-via-then-contains+else-not-contains v ↦
                let seen = v.if-not-contains.ensures ∙ ap (λ ls. is_among ls label) so_far in
                sym (common-seen before others label (sym seen))
            | else-contains-via-else-contains v ↦ sym (common-not_there before others label (sym v.if-contains.ensures))
          ])
    ]
