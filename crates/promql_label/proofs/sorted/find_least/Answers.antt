use Rattle.std.proofs.Common.{◌≡◌, ◌+◌, ◌++◌, ◌∷◌, [], length, map, take, sym, ap, subst, ◌∙◌, arith}
use Rattle.std.specs.List.{filter}
use Rattle.std.proofs.lemmas.List.{map_more}
use Rattle.promql_label.specs.NextText.{Rises, is_above, row_texts, text_of, text_of_some}
use Rattle.promql_label.specs.SortedTexts.{insert_text, sorted_texts}
use Rattle.promql_label.proofs.order.RisingTexts.{sorted_rises}
use Rattle.promql_label.proofs.order.TextRows.{few_above, one_above, one_left_out, row_more, take_rises}
use Rattle.promql_label.proofs.sorted.find_least.Goals.{then-is_above, else-is_above}
use Rattle.promql_label.proofs.sorted.find_least.Goals as goal

pub overflow_add-above : goal.overflow_add-above
overflow_add-above c =
    let few = few_above (text_of_some c.args.last) text_of c.args.matchers.now c.search.matcher-index in
    let above = c.search.invariant.above in
    omega (arith, few, above)

pub hold-held-requires-clause-rising : goal.hold-held-requires-clause-rising
hold-held-requires-clause-rising c =
    let above = filter (is_above (text_of_some c.args.last)) (map text_of (take c.search.matcher-index c.args.matchers.now)) in
    subst Rises (sym c.search.invariant.held) (take_rises (length c.search.row) (sorted_texts above) (sorted_rises above))

pub search-preserved : goal.search-preserved
search-preserved c =
    let last = text_of_some c.args.last in
    let matchers = c.args.matchers.now in
    let at = c.search.matcher-index in
    let seen = map text_of (take at matchers) in
    let matcher = text_of c.matcher-item.result in
    let more : map text_of (take (at + 1) matchers) ≡ seen ++ matcher ∷ [] =
    map_more text_of matchers at c.matcher-item.result c.search-test.true ∙ ap (λ m. seen ++ text_of m ∷ []) (sym c.matcher-item.is) in
    let so_far = c.search.invariant in
    elim c.if-is_above.branch [
      | then-is_above w ↦
          let yes = sym c.is_above.ensures ∙ w.if-is_above.true in
          let long = w.hold-held.ensures.len in
          rw (w.above-is, w.held-is, w.row-is)
          record {
            above = ap (λ n. n + 1) so_far.above ∙ sym (one_above last seen matcher yes) ∙ ap (λ us. length (filter (is_above last) us)) (sym more);
            len = long ∙ so_far.len;
            within = w.hold-held.ensures.within;
            held =
                w.hold-held.ensures.held
                ∙ ap (λ k. take k (insert_text matcher (row_texts (take c.search.held c.search.row)))) long
                ∙ row_more (length c.search.row) last seen matcher _ yes so_far.held
                ∙ ap (λ us. take (length c.search.row) (sorted_texts (filter (is_above last) us))) (sym more)
                ∙ sym (ap (λ k. take k (sorted_texts (filter (is_above last) (map text_of (take (at + 1) matchers))))) long);
          }
      | else-is_above w ↦
          let no = sym c.is_above.ensures ∙ w.if-is_above.false in
          let same : filter (is_above last) seen ≡ filter (is_above last) (map text_of (take (at + 1) matchers)) =
          sym (ap (filter (is_above last)) more ∙ one_left_out last seen matcher no) in
          rw (w.above-is, w.held-is, w.row-is)
          record {
            above = so_far.above ∙ ap length same;
            len = so_far.len;
            within = so_far.within;
            held = so_far.held ∙ ap (λ us. take (length c.search.row) (sorted_texts us)) same;
          }
    ]
