use Rattle.std.proofs.Common.{◌≡◌, ◌<◌, ◌-◌, ◌++◌, true, append_assoc, drop, length, map, refl, subst, sym, take, ap, ◌∙◌, arith}
use Rattle.std.proofs.Output.{has_written_styled_append}
use Rattle.std.proofs.lemmas.List.{length-map, length-take-le}
use Rattle.std.specs.List.{filter}
use Rattle.std.specs.Option.{is_some}
use Rattle.promql_label.specs.NextText.{again, is_above, last_of, row_texts, text_of, text_of_some, texts_after}
use Rattle.promql_label.specs.SortedTexts.{sorted_texts}
use Rattle.promql_label.proofs.order.PrintedTexts.{IsLeft, above_fits, all_left, joined_is, nothing_left, pass_is, pass_text, some_text}
use Rattle.promql_text.proofs.writing.Writing.{writing_flush, writing_more, writing_start, writing_end}
use Rattle.promql_label.proofs.sorted.write_in_passes.Goals as goal

pub passes-init : goal.passes-init
passes-init g c =
    let matchers = c.args.matchers.now in
    (c.requires, (sorted_texts (map text_of matchers), (all_left text_of matchers, λ flush. writing_start g.W.Write.write_str_gives _ _ _ flush (joined_is (sorted_texts (map text_of matchers))))))

pub overflow_sub-left : goal.overflow_sub-left
overflow_sub-left g c =
    let fits = above_fits (text_of_some c.passes.last) c.passes.left c.passes.invariant.1.0 (map text_of c.args.matchers.now) c.passes.invariant.1.1.0 in
    let above = c.find_least-pass.ensures.above in
    omega (arith, fits, above)

pub passes-preserved : goal.passes-preserved
passes-preserved g c =
    let took = g.W.Write.write_str_gives in
    let texts = map text_of c.args.matchers.now in
    let last = text_of_some c.passes.last in
    let rest = c.passes.invariant.1.0 in
    let now = c.passes.invariant.1.1 in
    let above = c.find_least-pass.result.above in
    let held = c.find_least-pass.result.held in
    let row = c.find_least-pass.new.row in
    let found = row_texts (take held row) in
    let less = drop (length row) (sorted_texts (filter (is_above last) texts)) in
    let room : 0 < length row = let long = c.find_least-pass.ensures.len in let some = c.passes.invariant.0 in omega (arith, long, some) in
    let pass = pass_is last c.passes.left above (length row) found rest texts now.0 room c.find_least-pass.ensures.above c.find_least-pass.ensures.held in
    let size : length found ≡ held = length-map (take held row) (λ m. text_of m.now) ∙ length-take-le held row c.find_least-pass.ensures.within in
    let greatest = text_of_some c.greatest_of-last.result in
    let next : IsLeft greatest (above - held) less (sorted_texts texts) =
    subst (λ n. IsLeft greatest (above - n) less (sorted_texts texts)) size (subst (λ o. IsLeft o (above - length found) less (sorted_texts texts)) (sym c.greatest_of-last.ensures) pass.next) in
    let copies = texts_after true (again (c.passes.left - above) last) in
    let flag : is_some last ≡ c.is_some.result = some_text c.passes.last ∙ sym c.is_some.ensures in
    let parts : texts_after (is_some last) rest ≡ (copies ++ texts_after c.is_some.result found) ++ texts_after (is_some greatest) less =
    pass_text last (c.passes.left - above) found rest less pass.texts
    ∙ ap (λ b. copies ++ (texts_after b found ++ texts_after (is_some (last_of found last)) less)) flag
    ∙ ap (λ o. copies ++ (texts_after c.is_some.result found ++ texts_after (is_some o) less)) (sym c.greatest_of-last.ensures)
    ∙ sym (append_assoc copies (texts_after c.is_some.result found) (texts_after (is_some greatest) less)) in (
      room,
      (
        less,
        (
          next,
          λ flush.
              let so_far = now.1 flush in
              let first = c.in_ok-write_again.ensures (writing_flush took _ _ _ _ so_far) refl in
              let second = c.in_ok-write_row.ensures first.flush refl in
              writing_more took _ _ _ _ (copies ++ texts_after c.is_some.result found) _ _ so_far (has_written_styled_append _ _ _ _ _ _ first second) parts,
        ),
      ),
    )

pub overflow_sub-left-in-passes : goal.overflow_sub-left-in-passes
overflow_sub-left-in-passes g c =
    let last = text_of_some c.passes.last in
    let held = c.find_least-pass.result.held in
    let row = c.find_least-pass.new.row in
    let found = row_texts (take held row) in
    let room : 0 < length row = let long = c.find_least-pass.ensures.len in let some = c.passes.invariant.0 in omega (arith, long, some) in
    let pass = pass_is last c.passes.left c.find_least-pass.result.above (length row) found c.passes.invariant.1.0 (map text_of c.args.matchers.now) c.passes.invariant.1.1.0 room c.find_least-pass.ensures.above c.find_least-pass.ensures.held in
    let size : length found ≡ held = length-map (take held row) (λ m. text_of m.now) ∙ length-take-le held row c.find_least-pass.ensures.within in
    let most = pass.held in
    omega (arith, most, size)

pub passes-smaller : goal.passes-smaller
passes-smaller g c =
    let last = text_of_some c.passes.last in
    let held = c.find_least-pass.result.held in
    let row = c.find_least-pass.new.row in
    let found = row_texts (take held row) in
    let room : 0 < length row = let long = c.find_least-pass.ensures.len in let some = c.passes.invariant.0 in omega (arith, long, some) in
    let pass = pass_is last c.passes.left c.find_least-pass.result.above (length row) found c.passes.invariant.1.0 (map text_of c.args.matchers.now) c.passes.invariant.1.1.0 room c.find_least-pass.ensures.above c.find_least-pass.ensures.held in
    let size : length found ≡ held = length-map (take held row) (λ m. text_of m.now) ∙ length-take-le held row c.find_least-pass.ensures.within in
    let fewer = pass.fewer c.passes-test.true in
    omega (arith, fewer, size)

pub returns : goal.returns
returns g c = λ flush ok.
    let at_end = c.passes.invariant.1.1 in
    writing_end g.W.Write.write_str_gives _ _ _ _ (at_end.1 flush) (nothing_left _ c.passes.left _ _ at_end.0 (omega arith))
