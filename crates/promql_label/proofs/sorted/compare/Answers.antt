use Rattle.std.proofs.Common.{◌≡◌, ◌∙◌, ◌++◌, ap, string_bytes, sym}
use Rattle.std.proofs.lemmas.Slice.Eq.{bytes_eq-Decides}
use Rattle.promql_label.specs.MatcherBytes.{test_text}
use Rattle.promql_label.specs.PlainMatchers.{name_text}
use Rattle.promql_label.specs.SortedTexts.{text_order}
use Rattle.promql_label.proofs.order.TextOrders.{after_same}
use Rattle.promql_label.proofs.sorted.compare.Goals as goal

pub returns-then-eq : goal.returns-then-eq
returns-then-eq c =
    let a = c.args.a.now in
    let b = c.args.b.now in
    let same : string_bytes a.name ≡ string_bytes b.name =
    sym c.as_str-name.ensures.value ∙ (bytes_eq-Decides _ _).0 (sym c.eq.ensures ∙ c.if-eq.true) ∙ c.as_str-other.ensures.value in
    c.compare_tests.ensures
    ∙ sym (after_same (name_text (string_bytes a.name)) (test_text a) (test_text b))
    ∙ ap (λ n. text_order (name_text (string_bytes a.name) ++ test_text a) (name_text n ++ test_text b)) same
