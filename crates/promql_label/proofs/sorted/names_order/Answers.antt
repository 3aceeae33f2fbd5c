use Rattle.std.proofs.Common.{◌≡◌, ◌∙◌, ◌++◌, false, ap₂, sym}
use Rattle.promql_label.specs.SortedTexts.{text_order}
use Rattle.promql_label.proofs.order.TextOrders.{apart_stay, bare_name, begins}
use Rattle.promql_label.proofs.sorted.names_order.Goals as goal

pub returns : goal.returns
returns c = λ s t.
    let a = c.args.a.now in
    let b = c.args.b.now in
    let x = c.as_bytes-x.ensures.value in
    let y = c.as_bytes-y.ensures.value in
    let first : begins a b ≡ false = sym (c.starts_with.ensures.value ∙ ap₂ begins x y) ∙ c.if-starts_with.false in
    let second : begins b a ≡ false = sym (c.starts_with-else-starts_with.ensures.value ∙ ap₂ begins y x) ∙ c.if-starts_with-2.false in
    ap₂ (λ n m. text_order (n ++ s) (m ++ t)) (bare_name a (sym c.is_label.ensures ∙ c.if-not-is_label.false)) (bare_name b (sym c.is_label-else-not-is_label.ensures ∙ c.if-not-is_label-2.false))
    ∙ apart_stay a b s t first second
    ∙ sym c.cmp.ensures
