use Rattle.std.proofs.Common.{◌≡◌, ◌∙◌, ◌||◌, Bool, false, refl, subst, sym, true, true≢false}
use Rattle.promql_ast.specs.Text.{text as line_text}
use Rattle.promql_ast.specs.View.{tree_of}
use Rattle.promql_rewrite.specs.Faithful.{Means}
use Rattle.promql_rewrite.specs.Patterns.{has_pattern, is_regex}
use Rattle.promql_query.proofs.enforced_line.show_enforced.Goals as goal

neither : (a b : Bool) → (a || b) ≡ false → (a ≡ false) × (b ≡ false)
neither false b none = (refl, none)
neither true b none = absurd (true≢false none)

pub meant_line-line-requires : goal.meant_line-line-requires
meant_line-line-requires c =
    let t = tree_of c.args.expr in
    let enforced = c.in-Ok.ensures.pattern in
    let served = c.requires.1.served (λ same. cc) in
    let none = neither (is_regex enforced.0) (has_pattern t) (sym enforced.4 ∙ c.if-enforced.false) in
    subst (λ u. Means (line_text u) u) (sym enforced.3)
    (c.enforced_lines_without_patterns.ensures c.requires.0 served.0 t enforced.0 served.1 none.1 none.0 enforced.2)
