use Rattle.std.proofs.Common.{sym, ◌∙◌}
use Rattle.promql_ast.specs.Normal.{normal}
use Rattle.promql_rewrite.specs.Enforcing.{enforced}
use Rattle.promql_meaning.specs.Stores.{kept}
use Rattle.promql_meaning.proofs.SeenAtHome.{seen_at_home}
use Rattle.promql_meaning.proofs.SeenEnforced.{seen_again}
use Rattle.promql_meaning.proofs.SeenNormal.{seen_normal}
use Rattle.promql_meaning.proofs.laws.enforced_lines_see_only_what_is_allowed.Goals as goal

pub returns : goal.returns
returns c = λ query line matcher h.
    let t = h.0 in
    let changed = enforced matcher t in
    (t, normal changed, h.1, (h.3.1.answers, h.3.1.served), λ s. seen_normal s changed ∙ seen_again matcher s t h.2 ∙ sym (seen_normal (kept matcher s) changed), λ none s. seen_normal (kept matcher s) changed ∙ seen_at_home matcher s t none)
