-- A selector in which a matcher is enforced selects what it selected and the matcher allows.
use Rattle.std.proofs.Common.{◌≡◌, sym, ◌∙◌, ap, ◌&&◌, [], ◌∷◌}
use Rattle.std.specs.List.{list_any}
use Rattle.promql_label.specs.PlainMatchers.{PlainMatcher, PlainMatchers, plain_matchers}
use Rattle.promql_ast.specs.Selectors.{Selector, selector}
use Rattle.promql_rewrite.specs.Enforcing.{enforced_matchers, enforced_selector}
use Rattle.promql_rewrite.specs.Selecting.{Series, allows, allow_all, has_name, matchers_select, selects}
use Rattle.promql_rewrite.proofs.enforcement.EnforcedLists.{and_assoc, groups_hold, with_matcher_holds}

enforced_select : (c : PlainMatcher) (cs : PlainMatchers) (series : Series)
    → matchers_select (enforced_matchers c cs) series ≡ matchers_select cs series && allows c series
enforced_select c (plain_matchers cs []) series = with_matcher_holds (λ d. allows d series) c cs
enforced_select c (plain_matchers cs (g ∷ gs)) series =
    ap (λ b. allow_all cs series && b) (groups_hold (λ d. allows d series) c (g ∷ gs))
    ∙ sym (and_assoc (allow_all cs series) (list_any (λ g. allow_all g series) (g ∷ gs)) (allows c series))

pub selects_enforced : (c : PlainMatcher) (s : Selector) (series : Series)
    → selects (enforced_selector c s) series ≡ selects s series && allows c series
selects_enforced c (selector name cs offset at) series =
    ap (λ b. has_name name series && b) (enforced_select c cs series)
    ∙ sym (and_assoc (has_name name series) (matchers_select cs series) (allows c series))
