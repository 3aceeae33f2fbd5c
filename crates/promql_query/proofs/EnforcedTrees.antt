-- A tree in which a matcher is enforced is as high as it was, and has no extension where it had none.
use Rattle.std.proofs.Common.{◌≡◌, ◌∙◌, ap, inl, inr, subst, sym}
use Rattle.std.specs.Prelude.{Option, Some, None, Ok, ◌≤◌}
use Rattle.promql_text.specs.Texts.{Text}
use Rattle.promql_label.specs.PlainMatchers.{PlainMatcher}
use Rattle.promql_ast.specs.Height.{height}
use Rattle.promql_ast.specs.Tree.{Tree, aggregate, unary, binary, paren, subquery, number, string, vector, matrix, call, extension, MaybeTree, absent, present, Trees, no_trees, first_tree}
use Rattle.promql_rewrite.specs.Enforcing.{all_enforced, enforced, maybe_enforced}
use Rattle.promql_rewrite.proofs.enforcement.EnforcedTypes.{height_enforced}
use Rattle.promql_syntax.specs.declared.parser.TheConstants.{MAX_DEPTH}
use Rattle.promql_span.specs.declared.limits.Limits.{Limits}
use Rattle.promql_run.specs.Extensions.{HasNoExtension, NoneInEach, NoneInParam}
use Rattle.promql_query.specs.BatchSteps.{IsAsked}

module _ (c : PlainMatcher) where
  mutual
    pub enforced_plain : (t : Tree) → HasNoExtension t → HasNoExtension (enforced c t)
    enforced_plain (aggregate op e p m) plain = (param_plain p plain.0, enforced_plain e plain.1)
    enforced_plain (unary e) plain = enforced_plain e plain
    enforced_plain (binary op l r m) plain = (enforced_plain l plain.0, enforced_plain r plain.1)
    enforced_plain (paren e) plain = enforced_plain e plain
    enforced_plain (subquery e offset at range step) plain = enforced_plain e plain
    enforced_plain (number n) plain = tt
    enforced_plain (string s) plain = tt
    enforced_plain (vector s) plain = tt
    enforced_plain (matrix s range mode) plain = tt
    enforced_plain (call f args) plain = all_plain args plain
    enforced_plain (extension name gives es) plain = plain

    param_plain : (p : MaybeTree) → NoneInParam p → NoneInParam (maybe_enforced c p)
    param_plain absent plain = tt
    param_plain (present e) plain = enforced_plain e plain

    all_plain : (ts : Trees) → NoneInEach ts → NoneInEach (all_enforced c ts)
    all_plain no_trees plain = tt
    all_plain (first_tree e es) plain = (enforced_plain e plain.0, all_plain es plain.1)

-- what is printed of a tree that was read, with a matcher in its selectors or without
pub asked_plain : (limits : Limits) (matcher : Option Text) (t u : Tree) → IsAsked limits matcher t (Ok u) → HasNoExtension t → HasNoExtension u
asked_plain limits None t u asked plain =
    let same : u ≡ t = cc in subst HasNoExtension (sym same) plain
asked_plain limits (Some matcher) t u (v, asked, inl short) plain =
    let same : u ≡ v = cc in subst HasNoExtension (sym (same ∙ asked.1.3)) (enforced_plain asked.1.0 t plain)
asked_plain limits (Some matcher) t u (v, asked, inr long) plain = absurd cc

pub asked_low : (limits : Limits) (matcher : Option Text) (t u : Tree) → IsAsked limits matcher t (Ok u) → height t ≤ MAX_DEPTH → height u ≤ MAX_DEPTH
asked_low limits None t u asked low =
    let same : u ≡ t = cc in subst (λ v. height v ≤ MAX_DEPTH) (sym same) low
asked_low limits (Some matcher) t u (v, asked, inl short) low =
    let same : u ≡ v = cc in subst (λ n. n ≤ MAX_DEPTH) (sym (ap height (same ∙ asked.1.3) ∙ height_enforced asked.1.0 t)) low
asked_low limits (Some matcher) t u (v, asked, inr long) low = absurd cc
