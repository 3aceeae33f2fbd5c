use Rattle.std.proofs.Common.{◌≡◌, ◌∙◌, ◌||◌, ap, false, map, rules, sym, tests}
use Rattle.std.specs.List.{list_any}
use Rattle.std.proofs.lemmas.Iterator.{YieldsList-from_slice}
use Rattle.std.proofs.lemmas.Iterator.Search.{any_from_yields_List}
use Rattle.promql_label.specs.MatcherViews.{plain_matcher_of}
use Rattle.promql_rewrite.specs.Patterns.{is_regex}
use Rattle.promql_rewrite.proofs.enforcement.SameMatchers.{any_mapped}
use Rattle.promql_rewrite.proofs.patterns.has_regex.Goals as goal

pub returns : goal.returns
returns c =
    let groups = c.args.matchers.now.or_matchers.items in
    let none : list_any is_regex (map plain_matcher_of c.args.matchers.now.matchers.items) ≡ false =
    ap (λ ms. list_any is_regex (map plain_matcher_of ms)) (sym c.as_slice.ensures.value) ∙ sym c.has_regex_among.ensures ∙ c.if-has_regex_among.false in
    any_from_yields_List (λ g. list_any is_regex (map plain_matcher_of g.items)) _ _ c.any.result c.any.ensures.ran (YieldsList-from_slice groups cc) (λ x b q k. search (rules, tests))
    ∙ any_mapped (list_any is_regex) (λ g. map plain_matcher_of g.items) groups
    ∙ sym (ap (λ b. b || list_any (list_any is_regex) (map (λ g. map plain_matcher_of g.items) groups)) none)
