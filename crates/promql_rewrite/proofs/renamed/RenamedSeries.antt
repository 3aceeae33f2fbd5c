-- A selector in which a label is renamed selects what the selector selects of the series with the new label for the old one.
use Rattle.std.proofs.Common.{◌≡◌, ◌≢◌, refl, sym, ap, cond, ◌&&◌, ◌||◌, Option, Some, None, List, [], ◌∷◌, map, codes}
use Rattle.std.specs.List.{list_any}
use Rattle.std.specs.Str.{bytes_eq}
use Rattle.promql_text.specs.Texts.{Text}
use Rattle.promql_label.specs.PlainMatchers.{equal, not_equal, matches, matches_not, PlainMatcher, plain_matcher, PlainMatchers, plain_matchers}
use Rattle.promql_ast.specs.Selectors.{Selector, selector}
use Rattle.promql_rewrite.specs.Renaming.{of_label, renamed_matcher, renamed_matchers, renamed_selector, replaced}
use Rattle.promql_rewrite.specs.Selecting.{Series, allow_all, allows, has_name, matchers_select, selects}
use Rattle.promql_rewrite.proofs.renamed.RenamedSelectors.{differs}

module _ (from to : Text) (series : Series) where
  abbrev read : Series
  read l = series (replaced from to l)

  allowed : (c : PlainMatcher) → allows (renamed_matcher (of_label from to) c) series ≡ allows c read
  allowed (plain_matcher equal name value) = refl
  allowed (plain_matcher not_equal name value) = refl
  allowed (plain_matcher (matches w) name value) = refl
  allowed (plain_matcher (matches_not w) name value) = refl

  all_allowed : (cs : List PlainMatcher) → allow_all (map (renamed_matcher (of_label from to)) cs) series ≡ allow_all cs read
  all_allowed [] = refl
  all_allowed (c ∷ cs) = λ i. allowed c i && all_allowed cs i

  one_allowed : (gs : List (List PlainMatcher)) → list_any (λ g. allow_all g series) (map (map (renamed_matcher (of_label from to))) gs) ≡ list_any (λ g. allow_all g read) gs
  one_allowed [] = refl
  one_allowed (g ∷ gs) = λ i. all_allowed g i || one_allowed gs i

  matched : (cs : PlainMatchers) → matchers_select (renamed_matchers (of_label from to) cs) series ≡ matchers_select cs read
  matched (plain_matchers cs []) = all_allowed cs
  matched (plain_matchers cs (g ∷ gs)) = λ i. all_allowed cs i && one_allowed (g ∷ gs) i

  named : from ≢ codes "__name__" → (name : Option Text) → has_name name series ≡ has_name name read
  named old None = refl
  named old (Some name) =
      ap (λ b. bytes_eq name (series (cond b to (codes "__name__")))) (sym (differs (codes "__name__") from (λ same. old (sym same))))

  pub label_selects : from ≢ codes "__name__" → (s : Selector) → selects (renamed_selector (of_label from to) s) series ≡ selects s read
  label_selects old (selector name cs offset at) = λ i. named old name i && matched cs i
