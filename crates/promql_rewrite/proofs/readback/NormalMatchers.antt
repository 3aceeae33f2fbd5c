-- What is found in sorted matchers is found in the matchers.
use Rattle.std.proofs.Common.{◌≡◌, refl, sym, ◌∙◌, ap, Bool, true, false, cond, ◌&&◌, ◌||◌, Option, Some, None, List, [], ◌∷◌, ◌++◌, flat_map, codes, is_gt}
use Rattle.std.specs.Prelude.{find, option_map}
use Rattle.std.specs.List.{list_all, list_any}
use Rattle.promql_text.specs.Texts.{Text}
use Rattle.promql_label.specs.Answers.{Answer}
use Rattle.promql_label.specs.PlainMatchers.{PlainMatcher, PlainMatchers, plain_matchers, holds, is_of, matcher_text, value_of}
use Rattle.promql_label.specs.ReadMatchers.{insert_matcher, normal_matchers, sorted_matchers}
use Rattle.promql_label.specs.SortedTexts.{text_order}
use Rattle.promql_ast.specs.Selectors.{Selector, selector}
use Rattle.promql_ast.specs.Normal.{normal_selector}
use Rattle.promql_ast.specs.Typed.{HasName, TypedSelector}
use Rattle.promql_rewrite.specs.PrintableNodes.{AllAnswered, PrintableMatchers, PrintableSelector}

-- ---- tests of sorted matchers

or_turned : (a b x : Bool) → (a || (b || x)) ≡ (b || (a || x))
or_turned true true x = refl
or_turned true false x = refl
or_turned false true x = refl
or_turned false false x = refl

and_turned : (a b x : Bool) → (a && (b && x)) ≡ (b && (a && x))
and_turned true true x = refl
and_turned true false x = refl
and_turned false true x = refl
and_turned false false x = refl

insert_any : (p : PlainMatcher → Bool) (c : PlainMatcher) (ds rest : List PlainMatcher) → list_any p (insert_matcher c ds ++ rest) ≡ (p c || list_any p (ds ++ rest))
insert_any p c [] rest = refl
insert_any p c (d ∷ ds) rest = go (is_gt (text_order (matcher_text c) (matcher_text d))) (insert_any p c ds rest)
  where
    go : (b : Bool) → list_any p (insert_matcher c ds ++ rest) ≡ (p c || list_any p (ds ++ rest)) → list_any p (cond b (d ∷ insert_matcher c ds) (c ∷ d ∷ ds) ++ rest) ≡ (p c || (p d || list_any p (ds ++ rest)))
    go true e = ap (λ x. p d || x) e ∙ or_turned (p d) (p c) (list_any p (ds ++ rest))
    go false e = refl

insert_all : (p : PlainMatcher → Bool) (c : PlainMatcher) (ds rest : List PlainMatcher) → list_all p (insert_matcher c ds ++ rest) ≡ (p c && list_all p (ds ++ rest))
insert_all p c [] rest = refl
insert_all p c (d ∷ ds) rest = go (is_gt (text_order (matcher_text c) (matcher_text d))) (insert_all p c ds rest)
  where
    go : (b : Bool) → list_all p (insert_matcher c ds ++ rest) ≡ (p c && list_all p (ds ++ rest)) → list_all p (cond b (d ∷ insert_matcher c ds) (c ∷ d ∷ ds) ++ rest) ≡ (p c && (p d && list_all p (ds ++ rest)))
    go true e = ap (λ x. p d && x) e ∙ and_turned (p d) (p c) (list_all p (ds ++ rest))
    go false e = refl

sorted_any : (p : PlainMatcher → Bool) (cs rest : List PlainMatcher) → list_any p (sorted_matchers cs ++ rest) ≡ list_any p (cs ++ rest)
sorted_any p [] rest = refl
sorted_any p (c ∷ cs) rest = insert_any p c (sorted_matchers cs) rest ∙ ap (λ x. p c || x) (sorted_any p cs rest)

sorted_all : (p : PlainMatcher → Bool) (cs rest : List PlainMatcher) → list_all p (sorted_matchers cs ++ rest) ≡ list_all p (cs ++ rest)
sorted_all p [] rest = refl
sorted_all p (c ∷ cs) rest = insert_all p c (sorted_matchers cs) rest ∙ ap (λ x. p c && x) (sorted_all p cs rest)

none_found : (p : PlainMatcher → Bool) (cs : List PlainMatcher) → find p cs ≡ None → list_any p cs ≡ false
none_found p [] e = refl
none_found p (c ∷ cs) e = go (p c) e (none_found p cs)
  where
    go : (b : Bool) → cond b (Some c) (find p cs) ≡ None → (find p cs ≡ None → list_any p cs ≡ false) → (b || list_any p cs) ≡ false
    go true e later = cc
    go false e later = later e

found_none : (p : PlainMatcher → Bool) (cs : List PlainMatcher) → list_any p cs ≡ false → find p cs ≡ None
found_none p [] e = refl
found_none p (c ∷ cs) e = go (p c) e (found_none p cs)
  where
    go : (b : Bool) → (b || list_any p cs) ≡ false → (list_any p cs ≡ false → find p cs ≡ None) → cond b (Some c) (find p cs) ≡ None
    go true e later = cc
    go false e later = later e

none_of_map : (o : Option PlainMatcher) → option_map value_of o ≡ None → o ≡ None
none_of_map (Some c) e = cc
none_of_map None e = refl

name_of_normal : (name : Option Text) (cs : PlainMatchers) → HasName name (normal_matchers cs) → HasName name cs
name_of_normal (Some name) (plain_matchers cs gs) h =
    let p = is_of (codes "__name__") in
    let rest = flat_map (λ g. g) gs in
    let none = none_found p (sorted_matchers cs ++ rest) (none_of_map (find p (sorted_matchers cs ++ rest)) h) in
    ap (option_map value_of) (found_none p (cs ++ rest) (sym (sorted_any p cs rest) ∙ none))
name_of_normal None (plain_matchers cs gs) h = sym (sorted_all (λ c. holds c []) cs (flat_map (λ g. g) gs)) ∙ h

pub typed_of_normal_selector : (s : Selector) → TypedSelector (normal_selector s) → TypedSelector s
typed_of_normal_selector (selector name cs offset at) h = name_of_normal name cs h

-- ---- answers about patterns

module _ (g : Text → Answer) where
  of_inserted : (c : PlainMatcher) (ds : List PlainMatcher) → AllAnswered g (insert_matcher c ds) → AllAnswered g (c ∷ ds)
  of_inserted c [] h = h
  of_inserted c (d ∷ ds) h = go (is_gt (text_order (matcher_text c) (matcher_text d))) h (of_inserted c ds)
    where
      go : (b : Bool) → AllAnswered g (cond b (d ∷ insert_matcher c ds) (c ∷ d ∷ ds)) → (AllAnswered g (insert_matcher c ds) → AllAnswered g (c ∷ ds)) → AllAnswered g (c ∷ d ∷ ds)
      go true h later = let rest = later h.1 in (rest.0, (h.0, rest.1))
      go false h later = h

  of_sorted : (cs : List PlainMatcher) → AllAnswered g (sorted_matchers cs) → AllAnswered g cs
  of_sorted [] h = tt
  of_sorted (c ∷ cs) h = let two = of_inserted c (sorted_matchers cs) h in (two.0, of_sorted cs two.1)

  no_matcher : (c : PlainMatcher) (ds : List PlainMatcher) (i : List PlainMatcher) (gs : List (List PlainMatcher)) → PrintableMatchers g (plain_matchers (insert_matcher c ds) (i ∷ gs)) → ⊥
  no_matcher c [] i gs h = h
  no_matcher c (d ∷ ds) i gs h = go (is_gt (text_order (matcher_text c) (matcher_text d))) h
    where
      go : (b : Bool) → PrintableMatchers g (plain_matchers (cond b (d ∷ insert_matcher c ds) (c ∷ d ∷ ds)) (i ∷ gs)) → ⊥
      go true h = h
      go false h = h

  of_normal_matchers : (cs : PlainMatchers) → PrintableMatchers g (normal_matchers cs) → PrintableMatchers g cs
  of_normal_matchers (plain_matchers cs []) h = of_sorted cs h
  of_normal_matchers (plain_matchers [] (i ∷ [])) h = h
  of_normal_matchers (plain_matchers [] (i ∷ j ∷ gs)) h = h
  of_normal_matchers (plain_matchers (c ∷ cs) (i ∷ gs)) h = absurd (no_matcher c (sorted_matchers cs) i gs h)

  pub of_normal_selector : (s : Selector) → PrintableSelector g (normal_selector s) → PrintableSelector g s
  of_normal_selector (selector name cs offset at) h = (h.0, of_normal_matchers cs h.1, h.2, h.3)
