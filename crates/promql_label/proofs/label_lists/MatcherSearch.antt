-- What is left of a list of matchers after those that were passed, and searching in it.
use Rattle.std.proofs.Common.{◌≡◌, ℕ, ◌+◌, ◌<◌, sym, length, get_or, Bool, true, false, cond, List, [], ◌∷◌, ◌++◌, drop, map, ap, ◌∙◌, refl, find, Option, Some, None, option_map}
use Rattle.std.specs.Prelude.{Vec}
use Rattle.std.specs.declared.alloc.Global.{Global}
use Rattle.std.specs.List.{flat_map}
use Rattle.std.proofs.lemmas.List.{drop_more}
use Rattle.promql_label.specs.declared.matcher.Matcher.{Matcher}
use Rattle.promql_label.specs.PlainMatchers.{PlainMatcher, value_of}
use Rattle.promql_text.specs.Texts.{Text}
use Rattle.promql_label.specs.MatcherViews.{plain_matcher_of}

-- the matchers from index i on
abbrev pub rest_from : List Matcher → ℕ → List PlainMatcher
rest_from ms i = map plain_matcher_of (drop i ms)

-- what the groups hold, and those from index i on
abbrev pub held_of : List (Vec Matcher Global) → List PlainMatcher
held_of gs = flat_map (λ g. g) (map (λ g. map plain_matcher_of g.items) gs)

abbrev pub held_from : List (Vec Matcher Global) → ℕ → List PlainMatcher
held_from gs i = held_of (drop i gs)

-- the value of the first that passes
abbrev pub first_value : (PlainMatcher → Bool) → List PlainMatcher → Option Text
first_value p cs = option_map value_of (find p cs)

-- what is found in front is found
pub first_value_earlier : (p : PlainMatcher → Bool) (cs ds : List PlainMatcher) (v : Text) →
    first_value p cs ≡ Some v → first_value p (cs ++ ds) ≡ Some v
first_value_earlier p [] ds v is = cc
first_value_earlier p (c ∷ cs) ds v is = go (p c) (first_value_earlier p cs ds v) is
  where
    go : (b : Bool) → (first_value p cs ≡ Some v → first_value p (cs ++ ds) ≡ Some v) →
        option_map value_of (cond b (Some c) (find p cs)) ≡ Some v →
        option_map value_of (cond b (Some c) (find p (cs ++ ds))) ≡ Some v
    go true later is' = is'
    go false later is' = later is'

-- where nothing is found in front, what is after decides
pub first_value_later : (p : PlainMatcher → Bool) (cs ds : List PlainMatcher) →
    first_value p cs ≡ None → first_value p (cs ++ ds) ≡ first_value p ds
first_value_later p [] ds is = refl
first_value_later p (c ∷ cs) ds is = go (p c) (first_value_later p cs ds) is
  where
    go : (b : Bool) → (first_value p cs ≡ None → first_value p (cs ++ ds) ≡ first_value p ds) →
        option_map value_of (cond b (Some c) (find p cs)) ≡ None →
        option_map value_of (cond b (Some c) (find p (cs ++ ds))) ≡ first_value p ds
    go true later is' = cc
    go false later is' = later is'

-- the groups from index i on: the one there, and those after it
pub held_from_more : (gs : List (Vec Matcher Global)) (i : ℕ) (g : Vec Matcher Global) → i < length gs → g ≡ get_or gs i g →
    held_from gs i ≡ map plain_matcher_of g.items ++ held_from gs (i + 1)
held_from_more gs i g within is =
    ap held_of (drop_more gs i g within) ∙ ap (λ h. map plain_matcher_of h.items ++ held_from gs (i + 1)) (sym is)

-- a group that has it gives the value
pub first_value_here : (p : PlainMatcher → Bool) (gs : List (Vec Matcher Global)) (i : ℕ) (g : Vec Matcher Global)
    (ms : List Matcher) (v : Text) → i < length gs → g ≡ get_or gs i g → ms ≡ g.items →
    first_value p (map plain_matcher_of ms) ≡ Some v → first_value p (held_from gs i) ≡ Some v
first_value_here p gs i g ms v within is all has =
    ap (first_value p) (held_from_more gs i g within is)
    ∙ first_value_earlier p _ _ v (ap (λ l. first_value p (map plain_matcher_of l)) (sym all) ∙ has)

-- a group that doesn't leaves it to those after
pub first_value_past : (p : PlainMatcher → Bool) (gs : List (Vec Matcher Global)) (i : ℕ) (g : Vec Matcher Global)
    (ms : List Matcher) → i < length gs → g ≡ get_or gs i g → ms ≡ g.items →
    first_value p (map plain_matcher_of ms) ≡ None → first_value p (held_from gs i) ≡ first_value p (held_from gs (i + 1))
first_value_past p gs i g ms within is all none =
    ap (first_value p) (held_from_more gs i g within is)
    ∙ first_value_later p _ _ (ap (λ l. first_value p (map plain_matcher_of l)) (sym all) ∙ none)

-- for goals before the groups
pub ruleset searching = (first_value_earlier, first_value_later)
