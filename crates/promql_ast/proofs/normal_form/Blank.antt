-- Only a list of matchers that is blank has an empty text.
use Rattle.std.proofs.Common.{◌≡◌, ◌∙◌, Bool, true, false, List, [], ◌∷◌, ◌++◌, map, codes, refl, sym, ap, is_gt}
use Rattle.std.specs.Prelude.{if◌then◌else◌}
use Rattle.promql_text.specs.Texts.{Text, joined_text}
use Rattle.promql_label.specs.PlainMatchers.{PlainMatcher, plain_matcher, PlainMatchers, plain_matchers, name_text, operator_text, matcher_text, group_text, matchers_text}
use Rattle.promql_label.specs.SortedTexts.{insert_text, sorted_texts, text_order}
use Rattle.promql_ast.specs.BlankMatchers.{is_blank}
use Rattle.promql_ast.specs.node.Vector.{with_braces}

-- a text that is not empty
abbrev is_filled : Text → Bool
is_filled [] = false
is_filled (b ∷ t) = true

-- the first text is there and not empty, and no other is empty either
abbrev are_filled : List Text → Bool
are_filled [] = true
are_filled (t ∷ ts) = if is_filled t then are_filled ts else false

abbrev begins_filled : List Text → Bool
begins_filled [] = false
begins_filled (t ∷ ts) = is_filled t

filled_after : (s t : Text) → is_filled t ≡ true → is_filled (s ++ t) ≡ true
filled_after [] t e = e
filled_after (b ∷ s) t e = refl

filled_before : (s t : Text) → is_filled s ≡ true → is_filled (s ++ t) ≡ true
filled_before [] t e = cc
filled_before (b ∷ s) t e = refl

matcher_filled : (c : PlainMatcher) → is_filled (matcher_text c) ≡ true
matcher_filled (plain_matcher op name value) = filled_after (name_text name) _ (filled_after (operator_text op) _ refl)

insert_begins : (t : Text) (us : List Text) → is_filled t ≡ true → are_filled us ≡ true → begins_filled (insert_text t us) ≡ true
insert_begins t [] e all = e
insert_begins t (u ∷ us) e all = go (is_gt (text_order t u)) (is_filled u) refl all
  where
    go : (later filled : Bool) → filled ≡ is_filled u → (if filled then are_filled us else false) ≡ true
        → begins_filled (if later then u ∷ insert_text t us else t ∷ u ∷ us) ≡ true
    go false filled is all' = e
    go true true is all' = sym is
    go true false is all' = cc

insert_filled : (t : Text) (us : List Text) → is_filled t ≡ true → are_filled us ≡ true → are_filled (insert_text t us) ≡ true
insert_filled t [] e all = ap (λ b. if b then true else false) e
insert_filled t (u ∷ us) e all = go (is_gt (text_order t u)) (is_filled u) refl all (insert_filled t us e)
  where
    go : (later filled : Bool) → filled ≡ is_filled u → (if filled then are_filled us else false) ≡ true
        → (are_filled us ≡ true → are_filled (insert_text t us) ≡ true)
        → are_filled (if later then u ∷ insert_text t us else t ∷ u ∷ us) ≡ true
    go later false is all' rest = cc
    go true true is all' rest = ap (λ b. if b then are_filled (insert_text t us) else false) (sym is) ∙ rest all'
    go false true is all' rest = ap (λ b. if b then (if is_filled u then are_filled us else false) else false) e
        ∙ ap (λ b. if b then are_filled us else false) (sym is) ∙ all'

sorted_filled : (cs : List PlainMatcher) → are_filled (sorted_texts (map matcher_text cs)) ≡ true
sorted_filled [] = refl
sorted_filled (c ∷ cs) = insert_filled (matcher_text c) (sorted_texts (map matcher_text cs)) (matcher_filled c) (sorted_filled cs)

joined_filled : (sep : Text) (ts : List Text) → begins_filled ts ≡ true → is_filled (joined_text sep ts) ≡ true
joined_filled sep [] e = cc
joined_filled sep (t ∷ ts) e = filled_before t _ e

-- what is not blank has a text
text_filled : (ms : PlainMatchers) → is_blank ms ≡ false → is_filled (matchers_text ms) ≡ true
text_filled (plain_matchers [] []) e = cc
text_filled (plain_matchers (c ∷ cs) []) e =
    joined_filled (codes ",") (sorted_texts (map matcher_text (c ∷ cs)))
    (insert_begins (matcher_text c) (sorted_texts (map matcher_text cs)) (matcher_filled c) (sorted_filled cs))
text_filled (plain_matchers plain ([] ∷ [])) e = cc
text_filled (plain_matchers plain ((c ∷ cs) ∷ [])) e =
    filled_before (group_text (c ∷ cs)) _ (joined_filled (codes ", ") (map matcher_text (c ∷ cs)) (matcher_filled c))
text_filled (plain_matchers plain (g ∷ h ∷ groups)) e = filled_after (group_text g) _ refl

pub blank_text : (ms : PlainMatchers) → is_blank ms ≡ true → matchers_text ms ≡ []
blank_text (plain_matchers [] []) e = refl
blank_text (plain_matchers (c ∷ cs) []) e = cc
blank_text (plain_matchers plain ([] ∷ [])) e = refl
blank_text (plain_matchers plain ((c ∷ cs) ∷ [])) e = cc
blank_text (plain_matchers plain (g ∷ h ∷ groups)) e = cc

braced_filled : (t : Text) → is_filled t ≡ true → with_braces t ≡ codes "{" ++ (t ++ codes "}")
braced_filled [] e = cc
braced_filled (b ∷ t) e = refl

pub braced_text : (ms : PlainMatchers) → is_blank ms ≡ false → with_braces (matchers_text ms) ≡ codes "{" ++ (matchers_text ms ++ codes "}")
braced_text ms e = braced_filled (matchers_text ms) (text_filled ms e)
