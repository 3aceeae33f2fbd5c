-- Selectors and modifiers are well typed after a renaming if they were.
use Rattle.std.proofs.Common.{◌≡◌, ◌≢◌, ℕ, refl, sym, ◌∙◌, ap, subst, Bool, true, false, cond, ◌&&◌, Option, Some, None, List, [], ◌∷◌, ◌++◌, map, codes, arith}
use Rattle.std.specs.Prelude.{find, option_map}
use Rattle.std.specs.List.{Contains, flat_map, list_all}
use Rattle.std.specs.Str.{bytes_eq}
use Rattle.std.proofs.lemmas.List.{map-append}
use Rattle.std.proofs.lemmas.List.Elements.{Contains-append_left, Contains-append_right}
use Rattle.std.proofs.lemmas.Slice.Eq.{bytes_eq-Decides}
use Rattle.promql_text.specs.Texts.{Text}
use Rattle.promql_label.specs.Labels.{common, is_among}
use Rattle.promql_label.specs.PlainMatchers.{equal, not_equal, matches, matches_not, PlainMatcher, plain_matcher, PlainMatchers, plain_matchers, every, holds, is_of, value_of}
use Rattle.promql_label.proofs.label_lists.CommonLabels.{common-Contains, is_among-from_Contains}
use Rattle.promql_kind.specs.Modifiers.{Clause, including, excluding, one_to_one, many_to_one, one_to_many, many_to_many, Matching, matching, clause_labels}
use Rattle.promql_ast.specs.OptionalModifiers.{joint_labels}
use Rattle.promql_ast.specs.Selectors.{Selector, selector}
use Rattle.promql_ast.specs.Tree.{Tree, binary}
use Rattle.promql_ast.specs.Typed.{IsApart, TypedSelector}
use Rattle.promql_rewrite.specs.Renaming.{Renaming, of_label, of_metric, lists_both, renamed_clause, renamed_matcher, renamed_matchers, renamed_matching, renamed_selector, replaced}
use Rattle.promql_rewrite.proofs.names.CollectedSets.{from_mapped}

pub differs : (a b : Text) → a ≢ b → bytes_eq a b ≡ false
differs a b other = go (bytes_eq a b) refl
  where
    go : (e : Bool) → bytes_eq a b ≡ e → e ≡ false
    go true is = absurd (other ((bytes_eq-Decides a b).0 is))
    go false is = refl

-- ---- all matchers of a list

module _ (r : Renaming) where
  every_group : (gs : List (List PlainMatcher)) → flat_map (λ g. g) (map (map (renamed_matcher r)) gs) ≡ map (renamed_matcher r) (flat_map (λ g. g) gs)
  every_group [] = refl
  every_group (g ∷ gs) = ap (λ ds. map (renamed_matcher r) g ++ ds) (every_group gs) ∙ sym (map-append (renamed_matcher r) g (flat_map (λ g. g) gs))

  pub every_renamed : (cs : PlainMatchers) → every (renamed_matchers r cs) ≡ map (renamed_matcher r) (every cs)
  every_renamed (plain_matchers cs gs) = ap (λ ds. map (renamed_matcher r) cs ++ ds) (every_group gs) ∙ sym (map-append (renamed_matcher r) cs (flat_map (λ g. g) gs))

  -- what is found of no matcher before is found of none after
  module _ (p : PlainMatcher → Bool) (same : (c : PlainMatcher) → p (renamed_matcher r c) ≡ p c) where
    none_found : (cs : List PlainMatcher) → option_map value_of (find p cs) ≡ None → option_map value_of (find p (map (renamed_matcher r) cs)) ≡ None
    none_found [] h = h
    none_found (c ∷ cs) h =
        ap (λ b. option_map value_of (cond b (Some (renamed_matcher r c)) (find p (map (renamed_matcher r) cs)))) (same c) ∙ go (p c) h (none_found cs)
      where
        go : (b : Bool) → option_map value_of (cond b (Some c) (find p cs)) ≡ None → (option_map value_of (find p cs) ≡ None → option_map value_of (find p (map (renamed_matcher r) cs)) ≡ None)
            → option_map value_of (cond b (Some (renamed_matcher r c)) (find p (map (renamed_matcher r) cs))) ≡ None
        go true is rest = cc
        go false is rest = rest is

  -- a matcher that does not match the empty text is there after if one was before
  module _ (fails : (c : PlainMatcher) → holds c [] ≡ false → holds (renamed_matcher r c) [] ≡ false) where
    one_fails : (cs : List PlainMatcher) → list_all (λ c. holds c []) cs ≡ false → list_all (λ c. holds c []) (map (renamed_matcher r) cs) ≡ false
    one_fails [] h = h
    one_fails (c ∷ cs) h = go (holds c []) refl h (one_fails cs)
      where
        and_no : (b : Bool) → b && false ≡ false
        and_no true = refl
        and_no false = refl

        go : (b : Bool) → holds c [] ≡ b → b && list_all (λ c. holds c []) cs ≡ false
            → (list_all (λ c. holds c []) cs ≡ false → list_all (λ c. holds c []) (map (renamed_matcher r) cs) ≡ false) → holds (renamed_matcher r c) [] && list_all (λ c. holds c []) (map (renamed_matcher r) cs) ≡ false
        go true is k rest = ap (λ b. holds (renamed_matcher r c) [] && b) (rest k) ∙ and_no (holds (renamed_matcher r c) [])
        go false is k rest = ap (λ b. b && list_all (λ c. holds c []) (map (renamed_matcher r) cs)) (fails c is)

  module _ (same : (c : PlainMatcher) → is_of (codes "__name__") (renamed_matcher r c) ≡ is_of (codes "__name__") c) (fails : (c : PlainMatcher) → holds c [] ≡ false → holds (renamed_matcher r c) [] ≡ false)
      (named : (o : Option Text) (cs : PlainMatchers) (x y : _) → TypedSelector (selector o cs x y) → TypedSelector (selector o (renamed_matchers r cs) x y) → TypedSelector (renamed_selector r (selector o cs x y))) where
    pub selector_typed : (s : Selector) → TypedSelector s → TypedSelector (renamed_selector r s)
    selector_typed (selector None cs offset at) h =
        named None cs offset at h (ap (list_all (λ c. holds c [])) (every_renamed cs) ∙ one_fails fails (every cs) h)
    selector_typed (selector (Some name) cs offset at) h =
        named (Some name) cs offset at h (ap (λ ds. option_map value_of (find (is_of (codes "__name__")) ds)) (every_renamed cs) ∙ none_found (is_of (codes "__name__")) same (every cs) h)

-- ---- a label by another name

module _ (from to : Text) where
  module _ (old : from ≢ codes "__name__") (new : to ≢ codes "__name__") where
    pub same_of : (c : PlainMatcher) → is_of (codes "__name__") (renamed_matcher (of_label from to) c) ≡ is_of (codes "__name__") c
    same_of (plain_matcher op name value) = go (bytes_eq name from) refl
      where
        go : (b : Bool) → bytes_eq name from ≡ b → bytes_eq (cond b to name) (codes "__name__") ≡ bytes_eq name (codes "__name__")
        go true is = differs to (codes "__name__") new ∙ sym (ap (λ n. bytes_eq n (codes "__name__")) ((bytes_eq-Decides name from).0 is) ∙ differs from (codes "__name__") old)
        go false is = refl

    still_fails : (c : PlainMatcher) → holds c [] ≡ false → holds (renamed_matcher (of_label from to) c) [] ≡ false
    still_fails (plain_matcher equal name value) h = h
    still_fails (plain_matcher not_equal name value) h = h
    still_fails (plain_matcher (matches w) name value) h = h
    still_fails (plain_matcher (matches_not w) name value) h = h

    pub label_selector : (s : Selector) → TypedSelector s → TypedSelector (renamed_selector (of_label from to) s)
    label_selector = selector_typed (of_label from to) same_of still_fails (λ o cs x y before after. after)

  nothing : (xs : List Text) → ((t : Text) → Contains xs t → ⊥) → xs ≡ []
  nothing [] none = refl
  nothing (x ∷ xs) none = absurd (none x (0, omega arith, refl))

  nowhere : (xs : List Text) → xs ≡ [] → (t : Text) → Contains xs t → ⊥
  nowhere [] is t (k, lt, at) = absurd (omega arith)
  nowhere (x ∷ xs) is t there = absurd (cc)

  module _ (ls ms : List Text) (apart : is_among (ms ++ ls) from && is_among (ms ++ ls) to ≡ false) (none : common ls ms ≡ []) where
    both_there : (a b : Text) → a ≡ from → b ≡ to → Contains (ms ++ ls) a → Contains (ms ++ ls) b → ⊥
    both_there a b one other x y =
        let both : true ≡ false =
        sym (λ i. is_among-from_Contains (ms ++ ls) from (subst (Contains (ms ++ ls)) one x) i && is_among-from_Contains (ms ++ ls) to (subst (Contains (ms ++ ls)) other y) i) ∙ apart in
        cc

    in_common : (a b : Text) → a ≡ b → Contains ls a → Contains ms b → ⊥
    in_common a b same x y = nowhere (common ls ms) none b ((common-Contains ls ms b).1 (subst (Contains ls) same x, y))

    meet : (a b : Text) (d e : Bool) → bytes_eq a from ≡ d → bytes_eq b from ≡ e → Contains ls a → Contains ms b → cond d to a ≡ cond e to b → ⊥
    meet a b true true p q x y same = in_common a b ((bytes_eq-Decides a from).0 p ∙ sym ((bytes_eq-Decides b from).0 q)) x y
    meet a b true false p q x y same = both_there a b ((bytes_eq-Decides a from).0 p) (sym same) (Contains-append_right ms ls a x) (Contains-append_left ms ls b y)
    meet a b false true p q x y same = both_there b a ((bytes_eq-Decides b from).0 q) same (Contains-append_left ms ls b y) (Contains-append_right ms ls a x)
    meet a b false false p q x y same = in_common a b same x y

    still_apart : common (map (replaced from to) ls) (map (replaced from to) ms) ≡ []
    still_apart = nothing (common (map (replaced from to) ls) (map (replaced from to) ms)) (λ y there.
        let both = (common-Contains (map (replaced from to) ls) (map (replaced from to) ms) y).0 there in
        let a = from_mapped (replaced from to) ls y both.0 in
        let b = from_mapped (replaced from to) ms y both.1 in
        meet a.0 b.0 (bytes_eq a.0 from) (bytes_eq b.0 from) refl refl a.1 b.1 (a.2 ∙ sym b.2))

  clause_apart : (ls : List Text) (k : Clause) → is_among (clause_labels k ++ ls) from && is_among (clause_labels k ++ ls) to ≡ false
      → common ls (clause_labels k) ≡ [] → common (map (replaced from to) ls) (clause_labels (renamed_clause (of_label from to) k)) ≡ []
  clause_apart ls (including ms) apart none = still_apart ls ms apart none
  clause_apart ls (excluding ms) apart none = still_apart ls ms apart none

  pub label_apart : (op : ℕ) (x y : Tree) (m : Option Matching) → lists_both from to (binary op x y m) ≡ false → IsApart (joint_labels m) → IsApart (joint_labels (option_map (renamed_matching (of_label from to)) m))
  label_apart op x y None apart h = h
  label_apart op x y (Some (matching one_to_one clause return_bool values)) apart h = h
  label_apart op x y (Some (matching many_to_many clause return_bool values)) apart h = h
  label_apart op x y (Some (matching (many_to_one ls) None return_bool values)) apart h = h
  label_apart op x y (Some (matching (one_to_many ls) None return_bool values)) apart h = h
  label_apart op x y (Some (matching (many_to_one ls) (Some k) return_bool values)) apart h = clause_apart ls k apart h
  label_apart op x y (Some (matching (one_to_many ls) (Some k) return_bool values)) apart h = clause_apart ls k apart h

-- ---- a metric by another name

module _ (from to : Text) where
  metric_of : (c : PlainMatcher) → is_of (codes "__name__") (renamed_matcher (of_metric from to) c) ≡ is_of (codes "__name__") c
  metric_of (plain_matcher op name value) = refl

  module _ (some : to ≢ []) where
    value_fails : (value : Text) → bytes_eq value [] ≡ false → bytes_eq (replaced from to value) [] ≡ false
    value_fails value h = go (bytes_eq value from)
      where
        go : (b : Bool) → bytes_eq (cond b to value) [] ≡ false
        go true = differs to [] some
        go false = h

    metric_fails : (c : PlainMatcher) → holds c [] ≡ false → holds (renamed_matcher (of_metric from to) c) [] ≡ false
    metric_fails (plain_matcher equal name value) h = go (bytes_eq name (codes "__name__"))
      where
        go : (b : Bool) → bytes_eq (cond b (replaced from to value) value) [] ≡ false
        go true = value_fails value h
        go false = h
    metric_fails (plain_matcher op name value) h = h

    pub metric_selector : (s : Selector) → TypedSelector s → TypedSelector (renamed_selector (of_metric from to) s)
    metric_selector = selector_typed (of_metric from to) metric_of metric_fails still_named
      where
        still_named : (o : Option Text) (cs : PlainMatchers) (x y : _) → TypedSelector (selector o cs x y) → TypedSelector (selector o (renamed_matchers (of_metric from to) cs) x y)
            → TypedSelector (renamed_selector (of_metric from to) (selector o cs x y))
        still_named None cs x y before after = after
        still_named (Some name) cs x y before after = after

  same_clause : (k : Clause) → clause_labels (renamed_clause (of_metric from to) k) ≡ clause_labels k
  same_clause (including ls) = refl
  same_clause (excluding ls) = refl

  pub metric_apart : (m : Option Matching) → IsApart (joint_labels m) → IsApart (joint_labels (option_map (renamed_matching (of_metric from to)) m))
  metric_apart None h = h
  metric_apart (Some (matching one_to_one clause return_bool values)) h = h
  metric_apart (Some (matching many_to_many clause return_bool values)) h = h
  metric_apart (Some (matching (many_to_one ls) None return_bool values)) h = h
  metric_apart (Some (matching (one_to_many ls) None return_bool values)) h = h
  metric_apart (Some (matching (many_to_one ls) (Some k) return_bool values)) h = ap (common ls) (same_clause k) ∙ h
  metric_apart (Some (matching (one_to_many ls) (Some k) return_bool values)) h = ap (common ls) (same_clause k) ∙ h
