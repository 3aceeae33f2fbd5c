-- Printed matchers read back in the order of their texts, or in their groups.
use Rattle.std.proofs.Common.{◌≡◌, refl, sym, ◌∙◌, ap, subst, Bool, true, false, cond, not, ◌&&◌, ◌||◌, Option, Some, None, List, [], ◌∷◌, ◌++◌, append-nil, append_assoc, codes, is_gt}
use Rattle.std.specs.Prelude.{Result, Ok, find, option_map}
use Rattle.std.specs.List.{flat_map, list_all, list_any}
use Rattle.promql_text.specs.Quoting.{quoted_text}
use Rattle.promql_text.specs.Texts.{Text}
use Rattle.promql_token.specs.Classes.{is_label}
use Rattle.promql_grammar.specs.GrammarParts as part
use Rattle.promql_label.specs.Answers.{Answer, built, rejected}
use Rattle.promql_label.specs.PlainMatchers.{Operator, equal, matches, matches_not, PlainMatcher, plain_matcher, PlainMatchers, plain_matchers, name_text, matcher_text, is_of, value_of, holds, append_plain, appended_or, grown}
use Rattle.promql_label.specs.ReadMatchers.{insert_matcher, sorted_matchers}
use Rattle.promql_label.specs.SortedTexts.{text_order}
use Rattle.promql_ast.specs.Checks.{when}
use Rattle.promql_ast.specs.Faults as build_errors
use Rattle.promql_ast.specs.Normal.{normal_matchers}
use Rattle.promql_ast.specs.check.VectorChecks.{name_fault}
use Rattle.promql_syntax.specs.Asking.{gives, ◌giving◌, known, under}
use Rattle.promql_syntax.specs.BuildErrors.{BuildError}
use Rattle.promql_syntax.specs.PartBuilding.{braces_value, item_value, items_value, append_matcher, label_value, operator_value, pattern_operator, string_value}
use Rattle.promql_syntax.specs.Atoms.{any_braces_value}
use Rattle.promql_syntax.proofs.printed.PrintedParts.{any_items, braces, items_of, group_items, item, match_operator, matcher_kind, or_items}
use Rattle.promql_syntax.proofs.printed.PrintedTimesAndLabels.{string_again}
use Rattle.promql_syntax.proofs.building.SingleAnswers.{giving_steps, giving_leads, known_steps, known_leads, same_ok}

module _ (g : Text → Answer) where
  -- ---- one matcher

  abbrev OperatorStands : Text → Operator → Type 0
  OperatorStands v op = under g (operator_value (match_operator op) v) ≡ Ok op

  -- the pattern's one answer is that of the matcher
  abbrev pub Stands : PlainMatcher → Type 0
  Stands (plain_matcher op name v) = OperatorStands v op

  matches_stands : (v : Text) (op : Operator) (a : Answer) → g v ≡ a → under g (pattern_operator matches v a) ≡ Ok op → OperatorStands v op
  matches_stands v op (built w) is e = subst (OperatorStands v) (same_ok _ _ _ _ refl refl e) (ap (λ a. under g (pattern_operator matches v a)) is)
  matches_stands v op rejected is e = cc

  matches_not_stands : (v : Text) (op : Operator) (a : Answer) → g v ≡ a → under g (pattern_operator matches_not v a) ≡ Ok op → OperatorStands v op
  matches_not_stands v op (built w) is e = subst (OperatorStands v) (same_ok _ _ _ _ refl refl e) (ap (λ a. under g (pattern_operator matches_not v a)) is)
  matches_not_stands v op rejected is e = cc

  operator_stands : (s : part.MatchOperator) (v : Text) (op : Operator) → under g (operator_value s v) ≡ Ok op → OperatorStands v op
  operator_stands part.equal v op e = subst (OperatorStands v) (same_ok _ _ _ _ refl refl e) refl
  operator_stands (part.not_equal text) v op e = subst (OperatorStands v) (same_ok _ _ _ _ refl refl e) refl
  operator_stands part.equal_regex v op e = matches_stands v op (g v) refl e
  operator_stands part.not_equal_regex v op e = matches_not_stands v op (g v) refl e

  item_stands : (i : part.Item) (c : PlainMatcher) → under g (item_value i) ≡ Ok c → Stands c
  item_stands (part.matcher quoted text s string) c e =
      let name = known_steps g (label_value (part.name_kind quoted) text) (λ n. known (string_value string) giving λ v. operator_value s v giving λ op. gives (plain_matcher op n v)) c e in
      let value = known_steps g (string_value string) (λ v. operator_value s v giving λ op. gives (plain_matcher op name.value v)) c name.leads in
      let op = giving_steps g (operator_value s value.value) (λ op. gives (plain_matcher op name.value value.value)) c value.leads in
      subst Stands (same_ok _ _ _ _ refl refl op.leads) (operator_stands s value.value op.value op.is)
  item_stands (part.lone text) c e =
      let name = known_steps g (string_value text) (λ n. gives (plain_matcher equal (codes "__name__") n)) c e in
      subst Stands (same_ok _ _ _ _ refl refl name.leads) refl

  name_again : (name : Text) → label_value (matcher_kind name) (name_text name) ≡ Ok name
  name_again name = go (is_label name)
    where
      go : (b : Bool) → label_value (part.name_kind (not b)) (cond b name (quoted_text name)) ≡ Ok name
      go true = refl
      go false = string_again name

  item_again : (c : PlainMatcher) → Stands c → under g (item_value (item c)) ≡ Ok c
  item_again (plain_matcher op name v) h =
      known_leads g (label_value (matcher_kind name) (name_text name)) _ name _ (name_again name)
      (known_leads g (string_value (quoted_text v)) _ v _ (string_again v)
      (giving_leads g (operator_value (match_operator op) v) _ op _ h refl))

  -- ---- lists of matchers

  abbrev pub AllStand : List PlainMatcher → Type 0
  AllStand [] = Unit {0}
  AllStand (c ∷ cs) = Stands c × AllStand cs

  -- the groups are not empty, and their matchers read back
  abbrev pub GroupsStand : List (List PlainMatcher) → Type 0
  GroupsStand [] = Unit {0}
  GroupsStand ([] ∷ gs) = ⊥
  GroupsStand ((c ∷ cs) ∷ gs) = AllStand (c ∷ cs) × GroupsStand gs

  -- there are matchers without groups, or two groups at least
  abbrev pub AreMatchers : PlainMatchers → Type 0
  AreMatchers (plain_matchers [] []) = ⊥
  AreMatchers (plain_matchers (c ∷ cs) []) = AllStand (c ∷ cs)
  AreMatchers (plain_matchers [] (h ∷ [])) = ⊥
  AreMatchers (plain_matchers [] (h ∷ k ∷ gs)) = GroupsStand (h ∷ k ∷ gs)
  AreMatchers (plain_matchers (c ∷ cs) (h ∷ gs)) = ⊥

  abbrev pub AreAnyMatchers : PlainMatchers → Type 0
  AreAnyMatchers (plain_matchers [] []) = Unit {0}
  AreAnyMatchers (plain_matchers (c ∷ cs) []) = AllStand (c ∷ cs)
  AreAnyMatchers (plain_matchers [] (h ∷ [])) = ⊥
  AreAnyMatchers (plain_matchers [] (h ∷ k ∷ gs)) = GroupsStand (h ∷ k ∷ gs)
  AreAnyMatchers (plain_matchers (c ∷ cs) (h ∷ gs)) = ⊥

  pub any_matchers : (cs : PlainMatchers) → AreMatchers cs → AreAnyMatchers cs
  any_matchers (plain_matchers [] []) h = absurd h
  any_matchers (plain_matchers (c ∷ cs) []) h = h
  any_matchers (plain_matchers [] (k ∷ [])) h = absurd h
  any_matchers (plain_matchers [] (j ∷ k ∷ gs)) h = h
  any_matchers (plain_matchers (c ∷ cs) (k ∷ gs)) h = absurd h

  -- those before a matcher: none only where no `or` follows them
  abbrev Ready : part.Separator → PlainMatchers → Type 0
  Ready None cs = AreAnyMatchers cs
  Ready (Some text) cs = AreMatchers cs

  ready : (s : part.Separator) (cs : PlainMatchers) → AreMatchers cs → Ready s cs
  ready None cs h = any_matchers cs h
  ready (Some text) cs h = h

  all_append : (cs : List PlainMatcher) (c : PlainMatcher) → AllStand cs → Stands c → AllStand (cs ++ c ∷ [])
  all_append [] c h k = (k, tt)
  all_append (d ∷ cs) c h k = (h.0, all_append cs c h.1 k)

  groups_append : (gs : List (List PlainMatcher)) (c : PlainMatcher) → GroupsStand gs → Stands c → GroupsStand (gs ++ (c ∷ []) ∷ [])
  groups_append [] c h k = ((k, tt), tt)
  groups_append ([] ∷ gs) c h k = absurd h
  groups_append ((d ∷ ds) ∷ gs) c h k = (h.0, groups_append gs c h.1 k)

  groups_grown : (gs : List (List PlainMatcher)) (c : PlainMatcher) → GroupsStand gs → Stands c → GroupsStand (grown gs c)
  groups_grown [] c h k = tt
  groups_grown ([] ∷ gs) c h k = absurd h
  groups_grown ((d ∷ ds) ∷ []) c h k = (all_append (d ∷ ds) c h.0 k, tt)
  groups_grown ((d ∷ ds) ∷ j ∷ gs) c h k = (h.0, groups_grown (j ∷ gs) c h.1 k)

  joined_stand : (s : part.Separator) (cs : PlainMatchers) (c : PlainMatcher) → Ready s cs → Stands c → AreMatchers (append_matcher s cs c)
  joined_stand None (plain_matchers [] []) c h k = (k, tt)
  joined_stand None (plain_matchers (d ∷ ds) []) c h k = all_append (d ∷ ds) c h k
  joined_stand None (plain_matchers [] (j ∷ [])) c h k = absurd h
  joined_stand None (plain_matchers [] (i ∷ j ∷ [])) c h k = groups_grown (i ∷ j ∷ []) c h k
  joined_stand None (plain_matchers [] (i ∷ j ∷ l ∷ gs)) c h k = groups_grown (i ∷ j ∷ l ∷ gs) c h k
  joined_stand None (plain_matchers (d ∷ ds) (j ∷ gs)) c h k = absurd h
  joined_stand (Some text) (plain_matchers [] []) c h k = absurd h
  joined_stand (Some text) (plain_matchers (d ∷ ds) []) c h k = (h, ((k, tt), tt))
  joined_stand (Some text) (plain_matchers [] (j ∷ [])) c h k = absurd h
  joined_stand (Some text) (plain_matchers [] (i ∷ j ∷ gs)) c h k = groups_append (i ∷ j ∷ gs) c h k
  joined_stand (Some text) (plain_matchers (d ∷ ds) (j ∷ gs)) c h k = absurd h

  items_are : (cs : PlainMatchers) (s : part.Separator) (is : part.Items) (ds : PlainMatchers) → Ready s cs → under g (items_value cs s is) ≡ Ok ds → AreMatchers ds
  items_are cs s (part.last_item i false) ds h e =
      let step = giving_steps g (item_value i) (λ c. gives (append_matcher s cs c)) ds e in
      subst AreMatchers (same_ok _ _ _ _ refl refl step.leads) (joined_stand s cs step.value h (item_stands i step.value step.is))
  items_are cs s (part.last_item i true) ds h e =
      let step = giving_steps g (item_value i) (λ c. gives (append_matcher s cs c)) ds e in
      subst AreMatchers (same_ok _ _ _ _ refl refl step.leads) (joined_stand s cs step.value h (item_stands i step.value step.is))
  items_are cs s (part.next_item i t is) ds h e =
      let step = giving_steps g (item_value i) (λ c. items_value (append_matcher s cs c) t is) ds e in
      let next = joined_stand s cs step.value h (item_stands i step.value step.is) in
      items_are (append_matcher s cs step.value) t is ds (ready t (append_matcher s cs step.value) next) step.leads

  pub braces_are : (b : part.Braces) (ds : PlainMatchers) → under g (braces_value b) ≡ Ok ds → AreAnyMatchers ds
  braces_are None ds e = subst AreAnyMatchers (same_ok _ _ _ _ refl refl e) tt
  braces_are (Some is) ds e = any_matchers ds (items_are (plain_matchers [] []) None is ds tt e)

  pub any_braces_are : (b : Option part.Braces) (ds : PlainMatchers) → under g (any_braces_value b) ≡ Ok ds → AreAnyMatchers ds
  any_braces_are None ds e = subst AreAnyMatchers (same_ok _ _ _ _ refl refl e) tt
  any_braces_are (Some b) ds e = braces_are b ds e

  -- ---- printed matchers read again

  -- a group after those before it
  abbrev append_all : part.Separator → PlainMatchers → PlainMatcher → List PlainMatcher → PlainMatchers
  append_all s cs c [] = append_matcher s cs c
  append_all s cs c (d ∷ ds) = append_all None (append_matcher s cs c) d ds

  abbrev follow : PlainMatchers → Option (part.Separator × part.Items) → Result PlainMatchers BuildError
  follow cs None = Ok cs
  follow cs (Some (s, is)) = under g (items_value cs s is)

  followed_reads : (s : part.Separator) (cs : PlainMatchers) (c : PlainMatcher) (more : Option (part.Separator × part.Items)) → Stands c → under g (items_value cs s (items_of (item c) more)) ≡ follow (append_matcher s cs c) more
  followed_reads s cs c None h = giving_leads g (item_value (item c)) _ c _ (item_again c h) refl
  followed_reads s cs c (Some (t, is)) h = giving_leads g (item_value (item c)) _ c _ (item_again c h) refl

  group_reads : (s : part.Separator) (cs : PlainMatchers) (c : PlainMatcher) (ds : List PlainMatcher) (more : Option (part.Separator × part.Items)) → AllStand (c ∷ ds) → under g (items_value cs s (group_items c ds more)) ≡ follow (append_all s cs c ds) more
  group_reads s cs c [] more h = followed_reads s cs c more h.0
  group_reads s cs c (d ∷ ds) more h =
      giving_leads g (item_value (item c)) _ c _ (item_again c h.0) (group_reads None (append_matcher s cs c) d ds more h.1)

  abbrev all_added : PlainMatchers → List (List PlainMatcher) → PlainMatchers
  all_added cs [] = cs
  all_added cs ([] ∷ gs) = all_added cs gs
  all_added cs ((d ∷ ds) ∷ gs) = all_added (append_all (Some (codes "or")) cs d ds) gs

  groups_read : (cs : PlainMatchers) (gs : List (List PlainMatcher)) → GroupsStand gs → follow cs (or_items gs) ≡ Ok (all_added cs gs)
  groups_read cs [] h = refl
  groups_read cs ([] ∷ gs) h = absurd h
  groups_read cs ((d ∷ ds) ∷ gs) h = group_reads (Some (codes "or")) cs d ds (or_items gs) h.0 ∙ groups_read (append_all (Some (codes "or")) cs d ds) gs h.1

  -- what these lists are
  plain_added : (cs : List PlainMatcher) (c : PlainMatcher) (ds : List PlainMatcher) → append_all None (plain_matchers cs []) c ds ≡ plain_matchers (cs ++ c ∷ ds) []
  plain_added cs c [] = refl
  plain_added cs c (d ∷ ds) = plain_added (cs ++ c ∷ []) d ds ∙ ap (λ x. plain_matchers x []) (append_assoc cs (c ∷ []) (d ∷ ds))

  grown_last : (gs : List (List PlainMatcher)) (h : List PlainMatcher) (c : PlainMatcher) → append_plain (plain_matchers [] (gs ++ h ∷ [])) c ≡ plain_matchers [] (gs ++ (h ++ c ∷ []) ∷ [])
  grown_last [] h c = refl
  grown_last (k ∷ []) h c = refl
  grown_last (j ∷ k ∷ gs) h c = ap (λ x. plain_matchers [] (j ∷ x)) (ap groups_of (grown_last (k ∷ gs) h c))
    where
      groups_of : PlainMatchers → List (List PlainMatcher)
      groups_of (plain_matchers plain groups) = groups

  last_added : (gs : List (List PlainMatcher)) (h : List PlainMatcher) (c : PlainMatcher) (ds : List PlainMatcher) → append_all None (plain_matchers [] (gs ++ h ∷ [])) c ds ≡ plain_matchers [] (gs ++ (h ++ c ∷ ds) ∷ [])
  last_added gs h c [] = grown_last gs h c
  last_added gs h c (d ∷ ds) =
      ap (λ x. append_all None x d ds) (grown_last gs h c) ∙ last_added gs (h ++ c ∷ []) d ds
      ∙ ap (λ x. plain_matchers [] (gs ++ x ∷ [])) (append_assoc h (c ∷ []) (d ∷ ds))

  append_or_all : (gs : List (List PlainMatcher)) (c : PlainMatcher) (ds : List PlainMatcher) (cs : PlainMatchers) → appended_or cs c ≡ plain_matchers [] (gs ++ (c ∷ []) ∷ []) → append_all (Some (codes "or")) cs c ds ≡ plain_matchers [] (gs ++ (c ∷ ds) ∷ [])
  append_or_all gs c [] cs e = e
  append_or_all gs c (d ∷ ds) cs e = ap (λ x. append_all None x d ds) e ∙ last_added gs (c ∷ []) d ds

  more_added : (gs hs : List (List PlainMatcher)) → GroupsStand hs → all_added (plain_matchers [] gs) hs ≡ plain_matchers [] (gs ++ hs)
  more_added gs [] h = ap (λ x. plain_matchers [] x) (sym (append-nil gs))
  more_added gs ([] ∷ hs) h = absurd h
  more_added gs ((d ∷ ds) ∷ hs) h =
      ap (λ x. all_added x hs) (append_or_all gs d ds (plain_matchers [] gs) refl) ∙ more_added (gs ++ (d ∷ ds) ∷ []) hs h.1
      ∙ ap (λ x. plain_matchers [] x) (append_assoc gs ((d ∷ ds) ∷ []) hs)

  insert_stands : (c : PlainMatcher) (ds : List PlainMatcher) → Stands c → AllStand ds → AllStand (insert_matcher c ds)
  insert_stands c [] h k = (h, tt)
  insert_stands c (d ∷ ds) h k = go (is_gt (text_order (matcher_text c) (matcher_text d))) (insert_stands c ds h k.1)
    where
      go : (b : Bool) → AllStand (insert_matcher c ds) → AllStand (cond b (d ∷ insert_matcher c ds) (c ∷ d ∷ ds))
      go true all = (k.0, all)
      go false all = (h, k)

  sorted_stand : (cs : List PlainMatcher) → AllStand cs → AllStand (sorted_matchers cs)
  sorted_stand [] h = tt
  sorted_stand (c ∷ cs) h = insert_stands c (sorted_matchers cs) h.0 (sorted_stand cs h.1)

  any_items_again : (cs : List PlainMatcher) → AllStand cs → under g (any_braces_value (any_items cs)) ≡ Ok (plain_matchers cs [])
  any_items_again [] h = refl
  any_items_again (c ∷ cs) h = group_reads None (plain_matchers [] []) c cs None h ∙ ap Ok (plain_added [] c cs)

  pub braces_again : (cs : PlainMatchers) → AreAnyMatchers cs → under g (any_braces_value (braces cs)) ≡ Ok (normal_matchers cs)
  braces_again (plain_matchers [] []) h = refl
  braces_again (plain_matchers (c ∷ cs) []) h = any_items_again (sorted_matchers (c ∷ cs)) (sorted_stand (c ∷ cs) h)
  braces_again (plain_matchers [] (k ∷ [])) h = absurd h
  braces_again (plain_matchers [] ([] ∷ k ∷ gs)) h = absurd h
  braces_again (plain_matchers [] ((c ∷ cs) ∷ [] ∷ gs)) h = absurd h.1
  braces_again (plain_matchers [] ((c ∷ cs) ∷ (d ∷ ds) ∷ gs)) h =
      group_reads None (plain_matchers [] []) c cs (or_items ((d ∷ ds) ∷ gs)) h.0
      ∙ ap (λ x. follow x (or_items ((d ∷ ds) ∷ gs))) (plain_added [] c cs)
      ∙ groups_read (plain_matchers (c ∷ cs) []) ((d ∷ ds) ∷ gs) h.1
      ∙ ap (λ x. Ok (all_added x gs)) (append_or_all ((c ∷ cs) ∷ []) d ds (plain_matchers (c ∷ cs) []) refl)
      ∙ ap Ok (more_added ((c ∷ cs) ∷ (d ∷ ds) ∷ []) gs h.1.1)
  braces_again (plain_matchers (c ∷ cs) (k ∷ gs)) h = absurd h

-- ---- the checks of a selector, with sorted matchers

insert_any : (p : PlainMatcher → Bool) (c : PlainMatcher) (ds rest : List PlainMatcher) → list_any p (insert_matcher c ds ++ rest) ≡ (p c || list_any p (ds ++ rest))
insert_any p c [] rest = refl
insert_any p c (d ∷ ds) rest = go (is_gt (text_order (matcher_text c) (matcher_text d))) (insert_any p c ds rest)
  where
    turned : (a b x : Bool) → (a || (b || x)) ≡ (b || (a || x))
    turned true true x = refl
    turned true false x = refl
    turned false true x = refl
    turned false false x = refl

    go : (b : Bool) → list_any p (insert_matcher c ds ++ rest) ≡ (p c || list_any p (ds ++ rest)) → list_any p (cond b (d ∷ insert_matcher c ds) (c ∷ d ∷ ds) ++ rest) ≡ (p c || (p d || list_any p (ds ++ rest)))
    go true e = ap (λ x. p d || x) e ∙ turned (p d) (p c) (list_any p (ds ++ rest))
    go false e = refl

insert_all : (p : PlainMatcher → Bool) (c : PlainMatcher) (ds rest : List PlainMatcher) → list_all p (insert_matcher c ds ++ rest) ≡ (p c && list_all p (ds ++ rest))
insert_all p c [] rest = refl
insert_all p c (d ∷ ds) rest = go (is_gt (text_order (matcher_text c) (matcher_text d))) (insert_all p c ds rest)
  where
    turned : (a b x : Bool) → (a && (b && x)) ≡ (b && (a && x))
    turned true true x = refl
    turned true false x = refl
    turned false true x = refl
    turned false false x = refl

    go : (b : Bool) → list_all p (insert_matcher c ds ++ rest) ≡ (p c && list_all p (ds ++ rest)) → list_all p (cond b (d ∷ insert_matcher c ds) (c ∷ d ∷ ds) ++ rest) ≡ (p c && (p d && list_all p (ds ++ rest)))
    go true e = ap (λ x. p d && x) e ∙ turned (p d) (p c) (list_all p (ds ++ rest))
    go false e = refl

sorted_any : (p : PlainMatcher → Bool) (cs rest : List PlainMatcher) → list_any p (sorted_matchers cs ++ rest) ≡ list_any p (cs ++ rest)
sorted_any p [] rest = refl
sorted_any p (c ∷ cs) rest = insert_any p c (sorted_matchers cs) rest ∙ ap (λ x. p c || x) (sorted_any p cs rest)

sorted_all : (p : PlainMatcher → Bool) (cs rest : List PlainMatcher) → list_all p (sorted_matchers cs ++ rest) ≡ list_all p (cs ++ rest)
sorted_all p [] rest = refl
sorted_all p (c ∷ cs) rest = insert_all p c (sorted_matchers cs) rest ∙ ap (λ x. p c && x) (sorted_all p cs rest)

none_found : (p : PlainMatcher → Bool) (cs : List PlainMatcher) → find p cs ≡ None → list_any p cs ≡ false
none_found p [] e = refl
none_found p (c ∷ cs) e = go (p c) e (none_found p cs)
  where
    go : (b : Bool) → cond b (Some c) (find p cs) ≡ None → (find p cs ≡ None → list_any p cs ≡ false) → (b || list_any p cs) ≡ false
    go true e later = cc
    go false e later = later e

found_none : (p : PlainMatcher → Bool) (cs : List PlainMatcher) → list_any p cs ≡ false → find p cs ≡ None
found_none p [] e = refl
found_none p (c ∷ cs) e = go (p c) e (found_none p cs)
  where
    go : (b : Bool) → (b || list_any p cs) ≡ false → (list_any p cs ≡ false → find p cs ≡ None) → cond b (Some c) (find p cs) ≡ None
    go true e later = cc
    go false e later = later e

none_of_map : (o : Option PlainMatcher) → option_map value_of o ≡ None → o ≡ None
none_of_map (Some c) e = cc
none_of_map None e = refl

nothing_second : (name : Text) (o : Option Text) → option_map (build_errors.name_twice name) o ≡ None → o ≡ None
nothing_second name (Some v) e = cc
nothing_second name None e = refl

pub named_again : (name : Option Text) (cs : PlainMatchers) → name_fault name cs ≡ None → name_fault name (normal_matchers cs) ≡ None
named_again (Some name) (plain_matchers cs gs) e =
    let p = is_of (codes "__name__") in
    let rest = flat_map (λ g. g) gs in
    let none = none_found p (cs ++ rest) (none_of_map (find p (cs ++ rest)) (nothing_second name (option_map value_of (find p (cs ++ rest))) e)) in
    ap (λ o. option_map (build_errors.name_twice name) (option_map value_of o)) (found_none p (sorted_matchers cs ++ rest) (sorted_any p cs rest ∙ none))
named_again None (plain_matchers cs gs) e =
    ap (λ b. when b build_errors.empty_selector) (sorted_all (λ c. holds c []) cs (flat_map (λ g. g) gs)) ∙ e
