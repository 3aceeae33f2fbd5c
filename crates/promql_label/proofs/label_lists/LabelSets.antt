-- Labels that wait in a set, and are taken from it where a list has them first.
use Rattle.std.proofs.Common.{◌≡◌, ℕ, ◌+◌, ◌<◌, Bool, true, false, cond, not, ◌&&◌, ◌||◌, if◌then◌else◌, List, [], ◌∷◌, ◌++◌, Bor, Global, length, map, get_or, take, string_bytes, refl, sym, ap, ◌∙◌}
use Rattle.std.specs.BTreeMap.{is_at}
use Rattle.std.specs.BTreeSet.{BTreeSet, UpdatesBy}
use Rattle.std.specs.List.{list_any}
use Rattle.std.specs.Str.{bytes_eq}
use Rattle.std.specs.declared.string.String.{String}
use Rattle.std.proofs.lemmas.Cmp.{nat_list_eq_equiv}
use Rattle.std.proofs.lemmas.List.{map_more}
use Rattle.std.proofs.lemmas.List.Folds.{list_any-append}
use Rattle.std.proofs.lemmas.Map.Text.{is_eq-slice_cmp}
use Rattle.promql_text.specs.Texts.{Text}
use Rattle.promql_label.specs.LabelSets.{has_text}
use Rattle.promql_label.specs.Labels.{common, is_among}
use Rattle.promql_label.specs.SortedTexts.{text_order}
use Rattle.promql_label.proofs.label_lists.CommonLabels.{common-push, is_among-common}

-- ---- the set

pub empty_set : (s : BTreeSet (Bor Text)) (t : Text) → s.keys ≡ [] → has_text s t ≡ false
empty_set s t none = ap (list_any (is_at (λ (k : Bor Text). text_order t k.now))) none

-- which texts a set has after a change at one of them
pub set_after : (l : Text) (s n : BTreeSet (Bor Text)) (b : Bool) → UpdatesBy (λ (x y : Bor Text). text_order x.now y.now) (λ k. text_order l k.now) s n b
    → (t : Text) → has_text n t ≡ cond (bytes_eq l t) b (has_text s t)
set_after l s n b h t = h.0 (record { ref_ptr = (0, 0); now = t }) ∙ ap (λ c. cond c b (has_text s t)) (is_eq-slice_cmp l t)

pub without : (e a : Bool) → cond e false a ≡ (a && not e)
without true true = refl
without true false = refl
without false true = refl
without false false = refl

pub and-true : (b : Bool) → (b && true) ≡ b
and-true true = refl
and-true false = refl

-- ---- one label more

pub next_label : (labels : List (String Global)) (i : ℕ) (y : String Global) (t : Text) → i < length labels → y ≡ get_or labels i y → t ≡ string_bytes y
    → map string_bytes (take (i + 1) labels) ≡ map string_bytes (take i labels) ++ t ∷ []
next_label labels i y t lt is text =
    map_more string_bytes labels i y lt
    ∙ ap (λ z. map string_bytes (take i labels) ++ string_bytes z ∷ []) (sym is)
    ∙ ap (λ l. map string_bytes (take i labels) ++ l ∷ []) (sym text)

pub text_put : (before : List Text) (l t : Text) (a n : Bool) → n ≡ cond (bytes_eq l t) true a → a ≡ is_among before t → n ≡ is_among (before ++ l ∷ []) t
text_put before l t a n is old =
    is
    ∙ ap (cond (bytes_eq l t) true) old
    ∙ either (bytes_eq l t) (is_among before t)
    ∙ ap (λ e. is_among before t || (e || false)) (nat_list_eq_equiv.symm l t)
    ∙ sym (list_any-append (bytes_eq t) before (l ∷ []))
  where
    either : (e s : Bool) → cond e true s ≡ (s || (e || false))
    either true true = refl
    either true false = refl
    either false true = refl
    either false false = refl

pub text_taken : (before others : List Text) (l t : Text) (a n : Bool) → n ≡ (a && not (bytes_eq l t)) → a ≡ (is_among others t && not (is_among before t))
    → n ≡ (is_among others t && not (is_among (before ++ l ∷ []) t))
text_taken before others l t a n is old =
    is
    ∙ ap (λ b. b && not (bytes_eq l t)) old
    ∙ neither (bytes_eq l t) (is_among others t) (is_among before t)
    ∙ ap (λ e. is_among others t && not (is_among before t || (e || false))) (nat_list_eq_equiv.symm l t)
    ∙ ap (λ b. is_among others t && not b) (sym (list_any-append (bytes_eq t) before (l ∷ [])))
  where
    neither : (e o s : Bool) → ((o && not s) && not e) ≡ (o && not (s || (e || false)))
    neither e false s = refl
    neither e true true = refl
    neither true true false = refl
    neither false true false = refl

-- a label that the set still has is the next of the common labels
pub common_taken : (before others : List Text) (l : Text) (b : Bool) → b ≡ (is_among others l && not (is_among before l))
    → common before others ++ (if b then l ∷ [] else []) ≡ common (before ++ l ∷ []) others
common_taken before others l b is =
    ap (λ c. common before others ++ (if c then l ∷ [] else [])) (
    is
    ∙ twice (is_among others l) (is_among before l)
    ∙ ap (λ c. is_among others l && not c) (sym (is_among-common before others l))
    )
    ∙ sym (common-push before others l)
  where
    twice : (o s : Bool) → (o && not s) ≡ (o && not (o && s))
    twice true s = refl
    twice false s = refl
