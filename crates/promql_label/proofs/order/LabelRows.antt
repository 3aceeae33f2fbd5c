-- Labels that are searched part by part, each part in a row in order.
use Rattle.std.proofs.Common.{◌≡◌, ℕ, ◌+◌, ◌<◌, Bool, true, false, ◌||◌, leb, leb-true, leb-false, List, [], ◌∷◌, ◌++◌, Result, Ok, Err, is_ok, is_eq, IsPermutation, Bor, Global, length, map, get_or, set, take, string_bytes, refl, sym, ap, ap₂, ◌∙◌, arith}
use Rattle.std.specs.List.{list_any}
use Rattle.std.specs.List.Sorted.{IsBinarySearchResult, IsSearchInRange}
use Rattle.std.specs.Str.{bytes_eq}
use Rattle.std.specs.declared.string.String.{String}
use Rattle.std.proofs.lemmas.Cmp.{nat_list_cmp_total, nat_list_eq_equiv}
use Rattle.std.proofs.lemmas.List.{map-append, map_more, map_push, take_more_set}
use Rattle.std.proofs.lemmas.List.Folds.{list_any-append, list_any_at, list_any_none}
use Rattle.std.proofs.lemmas.List.Sorted.{IsPermutation-map, list_any-IsPermutation, searchable_from_sorted}
use Rattle.std.proofs.lemmas.Map.Text.{is_eq-slice_cmp}
use Rattle.promql_text.specs.Texts.{Text}
use Rattle.promql_label.specs.LabelRows.{IsInOrder, label_texts}
use Rattle.promql_label.specs.Labels.{is_among}
use Rattle.promql_label.specs.SortedTexts.{text_order}
use Rattle.promql_label.proofs.label_lists.CommonLabels.{list_any-map}

-- ---- part by part

none_among : (ls : List Text) → list_any (is_among []) ls ≡ false
none_among [] = refl
none_among (l ∷ ls) = none_among ls

either_way : (a b c d : Bool) → ((a || b) || (c || d)) ≡ ((a || c) || (b || d))
either_way true b c d = refl
either_way false true true d = refl
either_way false true false d = refl
either_way false false c d = refl

any_either : (ks js ls : List Text) → list_any (is_among (ks ++ js)) ls ≡ (list_any (is_among ks) ls || list_any (is_among js) ls)
any_either ks js [] = refl
any_either ks js (l ∷ ls) =
    ap₂ (λ a b. a || b) (list_any-append (bytes_eq l) ks js) (any_either ks js ls)
    ∙ either_way (is_among ks l) (is_among js l) (list_any (is_among ks) ls) (list_any (is_among js) ls)

-- one of the texts is among the labels
abbrev pub meets : List (String Global) → List Text → Bool
meets labels ls = list_any (is_among (map string_bytes labels)) ls

meets_parts : (rest part more : List (String Global)) (ls : List Text) → rest ≡ part ++ more → meets rest ls ≡ (meets part ls || meets more ls)
meets_parts rest part more ls is =
    ap (λ labels. meets labels ls) is
    ∙ ap (λ ks. list_any (is_among ks) ls) (map-append string_bytes part more)
    ∙ any_either (map string_bytes part) (map string_bytes more) ls

pub part_met : (rest part more : List (String Global)) (ls : List Text) (b : Bool) → rest ≡ part ++ more → meets part ls ≡ true → meets rest ls ≡ b → true ≡ b
part_met rest part more ls b is met whole =
    sym (meets_parts rest part more ls is ∙ ap (λ a. a || meets more ls) met) ∙ whole

pub part_missed : (rest part more : List (String Global)) (ls : List Text) (b : Bool) → rest ≡ part ++ more → meets part ls ≡ false → meets rest ls ≡ b → meets more ls ≡ b
part_missed rest part more ls b is missed whole =
    sym (meets_parts rest part more ls is ∙ ap (λ a. a || meets more ls) missed) ∙ whole

pub nothing_met : (rest : List (String Global)) (ls : List Text) (b : Bool) → length rest ≡ 0 → meets rest ls ≡ b → false ≡ b
nothing_met [] ls b none whole = sym (none_among ls) ∙ whole
nothing_met (x ∷ rest) ls b none whole = absurd (omega arith)

-- ---- a label after the other

pub label_met : (p : Text → Bool) (us : List Text) (t : Text) (rest : List Text) (b : Bool) → us ≡ t ∷ rest → p t ≡ true → list_any p us ≡ b → true ≡ b
label_met p us t rest b e h whole = sym (ap (list_any p) e ∙ ap (λ x. x || list_any p rest) h) ∙ whole

pub label_missed : (p : Text → Bool) (us : List Text) (t : Text) (rest : List Text) (b : Bool) → us ≡ t ∷ rest → p t ≡ false → list_any p us ≡ b → list_any p rest ≡ b
label_missed p us t rest b e h whole = sym (ap (list_any p) e ∙ ap (λ x. x || list_any p rest) h) ∙ whole

pub labels_end : (p : Text → Bool) (us : List Text) (b : Bool) → us ≡ [] → list_any p us ≡ b → false ≡ b
labels_end p us b e whole = sym (ap (list_any p) e) ∙ whole

-- ---- the row

blank : Bor Text
blank = record { ref_ptr = (0, 0); now = [] }

same_text : (l s : Text) → bytes_eq l s ≡ is_eq (text_order s l)
same_text l s = nat_list_eq_equiv.symm l s ∙ sym (is_eq-slice_cmp s l)

-- a binary search finds a label exactly if it is among those of a row in order
pub found_in_row : (row : List (Bor Text)) (l : Text) (r : Result ℕ ℕ) → IsInOrder row → IsSearchInRange r (length row)
    → IsBinarySearchResult (λ (s : Bor Text). text_order s.now l) row r → is_ok r ≡ is_among (label_texts row) l
found_in_row row l (Ok i) order within found =
    sym (
    list_any-map (bytes_eq l) (λ (s : Bor Text). s.now) row
    ∙ list_any_at (λ (s : Bor Text). bytes_eq l s.now) row i blank within (same_text l (get_or row i blank).now ∙ ap is_eq (found blank)))
found_in_row row l (Err i) order within found =
    sym (
    list_any-map (bytes_eq l) (λ (s : Bor Text). s.now) row
    ∙ list_any_none (λ (s : Bor Text). bytes_eq l s.now) row (λ k d lt. apart k d lt (leb i k) refl))
  where
    apart : (k : ℕ) (d : Bor Text) → k < length row → (b : Bool) → leb i k ≡ b → bytes_eq l (get_or row k d).now ≡ false
    apart k d lt true e =
        let place = found (searchable_from_sorted nat_list_cmp_total (λ (s : Bor Text). s.now) row l order) in
        same_text l (get_or row k d).now ∙ ap is_eq (place.1 k d (leb-true i k e) lt)
    apart k d lt false e =
        let place = found (searchable_from_sorted nat_list_cmp_total (λ (s : Bor Text). s.now) row l order) in
        same_text l (get_or row k d).now ∙ ap is_eq (place.0 k d (omega arith) (leb-false i k e))

-- the label at i goes to the row's place i
pub text_more : (row : List (Bor Text)) (labels : List (String Global)) (i : ℕ) (x : Bor Text) (y : String Global) → i < length labels → length row ≡ length labels
    → y ≡ get_or labels i y → x.now ≡ string_bytes y → label_texts (take i row) ≡ map string_bytes (take i labels)
    → label_texts (take (i + 1) (set row i x)) ≡ map string_bytes (take (i + 1) labels)
text_more row labels i x y lt long is text so_far =
    ap label_texts (take_more_set row i x (omega arith))
    ∙ map_push (λ (s : Bor Text). s.now) (take i row) x
    ∙ ap₂ (λ ts t. ts ++ t ∷ []) so_far text
    ∙ ap (λ z. map string_bytes (take i labels) ++ string_bytes z ∷ []) is
    ∙ sym (map_more string_bytes labels i y lt)

any_same : (ks js ls : List Text) → ((l : Text) → is_among ks l ≡ is_among js l) → list_any (is_among ks) ls ≡ list_any (is_among js) ls
any_same ks js [] same = refl
any_same ks js (l ∷ ls) same = ap₂ (λ a b. a || b) (same l) (any_same ks js ls same)

-- sorting changes nothing of which labels there are
pub sorted_meets : (row sorted : List (Bor Text)) (labels : List (String Global)) (ls : List Text) → IsPermutation row sorted → label_texts row ≡ map string_bytes labels
    → list_any (is_among (label_texts sorted)) ls ≡ meets labels ls
sorted_meets row sorted labels ls moved is =
    any_same (label_texts sorted) (map string_bytes labels) ls (λ l.
    sym (list_any-IsPermutation (bytes_eq l) (label_texts row) (label_texts sorted) (IsPermutation-map (λ (s : Bor Text). s.now) row sorted moved))
    ∙ ap (λ ks. is_among ks l) is)
