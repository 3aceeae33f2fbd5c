-- How many bytes labels and matchers have, from how many their parts have.
use Rattle.std.proofs.Common.{◌≡◌, ℕ, ◌+◌, true, false, List, [], ◌∷◌, ◌++◌, length, map, codes, Vec, Global, refl, sym, ap, ◌∙◌, length-append, arith}
use Rattle.std.specs.Prelude.{◌==◌, if◌then◌else◌}
use Rattle.std.proofs.lemmas.Bool.{eqb-true}
use Rattle.std.proofs.lemmas.Simd.{map-map}
use Rattle.std.specs.List.{flat_map}
use Rattle.std.specs.Ordering.{is_gt}
use Rattle.promql_text.specs.Quoting.{quoted_text}
use Rattle.promql_text.specs.Texts.{Text, joined_text}
use Rattle.promql_text.specs.PrintedLen.{cap_usize, printed_len}
use Rattle.promql_label.specs.PlainMatchers.{PlainMatcher, plain_matcher, plain_matchers, Operator, name_text, operator_text, matcher_text, group_text, matchers_text}
use Rattle.promql_label.specs.MatcherViews.{plain_matcher_of}
use Rattle.promql_label.specs.declared.matcher.Matcher.{Matcher}
use Rattle.promql_label.specs.SortedTexts.{text_order, insert_text, sorted_texts}

pub matcher_width_of : (op : Operator) (name value : Text) (a b c d e : ℕ) → a ≡ printed_len (name_text name) → b ≡ length (operator_text op) → c ≡ cap_usize (a + b) → d ≡ printed_len (quoted_text value) → e ≡ cap_usize (c + d)
    → e ≡ printed_len (matcher_text (plain_matcher op name value))
matcher_width_of op name value a b c d e p q r s t =
    omega (arith, p, q, r, s, t, length-append (name_text name) (operator_text op ++ quoted_text value), length-append (operator_text op) (quoted_text value))

-- the bytes of texts, and of a separator for each
abbrev bytes : Text → List Text → ℕ
bytes sep [] = 0
bytes sep (t ∷ ts) = length t + length sep + bytes sep ts

bytes_after : (sep : Text) (ts : List Text) → length (flat_map (λ t. sep ++ t) ts) ≡ bytes sep ts
bytes_after sep [] = refl
bytes_after sep (t ∷ ts) = omega (arith, length-append (sep ++ t) (flat_map (λ u. sep ++ u) ts), length-append sep t, bytes_after sep ts)

bytes_joined : (sep t : Text) (ts : List Text) → length (joined_text sep (t ∷ ts)) + length sep ≡ bytes sep (t ∷ ts)
bytes_joined sep t ts = omega (arith, length-append t (flat_map (λ u. sep ++ u) ts), bytes_after sep ts)

bytes_insert : (sep t : Text) (us : List Text) → bytes sep (insert_text t us) ≡ bytes sep (t ∷ us)
bytes_insert sep t [] = refl
bytes_insert sep t (u ∷ us) =
    elim (is_gt (text_order t u)) as (λ b. bytes sep (if b then u ∷ insert_text t us else t ∷ u ∷ us) ≡ bytes sep (t ∷ u ∷ us)) [ true ↦ (let more : length u + length sep + bytes sep (insert_text t us) ≡ bytes sep (t ∷ u ∷ us) = omega (arith, bytes_insert sep t us) in more) | false ↦ refl ]

bytes_sorted : (sep : Text) (ts : List Text) → bytes sep (sorted_texts ts) ≡ bytes sep ts
bytes_sorted sep [] = refl
bytes_sorted sep (t ∷ ts) = omega (arith, bytes_insert sep t (sorted_texts ts), bytes_sorted sep ts)

joined_insert : (sep t : Text) (us : List Text) → length (joined_text sep (insert_text t us)) + length sep ≡ bytes sep (insert_text t us)
joined_insert sep t [] = bytes_joined sep t []
joined_insert sep t (u ∷ us) =
    elim (is_gt (text_order t u)) as (λ b. length (joined_text sep (if b then u ∷ insert_text t us else t ∷ u ∷ us)) + length sep ≡ bytes sep (if b then u ∷ insert_text t us else t ∷ u ∷ us))
    [ true ↦ bytes_joined sep u (insert_text t us) | false ↦ bytes_joined sep t (u ∷ us) ]

-- sorting changes no length
pub sorted_length : (sep : Text) (ts : List Text) → length (joined_text sep (sorted_texts ts)) ≡ length (joined_text sep ts)
sorted_length sep [] = refl
sorted_length sep (t ∷ ts) = omega (arith, joined_insert sep t (sorted_texts ts), bytes_sorted sep (t ∷ ts), bytes_joined sep t ts)

view : Vec Matcher Global → List PlainMatcher
view g = map plain_matcher_of g.items

-- a list without groups
pub plain_len : (cs : List PlainMatcher) (groups : List (Vec Matcher Global)) (n : ℕ) → (length groups == 0) ≡ true → n ≡ printed_len (joined_text (codes ",") (map matcher_text cs))
    → n ≡ printed_len (matchers_text (plain_matchers cs (map (λ g. map plain_matcher_of g.items) groups)))
plain_len cs [] n none p = omega (arith, p, sorted_length (codes ",") (map matcher_text cs))
plain_len cs (g ∷ groups) n none p = absurd (omega (arith, eqb-true (length (g ∷ groups)) 0 none))

-- a list with groups
pub grouped_len : (cs : List PlainMatcher) (groups : List (Vec Matcher Global)) (n : ℕ) → (length groups == 0) ≡ false → n ≡ printed_len (joined_text (codes " or ") (map (λ g. group_text (map plain_matcher_of g.items)) groups))
    → n ≡ printed_len (matchers_text (plain_matchers cs (map (λ g. map plain_matcher_of g.items) groups)))
unfolding view
grouped_len cs [] n some p = cc
grouped_len cs (g ∷ groups) n some p = p ∙ ap (λ ts. printed_len (joined_text (codes " or ") ts)) (sym (map-map group_text view (g ∷ groups)))
