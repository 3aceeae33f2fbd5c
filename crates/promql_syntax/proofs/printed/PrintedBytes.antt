-- The bytes of the items of a printed line: its parts.
use Rattle.std.proofs.Common.{◌≡◌, ℕ, ◌%◌, arith, refl, sym, ◌∙◌, ap, Bool, true, false, cond, not, ◌&&◌, ◌||◌, length, Option, Some, None, List, [], ◌∷◌, ◌++◌, append-nil, append_assoc, map, codes}
use Rattle.std.specs.Prelude.{◌==◌}
use Rattle.std.proofs.lemmas.Bool.{ne_eqb}
use Rattle.std.specs.Int.{is_negative}
use Rattle.std.specs.List.{flat_map}
use Rattle.promql_text.specs.DurationText.{duration_text}
use Rattle.promql_text.specs.Durations.{nanos_of}
use Rattle.promql_text.specs.NumberDigits.{magnitude_text}
use Rattle.promql_text.specs.NumberText.{number_text}
use Rattle.promql_text.specs.Numbers.{negate}
use Rattle.promql_text.specs.Texts.{Text}
use Rattle.promql_text.specs.Values.{is_below_zero}
use Rattle.promql_text.specs.declared.duration.Unit.TheVariants.{Milli}
use Rattle.promql_text.specs.declared.number.Number.{Number}
use Rattle.promql_text.specs.declared.number.Number.TheVariants.{Finite, Inf, NegInf, NaN}
use Rattle.promql_grammar.specs.declared.token_kinds.TokenKind.TheVariants as kind
use Rattle.promql_grammar.specs.Grammar.{Derivation}
use Rattle.promql_grammar.specs.GrammarParts as part
use Rattle.promql_grammar.specs.Symbols.{punct, word}
use Rattle.promql_label.specs.Labels.{label_text, labels_text}
use Rattle.promql_kind.specs.ModifierText.{bool_text, fill_text, fills_text, grouping_text, matched_text}
use Rattle.promql_kind.specs.Modifiers.{Clause, including, excluding, Cardinality, one_to_one, many_to_one, one_to_many, many_to_many, Fills, fills, Matching, matching, is_grouping, number_eq}
use Rattle.promql_ast.specs.Normal.{normal_matched}
use Rattle.promql_ast.specs.Shifts.{Shift, back, ahead, Moment, at_start, at_end, at_time, at_text, moment_text, offset_text, shift_text, time_text}
use Rattle.promql_ast.specs.declared.range_mode.RangeMode.{RangeMode}
use Rattle.promql_ast.specs.declared.range_mode.RangeMode.TheVariants.{Plain, Smoothed, Anchored}
use Rattle.promql_ast.specs.node.Aggregate.{clause_text}
use Rattle.promql_ast.specs.node.Binary.{matching_text}
use Rattle.promql_ast.specs.node.Matrix.{mode_text}
use Rattle.promql_syntax.proofs.readback.Derive.{with_at, with_mode, with_suffix}
use Rattle.promql_syntax.proofs.printed.PrintedItems.{Item, token, blank, newline, render, spell, before_line, fills_line, flag_line, group_line, labels_line, line, matching_line, modifier_line, names_line, postfix_line, signed_line, time_line, value_line}
use Rattle.promql_syntax.proofs.printed.PrintedParts.{clause, fill_words, flag, group, labels, magnitude, matching_of_clause, modifier, moment, names, seconds_text, shift, time, value}
use Rattle.promql_syntax.proofs.printed.PrintedParts as printed
use Rattle.promql_syntax.proofs.printed.PrintedModifiers.{IsGroupedAfter, IsMatched}

pub render_append : (is js : List Item) → render (is ++ js) ≡ render is ++ render js
render_append [] js = refl
render_append (token s ∷ is) js = ap (λ t. spell s ++ t) (render_append is js) ∙ sym (append_assoc (spell s) (render is) (render js))
render_append (blank ∷ is) js = ap (λ t. 32 ∷ t) (render_append is js)
render_append (newline ∷ is) js = ap (λ t. 10 ∷ t) (render_append is js)

-- two parts whose bytes are known
pub render_both : (is js : List Item) (s t : Text) → render is ≡ s → render js ≡ t → render (is ++ js) ≡ s ++ t
render_both is js s t e f = render_append is js ∙ (λ i. e i ++ f i)

-- ---- labels and groupings

abbrev after_comma : List Text → Text
after_comma ts = flat_map (λ t. codes ", " ++ t) ts

names_bytes : (l : Text) (ls : List Text) → render (names_line (names l ls)) ≡ (label_text l ++ after_comma (map label_text ls)) ++ codes ")"
names_bytes l [] = ap (λ t. t ++ codes ")") (sym (append-nil (label_text l)))
names_bytes l (k ∷ ls) =
    ap (λ t. label_text l ++ (codes ", " ++ t)) (names_bytes k ls)
    ∙ sym (append_assoc (label_text l) (codes ", " ++ (label_text k ++ after_comma (map label_text ls))) (codes ")"))

pub labels_bytes : (ls : List Text) → render (labels_line (labels ls)) ≡ codes "(" ++ (labels_text ls ++ codes ")")
labels_bytes [] = refl
labels_bytes (l ∷ ls) = ap (λ t. codes "(" ++ t) (names_bytes l ls)

spaced_bytes : (ls : List Text) → render (labels_line (labels ls) ++ blank ∷ []) ≡ codes "(" ++ (labels_text ls ++ codes ") ")
spaced_bytes ls =
    render_both (labels_line (labels ls)) (blank ∷ []) _ (codes " ") (labels_bytes ls) refl
    ∙ ap (λ t. codes "(" ++ t) (append_assoc (labels_text ls) (codes ")") (codes " "))

pub clause_bytes : (m : Option Clause) → render (before_line (clause m)) ≡ clause_text m
clause_bytes None = refl
clause_bytes (Some (including [])) = refl
clause_bytes (Some (including (l ∷ ls))) = ap (λ t. codes " by " ++ t) (spaced_bytes (l ∷ ls))
clause_bytes (Some (excluding ls)) = ap (λ t. codes " without " ++ t) (spaced_bytes ls)

-- ---- numbers and times

pub number_split : (n : Number) (rest : Text) → render (signed_line (printed.sign (is_below_zero n))) ++ (number_text (magnitude n) ++ rest) ≡ number_text n ++ rest
number_split (Finite d) rest = go d.is_negative refl
  where
    go : (b : Bool) → d.is_negative ≡ b → render (signed_line (printed.sign b)) ++ (number_text (cond b (Finite (negate d)) (Finite d)) ++ rest) ≡ number_text (Finite d) ++ rest
    go true e =
        (λ i. 45 ∷ ((cond (not (e i) && not (d.digits == 0)) (45 ∷ []) [] ++ magnitude_text d) ++ rest))
        ∙ sym (λ i. (cond (e i) (45 ∷ []) [] ++ magnitude_text d) ++ rest)
    go false e = refl
number_split Inf rest = refl
number_split NegInf rest = refl
number_split NaN rest = refl

value_bytes : (n : Number) → render (value_line (value n)) ≡ codes " (" ++ (number_text n ++ codes ")")
value_bytes n =
    ap (λ t. codes " (" ++ t)
    (render_append (signed_line (printed.sign (is_below_zero n))) (token (word kind.Number (number_text (magnitude n))) ∷ token (punct kind.RightParen) ∷ [])
    ∙ number_split n (codes ")"))

pub time_bytes : (n : ℕ) → render (time_line (time n)) ≡ duration_text n
time_bytes n = go (n % nanos_of Milli == 0)
  where
    go : (b : Bool) → render (time_line (cond b (part.duration (duration_text n)) (part.seconds (duration_text n)))) ≡ duration_text n
    go true = append-nil (duration_text n)
    go false = append-nil (duration_text n)

pub moment_bytes : (m : Moment) → render (postfix_line (moment m)) ≡ codes " " ++ moment_text m
unfolding seconds_text time_text
moment_bytes at_start = refl
moment_bytes at_end = refl
moment_bytes (at_time t) =
    ap (λ x. codes " @ " ++ x) (render_both (signed_line (printed.sign (is_negative t))) (token (word kind.Number (seconds_text t)) ∷ []) (cond (is_negative t) (codes "-") []) (seconds_text t) (go (is_negative t)) (append-nil (seconds_text t)))
  where
    go : (b : Bool) → render (signed_line (printed.sign b)) ≡ cond b (codes "-") []
    go true = refl
    go false = refl

pub shift_bytes : (s : Shift) → render (postfix_line (shift s)) ≡ codes " offset " ++ shift_text s
shift_bytes (back n) = ap (λ t. codes " offset " ++ t) (time_bytes n)
shift_bytes (ahead n) = ap (λ t. codes " offset -" ++ t) (time_bytes n)

at_bytes : (a : Option Moment) (d : Derivation) (t : Text) → render (line d) ≡ t → render (line (with_at a d)) ≡ t ++ at_text a
at_bytes None d t e = e ∙ sym (append-nil t)
at_bytes (Some m) d t e = render_both (line d) (postfix_line (moment m)) t _ e (moment_bytes m)

pub suffix_bytes : (o : Option Shift) (a : Option Moment) (d : Derivation) (t : Text) → render (line d) ≡ t → render (line (with_suffix o a d)) ≡ t ++ (at_text a ++ offset_text o)
suffix_bytes None a d t e = at_bytes a d t e ∙ ap (λ x. t ++ x) (sym (append-nil (at_text a)))
suffix_bytes (Some s) a d t e =
    render_both (line (with_at a d)) (postfix_line (shift s)) (t ++ at_text a) _ (at_bytes a d t e) (shift_bytes s)
    ∙ append_assoc t (at_text a) (offset_text (Some s))

pub mode_bytes : (m : RangeMode) (d : Derivation) (t : Text) → render (line d) ≡ t → render (line (with_mode m d)) ≡ t ++ mode_text m
mode_bytes Plain d t e = e ∙ sym (append-nil t)
mode_bytes Smoothed d t e = render_both (line d) (postfix_line (part.mode true (codes "smoothed"))) t _ e refl
mode_bytes Anchored d t e = render_both (line d) (postfix_line (part.mode false (codes "anchored"))) t _ e refl

-- ---- modifiers

group_bytes : (card : Cardinality) → render (group_line (group card)) ≡ grouping_text card
group_bytes one_to_one = refl
group_bytes (many_to_one ls) = ap (λ t. codes " group_left " ++ t) (labels_bytes ls)
group_bytes (one_to_many ls) = ap (λ t. codes " group_right " ++ t) (labels_bytes ls)
group_bytes many_to_many = refl

labels_then : (ls : List Text) (card : Cardinality) → render (labels_line (labels ls) ++ group_line (group card)) ≡ (codes "(" ++ (labels_text ls ++ codes ")")) ++ grouping_text card
labels_then ls card = render_both (labels_line (labels ls)) (group_line (group card)) _ _ (labels_bytes ls) (group_bytes card)

-- after `ignoring`, where the list is empty or not
abbrev ignoring_text : List Text → Bool → Cardinality → Text
ignoring_text ls is_empty card = cond (not is_empty || is_grouping card) (codes " ignoring (" ++ (labels_text ls ++ codes ")")) [] ++ grouping_text card

ignored : (l : Text) (ls : List Text) (card : Cardinality) (t : Text) → t ≡ ignoring_text (l ∷ ls) false card → t ≡ matched_text (is_grouping card) (Some (excluding (l ∷ ls))) ++ grouping_text card
ignored l ls card t h = h ∙ sym (ap (λ is_empty. ignoring_text (l ∷ ls) is_empty card) (ne_eqb (length (l ∷ ls)) 0 (omega arith)))

matching_bytes : (c : Option Clause) (card : Cardinality) → IsGroupedAfter c card → render (matching_line (matching_of_clause (normal_matched (is_grouping card) c) (group card))) ≡ matched_text (is_grouping card) c ++ grouping_text card
matching_bytes None one_to_one h = refl
matching_bytes None (many_to_one ls) h = absurd h
matching_bytes None (one_to_many ls) h = absurd h
matching_bytes None many_to_many h = refl
matching_bytes (Some (including ls)) one_to_one h = ap (λ t. codes " on " ++ t) (labels_then ls one_to_one)
matching_bytes (Some (including ls)) (many_to_one ks) h = ap (λ t. codes " on " ++ t) (labels_then ls (many_to_one ks))
matching_bytes (Some (including ls)) (one_to_many ks) h = ap (λ t. codes " on " ++ t) (labels_then ls (one_to_many ks))
matching_bytes (Some (including ls)) many_to_many h = ap (λ t. codes " on " ++ t) (labels_then ls many_to_many)
matching_bytes (Some (excluding [])) one_to_one h = refl
matching_bytes (Some (excluding [])) (many_to_one ks) h = ap (λ t. codes " ignoring " ++ t) (labels_then [] (many_to_one ks))
matching_bytes (Some (excluding [])) (one_to_many ks) h = ap (λ t. codes " ignoring " ++ t) (labels_then [] (one_to_many ks))
matching_bytes (Some (excluding [])) many_to_many h = refl
matching_bytes (Some (excluding (l ∷ ls))) one_to_one h = ignored l ls one_to_one _ (ap (λ t. codes " ignoring " ++ t) (labels_then (l ∷ ls) one_to_one))
matching_bytes (Some (excluding (l ∷ ls))) (many_to_one ks) h = ignored l ls (many_to_one ks) _ (ap (λ t. codes " ignoring " ++ t) (labels_then (l ∷ ls) (many_to_one ks)))
matching_bytes (Some (excluding (l ∷ ls))) (one_to_many ks) h = ignored l ls (one_to_many ks) _ (ap (λ t. codes " ignoring " ++ t) (labels_then (l ∷ ls) (one_to_many ks)))
matching_bytes (Some (excluding (l ∷ ls))) many_to_many h = ignored l ls many_to_many _ (ap (λ t. codes " ignoring " ++ t) (labels_then (l ∷ ls) many_to_many))

fills_bytes : (f : Fills) → render (fills_line (fill_words f)) ≡ fills_text f
fills_bytes (fills None None) = refl
fills_bytes (fills (Some r) None) = ap (λ t. codes " fill_right" ++ t) (value_bytes r)
fills_bytes (fills None (Some l)) = ap (λ t. codes " fill_left" ++ t) (value_bytes l)
fills_bytes (fills (Some r) (Some l)) = go (number_eq l r)
  where
    go : (b : Bool) → render (fills_line (cond b (part.both (codes "fill") (value l)) (part.two true (codes "fill_left") (value l) (codes "fill_right") (value r))))
        ≡ cond b (fill_text (codes " fill (") l) (fill_text (codes " fill_left (") l ++ fill_text (codes " fill_right (") r)
    go true = ap (λ t. codes " fill" ++ t) (value_bytes l)
    go false =
        ap (λ t. codes " fill_left" ++ t)
        (render_both (value_line (value l)) (blank ∷ token (word kind.FillRight (codes "fill_right")) ∷ value_line (value r)) _ (fill_text (codes " fill_right (") r) (value_bytes l) (ap (λ t. codes " fill_right" ++ t) (value_bytes r)))

flag_bytes : (b : Bool) → render (flag_line (flag b)) ≡ bool_text b
flag_bytes true = refl
flag_bytes false = refl

pub modifier_bytes : (m : Option Matching) → IsMatched m → render (modifier_line (modifier m)) ≡ matching_text m
modifier_bytes None h = refl
modifier_bytes (Some (matching card c b values)) h =
    let m = matching_of_clause (normal_matched (is_grouping card) c) (group card) in
    render_both (flag_line (flag b)) (matching_line m ++ fills_line (fill_words values)) _ _ (flag_bytes b)
    (render_both (matching_line m) (fills_line (fill_words values)) _ _ (matching_bytes c card h.0) (fills_bytes values)
    ∙ append_assoc (matched_text (is_grouping card) c) (grouping_text card) (fills_text values))
