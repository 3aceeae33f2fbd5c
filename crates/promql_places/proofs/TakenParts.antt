-- What is taken for a part are its tokens, exactly.
use Rattle.std.proofs.Common.{◌≡◌, refl, ◌∙◌, ap, sym, ℕ, ◌+◌, arith, Bool, true, false, List, [], ◌∷◌, ◌++◌, append_assoc, length, length-append, map, Option, Some, None}
use Rattle.std.specs.Option.{option_map_or}
use Rattle.std.specs.Prelude.{if◌then◌else◌}
use Rattle.std.proofs.lemmas.List.{length-map}
use Rattle.promql_text.specs.Texts.{Text}
use Rattle.promql_grammar.specs.declared.token_kinds.TokenKind.{TokenKind}
use Rattle.promql_grammar.specs.declared.token_kinds.TokenKind.TheVariants as kind
use Rattle.promql_grammar.specs.Symbols.{Symbol, punct, word, begins, may_be_label}
use Rattle.promql_grammar.specs.Grammar.{OpensNoParen, FitsMatching}
use Rattle.promql_grammar.specs.GrammarParts.{Time, seconds, duration, Signed, Labels, no_label, last, next, Group, Matching, FillValue, Fills, no_fill, both, one, two, Modifier, MatchOperator, equal, not_equal, equal_regex, not_equal_regex, Item, matcher, lone, Separator, Items, last_item, next_item, Braces, Postfix, range, subquery, at_number, at_bound, offset, mode, yield_time, yield_signed, yield_names, yield_labels, yield_grouping, yield_group, yield_matching, yield_value, yield_fills, yield_modifier, yield_match_operator, yield_item, yield_items, yield_separator, yield_braces, yield_postfix, IsLabels, IsMatching}
use Rattle.promql_grammar.specs.PartTokens.{yield_flag, yield_step, yield_any_braces, IsGroup}
use Rattle.promql_grammar.proofs.GrammarChoices.{if_false}
use Rattle.promql_places.specs.NodeParts.{PartTokens, group_parts, item_parts, label_parts, matcher_parts, matching_parts}
use Rattle.promql_places.specs.Pieces.{piece, postfix_kind}
use Rattle.promql_places.specs.PartSteps as step
use Rattle.promql_places.specs.PartSteps.{PartSpan, Taken, also, and_then}
use Rattle.promql_places.specs.Skipping.{front, kind_of, kinds, is_closing, is_left_brace, skip_brackets, skip_fill, skip_flag}
use Rattle.promql_places.specs.declared.parts.PartKind.{PartKind}
use Rattle.promql_places.specs.declared.parts.PartKind.TheVariants as part

-- ---- parts by counts

abbrev pub span_of : PartTokens → PartSpan
span_of p = (p.0, (p.1 + p.2, p.2))

abbrev pub spans : List PartTokens → List PartSpan
spans ps = map span_of ps

pub spans_joined : (ps qs : List PartTokens) → spans (ps ++ qs) ≡ spans ps ++ spans qs
spans_joined [] qs = refl
spans_joined (p ∷ ps) qs = ap (λ l. span_of p ∷ l) (spans_joined ps qs)

pub kinds_length : (ts : List Symbol) → length (kinds ts) ≡ length ts
kinds_length ts = length-map ts kind_of

pub kinds_count : (ts rest : List Symbol) → length (kinds (ts ++ rest)) ≡ length ts + length rest
kinds_count ts rest = kinds_length (ts ++ rest) ∙ length-append ts rest

-- a part from here to there
pub span_is : (p : PartKind) (x y n k : ℕ) → x ≡ n + k → y ≡ k → (let s : PartSpan = (p, (x, y)) in s) ≡ span_of (piece p n k)
span_is p x y n k e f = λ i. (p, (e i, f i))

pub first_is : (r q : Taken) (x y : PartSpan) → x ≡ y → r ≡ q → also x r ≡ also y q
first_is r q x y e f = λ i. also (e i) (f i)

-- ---- lists in brackets

label_open : (k : TokenKind) → may_be_label k ≡ true → is_closing k ≡ false
label_open kind.RightParen h = cc
label_open kind.RightBrace h = cc
label_open kind.RightBracket h = cc
label_open k h = refl

names_taken : (p : PartKind) (ls : Labels) (rest : List Symbol) → IsLabels ls → step.items p (kinds (yield_names ls ++ rest)) ≡ (spans (label_parts p (length rest) ls), kinds rest)
names_taken p no_label rest h = refl
names_taken p (last k t) rest h =
    let n = kinds_length rest in
    if_false _ _ _ (label_open k h) ∙ ap (λ (x : PartSpan). (x ∷ [], kinds rest)) (span_is p _ _ 1 (1 + length rest) (omega arith) (omega arith))
names_taken p (next k t ls) rest h =
    let n = kinds_count (yield_names ls) rest in
    if_false _ _ _ (label_open k h.0)
    ∙ first_is _ _ _ _ (span_is p _ _ 1 (1 + (length (yield_names ls) + length rest)) (omega arith) (omega arith)) (names_taken p ls rest h.1)

pub labels_taken : (p : PartKind) (ls : Labels) (rest : List Symbol) → IsLabels ls → step.labels p (kinds (yield_labels ls ++ rest)) ≡ (spans (label_parts p (length rest) ls), kinds rest)
labels_taken p ls rest h = names_taken p ls rest h

operator_inside : (s : MatchOperator) (p : PartKind) (n : ℕ) (value : Text) (rest : List Symbol) → step.in_item p n (kinds (yield_match_operator s ∷ word kind.String value ∷ rest)) ≡ step.in_item p n (kinds rest)
operator_inside equal p n value rest = refl
operator_inside (not_equal t) p n value rest = refl
operator_inside equal_regex p n value rest = refl
operator_inside not_equal_regex p n value rest = refl

item_inside : (i : Item) (p : PartKind) (rest : List Symbol) → step.items p (kinds (yield_item i ++ rest)) ≡ step.in_item p (length (kinds (yield_item i ++ rest))) (kinds rest)
item_inside (matcher true t s value) p rest = operator_inside s p _ value rest
item_inside (matcher false t s value) p rest = operator_inside s p _ value rest
item_inside (lone t) p rest = refl

separator_ends : (s : Separator) (p : PartKind) (n : ℕ) (rest : List Symbol) → step.in_item p n (kinds (yield_separator s ∷ rest)) ≡ also (p, (n, length (kinds (yield_separator s ∷ rest)))) (step.items p (kinds rest))
separator_ends None p n rest = refl
separator_ends (Some t) p n rest = refl

items_taken : (is : Items) (rest : List Symbol) → step.items part.Matcher (kinds (yield_items is ++ rest)) ≡ (spans (item_parts (length rest) is), kinds rest)
items_taken (last_item i false) rest =
    let n = kinds_count (yield_item i) (punct kind.RightBrace ∷ rest) in
    let m = kinds_length rest in
    ap (λ ts. step.items part.Matcher (kinds ts)) (append_assoc (yield_item i) (punct kind.RightBrace ∷ []) rest)
    ∙ item_inside i part.Matcher (punct kind.RightBrace ∷ rest)
    ∙ ap (λ (x : PartSpan). (x ∷ [], kinds rest)) (span_is part.Matcher _ _ (length (yield_item i)) (1 + length rest) (omega arith) (omega arith))
items_taken (last_item i true) rest =
    let n = kinds_count (yield_item i) (punct kind.Comma ∷ punct kind.RightBrace ∷ rest) in
    let m = kinds_length rest in
    ap (λ ts. step.items part.Matcher (kinds ts)) (append_assoc (yield_item i) (punct kind.Comma ∷ punct kind.RightBrace ∷ []) rest)
    ∙ item_inside i part.Matcher (punct kind.Comma ∷ punct kind.RightBrace ∷ rest)
    ∙ ap (λ (x : PartSpan). (x ∷ [], kinds rest)) (span_is part.Matcher _ _ (length (yield_item i)) (2 + length rest) (omega arith) (omega arith))
items_taken (next_item i s is) rest =
    let n = kinds_count (yield_item i) (yield_separator s ∷ (yield_items is ++ rest)) in
    let j = length-append (yield_items is) rest in
    let m = kinds_count (yield_items is) rest in
    ap (λ ts. step.items part.Matcher (kinds ts)) (append_assoc (yield_item i) (yield_separator s ∷ yield_items is) rest)
    ∙ item_inside i part.Matcher (yield_separator s ∷ (yield_items is ++ rest))
    ∙ separator_ends s part.Matcher _ (yield_items is ++ rest)
    ∙ first_is _ _ _ _ (span_is part.Matcher _ _ (length (yield_item i)) (1 + (length (yield_items is) + length rest)) (omega arith) (omega arith)) (items_taken is rest)

pub braces_taken : (b : Braces) (rest : List Symbol) → step.braces (kinds (yield_braces b ++ rest)) ≡ (spans (matcher_parts (length rest) b), kinds rest)
braces_taken None rest = refl
braces_taken (Some is) rest = items_taken is rest

-- none, where no brace follows
pub any_braces_taken : (b : Option Braces) (rest : List Symbol) → is_left_brace (front (kinds rest)) ≡ false
    → step.braces (kinds (yield_any_braces b ++ rest)) ≡ (spans (option_map_or (matcher_parts (length rest)) b []), kinds rest)
any_braces_taken None rest free = if_false _ _ _ free
any_braces_taken (Some b) rest free = braces_taken b rest

-- ---- through a closing bracket

sign_skipped : (s : Signed) (rest : List Symbol) → skip_brackets (kinds (yield_signed s ++ rest)) ≡ skip_brackets (kinds rest)
sign_skipped None rest = refl
sign_skipped (Some (minus, t)) rest = refl

pub value_skipped : (v : FillValue) (rest : List Symbol) → skip_brackets (kinds (yield_value v ++ rest)) ≡ kinds rest
value_skipped v rest =
    ap (λ ts. skip_brackets (kinds ts)) (append_assoc (yield_signed v.0) (word kind.Number v.1 ∷ punct kind.RightParen ∷ []) rest)
    ∙ sign_skipped v.0 (word kind.Number v.1 ∷ punct kind.RightParen ∷ rest)

time_skipped : (t : Time) (rest : List Symbol) → skip_brackets (kinds (yield_time t ++ rest)) ≡ skip_brackets (kinds rest)
time_skipped (seconds t) rest = refl
time_skipped (duration t) rest = refl

step_skipped : (s : Option Time) (rest : List Symbol) → skip_brackets (kinds (yield_step s ++ rest)) ≡ skip_brackets (kinds rest)
step_skipped None rest = refl
step_skipped (Some t) rest = time_skipped t rest

pub range_skipped : (t : Time) (rest : List Symbol) → skip_brackets (kinds (yield_postfix (range t) ++ rest)) ≡ kinds rest
range_skipped t rest = ap (λ ts. skip_brackets (kinds ts)) (append_assoc (yield_time t) (punct kind.RightBracket ∷ []) rest) ∙ time_skipped t (punct kind.RightBracket ∷ rest)

pub subquery_skipped : (t : Time) (s : Option Time) (rest : List Symbol) → skip_brackets (kinds (yield_postfix (subquery t s) ++ rest)) ≡ kinds rest
subquery_skipped t s rest =
    ap (λ ts. skip_brackets (kinds ts)) (append_assoc (yield_time t) (punct kind.Colon ∷ (yield_step s ++ punct kind.RightBracket ∷ [])) rest)
    ∙ time_skipped t (punct kind.Colon ∷ ((yield_step s ++ punct kind.RightBracket ∷ []) ++ rest))
    ∙ ap (λ ts. skip_brackets (kinds ts)) (append_assoc (yield_step s) (punct kind.RightBracket ∷ []) rest)
    ∙ step_skipped s (punct kind.RightBracket ∷ rest)

-- ---- clauses

pub grouping_taken : (by : Bool) (t : Text) (ls : Labels) (rest : List Symbol) → IsLabels ls → step.clause (kinds (yield_grouping (by, t, ls) ++ rest)) ≡ (spans (label_parts part.Label (length rest) ls), kinds rest)
grouping_taken true t ls rest h = labels_taken part.Label ls rest h
grouping_taken false t ls rest h = labels_taken part.Label ls rest h

-- ---- modifiers

-- an expression begins with none of the words of a modifier
no_flag : (ts : List Symbol) → begins ts ≡ true → skip_flag (kinds ts) ≡ kinds ts
no_flag [] h = refl
no_flag (punct kind.Bool ∷ ts) h = cc
no_flag (word kind.Bool t ∷ ts) h = cc
no_flag (punct k ∷ ts) h = refl
no_flag (word k t ∷ ts) h = refl

no_matching_at : (ts : List Symbol) → begins ts ≡ true → step.matching (kinds ts) ≡ ([], kinds ts)
no_matching_at [] h = refl
no_matching_at (punct kind.On ∷ ts) h = cc
no_matching_at (word kind.On t ∷ ts) h = cc
no_matching_at (punct kind.Ignoring ∷ ts) h = cc
no_matching_at (word kind.Ignoring t ∷ ts) h = cc
no_matching_at (punct k ∷ ts) h = refl
no_matching_at (word k t ∷ ts) h = refl

no_group_at : (ts : List Symbol) → begins ts ≡ true → step.group (kinds ts) ≡ ([], kinds ts)
no_group_at [] h = refl
no_group_at (punct kind.GroupLeft ∷ ts) h = cc
no_group_at (word kind.GroupLeft t ∷ ts) h = cc
no_group_at (punct kind.GroupRight ∷ ts) h = cc
no_group_at (word kind.GroupRight t ∷ ts) h = cc
no_group_at (punct k ∷ ts) h = refl
no_group_at (word k t ∷ ts) h = refl

no_fill_at : (ts : List Symbol) → begins ts ≡ true → skip_fill (kinds ts) ≡ kinds ts
no_fill_at [] h = refl
no_fill_at (punct kind.Fill ∷ ts) h = cc
no_fill_at (word kind.Fill t ∷ ts) h = cc
no_fill_at (punct kind.FillLeft ∷ ts) h = cc
no_fill_at (word kind.FillLeft t ∷ ts) h = cc
no_fill_at (punct kind.FillRight ∷ ts) h = cc
no_fill_at (word kind.FillRight t ∷ ts) h = cc
no_fill_at (punct k ∷ ts) h = refl
no_fill_at (word k t ∷ ts) h = refl

fills_skipped : (f : Fills) (rest : List Symbol) → begins rest ≡ true → skip_fill (skip_fill (kinds (yield_fills f ++ rest))) ≡ kinds rest
fills_skipped no_fill rest b = ap skip_fill (no_fill_at rest b) ∙ no_fill_at rest b
fills_skipped (both t v) rest b = ap skip_fill (value_skipped v rest) ∙ no_fill_at rest b
fills_skipped (one true t v) rest b = ap skip_fill (value_skipped v rest) ∙ no_fill_at rest b
fills_skipped (one false t v) rest b = ap skip_fill (value_skipped v rest) ∙ no_fill_at rest b
fills_skipped (two true t v u w) rest b =
    ap (λ ts. skip_fill (skip_brackets (kinds ts))) (append_assoc (yield_value v) (word kind.FillRight u ∷ yield_value w) rest)
    ∙ ap skip_fill (value_skipped v (word kind.FillRight u ∷ (yield_value w ++ rest)))
    ∙ value_skipped w rest
fills_skipped (two false t v u w) rest b =
    ap (λ ts. skip_fill (skip_brackets (kinds ts))) (append_assoc (yield_value v) (word kind.FillLeft u ∷ yield_value w) rest)
    ∙ ap skip_fill (value_skipped v (word kind.FillLeft u ∷ (yield_value w ++ rest)))
    ∙ value_skipped w rest

-- a word of fills, or what follows them, is no other word of a modifier
fills_no_matching : (f : Fills) (rest : List Symbol) → begins rest ≡ true → step.matching (kinds (yield_fills f ++ rest)) ≡ ([], kinds (yield_fills f ++ rest))
fills_no_matching no_fill rest b = no_matching_at rest b
fills_no_matching (both t v) rest b = refl
fills_no_matching (one true t v) rest b = refl
fills_no_matching (one false t v) rest b = refl
fills_no_matching (two true t v u w) rest b = refl
fills_no_matching (two false t v u w) rest b = refl

fills_no_group : (f : Fills) (rest : List Symbol) → begins rest ≡ true → step.group (kinds (yield_fills f ++ rest)) ≡ ([], kinds (yield_fills f ++ rest))
fills_no_group no_fill rest b = no_group_at rest b
fills_no_group (both t v) rest b = refl
fills_no_group (one true t v) rest b = refl
fills_no_group (one false t v) rest b = refl
fills_no_group (two true t v u w) rest b = refl
fills_no_group (two false t v u w) rest b = refl

-- a parenthesis has no text
abbrev pub HasNoParenWord : List Symbol → Type 0
HasNoParenWord (word kind.LeftParen t ∷ ts) = ⊥
HasNoParenWord ts = Unit {0}

-- no labels come after a bare grouping word
no_labels_at : (p : PartKind) (ts : List Symbol) → HasNoParenWord ts → OpensNoParen ts → step.labels p (kinds ts) ≡ ([], kinds ts)
no_labels_at p [] w h = refl
no_labels_at p (punct kind.LeftParen ∷ ts) w h = absurd h
no_labels_at p (word kind.LeftParen t ∷ ts) w h = absurd w
no_labels_at p (punct k ∷ ts) w h = refl
no_labels_at p (word k t ∷ ts) w h = refl

-- what a grouping word without labels asks of the tokens after the fills
abbrev FitsGroup : Group → Fills → List Symbol → Type 0
FitsGroup (Some (left, t, None)) no_fill rest = OpensNoParen rest
FitsGroup g f rest = Unit {0}

fits_group : (on : Bool) (t : Text) (ls : Labels) (g : Group) (f : Fills) (rest : List Symbol) → FitsMatching (Some (on, t, ls, g)) f rest → FitsGroup g f rest
fits_group on t ls (Some (left, u, None)) no_fill rest h = h
fits_group on t ls g f rest h = tt

bare_fills : (p : PartKind) (left : Bool) (t : Text) (f : Fills) (rest : List Symbol) → HasNoParenWord rest → FitsGroup (Some (left, t, None)) f rest → step.labels p (kinds (yield_fills f ++ rest)) ≡ ([], kinds (yield_fills f ++ rest))
bare_fills p left t no_fill rest b h = no_labels_at p rest b h
bare_fills p left t (both u v) rest b h = refl
bare_fills p left t (one true u v) rest b h = refl
bare_fills p left t (one false u v) rest b h = refl
bare_fills p left t (two true u v u' w) rest b h = refl
bare_fills p left t (two false u v u' w) rest b h = refl

group_taken : (g : Group) (f : Fills) (rest : List Symbol) → IsGroup g → begins rest ≡ true → HasNoParenWord rest → FitsGroup g f rest
    → step.group (kinds (yield_group g ++ (yield_fills f ++ rest))) ≡ (spans (group_parts (length (yield_fills f ++ rest)) g), kinds (yield_fills f ++ rest))
group_taken None f rest h b p k = fills_no_group f rest b
group_taken (Some (true, t, None)) f rest h b p k = bare_fills part.GroupLabel true t f rest p k
group_taken (Some (false, t, None)) f rest h b p k = bare_fills part.GroupLabel false t f rest p k
group_taken (Some (true, t, Some ls)) f rest h b p k = labels_taken part.GroupLabel ls (yield_fills f ++ rest) h
group_taken (Some (false, t, Some ls)) f rest h b p k = labels_taken part.GroupLabel ls (yield_fills f ++ rest) h

-- a matching word is taken with what follows it
matching_word : (on : Bool) (t : Text) (ts : List Symbol) → step.matching (kinds (word (if on then kind.On else kind.Ignoring) t ∷ ts)) ≡ and_then (step.labels part.Label (kinds ts)) step.group
matching_word true t ts = refl
matching_word false t ts = refl

matching_taken : (m : Matching) (f : Fills) (rest : List Symbol) → IsMatching m → begins rest ≡ true → HasNoParenWord rest → FitsMatching m f rest
    → step.matching (kinds (yield_matching m ++ (yield_fills f ++ rest))) ≡ (spans (matching_parts (length (yield_fills f ++ rest)) m), kinds (yield_fills f ++ rest))
matching_taken None f rest h b p k = fills_no_matching f rest b
matching_taken (Some (on, t, ls, g)) f rest h b p k =
    let after = yield_fills f ++ rest in
    matching_word on t ((yield_labels ls ++ yield_group g) ++ after)
    ∙ ap (λ ts. and_then (step.labels part.Label (kinds ts)) step.group) (append_assoc (yield_labels ls) (yield_group g) after)
    ∙ ap (λ r. and_then r step.group) (labels_taken part.Label ls (yield_group g ++ after) h.0)
    ∙ ap (λ n. and_then (spans (label_parts part.Label n ls), kinds (yield_group g ++ after)) step.group) (length-append (yield_group g) after)
    ∙ ap (λ (r : Taken). (let q : Taken = (spans (label_parts part.Label (length (yield_group g) + length after) ls) ++ r.0, r.1) in q)) (group_taken g f rest h.1 b p (fits_group on t ls g f rest k))
    ∙ ap (λ l. (let q : Taken = (l, kinds after) in q)) (sym (spans_joined (label_parts part.Label (length (yield_group g) + length after) ls) (group_parts (length after) g)))

no_flag_fills : (f : Fills) (rest : List Symbol) → begins rest ≡ true → skip_flag (kinds (yield_fills f ++ rest)) ≡ kinds (yield_fills f ++ rest)
no_flag_fills no_fill rest b = no_flag rest b
no_flag_fills (both t v) rest b = refl
no_flag_fills (one true t v) rest b = refl
no_flag_fills (one false t v) rest b = refl
no_flag_fills (two true t v u w) rest b = refl
no_flag_fills (two false t v u w) rest b = refl

no_flag_matching : (m : Matching) (f : Fills) (rest : List Symbol) → begins rest ≡ true → skip_flag (kinds (yield_matching m ++ (yield_fills f ++ rest))) ≡ kinds (yield_matching m ++ (yield_fills f ++ rest))
no_flag_matching None f rest b = no_flag_fills f rest b
no_flag_matching (Some (true, t, ls, g)) f rest b = refl
no_flag_matching (Some (false, t, ls, g)) f rest b = refl

flag_skipped : (flag : Option Text) (m : Matching) (f : Fills) (rest : List Symbol) → begins rest ≡ true → skip_flag (kinds (yield_flag flag ++ (yield_matching m ++ (yield_fills f ++ rest)))) ≡ kinds (yield_matching m ++ (yield_fills f ++ rest))
flag_skipped None m f rest b = no_flag_matching m f rest b
flag_skipped (Some t) m f rest b = refl

modifier_parts : (flag : Option Text) (m : Matching) (f : Fills) (rest : List Symbol) → (yield_flag flag ++ (yield_matching m ++ yield_fills f)) ++ rest ≡ yield_flag flag ++ (yield_matching m ++ (yield_fills f ++ rest))
modifier_parts flag m f rest = simp append_assoc

pub operator_taken : (m : Modifier) (op : ℕ) (t : Text) (rest : List Symbol) → IsMatching m.1 → begins rest ≡ true → HasNoParenWord rest → FitsMatching m.1 m.2 rest
    → step.operator (kinds (word (kind.Operator op) t ∷ (yield_modifier m ++ rest))) ≡ (spans (piece part.Operator 1 (length (yield_modifier m) + length rest) ∷ matching_parts (length (yield_fills m.2) + length rest) m.1), kinds rest)
operator_taken m op t rest h b p k =
    let n = kinds_count (yield_modifier m) rest in
    let own = span_is part.Operator (length (kinds (word (kind.Operator op) t ∷ (yield_modifier m ++ rest)))) (length (kinds (yield_modifier m ++ rest))) 1 (length (yield_modifier m) + length rest) (omega arith) (omega arith) in
    first_is _ _ _ _ own (filled m rest h b p k)
  where
    filled : (m : Modifier) (rest : List Symbol) → IsMatching m.1 → begins rest ≡ true → HasNoParenWord rest → FitsMatching m.1 m.2 rest
        → (let r = step.matching (skip_flag (kinds (yield_modifier m ++ rest))) in let q : Taken = (r.0, skip_fill (skip_fill r.1)) in q) ≡ (spans (matching_parts (length (yield_fills m.2) + length rest) m.1), kinds rest)
    filled m rest h b p k =
        ap (λ ts. (let r = step.matching (skip_flag (kinds ts)) in let q : Taken = (r.0, skip_fill (skip_fill r.1)) in q)) (modifier_parts m.0 m.1 m.2 rest)
        ∙ ap (λ ks. (let r = step.matching ks in let q : Taken = (r.0, skip_fill (skip_fill r.1)) in q)) (flag_skipped m.0 m.1 m.2 rest b)
        ∙ ap (λ (r : Taken). (let q : Taken = (r.0, skip_fill (skip_fill r.1)) in q)) (matching_taken m.1 m.2 rest h b p k)
        ∙ ap (λ n. (let q : Taken = (spans (matching_parts n m.1), skip_fill (skip_fill (kinds (yield_fills m.2 ++ rest)))) in q)) (length-append (yield_fills m.2) rest)
        ∙ ap (λ ks. (let q : Taken = (spans (matching_parts (length (yield_fills m.2) + length rest) m.1), ks) in q)) (fills_skipped m.2 rest b)

-- ---- postfixes that leave no node

value_signed : (s : Signed) (p : PartKind) (n : ℕ) (rest : List Symbol) → step.shift_value p n (kinds (yield_signed s ++ rest)) ≡ step.shift_value p n (kinds rest)
value_signed None p n rest = refl
value_signed (Some (true, t)) p n rest = refl
value_signed (Some (false, t)) p n rest = refl

value_time : (t : Time) (p : PartKind) (n : ℕ) (rest : List Symbol) → step.shift_value p n (kinds (yield_time t ++ rest)) ≡ also (p, (n, length (kinds rest))) (step.shifts (kinds rest))
value_time (seconds t) p n rest = refl
value_time (duration t) p n rest = refl

-- a postfix that is neither a range nor a subquery
abbrev pub IsShift : Postfix → Type 0
IsShift (range t) = ⊥
IsShift (subquery t s) = ⊥
IsShift p = Unit {0}

-- its tokens, as a part
spelled_taken : (p : Postfix) (rest : List Symbol) → IsShift p
    → step.shifts (kinds (yield_postfix p ++ rest)) ≡ also (postfix_kind p, (length (kinds (yield_postfix p ++ rest)), length (kinds rest))) (step.shifts (kinds rest))
spelled_taken (range t) rest k = absurd k
spelled_taken (subquery t s) rest k = absurd k
spelled_taken (at_number s t) rest k =
    let n = length (kinds (yield_postfix (at_number s t) ++ rest)) in
    ap (λ ts. step.shift_value part.At n (kinds ts)) (append_assoc (yield_signed s) (word kind.Number t ∷ []) rest) ∙ value_signed s part.At n (word kind.Number t ∷ rest)
spelled_taken (at_bound true t) rest k = refl
spelled_taken (at_bound false t) rest k = refl
spelled_taken (offset t s u) rest k =
    let n = length (kinds (yield_postfix (offset t s u) ++ rest)) in
    ap (λ ts. step.shift_value part.Offset n (kinds ts)) (append_assoc (yield_signed s) (yield_time u) rest) ∙ value_signed s part.Offset n (yield_time u ++ rest) ∙ value_time u part.Offset n rest
spelled_taken (mode true t) rest k = refl
spelled_taken (mode false t) rest k = refl

pub postfix_is : (p : Postfix) (rest : List Symbol) → (let s : PartSpan = (postfix_kind p, (length (kinds (yield_postfix p ++ rest)), length (kinds rest))) in s) ≡ span_of (piece (postfix_kind p) (length (yield_postfix p)) (length rest))
postfix_is p rest = span_is (postfix_kind p) _ _ (length (yield_postfix p)) (length rest) (kinds_count (yield_postfix p) rest) (kinds_length rest)

pub shift_taken : (p : Postfix) (rest : List Symbol) → IsShift p
    → step.shifts (kinds (yield_postfix p ++ rest)) ≡ also (span_of (piece (postfix_kind p) (length (yield_postfix p)) (length rest))) (step.shifts (kinds rest))
shift_taken p rest k = spelled_taken p rest k ∙ ap (λ x. also x (step.shifts (kinds rest))) (postfix_is p rest)
