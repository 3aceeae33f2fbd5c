-- Each part is parsed from its tokens.
use Rattle.std.proofs.Common.{◌≡◌, ℕ, zero, suc, ◌≤◌, refl, ◌∙◌, ap, arith, List, [], ◌∷◌, ◌++◌, length, length-append, append_assoc, Bool, true, false, Option, Some, None}
use Rattle.std.specs.Prelude.{Ok, if◌then◌else◌}
use Rattle.promql_text.specs.Texts.{Text}
use Rattle.promql_grammar.specs.declared.token_kinds.TokenKind.TheVariants as kind
use Rattle.promql_grammar.specs.Results.{◌then◌}
use Rattle.promql_grammar.specs.Symbols.{Symbol, punct, word, begins}
use Rattle.promql_grammar.specs.GrammarParts.{seconds, duration, Signed, Labels, no_label, last, next, Group, Matching, FillValue, Fills, no_fill, both, one, two, Modifier, equal, not_equal, equal_regex, not_equal_regex, Item, matcher, lone, Items, last_item, next_item, Braces, Postfix, range, subquery, at_number, at_bound, offset, mode, yield_signed, yield_names, yield_labels, yield_group, yield_matching, yield_value, yield_fills, yield_modifier, yield_item, yield_items, yield_separator, yield_postfix, IsLabels, IsMatching}
use Rattle.promql_grammar.specs.PartTokens.{yield_flag, yield_any_braces, IsGroup}
use Rattle.promql_grammar.specs.Grammar.{OpensNoParen, FitsMatching}
use Rattle.promql_grammar.specs.Parsing.{Read, eat_sign, parse_number, parse_fill_value_end, parse_fill_value, parse_label_list, parse_labels, parse_group_labels, parse_group, parse_matching_after, parse_matching, parse_fills, parse_fill_right, parse_fill_left, parse_flag, with_fills, with_matching, parse_modifier, parse_match_operator, parse_after_string, parse_item, parse_after_item, parse_items, parse_braces, parse_optional_braces, parse_postfix}
use Rattle.promql_grammar.proofs.GrammarChoices.{if_true}

signed_number : (s : Signed) (t : Text) (rest : List Symbol) → eat_sign (yield_signed s ++ word kind.Number t ∷ rest) ≡ Ok (s, word kind.Number t ∷ rest)
signed_number None t rest = refl
signed_number (Some (true, u)) t rest = refl
signed_number (Some (false, u)) t rest = refl

value_parts : (s : Signed) (n : Text) (rest : List Symbol) → parse_fill_value (yield_value (s, n) ++ rest) ≡ Ok ((s, n), rest)
value_parts s n rest =
    ap (λ ts. eat_sign ts then λ s. parse_number s.1 then λ n. parse_fill_value_end s.0 n.0 n.1) (append_assoc (yield_signed s) (word kind.Number n ∷ (punct kind.RightParen ∷ [])) rest)
    ∙ ap (λ o. o then λ s. parse_number s.1 then λ n. parse_fill_value_end s.0 n.0 n.1) (signed_number s n (punct kind.RightParen ∷ rest))

pub value_reads : (v : FillValue) (rest : List Symbol) → parse_fill_value (yield_value v ++ rest) ≡ Ok (v, rest)
value_reads v rest = value_parts v.0 v.1 rest

pub names_reads : (ls : Labels) (rest : List Symbol) → IsLabels ls → parse_label_list (yield_names ls ++ rest) ≡ Ok (ls, rest)
names_reads no_label rest h = refl
names_reads (last k t) rest h = if_true _ _ _ h
names_reads (next k t ls) rest h = if_true _ _ _ h.0 ∙ ap (λ o. o then λ y. Ok (next k t y.0, y.1)) (names_reads ls rest h.1)

pub labels_reads : (ls : Labels) (rest : List Symbol) → IsLabels ls → parse_labels (yield_labels ls ++ rest) ≡ Ok (ls, rest)
labels_reads ls rest h = names_reads ls rest h

list_reads : (left : Bool) (t : Text) (ls : Labels) (rest : List Symbol) → IsLabels ls → parse_group_labels left t (yield_labels ls ++ rest) ≡ Ok (Some (left, t, Some ls), rest)
list_reads left t ls rest h = ap (λ o. o then λ l. Ok (Some (left, t, Some l.0), l.1)) (names_reads ls rest h)

-- an expression begins with none of the words of a modifier
no_flag : (ts : List Symbol) → begins ts ≡ true → parse_flag ts ≡ Ok (None, ts)
no_flag (word kind.Bool t ∷ ts) h = cc
no_flag ts h = refl

no_matching_at : (ts : List Symbol) → begins ts ≡ true → parse_matching ts ≡ Ok (None, ts)
no_matching_at (word kind.On t ∷ ts) h = cc
no_matching_at (word kind.Ignoring t ∷ ts) h = cc
no_matching_at ts h = refl

no_group_at : (ts : List Symbol) → begins ts ≡ true → parse_group ts ≡ Ok (None, ts)
no_group_at (word kind.GroupLeft t ∷ ts) h = cc
no_group_at (word kind.GroupRight t ∷ ts) h = cc
no_group_at ts h = refl

no_fills_at : (ts : List Symbol) → begins ts ≡ true → parse_fills ts ≡ Ok (no_fill, ts)
no_fills_at (word kind.Fill t ∷ ts) h = cc
no_fills_at (word kind.FillLeft t ∷ ts) h = cc
no_fills_at (word kind.FillRight t ∷ ts) h = cc
no_fills_at ts h = refl

no_right : (t : Text) (v : FillValue) (ts : List Symbol) → begins ts ≡ true → parse_fill_right t v ts ≡ Ok (one true t v, ts)
no_right t v (word kind.FillRight u ∷ ts) h = cc
no_right t v ts h = refl

no_left : (t : Text) (v : FillValue) (ts : List Symbol) → begins ts ≡ true → parse_fill_left t v ts ≡ Ok (one false t v, ts)
no_left t v (word kind.FillLeft u ∷ ts) h = cc
no_left t v ts h = refl

bare_at : (left : Bool) (t : Text) (ts : List Symbol) → OpensNoParen ts → parse_group_labels left t ts ≡ Ok (Some (left, t, None), ts)
bare_at left t (punct kind.LeftParen ∷ ts) h = absurd h
bare_at left t ts h = refl

fills_reads : (f : Fills) (rest : List Symbol) → begins rest ≡ true → parse_fills (yield_fills f ++ rest) ≡ Ok (f, rest)
fills_reads no_fill rest b = no_fills_at rest b
fills_reads (both t v) rest b = ap (λ o. o then λ v. Ok (both t v.0, v.1)) (value_reads v rest)
fills_reads (one true t v) rest b = ap (λ o. o then λ v. parse_fill_right t v.0 v.1) (value_reads v rest) ∙ no_right t v rest b
fills_reads (one false t v) rest b = ap (λ o. o then λ v. parse_fill_left t v.0 v.1) (value_reads v rest) ∙ no_left t v rest b
fills_reads (two true t v u w) rest b =
    ap (λ ts. parse_fill_value ts then λ v. parse_fill_right t v.0 v.1) (append_assoc (yield_value v) (word kind.FillRight u ∷ yield_value w) rest)
    ∙ ap (λ o. o then λ v. parse_fill_right t v.0 v.1) (value_reads v (word kind.FillRight u ∷ (yield_value w ++ rest)))
    ∙ ap (λ o. o then λ w. Ok (two true t v u w.0, w.1)) (value_reads w rest)
fills_reads (two false t v u w) rest b =
    ap (λ ts. parse_fill_value ts then λ v. parse_fill_left t v.0 v.1) (append_assoc (yield_value v) (word kind.FillLeft u ∷ yield_value w) rest)
    ∙ ap (λ o. o then λ v. parse_fill_left t v.0 v.1) (value_reads v (word kind.FillLeft u ∷ (yield_value w ++ rest)))
    ∙ ap (λ o. o then λ w. Ok (two false t v u w.0, w.1)) (value_reads w rest)

-- a word of fills, or what follows them, is neither a matching word nor a grouping word
fills_no_matching : (f : Fills) (rest : List Symbol) → begins rest ≡ true → parse_matching (yield_fills f ++ rest) ≡ Ok (None, yield_fills f ++ rest)
fills_no_matching no_fill rest b = no_matching_at rest b
fills_no_matching (both t v) rest b = refl
fills_no_matching (one true t v) rest b = refl
fills_no_matching (one false t v) rest b = refl
fills_no_matching (two true t v u w) rest b = refl
fills_no_matching (two false t v u w) rest b = refl

fills_no_group : (f : Fills) (rest : List Symbol) → begins rest ≡ true → parse_group (yield_fills f ++ rest) ≡ Ok (None, yield_fills f ++ rest)
fills_no_group no_fill rest b = no_group_at rest b
fills_no_group (both t v) rest b = refl
fills_no_group (one true t v) rest b = refl
fills_no_group (one false t v) rest b = refl
fills_no_group (two true t v u w) rest b = refl
fills_no_group (two false t v u w) rest b = refl

-- what a bare grouping word asks of the tokens after the fills
abbrev FitsGroup : Group → Fills → List Symbol → Type 0
FitsGroup (Some (left, t, None)) no_fill rest = OpensNoParen rest
FitsGroup g f rest = Unit {0}

fits_group : (on : Bool) (t : Text) (ls : Labels) (g : Group) (f : Fills) (rest : List Symbol) → FitsMatching (Some (on, t, ls, g)) f rest → FitsGroup g f rest
fits_group on t ls (Some (left, u, None)) no_fill rest h = h
fits_group on t ls g f rest h = tt

bare_fills : (left : Bool) (t : Text) (f : Fills) (rest : List Symbol) → FitsGroup (Some (left, t, None)) f rest → parse_group_labels left t (yield_fills f ++ rest) ≡ Ok (Some (left, t, None), yield_fills f ++ rest)
bare_fills left t no_fill rest h = bare_at left t rest h
bare_fills left t (both u v) rest h = refl
bare_fills left t (one side u v) rest h = refl
bare_fills left t (two side u v u' w) rest h = refl

group_reads : (g : Group) (f : Fills) (rest : List Symbol) → IsGroup g → begins rest ≡ true → FitsGroup g f rest → parse_group (yield_group g ++ (yield_fills f ++ rest)) ≡ Ok (g, yield_fills f ++ rest)
group_reads None f rest h b k = fills_no_group f rest b
group_reads (Some (true, t, None)) f rest h b k = bare_fills true t f rest k
group_reads (Some (false, t, None)) f rest h b k = bare_fills false t f rest k
group_reads (Some (true, t, Some ls)) f rest h b k = list_reads true t ls (yield_fills f ++ rest) h
group_reads (Some (false, t, Some ls)) f rest h b k = list_reads false t ls (yield_fills f ++ rest) h

matching_after_reads : (on : Bool) (t : Text) (ls : Labels) (g : Group) (f : Fills) (rest : List Symbol) → IsLabels ls → IsGroup g → begins rest ≡ true → FitsGroup g f rest
    → parse_matching_after on t (((yield_labels ls ++ yield_group g) ++ yield_fills f) ++ rest) ≡ Ok (Some (on, t, ls, g), yield_fills f ++ rest)
matching_after_reads on t ls g f rest h i b k =
    ap (parse_matching_after on t) (append_assoc (yield_labels ls ++ yield_group g) (yield_fills f) rest ∙ append_assoc (yield_labels ls) (yield_group g) (yield_fills f ++ rest))
    ∙ ap (λ o. o then λ l. parse_group l.1 then λ g. Ok (Some (on, t, l.0, g.0), g.1)) (labels_reads ls (yield_group g ++ (yield_fills f ++ rest)) h)
    ∙ ap (λ o. o then λ g. Ok (Some (on, t, ls, g.0), g.1)) (group_reads g f rest i b k)

matching_reads : (m : Matching) (f : Fills) (rest : List Symbol) → IsMatching m → begins rest ≡ true → FitsMatching m f rest → parse_matching ((yield_matching m ++ yield_fills f) ++ rest) ≡ Ok (m, yield_fills f ++ rest)
matching_reads None f rest h b k = fills_no_matching f rest b
matching_reads (Some (true, t, ls, g)) f rest h b k = matching_after_reads true t ls g f rest h.0 h.1 b (fits_group true t ls g f rest k)
matching_reads (Some (false, t, ls, g)) f rest h b k = matching_after_reads false t ls g f rest h.0 h.1 b (fits_group false t ls g f rest k)

flag_reads : (b : Option Text) (m : Matching) (f : Fills) (rest : List Symbol) → begins rest ≡ true → parse_flag ((yield_flag b ++ (yield_matching m ++ yield_fills f)) ++ rest) ≡ Ok (b, (yield_matching m ++ yield_fills f) ++ rest)
flag_reads (Some t) m f rest e = refl
flag_reads None None no_fill rest e = no_flag rest e
flag_reads None None (both t v) rest e = refl
flag_reads None None (one true t v) rest e = refl
flag_reads None None (one false t v) rest e = refl
flag_reads None None (two true t v u w) rest e = refl
flag_reads None None (two false t v u w) rest e = refl
flag_reads None (Some (true, t, ls, g)) f rest e = refl
flag_reads None (Some (false, t, ls, g)) f rest e = refl

pub modifier_reads : (m : Modifier) (rest : List Symbol) → IsMatching m.1 → begins rest ≡ true → FitsMatching m.1 m.2 rest → parse_modifier (yield_modifier m ++ rest) ≡ Ok (m, rest)
modifier_reads m rest h b k =
    ap (λ o. o then λ b. parse_matching b.1 then with_matching b.0) (flag_reads m.0 m.1 m.2 rest b)
    ∙ ap (λ o. o then with_matching m.0) (matching_reads m.1 m.2 rest h b k)
    ∙ ap (λ o. o then with_fills m.0 m.1) (fills_reads m.2 rest b)

-- an item is parsed where no operator of a matcher follows
item_reads : (i : Item) (rest : List Symbol) → parse_match_operator rest ≡ Ok (None, rest) → parse_item (yield_item i ++ rest) ≡ Ok (i, rest)
item_reads (lone t) rest e = ap (λ o. o then parse_after_string t) e
item_reads (matcher false t equal v) rest e = refl
item_reads (matcher false t (not_equal u) v) rest e = refl
item_reads (matcher false t equal_regex v) rest e = refl
item_reads (matcher false t not_equal_regex v) rest e = refl
item_reads (matcher true t equal v) rest e = refl
item_reads (matcher true t (not_equal u) v) rest e = refl
item_reads (matcher true t equal_regex v) rest e = refl
item_reads (matcher true t not_equal_regex v) rest e = refl

-- no braces close here
abbrev ClosesNoBrace : List Symbol → Type 0
ClosesNoBrace (punct kind.RightBrace ∷ ts) = ⊥
ClosesNoBrace ts = Unit {0}

item_begins : (i : Item) (rest us : List Symbol) → ClosesNoBrace ((yield_item i ++ rest) ++ us)
item_begins (matcher quoted t s v) rest us = tt
item_begins (lone t) rest us = tt

items_begin : (is : Items) (rest : List Symbol) → ClosesNoBrace (yield_items is ++ rest)
items_begin (last_item i false) rest = item_begins i _ rest
items_begin (last_item i true) rest = item_begins i _ rest
items_begin (next_item i s is) rest = item_begins i _ rest

after_comma : (r : List Symbol → Read Items) (i : Item) (ts : List Symbol) → ClosesNoBrace ts → parse_after_item r i (punct kind.Comma ∷ ts) ≡ (r ts then λ y. Ok (next_item i None y.0, y.1))
after_comma r i (punct kind.RightBrace ∷ ts) h = absurd h
after_comma r i ts h = refl

item_tokens : (i : Item) → 1 ≤ length (yield_item i)
item_tokens (matcher quoted t s v) = omega arith
item_tokens (lone t) = omega arith

pub items_reads : (is : Items) (k : ℕ) (rest : List Symbol) → length (yield_items is) ≤ k → parse_items k (yield_items is ++ rest) ≡ Ok (is, rest)
items_reads (last_item i false) zero rest le = absurd (omega (arith, length-append (yield_item i) (punct kind.RightBrace ∷ [])))
items_reads (last_item i true) zero rest le = absurd (omega (arith, length-append (yield_item i) (punct kind.Comma ∷ (punct kind.RightBrace ∷ []))))
items_reads (next_item i s is) zero rest le = absurd (omega (arith, length-append (yield_item i) (yield_separator s ∷ yield_items is)))
items_reads (last_item i false) (suc k) rest le =
    ap (parse_items (suc k)) (append_assoc (yield_item i) (punct kind.RightBrace ∷ []) rest)
    ∙ ap (λ o. o then λ i. parse_after_item (parse_items k) i.0 i.1) (item_reads i (punct kind.RightBrace ∷ rest) refl)
items_reads (last_item i true) (suc k) rest le =
    ap (parse_items (suc k)) (append_assoc (yield_item i) (punct kind.Comma ∷ (punct kind.RightBrace ∷ [])) rest)
    ∙ ap (λ o. o then λ i. parse_after_item (parse_items k) i.0 i.1) (item_reads i (punct kind.Comma ∷ (punct kind.RightBrace ∷ rest)) refl)
items_reads (next_item i None is) (suc k) rest le =
    ap (parse_items (suc k)) (append_assoc (yield_item i) (punct kind.Comma ∷ yield_items is) rest)
    ∙ ap (λ o. o then λ i. parse_after_item (parse_items k) i.0 i.1) (item_reads i (punct kind.Comma ∷ (yield_items is ++ rest)) refl)
    ∙ after_comma (parse_items k) i (yield_items is ++ rest) (items_begin is rest)
    ∙ ap (λ o. o then λ y. Ok (next_item i None y.0, y.1)) (items_reads is k rest (omega (arith, item_tokens i, length-append (yield_item i) (punct kind.Comma ∷ yield_items is))))
items_reads (next_item i (Some t) is) (suc k) rest le =
    ap (parse_items (suc k)) (append_assoc (yield_item i) (yield_separator (Some t) ∷ yield_items is) rest)
    ∙ ap (λ o. o then λ i. parse_after_item (parse_items k) i.0 i.1) (item_reads i (yield_separator (Some t) ∷ (yield_items is ++ rest)) refl)
    ∙ ap (λ o. o then λ y. Ok (next_item i (Some t) y.0, y.1)) (items_reads is k rest (omega (arith, item_tokens i, length-append (yield_item i) (yield_separator (Some t) ∷ yield_items is))))

items_in : (ts : List Symbol) → ClosesNoBrace ts → parse_braces ts ≡ (parse_items (length ts) ts then λ y. Ok (Some y.0, y.1))
items_in (punct kind.RightBrace ∷ ts) h = absurd h
items_in ts h = refl

-- after the opening brace
abbrev pub in_braces : Braces → List Symbol
in_braces None = punct kind.RightBrace ∷ []
in_braces (Some is) = yield_items is

pub braces_in_reads : (b : Braces) (rest : List Symbol) → parse_braces (in_braces b ++ rest) ≡ Ok (b, rest)
braces_in_reads None rest = refl
braces_in_reads (Some is) rest =
    items_in (yield_items is ++ rest) (items_begin is rest)
    ∙ ap (λ o. o then λ y. Ok (Some y.0, y.1)) (items_reads is (length (yield_items is ++ rest)) rest (omega (arith, length-append (yield_items is) rest)))

-- nothing goes on here after a word
abbrev pub EndsWord : List Symbol → Type 0
EndsWord (punct kind.LeftParen ∷ ts) = ⊥
EndsWord (punct kind.LeftBrace ∷ ts) = ⊥
EndsWord (word kind.By t ∷ ts) = ⊥
EndsWord (word kind.Without t ∷ ts) = ⊥
EndsWord ts = Unit {0}

no_braces_at : (ts : List Symbol) → EndsWord ts → parse_optional_braces ts ≡ Ok (None, ts)
no_braces_at (punct kind.LeftBrace ∷ ts) h = absurd h
no_braces_at ts h = refl

pub any_braces_reads : (b : Option Braces) (rest : List Symbol) → EndsWord rest → parse_optional_braces (yield_any_braces b ++ rest) ≡ Ok (b, rest)
any_braces_reads None rest e = no_braces_at rest e
any_braces_reads (Some None) rest e = refl
any_braces_reads (Some (Some is)) rest e = ap (λ o. o then λ b. Ok (Some b.0, b.1)) (braces_in_reads (Some is) rest)

pub postfix_reads : (p : Postfix) (rest : List Symbol) → parse_postfix (yield_postfix p ++ rest) ≡ Ok (Some p, rest)
postfix_reads (range (seconds t)) rest = refl
postfix_reads (range (duration t)) rest = refl
postfix_reads (subquery (seconds t) None) rest = refl
postfix_reads (subquery (seconds t) (Some (seconds u))) rest = refl
postfix_reads (subquery (seconds t) (Some (duration u))) rest = refl
postfix_reads (subquery (duration t) None) rest = refl
postfix_reads (subquery (duration t) (Some (seconds u))) rest = refl
postfix_reads (subquery (duration t) (Some (duration u))) rest = refl
postfix_reads (at_number None t) rest = refl
postfix_reads (at_number (Some (true, u)) t) rest = refl
postfix_reads (at_number (Some (false, u)) t) rest = refl
postfix_reads (at_bound true t) rest = refl
postfix_reads (at_bound false t) rest = refl
postfix_reads (offset t None (seconds u)) rest = refl
postfix_reads (offset t None (duration u)) rest = refl
postfix_reads (offset t (Some (true, v)) (seconds u)) rest = refl
postfix_reads (offset t (Some (true, v)) (duration u)) rest = refl
postfix_reads (offset t (Some (false, v)) (seconds u)) rest = refl
postfix_reads (offset t (Some (false, v)) (duration u)) rest = refl
postfix_reads (mode true t) rest = refl
postfix_reads (mode false t) rest = refl
