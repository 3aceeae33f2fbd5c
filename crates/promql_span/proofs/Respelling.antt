-- The grammar does not look at the texts of words: tokens of the same kinds are those of a derivation of the same form.
use Rattle.std.proofs.Common.{◌≡◌, ℕ, Bool, true, false, List, [], ◌∷◌, ◌++◌, Option, None, Some, refl, sym, ap, ◌∙◌, subst}
use Rattle.std.specs.Prelude.{min, not, if◌then◌else◌}
use Rattle.promql_text.specs.Texts.{Text}
use Rattle.promql_token.specs.declared.ids.TheConstants.{T_NEQ, T_LOR, T_ADD, T_SUB}
use Rattle.promql_grammar.specs.declared.token_kinds.TokenKind.{TokenKind}
use Rattle.promql_grammar.specs.declared.token_kinds.TokenKind.TheVariants as kind
use Rattle.promql_grammar.specs.Symbols.{Symbol, punct, word}
use Rattle.promql_grammar.specs.GrammarParts.{Time, yield_time, Signed, yield_signed, Labels, yield_names, yield_labels, IsLabels, Grouping, yield_grouping, Group, yield_group, Matching, yield_matching, IsMatching, FillValue, yield_value, yield_side, Fills, yield_fills, Modifier, yield_modifier, MatchOperator, yield_match_operator, Item, yield_item, name_kind, Separator, yield_separator, Items, yield_items, Braces, yield_braces, Postfix, yield_postfix}
use Rattle.promql_grammar.specs.PartTokens.{IsGrouping, IsClause, yield_flag, yield_step, IsGroup, yield_any_braces, yield_rest}
use Rattle.promql_grammar.specs.GrammarParts as part
use Rattle.promql_grammar.specs.Grammar.{Derivation, Arguments, IsWellFormed, AreWellFormed, yield, yield_arguments, openness, precedence, FitsLeft, FitsRight, FitsUnary, IsBase, FitsMatching, OpensNoParen}
use Rattle.promql_grammar.specs.Grammar as form
use Rattle.promql_span.specs.TokensBefore.{AreAlike}

pub same_alike : (xs : List Symbol) → AreAlike xs xs
same_alike [] = tt
same_alike (punct k ∷ xs) = (refl, same_alike xs)
same_alike (word k text ∷ xs) = (refl, same_alike xs)

-- ---- parts of a list

none_alike : (us : List Symbol) → AreAlike [] us → us ≡ []
none_alike [] a = refl
none_alike (u ∷ us) a = absurd a

record FirstWord (k : TokenKind) (ts us : List Symbol) : Type 0 where
  text : Text
  rest : List Symbol
  is : us ≡ word k text ∷ rest
  alike : AreAlike ts rest

first_word : (k : TokenKind) (text : Text) (ts us : List Symbol) → AreAlike (word k text ∷ ts) us → FirstWord k ts us
first_word k text ts [] a = absurd a
first_word k text ts (punct j ∷ us) a = absurd a.0
first_word k text ts (word j other ∷ us) a = record { text = other; rest = us; is = ap (λ i. word i other ∷ us) (sym a.0); alike = a.1 }

record FirstPunct (k : TokenKind) (ts us : List Symbol) : Type 0 where
  rest : List Symbol
  is : us ≡ punct k ∷ rest
  alike : AreAlike ts rest

first_punct : (k : TokenKind) (ts us : List Symbol) → AreAlike (punct k ∷ ts) us → FirstPunct k ts us
first_punct k ts [] a = absurd a
first_punct k ts (punct j ∷ us) a = record { rest = us; is = ap (λ i. punct i ∷ us) (sym a.0); alike = a.1 }
first_punct k ts (word j other ∷ us) a = absurd a.0

record Parts (xs ys us : List Symbol) : Type 0 where
  left : List Symbol
  right : List Symbol
  is : us ≡ left ++ right
  left_alike : AreAlike xs left
  right_alike : AreAlike ys right

parts : (xs ys us : List Symbol) → AreAlike (xs ++ ys) us → Parts xs ys us
parts [] ys us a = record { left = []; right = us; is = refl; left_alike = tt; right_alike = a }
parts (x ∷ xs) ys [] a = absurd a
parts (x ∷ xs) ys (u ∷ us) a =
    let p = parts xs ys us a.1 in
    record { left = u ∷ p.left; right = p.right; is = ap (λ l. u ∷ l) p.is; left_alike = (a.0, p.left_alike); right_alike = p.right_alike }

pub alike_append : (xs ys us vs : List Symbol) → AreAlike xs us → AreAlike ys vs → AreAlike (xs ++ ys) (us ++ vs)
alike_append [] ys [] vs a b = b
alike_append [] ys (u ∷ us) vs a b = absurd a
alike_append (x ∷ xs) ys [] vs a b = absurd a
alike_append (x ∷ xs) ys (u ∷ us) vs a b = (a.0, alike_append xs ys us vs a.1 b)

-- ---- parts of an expression

-- one with these tokens
record Respelled {X : Type 0} (spell : X → List Symbol) (Is : X → Type 0) (us : List Symbol) : Type 0 where
  it : X
  formed : Is it
  spells : spell it ≡ us

-- one of which nothing else is asked
abbrev Any : {X : Type 0} → X → Type 0
Any x = Unit {0}

abbrev closing : List Symbol
closing = punct kind.RightParen ∷ []

parenthesis : (us : List Symbol) → AreAlike closing us → closing ≡ us
parenthesis us a = let p = first_punct kind.RightParen [] us a in let e = none_alike p.rest p.alike in ap (λ l. punct kind.RightParen ∷ l) (sym e) ∙ sym p.is

time : (t : Time) (us : List Symbol) → AreAlike (yield_time t) us → Respelled yield_time Any us
time (part.seconds text) us a = let w = first_word kind.Number text [] us a in let e = none_alike w.rest w.alike in record { it = part.seconds w.text; formed = tt; spells = ap (λ l. word kind.Number w.text ∷ l) (sym e) ∙ sym w.is }
time (part.duration text) us a = let w = first_word kind.Duration text [] us a in let e = none_alike w.rest w.alike in record { it = part.duration w.text; formed = tt; spells = ap (λ l. word kind.Duration w.text ∷ l) (sym e) ∙ sym w.is }

signed : (s : Signed) (us : List Symbol) → AreAlike (yield_signed s) us → Respelled yield_signed Any us
signed None us a = record { it = None; formed = tt; spells = sym (none_alike us a) }
signed (Some (minus, text)) us a =
    let k = kind.Operator (if minus then T_SUB else T_ADD) in
    let w = first_word k text [] us a in let e = none_alike w.rest w.alike in
    record { it = Some (minus, w.text); formed = tt; spells = ap (λ l. word k w.text ∷ l) (sym e) ∙ sym w.is }

names : (ls : Labels) (us : List Symbol) → IsLabels ls → AreAlike (yield_names ls) us → Respelled yield_names IsLabels us
names part.no_label us is a = record { it = part.no_label; formed = tt; spells = parenthesis us a }
names (part.last k text) us is a =
    let w = first_word k text closing us a in let e = parenthesis w.rest w.alike in
    record { it = part.last k w.text; formed = is; spells = ap (λ l. word k w.text ∷ l) e ∙ sym w.is }
names (part.next k text ls) us is a =
    let w = first_word k text (punct kind.Comma ∷ yield_names ls) us a in let c = first_punct kind.Comma (yield_names ls) w.rest w.alike in let r = names ls c.rest is.1 c.alike in
    record { it = part.next k w.text r.it; formed = (is.0, r.formed); spells = ap (λ l. word k w.text ∷ punct kind.Comma ∷ l) r.spells ∙ ap (λ l. word k w.text ∷ l) (sym c.is) ∙ sym w.is }

labels : (ls : Labels) (us : List Symbol) → IsLabels ls → AreAlike (yield_labels ls) us → Respelled yield_labels IsLabels us
labels ls us is a =
    let p = first_punct kind.LeftParen (yield_names ls) us a in let r = names ls p.rest is p.alike in
    record { it = r.it; formed = r.formed; spells = ap (λ l. punct kind.LeftParen ∷ l) r.spells ∙ sym p.is }

grouping : (g : Grouping) (us : List Symbol) → IsGrouping g → AreAlike (yield_grouping g) us → Respelled yield_grouping IsGrouping us
grouping (by, text, ls) us is a =
    let k = if by then kind.By else kind.Without in
    let w = first_word k text (yield_labels ls) us a in let r = labels ls w.rest is w.alike in
    record { it = (by, w.text, r.it); formed = r.formed; spells = ap (λ l. word k w.text ∷ l) r.spells ∙ sym w.is }

-- whether a grouping word has no labels
abbrev is_bare : Group → Bool
is_bare (Some (k, text, None)) = true
is_bare g = false

group : (g : Group) (us : List Symbol) → IsGroup g → AreAlike (yield_group g) us → Respelled yield_group (λ h. IsGroup h × (is_bare g ≡ is_bare h)) us
group None us is a = record { it = None; formed = (tt, refl); spells = sym (none_alike us a) }
group (Some (left, text, None)) us is a =
    let k = if left then kind.GroupLeft else kind.GroupRight in
    let w = first_word k text [] us a in let e = none_alike w.rest w.alike in
    record { it = Some (left, w.text, None); formed = (tt, refl); spells = ap (λ l. word k w.text ∷ l) (sym e) ∙ sym w.is }
group (Some (left, text, Some ls)) us is a =
    let k = if left then kind.GroupLeft else kind.GroupRight in
    let w = first_word k text (yield_labels ls) us a in let r = labels ls w.rest is w.alike in
    record { it = Some (left, w.text, Some r.it); formed = (r.formed, refl); spells = ap (λ l. word k w.text ∷ l) r.spells ∙ sym w.is }

value : (v : FillValue) (us : List Symbol) → AreAlike (yield_value v) us → Respelled yield_value Any us
value v us a =
    let number : List Symbol = word kind.Number v.1 ∷ closing in
    let p = first_punct kind.LeftParen (yield_signed v.0 ++ number) us a in
    let q = parts (yield_signed v.0) number p.rest p.alike in
    let s = signed v.0 q.left q.left_alike in
    let w = first_word kind.Number v.1 closing q.right q.right_alike in
    let e = parenthesis w.rest w.alike in
    let end : word kind.Number w.text ∷ punct kind.RightParen ∷ [] ≡ q.right = ap (λ l. word kind.Number w.text ∷ l) e ∙ sym w.is in
    record { it = (s.it, w.text); formed = tt; spells = ap (λ l. punct kind.LeftParen ∷ l) ((λ i. s.spells i ++ end i) ∙ sym q.is) ∙ sym p.is }

-- whether there are no fill values
abbrev is_unfilled : Fills → Bool
is_unfilled part.no_fill = true
is_unfilled f = false

one_fill : (k : TokenKind) (text : Text) (v : FillValue) (us : List Symbol) → AreAlike (word k text ∷ yield_value v) us → Respelled (λ (f : Text × FillValue). word k f.0 ∷ yield_value f.1) Any us
one_fill k text v us a =
    let w = first_word k text (yield_value v) us a in let r = value v w.rest w.alike in
    record { it = (w.text, r.it); formed = tt; spells = ap (λ l. word k w.text ∷ l) r.spells ∙ sym w.is }

side : (left : Bool) (text : Text) (v : FillValue) (us : List Symbol) → AreAlike (yield_side left text v) us → Respelled (λ (f : Text × FillValue). yield_side left f.0 f.1) Any us
side left text v us a = let r = one_fill (if left then kind.FillLeft else kind.FillRight) text v us a in record { it = r.it; formed = tt; spells = r.spells }

fills : (f : Fills) (us : List Symbol) → AreAlike (yield_fills f) us → Respelled yield_fills (λ h. is_unfilled f ≡ is_unfilled h) us
fills part.no_fill us a = record { it = part.no_fill; formed = refl; spells = sym (none_alike us a) }
fills (part.both text v) us a = let r = one_fill kind.Fill text v us a in record { it = part.both r.it.0 r.it.1; formed = refl; spells = r.spells }
fills (part.one left text v) us a = let r = side left text v us a in record { it = part.one left r.it.0 r.it.1; formed = refl; spells = r.spells }
fills (part.two left text v other x) us a =
    let q = parts (yield_side left text v) (yield_side (not left) other x) us a in
    let l = side left text v q.left q.left_alike in
    let r = side (not left) other x q.right q.right_alike in
    record { it = part.two left l.it.0 l.it.1 r.it.0 r.it.1; formed = refl; spells = (λ i. l.spells i ++ r.spells i) ∙ sym q.is }

flag : (f : Option Text) (us : List Symbol) → AreAlike (yield_flag f) us → Respelled yield_flag Any us
flag None us a = record { it = None; formed = tt; spells = sym (none_alike us a) }
flag (Some text) us a = let w = first_word kind.Bool text [] us a in let e = none_alike w.rest w.alike in record { it = Some w.text; formed = tt; spells = ap (λ l. word kind.Bool w.text ∷ l) (sym e) ∙ sym w.is }

-- what a grouping word without labels asks of a right side
abbrev FitsGroup : Group → Fills → List Symbol → Type 0
FitsGroup (Some (left, text, None)) part.no_fill ts = OpensNoParen ts
FitsGroup g f ts = Unit {0}

to_group : (on : Bool) (text : Text) (ls : Labels) (g : Group) (f : Fills) (ts : List Symbol) → FitsMatching (Some (on, text, ls, g)) f ts → FitsGroup g f ts
to_group on text ls (Some (left, other, None)) part.no_fill ts fits = fits
to_group on text ls g f ts fits = tt

from_group : (on : Bool) (text : Text) (ls : Labels) (g : Group) (f : Fills) (ts : List Symbol) → FitsGroup g f ts → FitsMatching (Some (on, text, ls, g)) f ts
from_group on text ls (Some (left, other, None)) part.no_fill ts fits = fits
from_group on text ls g f ts fits = tt

-- what a modifier asks of its right side, it asks of one with other texts
fits_group : (g h : Group) (f e : Fills) (ts : List Symbol) → is_bare g ≡ is_bare h → is_unfilled f ≡ is_unfilled e → FitsGroup g f ts → FitsGroup h e ts
fits_group g None f e ts bare unfilled fits = tt
fits_group g (Some (left, text, Some ls)) f e ts bare unfilled fits = tt
fits_group g (Some (left, text, None)) f (part.both t v) ts bare unfilled fits = tt
fits_group g (Some (left, text, None)) f (part.one side t v) ts bare unfilled fits = tt
fits_group g (Some (left, text, None)) f (part.two side t v u w) ts bare unfilled fits = tt
fits_group (Some (right, other, None)) (Some (left, text, None)) part.no_fill part.no_fill ts bare unfilled fits = fits
fits_group None (Some (left, text, None)) f part.no_fill ts bare unfilled fits = cc
fits_group (Some (right, other, Some ls)) (Some (left, text, None)) f part.no_fill ts bare unfilled fits = cc
fits_group (Some (right, other, None)) (Some (left, text, None)) f part.no_fill ts bare unfilled fits = cc

matching : (m : Matching) (us : List Symbol) → IsMatching m → AreAlike (yield_matching m) us
    → Respelled yield_matching (λ n. IsMatching n × ((f e : Fills) (ts : List Symbol) → is_unfilled f ≡ is_unfilled e → FitsMatching m f ts → FitsMatching n e ts)) us
matching None us is a = record { it = None; formed = (tt, λ f e ts unfilled fits. tt); spells = sym (none_alike us a) }
matching (Some (on, text, ls, g)) us is a =
    let k = if on then kind.On else kind.Ignoring in
    let w = first_word k text (yield_labels ls ++ yield_group g) us a in
    let q = parts (yield_labels ls) (yield_group g) w.rest w.alike in
    let l = labels ls q.left is.0 q.left_alike in
    let r = group g q.right is.1 q.right_alike in
    record {
      it = Some (on, w.text, l.it, r.it);
      formed = ((l.formed, r.formed.0), λ f e ts unfilled fits. from_group on w.text l.it r.it e ts (fits_group g r.it f e ts r.formed.1 unfilled (to_group on text ls g f ts fits)));
      spells = ap (λ l. word k w.text ∷ l) ((λ i. l.spells i ++ r.spells i) ∙ sym q.is) ∙ sym w.is;
    }

modifier : (m : Modifier) (us : List Symbol) → IsMatching m.1 → AreAlike (yield_modifier m) us
    → Respelled yield_modifier (λ n. IsMatching n.1 × ((ts : List Symbol) → FitsMatching m.1 m.2 ts → FitsMatching n.1 n.2 ts)) us
modifier m us is a =
    let p = parts (yield_flag m.0) (yield_matching m.1 ++ yield_fills m.2) us a in
    let q = parts (yield_matching m.1) (yield_fills m.2) p.right p.right_alike in
    let b = flag m.0 p.left p.left_alike in
    let w = matching m.1 q.left is q.left_alike in
    let f = fills m.2 q.right q.right_alike in
    record {
      it = (b.it, w.it, f.it);
      formed = (w.formed.0, λ ts fits. w.formed.1 m.2 f.it ts f.formed fits);
      spells = (λ i. b.spells i ++ ((λ j. w.spells j ++ f.spells j) ∙ sym q.is) i) ∙ sym p.is;
    }

match_operator : (o : MatchOperator) (ts us : List Symbol) → AreAlike (yield_match_operator o ∷ ts) us → (n : MatchOperator) × (vs : List Symbol) × (us ≡ yield_match_operator n ∷ vs) × AreAlike ts vs
match_operator part.equal ts us a = let p = first_punct kind.Equal ts us a in (part.equal, p.rest, p.is, p.alike)
match_operator (part.not_equal text) ts us a = let w = first_word (kind.Operator T_NEQ) text ts us a in (part.not_equal w.text, w.rest, w.is, w.alike)
match_operator part.equal_regex ts us a = let p = first_punct kind.EqualRegex ts us a in (part.equal_regex, p.rest, p.is, p.alike)
match_operator part.not_equal_regex ts us a = let p = first_punct kind.NotEqualRegex ts us a in (part.not_equal_regex, p.rest, p.is, p.alike)

separator : (s : Separator) (ts us : List Symbol) → AreAlike (yield_separator s ∷ ts) us → (n : Separator) × (vs : List Symbol) × (us ≡ yield_separator n ∷ vs) × AreAlike ts vs
separator None ts us a = let p = first_punct kind.Comma ts us a in (None, p.rest, p.is, p.alike)
separator (Some text) ts us a = let w = first_word (kind.Operator T_LOR) text ts us a in (Some w.text, w.rest, w.is, w.alike)

item : (i : Item) (us : List Symbol) → AreAlike (yield_item i) us → Respelled yield_item Any us
item (part.matcher quoted text s value) us a =
    let k = name_kind quoted in
    let string : List Symbol = word kind.String value ∷ [] in
    let w = first_word k text (yield_match_operator s ∷ string) us a in
    let o = match_operator s string w.rest w.alike in
    let v = first_word kind.String value [] o.1 o.3 in
    let e = none_alike v.rest v.alike in
    record {
      it = part.matcher quoted w.text o.0 v.text;
      formed = tt;
      spells = ap (λ l. word k w.text ∷ l) (ap (λ l. yield_match_operator o.0 ∷ l) (ap (λ l. word kind.String v.text ∷ l) (sym e) ∙ sym v.is) ∙ sym o.2) ∙ sym w.is;
    }
item (part.lone text) us a = let w = first_word kind.String text [] us a in let e = none_alike w.rest w.alike in record { it = part.lone w.text; formed = tt; spells = ap (λ l. word kind.String w.text ∷ l) (sym e) ∙ sym w.is }

items : (is : Items) (us : List Symbol) → AreAlike (yield_items is) us → Respelled yield_items Any us
items (part.last_item i false) us a =
    let q = parts (yield_item i) (punct kind.RightBrace ∷ []) us a in
    let r = item i q.left q.left_alike in
    let p = first_punct kind.RightBrace [] q.right q.right_alike in
    let e = none_alike p.rest p.alike in
    let end : punct kind.RightBrace ∷ [] ≡ q.right = ap (λ l. punct kind.RightBrace ∷ l) (sym e) ∙ sym p.is in
    record { it = part.last_item r.it false; formed = tt; spells = (λ j. r.spells j ++ end j) ∙ sym q.is }
items (part.last_item i true) us a =
    let close : List Symbol = punct kind.RightBrace ∷ [] in
    let q = parts (yield_item i) (punct kind.Comma ∷ close) us a in
    let r = item i q.left q.left_alike in
    let c = first_punct kind.Comma close q.right q.right_alike in
    let p = first_punct kind.RightBrace [] c.rest c.alike in
    let e = none_alike p.rest p.alike in
    let end : punct kind.Comma ∷ punct kind.RightBrace ∷ [] ≡ q.right = ap (λ l. punct kind.Comma ∷ l) (ap (λ l. punct kind.RightBrace ∷ l) (sym e) ∙ sym p.is) ∙ sym c.is in
    record { it = part.last_item r.it true; formed = tt; spells = (λ j. r.spells j ++ end j) ∙ sym q.is }
items (part.next_item i s is) us a =
    let q = parts (yield_item i) (yield_separator s ∷ yield_items is) us a in
    let r = item i q.left q.left_alike in
    let o = separator s (yield_items is) q.right q.right_alike in
    let more = items is o.1 o.3 in
    let end : yield_separator o.0 ∷ yield_items more.it ≡ q.right = ap (λ l. yield_separator o.0 ∷ l) more.spells ∙ sym o.2 in
    record { it = part.next_item r.it o.0 more.it; formed = tt; spells = (λ j. r.spells j ++ end j) ∙ sym q.is }

braces : (b : Braces) (us : List Symbol) → AreAlike (yield_braces b) us → Respelled yield_braces Any us
braces None us a =
    let p = first_punct kind.LeftBrace (punct kind.RightBrace ∷ []) us a in let q = first_punct kind.RightBrace [] p.rest p.alike in let e = none_alike q.rest q.alike in
    record { it = None; formed = tt; spells = ap (λ l. punct kind.LeftBrace ∷ l) (ap (λ l. punct kind.RightBrace ∷ l) (sym e) ∙ sym q.is) ∙ sym p.is }
braces (Some is) us a =
    let p = first_punct kind.LeftBrace (yield_items is) us a in let r = items is p.rest p.alike in
    record { it = Some r.it; formed = tt; spells = ap (λ l. punct kind.LeftBrace ∷ l) r.spells ∙ sym p.is }

any_braces : (b : Option Braces) (us : List Symbol) → AreAlike (yield_any_braces b) us → Respelled yield_any_braces Any us
any_braces None us a = record { it = None; formed = tt; spells = sym (none_alike us a) }
any_braces (Some b) us a = let r = braces b us a in record { it = Some r.it; formed = tt; spells = r.spells }

step : (s : Option Time) (us : List Symbol) → AreAlike (yield_step s) us → Respelled yield_step Any us
step None us a = record { it = None; formed = tt; spells = sym (none_alike us a) }
step (Some t) us a = let r = time t us a in record { it = Some r.it; formed = tt; spells = r.spells }

bracket : (us : List Symbol) → AreAlike (punct kind.RightBracket ∷ []) us → punct kind.RightBracket ∷ [] ≡ us
bracket us a = let p = first_punct kind.RightBracket [] us a in let e = none_alike p.rest p.alike in ap (λ l. punct kind.RightBracket ∷ l) (sym e) ∙ sym p.is

postfix : (p : Postfix) (us : List Symbol) → AreAlike (yield_postfix p) us → Respelled yield_postfix Any us
postfix (part.range t) us a =
    let close : List Symbol = punct kind.RightBracket ∷ [] in
    let p = first_punct kind.LeftBracket (yield_time t ++ close) us a in
    let q = parts (yield_time t) close p.rest p.alike in
    let r = time t q.left q.left_alike in
    let end = bracket q.right q.right_alike in
    record { it = part.range r.it; formed = tt; spells = ap (λ l. punct kind.LeftBracket ∷ l) ((λ i. r.spells i ++ end i) ∙ sym q.is) ∙ sym p.is }
postfix (part.subquery t s) us a =
    let close : List Symbol = punct kind.RightBracket ∷ [] in
    let later : List Symbol = yield_step s ++ close in
    let p = first_punct kind.LeftBracket (yield_time t ++ punct kind.Colon ∷ later) us a in
    let q = parts (yield_time t) (punct kind.Colon ∷ later) p.rest p.alike in
    let r = time t q.left q.left_alike in
    let c = first_punct kind.Colon later q.right q.right_alike in
    let o = parts (yield_step s) close c.rest c.alike in
    let more = step s o.left o.left_alike in
    let end = bracket o.right o.right_alike in
    let tail : punct kind.Colon ∷ (yield_step more.it ++ close) ≡ q.right = ap (λ l. punct kind.Colon ∷ l) ((λ i. more.spells i ++ end i) ∙ sym o.is) ∙ sym c.is in
    record { it = part.subquery r.it more.it; formed = tt; spells = ap (λ l. punct kind.LeftBracket ∷ l) ((λ i. r.spells i ++ tail i) ∙ sym q.is) ∙ sym p.is }
postfix (part.at_number s text) us a =
    let number : List Symbol = word kind.Number text ∷ [] in
    let p = first_punct kind.At (yield_signed s ++ number) us a in
    let q = parts (yield_signed s) number p.rest p.alike in
    let r = signed s q.left q.left_alike in
    let w = first_word kind.Number text [] q.right q.right_alike in
    let e = none_alike w.rest w.alike in
    let end : word kind.Number w.text ∷ [] ≡ q.right = ap (λ l. word kind.Number w.text ∷ l) (sym e) ∙ sym w.is in
    record { it = part.at_number r.it w.text; formed = tt; spells = ap (λ l. punct kind.At ∷ l) ((λ i. r.spells i ++ end i) ∙ sym q.is) ∙ sym p.is }
postfix (part.at_bound start text) us a =
    let k = if start then kind.Start else kind.End in
    let p = first_punct kind.At (word k text ∷ punct kind.LeftParen ∷ closing) us a in
    let w = first_word k text (punct kind.LeftParen ∷ closing) p.rest p.alike in
    let o = first_punct kind.LeftParen closing w.rest w.alike in
    let c = first_punct kind.RightParen [] o.rest o.alike in
    let e = none_alike c.rest c.alike in
    let parens : punct kind.LeftParen ∷ closing ≡ w.rest = ap (λ l. punct kind.LeftParen ∷ l) (ap (λ l. punct kind.RightParen ∷ l) (sym e) ∙ sym c.is) ∙ sym o.is in
    record { it = part.at_bound start w.text; formed = tt; spells = ap (λ l. punct kind.At ∷ l) (ap (λ l. word k w.text ∷ l) parens ∙ sym w.is) ∙ sym p.is }
postfix (part.offset text s t) us a =
    let w = first_word kind.Offset text (yield_signed s ++ yield_time t) us a in
    let q = parts (yield_signed s) (yield_time t) w.rest w.alike in
    let l = signed s q.left q.left_alike in
    let r = time t q.right q.right_alike in
    record { it = part.offset w.text l.it r.it; formed = tt; spells = ap (λ l. word kind.Offset w.text ∷ l) ((λ i. l.spells i ++ r.spells i) ∙ sym q.is) ∙ sym w.is }
postfix (part.mode smoothed text) us a = let k = if smoothed then kind.Smoothed else kind.Anchored in let w = first_word k text [] us a in let e = none_alike w.rest w.alike in record { it = part.mode smoothed w.text; formed = tt; spells = ap (λ l. word k w.text ∷ l) (sym e) ∙ sym w.is }

is_before : (g : Grouping) → IsGrouping g → IsClause (Some (true, g))
is_before (by, text, ls) is = is

is_after : (g : Grouping) → IsGrouping g → IsClause (Some (false, g))
is_after (by, text, ls) is = is

clause : (c : part.Clause) (us vs : List Symbol) → IsClause c → AreAlike (part.yield_before c) us → AreAlike (part.yield_after c) vs
    → (n : part.Clause) × IsClause n × (part.yield_before n ≡ us) × (part.yield_after n ≡ vs)
clause None us vs is a b = (None, tt, sym (none_alike us a), sym (none_alike vs b))
clause (Some (true, (by, text, ls))) us vs is a b =
    let r = grouping (by, text, ls) us is a in (Some (true, r.it), is_before r.it r.formed, r.spells, sym (none_alike vs b))
clause (Some (false, (by, text, ls))) us vs is a b =
    let r = grouping (by, text, ls) vs is b in (Some (false, r.it), is_after r.it r.formed, sym (none_alike us a), r.spells)

-- ---- expressions

no_paren : (k : TokenKind) (ts us : List Symbol) → OpensNoParen (punct k ∷ ts) → OpensNoParen (punct k ∷ us)
no_paren kind.LeftParen ts us opens = opens
no_paren _ ts us opens = tt

opens_alike : (ts us : List Symbol) → AreAlike ts us → OpensNoParen ts → OpensNoParen us
opens_alike [] [] a opens = tt
opens_alike [] (u ∷ us) a opens = absurd a
opens_alike (t ∷ ts) [] a opens = absurd a
opens_alike (punct k ∷ ts) (punct j ∷ us) a opens = subst (λ i. OpensNoParen (punct i ∷ us)) a.0 (no_paren k ts us opens)
opens_alike (punct k ∷ ts) (word j u ∷ us) a opens = tt
opens_alike (word k t ∷ ts) (punct j ∷ us) a opens = absurd a.0
opens_alike (word k t ∷ ts) (word j u ∷ us) a opens = tt

group_alike : (g : Group) (f : Fills) (ts us : List Symbol) → AreAlike ts us → FitsGroup g f ts → FitsGroup g f us
group_alike (Some (left, text, None)) part.no_fill ts us a fits = opens_alike ts us a fits
group_alike g f ts us a fits = tt

matching_alike : (m : Matching) (f : Fills) (ts us : List Symbol) → AreAlike ts us → FitsMatching m f ts → FitsMatching m f us
matching_alike None f ts us a fits = tt
matching_alike (Some (on, text, ls, g)) f ts us a fits = from_group on text ls g f us (group_alike g f ts us a (to_group on text ls g f ts fits))

-- a derivation of the same form with these tokens
pub record Again (d : Derivation) (us : List Symbol) : Type 0 where
  pub it : Derivation
  pub formed : IsWellFormed it
  pub spells : yield it ≡ us
  pub open_alike : openness it ≡ openness d
  pub right : (op : ℕ) → FitsRight op d → FitsRight op it
  pub sign : FitsUnary d → FitsUnary it
  pub base : IsBase d → IsBase it

mutual
  pub derivation_again : (d : Derivation) (us : List Symbol) → IsWellFormed d → AreAlike (yield d) us → Again d us
  derivation_again (form.number text) us is a =
      let w = first_word kind.Number text [] us a in let e = none_alike w.rest w.alike in
      record { it = form.number w.text; formed = tt; spells = ap (λ l. word kind.Number w.text ∷ l) (sym e) ∙ sym w.is; open_alike = refl; right = λ op fits. fits; sign = λ fits. fits; base = λ is. is }
  derivation_again (form.duration text) us is a =
      let w = first_word kind.Duration text [] us a in let e = none_alike w.rest w.alike in
      record { it = form.duration w.text; formed = tt; spells = ap (λ l. word kind.Duration w.text ∷ l) (sym e) ∙ sym w.is; open_alike = refl; right = λ op fits. fits; sign = λ fits. fits; base = λ is. is }
  derivation_again (form.string text) us is a =
      let w = first_word kind.String text [] us a in let e = none_alike w.rest w.alike in
      record { it = form.string w.text; formed = tt; spells = ap (λ l. word kind.String w.text ∷ l) (sym e) ∙ sym w.is; open_alike = refl; right = λ op fits. fits; sign = λ fits. fits; base = λ is. is }
  derivation_again (form.selector k text b) us is a =
      let w = first_word k text (yield_any_braces b) us a in let r = any_braces b w.rest w.alike in
      record { it = form.selector k w.text r.it; formed = is; spells = ap (λ l. word k w.text ∷ l) r.spells ∙ sym w.is; open_alike = refl; right = λ op fits. fits; sign = λ fits. fits; base = λ is. is }
  derivation_again (form.nameless b) us is a =
      let r = braces b us a in
      record { it = form.nameless r.it; formed = tt; spells = r.spells; open_alike = refl; right = λ op fits. fits; sign = λ fits. fits; base = λ is. is }
  derivation_again (form.paren d) us is a =
      let p = first_punct kind.LeftParen (yield d ++ closing) us a in
      let q = parts (yield d) closing p.rest p.alike in
      let r = derivation_again d q.left is q.left_alike in
      let end = parenthesis q.right q.right_alike in
      record { it = form.paren r.it; formed = r.formed; spells = ap (λ l. punct kind.LeftParen ∷ l) ((λ i. r.spells i ++ end i) ∙ sym q.is) ∙ sym p.is; open_alike = refl; right = λ op fits. fits; sign = λ fits. fits; base = λ is. is }
  derivation_again (form.call k text ds) us is a =
      let w = first_word k text (punct kind.LeftParen ∷ yield_arguments [] ds) us a in
      let p = first_punct kind.LeftParen (yield_arguments [] ds) w.rest w.alike in
      let r = arguments_again ds p.rest is.1 p.alike in
      record { it = form.call k w.text r.it; formed = (is.0, r.formed); spells = ap (λ l. word k w.text ∷ l) (ap (λ l. punct kind.LeftParen ∷ l) r.spells ∙ sym p.is) ∙ sym w.is; open_alike = refl; right = λ op fits. fits; sign = λ fits. fits; base = λ is. is }
  derivation_again (form.aggregate op text c ds) us is a =
      let inner : List Symbol = yield_arguments [] ds ++ part.yield_after c in
      let w = first_word (kind.Aggregator op) text (part.yield_before c ++ punct kind.LeftParen ∷ inner) us a in
      let q = parts (part.yield_before c) (punct kind.LeftParen ∷ inner) w.rest w.alike in
      let p = first_punct kind.LeftParen inner q.right q.right_alike in
      let o = parts (yield_arguments [] ds) (part.yield_after c) p.rest p.alike in
      let r = arguments_again ds o.left is.1 o.left_alike in
      let n = clause c q.left o.right is.0 q.left_alike o.right_alike in
      let tail : punct kind.LeftParen ∷ (yield_arguments [] r.it ++ part.yield_after n.0) ≡ q.right = ap (λ l. punct kind.LeftParen ∷ l) ((λ i. r.spells i ++ n.3 i) ∙ sym o.is) ∙ sym p.is in
      record { it = form.aggregate op w.text n.0 r.it; formed = (n.1, r.formed); spells = ap (λ l. word (kind.Aggregator op) w.text ∷ l) ((λ i. n.2 i ++ tail i) ∙ sym q.is) ∙ sym w.is; open_alike = refl; right = λ op fits. fits; sign = λ fits. fits; base = λ is. is }
  derivation_again (form.postfixed d p) us is a =
      let q = parts (yield d) (yield_postfix p) us a in
      let r = derivation_again d q.left is.0 q.left_alike in
      let x = postfix p q.right q.right_alike in
      record { it = form.postfixed r.it x.it; formed = (r.formed, r.base is.1); spells = (λ i. r.spells i ++ x.spells i) ∙ sym q.is; open_alike = refl; right = λ op fits. fits; sign = λ fits. fits; base = λ is. is }
  derivation_again (form.unary op text d) us is a =
      let w = first_word (kind.Operator op) text (yield d) us a in
      let r = derivation_again d w.rest is.1 w.alike in
      record { it = form.unary op w.text r.it; formed = (is.0, r.formed, r.sign is.2); spells = ap (λ l. word (kind.Operator op) w.text ∷ l) r.spells ∙ sym w.is; open_alike = ap (min 5) r.open_alike; right = λ op fits. fits; sign = λ fits. fits; base = λ is. is }
  derivation_again (form.binary op text m l r) us is a =
      let inner : List Symbol = yield_modifier m ++ yield r in
      let q = parts (yield l) (word (kind.Operator op) text ∷ inner) us a in
      let w = first_word (kind.Operator op) text inner q.right q.right_alike in
      let o = parts (yield_modifier m) (yield r) w.rest w.alike in
      let x = derivation_again l q.left is.0 q.left_alike in
      let n = modifier m o.left is.2 o.left_alike in
      let y = derivation_again r o.right is.1 o.right_alike in
      let tail : word (kind.Operator op) w.text ∷ (yield_modifier n.it ++ yield y.it) ≡ q.right = ap (λ l. word (kind.Operator op) w.text ∷ l) ((λ i. n.spells i ++ y.spells i) ∙ sym o.is) ∙ sym w.is in
      let alike : AreAlike (yield r) (yield y.it) = subst (AreAlike (yield r)) (sym y.spells) o.right_alike in
      record {
        it = form.binary op w.text n.it x.it y.it;
        formed = (x.formed, y.formed, n.formed.0, subst (FitsLeft op) (sym x.open_alike) is.3, y.right op is.4, matching_alike n.it.1 n.it.2 (yield r) (yield y.it) alike (n.formed.1 (yield r) is.5));
        spells = (λ i. x.spells i ++ tail i) ∙ sym q.is;
        open_alike = ap (min (precedence op)) y.open_alike;
        right = λ op fits. fits;
        sign = λ fits. fits;
        base = λ is. is;
      }

  arguments_again : (ds : Arguments) (us : List Symbol) → AreWellFormed ds → AreAlike (yield_arguments [] ds) us → Respelled (yield_arguments []) AreWellFormed us
  arguments_again form.none us is a = record { it = form.none; formed = tt; spells = parenthesis us a }
  arguments_again (form.more d ds) us is a =
      let q = parts (yield d) (yield_rest ds) us a in
      let r = derivation_again d q.left is.0 q.left_alike in
      let s = rest_again ds q.right is.1 q.right_alike in
      record { it = form.more r.it s.it; formed = (r.formed, s.formed); spells = (λ i. r.spells i ++ s.spells i) ∙ sym q.is }

  rest_again : (ds : Arguments) (us : List Symbol) → AreWellFormed ds → AreAlike (yield_rest ds) us → Respelled yield_rest AreWellFormed us
  rest_again form.none us is a = record { it = form.none; formed = tt; spells = parenthesis us a }
  rest_again (form.more d ds) us is a =
      let p = first_punct kind.Comma (yield d ++ yield_rest ds) us a in
      let q = parts (yield d) (yield_rest ds) p.rest p.alike in
      let r = derivation_again d q.left is.0 q.left_alike in
      let s = rest_again ds q.right is.1 q.right_alike in
      record { it = form.more r.it s.it; formed = (r.formed, s.formed); spells = ap (λ l. punct kind.Comma ∷ l) ((λ i. r.spells i ++ s.spells i) ∙ sym q.is) ∙ sym p.is }
