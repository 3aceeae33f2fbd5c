-- Each part that is parsed is well formed, and spells the tokens that were taken.
use Rattle.std.proofs.Common.{◌≡◌, ℕ, zero, suc, refl, sym, ◌∙◌, ap, subst, List, [], ◌∷◌, ◌++◌, length, append_assoc, Bool, true, false, Option, Some, None}
use Rattle.std.specs.Prelude.{◌==◌, Ok, Err, if◌then◌else◌}
use Rattle.std.proofs.lemmas.Bool.{eqb-true}
use Rattle.promql_text.specs.Texts.{Text}
use Rattle.promql_token.specs.declared.ids.TheConstants.{T_NEQ, T_LOR, T_ADD, T_SUB}
use Rattle.promql_grammar.specs.declared.token_kinds.TokenKind.TheVariants as kind
use Rattle.promql_grammar.specs.Results.{◌then◌}
use Rattle.promql_grammar.specs.Symbols.{Symbol, punct, word, may_be_label}
use Rattle.promql_grammar.specs.GrammarParts.{Time, Signed, Labels, last, next, Clause, Group, Matching, FillValue, Fills, no_fill, both, two, Modifier, MatchOperator, not_equal, Item, matcher, Items, next_item, Postfix, at_number, offset, yield_time, yield_signed, yield_names, yield_labels, yield_before, yield_after, yield_group, yield_matching, yield_value, yield_fills, yield_modifier, yield_match_operator, yield_item, yield_items, yield_braces, yield_postfix, IsLabels, IsMatching, name_kind}
use Rattle.promql_grammar.specs.PartTokens.{IsGrouping, yield_flag, yield_any_braces, IsGroup}
use Rattle.promql_grammar.specs.Grammar.{OpensNoParen, FitsMatching}
use Rattle.promql_grammar.specs.Parsing.{misfit, too_high, Read, parse_time, eat_sign, parse_number, parse_string, parse_fill_value_end, parse_fill_value, parse_label_list, parse_labels, parse_grouping, parse_group_labels, parse_group, parse_matching_after, parse_matching, parse_fills, parse_fill_right, parse_fill_left, parse_flag, with_fills, with_matching, parse_modifier, parse_match_operator, parse_matcher_value, parse_after_name, parse_after_string, parse_item, parse_after_item, parse_items, parse_braces, parse_optional_braces, parse_step_end, parse_step, parse_range_end, parse_at_bound, parse_at_modifier, parse_offset_postfix, parse_postfix}

-- the tokens start with those of a part, and this holds of it and of the tokens after it
abbrev pub Takes : {A : Type 0} → (A → List Symbol) → (A → List Symbol → Type 0) → List Symbol → Read A → Type 0
Takes spells holds ts (Ok x) = (ts ≡ spells x.0 ++ x.1) × holds x.0 x.1
Takes spells holds ts (Err (misfit bad)) = Unit {0}
Takes spells holds ts (Err too_high) = ⊥

abbrev pub Took : {A : Type 0} → (A → List Symbol) → (A → Type 0) → List Symbol → Read A → Type 0
Took spells holds ts o = Takes spells (λ x us. holds x) ts o

-- a part after a part
pub takes_then : {A B : Type 0} (spells : A → List Symbol) (holds : A → List Symbol → Type 0) (ts : List Symbol) (spells' : B → List Symbol) (holds' : B → List Symbol → Type 0) (ts' : List Symbol) (o : Read A) (f : A × List Symbol → Read B)
    → Takes spells holds ts o → ((x : A) (us : List Symbol) → ts ≡ spells x ++ us → holds x us → Takes spells' holds' ts' (f (x, us))) → Takes spells' holds' ts' (o then f)
takes_then s h ts s' h' ts' (Ok x) f t k = k x.0 x.1 t.0 t.1
takes_then s h ts s' h' ts' (Err (misfit bad)) f t k = tt
takes_then s h ts s' h' ts' (Err too_high) f t k = absurd t

pub took_then : {A B : Type 0} (spells : A → List Symbol) (holds : A → Type 0) (ts : List Symbol) (spells' : B → List Symbol) (holds' : B → Type 0) (ts' : List Symbol) (o : Read A) (f : A × List Symbol → Read B)
    → Took spells holds ts o → ((x : A) (us : List Symbol) → ts ≡ spells x ++ us → holds x → Took spells' holds' ts' (f (x, us))) → Took spells' holds' ts' (o then f)
took_then s h ts s' h' ts' o f t k = takes_then s (λ x us. h x) ts s' (λ x us. h' x) ts' o f t k

took_if : {A : Type 0} (spells : A → List Symbol) (holds : A → Type 0) (ts : List Symbol) (b : Bool) (o : Read A) (bad : List Symbol) → (b ≡ true → Took spells holds ts o) → Took spells holds ts (if b then o else Err (misfit bad))
took_if s h ts true o bad t = t refl
took_if s h ts false o bad t = tt

-- a part of which nothing else is asked
abbrev pub Any : {A : Type 0} → A → Type 0
Any x = Unit {0}

pub time_taken : (ts : List Symbol) → Took yield_time Any ts (parse_time ts)
time_taken (word kind.Number t ∷ ts) = (refl, tt)
time_taken (word kind.Duration t ∷ ts) = (refl, tt)
time_taken ts = tt

minus_if : (op : ℕ) (t : Text) (ts : List Symbol) (b : Bool) → (op == T_SUB) ≡ b
    → Took yield_signed Any (word (kind.Operator op) t ∷ ts) (if b then Ok (Some (true, t), ts) else Ok (None, word (kind.Operator op) t ∷ ts))
minus_if op t ts true e = (ap (λ o. word (kind.Operator o) t ∷ ts) (eqb-true op T_SUB e), tt)
minus_if op t ts false e = (refl, tt)

signed_if : (op : ℕ) (t : Text) (ts : List Symbol) (b : Bool) → (op == T_ADD) ≡ b
    → Took yield_signed Any (word (kind.Operator op) t ∷ ts) (if b then Ok (Some (false, t), ts) else if op == T_SUB then Ok (Some (true, t), ts) else Ok (None, word (kind.Operator op) t ∷ ts))
signed_if op t ts true e = (ap (λ o. word (kind.Operator o) t ∷ ts) (eqb-true op T_ADD e), tt)
signed_if op t ts false e = minus_if op t ts (op == T_SUB) refl

signed_taken : (ts : List Symbol) → Took yield_signed Any ts (eat_sign ts)
signed_taken (word (kind.Operator op) t ∷ ts) = signed_if op t ts (op == T_ADD) refl
signed_taken ts = (refl, tt)

abbrev yield_number : Text → List Symbol
yield_number t = word kind.Number t ∷ []

number_taken : (ts : List Symbol) → Took yield_number Any ts (parse_number ts)
number_taken (word kind.Number t ∷ ts) = (refl, tt)
number_taken ts = tt

abbrev yield_string : Text → List Symbol
yield_string t = word kind.String t ∷ []

string_taken : (ts : List Symbol) → Took yield_string Any ts (parse_string ts)
string_taken (word kind.String t ∷ ts) = (refl, tt)
string_taken ts = tt

value_end_taken : (s : Signed) (n : Text) (ts us : List Symbol) → ts ≡ yield_signed s ++ word kind.Number n ∷ us → Took yield_value Any (punct kind.LeftParen ∷ ts) (parse_fill_value_end s n us)
value_end_taken s n ts (punct kind.RightParen ∷ us) e = (ap (λ l. punct kind.LeftParen ∷ l) (e ∙ sym (append_assoc (yield_signed s) (word kind.Number n ∷ (punct kind.RightParen ∷ [])) us)), tt)
value_end_taken s n ts us e = tt

value_taken : (ts : List Symbol) → Took yield_value Any ts (parse_fill_value ts)
value_taken (punct kind.LeftParen ∷ ts) =
    took_then yield_signed Any ts yield_value Any (punct kind.LeftParen ∷ ts) (eat_sign ts) (λ s. parse_number s.1 then λ n. parse_fill_value_end s.0 n.0 n.1) (signed_taken ts)
    (λ s us e h. took_then yield_number Any us yield_value Any (punct kind.LeftParen ∷ ts) (parse_number us) (λ n. parse_fill_value_end s n.0 n.1) (number_taken us)
    (λ n vs f i. value_end_taken s n ts vs (e ∙ ap (λ l. yield_signed s ++ l) f)))
value_taken ts = tt

names_taken : (ts : List Symbol) → Took yield_names IsLabels ts (parse_label_list ts)
names_taken (punct kind.RightParen ∷ ts) = (refl, tt)
names_taken (word k t ∷ (punct kind.RightParen ∷ ts)) = took_if yield_names IsLabels _ (may_be_label k) (Ok (last k t, ts)) _ (λ h. (refl, h))
names_taken (word k t ∷ (punct kind.Comma ∷ ts)) =
    took_if yield_names IsLabels (word k t ∷ (punct kind.Comma ∷ ts)) (may_be_label k) (parse_label_list ts then λ y. Ok (next k t y.0, y.1)) _
    (λ h. took_then yield_names IsLabels ts yield_names IsLabels (word k t ∷ (punct kind.Comma ∷ ts)) (parse_label_list ts) (λ y. Ok (next k t y.0, y.1)) (names_taken ts)
    (λ ls us e i. (ap (λ l. word k t ∷ (punct kind.Comma ∷ l)) e, (h, i))))
names_taken (word k t ∷ ts) = took_if yield_names IsLabels (word k t ∷ ts) (may_be_label k) (Err (misfit ts)) _ (λ h. tt)
names_taken ts = tt

-- what is taken after an opening parenthesis is taken with it
opened : (ts : List Symbol) (o : Read Labels) → Took yield_names IsLabels ts o → Took yield_labels IsLabels (punct kind.LeftParen ∷ ts) o
opened ts (Ok x) t = (ap (λ l. punct kind.LeftParen ∷ l) t.0, t.1)
opened ts (Err (misfit bad)) t = tt
opened ts (Err too_high) t = absurd t

labels_in_taken : (ts : List Symbol) → Took yield_labels IsLabels (punct kind.LeftParen ∷ ts) (parse_label_list ts)
labels_in_taken ts = opened ts (parse_label_list ts) (names_taken ts)

pub labels_taken : (ts : List Symbol) → Took yield_labels IsLabels ts (parse_labels ts)
labels_taken (punct kind.LeftParen ∷ ts) = labels_in_taken ts
labels_taken ts = tt

-- a grouping that follows arguments
abbrev pub IsAfter : Clause → Type 0
IsAfter c = IsClause' c × (yield_before c ≡ [])
  where
    IsClause' : Clause → Type 0
    IsClause' None = Unit {0}
    IsClause' (Some (true, g)) = IsGrouping g
    IsClause' (Some (false, g)) = IsGrouping g

pub clause_taken : (ts : List Symbol) → Took yield_after IsAfter ts (parse_grouping ts)
clause_taken (word kind.By t ∷ ts) =
    took_then yield_labels IsLabels ts yield_after IsAfter (word kind.By t ∷ ts) (parse_labels ts) (λ l. Ok (Some (false, (true, t, l.0)), l.1)) (labels_taken ts)
    (λ ls us e h. (ap (λ l. word kind.By t ∷ l) e, (h, refl)))
clause_taken (word kind.Without t ∷ ts) =
    took_then yield_labels IsLabels ts yield_after IsAfter (word kind.Without t ∷ ts) (parse_labels ts) (λ l. Ok (Some (false, (false, t, l.0)), l.1)) (labels_taken ts)
    (λ ls us e h. (ap (λ l. word kind.Without t ∷ l) e, (h, refl)))
clause_taken ts = (refl, (tt, refl))

-- the labels of a group open directly after its word
abbrev pub GroupEnds : Group → List Symbol → Type 0
GroupEnds (Some (k, t, None)) us = OpensNoParen us
GroupEnds g us = Unit {0}

abbrev IsGroupBefore : Group → List Symbol → Type 0
IsGroupBefore g us = IsGroup g × GroupEnds g us

list_taken : (left : Bool) (t : Text) (ts : List Symbol) → Takes yield_group IsGroupBefore (word (if left then kind.GroupLeft else kind.GroupRight) t ∷ ts) (parse_group_labels left t ts)
list_taken left t (punct kind.LeftParen ∷ ts) =
    takes_then yield_labels (λ l us. IsLabels l) (punct kind.LeftParen ∷ ts) yield_group IsGroupBefore (word (if left then kind.GroupLeft else kind.GroupRight) t ∷ (punct kind.LeftParen ∷ ts)) (parse_label_list ts)
    (λ l. Ok (Some (left, t, Some l.0), l.1)) (labels_in_taken ts)
    (λ ls us e i. (ap (λ l. word (if left then kind.GroupLeft else kind.GroupRight) t ∷ l) e, (i, tt)))
list_taken left t ts = (refl, (tt, tt))

group_taken : (ts : List Symbol) → Takes yield_group IsGroupBefore ts (parse_group ts)
group_taken (word kind.GroupLeft t ∷ ts) = list_taken true t ts
group_taken (word kind.GroupRight t ∷ ts) = list_taken false t ts
group_taken ts = (refl, (tt, tt))

abbrev MatchingEnds : Matching → List Symbol → Type 0
MatchingEnds None us = Unit {0}
MatchingEnds (Some (k, t, ls, g)) us = GroupEnds g us

abbrev IsMatchingBefore : Matching → List Symbol → Type 0
IsMatchingBefore m us = IsMatching m × MatchingEnds m us

matching_after_taken : (on : Bool) (t : Text) (ts : List Symbol) → Takes yield_matching IsMatchingBefore (word (if on then kind.On else kind.Ignoring) t ∷ ts) (parse_matching_after on t ts)
matching_after_taken on t ts =
    let first : Symbol = word (if on then kind.On else kind.Ignoring) t in
    takes_then yield_labels (λ l us. IsLabels l) ts yield_matching IsMatchingBefore (first ∷ ts) (parse_labels ts) (λ l. parse_group l.1 then λ g. Ok (Some (on, t, l.0, g.0), g.1)) (labels_taken ts)
    (λ ls us e i. takes_then yield_group IsGroupBefore us yield_matching IsMatchingBefore (first ∷ ts) (parse_group us) (λ g. Ok (Some (on, t, ls, g.0), g.1)) (group_taken us)
    (λ g vs f j. (ap (λ l. first ∷ l) (e ∙ ap (λ l. yield_labels ls ++ l) f ∙ sym (append_assoc (yield_labels ls) (yield_group g) vs)), ((i, j.0), j.1))))

matching_taken : (ts : List Symbol) → Takes yield_matching IsMatchingBefore ts (parse_matching ts)
matching_taken (word kind.On t ∷ ts) = matching_after_taken true t ts
matching_taken (word kind.Ignoring t ∷ ts) = matching_after_taken false t ts
matching_taken ts = (refl, (tt, tt))

right_after_taken : (t : Text) (v : FillValue) (ts us : List Symbol) → ts ≡ yield_value v ++ us → Took yield_fills Any (word kind.FillLeft t ∷ ts) (parse_fill_right t v us)
right_after_taken t v ts (word kind.FillRight u ∷ us) e =
    took_then yield_value Any us yield_fills Any (word kind.FillLeft t ∷ ts) (parse_fill_value us) (λ w. Ok (two true t v u w.0, w.1)) (value_taken us)
    (λ w vs f i. (ap (λ l. word kind.FillLeft t ∷ l) (e ∙ ap (λ l. yield_value v ++ word kind.FillRight u ∷ l) f ∙ sym (append_assoc (yield_value v) (word kind.FillRight u ∷ yield_value w) vs)), tt))
right_after_taken t v ts us e = (ap (λ l. word kind.FillLeft t ∷ l) e, tt)

left_after_taken : (t : Text) (v : FillValue) (ts us : List Symbol) → ts ≡ yield_value v ++ us → Took yield_fills Any (word kind.FillRight t ∷ ts) (parse_fill_left t v us)
left_after_taken t v ts (word kind.FillLeft u ∷ us) e =
    took_then yield_value Any us yield_fills Any (word kind.FillRight t ∷ ts) (parse_fill_value us) (λ w. Ok (two false t v u w.0, w.1)) (value_taken us)
    (λ w vs f i. (ap (λ l. word kind.FillRight t ∷ l) (e ∙ ap (λ l. yield_value v ++ word kind.FillLeft u ∷ l) f ∙ sym (append_assoc (yield_value v) (word kind.FillLeft u ∷ yield_value w) vs)), tt))
left_after_taken t v ts us e = (ap (λ l. word kind.FillRight t ∷ l) e, tt)

fills_taken : (ts : List Symbol) → Took yield_fills Any ts (parse_fills ts)
fills_taken (word kind.Fill t ∷ ts) = took_then yield_value Any ts yield_fills Any (word kind.Fill t ∷ ts) (parse_fill_value ts) (λ v. Ok (both t v.0, v.1)) (value_taken ts) (λ v us e h. (ap (λ l. word kind.Fill t ∷ l) e, tt))
fills_taken (word kind.FillLeft t ∷ ts) = took_then yield_value Any ts yield_fills Any (word kind.FillLeft t ∷ ts) (parse_fill_value ts) (λ v. parse_fill_right t v.0 v.1) (value_taken ts) (λ v us e h. right_after_taken t v ts us e)
fills_taken (word kind.FillRight t ∷ ts) = took_then yield_value Any ts yield_fills Any (word kind.FillRight t ∷ ts) (parse_fill_value ts) (λ v. parse_fill_left t v.0 v.1) (value_taken ts) (λ v us e h. left_after_taken t v ts us e)
fills_taken ts = (refl, tt)

flag_taken : (ts : List Symbol) → Takes yield_flag (λ b us. Unit {0}) ts (parse_flag ts)
flag_taken (word kind.Bool t ∷ ts) = (refl, tt)
flag_taken ts = (refl, tt)

ends_fit : (m : Matching) (f : Fills) (us vs : List Symbol) → MatchingEnds m us → us ≡ yield_fills f ++ vs → FitsMatching m f vs
ends_fit (Some (on, t, ls, (Some (left, t', None)))) no_fill us vs h e = subst OpensNoParen e h
ends_fit m f us vs h e = tt

abbrev pub IsModifierBefore : Modifier → List Symbol → Type 0
IsModifierBefore m us = IsMatching m.1 × FitsMatching m.1 m.2 us

pub modifier_taken : (ts : List Symbol) → Takes yield_modifier IsModifierBefore ts (parse_modifier ts)
modifier_taken ts =
    takes_then yield_flag (λ b us. Unit {0}) ts yield_modifier IsModifierBefore ts (parse_flag ts) (λ b. parse_matching b.1 then with_matching b.0) (flag_taken ts)
    (λ b us e u. takes_then yield_matching IsMatchingBefore us yield_modifier IsModifierBefore ts (parse_matching us) (with_matching b) (matching_taken us)
    (λ m vs f i. takes_then yield_fills (λ f us. Any f) vs yield_modifier IsModifierBefore ts (parse_fills vs) (with_fills b m) (fills_taken vs)
    (λ g ws h j. (e ∙ ap (λ l. yield_flag b ++ l) (f ∙ ap (λ l. yield_matching m ++ l) h ∙ sym (append_assoc (yield_matching m) (yield_fills g) ws)) ∙ sym (append_assoc (yield_flag b) (yield_matching m ++ yield_fills g) ws), (i.0, ends_fit m g vs ws i.1 h)))))

abbrev yield_any_operator : Option MatchOperator → List Symbol
yield_any_operator None = []
yield_any_operator (Some s) = yield_match_operator s ∷ []

not_equal_if : (op : ℕ) (t : Text) (ts : List Symbol) (b : Bool) → (op == T_NEQ) ≡ b → Took yield_any_operator Any (word (kind.Operator op) t ∷ ts) (if b then Ok (Some (not_equal t), ts) else Ok (None, word (kind.Operator op) t ∷ ts))
not_equal_if op t ts true e = (ap (λ o. word (kind.Operator o) t ∷ ts) (eqb-true op T_NEQ e), tt)
not_equal_if op t ts false e = (refl, tt)

match_operator_taken : (ts : List Symbol) → Took yield_any_operator Any ts (parse_match_operator ts)
match_operator_taken (punct kind.Equal ∷ ts) = (refl, tt)
match_operator_taken (punct kind.EqualRegex ∷ ts) = (refl, tt)
match_operator_taken (punct kind.NotEqualRegex ∷ ts) = (refl, tt)
match_operator_taken (word (kind.Operator op) t ∷ ts) = not_equal_if op t ts (op == T_NEQ) refl
match_operator_taken ts = (refl, tt)

matcher_taken : (quoted : Bool) (t : Text) (s : MatchOperator) (ts us : List Symbol) → ts ≡ yield_match_operator s ∷ us → Took yield_item Any (word (name_kind quoted) t ∷ ts) (parse_matcher_value quoted t s us)
matcher_taken quoted t s ts us e =
    took_then yield_string Any us yield_item Any (word (name_kind quoted) t ∷ ts) (parse_string us) (λ v. Ok (matcher quoted t s v.0, v.1)) (string_taken us)
    (λ v vs f i. (ap (λ l. word (name_kind quoted) t ∷ l) (e ∙ ap (λ l. yield_match_operator s ∷ l) f), tt))

after_name_taken : (t : Text) (s : Option MatchOperator) (ts us : List Symbol) → ts ≡ yield_any_operator s ++ us → Took yield_item Any (word kind.Identifier t ∷ ts) (parse_after_name t (s, us))
after_name_taken t (Some s) ts us e = matcher_taken false t s ts us e
after_name_taken t None ts us e = tt

after_string_taken : (t : Text) (s : Option MatchOperator) (ts us : List Symbol) → ts ≡ yield_any_operator s ++ us → Took yield_item Any (word kind.String t ∷ ts) (parse_after_string t (s, us))
after_string_taken t (Some s) ts us e = matcher_taken true t s ts us e
after_string_taken t None ts us e = (ap (λ l. word kind.String t ∷ l) e, tt)

item_taken : (ts : List Symbol) → Took yield_item Any ts (parse_item ts)
item_taken (word kind.Identifier t ∷ ts) = took_then yield_any_operator Any ts yield_item Any (word kind.Identifier t ∷ ts) (parse_match_operator ts) (parse_after_name t) (match_operator_taken ts) (λ s us e h. after_name_taken t s ts us e)
item_taken (word kind.String t ∷ ts) = took_then yield_any_operator Any ts yield_item Any (word kind.String t ∷ ts) (parse_match_operator ts) (parse_after_string t) (match_operator_taken ts) (λ s us e h. after_string_taken t s ts us e)
item_taken ts = tt

after_item_taken : (r : List Symbol → Read Items) → ((ts : List Symbol) → Took yield_items Any ts (r ts)) → (i : Item) (ts us : List Symbol) → ts ≡ yield_item i ++ us → Took yield_items Any ts (parse_after_item r i us)
after_item_taken r ih i ts (punct kind.RightBrace ∷ us) e = (e ∙ sym (append_assoc (yield_item i) (punct kind.RightBrace ∷ []) us), tt)
after_item_taken r ih i ts (punct kind.Comma ∷ (punct kind.RightBrace ∷ us)) e = (e ∙ sym (append_assoc (yield_item i) (punct kind.Comma ∷ (punct kind.RightBrace ∷ [])) us), tt)
after_item_taken r ih i ts (punct kind.Comma ∷ us) e =
    took_then yield_items Any us yield_items Any ts (r us) (λ y. Ok (next_item i None y.0, y.1)) (ih us)
    (λ is vs f j. (e ∙ ap (λ l. yield_item i ++ punct kind.Comma ∷ l) f ∙ sym (append_assoc (yield_item i) (punct kind.Comma ∷ yield_items is) vs), tt))
after_item_taken r ih i ts (word (kind.Operator op) t ∷ us) e =
    took_if yield_items Any ts (op == T_LOR) (r us then λ y. Ok (next_item i (Some t) y.0, y.1)) _
    (λ q. took_then yield_items Any us yield_items Any ts (r us) (λ y. Ok (next_item i (Some t) y.0, y.1)) (ih us)
    (λ is vs f j. (e ∙ ap (λ o. yield_item i ++ word (kind.Operator o) t ∷ us) (eqb-true op T_LOR q) ∙ ap (λ l. yield_item i ++ word (kind.Operator T_LOR) t ∷ l) f ∙ sym (append_assoc (yield_item i) (word (kind.Operator T_LOR) t ∷ yield_items is) vs), tt)))
after_item_taken r ih i ts us e = tt

items_taken : (k : ℕ) (ts : List Symbol) → Took yield_items Any ts (parse_items k ts)
items_taken zero ts = tt
items_taken (suc k) ts =
    took_then yield_item Any ts yield_items Any ts (parse_item ts) (λ i. parse_after_item (parse_items k) i.0 i.1) (item_taken ts)
    (λ i us e h. after_item_taken (parse_items k) (items_taken k) i ts us e)

pub braces_in_taken : (ts : List Symbol) → Took yield_braces Any (punct kind.LeftBrace ∷ ts) (parse_braces ts)
braces_in_taken (punct kind.RightBrace ∷ ts) = (refl, tt)
braces_in_taken ts =
    took_then yield_items Any ts yield_braces Any (punct kind.LeftBrace ∷ ts) (parse_items (length ts) ts) (λ y. Ok (Some y.0, y.1)) (items_taken (length ts) ts)
    (λ is us e h. (ap (λ l. punct kind.LeftBrace ∷ l) e, h))

pub braces_taken : (ts : List Symbol) → Took yield_any_braces Any ts (parse_optional_braces ts)
braces_taken (punct kind.LeftBrace ∷ ts) =
    took_then yield_braces Any (punct kind.LeftBrace ∷ ts) yield_any_braces Any (punct kind.LeftBrace ∷ ts) (parse_braces ts) (λ b. Ok (Some b.0, b.1)) (braces_in_taken ts)
    (λ b us e h. (e, h))
braces_taken ts = (refl, tt)

abbrev pub yield_any_postfix : Option Postfix → List Symbol
yield_any_postfix None = []
yield_any_postfix (Some p) = yield_postfix p

step_end_taken : (t s : Time) (ts us : List Symbol) → ts ≡ yield_time t ++ punct kind.Colon ∷ (yield_time s ++ us) → Took yield_any_postfix Any (punct kind.LeftBracket ∷ ts) (parse_step_end t s us)
step_end_taken t s ts (punct kind.RightBracket ∷ us) e =
    (ap (λ l. punct kind.LeftBracket ∷ l) (e ∙ ap (λ l. yield_time t ++ punct kind.Colon ∷ l) (sym (append_assoc (yield_time s) (punct kind.RightBracket ∷ []) us)) ∙ sym (append_assoc (yield_time t) (punct kind.Colon ∷ (yield_time s ++ punct kind.RightBracket ∷ [])) us)), tt)
step_end_taken t s ts us e = tt

step_taken : (t : Time) (ts us : List Symbol) → ts ≡ yield_time t ++ punct kind.Colon ∷ us → Took yield_any_postfix Any (punct kind.LeftBracket ∷ ts) (parse_step t us)
step_taken t ts (punct kind.RightBracket ∷ us) e = (ap (λ l. punct kind.LeftBracket ∷ l) (e ∙ sym (append_assoc (yield_time t) (punct kind.Colon ∷ (punct kind.RightBracket ∷ [])) us)), tt)
step_taken t ts us e =
    took_then yield_time Any us yield_any_postfix Any (punct kind.LeftBracket ∷ ts) (parse_time us) (λ s. parse_step_end t s.0 s.1) (time_taken us)
    (λ s vs f h. step_end_taken t s ts vs (e ∙ ap (λ l. yield_time t ++ punct kind.Colon ∷ l) f))

range_taken : (t : Time) (ts us : List Symbol) → ts ≡ yield_time t ++ us → Took yield_any_postfix Any (punct kind.LeftBracket ∷ ts) (parse_range_end t us)
range_taken t ts (punct kind.RightBracket ∷ us) e = (ap (λ l. punct kind.LeftBracket ∷ l) (e ∙ sym (append_assoc (yield_time t) (punct kind.RightBracket ∷ []) us)), tt)
range_taken t ts (punct kind.Colon ∷ us) e = step_taken t ts us e
range_taken t ts us e = tt

bound_taken : (start : Bool) (t : Text) (ts : List Symbol) → Took yield_any_postfix Any (punct kind.At ∷ (word (if start then kind.Start else kind.End) t ∷ ts)) (parse_at_bound start t ts)
bound_taken start t (punct kind.LeftParen ∷ (punct kind.RightParen ∷ ts)) = (refl, tt)
bound_taken start t ts = tt

moment_taken : (ts : List Symbol) → Took yield_any_postfix Any (punct kind.At ∷ ts) (parse_at_modifier ts)
moment_taken (word kind.Start t ∷ ts) = bound_taken true t ts
moment_taken (word kind.End t ∷ ts) = bound_taken false t ts
moment_taken ts =
    took_then yield_signed Any ts yield_any_postfix Any (punct kind.At ∷ ts) (eat_sign ts) (λ s. parse_number s.1 then λ n. Ok (Some (at_number s.0 n.0), n.1)) (signed_taken ts)
    (λ s us e h. took_then yield_number Any us yield_any_postfix Any (punct kind.At ∷ ts) (parse_number us) (λ n. Ok (Some (at_number s n.0), n.1)) (number_taken us)
    (λ n vs f i. (ap (λ l. punct kind.At ∷ l) (e ∙ ap (λ l. yield_signed s ++ l) f ∙ sym (append_assoc (yield_signed s) (word kind.Number n ∷ []) vs)), h)))

offset_taken : (t : Text) (ts : List Symbol) → Took yield_any_postfix Any (word kind.Offset t ∷ ts) (parse_offset_postfix t ts)
offset_taken t ts =
    took_then yield_signed Any ts yield_any_postfix Any (word kind.Offset t ∷ ts) (eat_sign ts) (λ s. parse_time s.1 then λ u. Ok (Some (offset t s.0 u.0), u.1)) (signed_taken ts)
    (λ s us e h. took_then yield_time Any us yield_any_postfix Any (word kind.Offset t ∷ ts) (parse_time us) (λ u. Ok (Some (offset t s u.0), u.1)) (time_taken us)
    (λ u vs f i. (ap (λ l. word kind.Offset t ∷ l) (e ∙ ap (λ l. yield_signed s ++ l) f ∙ sym (append_assoc (yield_signed s) (yield_time u) vs)), h)))

pub postfix_taken : (ts : List Symbol) → Took yield_any_postfix Any ts (parse_postfix ts)
postfix_taken (punct kind.LeftBracket ∷ ts) =
    took_then yield_time Any ts yield_any_postfix Any (punct kind.LeftBracket ∷ ts) (parse_time ts) (λ t. parse_range_end t.0 t.1) (time_taken ts) (λ t us e h. range_taken t ts us e)
postfix_taken (punct kind.At ∷ ts) = moment_taken ts
postfix_taken (word kind.Offset t ∷ ts) = offset_taken t ts
postfix_taken (word kind.Smoothed t ∷ ts) = (refl, tt)
postfix_taken (word kind.Anchored t ∷ ts) = (refl, tt)
postfix_taken ts = (refl, tt)
