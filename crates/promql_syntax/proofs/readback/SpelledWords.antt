-- The words of a text's derivation are words of their kinds, and its numbers have no sign.
use Rattle.std.proofs.Common.{◌≡◌, ◌⊎◌, inl, inr, ⊎_elim, ℕ, refl, sym, ◌∙◌, ap, subst, Bool, true, false, cond, not, ◌&&◌, ◌||◌, Option, Some, None, Result, Ok, Err, List, [], ◌∷◌, ◌++◌, map, eqb-true}
use Rattle.std.specs.Prelude.{◌==◌, filter}
use Rattle.std.specs.List.{list_all, list_any}
use Rattle.std.specs.Option.{unwrap_or}
use Rattle.std.proofs.lemmas.Bool.{cond_both}
use Rattle.promql_text.specs.NumberText.{read_number}
use Rattle.promql_text.specs.Texts.{Text}
use Rattle.promql_token.specs.Cursor.{is_before_end}
use Rattle.promql_token.specs.Ids.{keyword_in_any_case}
use Rattle.promql_token.specs.Lexing as lexing
use Rattle.promql_token.specs.TokenScanning.{is_fill, name_id, opens, word_id}
use Rattle.promql_token.specs.TokenSpelling.{AreSpelled, IsSpelled, IsWordToken, in_braces_after, is_no_word, no_words}
use Rattle.promql_token.specs.declared.fault.LexFault.{LexFault}
use Rattle.promql_token.specs.declared.ids.TheConstants.{T_IDENTIFIER, T_FILL, T_FILL_LEFT, T_FILL_RIGHT, T_LEFT_BRACE, T_LEFT_BRACKET, T_NUMBER, T_RIGHT_BRACE, T_RIGHT_BRACKET}
use Rattle.promql_grammar.specs.SourceTokens.{Token, tokens}
use Rattle.promql_token.proofs.printed.SpelledTokens.{tokens_are_spelled}
use Rattle.promql_grammar.specs.declared.token_kinds.TokenKind.{TokenKind}
use Rattle.promql_grammar.specs.declared.token_kinds.TokenKind.TheVariants as kind
use Rattle.promql_grammar.specs.declared.token_kinds.TheConstants.{TOKEN_KINDS}
use Rattle.promql_grammar.specs.Grammar as grammar
use Rattle.promql_grammar.specs.Grammar.{Derivation, Arguments, yield, yield_arguments, IsWellFormed, AreWellFormed}
use Rattle.promql_grammar.specs.GrammarParts as part
use Rattle.promql_grammar.specs.PartTokens.{yield_flag, yield_step, yield_rest, yield_any_braces}
use Rattle.promql_grammar.specs.Results.{on_result}
use Rattle.promql_grammar.specs.Symbols.{Symbol, is_punct, token_kind, may_be_called, may_be_name, punct, symbol_of, word}
use Rattle.promql_syntax.specs.ParseAnswers.{Derives}
use Rattle.promql_syntax.proofs.parsing.Booleans.{and_cases, or_cases}
use Rattle.promql_syntax.proofs.readback.Derive.{AllHaveWords, HasWords, IsName, IsUnsigned}
use Rattle.promql_syntax.proofs.printed.PrintedParts.{word_kind}
use Rattle.promql_syntax.proofs.parsing.TokenKindRows.{by_table, same_operator}
use Rattle.promql_syntax.proofs.readback.UnsignedNumbers.{read_unsigned}

-- ---- tests of ids and their kinds, by the table

abbrev is_number : TokenKind → Bool
is_number kind.Number = true
is_number k = false

number_id : (id : ℕ) → token_kind id ≡ kind.Number → id ≡ 15
number_id id is =
    let test = by_table (λ id k. not (is_number k) || (id == T_NUMBER)) TOKEN_KINDS (λ id. refl) refl id in
    eqb-true id T_NUMBER (ap (λ k. not (is_number k) || (id == T_NUMBER)) (sym is) ∙ test)

-- in braces after punctuation
abbrev in_after : Bool → TokenKind → Bool
in_after inside kind.LeftBrace = true
in_after inside kind.RightBrace = false
in_after inside k = inside

close_id : (id : ℕ) → in_after true (token_kind id) ≡ false → (id == T_RIGHT_BRACE) ≡ true
close_id id is =
    let test = by_table (λ id k. in_after true k || (id == T_RIGHT_BRACE)) TOKEN_KINDS (λ id. refl) refl id in
    ap (λ b. b || (id == T_RIGHT_BRACE)) (sym is) ∙ test

split : (c : Bool) {X : Type 0} → (c ≡ true → X) → (c ≡ false → X) → X
split true f g = f refl
split false f g = g refl

left_brace : (id : ℕ) → (id == T_LEFT_BRACE) ≡ true → in_after false (token_kind id) ≡ true
left_brace id is = subst (λ k. in_after false (token_kind k) ≡ true) (sym (eqb-true id T_LEFT_BRACE is)) refl

-- where a text is in braces after a token, the symbols say so
out_again : (c b : Bool) (id : ℕ) → (c ≡ false → b ≡ false) → in_after c (token_kind id) ≡ false → in_braces_after b id ≡ false
out_again true b id before out = subst (λ k. in_braces_after b k ≡ false) (sym (eqb-true id T_RIGHT_BRACE (close_id id out))) refl
out_again false b id before out =
    split (id == T_LEFT_BRACE) (λ yes. let left = left_brace id yes in absurd (cc)) (λ apart.
    ap (λ c. cond c true (cond (id == T_LEFT_BRACKET) false (cond ((id == T_RIGHT_BRACE) || (id == T_RIGHT_BRACKET)) false b))) apart
    ∙ cond_both (id == T_LEFT_BRACKET) false _ (λ c. c ≡ false) (λ _. refl) (λ _. cond_both ((id == T_RIGHT_BRACE) || (id == T_RIGHT_BRACKET)) false b (λ c. c ≡ false) (λ _. refl) (λ _. before refl)))

word_stays : (inside : Bool) (k : TokenKind) → is_punct k ≡ false → in_after inside k ≡ inside
word_stays inside kind.LeftBrace plain = cc
word_stays inside kind.RightBrace plain = cc
word_stays inside k plain = refl

-- ---- words

record Fits (k : TokenKind) (text : Text) : Type 0 where
  name : may_be_name k ≡ true → IsName k text
  number : k ≡ kind.Number → IsUnsigned (read_number text)
  operator : (op : ℕ) → k ≡ kind.Operator op → token_kind op ≡ kind.Operator op

-- outside braces, names are words of their kinds, numbers have no sign and operators have their ids
abbrev AllFit : Bool → List Symbol → Type 0
AllFit inside [] = Unit {0}
AllFit inside (punct k ∷ ts) = AllFit (in_after inside k) ts
AllFit inside (word k text ∷ ts) = (inside ≡ false → Fits k text) × AllFit inside ts

fill_no_name : (id : ℕ) → is_fill id ≡ true → may_be_name (token_kind id) ≡ false
fill_no_name id is =
    ⊎_elim (λ h. ⊎_elim (λ h. at T_FILL refl h) (λ h. at T_FILL_LEFT refl h) (or_cases (id == T_FILL) (id == T_FILL_LEFT) h)) (λ h. at T_FILL_RIGHT refl h) (or_cases ((id == T_FILL) || (id == T_FILL_LEFT)) (id == T_FILL_RIGHT) is)
  where
    at : (n : ℕ) → may_be_name (token_kind n) ≡ false → (id == n) ≡ true → may_be_name (token_kind id) ≡ false
    at n none h = subst (λ k. may_be_name (token_kind k) ≡ false) (sym (eqb-true id n h)) none

-- a word that may be a name is the same whatever follows it
same_word : (w rest : Text) → may_be_name (token_kind (word_id w rest)) ≡ true → word_id w rest ≡ word_id w []
same_word w rest = by_id (unwrap_or (keyword_in_any_case w) (name_id w)) (opens rest)
  where
    go : (fill before : Bool) (id : ℕ) → is_fill id ≡ fill → may_be_name (token_kind (cond (fill && not before) T_IDENTIFIER id)) ≡ true → cond (fill && not before) T_IDENTIFIER id ≡ cond (fill && true) T_IDENTIFIER id
    go false before id is may = refl
    go true false id is may = refl
    go true true id is may = let none = fill_no_name id is in absurd (cc)

    by_id : (id : ℕ) (before : Bool) → may_be_name (token_kind (cond (is_fill id && not before) T_IDENTIFIER id)) ≡ true → cond (is_fill id && not before) T_IDENTIFIER id ≡ cond (is_fill id && true) T_IDENTIFIER id
    by_id id before = go (is_fill id) before id refl

no_name : (ids : List ℕ) (id : ℕ) → list_all (λ k. not (may_be_name (token_kind k))) ids ≡ true → list_any (λ k. id == k) ids ≡ true → may_be_name (token_kind id) ≡ true → ⊥
no_name [] id all is may = cc
no_name (k ∷ ids) id all is may =
    let both = and_cases (not (may_be_name (token_kind k))) _ all in
    ⊎_elim (λ h. let same : may_be_name (token_kind k) ≡ true = subst (λ n. may_be_name (token_kind n) ≡ true) (eqb-true id k h) may in let first = both.0 in cc)
    (λ h. no_name ids id both.1 h may) (or_cases (id == k) (list_any (λ k. id == k) ids) is)

name_of_token : (t : Token) → IsWordToken t ⊎ (is_no_word t.0 ≡ true) → may_be_name (token_kind t.0) ≡ true → IsName (token_kind t.0) t.1
unfolding word_kind
name_of_token t (inl h) may =
    let id = h.1.1 in
    let named : may_be_name (token_kind (word_id t.1 h.1.0)) ≡ true = subst (λ n. may_be_name (token_kind n) ≡ true) id may in
    record { letters = h.0; kind = ap token_kind (id ∙ same_word t.1 h.1.0 named) }
name_of_token t (inr h) may = absurd (no_name no_words t.0 refl h may)

token_fits : (t : Token) → IsSpelled t → Fits (token_kind t.0) t.1
token_fits t s = record { name = λ may. name_of_token t s.word may; number = λ is. read_unsigned t.1 (s.number (number_id t.0 is)); operator = λ op is. same_operator t.0 op is }

-- ---- the tokens of a text

front_fits : (c b s : Bool) (t : Token) (ts : List Symbol) → (c ≡ false → b ≡ false) → (b ≡ false → IsSpelled t) → is_punct (token_kind t.0) ≡ s
    → ((d : Bool) → (d ≡ false → in_braces_after b t.0 ≡ false) → AllFit d ts) → AllFit c (cond s (punct (token_kind t.0)) (word (token_kind t.0) t.1) ∷ ts)
front_fits c b true t ts before here is more = more (in_after c (token_kind t.0)) (out_again c b t.0 before)
front_fits c b false t ts before here is more = (λ out. token_fits t (here (before out)), more c (λ out. out_again c b t.0 before (word_stays c (token_kind t.0) is ∙ out)))

all_fit : (c b : Bool) (ts : List Token) → (c ≡ false → b ≡ false) → AreSpelled b ts → AllFit c (map symbol_of ts)
all_fit c b [] before s = tt
all_fit c b (t ∷ ts) before s = front_fits c b (is_punct (token_kind t.0)) t (map symbol_of ts) before s.0 refl (λ d out. all_fit d (in_braces_after b t.0) ts out s.1)

before_end : (b : Bool) (ts : List Token) → AreSpelled b ts → AreSpelled b (filter is_before_end ts)
before_end b [] s = tt
before_end b (t ∷ ts) s =
    let later = before_end (in_braces_after b t.0) ts s.1 in
    split (t.0 == 6)
    (λ end. subst (λ c. AreSpelled b (cond (not c) (t ∷ filter is_before_end ts) (filter is_before_end ts))) (sym end) (subst (λ id. AreSpelled (in_braces_after b id) (filter is_before_end ts)) (eqb-true t.0 6 end) later))
    (λ more. subst (λ c. AreSpelled b (cond (not c) (t ∷ filter is_before_end ts) (filter is_before_end ts))) (sym more) (s.0, later))

tokens_fit : (text : Text) (ts : List Symbol) → on_result (map symbol_of) (tokens text) ≡ Ok ts → AllFit false ts
tokens_fit text ts is = by_result (lexing.tokens text) refl is
  where
    by_result : (r : Result (List Token) LexFault) → lexing.tokens text ≡ r → on_result (map symbol_of) (on_result (filter is_before_end) r) ≡ Ok ts → AllFit false ts
    by_result (Ok list) lexed e =
        let same : map symbol_of (filter is_before_end list) ≡ ts = cc in
        subst (AllFit false) same (all_fit false false (filter is_before_end list) (λ out. out) (before_end false list (tokens_are_spelled text list lexed)))
    by_result (Err f) lexed e = cc

-- ---- parts of lists

abbrev inside_after : Bool → List Symbol → Bool
inside_after inside [] = inside
inside_after inside (punct k ∷ ts) = inside_after (in_after inside k) ts
inside_after inside (word k text ∷ ts) = inside_after inside ts

inside_after_append : (b : Bool) (ts us : List Symbol) → inside_after b (ts ++ us) ≡ inside_after (inside_after b ts) us
inside_after_append b [] us = refl
inside_after_append b (punct k ∷ ts) us = inside_after_append (in_after b k) ts us
inside_after_append b (word k text ∷ ts) us = inside_after_append b ts us

-- parts that end outside braces, where they begin there
both : (ts us : List Symbol) → inside_after false ts ≡ false → inside_after false us ≡ false → inside_after false (ts ++ us) ≡ false
both ts us first second = inside_after_append false ts us ∙ ap (λ b. inside_after b us) first ∙ second

left_fits : (b : Bool) (ts us : List Symbol) → AllFit b (ts ++ us) → AllFit b ts
left_fits b [] us h = tt
left_fits b (punct k ∷ ts) us h = left_fits (in_after b k) ts us h
left_fits b (word k text ∷ ts) us h = (h.0, left_fits b ts us h.1)

right_fits : (b : Bool) (ts us : List Symbol) → AllFit b (ts ++ us) → AllFit (inside_after b ts) us
right_fits b [] us h = h
right_fits b (punct k ∷ ts) us h = right_fits (in_after b k) ts us h
right_fits b (word k text ∷ ts) us h = right_fits b ts us h.1

past_fits : (ts us : List Symbol) → inside_after false ts ≡ false → AllFit false (ts ++ us) → AllFit false us
past_fits ts us out h = subst (λ b. AllFit b us) out (right_fits false ts us h)

-- ---- parts of a derivation end outside braces

time_out : (t : part.Time) → inside_after false (part.yield_time t) ≡ false
time_out (part.seconds text) = refl
time_out (part.duration text) = refl

signed_out : (s : part.Signed) → inside_after false (part.yield_signed s) ≡ false
signed_out None = refl
signed_out (Some (minus, text)) = refl

names_out : (n : part.Labels) → inside_after false (part.yield_names n) ≡ false
names_out part.no_label = refl
names_out (part.last k text) = refl
names_out (part.next k text ls) = names_out ls

labels_out : (ls : part.Labels) → inside_after false (part.yield_labels ls) ≡ false
labels_out ls = names_out ls

grouping_out : (g : part.Grouping) → inside_after false (part.yield_grouping g) ≡ false
grouping_out (by, text, ls) = labels_out ls

before_out : (c : part.Clause) → inside_after false (part.yield_before c) ≡ false
before_out None = refl
before_out (Some (true, g)) = grouping_out g
before_out (Some (false, g)) = refl

after_out : (c : part.Clause) → inside_after false (part.yield_after c) ≡ false
after_out None = refl
after_out (Some (true, g)) = refl
after_out (Some (false, g)) = grouping_out g

group_out : (g : part.Group) → inside_after false (part.yield_group g) ≡ false
group_out None = refl
group_out (Some (left, text, None)) = refl
group_out (Some (left, text, Some ls)) = labels_out ls

matching_out : (m : part.Matching) → inside_after false (part.yield_matching m) ≡ false
matching_out None = refl
matching_out (Some (on, text, ls, g)) = both (part.yield_labels ls) (part.yield_group g) (labels_out ls) (group_out g)

value_out : (v : part.FillValue) → inside_after false (part.yield_value v) ≡ false
value_out v = both (part.yield_signed v.0) (word kind.Number v.1 ∷ punct kind.RightParen ∷ []) (signed_out v.0) refl

fills_out : (f : part.Fills) → inside_after false (part.yield_fills f) ≡ false
fills_out part.no_fill = refl
fills_out (part.both text v) = value_out v
fills_out (part.one left text v) = value_out v
fills_out (part.two left text v text' w) = both (part.yield_side left text v) (part.yield_side (not left) text' w) (value_out v) (value_out w)

flag_out : (f : Option Text) → inside_after false (yield_flag f) ≡ false
flag_out None = refl
flag_out (Some text) = refl

modifier_out : (m : part.Modifier) → inside_after false (part.yield_modifier m) ≡ false
modifier_out m =
    both (yield_flag m.0) (part.yield_matching m.1 ++ part.yield_fills m.2) (flag_out m.0)
    (both (part.yield_matching m.1) (part.yield_fills m.2) (matching_out m.1) (fills_out m.2))

match_inside : (s : part.MatchOperator) (ts : List Symbol) → inside_after true (part.yield_match_operator s ∷ ts) ≡ inside_after true ts
match_inside part.equal ts = refl
match_inside (part.not_equal text) ts = refl
match_inside part.equal_regex ts = refl
match_inside part.not_equal_regex ts = refl

item_inside : (i : part.Item) → inside_after true (part.yield_item i) ≡ true
item_inside (part.matcher quoted text s value) = match_inside s (word kind.String value ∷ [])
item_inside (part.lone text) = refl

inside_then : (i : part.Item) (us : List Symbol) → inside_after true us ≡ false → inside_after true (part.yield_item i ++ us) ≡ false
inside_then i us more = inside_after_append true (part.yield_item i) us ∙ ap (λ b. inside_after b us) (item_inside i) ∙ more

separator_inside : (s : part.Separator) (ts : List Symbol) → inside_after true (part.yield_separator s ∷ ts) ≡ inside_after true ts
separator_inside None ts = refl
separator_inside (Some text) ts = refl

items_out : (is : part.Items) → inside_after true (part.yield_items is) ≡ false
items_out (part.last_item i false) = inside_then i (punct kind.RightBrace ∷ []) refl
items_out (part.last_item i true) = inside_then i (punct kind.Comma ∷ punct kind.RightBrace ∷ []) refl
items_out (part.next_item i s is) = inside_then i (part.yield_separator s ∷ part.yield_items is) (separator_inside s (part.yield_items is) ∙ items_out is)

braces_out : (b : part.Braces) → inside_after false (part.yield_braces b) ≡ false
braces_out None = refl
braces_out (Some is) = items_out is

any_braces_out : (b : Option part.Braces) → inside_after false (yield_any_braces b) ≡ false
any_braces_out None = refl
any_braces_out (Some b) = braces_out b

step_out : (t : Option part.Time) → inside_after false (yield_step t) ≡ false
step_out None = refl
step_out (Some t) = time_out t

postfix_out : (p : part.Postfix) → inside_after false (part.yield_postfix p) ≡ false
postfix_out (part.range t) = both (part.yield_time t) (punct kind.RightBracket ∷ []) (time_out t) refl
postfix_out (part.subquery t s) =
    both (part.yield_time t) (punct kind.Colon ∷ (yield_step s ++ punct kind.RightBracket ∷ [])) (time_out t) (both (yield_step s) (punct kind.RightBracket ∷ []) (step_out s) refl)
postfix_out (part.at_number s text) = both (part.yield_signed s) (word kind.Number text ∷ []) (signed_out s) refl
postfix_out (part.at_bound start text) = refl
postfix_out (part.offset text s t) = both (part.yield_signed s) (part.yield_time t) (signed_out s) (time_out t)
postfix_out (part.mode smoothed text) = refl

mutual
  all_out : (d : Derivation) → inside_after false (yield d) ≡ false
  all_out (grammar.number text) = refl
  all_out (grammar.duration text) = refl
  all_out (grammar.string text) = refl
  all_out (grammar.selector k text b) = any_braces_out b
  all_out (grammar.nameless b) = braces_out b
  all_out (grammar.paren d) = both (yield d) (punct kind.RightParen ∷ []) (all_out d) refl
  all_out (grammar.call k text ds) = arguments_out ds
  all_out (grammar.aggregate op text c ds) =
      both (part.yield_before c) (punct kind.LeftParen ∷ (yield_arguments [] ds ++ part.yield_after c)) (before_out c) (both (yield_arguments [] ds) (part.yield_after c) (arguments_out ds) (after_out c))
  all_out (grammar.postfixed d p) = both (yield d) (part.yield_postfix p) (all_out d) (postfix_out p)
  all_out (grammar.unary op text d) = all_out d
  all_out (grammar.binary op text m l r) =
      both (yield l) (word (kind.Operator op) text ∷ (part.yield_modifier m ++ yield r)) (all_out l) (both (part.yield_modifier m) (yield r) (modifier_out m) (all_out r))

  arguments_out : (ds : Arguments) → inside_after false (yield_arguments [] ds) ≡ false
  arguments_out grammar.none = refl
  arguments_out (grammar.more d ds) = both (yield d) (yield_rest ds) (all_out d) (rest_out ds)

  rest_out : (ds : Arguments) → inside_after false (yield_rest ds) ≡ false
  rest_out grammar.none = refl
  rest_out (grammar.more d ds) = both (yield d) (yield_rest ds) (all_out d) (rest_out ds)

-- ---- the words of a derivation

called_may_be_name : (k : TokenKind) → may_be_called k ≡ true → may_be_name k ≡ true
called_may_be_name kind.Identifier may = refl
called_may_be_name kind.Start may = refl
called_may_be_name kind.End may = refl
called_may_be_name k may = cc

mutual
  words_fit : (d : Derivation) → IsWellFormed d → AllFit false (yield d) → HasWords d
  words_fit (grammar.number text) h f = (f.0 refl).number refl
  words_fit (grammar.duration text) h f = tt
  words_fit (grammar.string text) h f = tt
  words_fit (grammar.selector k text b) h f = (f.0 refl).name h
  words_fit (grammar.nameless b) h f = tt
  words_fit (grammar.paren d) h f = words_fit d h (left_fits false (yield d) (punct kind.RightParen ∷ []) f)
  words_fit (grammar.call k text ds) h f = ((f.0 refl).name (called_may_be_name k h.0), arguments_fit ds h.1 f.1)
  words_fit (grammar.aggregate op text c ds) h f =
      arguments_fit ds h.1 (left_fits false (yield_arguments [] ds) (part.yield_after c) (past_fits (part.yield_before c) (punct kind.LeftParen ∷ (yield_arguments [] ds ++ part.yield_after c)) (before_out c) f.1))
  words_fit (grammar.postfixed d p) h f = words_fit d h.0 (left_fits false (yield d) (part.yield_postfix p) f)
  words_fit (grammar.unary op text d) h f = words_fit d h.1 f.1
  words_fit (grammar.binary op text m l r) h f =
      let rest = past_fits (yield l) (word (kind.Operator op) text ∷ (part.yield_modifier m ++ yield r)) (all_out l) f in (
        words_fit l h.0 (left_fits false (yield l) (word (kind.Operator op) text ∷ (part.yield_modifier m ++ yield r)) f),
        words_fit r h.1 (past_fits (part.yield_modifier m) (yield r) (modifier_out m) rest.1),
        (rest.0 refl).operator op refl,
      )

  arguments_fit : (ds : Arguments) → AreWellFormed ds → AllFit false (yield_arguments [] ds) → AllHaveWords ds
  arguments_fit grammar.none h f = tt
  arguments_fit (grammar.more d ds) h f = (words_fit d h.0 (left_fits false (yield d) (yield_rest ds) f), rest_fits ds h.1 (past_fits (yield d) (yield_rest ds) (all_out d) f))

  rest_fits : (ds : Arguments) → AreWellFormed ds → AllFit false (yield_rest ds) → AllHaveWords ds
  rest_fits grammar.none h f = tt
  rest_fits (grammar.more d ds) h f = (words_fit d h.0 (left_fits false (yield d) (yield_rest ds) f), rest_fits ds h.1 (past_fits (yield d) (yield_rest ds) (all_out d) f))

pub has_words : (text : Text) (d : Derivation) → Derives text d → HasWords d
has_words text d s = words_fit d s.formed (tokens_fit text (yield d) s.spells)
