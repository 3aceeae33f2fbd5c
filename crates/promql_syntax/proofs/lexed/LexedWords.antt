-- The lexer reads printed operators, aggregators and names as tokens outside braces.
use Rattle.std.proofs.Common.{◌≡◌, ◌≢◌, ⊎_elim, ℕ, zero, suc, ◌+◌, ◌<◌, ◌≤◌, refl, sym, ◌∙◌, ap, subst, arith, Bool, true, false, cond, not, ◌&&◌, ◌||◌, Option, Some, None, List, [], ◌∷◌, eqb-true, length, Ok, Err, ◌-◌}
use Rattle.std.specs.Prelude.{◌==◌}
use Rattle.std.specs.List.{list_all, list_any}
use Rattle.std.specs.Option.{unwrap_or}
use Rattle.std.proofs.lemmas.Bool.{cond_both}
use Rattle.std.proofs.lemmas.Bool.Decides.{nat_tests}
use Rattle.std.specs.Str.{str_eq_ignore_ascii_case}
use Rattle.promql_text.specs.Texts.{Text}
use Rattle.promql_token.specs.WordRanks.{count_up}
use Rattle.promql_token.specs.Ids.{is_aggregator, keyword_in_any_case, keywords, lookup, text_of}
use Rattle.promql_token.specs.Laws.{is_word, parts}
use Rattle.promql_token.specs.Lexing.{pieces}
use Rattle.promql_token.specs.TokenScanning.{Scanned, is_fill, name_id, opens, outside, scan_token, word_id}
use Rattle.promql_token.specs.TokenScanning as scan
use Rattle.promql_token.specs.declared.state.Mode.TheVariants as mode
use Rattle.promql_token.specs.declared.ids.TheConstants.{T_IDENTIFIER, T_METRIC_IDENTIFIER, T_ADD, T_AGGREGATORS_END, T_AGGREGATORS_START, T_ATAN2, T_DIV, T_EQLC, T_GTE, T_GTR, T_LAND, T_LOR, T_LSS, T_LTE, T_LUNLESS, T_MOD, T_MUL, T_NEQ, T_POW, T_SUB}
use Rattle.promql_token.proofs.one_reading.Inner.{after_outside, is_plain}
use Rattle.promql_token.proofs.printed.Concatenation.{joins}
use Rattle.promql_grammar.specs.declared.token_kinds.TokenKind.{TokenKind}
use Rattle.promql_grammar.specs.declared.token_kinds.TokenKind.TheVariants as kind
use Rattle.promql_grammar.specs.declared.token_kinds.TheConstants.{TOKEN_KINDS}
use Rattle.promql_grammar.specs.Symbols.{is_punct, token_kind, punct, symbol, word}
use Rattle.promql_syntax.proofs.parsing.Booleans.{and_cases, not_true, or_cases}
use Rattle.promql_syntax.proofs.lexed.Lexes.{at_depth, ends_operator, ends_word}
use Rattle.promql_syntax.proofs.printed.PrintedParts.{word_kind}
use Rattle.promql_syntax.proofs.parsing.TokenKindRows.{by_table}
use Rattle.promql_syntax.proofs.lexed.LexedEnds.{among}
use Rattle.promql_syntax.proofs.lexed.LexedItems.{Reads, known_reads}

-- ---- ids

-- a test that all of a list pass
test_of : (test : ℕ → Bool) (ids : List ℕ) (id : ℕ) → list_all test ids ≡ true → list_any (λ k. id == k) ids ≡ true → test id ≡ true
test_of test [] id all is = cc
test_of test (k ∷ ids) id all is =
    let both = and_cases (test k) (list_all test ids) all in
    ⊎_elim (λ h. subst (λ n. test n ≡ true) (sym (eqb-true id k h)) both.0) (λ h. test_of test ids id both.1 h) (or_cases (id == k) (list_any (λ k. id == k) ids) is)

-- ---- operators

abbrev plain_operators : List ℕ
plain_operators = T_ADD ∷ T_DIV ∷ T_EQLC ∷ T_GTE ∷ T_LTE ∷ T_MOD ∷ T_MUL ∷ T_NEQ ∷ T_POW ∷ T_SUB ∷ []

abbrev order_operators : List ℕ
order_operators = T_GTR ∷ T_LSS ∷ []

abbrev word_operators : List ℕ
word_operators = T_LAND ∷ T_LOR ∷ T_LUNLESS ∷ T_ATAN2 ∷ []

abbrev is_one_of : List ℕ → ℕ → Bool
is_one_of ids id = list_any (λ k. id == k) ids

abbrev is_operator_kind : TokenKind → Bool
is_operator_kind (kind.Operator op) = true
is_operator_kind k = false

abbrev is_known : ℕ → TokenKind → Bool
is_known id k = not (is_operator_kind k) || (is_one_of plain_operators id || (is_one_of order_operators id || is_one_of word_operators id))

operator_id : (op : ℕ) → token_kind op ≡ kind.Operator op → (is_one_of plain_operators op || (is_one_of order_operators op || is_one_of word_operators op)) ≡ true
operator_id op is = ap (λ k. is_known op k) (sym is) ∙ by_table is_known TOKEN_KINDS (λ id. refl) refl op

-- the text of the id is one token of it outside
abbrev is_piece : ℕ → ℕ → Scanned → Bool
is_piece id len (Ok t) = t.0 == id && t.1 == len
is_piece id len (Err f) = false

abbrev is_operator_token : ℕ → ℕ → Bool
is_operator_token depth id = is_piece id (length (text_of id)) (scan_token (at_depth depth) (text_of id)) && (is_plain id && not (length (text_of id) == 0))

piece_is : (id len : ℕ) (p : Scanned) → is_piece id len p ≡ true → p ≡ Ok (id, len)
piece_is id len (Ok t) e = let both = and_cases (t.0 == id) (t.1 == len) e in (λ i. Ok (eqb-true t.0 id both.0 i, eqb-true t.1 len both.1 i))
piece_is id len (Err f) e = cc

plain_operator_token : (depth op : ℕ) → is_one_of plain_operators op ≡ true → is_operator_token depth op ≡ true
unfolding scan_token outside scan.punctuator
plain_operator_token depth op is = test_of (is_operator_token depth) plain_operators op refl is

order_operator_token : (depth op : ℕ) → is_one_of order_operators op ≡ true → is_operator_token depth op ≡ true
unfolding scan_token outside scan.punctuator
order_operator_token depth op is = test_of (is_operator_token depth) order_operators op refl is

operator_token_reads : (depth op : ℕ) (r : Text) → token_kind op ≡ kind.Operator op → is_operator_token depth op ≡ true → parts mode.Outside (text_of op) r ≡ true → Reads (at_depth depth) (at_depth depth) (word (kind.Operator op) (text_of op)) r
operator_token_reads depth op r is token parts =
    let w = text_of op in
    let both = and_cases (is_piece op (length w) (scan_token (at_depth depth) w)) _ token in
    let more = and_cases (is_plain op) _ both.1 in
    let some : 0 < length w = (let none : (length w == 0) ≡ false = not_true _ more.1 in grind (arith, nat_tests)) in
    record {
      id = op;
      is = ap (λ k. symbol k w) is;
      reads = joins (at_depth depth) w r op some (piece_is op (length w) (scan_token (at_depth depth) w) both.0) parts ∙ ap (λ s. Ok (op, w) ∷ pieces s r) (after_outside depth op more.0);
    }

-- the text of the id is a word that is this keyword, and no fill word
abbrev is_keyword : ℕ → Option ℕ → Bool
is_keyword id (Some k) = k == id
is_keyword id None = false

abbrev is_word_token : ℕ → Bool
is_word_token id = is_word (text_of id) && (is_keyword id (keyword_in_any_case (text_of id)) && not (is_fill id))

word_operator : (op : ℕ) → is_one_of word_operators op ≡ true → is_word_token op ≡ true
unfolding keyword_in_any_case
word_operator op is = test_of is_word_token word_operators op refl is

keyword_reads : (depth id : ℕ) (k : TokenKind) (r : Text) → token_kind id ≡ k → is_punct k ≡ false → is_word_token id ≡ true → ends_word r ≡ true → Reads (at_depth depth) (at_depth depth) (word k (text_of id)) r
keyword_reads depth id k r kind plain token ends =
    let w = text_of id in
    let both = and_cases (is_word w) _ token in
    let more = and_cases (is_keyword id (keyword_in_any_case w)) _ both.1 in
    known_reads depth w r id k both.0 (known (keyword_in_any_case w) (name_id w) (opens r) more.0 (not_true _ more.1)) (ap (λ k. symbol k w) kind ∙ ap (λ b. cond b (punct k) (word k w)) plain) (not_true _ ends)
  where
    known : (o : Option ℕ) (d : ℕ) (b : Bool) → is_keyword id o ≡ true → is_fill id ≡ false → (let n = unwrap_or o d in cond (is_fill n && not b) T_IDENTIFIER n) ≡ id
    known None d b e fill = cc
    known (Some k) d b e fill = let same = eqb-true k id e in ap (λ n. cond (is_fill n && not b) T_IDENTIFIER n) same ∙ ap (λ x. cond (x && not b) T_IDENTIFIER id) fill

-- an operator that the lexer gives
pub operator_reads : (depth op : ℕ) (r : Text) → token_kind op ≡ kind.Operator op → ends_operator r ≡ true → Reads (at_depth depth) (at_depth depth) (word (kind.Operator op) (text_of op)) r
operator_reads depth op r is ends =
    let both = and_cases (ends_word r) _ ends in
    ⊎_elim (λ h. operator_token_reads depth op r is (plain_operator_token depth op h) (test_of (λ id. parts mode.Outside (text_of id) r) plain_operators op refl h))
    (λ h. ⊎_elim
    (λ h. operator_token_reads depth op r is (order_operator_token depth op h) (among (λ id. parts mode.Outside (text_of id) r ≡ true) order_operators op (both.1, (both.1, tt)) h))
    (λ h. keyword_reads depth op (kind.Operator op) r is refl (word_operator op h) both.0) (or_cases _ _ h))
    (or_cases _ _ (operator_id op is))

-- ---- aggregators

abbrev aggregates : ℕ → TokenKind → Bool
aggregates id (kind.Aggregator op) = op == id
aggregates id k = false

aggregator_kind : (id : ℕ) (k : TokenKind) → aggregates id k ≡ true → k ≡ kind.Aggregator id
aggregator_kind id (kind.Aggregator op) e = ap kind.Aggregator (eqb-true op id e)
aggregator_kind id k e = cc

abbrev aggregators : List ℕ
aggregators = count_up (suc T_AGGREGATORS_START) (T_AGGREGATORS_END - suc T_AGGREGATORS_START)

is_counted : (low n id : ℕ) → low ≤ id → id < low + n → list_any (λ k. id == k) (count_up low n) ≡ true
is_counted low zero id above below = absurd (omega arith)
is_counted low (suc n) id above below = go (id == low) refl (λ later. is_counted (low + 1) n id later (omega arith))
  where
    go : (b : Bool) → (id == low) ≡ b → (low + 1 ≤ id → list_any (λ k. id == k) (count_up (low + 1) n) ≡ true) → (b || list_any (λ k. id == k) (count_up (low + 1) n)) ≡ true
    go true is more = refl
    go false is more = let other : id ≢ low = grind (arith, nat_tests) in more (omega arith)

-- a test that all aggregators pass
pub test_of_aggregators : (test : ℕ → Bool) → list_all test aggregators ≡ true → (op : ℕ) → is_aggregator op ≡ true → test op ≡ true
test_of_aggregators test all op is =
    let low : T_AGGREGATORS_START < op = grind (arith, nat_tests) in
    let high : op < T_AGGREGATORS_END = grind (arith, nat_tests) in
    test_of test aggregators op all (is_counted (suc T_AGGREGATORS_START) (T_AGGREGATORS_END - suc T_AGGREGATORS_START) op low high)

aggregator_word : (op : ℕ) → is_aggregator op ≡ true → is_word_token op ≡ true
unfolding keyword_in_any_case
aggregator_word op is = test_of_aggregators is_word_token refl op is

pub aggregator_reads : (depth op : ℕ) (r : Text) → is_aggregator op ≡ true → ends_word r ≡ true → Reads (at_depth depth) (at_depth depth) (word (kind.Aggregator op) (text_of op)) r
aggregator_reads depth op r is ends =
    let same = aggregator_kind op (token_kind op) (test_of_aggregators (λ id. aggregates id (token_kind id)) refl op is) in
    keyword_reads depth op (kind.Aggregator op) r same refl (aggregator_word op is) ends

-- ---- names

abbrev is_word_kind : Option ℕ → Bool
is_word_kind None = true
is_word_kind (Some id) = not (is_punct (token_kind id))

-- no keyword is punctuation
found_word : (ks : List (Text × ℕ)) (w : Text) → list_all (λ k. not (is_punct (token_kind k.1))) ks ≡ true → is_word_kind (lookup str_eq_ignore_ascii_case ks w) ≡ true
found_word [] w all = refl
found_word (k ∷ ks) w all =
    let both = and_cases (not (is_punct (token_kind k.1))) _ all in
    cond_both (str_eq_ignore_ascii_case k.0 w) (Some k.1) (lookup str_eq_ignore_ascii_case ks w) (λ o. is_word_kind o ≡ true) (λ _. both.0) (λ _. found_word ks w both.1)

keyword_word : (w : Text) → is_word_kind (keyword_in_any_case w) ≡ true
unfolding keyword_in_any_case
keyword_word w = found_word keywords w refl

-- the kind of a word is no punctuation
pub word_is_no_punct : (w : Text) → is_punct (word_kind w) ≡ false
unfolding word_kind
word_is_no_punct w = go (keyword_in_any_case w) (keyword_word w)
  where
    named : (b : Bool) → is_punct (token_kind (cond b T_METRIC_IDENTIFIER T_IDENTIFIER)) ≡ false
    named true = refl
    named false = refl

    either : (b : Bool) (id : ℕ) → is_punct (token_kind id) ≡ false → is_punct (token_kind (cond b T_IDENTIFIER id)) ≡ false
    either true id is = refl
    either false id is = is

    go : (o : Option ℕ) → is_word_kind o ≡ true → is_punct (token_kind (let id = unwrap_or o (name_id w) in cond (is_fill id && true) T_IDENTIFIER id)) ≡ false
    go None is = either (is_fill (name_id w) && true) (name_id w) (named (list_any (λ b. b == 58) w))
    go (Some id) is = either (is_fill id && true) id (not_true _ is)

-- whether a word is `fill`, `fill_left` or `fill_right`, which are words of their own before `(`
abbrev pub is_fill_word : Text → Bool
is_fill_word w = is_fill (unwrap_or (keyword_in_any_case w) (name_id w))

same_id : (w r : Text) → (is_fill_word w && opens r) ≡ false → word_id w r ≡ word_id w []
same_id w r apart = go (is_fill_word w) (opens r) apart
  where
    go : (a b : Bool) → (a && b) ≡ false → cond (a && not b) T_IDENTIFIER (unwrap_or (keyword_in_any_case w) (name_id w)) ≡ cond (a && true) T_IDENTIFIER (unwrap_or (keyword_in_any_case w) (name_id w))
    go true true e = cc
    go true false e = refl
    go false b e = refl

plain_symbol : (k : TokenKind) (w : Text) → is_punct k ≡ false → symbol k w ≡ word k w
plain_symbol k w none = ap (λ b. cond b (punct k) (word k w)) none

word_reads_as : (depth : ℕ) (w r : Text) → is_word w ≡ true → (is_fill_word w && opens r) ≡ false → ends_word r ≡ true → Reads (at_depth depth) (at_depth depth) (word (word_kind w) w) r
unfolding word_kind
word_reads_as depth w r is apart ends = known_reads depth w r (word_id w []) (word_kind w) is (same_id w r apart) (plain_symbol (word_kind w) w (word_is_no_punct w)) (not_true _ ends)

-- the name of a metric
pub name_reads : (depth : ℕ) (w r : Text) → is_word w ≡ true → ends_word r ≡ true → opens r ≡ false → Reads (at_depth depth) (at_depth depth) (word (word_kind w) w) r
name_reads depth w r is ends shut = word_reads_as depth w r is (shut_apart (is_fill_word w) (opens r) shut) ends
  where
    shut_apart : (a b : Bool) → b ≡ false → (a && b) ≡ false
    shut_apart true b e = e
    shut_apart false b e = refl

-- the name of a function, also before `(`
pub called_reads : (depth : ℕ) (w r : Text) → is_word w ≡ true → is_fill_word w ≡ false → ends_word r ≡ true → Reads (at_depth depth) (at_depth depth) (word (word_kind w) w) r
called_reads depth w r is plain ends = word_reads_as depth w r is (ap (λ a. a && opens r) plain) ends
