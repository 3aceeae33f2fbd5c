-- The next token of a cursor, and what is left after it.
use Rattle.std.proofs.Common.{◌≡◌, ◌≢◌, ℕ, ◌+◌, ◌-◌, Bool, true, false, cond, List, [], ◌∷◌, length, take, drop, map, Result, Ok, Err, refl, sym, ap, ◌∙◌, arith}
use denote.Bor.{Bor}
use Rattle.std.specs.Prelude.{◌==◌, not, filter, MatchResult}
use Rattle.std.specs.Result.{is_err}
use Rattle.std.proofs.lemmas.Bool.{eqb-false, ne_eqb}
use Rattle.std.proofs.lemmas.List.{drop-drop, take_rest}
use Rattle.promql_token.specs.declared.fault.LexFault.{LexFault}
use Rattle.promql_token.specs.declared.fault.LexFaultKind.{LexFaultKind}
use Rattle.promql_token.specs.declared.lexeme.Lexeme.{Lexeme}
use Rattle.promql_token.specs.declared.state.Mode.TheVariants as mode
use Rattle.promql_token.specs.declared.state.State.{State}
use Rattle.promql_text.specs.Texts.{Text}
use Rattle.promql_token.specs.declared.cursor.Cursor as code
use Rattle.promql_token.specs.Cursor.{is_before_end, tokens_left, tokens_up_to_fault, ends_in_fault}
use Rattle.promql_token.specs.Front.{up_to_fault, has_fault}
use Rattle.promql_token.specs.IsPast.{IsPast}
use Rattle.promql_token.specs.Lexing.{ScannedText, Found, pieces, found, first, fault_at, item, collect_items, with_front, goes_on, len_of, start, lex, tokens, cut, place_items, slice_texts, result_texts, text_at}
use Rattle.promql_token.specs.TokenScanning.{after}
use Rattle.promql_token.proofs.one_reading.Items.{is_token}
use Rattle.promql_token.proofs.one_reading.Items.{left_token as left_item}
use Rattle.promql_token.proofs.one_reading.Spans.{stands, spans}
use Rattle.promql_token.proofs.one_reading.Steps.{pieces_are, pieces_end}
use Rattle.promql_token.specs.declared.ids.TheConstants.{T_EOF}

up_to_no_fault : (ts : List (ℕ × Text)) → up_to_fault (map (λ t. Ok t) ts) ≡ ts
up_to_no_fault [] = refl
up_to_no_fault (t ∷ ts) = ap (λ us. t ∷ us) (up_to_no_fault ts)

tokens_of_lexemes : (s : Text) (r : Result (List Lexeme) LexFault) (ts : List (ℕ × Text)) → lex s ≡ r → result_texts s r ≡ Ok ts → up_to_fault (pieces start s) ≡ ts
tokens_of_lexemes s (Ok xs) ts lexed is =
    let same : slice_texts s xs ≡ ts = cc in
    ap up_to_fault (spans s xs lexed).1 ∙ up_to_no_fault (slice_texts s xs) ∙ same
tokens_of_lexemes s (Err f) ts lexed is = cc

-- a whole text
pub new_left : (s : Text) (c : code.Cursor) → c.text.now ≡ s → c.at ≡ 0 → c.state ≡ start → (ts : List (ℕ × Text)) → tokens s ≡ Ok ts → tokens_left c ≡ filter is_before_end ts
new_left s c text at state ts is =
    (λ i. filter is_before_end (up_to_fault (pieces (state i) (drop (at i) (text i))))) ∙ ap (filter is_before_end) (tokens_of_lexemes s (lex s) ts refl is)

pub new_pieces : (s : Text) (c : code.Cursor) → c.text.now ≡ s → c.at ≡ 0 → c.state ≡ start → tokens_left c ≡ tokens_up_to_fault s
new_pieces s c text at state = λ i. filter is_before_end (up_to_fault (pieces (state i) (drop (at i) (text i))))

-- ---- a fault at the end

no_fault : (ts : List (ℕ × Text)) → has_fault (map (λ t. Ok t) ts) ≡ false
no_fault [] = refl
no_fault (t ∷ ts) = no_fault ts

whole_list : (s : Text) (r : Result (List Lexeme) LexFault) (ts : List (ℕ × Text)) → lex s ≡ r → result_texts s r ≡ Ok ts → has_fault (pieces start s) ≡ false
whole_list s (Ok xs) ts lexed is = ap has_fault (spans s xs lexed).1 ∙ no_fault (slice_texts s xs)
whole_list s (Err f) ts lexed is = cc

with_front_fault : (xs : List Lexeme) (r : Result (List Lexeme) LexFault) (f : LexFault) → with_front xs r ≡ Err f → r ≡ Err f
with_front_fault xs (Ok ys) f is = cc
with_front_fault xs (Err e) f is = cc

-- a fault comes first, or later
first_or_later : (at : ℕ) (w : ScannedText) (rs : List (Result Lexeme LexFault)) (ws : List ScannedText) (f : LexFault) → (collect_items rs ≡ Err f → has_fault ws ≡ true) → collect_items (item at w ∷ rs) ≡ Err f → has_fault (w ∷ ws) ≡ true
first_or_later at (Ok t) rs ws f later is = later (with_front_fault (record { id = t.0; start = at; len = length t.1 } ∷ []) _ f is)
first_or_later at (Err e) rs ws f later is = refl

collected_fault : (at : ℕ) (fs : List Found) (f : LexFault) → collect_items (place_items at fs) ≡ Err f → has_fault (map (λ (g : Found). g.scanned_text) fs) ≡ true
collected_fault at [] f is = cc
collected_fault at (g ∷ gs) f is = first_or_later (at + g.trivia) g.scanned_text (place_items (at + g.trivia + len_of g.scanned_text) gs) (map (λ (g : Found). g.scanned_text) gs) f (collected_fault (at + g.trivia + len_of g.scanned_text) gs f) is

sliced_fault : (s : Text) (r : Result (List Lexeme) LexFault) (f : LexFault) → result_texts s r ≡ Err f → r ≡ Err f
sliced_fault s (Ok xs) f is = cc
sliced_fault s (Err e) f is = cc

whole_fault : (s : Text) (f : LexFault) → tokens s ≡ Err f → has_fault (pieces start s) ≡ true
unfolding lex
whole_fault s f is = collected_fault 0 (cut start s) f (sliced_fault s (lex s) f is)

-- what is to come of a whole text ends in a fault where the text has one
pub new_whole : (s : Text) (c : code.Cursor) → c.text.now ≡ s → c.at ≡ 0 → c.state ≡ start → (ts : List (ℕ × Text)) → tokens s ≡ Ok ts → ends_in_fault c ≡ false
new_whole s c text at state ts is = (λ i. has_fault (pieces (state i) (drop (at i) (text i)))) ∙ whole_list s (lex s) ts refl is

pub new_fault : (s : Text) (c : code.Cursor) → c.text.now ≡ s → c.at ≡ 0 → c.state ≡ start → (f : LexFault) → tokens s ≡ Err f → ends_in_fault c ≡ true
new_fault s c text at state f is = (λ i. has_fault (pieces (state i) (drop (at i) (text i)))) ∙ whole_fault s f is

abbrev left : ScannedText → List ScannedText → List (ℕ × Text)
left w ws = filter is_before_end (up_to_fault (w ∷ cond (goes_on w) ws []))

ok_is : (a b : Lexeme) (r : Result Lexeme LexFault) → r ≡ Ok a → r ≡ Ok b → a ≡ b
ok_is a b r e f = cc

left_end : (at : ℕ) (w : ScannedText) (ws : List ScannedText) (x : Lexeme) → item at w ≡ Ok x → (x.id == T_EOF) ≡ true → left w ws ≡ []
left_end at (Ok t) ws x is end =
    let id : t.0 ≡ x.id = ap (λ (x : Lexeme). x.id) (ok_is _ _ (item at (Ok t)) refl is) in
    let e : (t.0 == T_EOF) ≡ true = ap (λ id. id == T_EOF) id ∙ end in
    ap (λ b. cond (not b) (t ∷ filter is_before_end (up_to_fault (cond (not b) ws []))) (filter is_before_end (up_to_fault (cond (not b) ws [])))) e
left_end at (Err f) ws x is end = cc

left_fault : (at : ℕ) (w : ScannedText) (ws : List ScannedText) (f : LexFault) → item at w ≡ Err f → left w ws ≡ []
left_fault at (Ok t) ws f is = cc
left_fault at (Err e) ws f is = refl

left_token : (at : ℕ) (w : ScannedText) (ws : List ScannedText) (x : Lexeme) (text : Text) → item at w ≡ Ok x → (x.id == T_EOF) ≡ false → ((id : ℕ) (t : Text) → w ≡ Ok (id, t) → t ≡ take (length t) text)
    → left w ws ≡ (x.id, take x.len text) ∷ filter is_before_end (up_to_fault ws)
left_token at (Ok t) ws x text is more texts =
    let same = ok_is _ _ (item at (Ok t)) refl is in
    let id : t.0 ≡ x.id = ap (λ (x : Lexeme). x.id) same in
    let len : length t.1 ≡ x.len = ap (λ (x : Lexeme). x.len) same in
    let e : (t.0 == T_EOF) ≡ false = ap (λ id. id == T_EOF) id ∙ more in
    let slice : t.1 ≡ take x.len text = texts t.0 t.1 refl ∙ ap (λ n. take n text) len in
    ap (λ b. cond (not b) (t ∷ filter is_before_end (up_to_fault (cond (not b) ws []))) (filter is_before_end (up_to_fault (cond (not b) ws [])))) e
    ∙ (λ i. (id i, slice i) ∷ filter is_before_end (up_to_fault ws))
left_token at (Err f) ws x text is more texts = cc

-- the end, or a fault
pub none_end : (text : Text) (at : ℕ) (state : State) (x : Lexeme) → Ok x ≡ first at (found state (drop at text)) → x.id ≡ 6 → filter is_before_end (up_to_fault (pieces state (drop at text))) ≡ []
none_end text at state x is end =
    let z = drop at text in
    let f = found state z in
    ap (λ ws. filter is_before_end (up_to_fault ws)) (pieces_are state z) ∙ left_end (at + f.trivia) f.scanned_text _ x (sym is) (ap (λ id. id == T_EOF) end)

none_fault : (text : Text) (at : ℕ) (state : State) (fault : LexFault) → Err fault ≡ first at (found state (drop at text)) → filter is_before_end (up_to_fault (pieces state (drop at text))) ≡ []
none_fault text at state fault is =
    let z = drop at text in
    let f = found state z in
    ap (λ ws. filter is_before_end (up_to_fault ws)) (pieces_are state z) ∙ left_fault (at + f.trivia) f.scanned_text _ fault (sym is)

-- the token or the fault that comes next
abbrev pub IsFront : code.Cursor → Result Lexeme (LexFaultKind × ℕ) → Type 0
IsFront c r =
    let it = first c.at (found c.state (drop c.at c.text.now)) in
    MatchResult r (λ x. Ok x ≡ it) (λ f. Err (fault_at c.text.now f.0 f.1) ≡ it)

pub no_token_left : (c : code.Cursor) (r : Result Lexeme (LexFaultKind × ℕ)) (f : LexFaultKind × ℕ) → IsFront c r → r ≡ Err f → tokens_left c ≡ []
no_token_left c (Ok x) f is e = cc
no_token_left c (Err g) f is e = none_fault c.text.now c.at c.state (fault_at c.text.now g.0 g.1) is

-- a token, and what is left after it
token_left : (text : Text) (at : ℕ) (state : State) (x : Lexeme) → Ok x ≡ first at (found state (drop at text)) → x.id ≢ 6
    → filter is_before_end (up_to_fault (pieces state (drop at text))) ≡ (x.id, text_at text x) ∷ filter is_before_end (up_to_fault (pieces (after state x.id) (drop (x.start + x.len) text)))
token_left text at state x is more =
    let z = drop at text in
    let f = found state z in
    let t = is_token (at + f.trivia) f.scanned_text x (sym is) in
    let start : x.start ≡ at + f.trivia = t.start in
    let len = t.len in
    let st = stands text at state in
    let from : drop f.trivia z ≡ drop x.start text = drop-drop f.trivia at text ∙ ap (λ n. drop n text) (sym start) in
    let place : at + (f.trivia + len_of f.scanned_text) ≡ x.start + x.len = omega (arith, start, len) in
    let rest : drop (f.trivia + len_of f.scanned_text) z ≡ drop (x.start + x.len) text = drop-drop (f.trivia + len_of f.scanned_text) at text ∙ ap (λ n. drop n text) place in
    ap (λ ws. filter is_before_end (up_to_fault ws)) (pieces_are state z)
    ∙ left_token (at + f.trivia) f.scanned_text _ x (drop x.start text) (sym is) (ne_eqb x.id T_EOF more) (λ id t w. st.text id t w ∙ ap (take (length t)) from)
    ∙ (λ i. (x.id, text_at text x) ∷ filter is_before_end (up_to_fault (pieces (t.state state i) (rest i))))

pub some_token : (x : Lexeme) (old new : code.Cursor) → Ok x ≡ first old.at (found old.state (drop old.at old.text.now)) → IsPast x old new → x.id ≢ 6
    → tokens_left old ≡ (x.id, text_at old.text.now x) ∷ tokens_left new
some_token x old new is end_of_run more =
    let text = ap (λ (t : Bor Text). t.now) end_of_run.text in
    let at = end_of_run.at more in
    let state = end_of_run.state more in
    token_left old.text.now old.at old.state x is more
    ∙ (λ i. (x.id, text_at old.text.now x) ∷ filter is_before_end (up_to_fault (pieces ((sym state) i) (drop ((sym at) i) ((sym text) i)))))

-- ---- what ends in a fault

-- what comes first, and whether a fault comes then
has_front_token : (t : ℕ × Text) (ws : List ScannedText) → (t.0 == T_EOF) ≡ false → has_fault (Ok t ∷ cond (goes_on (Ok t)) ws []) ≡ has_fault ws
has_front_token t ws more = ap (λ b. has_fault (cond (not b) ws [])) more

has_front_end : (t : ℕ × Text) (ws : List ScannedText) → (t.0 == T_EOF) ≡ true → has_fault (Ok t ∷ cond (goes_on (Ok t)) ws []) ≡ false
has_front_end t ws end = ap (λ b. has_fault (cond (not b) ws [])) end

-- past a token as before it
pub past_token : (x : Lexeme) (old new : code.Cursor) → Ok x ≡ first old.at (found old.state (drop old.at old.text.now)) → IsPast x old new → x.id ≢ 6 → ends_in_fault new ≡ ends_in_fault old
past_token x old new is end_of_run more =
    let z = drop old.at old.text.now in
    let f = found old.state z in
    let text = ap (λ (t : Bor Text). t.now) end_of_run.text in
    let t = is_token (old.at + f.trivia) f.scanned_text x (sym is) in
    let len = t.len in
    let start = t.start in
    let place : old.at + (f.trivia + len_of f.scanned_text) ≡ x.start + x.len = omega (arith, start, len) in
    let rest : drop (f.trivia + len_of f.scanned_text) z ≡ drop (x.start + x.len) old.text.now = drop-drop (f.trivia + len_of f.scanned_text) old.at old.text.now ∙ ap (λ n. drop n old.text.now) place in
    (λ i. has_fault (pieces ((end_of_run.state more) i) (drop ((end_of_run.at more) i) (text i))))
    ∙ sym (ap has_fault (pieces_are old.state z) ∙ front_of f.scanned_text (old.at + f.trivia) _ (sym is) ∙ (λ i. has_fault (pieces (t.state old.state i) (rest i))))
  where
    front_of : (w : ScannedText) (at : ℕ) (ws : List ScannedText) → item at w ≡ Ok x → has_fault (w ∷ cond (goes_on w) ws []) ≡ has_fault ws
    front_of (Ok t) at ws here =
        let id : t.0 ≡ x.id = ap (λ (x : Lexeme). x.id) (ok_is _ _ (item at (Ok t)) refl here) in
        has_front_token t ws (ap (λ id. id == T_EOF) id ∙ ne_eqb x.id T_EOF more)
    front_of (Err f) at ws here = cc

-- where no token comes, a fault is all that comes, or the end
at_fault : (c : code.Cursor) (f : LexFault) → Err f ≡ first c.at (found c.state (drop c.at c.text.now)) → true ≡ ends_in_fault c
at_fault c f is =
    let z = drop c.at c.text.now in
    sym (ap has_fault (pieces_are c.state z) ∙ front_of (found c.state z).scanned_text _ _ (sym is))
  where
    front_of : (w : ScannedText) (at : ℕ) (ws : List ScannedText) → item at w ≡ Err f → has_fault (w ∷ cond (goes_on w) ws []) ≡ true
    front_of (Ok t) at ws here = cc
    front_of (Err e) at ws here = refl

at_end : (c : code.Cursor) (x : Lexeme) → Ok x ≡ first c.at (found c.state (drop c.at c.text.now)) → tokens_left c ≡ [] → false ≡ ends_in_fault c
at_end c x is none =
    let z = drop c.at c.text.now in
    sym (ap has_fault (pieces_are c.state z) ∙ front_of (found c.state z).scanned_text _ _ (sym is) (sym (ap (λ ws. filter is_before_end (up_to_fault ws)) (pieces_are c.state z)) ∙ none))
  where
    by_test : (t : ℕ × Text) (ws : List ScannedText) (b : Bool) → (t.0 == T_EOF) ≡ b → left (Ok t) ws ≡ [] → has_fault (Ok t ∷ cond (goes_on (Ok t)) ws []) ≡ false
    by_test t ws true end none = has_front_end t ws end
    by_test t ws false more none =
        let some : [] ≡ t ∷ filter is_before_end (up_to_fault ws) = sym none ∙ ap (λ b. cond (not b) (t ∷ filter is_before_end (up_to_fault (cond (not b) ws []))) (filter is_before_end (up_to_fault (cond (not b) ws [])))) more in
        cc

    front_of : (w : ScannedText) (at : ℕ) (ws : List ScannedText) → item at w ≡ Ok x → left w ws ≡ [] → has_fault (w ∷ cond (goes_on w) ws []) ≡ false
    front_of (Ok t) at ws here none = by_test t ws (t.0 == T_EOF) refl none
    front_of (Err e) at ws here none = cc

pub at_fault_or_end : (c : code.Cursor) (r : Result Lexeme (LexFaultKind × ℕ)) → IsFront c r → tokens_left c ≡ [] → is_err r ≡ ends_in_fault c
at_fault_or_end c (Ok x) is none = at_end c x is none
at_fault_or_end c (Err f) is none = at_fault c (fault_at c.text.now f.0 f.1) is

no_bytes : (z : Text) → length z ≡ 0 → z ≡ []
no_bytes [] h = refl
no_bytes (b ∷ z) h = absurd (omega arith)

-- at the end of a text, where nothing is open, as the code has it
pub at_text_end : (bytes : Text) (c : code.Cursor) → bytes ≡ c.text.now → length (take (length bytes - c.at) (drop c.at bytes)) ≡ 0 → c.state.depth ≡ 0 → c.state.mode ≡ mode.Outside
    → (tokens_left c ≡ []) × (ends_in_fault c ≡ false)
at_text_end bytes c same none depth mode =
    let rest : drop c.at c.text.now ≡ [] = ap (drop c.at) (sym same) ∙ sym (take_rest bytes c.at) ∙ no_bytes _ none in
    let state : c.state ≡ start = λ i. record { depth = depth i; mode = mode i } in
    let is : pieces c.state (drop c.at c.text.now) ≡ Ok (T_EOF, []) ∷ [] = (λ i. pieces (state i) (rest i)) ∙ pieces_end in
    (ap (λ ws. filter is_before_end (up_to_fault ws)) is, ap has_fault is)

-- the same with places
pub left_past : (x : Lexeme) (old new : code.Cursor) → Ok x ≡ first old.at (found old.state (drop old.at old.text.now)) → IsPast x old new
    → place_items old.at (cut old.state (drop old.at old.text.now)) ≡ Ok x ∷ cond (x.id == T_EOF) [] (place_items new.at (cut new.state (drop new.at new.text.now)))
left_past x old new is end_of_run =
    let text = ap (λ (t : Bor Text). t.now) end_of_run.text in
    let place = end_of_run.placed in
    left_item old.text.now old.at old.state x is end_of_run.order place.1.0 end_of_run.moves
    ∙ ap (λ l. Ok x ∷ l) (elim (x.id == T_EOF) as (λ b. (x.id == T_EOF) ≡ b → cond b [] (place_items (x.start + x.len) (cut (after old.state x.id) (drop (x.start + x.len) old.text.now))) ≡ cond b [] (place_items new.at (cut new.state (drop new.at new.text.now)))) [
      | true ↦ λ end. refl
      | false ↦ λ goes.
          let more = eqb-false _ _ goes in
          (λ i. place_items ((sym (end_of_run.at more)) i) (cut ((sym (end_of_run.state more)) i) (drop ((sym (end_of_run.at more)) i) ((sym text) i))))
    ] refl)
