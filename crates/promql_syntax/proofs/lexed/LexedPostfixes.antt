-- The lexer reads printed numbers, ranges, subqueries, offsets and range modes as their tokens.
use Rattle.std.proofs.Common.{◌≡◌, ℕ, ◌%◌, refl, ◌∙◌, ap, arith, Bool, true, false, cond, Option, Some, None, List, [], ◌∷◌, ◌++◌, codes, Ok}
use Rattle.std.specs.Prelude.{◌==◌, option_map}
use Rattle.std.proofs.lemmas.Bool.{cond_both}
use Rattle.promql_text.specs.DurationText.{duration_text}
use Rattle.promql_text.specs.Durations.{nanos_of}
use Rattle.promql_text.specs.NumberText.{number_text}
use Rattle.promql_text.specs.Texts.{Text}
use Rattle.promql_text.specs.Values.{IsNumber, is_below_zero}
use Rattle.promql_text.specs.declared.duration.Unit.TheVariants.{Milli}
use Rattle.promql_text.specs.declared.number.Number.{Number}
use Rattle.promql_token.specs.Ids.{keyword_in_any_case}
use Rattle.promql_token.specs.Laws.{is_word, stops_numeral}
use Rattle.promql_token.specs.Lexing.{pieces}
use Rattle.promql_token.specs.TokenScanning as scan
use Rattle.promql_token.specs.TokenScanning.{after, in_brackets, mode_after_something, outside, word_id}
use Rattle.promql_token.specs.Printed.{holds_numerals}
use Rattle.promql_token.specs.PrintedValues.{time_id}
use Rattle.promql_token.specs.declared.ids.TheConstants.{T_DURATION, T_NUMBER, T_SUB, T_ANCHORED, T_COLON, T_LEFT_BRACKET, T_OFFSET, T_RIGHT_BRACKET, T_SMOOTHED}
use Rattle.promql_token.specs.declared.state.Bracket.{Bracket}
use Rattle.promql_token.specs.declared.state.Bracket.TheVariants as bracket
use Rattle.promql_token.specs.declared.state.Mode.{Mode}
use Rattle.promql_token.specs.declared.state.Mode.TheVariants as mode
use Rattle.promql_token.specs.declared.state.State.{State}
use Rattle.promql_token.proofs.printed.Concatenation.{joins}
use Rattle.promql_token.proofs.printed.ValueTokens.{joins_number_text, joins_time}
use Rattle.promql_grammar.specs.declared.token_kinds.TokenKind.{TokenKind}
use Rattle.promql_grammar.specs.declared.token_kinds.TokenKind.TheVariants as kind
use Rattle.promql_grammar.specs.GrammarParts as part
use Rattle.promql_grammar.specs.Symbols.{punct, symbol_of, word}
use Rattle.promql_syntax.proofs.parsing.Booleans.{not_true}
use Rattle.promql_syntax.proofs.lexed.Lexes.{Lexes, LexesBefore, at_depth, is_clear}
use Rattle.promql_syntax.proofs.printed.PrintedItems.{Item, token, blank, postfix_line, render, signed_line, step_line, time_line}
use Rattle.promql_syntax.proofs.printed.PrintedParts.{time}
use Rattle.promql_syntax.proofs.printed.PrintedParts as printed
use Rattle.promql_syntax.proofs.lexed.LexedEnds.{clear_colon, clear_ends, clear_stops}
use Rattle.promql_syntax.proofs.lexed.LexedItems.{Reads, append_before, before_any, before_fewer, blank_before, known_reads, last_before, nothing, token_before, token_then}
use Rattle.promql_syntax.proofs.lexed.LexedValues.{minus_reads}
use Rattle.promql_syntax.proofs.printed.PrintedTimesAndLabels.{IsStep, IsTime}

-- ---- numbers

pub number_lex : (depth : ℕ) (v : Number) → IsNumber v → is_below_zero v ≡ false → LexesBefore is_clear (at_depth depth) (at_depth depth) (token (word kind.Number (number_text v)) ∷ [])
number_lex depth v is above =
    last_before is_clear (at_depth depth) (at_depth depth) (word kind.Number (number_text v))
    (λ r clear. record { id = T_NUMBER; is = refl; reads = joins_number_text depth v r is above (clear_stops (number_text v) r clear) (clear_colon r clear) })

-- ---- times

abbrev in_bracket : ℕ → Bracket → State
in_bracket depth inside = record { depth = depth; mode = mode.Brackets inside }

after_time : (m : Mode) (depth n : ℕ) → after (record { depth = depth; mode = m }) (time_id n) ≡ record { depth = depth; mode = mode_after_something m }
unfolding after
after_time m depth n =
    let s : State = record { depth = depth; mode = m } in
    cond_both (n % nanos_of Milli == 0) T_DURATION T_NUMBER (λ id. after s id ≡ record { depth = depth; mode = mode_after_something m }) (λ _. refl) (λ _. refl)

time_lex : (m : Mode) (depth n : ℕ) → holds_numerals m ≡ true → IsTime n
    → LexesBefore (stops_numeral (duration_text n)) (record { depth = depth; mode = m }) (record { depth = depth; mode = mode_after_something m }) (time_line (time n))
time_lex m depth n holds is =
    let a : State = record { depth = depth; mode = m } in
    let b : State = record { depth = depth; mode = mode_after_something m } in
    let test = stops_numeral (duration_text n) in
    let reads : (r : Text) → test r ≡ true → pieces a (duration_text n ++ r) ≡ Ok (time_id n, duration_text n) ∷ pieces b r =
    (λ r stop. joins_time a n r holds is.some is.less stop ∙ ap (λ s. Ok (time_id n, duration_text n) ∷ pieces s r) (after_time m depth n)) in
    go a b test (n % nanos_of Milli == 0) reads
  where
    go : (a b : State) (test : Text → Bool) (x : Bool) → ((r : Text) → test r ≡ true → pieces a (duration_text n ++ r) ≡ Ok (cond x T_DURATION T_NUMBER, duration_text n) ∷ pieces b r)
        → LexesBefore test a b (time_line (cond x (part.duration (duration_text n)) (part.seconds (duration_text n))))
    go a b test true reads = last_before test a b (word kind.Duration (duration_text n)) (λ r stop. record { id = T_DURATION; is = refl; reads = reads r stop })
    go a b test false reads = last_before test a b (word kind.Number (duration_text n)) (λ r stop. record { id = T_NUMBER; is = refl; reads = reads r stop })

-- ---- ranges and subqueries

bracket_reads : (depth : ℕ) (r : Text) → Reads (at_depth depth) (in_bracket depth bracket.Nothing) (punct kind.LeftBracket) r
unfolding scan.scan_token outside scan.punctuator after
bracket_reads depth r = record { id = T_LEFT_BRACKET; is = refl; reads = joins (at_depth depth) (91 ∷ []) r T_LEFT_BRACKET (omega arith) refl refl }

unbracket_reads : (depth : ℕ) (inside : Bracket) (r : Text) → Reads (in_bracket depth inside) (at_depth depth) (punct kind.RightBracket) r
unfolding scan.scan_token in_brackets after
unbracket_reads depth inside r = record { id = T_RIGHT_BRACKET; is = refl; reads = joins (in_bracket depth inside) (93 ∷ []) r T_RIGHT_BRACKET (omega arith) refl refl }

colon_reads : (depth : ℕ) (r : Text) → Reads (in_bracket depth bracket.Something) (in_bracket depth bracket.Colon) (punct kind.Colon) r
unfolding scan.scan_token in_brackets after
colon_reads depth r = record { id = T_COLON; is = refl; reads = joins (in_bracket depth bracket.Something) (58 ∷ []) r T_COLON (omega arith) refl refl }

abbrev any : Text → Bool
any r = true

-- a closing bracket, which ends a time
closed_lex : (depth : ℕ) (inside : Bracket) → Lexes (in_bracket depth inside) (at_depth depth) (token (punct kind.RightBracket) ∷ [])
closed_lex depth inside = token_then (in_bracket depth inside) (at_depth depth) (at_depth depth) (punct kind.RightBracket) [] (λ r. unbracket_reads depth inside r) (nothing (at_depth depth))

-- a time, and punctuation that ends it
time_then : (depth n : ℕ) (inside : Bracket) (c : State) (is : List Item) → IsTime n → ((r : Text) → stops_numeral (duration_text n) (render is ++ r) ≡ true)
    → let b : State = record { depth = depth; mode = mode_after_something (mode.Brackets inside) } in Lexes b c is → Lexes (in_bracket depth inside) c (time_line (time n) ++ is)
time_then depth n inside c is time_is stop more r =
    let b : State = record { depth = depth; mode = mode_after_something (mode.Brackets inside) } in
    append_before (stops_numeral (duration_text n)) any (in_bracket depth inside) b c (time_line (time n)) is (λ r passes. stop r) (time_lex (mode.Brackets inside) depth n refl time_is) (before_any any b c is more) r refl

pub range_lex : (depth n : ℕ) → IsTime n → Lexes (at_depth depth) (at_depth depth) (postfix_line (part.range (time n)))
range_lex depth n is =
    let o = at_depth depth in
    let rest = time_line (time n) ++ token (punct kind.RightBracket) ∷ [] in
    token_then o (in_bracket depth bracket.Nothing) o (punct kind.LeftBracket) rest (λ r. bracket_reads depth (render rest ++ r))
    (time_then depth n bracket.Nothing o (token (punct kind.RightBracket) ∷ []) is (λ r. refl) (closed_lex depth bracket.Something))

step_lex : (depth : ℕ) (s : Option ℕ) → IsStep s → Lexes (in_bracket depth bracket.Colon) (at_depth depth) (step_line (option_map time s) ++ token (punct kind.RightBracket) ∷ [])
step_lex depth None is = closed_lex depth bracket.Colon
step_lex depth (Some n) is = time_then depth n bracket.Colon (at_depth depth) (token (punct kind.RightBracket) ∷ []) is (λ r. refl) (closed_lex depth bracket.Colon)

pub subquery_lex : (depth n : ℕ) (s : Option ℕ) → IsTime n → IsStep s → Lexes (at_depth depth) (at_depth depth) (postfix_line (part.subquery (time n) (option_map time s)))
subquery_lex depth n s is step_is =
    let o = at_depth depth in
    let late = step_line (option_map time s) ++ token (punct kind.RightBracket) ∷ [] in
    let rest = time_line (time n) ++ token (punct kind.Colon) ∷ late in
    token_then o (in_bracket depth bracket.Nothing) o (punct kind.LeftBracket) rest (λ r. bracket_reads depth (render rest ++ r))
    (time_then depth n bracket.Nothing o (token (punct kind.Colon) ∷ late) is (λ r. refl)
    (token_then (in_bracket depth bracket.Something) (in_bracket depth bracket.Colon) o (punct kind.Colon) late (λ r. colon_reads depth (render late ++ r)) (step_lex depth s step_is)))

-- ---- words before what they change

-- a sign, or none
pub signed_before : (test : Text → Bool) (depth : ℕ) (b : Bool) (is : List Item) → LexesBefore test (at_depth depth) (at_depth depth) is → LexesBefore test (at_depth depth) (at_depth depth) (signed_line (printed.sign b) ++ is)
signed_before test depth false is more = more
signed_before test depth true is more = token_before test (at_depth depth) (at_depth depth) (at_depth depth) (word (kind.Operator T_SUB) (codes "-")) is (λ r passes. minus_reads depth (render is ++ r)) more

offset_id : (r : Text) → word_id (codes "offset") r ≡ T_OFFSET
unfolding keyword_in_any_case
offset_id r = refl

-- `offset` with a time, before or ahead
pub offset_lex : (depth n : ℕ) (b : Bool) → IsTime n
    → LexesBefore is_clear (at_depth depth) (at_depth depth) (blank ∷ token (word kind.Offset (codes "offset")) ∷ blank ∷ (signed_line (printed.sign b) ++ time_line (time n)))
offset_lex depth n b is =
    let o = at_depth depth in
    let late = signed_line (printed.sign b) ++ time_line (time n) in
    blank_before is_clear depth o (token (word kind.Offset (codes "offset")) ∷ blank ∷ late)
    (token_before is_clear o o o (word kind.Offset (codes "offset")) (blank ∷ late) (λ r clear. known_reads depth (codes "offset") (32 ∷ (render late ++ r)) T_OFFSET kind.Offset refl (offset_id (32 ∷ (render late ++ r))) refl refl)
    (blank_before is_clear depth o late
    (signed_before is_clear depth b (time_line (time n)) (before_fewer (stops_numeral (duration_text n)) is_clear o o (time_line (time n)) (clear_stops (duration_text n)) (time_lex mode.Outside depth n refl is)))))

smoothed_id : (r : Text) → word_id (codes "smoothed") r ≡ T_SMOOTHED
unfolding keyword_in_any_case
smoothed_id r = refl

anchored_id : (r : Text) → word_id (codes "anchored") r ≡ T_ANCHORED
unfolding keyword_in_any_case
anchored_id r = refl

-- a word after a space
last_word : (depth id : ℕ) (k : TokenKind) (w : Text) → is_word w ≡ true → ((r : Text) → word_id w r ≡ id) → symbol_of (id, w) ≡ word k w → LexesBefore is_clear (at_depth depth) (at_depth depth) (blank ∷ token (word k w) ∷ [])
last_word depth id k w letters known symbol =
    let o = at_depth depth in
    blank_before is_clear depth o (token (word k w) ∷ []) (last_before is_clear o o (word k w) (λ r clear. known_reads depth w r id k letters (known r) symbol (not_true _ (clear_ends r clear))))

pub smoothed_lex : (depth : ℕ) → LexesBefore is_clear (at_depth depth) (at_depth depth) (postfix_line (part.mode true (codes "smoothed")))
smoothed_lex depth = last_word depth T_SMOOTHED kind.Smoothed (codes "smoothed") refl smoothed_id refl

pub anchored_lex : (depth : ℕ) → LexesBefore is_clear (at_depth depth) (at_depth depth) (postfix_line (part.mode false (codes "anchored")))
anchored_lex depth = last_word depth T_ANCHORED kind.Anchored (codes "anchored") refl anchored_id refl
