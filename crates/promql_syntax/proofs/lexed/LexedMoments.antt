-- The lexer reads printed times after `@`, and printed offsets, as their tokens.
use Rattle.std.proofs.Common.{◌≡◌, ℕ, zero, suc, ℤ, ◌-◌, ◌/◌, ◌%◌, ◌^◌, ◌<◌, ◌≤◌, refl, sym, ◌∙◌, subst, arith, Bool, true, false, cond, Option, Some, None, List, [], ◌∷◌, ◌++◌, length, length-append, codes, Ok}
use Rattle.std.specs.Prelude.{if◌then◌else◌, nat_le, neg_ℤ, pos, unsigned_abs}
use Rattle.std.specs.Char.{digit_value, is_ascii_digit}
use Rattle.std.specs.Fmt.{decimal}
use Rattle.std.specs.Int.{is_negative}
use Rattle.std.specs.Str.Parse.{AllDigits}
use Rattle.std.proofs.lemmas.Bool.Decides.{nat_tests}
use Rattle.std.proofs.lemmas.Fmt.{decimal_is_IsNumeral_wide}
use Rattle.std.proofs.lemmas.List.Folds.{list_all-append}
use Rattle.std.proofs.lemmas.Str.Parse.{digit_from_value}
use Rattle.promql_text.specs.Millis.{millis, to_millis, within_i64}
use Rattle.promql_text.specs.Texts.{Text}
use Rattle.promql_text.specs.declared.number.Number.{Number}
use Rattle.promql_text.specs.declared.number.Number.TheVariants.{Finite, Inf, NegInf, NaN}
use Rattle.promql_token.specs.Ids.{keyword_in_any_case}
use Rattle.promql_token.specs.Laws.{is_word, stops_numeral}
use Rattle.promql_token.specs.Lexing.{pieces}
use Rattle.promql_token.specs.TokenScanning as scan
use Rattle.promql_token.specs.TokenScanning.{after, outside, word_id}
use Rattle.promql_token.specs.Printed.{are_digits}
use Rattle.promql_token.specs.declared.ids.TheConstants.{T_NUMBER, T_AT, T_END, T_START}
use Rattle.promql_token.proofs.printed.Concatenation.{joins}
use Rattle.promql_token.proofs.printed.PrintedForms.{joins_number}
use Rattle.promql_grammar.specs.declared.token_kinds.TokenKind.TheVariants as kind
use Rattle.promql_grammar.specs.GrammarParts as part
use Rattle.promql_grammar.specs.Symbols.{punct, symbol_of, word}
use Rattle.promql_ast.specs.AtTimes.{at_of_millis, at_of_number}
use Rattle.promql_ast.specs.Shifts.{Shift, back, ahead, Moment, at_start, at_end, at_time}
use Rattle.promql_syntax.proofs.parsing.Booleans.{and_both}
use Rattle.promql_syntax.proofs.lexed.Lexes.{LexesBefore, at_depth, is_clear}
use Rattle.promql_syntax.specs.PartBuilding.{signed_number}
use Rattle.promql_syntax.specs.Postfixes.{at_fault}
use Rattle.promql_syntax.proofs.printed.PrintedItems.{Item, token, blank, postfix_line, render, signed_line}
use Rattle.promql_syntax.proofs.printed.PrintedParts.{moment, seconds_text, shift}
use Rattle.promql_syntax.proofs.printed.PrintedParts as printed
use Rattle.promql_syntax.proofs.lexed.LexedEnds.{clear_stops}
use Rattle.promql_syntax.proofs.lexed.LexedItems.{Reads, before_any, blank_before, close_reads, known_reads, last_before, nothing, open_reads, token_before, token_then}
use Rattle.promql_syntax.proofs.lexed.LexedPostfixes.{offset_lex, signed_before}
use Rattle.promql_syntax.proofs.readback.Printable.{IsMoment, IsShift}
use Rattle.promql_syntax.proofs.building.SingleAnswers.{same_ok, then_steps}

-- ---- the start and the end

start_id : (r : Text) → word_id (codes "start") r ≡ T_START
unfolding keyword_in_any_case
start_id r = refl

end_id : (r : Text) → word_id (codes "end") r ≡ T_END
unfolding keyword_in_any_case
end_id r = refl

at_reads : (depth : ℕ) (r : Text) → Reads (at_depth depth) (at_depth depth) (punct kind.At) r
unfolding scan.scan_token outside scan.punctuator after
at_reads depth r = record { id = T_AT; is = refl; reads = joins (at_depth depth) (64 ∷ []) r T_AT (omega arith) refl refl }

at_then : (test : Text → Bool) (depth : ℕ) (is : List Item) → LexesBefore test (at_depth depth) (at_depth depth) is → LexesBefore test (at_depth depth) (at_depth depth) (blank ∷ token (punct kind.At) ∷ blank ∷ is)
at_then test depth is more =
    let o = at_depth depth in
    blank_before test depth o (token (punct kind.At) ∷ blank ∷ is)
    (token_before test o o o (punct kind.At) (blank ∷ is) (λ r passes. at_reads depth (32 ∷ (render is ++ r))) (blank_before test depth o is more))

bound_lex : (depth id : ℕ) (start : Bool) (w : Text) → is_word w ≡ true → ((r : Text) → word_id w r ≡ id) → symbol_of (id, w) ≡ word (if start then kind.Start else kind.End) w
    → LexesBefore is_clear (at_depth depth) (at_depth depth) (postfix_line (part.at_bound start w))
bound_lex depth id start w letters known symbol =
    let k = if start then kind.Start else kind.End in
    let o = at_depth depth in
    let shut = token (punct kind.RightParen) ∷ [] in
    let empty = token (punct kind.LeftParen) ∷ shut in
    at_then is_clear depth (token (word k w) ∷ empty)
    (before_any is_clear o o (token (word k w) ∷ empty)
    (token_then o o o (word k w) empty (λ r. known_reads depth w (40 ∷ 41 ∷ r) id k letters (known (40 ∷ 41 ∷ r)) symbol refl)
    (token_then o (at_depth (suc depth)) o (punct kind.LeftParen) shut (λ r. open_reads depth (41 ∷ r))
    (token_then (at_depth (suc depth)) o o (punct kind.RightParen) [] (λ r. close_reads depth r) (nothing o)))))

-- ---- seconds

one_digit : (c : ℕ) → digit_value c < 10 → is_ascii_digit c ≡ true
one_digit c below = let h = digit_from_value c below in grind (arith, nat_tests)

all_digits : (ds : Text) → AllDigits 10 ds → are_digits ds ≡ true
all_digits [] h = refl
all_digits (c ∷ cs) h = and_both _ _ (one_digit c h.0) (all_digits cs h.1)

record IsDigits (ds : Text) : Type 0 where
  some : 0 < length ds
  digits : are_digits ds ≡ true

decimal_is : (n : ℕ) → n < 10 ^ 64 → IsDigits (decimal n)
decimal_is n low = let is = decimal_is_IsNumeral_wide n low in record { some = is.0.0; digits = all_digits (decimal n) is.0.1 }

digits_then : (xs ys : Text) → IsDigits xs → IsDigits ys → IsDigits (xs ++ ys)
digits_then xs ys a b = record {
  some = (let h = a.some in omega (arith, h, length-append xs ys));
  digits = list_all-append is_ascii_digit xs ys ∙ and_both _ _ a.digits b.digits;
}

point_joins : (depth : ℕ) (whole fraction r : Text) → IsDigits whole → IsDigits fraction → stops_numeral (whole ++ (46 ∷ fraction)) r ≡ true
    → pieces (at_depth depth) ((whole ++ (46 ∷ fraction)) ++ r) ≡ Ok (T_NUMBER, whole ++ (46 ∷ fraction)) ∷ pieces (at_depth depth) r
unfolding after
point_joins depth whole [] r w f stop = let none = f.some in absurd (omega arith)
point_joins depth whole (b ∷ fraction) r w f stop = joins_number (at_depth depth) whole (b ∷ fraction) r refl w.some w.digits f.digits stop

seconds_joins : (depth size : ℕ) (r : Text) → size < 2 ^ 64
    → let text = decimal (size / 1000) ++ (46 ∷ (decimal (size / 100 % 10) ++ (decimal (size / 10 % 10) ++ decimal (size % 10)))) in stops_numeral text r ≡ true
    → pieces (at_depth depth) (text ++ r) ≡ Ok (T_NUMBER, text) ∷ pieces (at_depth depth) r
seconds_joins depth size r low =
    point_joins depth (decimal (size / 1000)) (decimal (size / 100 % 10) ++ (decimal (size / 10 % 10) ++ decimal (size % 10))) r (decimal_is (size / 1000) (omega arith))
    (digits_then (decimal (size / 100 % 10)) (decimal (size / 10 % 10) ++ decimal (size % 10)) (decimal_is (size / 100 % 10) (omega arith))
    (digits_then (decimal (size / 10 % 10)) (decimal (size % 10)) (decimal_is (size / 10 % 10) (omega arith)) (decimal_is (size % 10) (omega arith))))

-- milliseconds of no more than 64 bits
at_time_lex : (depth : ℕ) (t : ℤ) → unsigned_abs t < 2 ^ 64 → LexesBefore is_clear (at_depth depth) (at_depth depth) (postfix_line (part.at_number (printed.sign (is_negative t)) (seconds_text t)))
unfolding seconds_text
at_time_lex depth t low =
    let o = at_depth depth in
    let number = token (word kind.Number (seconds_text t)) ∷ [] in
    at_then is_clear depth (signed_line (printed.sign (is_negative t)) ++ number)
    (signed_before is_clear depth (is_negative t) number
    (last_before is_clear o o (word kind.Number (seconds_text t)) (λ r clear. record { id = T_NUMBER; is = refl; reads = seconds_joins depth (unsigned_abs t) r low (clear_stops (seconds_text t) r clear) })))

-- ---- a time that reads back has no more than 64 bits

minus_size : (k : ℕ) → unsigned_abs (neg_ℤ (pos k)) ≡ k
minus_size zero = refl
minus_size (suc k) = refl

within_size : (b : Bool) (k : ℕ) (t : ℤ) → within_i64 b k ≡ Some t → unsigned_abs t < 2 ^ 64
within_size true k t e = go (nat_le k (2 ^ 63)) refl e
  where
    go : (x : Bool) → nat_le k (2 ^ 63) ≡ x → cond x (Some (neg_ℤ (pos k))) None ≡ Some t → unsigned_abs t < 2 ^ 64
    go true is e =
        let same : neg_ℤ (pos k) ≡ t = cc in
        let low : k ≤ 2 ^ 63 = grind (arith, nat_tests) in
        subst (λ z. unsigned_abs z < 2 ^ 64) same (subst (λ n. n < 2 ^ 64) (sym (minus_size k)) (omega arith))
    go false is e = cc
within_size false k t e = go (nat_le k (2 ^ 63 - 1)) refl e
  where
    go : (x : Bool) → nat_le k (2 ^ 63 - 1) ≡ x → cond x (Some (pos k)) None ≡ Some t → unsigned_abs t < 2 ^ 64
    go true is e =
        let same : pos k ≡ t = cc in
        let low : k ≤ 2 ^ 63 - 1 = grind (arith, nat_tests) in
        let size : unsigned_abs (pos k) < 2 ^ 64 = (let h : k < 2 ^ 64 = omega arith in h) in
        subst (λ z. unsigned_abs z < 2 ^ 64) same size
    go false is e = cc

millis_size : (n : Number) (t : ℤ) → to_millis n ≡ Some t → unsigned_abs t < 2 ^ 64
millis_size (Finite d) t e = within_size d.is_negative (millis d) t e
millis_size Inf t e = cc
millis_size NegInf t e = cc
millis_size NaN t e = cc

moment_size : (t : ℤ) → IsMoment (at_time t) → unsigned_abs t < 2 ^ 64
moment_size t e =
    let step = then_steps (signed_number (printed.sign (is_negative t)) (seconds_text t)) (λ n. at_fault (at_of_number n)) (at_time t) e in
    go step.value (to_millis step.value) refl step.leads
  where
    go : (n : Number) (o : Option ℤ) → to_millis n ≡ o → at_fault (at_of_millis n o) ≡ Ok (at_time t) → unsigned_abs t < 2 ^ 64
    go n (Some u) is e = let same : at_time u ≡ at_time t = same_ok _ _ _ _ refl refl e in let equal : u ≡ t = cc in subst (λ z. unsigned_abs z < 2 ^ 64) equal (millis_size n u is)
    go n None is e = cc

-- ---- times and offsets

pub moment_lex : (depth : ℕ) (m : Moment) → IsMoment m → LexesBefore is_clear (at_depth depth) (at_depth depth) (postfix_line (moment m))
moment_lex depth at_start is = bound_lex depth T_START true (codes "start") refl start_id refl
moment_lex depth at_end is = bound_lex depth T_END false (codes "end") refl end_id refl
moment_lex depth (at_time t) is = at_time_lex depth t (moment_size t is)

pub shift_lex : (depth : ℕ) (s : Shift) → IsShift (Some s) → LexesBefore is_clear (at_depth depth) (at_depth depth) (postfix_line (shift s))
shift_lex depth (back n) is = offset_lex depth n false is
shift_lex depth (ahead n) is = offset_lex depth n true is
