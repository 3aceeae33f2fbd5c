-- The tokens of any text begin and end between characters.
use Rattle.std.proofs.Common.{◌≡◌, ℕ, suc, ◌+◌, ◌<◌, ◌≤◌, Bool, true, false, List, [], ◌∷◌, length, drop, IsUtf8, Ok, Err, refl, sym, ap, ◌∙◌, subst, inl, inr, ⊎_elim, arith, length-drop, get_or-drop}
use Rattle.std.specs.Prelude.{◌==◌, not, ◌&&◌, nat_lt}
use Rattle.std.specs.Char.{is_ascii_whitespace}
use Rattle.std.specs.List.{All, prefix_len}
use Rattle.std.specs.Str.{IsCharBoundary}
use Rattle.std.proofs.lemmas.Bool.{cond_both}
use Rattle.std.proofs.lemmas.Grind.{common_steps}
use Rattle.std.proofs.lemmas.List.{drop-drop}
use Rattle.std.proofs.lemmas.List.Elements.{All-cons, All-nil}
use Rattle.std.proofs.lemmas.List.Sums.{prefix_len_stops, prefix_len-le-length}
use Rattle.std.proofs.lemmas.Str.{IsCharBoundary-before_ascii, IsCharBoundary-end, IsCharBoundary-start}
use Rattle.std.proofs.str.Laws.{order}
use Rattle.promql_token.specs.declared.class.Class.TheVariants as class
use Rattle.promql_token.specs.declared.lexeme.Lexeme.{Lexeme}
use Rattle.promql_token.specs.declared.state.State.{State}
use Rattle.promql_text.specs.Texts.{Text}
use Rattle.promql_token.specs.Classes.{end_of_run, is_in}
use Rattle.promql_token.specs.Lexing.{start}
use Rattle.promql_token.specs.TextTokens as spec
use Rattle.promql_token.specs.TokenScanning.{Scanned, after, is_line_end, is_quote, scan_token}
use Rattle.promql_token.specs.Trivia.{IsPlaced}
use Rattle.promql_token.specs.Vocabulary.{next}
use Rattle.promql_token.proofs.one_reading.Ends.{PieceEnds, piece_ends}
use Rattle.promql_token.proofs.one_reading.Items.{ends_at}
use Rattle.promql_token.proofs.one_reading.Places.{Ends, ends_cons, front, no_run, past_run, run_ends}

-- ---- a run that an ASCII byte or the end stops

stops_between : (p : ℕ → Bool) → ((b : ℕ) → p b ≡ false → b < 128) → (s : Text) (at : ℕ) → at ≤ length s → IsCharBoundary s (at + prefix_len p (drop at s))
stops_between p low s at within =
    let n = prefix_len p (drop at s) in
    ⊎_elim
    (λ (below : at + n < length s).
    let stop = prefix_len_stops p (drop at s) 0 (omega (arith, length-drop at s)) in
    IsCharBoundary-before_ascii s (at + n) below (low _ (ap p (sym (get_or-drop at s n 0)) ∙ stop)))
    (λ (past : length s ≤ at + n).
    let end : length s ≡ at + n = omega (arith, prefix_len-le-length p (drop at s), length-drop at s) in
    subst (IsCharBoundary s) end (IsCharBoundary-end s))
    (order (at + n) (length s))

line_end_is_low : (b : ℕ) → not (is_line_end b) ≡ false → b < 128
line_end_is_low b h = grind (arith, common_steps)

low_if_not_beyond : (b : ℕ) → nat_lt 127 b ≡ false → b < 128
low_if_not_beyond b h = grind (arith, common_steps)

-- ---- a string that is none

some_past_quote : (quote : ℕ) (taken : Bool) (z : Text) → spec.past_quote quote taken z ≡ 0 → length z ≡ 0
some_past_quote quote taken [] none = refl
some_past_quote quote true (b ∷ z) none = absurd (omega arith)
some_past_quote quote false (b ∷ z) none =
    absurd (cond_both (b == quote) _ _ (λ n. n ≡ 0 → ⊥) (λ _ (e : 1 ≡ 0). absurd (omega arith)) (λ _ e. absurd (omega arith)) none)

past_quote_ends : (quote : ℕ) (taken : Bool) (z : Text) → quote < 128 → Ends z (spec.past_quote quote taken z)
past_quote_ends quote taken [] low = front []
past_quote_ends quote true (b ∷ z) low = ends_cons b z _ (past_quote_ends quote false z low) (λ none. inl (some_past_quote quote false z none))
past_quote_ends quote false (b ∷ z) low =
    cond_both (b == quote) _ _ (Ends (b ∷ z))
    (λ is. let b_low : b < 128 = grind (arith, common_steps, low) in ends_cons b z 0 (front z) (λ _. inr b_low))
    (λ _. ends_cons b z _ (past_quote_ends quote _ z low) (λ none. inl (some_past_quote quote _ z none)))

quote_is_low : (b : ℕ) → is_quote b ≡ true → b < 128
quote_is_low b h = grind (arith, common_steps)

string_ends : (z : Text) → 0 < length z → is_quote (next z) ≡ true → Ends z (1 + spec.past_quote (next z) false (drop 1 z))
string_ends [] some quote = absurd (omega arith)
string_ends (b ∷ z) some quote =
    let low = quote_is_low b quote in
    let one : 1 + spec.past_quote b false z ≡ suc (spec.past_quote b false z) = omega arith in
    subst (Ends (b ∷ z)) (sym one) (ends_cons b z _ (past_quote_ends b false z low) (λ _. inr low))

-- ---- what a token, a comment or an error ends

error_between : (s : Text) (at : ℕ) → IsUtf8 s → IsCharBoundary s at → at < length s → IsCharBoundary s (at + spec.error_len (drop at s))
error_between s at utf8 here below =
    let z = drop at s in
    let some : 0 < length z = omega (arith, below, length-drop at s) in
    cond_both (is_quote (next z)) _ _ (λ n. IsCharBoundary s (at + n)) (λ quote. ends_at s at _ utf8 here (string_ends z some quote)) (λ _.
    cond_both (is_in class.Name (next z)) _ _ (λ n. IsCharBoundary s (at + n)) (λ _. ends_at s at _ utf8 here (run_ends z _ (past_run class.Name z 0 (no_run z)))) (λ _.
    let n = prefix_len (λ b. nat_lt 127 b) (drop 1 z) in
    let same : at + 1 + prefix_len (λ b. nat_lt 127 b) (drop (at + 1) s) ≡ at + (1 + n) = omega (arith, ap (prefix_len (λ b. nat_lt 127 b)) (drop-drop 1 at s)) in
    subst (IsCharBoundary s) same (stops_between (λ b. nat_lt 127 b) low_if_not_beyond s (at + 1) (omega (arith, below)))))

token_between : (s : Text) (at : ℕ) (state : State) (id len : ℕ) → IsUtf8 s → IsCharBoundary s at → at < length s → spec.front_token state (drop at s) ≡ (id, len) → IsCharBoundary s (at + len)
token_between s at state id len utf8 here below is =
    let z = drop at s in
    let len_is : (spec.front_token state z).1 ≡ len = ap (λ (t : ℕ × ℕ). t.1) is in
    subst (λ n. IsCharBoundary s (at + n)) len_is
    (cond_both ((next z == 35) && spec.has_comments state.mode) _ _ (λ (t : ℕ × ℕ). IsCharBoundary s (at + t.1))
    (λ _. stops_between (λ b. not (is_line_end b)) line_end_is_low s at (omega (arith, below)))
    (λ _. scanned_between (scan_token state z) (piece_ends state z)))
  where
    scanned_between : (p : Scanned) → PieceEnds (drop at s) p → IsCharBoundary s (at + (spec.token_or_error p (drop at s)).1)
    scanned_between (Ok t) ends = ends_at s at t.1 utf8 here ends.0
    scanned_between (Err f) ends = error_between s at utf8 here below

white_between : (s : Text) (at : ℕ) → IsUtf8 s → IsCharBoundary s at → IsCharBoundary s (end_of_run class.White s at)
white_between s at utf8 here =
    let z = drop at s in
    let run : end_of_run class.White z 0 ≡ prefix_len is_ascii_whitespace z = omega arith in
    ends_at s at (prefix_len is_ascii_whitespace z) utf8 here (subst (Ends z) run (run_ends z _ (past_run class.White z 0 (no_run z))))

pub text_tokens_are_placed : (s : Text) (state : State) (at : ℕ) (xs : List Lexeme) → IsUtf8 s → IsCharBoundary s at → spec.AreTokens s state at xs → All (IsPlaced s) xs
text_tokens_are_placed s state at [] utf8 here all = All-nil (IsPlaced s)
text_tokens_are_placed s state at (x ∷ xs) utf8 here all =
    let begins : IsCharBoundary s x.start = subst (IsCharBoundary s) (sym all.0.0) (white_between s at utf8 here) in
    let ends = token_between s x.start _ x.id x.len utf8 begins all.0.1 all.0.2 in
    All-cons (IsPlaced s) x xs (begins, ends) (text_tokens_are_placed s (after state x.id) (x.start + x.len) xs utf8 ends all.1)

pub placed : (s : Text) (xs : List Lexeme) → IsUtf8 s → spec.AreTextTokens s xs → All (IsPlaced s) xs
placed s xs utf8 all = text_tokens_are_placed s start 0 xs utf8 (IsCharBoundary-start s utf8) all
