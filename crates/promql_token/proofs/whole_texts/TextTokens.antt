-- The tokens of any text are those of its token list, with comments among them.
use Rattle.std.proofs.Common.{◌≡◌, ℕ, suc, ◌+◌, ◌-◌, ◌<◌, ◌≤◌, true, false, cond, List, [], ◌∷◌, ◌++◌, length, get_or, take, drop, Result, Ok, Err, Bool, refl, sym, ap, ◌∙◌, subst, zero-add, add-zero, arith, length-drop, length-take-le, get_or-drop, ⊎_elim}
use Rattle.std.specs.Prelude.{◌==◌, not, ◌&&◌}
use Rattle.std.specs.Char.{is_ascii_whitespace}
use Rattle.std.specs.List.{prefix_len}
use Rattle.std.specs.Result.{ok_prefix}
use Rattle.std.proofs.lemmas.Bool.{cond_both}
use Rattle.std.proofs.lemmas.Grind.{common_steps}
use Rattle.std.proofs.lemmas.List.{drop-drop, drop_all, get_or_past}
use Rattle.std.proofs.lemmas.List.Sums.{prefix_len_stops}
use Rattle.std.proofs.str.Laws.{order}
use Rattle.promql_token.specs.declared.fault.LexFault.{LexFault}
use Rattle.promql_token.specs.declared.ids.TheConstants.{T_COMMENT, T_EOF}
use Rattle.promql_token.specs.declared.lexeme.Lexeme.{Lexeme}
use Rattle.promql_token.specs.declared.state.Mode.{Mode}
use Rattle.promql_token.specs.declared.state.Mode.TheVariants as mode
use Rattle.promql_token.specs.declared.state.Bracket.TheVariants as bracket
use Rattle.promql_token.specs.declared.state.State.{State}
use Rattle.promql_text.specs.Texts.{Text}
use Rattle.promql_token.specs.Lexing.{Found, ScannedText, collect_items, cut, first, found, goes_on, item, items, lex, place_items, scanned_text, start}
use Rattle.promql_token.specs.TextTokens as spec
use Rattle.promql_token.specs.TokenScanning.{Scanned, after, after_trivia, in_brackets, mode_after_something, scan_in_mode, scan_token, trivia_from, trivia_len}
use Rattle.promql_token.specs.Vocabulary.{next}
use Rattle.promql_token.proofs.cursors.TestsAndCounts.{by_bool}
use Rattle.promql_token.proofs.one_reading.CutSteps.{cut_stops, end_stops}
use Rattle.promql_token.proofs.one_reading.Ends.{and_left, and_right}
use Rattle.promql_token.proofs.one_reading.Items.{left_token}
use Rattle.promql_token.proofs.one_reading.Spans.{front_ok}
use Rattle.promql_token.proofs.whole_texts.CommentSteps.{comment_front, items_past, white_front}
use Rattle.promql_token.proofs.whole_texts.TokenLengths.{token_is_not_end, token_length}

-- ---- what is said of the tokens that are left

record Agree (s : Text) (rs : List (Result Lexeme LexFault)) (xs : List Lexeme) : Type 0 where
  rest : List Lexeme
  front : spec.without_comments s xs ≡ spec.before_end (ok_prefix rs) ++ rest
  whole : (ts : List Lexeme) → collect_items rs ≡ Ok ts → spec.without_comments s xs ≡ spec.before_end ts

comment_agrees : (s : Text) (rs : List (Result Lexeme LexFault)) (x : Lexeme) (xs : List Lexeme) → spec.is_comment s x ≡ true → Agree s rs xs → Agree s rs (x ∷ xs)
comment_agrees s rs x xs is more =
    let same : spec.without_comments s (x ∷ xs) ≡ spec.without_comments s xs = ap (λ b. cond (not b) (x ∷ spec.without_comments s xs) (spec.without_comments s xs)) is in
    record { rest = more.rest; front = same ∙ more.front; whole = λ ts all. same ∙ more.whole ts all }

token_agrees : (s : Text) (rs : List (Result Lexeme LexFault)) (x : Lexeme) (xs : List Lexeme) → spec.is_comment s x ≡ false → (x.id == T_EOF) ≡ false → Agree s rs xs → Agree s (Ok x ∷ rs) (x ∷ xs)
token_agrees s rs x xs no_comment no_end more =
    let own : spec.without_comments s (x ∷ xs) ≡ x ∷ spec.without_comments s xs = ap (λ b. cond (not b) (x ∷ spec.without_comments s xs) (spec.without_comments s xs)) no_comment in
    let kept : (ys : List Lexeme) → spec.before_end (x ∷ ys) ≡ x ∷ spec.before_end ys = λ ys. ap (λ b. cond (not b) (x ∷ spec.before_end ys) (spec.before_end ys)) no_end in
    record {
      rest = more.rest;
      front = own ∙ ap (λ ys. x ∷ ys) more.front ∙ sym (ap (λ ys. ys ++ more.rest) (kept (ok_prefix rs)));
      whole = λ ts all. let split = front_ok x (collect_items rs) ts all in own ∙ ap (λ ys. x ∷ ys) (more.whole split.0 split.1) ∙ sym (kept split.0) ∙ ap spec.before_end split.2;
    }

fault_agrees : (s : Text) (at : ℕ) (w : ScannedText) (xs : List Lexeme) (e : LexFault) → item at w ≡ Err e → Agree s (item at w ∷ []) xs
fault_agrees s at w xs e is = subst (λ r. Agree s (r ∷ []) xs) (sym is) (record { rest = spec.without_comments s xs; front = refl; whole = λ ts all. absurd (cc) })

end_agrees : (s : Text) (at : ℕ) (w : ScannedText) → goes_on w ≡ false → Agree s (item at w ∷ []) []
end_agrees s at (Err f) stops = record { rest = []; front = refl; whole = λ ts all. absurd (cc) }
end_agrees s at (Ok t) stops =
    let x : Lexeme = record { id = t.0; start = at; len = length t.1 } in
    let end : (t.0 == T_EOF) ≡ true = is_true (t.0 == T_EOF) stops in
    let none : spec.before_end (x ∷ []) ≡ [] = ap (λ b. cond (not b) (x ∷ []) []) end in
    record { rest = []; front = sym (ap (λ ys. ys ++ []) none); whole = λ ts all. let same : x ∷ [] ≡ ts = ok_same (x ∷ []) ts all in sym none ∙ ap spec.before_end same }
  where
    is_true : (b : Bool) → not b ≡ false → b ≡ true
    is_true true h = refl
    is_true false h = sym h

    ok_same : (xs ts : List Lexeme) → ◌≡◌ {A = Result (List Lexeme) LexFault} (Ok xs) (Ok ts) → xs ≡ ts
    ok_same xs ts is = cc

-- ---- trivia

not_white : (z : Text) → is_ascii_whitespace (next (drop (prefix_len is_ascii_whitespace z) z)) ≡ false
not_white z =
    let n = prefix_len is_ascii_whitespace z in
    let byte : next (drop n z) ≡ get_or z n 0 = get_or-drop n z 0 0 ∙ ap (λ k. get_or z k 0) (add-zero n) in
    ap is_ascii_whitespace byte
    ∙ ⊎_elim (λ (below : n < length z). prefix_len_stops is_ascii_whitespace z 0 below) (λ (past : length z ≤ n). ap is_ascii_whitespace (get_or_past z n 0 past)) (order n (length z))

no_trivia : (z : Text) → is_ascii_whitespace (next z) ≡ false → (next z == 35) ≡ false → trivia_from false z ≡ 0
no_trivia [] white hash = refl
no_trivia (b ∷ z) white hash =
    ap (λ c. cond c (suc (trivia_from true z)) (cond (is_ascii_whitespace b) (suc (trivia_from false z)) 0)) hash ∙ ap (λ c. cond c (suc (trivia_from false z)) 0) white

outside_trivia : (z : Text) → (next (drop (prefix_len is_ascii_whitespace z) z) == 35) ≡ false → trivia_from false z ≡ prefix_len is_ascii_whitespace z
outside_trivia z hash =
    let n = prefix_len is_ascii_whitespace z in
    white_front z ∙ ap (λ k. n + k) (no_trivia (drop n z) (not_white z) hash) ∙ add-zero n

no_hash : (b : Bool) → (b && true) ≡ false → b ≡ false
no_hash true h = h
no_hash false h = refl

-- white space is all of the trivia where no comment comes after it
white_is_trivia : (m : Mode) (z : Text) → (next (drop (prefix_len is_ascii_whitespace z) z) == 35) && spec.has_comments m ≡ false → trivia_len m z ≡ prefix_len is_ascii_whitespace z
unfolding trivia_len
white_is_trivia mode.Outside z none = outside_trivia z (no_hash _ none)
white_is_trivia mode.Braces z none = outside_trivia z (no_hash _ none)
white_is_trivia (mode.Brackets inside) z none = zero-add (prefix_len is_ascii_whitespace z)

-- ---- the tokens that are left

abbrev Agrees : Text → State → ℕ → List Lexeme → Type 0
Agrees s state at xs = Agree s (place_items at (cut state (drop at s))) xs

has_comments_after : (n : ℕ) (state : State) → spec.has_comments (after_trivia n state).mode ≡ spec.has_comments state.mode
unfolding after_trivia
has_comments_after n state = cond_both (n == 0) _ _ (λ (st : State). spec.has_comments st.mode ≡ spec.has_comments state.mode) (λ _. refl) (λ _. later state.mode)
  where
    later : (m : Mode) → spec.has_comments (mode_after_something m) ≡ spec.has_comments m
    later mode.Outside = refl
    later mode.Braces = refl
    later (mode.Brackets bracket.Nothing) = refl
    later (mode.Brackets bracket.Something) = refl
    later (mode.Brackets bracket.Colon) = refl

-- where there are comments, they leave the state as it is
same_mode : (m : Mode) → spec.has_comments m ≡ true → mode_after_something m ≡ m
same_mode mode.Outside has = refl
same_mode mode.Braces has = refl
same_mode (mode.Brackets inside) has = absurd (cc)

same_after_comment : (state : State) → spec.has_comments state.mode ≡ true → state ≡ after state T_COMMENT
unfolding after
same_after_comment state has = λ i. record { depth = state.depth; mode = (sym (same_mode state.mode has)) i }

same_trivia : (m : Mode) → spec.has_comments m ≡ true → (z z2 : Text) (k : ℕ) → trivia_from false z ≡ k + trivia_from false z2 → trivia_len m z ≡ k + trivia_len m z2
unfolding trivia_len
same_trivia mode.Outside has z z2 k is = is
same_trivia mode.Braces has z z2 k is = is
same_trivia (mode.Brackets inside) has z z2 k is = absurd (cc)

-- where there are none, nothing begins with `#`
no_hash_token : (m : Mode) (depth : ℕ) (z : Text) (t : ℕ × ℕ) → spec.has_comments m ≡ false → (next z == 35) ≡ true → scan_in_mode m depth z ≡ Ok t → ⊥
unfolding in_brackets
no_hash_token mode.Outside depth z t has hash is = absurd (cc)
no_hash_token mode.Braces depth z t has hash is = absurd (cc)
no_hash_token (mode.Brackets inside) depth [] t has hash is = absurd (cc)
no_hash_token (mode.Brackets inside) depth (b ∷ z) t has hash is =
    let b_is : b ≡ 35 = grind (arith, common_steps) in
    let fault : in_brackets inside (35 ∷ z) ≡ Ok t = subst (λ b. in_brackets inside (b ∷ z) ≡ Ok t) b_is is in
    absurd (cc)

hash_is_no_token : (state : State) (z : Text) (t : ℕ × ℕ) → 0 < length z → spec.has_comments state.mode ≡ false → (next z == 35) ≡ true → scan_token state z ≡ Ok t → ⊥
unfolding scan_token
hash_is_no_token state [] t some has hash is = absurd (omega arith)
hash_is_no_token state (b ∷ z) t some has hash is = no_hash_token state.mode state.depth (b ∷ z) t has hash is

-- nothing is left
end_is_left : (s : Text) (at : ℕ) (state : State) → spec.AreTokens s state at [] → goes_on (found state (drop at s)).scanned_text ≡ false
unfolding found scan_token
end_is_left s at state all =
    let z = drop at s in
    let n = prefix_len is_ascii_whitespace z in
    let rest : drop n z ≡ [] = drop-drop n at s ∙ ap (λ k. drop k s) all ∙ drop_all (length s) s (omega arith) in
    let trivia : trivia_len state.mode z ≡ n = white_is_trivia state.mode z (ap (λ r. (next r == 35) && spec.has_comments state.mode) rest) in
    ap (λ k. goes_on (scanned_text (scan_token (after_trivia k state) (drop k z)) (drop k z))) trivia
    ∙ ap (λ r. goes_on (scanned_text (scan_token (after_trivia n state) r) r)) rest
    ∙ end_stops (after_trivia n state).mode (after_trivia n state).depth

end_left_agrees : (s : Text) (at : ℕ) (state : State) → spec.AreTokens s state at [] → Agrees s state at []
end_left_agrees s at state all =
    let f = found state (drop at s) in
    let stops = end_is_left s at state all in
    subst (λ rs. Agree s rs []) (sym (ap (place_items at) (cut_stops state (drop at s) stops))) (end_agrees s (at + f.trivia) f.scanned_text stops)

-- a token in its place, after white space
record IsAt (s : Text) (state : State) (at : ℕ) (x : Lexeme) : Type 0 where
  start : x.start ≡ at + prefix_len is_ascii_whitespace (drop at s)
  some : 0 < length (drop x.start s)
  rest : drop (prefix_len is_ascii_whitespace (drop at s)) (drop at s) ≡ drop x.start s
  token : spec.front_token (after_trivia (prefix_len is_ascii_whitespace (drop at s)) state) (drop x.start s) ≡ (x.id, x.len)

is_at : (s : Text) (state : State) (at : ℕ) (x : Lexeme) → spec.IsNext s state at x → IsAt s state at x
is_at s state at x next_is =
    let n = prefix_len is_ascii_whitespace (drop at s) in
    let back : x.start - at ≡ n = omega (arith, next_is.0) in
    record {
      start = next_is.0;
      some = omega (arith, next_is.1, length-drop x.start s);
      rest = drop-drop n at s ∙ ap (λ k. drop k s) (sym next_is.0);
      token = ap (λ k. spec.front_token (after_trivia k state) (drop x.start s)) (sym back) ∙ next_is.2;
    }

byte_at : (s : Text) (at : ℕ) → next (drop at s) ≡ get_or s at 0
byte_at s at = get_or-drop at s 0 0 ∙ ap (λ k. get_or s k 0) (add-zero at)

-- ---- a comment

comment_token : (state : State) (at : ℕ) (s : Text) (x : Lexeme) → IsAt s state at x → (next (drop x.start s) == 35) ≡ true → spec.has_comments state.mode ≡ true
    → ◌≡◌ {A = ℕ × ℕ} (T_COMMENT, spec.line_len (drop x.start s)) (x.id, x.len)
comment_token state at s x here hash has =
    let n = prefix_len is_ascii_whitespace (drop at s) in
    let y = drop x.start s in
    let begins : ((next y == 35) && spec.has_comments (after_trivia n state).mode) ≡ true = (λ i. hash i && (has_comments_after n state ∙ has) i) in
    sym (ap (λ b. cond b (T_COMMENT, spec.line_len y) (spec.token_or_error (scan_token (after_trivia n state) y) y)) begins) ∙ here.token

comment_left_agrees : (s : Text) (state : State) (at : ℕ) (x : Lexeme) (xs : List Lexeme) → IsAt s state at x → Agrees s (after state x.id) (x.start + x.len) xs
    → (next (drop x.start s) == 35) ≡ true → spec.has_comments state.mode ≡ true → Agrees s state at (x ∷ xs)
comment_left_agrees s state at x xs here more hash has =
    let z = drop at s in
    let n = prefix_len is_ascii_whitespace z in
    let y = drop x.start s in
    let token = comment_token state at s x here hash has in
    let id : T_COMMENT ≡ x.id = ap (λ (t : ℕ × ℕ). t.0) token in
    let len : spec.line_len y ≡ x.len = ap (λ (t : ℕ × ℕ). t.1) token in
    let there : at + (n + x.len) ≡ x.start + x.len = omega (arith, here.start) in
    let after_it : drop (spec.line_len y) y ≡ drop (at + (n + x.len)) s = ap (λ k. drop k y) len ∙ drop-drop x.len x.start s ∙ ap (λ k. drop k s) (sym there) in
    let k = trivia_from false (drop (at + (n + x.len)) s) in
    let sum : n + (x.len + k) ≡ n + x.len + k = omega arith in
    let passed : trivia_from false z ≡ n + x.len + k =
    white_front z ∙ ap (λ r. n + trivia_from false r) here.rest ∙ ap (λ l. n + l) (comment_front y hash) ∙ (λ i. n + (len i + trivia_from false (after_it i))) ∙ sum in
    let trivia = same_trivia state.mode has z (drop (at + (n + x.len)) s) (n + x.len) passed in
    let same = same_after_comment state has ∙ ap (after state) id in
    let left : place_items at (cut state z) ≡ place_items (x.start + x.len) (cut (after state x.id) (drop (x.start + x.len) s)) =
    items_past s at (n + x.len) state (same_mode state.mode has) trivia ∙ (λ i. place_items (there i) (cut (same i) (drop (there i) s))) in
    comment_agrees s (place_items at (cut state z)) x xs (ap (λ b. b == 35) (sym (byte_at s x.start)) ∙ hash) (subst (λ rs. Agree s rs xs) (sym left) more)

-- ---- a token, or an error

begins_no_comment : (state : State) (at : ℕ) (s : Text) (x : Lexeme) → IsAt s state at x → ((next (drop x.start s) == 35) && spec.has_comments state.mode) ≡ false
    → spec.token_or_error (scan_token (after_trivia (prefix_len is_ascii_whitespace (drop at s)) state) (drop x.start s)) (drop x.start s) ≡ (x.id, x.len)
begins_no_comment state at s x here none =
    let n = prefix_len is_ascii_whitespace (drop at s) in
    let y = drop x.start s in
    let no : ((next y == 35) && spec.has_comments (after_trivia n state).mode) ≡ false = ap (λ b. (next y == 35) && b) (has_comments_after n state) ∙ none in
    sym (ap (λ b. cond b (T_COMMENT, spec.line_len y) (spec.token_or_error (scan_token (after_trivia n state) y) y)) no) ∙ here.token

found_after_white : (s : Text) (state : State) (at : ℕ) (x : Lexeme) → IsAt s state at x → ((next (drop x.start s) == 35) && spec.has_comments state.mode) ≡ false
    → let n = prefix_len is_ascii_whitespace (drop at s) in found state (drop at s) ≡ record { trivia = n; scanned_text = scanned_text (scan_token (after_trivia n state) (drop x.start s)) (drop x.start s) }
unfolding found
found_after_white s state at x here none =
    let z = drop at s in
    let n = prefix_len is_ascii_whitespace z in
    let trivia = white_is_trivia state.mode z (ap (λ r. (next r == 35) && spec.has_comments state.mode) here.rest ∙ none) in
    (λ i. record { trivia = trivia i; scanned_text = scanned_text (scan_token (after_trivia (trivia i) state) (drop (trivia i) z)) (drop (trivia i) z) })
    ∙ (λ i. record { trivia = n; scanned_text = scanned_text (scan_token (after_trivia n state) (here.rest i)) (here.rest i) })

no_comment_token : (s : Text) (state : State) (n : ℕ) (x : Lexeme) (t : ℕ × ℕ) → 0 < length (drop x.start s) → ((next (drop x.start s) == 35) && spec.has_comments state.mode) ≡ false
    → scan_token (after_trivia n state) (drop x.start s) ≡ Ok t → spec.is_comment s x ≡ false
no_comment_token s state n x t some none is =
    ap (λ b. b == 35) (sym (byte_at s x.start))
    ∙ by_bool (next (drop x.start s) == 35)
    (λ hash. let no : spec.has_comments state.mode ≡ false = ap (λ b. b && spec.has_comments state.mode) (sym hash) ∙ none in
    absurd (hash_is_no_token (after_trivia n state) (drop x.start s) t some (has_comments_after n state ∙ no) hash is))
    (λ no. no)

token_left_agrees : (s : Text) (state : State) (at : ℕ) (x : Lexeme) (xs : List Lexeme) → IsAt s state at x → Agrees s (after state x.id) (x.start + x.len) xs
    → ((next (drop x.start s) == 35) && spec.has_comments state.mode) ≡ false → Agrees s state at (x ∷ xs)
token_left_agrees s state at x xs here more none =
    by_scan (scan_token (after_trivia (prefix_len is_ascii_whitespace (drop at s)) state) (drop x.start s)) refl
  where
    by_scan : (p : Scanned) → scan_token (after_trivia (prefix_len is_ascii_whitespace (drop at s)) state) (drop x.start s) ≡ p → Agrees s state at (x ∷ xs)
    by_scan (Ok t) is =
        let z = drop at s in
        let n = prefix_len is_ascii_whitespace z in
        let y = drop x.start s in
        let token : t ≡ (x.id, x.len) = ap (λ p. spec.token_or_error p y) (sym is) ∙ begins_no_comment state at s x here none in
        let scanned : scan_token (after_trivia n state) y ≡ Ok (x.id, x.len) = is ∙ ap (λ t. Ok t) token in
        let fits = token_length (after_trivia n state) y x.id x.len here.some scanned in
        let place : at + n ≡ x.start = sym here.start in
        let len : length (take x.len y) ≡ x.len = length-take-le x.len y fits.1 in
        let item_is : first at (found state z) ≡ Ok x =
        ap (first at) (found_after_white s state at x here none) ∙ ap (λ p. item (at + n) (scanned_text p y)) scanned ∙ (λ i. Ok (record { id = x.id; start = place i; len = len i })) in
        let no_end = token_is_not_end (after_trivia n state) y x.id x.len here.some scanned in
        let left = left_token s at state x (sym item_is) (omega (arith, here.start)) (omega (arith, fits.1, here.some, length-drop x.start s)) (λ _. fits.0) in
        subst (λ rs. Agree s rs (x ∷ xs))
        (sym (left ∙ ap (λ b. Ok x ∷ cond b [] (place_items (x.start + x.len) (cut (after state x.id) (drop (x.start + x.len) s)))) no_end))
        (token_agrees s (place_items (x.start + x.len) (cut (after state x.id) (drop (x.start + x.len) s))) x xs (no_comment_token s state n x t here.some none is) no_end more)
    by_scan (Err f) is =
        let z = drop at s in
        let n = prefix_len is_ascii_whitespace z in
        let y = drop x.start s in
        let found_is = found_after_white s state at x here none ∙ ap (λ p. record { trivia = n; scanned_text = scanned_text p y }) is in
        let stops : goes_on (found state z).scanned_text ≡ false = ap (λ (g : Found). goes_on g.scanned_text) found_is in
        let fault = ap (λ (g : Found). item (at + g.trivia) g.scanned_text) found_is in
        let w = (found state z).scanned_text in
        subst (λ rs. Agree s rs (x ∷ xs)) (sym (ap (place_items at) (cut_stops state z stops))) (fault_agrees s (at + (found state z).trivia) w (x ∷ xs) _ fault)

agrees : (s : Text) (state : State) (at : ℕ) (xs : List Lexeme) → spec.AreTokens s state at xs → Agrees s state at xs
agrees s state at [] all = end_left_agrees s at state all
agrees s state at (x ∷ xs) all =
    let here = is_at s state at x all.0 in
    let more = agrees s (after state x.id) (x.start + x.len) xs all.1 in
    by_bool ((next (drop x.start s) == 35) && spec.has_comments state.mode) (λ both. comment_left_agrees s state at x xs here more (and_left _ _ both) (and_right _ _ both)) (λ none. token_left_agrees s state at x xs here more none)

pub text_tokens_front : (s : Text) (xs : List Lexeme) → spec.AreTextTokens s xs → (rest : List Lexeme) × (spec.without_comments s xs ≡ spec.before_end (ok_prefix (items s)) ++ rest)
text_tokens_front s xs all = let a = agrees s start 0 xs all in (a.rest, a.front)

pub text_tokens_whole : (s : Text) (xs ts : List Lexeme) → spec.AreTextTokens s xs → lex s ≡ Ok ts → spec.without_comments s xs ≡ spec.before_end ts
unfolding lex
text_tokens_whole s xs ts all is = (agrees s start 0 xs all).whole ts is
