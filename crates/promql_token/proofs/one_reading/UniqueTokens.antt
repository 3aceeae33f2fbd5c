-- The cut, told by the tokens before each place; and its last token.
use Rattle.std.proofs.Common.{◌≡◌, ℕ, suc, ◌+◌, ◌-◌, ◌<◌, Bool, true, false, cond, List, [], ◌∷◌, length, take, drop, Option, Some, None, Ok, Err, refl, sym, ap, ◌∙◌, subst, inl, inr, ◌⊎◌, ⊎_elim, arith, eqb-true}
use Rattle.std.specs.Prelude.{◌==◌, not, ◌||◌}
use Rattle.std.specs.List.{find, list_any, prefix_len}
use Rattle.std.proofs.lemmas.Bool.{cond_both}
use Rattle.std.proofs.lemmas.Grind.{common_steps}
use Rattle.promql_token.specs.declared.fault.LexFaultKind.TheVariants.{UnclosedParen}
use Rattle.promql_token.specs.declared.state.Bracket.TheVariants as bracket
use Rattle.promql_token.specs.declared.state.Mode.{Mode}
use Rattle.promql_token.specs.declared.state.Mode.TheVariants as mode
use Rattle.promql_token.specs.declared.state.State.{State}
use Rattle.promql_text.specs.Texts.{Text}
use Rattle.promql_token.specs.Cut.{count_of, is_bound, mode_by, mode_at, state_at, ids_after}
use Rattle.promql_token.specs.Lexing.{ScannedText, found, scanned_text, state_after_scan, start}
use Rattle.promql_token.specs.TokenScanning.{Scanned, scan_in_mode, end_in, scan_token, after_trivia, after, depth_after, mode_after, mode_after_something, mode_after_colon, trivia_len}
use Rattle.promql_token.proofs.cursors.TestsAndCounts.{by_bool}
use Rattle.promql_token.proofs.one_reading.Inner.{Inner, begun_inner}
use Rattle.promql_token.specs.declared.ids.TheConstants.{T_COLON, T_EOF, T_LEFT_BRACE, T_LEFT_BRACKET, T_LEFT_PAREN, T_RIGHT_BRACE, T_RIGHT_BRACKET, T_RIGHT_PAREN, T_SPACE}

-- ---- the state of a place, by the tokens before it

pub record IsAt (before : List ℕ) (state : State) : Type 0 where
  pub depth : state.depth + count_of 18 before ≡ count_of 11 before
  pub mode : state.mode ≡ mode_at before

pub is_state : (before : List ℕ) (state : State) → IsAt before state → state ≡ state_at before
is_state before state h =
    let depth = h.depth in
    let d : state.depth ≡ count_of 11 before - count_of 18 before = omega arith in
    λ i. record { depth = d i; mode = h.mode i }

one_more : (n : ℕ) → (suc n == 0) ≡ false
one_more n = grind (arith, common_steps)

-- a token that is no brace, no bracket and no colon
moved_tests : (brace bracket_id any none more : Bool) → more ≡ false
    → mode_after_something (cond brace mode.Braces (cond bracket_id (mode.Brackets (cond any bracket.Colon (cond none bracket.Nothing bracket.Something))) mode.Outside))
    ≡ cond brace mode.Braces (cond bracket_id (mode.Brackets (cond any bracket.Colon (cond more bracket.Nothing bracket.Something))) mode.Outside)
moved_tests true bracket_id any none more apart = refl
moved_tests false false any none more apart = refl
moved_tests false true true none more apart = refl
moved_tests false true false true more apart = rw apart refl
moved_tests false true false false more apart = rw apart refl

moved_by : (o : Option ℕ) (id : ℕ) (since : List ℕ) → (id == T_COLON) ≡ false → mode_after_something (mode_by o since) ≡ mode_by o (id ∷ since)
moved_by None id since apart = refl
moved_by (Some k) id since apart =
    moved_tests (k == 9) (k == 10) (list_any (λ k. k == 2) since) (length since == 0) (suc (length since) == 0) (one_more (length since))
    ∙ ap (λ c. cond (k == 9) mode.Braces (cond (k == 10) (mode.Brackets (cond (c || list_any (λ k. k == 2) since) bracket.Colon (cond (suc (length since) == 0) bracket.Nothing bracket.Something))) mode.Outside)) (sym apart)

-- a trivia that is not empty is as a space
pub trivia_at : (before : List ℕ) (g : Text) → after_trivia (length g) (state_at before) ≡ state_at (cond (length g == 0) before (T_SPACE ∷ before))
unfolding after_trivia
trivia_at before g =
    let n : ℕ = prefix_len (λ id. not (is_bound id)) before in
    let one : 1 + n ≡ suc n = omega arith in
    let front : take (1 + n) (T_SPACE ∷ before) ≡ T_SPACE ∷ take n before = ap (λ k. take k (T_SPACE ∷ before)) one in
    let mode_is : mode_after_something (mode_at before) ≡ mode_at (T_SPACE ∷ before) = moved_by (find is_bound before) T_SPACE (take n before) refl ∙ ap (mode_by (find is_bound before)) (sym front) in
    cond_both (length g == 0) before (T_SPACE ∷ before) (λ ids. cond (length g == 0) (state_at before) (record (state_at before) { mode = mode_after_something (mode_at before) }) ≡ state_at ids)
    (λ none. ap (λ b. cond b (state_at before) (record (state_at before) { mode = mode_after_something (mode_at before) })) none)
    (λ some. ap (λ b. cond b (state_at before) (record (state_at before) { mode = mode_after_something (mode_at before) })) some
    ∙ (λ i. record (state_at before) { mode = mode_is i }))

-- a colon
colon_tests : (brace bracket_id any none : Bool) (x : Mode)
    → mode_after_colon (cond brace mode.Braces (cond bracket_id (mode.Brackets (cond any bracket.Colon (cond none bracket.Nothing bracket.Something))) mode.Outside)) ≡ cond brace mode.Braces (cond bracket_id (mode.Brackets bracket.Colon) mode.Outside)
colon_tests true bracket_id any none x = refl
colon_tests false false any none x = refl
colon_tests false true true none x = refl
colon_tests false true false true x = refl
colon_tests false true false false x = refl

colon_by : (o : Option ℕ) (id : ℕ) (since : List ℕ) → (id == T_COLON) ≡ true → mode_after_colon (mode_by o since) ≡ mode_by o (id ∷ since)
colon_by None id since is = refl
colon_by (Some k) id since is =
    colon_tests (k == 9) (k == 10) (list_any (λ k. k == 2) since) (length since == 0) mode.Outside
    ∙ ap (λ c. cond (k == 9) mode.Braces (cond (k == 10) (mode.Brackets (cond (c || list_any (λ k. k == 2) since) bracket.Colon (cond (suc (length since) == 0) bracket.Nothing bracket.Something))) mode.Outside)) (sym is)

-- a brace or bracket
bound_tests : (left_brace right_brace left_bracket right_bracket : Bool) (x : Mode) → (((left_brace || right_brace) || left_bracket) || right_bracket) ≡ true
    → cond left_brace mode.Braces (cond left_bracket (mode.Brackets bracket.Nothing) (cond (right_brace || right_bracket) mode.Outside x)) ≡ cond left_brace mode.Braces (cond left_bracket (mode.Brackets bracket.Nothing) mode.Outside)
bound_tests true b c d x h = refl
bound_tests false b true d x h = refl
bound_tests false true false d x h = refl
bound_tests false false false true x h = refl
bound_tests false false false false x h = absurd (cc)

plain_tests : (left_brace right_brace left_bracket right_bracket : Bool) (x : Mode) → (((left_brace || right_brace) || left_bracket) || right_bracket) ≡ false
    → cond left_brace mode.Braces (cond left_bracket (mode.Brackets bracket.Nothing) (cond (right_brace || right_bracket) mode.Outside x)) ≡ x
plain_tests true b c d x h = absurd (cc)
plain_tests false true c d x h = absurd (cc)
plain_tests false false true d x h = absurd (cc)
plain_tests false false false true x h = absurd (cc)
plain_tests false false false false x h = refl

mode_step : (before : List ℕ) (id : ℕ) → mode_after (mode_at before) id ≡ mode_at (id ∷ before)
mode_step before id =
    let o = find is_bound before in
    let n = prefix_len (λ id. not (is_bound id)) before in
    let since : List ℕ = take n before in
    let m = mode_at before in
    let other : Mode = cond (id == T_COLON) (mode_after_colon m) (mode_after_something m) in
    let at : Bool → Mode = λ c. mode_by (cond c (Some id) o) (take (cond (not c) (1 + n) 0) (id ∷ before)) in
    by_bool (is_bound id)
    (λ is. bound_tests (id == T_LEFT_BRACE) (id == T_RIGHT_BRACE) (id == T_LEFT_BRACKET) (id == T_RIGHT_BRACKET) other is ∙ sym (ap at is))
    (λ apart.
    let front : take (1 + n) (id ∷ before) ≡ id ∷ since = let e : 1 + n ≡ suc n = omega arith in ap (λ k. take k (id ∷ before)) e in
    plain_tests (id == T_LEFT_BRACE) (id == T_RIGHT_BRACE) (id == T_LEFT_BRACKET) (id == T_RIGHT_BRACKET) other apart
    ∙ by_bool (id == T_COLON) (λ is. ap (λ c. cond c (mode_after_colon m) (mode_after_something m)) is ∙ colon_by o id since is) (λ not_colon. ap (λ c. cond c (mode_after_colon m) (mode_after_something m)) not_colon ∙ moved_by o id since not_colon)
    ∙ ap (mode_by o) (sym front) ∙ sym (ap at apart))

depth_tests : (left right : Bool) (depth lefts rights : ℕ) → (left ≡ true → right ≡ false) → depth + rights ≡ lefts → (right ≡ true → 0 < depth)
    → cond left (depth + 1) (cond right (depth - 1) depth) + cond right (suc rights) rights ≡ cond left (suc lefts) lefts
depth_tests true true depth lefts rights apart h some = let never = apart refl in absurd (cc)
depth_tests true false depth lefts rights apart h some = omega arith
depth_tests false true depth lefts rights apart h some = omega (arith, some refl)
depth_tests false false depth lefts rights apart h some = omega arith

depth_step : (before : List ℕ) (id depth : ℕ) → depth + count_of 18 before ≡ count_of 11 before → ((id == T_RIGHT_PAREN) ≡ true → 0 < depth)
    → depth_after depth id + count_of 18 (id ∷ before) ≡ count_of 11 (id ∷ before)
depth_step before id depth h some = depth_tests (id == T_LEFT_PAREN) (id == T_RIGHT_PAREN) depth (count_of 11 before) (count_of 18 before) (λ e. ap (λ n. n == 18) (eqb-true id T_LEFT_PAREN e)) h some

-- ---- the cut

-- `)` is where a parenthesis is open
piece_text_inner : (depth : ℕ) (p : Scanned) (z : Text) (id : ℕ) (t : Text) → Inner depth p → scanned_text p z ≡ Ok (id, t) → ((id == T_EOF) ≡ false) × ((id == T_RIGHT_PAREN) ≡ true → 0 < depth)
piece_text_inner depth (Ok q) z id t h is =
    let pair : ◌≡◌ {A = ℕ × Text} (q.0, take q.1 z) (id, t) = cc in
    subst (λ i. ((i == 6) ≡ false) × ((i == 18) ≡ true → 0 < depth)) (ap (λ (p : ℕ × Text). p.0) pair) h
piece_text_inner depth (Err f) z id t h is = cc

-- at the end of a text is T_EOF or a fault
end_piece_text : (m : Mode) (depth id : ℕ) (t : Text) → scanned_text (end_in m depth) [] ≡ Ok (id, t) → ((id == T_EOF) ≡ true) × (t ≡ [])
end_piece_text mode.Outside depth id t = λ is.
    cond_both (depth == 0) (Ok (T_EOF, 0)) (Err (UnclosedParen, 0)) (λ (p : Scanned). scanned_text p [] ≡ Ok (id, t) → ((id == T_EOF) ≡ true) × (t ≡ []))
    (λ _ is. let pair : ◌≡◌ {A = ℕ × Text} (6, []) (id, t) = cc in (ap (λ (p : ℕ × Text). p.0 == 6) (sym pair), ap (λ (p : ℕ × Text). p.1) (sym pair)))
    (λ _ is. cc) is
end_piece_text mode.Braces depth id t = λ is. cc
end_piece_text (mode.Brackets inside) depth id t = λ is. cc

-- a token with no trivia before it is the end, or none of those
abbrev IsEnd : Text → ℕ → Text → Type 0
IsEnd z id t = (z ≡ []) × ((id == T_EOF) ≡ true) × (t ≡ [])

front_inner : (state : State) (z : Text) (id : ℕ) (t : Text) → scanned_text (scan_token state z) z ≡ Ok (id, t) → IsEnd z id t ⊎ (((id == T_EOF) ≡ false) × ((id == T_RIGHT_PAREN) ≡ true → 0 < state.depth))
unfolding scan_token
front_inner state [] id t is = let e = end_piece_text state.mode state.depth id t is in inl (refl, e.0, e.1)
front_inner state (b ∷ z) id t is = inr (piece_text_inner state.depth (scan_in_mode state.mode state.depth (b ∷ z)) (b ∷ z) id t (begun_inner state.mode state.depth (b ∷ z)) is)

trivia_depth : (n : ℕ) (state : State) → (after_trivia n state).depth ≡ state.depth
unfolding after_trivia
trivia_depth n state = cond_both (n == 0) _ _ (λ (s : State). s.depth ≡ state.depth) (λ _. refl) (λ _. refl)

not_true : (b : Bool) → not b ≡ true → b ≡ false
not_true true h = sym h
not_true false h = refl

closes_open : (state : State) (z : Text) (id : ℕ) (t : Text) → (found state z).scanned_text ≡ Ok (id, t) → (id == T_RIGHT_PAREN) ≡ true → 0 < state.depth
unfolding found
closes_open state z id t is close =
    let n = trivia_len state.mode z in
    ⊎_elim (λ e. let six = eqb-true id T_EOF e.1 in let eighteen = eqb-true id T_RIGHT_PAREN close in absurd (omega arith))
    (λ inner. subst (λ d. 0 < d) (trivia_depth n state) (inner.1 close))
    (front_inner (after_trivia n state) (drop n z) id t is)

pub next_at : (before : List ℕ) (state : State) (z : Text) (w : ScannedText) → IsAt before state → (found state z).scanned_text ≡ w → IsAt (ids_after before w) (state_after_scan state w)
unfolding after
next_at before state z (Ok t) h is = record {
  depth = depth_step before t.0 state.depth h.depth (closes_open state z t.0 t.1 is);
  mode = ap (λ m. mode_after m t.0) h.mode ∙ mode_step before t.0;
}
next_at before state z (Err f) h is = record { depth = h.depth; mode = h.mode }

-- what a place's first reading is, and what is after it
pub at_start : IsAt [] start
at_start = record { depth = refl; mode = refl }
