-- The items of a text are the one way to read it.
use Rattle.std.proofs.Common.{◌≡◌, ℕ, zero, suc, ◌+◌, ◌≤◌, true, false, cond, List, [], ◌∷◌, ◌++◌, length, take, drop, map, Result, Ok, Err, refl, sym, ap, ◌∙◌, subst, inl, inr, ◌⊎◌, ⊎_elim, arith, length-drop, length-append, length-take-le, eqb-true, zero-add}
use Rattle.std.specs.Prelude.{◌==◌, ◌↔◌, not}
use Rattle.std.proofs.Math.Seq.{take-append_seam, drop-append_seam, take-length}
use Rattle.std.proofs.lemmas.Bool.{cond_both}
use Rattle.std.proofs.lemmas.List.{drop-drop, take-append-drop}
use Rattle.promql_token.specs.declared.fault.LexFault.{LexFault}
use Rattle.promql_token.specs.declared.fault.LexFaultKind.{LexFaultKind}
use Rattle.promql_token.specs.declared.lexeme.Lexeme.{Lexeme}
use Rattle.promql_token.specs.declared.state.Bracket.TheVariants as bracket
use Rattle.promql_token.specs.declared.state.Mode.{Mode}
use Rattle.promql_token.specs.declared.state.Mode.TheVariants as mode
use Rattle.promql_token.specs.declared.state.State.{State}
use Rattle.promql_text.specs.Texts.{Text}
use Rattle.promql_token.specs.Begins.{MayBegin}
use Rattle.promql_token.specs.Cut.{mode_at, state_at, ids_after}
use Rattle.promql_token.specs.FaultPlaces.{IsFault}
use Rattle.promql_token.specs.Trivia.{IsTriviaIn}
use Rattle.promql_token.specs.Lexing.{Found, ScannedText, state_after_scan, collect_items, cut, found, goes_on, items, len_of, lex, place_items, result_texts, fault_char, slice_texts, start, text_at, scanned_text, pieces, tokens, with_front}
use Rattle.promql_token.specs.TokenScanning.{Scanned, scan_token, after_trivia, after, end_in, trivia_len}
use Rattle.promql_token.specs.TokenLists.{Step, state_after, IsRead, IsEnd, EndsIn, places, to_end, IsLexed}
use Rattle.promql_token.proofs.beginnings.ScannedForms.{begins_piece, faults, piece_begins}
use Rattle.promql_token.proofs.cursors.TestsAndCounts.{by_bool}
use Rattle.promql_token.proofs.one_reading.Ends.{PieceEnds, piece_ends}
use Rattle.promql_token.proofs.beginnings.TriviaLengths.{trivia_passed, is_trivia}
use Rattle.promql_token.proofs.one_reading.Inner.{Inner, begun_inner}
use Rattle.promql_token.proofs.one_reading.Places.{trivia_len_ends}
use Rattle.promql_token.proofs.one_reading.Steps.{cut_is, pieces_are}
use Rattle.promql_token.proofs.one_reading.UniqueTokens.{IsAt, at_start, is_state, next_at, trivia_at}
use Rattle.promql_token.specs.declared.ids.TheConstants.{T_EOF}

-- ---- what is read

-- a text read from `at` on, in a state: to its end, or to a fault
abbrev IsTold : List ℕ → ℕ → Text → List (Result Lexeme LexFault) → Type 0
IsTold before at z rs =
    ((ts : List Step) × IsRead IsEnd before z ts × (rs ≡ map (λ x. Ok x) (places at ts ++ record { id = T_EOF; start = at + length z; len = 0 } ∷ [])))
    ⊎ ((f : LexFault) × (ts : List Step) × IsRead (EndsIn f (at + length z)) before z ts × (rs ≡ map (λ x. Ok x) (places at ts) ++ Err f ∷ []))

-- the state with a trivia, told by the tokens before it
trivia_state : (before : List ℕ) (state : State) (g : Text) (n : ℕ) → IsAt before state → n ≡ length g → after_trivia n state ≡ state_after before g
trivia_state before state g n h len = (λ i. after_trivia (len i) (is_state before state h i)) ∙ trivia_at before g

-- only outside, with nothing open, there is an end
end_state : (m : Mode) (depth : ℕ) (t : ℕ × ℕ) → end_in m depth ≡ Ok t → (m ≡ mode.Outside) × (depth ≡ 0)
end_state mode.Outside zero t is = (refl, refl)
end_state mode.Outside (suc depth) t is = cond_both (suc depth == 0) _ _ (λ p. p ≡ Ok t → (mode.Outside ≡ mode.Outside) × (suc depth ≡ 0)) (λ e is. (refl, eqb-true (suc depth) 0 e)) (λ _ is. cc) is
end_state mode.Braces depth t is = cc
end_state (mode.Brackets inside) depth t is = cc

record AtEnd (state : State) (z : Text) (t : ℕ × ℕ) : Type 0 where
  none : z ≡ []
  mode : state.mode ≡ mode.Outside
  depth : state.depth ≡ 0

at_end : (state : State) (z : Text) (t : ℕ × ℕ) → scan_token state z ≡ Ok t → (t.0 == T_EOF) ≡ true → AtEnd state z t
unfolding scan_token
at_end state [] t is six = let e = end_state state.mode state.depth t is in record { none = refl; mode = e.0; depth = e.1 }
at_end state (b ∷ y) t is six = let no = (subst (Inner state.depth) is (begun_inner state.mode state.depth (b ∷ y))).0 in absurd (cc)

-- a trivia makes nothing outside of brackets
outside_before : (n depth : ℕ) (m : Mode) → (after_trivia n (record { depth = depth; mode = m })).mode ≡ mode.Outside → m ≡ mode.Outside
unfolding after_trivia
outside_before n depth mode.Outside = λ is. refl
outside_before n depth mode.Braces = cond_both (n == 0) _ _ (λ (s : State). s.mode ≡ mode.Outside → mode.Braces ≡ mode.Outside) (λ _ is. is) (λ _ is. is)
outside_before n depth (mode.Brackets bracket.Nothing) =
    cond_both (n == 0) _ _ (λ (s : State). s.mode ≡ mode.Outside → mode.Brackets bracket.Nothing ≡ mode.Outside) (λ _ is. is) (λ _ is. cc)
outside_before n depth (mode.Brackets bracket.Something) =
    cond_both (n == 0) _ _ (λ (s : State). s.mode ≡ mode.Outside → mode.Brackets bracket.Something ≡ mode.Outside) (λ _ is. is) (λ _ is. is)
outside_before n depth (mode.Brackets bracket.Colon) =
    cond_both (n == 0) _ _ (λ (s : State). s.mode ≡ mode.Outside → mode.Brackets bracket.Colon ≡ mode.Outside) (λ _ is. is) (λ _ is. is)

trivia_depth : (n : ℕ) (state : State) → (after_trivia n state).depth ≡ state.depth
unfolding after_trivia
trivia_depth n state = cond_both (n == 0) _ _ (λ (s : State). s.depth ≡ state.depth) (λ _. refl) (λ _. refl)

-- what is after a trivia of n bytes, and the trivia
record AfterTrivia (before : List ℕ) (state : State) (z : Text) (n : ℕ) : Type 0 where
  at : IsAt before state
  fits : n ≤ length z
  trivia : IsTriviaIn (mode_at before) (take n z) (drop n z)

after_own_trivia : (before : List ℕ) (state : State) (z : Text) → IsAt before state → AfterTrivia before state z (trivia_len state.mode z)
after_own_trivia before state z h = record {
  at = h;
  fits = (trivia_len_ends state.mode z).within;
  trivia = subst (λ m. IsTriviaIn m (take (trivia_len state.mode z) z) (drop (trivia_len state.mode z) z)) h.mode (is_trivia state.mode z);
}

-- the end
told_end : (before : List ℕ) (state : State) (at : ℕ) (z : Text) (n : ℕ) (t : ℕ × ℕ) → AfterTrivia before state z n → scan_token (after_trivia n state) (drop n z) ≡ Ok t → (t.0 == T_EOF) ≡ true
    → IsTold before at z (Ok (record { id = t.0; start = at + n; len = length (take t.1 (drop n z)) }) ∷ [])
told_end before state at z n t k is six =
    let e = at_end (after_trivia n state) (drop n z) t is six in
    let fits = k.fits in
    let none = ap length e.none in
    let all : n ≡ length z = omega (arith, length-drop n z) in
    let whole : take n z ≡ z = ap (λ n. take n z) all ∙ take-length z in
    let m : mode_at before ≡ mode.Outside = sym k.at.mode ∙ outside_before n state.depth state.mode e.mode in
    let d : (state_at before).depth ≡ 0 = ap (λ s. s.depth) (sym (is_state before state k.at)) ∙ sym (trivia_depth n state) ∙ e.depth in
    let trivia : IsTriviaIn (mode_at before) z [] = subst (λ g. IsTriviaIn (mode_at before) g []) whole (subst (λ r. IsTriviaIn (mode_at before) (take n z) r) e.none k.trivia) in
    let empty : length (take t.1 (drop n z)) ≡ 0 = ap (λ r. length (take t.1 r)) e.none ∙ nil t.1 in
    inl ([], (trivia, m, d), λ i. Ok (record { id = eqb-true t.0 6 six i; start = at + all i; len = empty i }) ∷ [])
  where
    none_of : Text
    none_of = []

    nil : (k : ℕ) → length (take k none_of) ≡ 0
    nil zero = refl
    nil (suc k) = refl

-- a fault
told_fault : (before : List ℕ) (state : State) (at : ℕ) (z : Text) (n : ℕ) (f : LexFaultKind × ℕ) → AfterTrivia before state z n → scan_token (after_trivia n state) (drop n z) ≡ Err f
    → IsTold before at z (Err (record { kind = f.0; at = at + n + f.1; ch = fault_char f.0 (drop f.1 (drop n z)) }) ∷ [])
told_fault before state at z n f k is =
    let rest = drop n z in
    let u = take f.1 rest in
    let v = drop f.1 rest in
    let ends = subst (PieceEnds rest) is (piece_ends (after_trivia n state) rest) in
    let within : f.1 ≤ length rest = ends.within in
    let fits = k.fits in
    let len : f.1 ≡ length u = sym (length-take-le f.1 rest within) in
    let seam : rest ≡ u ++ v = sym (take-append-drop f.1 rest) in
    let s = after_trivia n state in
    let reads : scan_token s (u ++ v) ≡ Err (f.0, length u) = ap (scan_token s) (sym seam) ∙ is ∙ ap (λ n. Err (f.0, n)) len in
    let here = (faults s f.0 u v).0 reads in
    let g = take n z in
    let same : s ≡ state_after before g = trivia_state before state g n k.at (sym (length-take-le n z fits)) in
    let place : at + n + f.1 + length v ≡ at + length z = omega (arith, length-drop f.1 rest, length-drop n z) in
    let e : LexFault = record { kind = f.0; at = at + n + f.1; ch = fault_char f.0 v } in
    inr (
      e,
      [],
      (g, u, v, sym (take-append-drop n z) ∙ ap (λ r. g ++ r) seam, subst (IsTriviaIn (mode_at before) g) seam k.trivia, subst (λ (s : State). IsFault f.0 s.mode s.depth u v) same here, place, refl),
      refl,
    )

-- a token, and what is read after it
told_token : (before : List ℕ) (state : State) (at : ℕ) (z : Text) (n : ℕ) (t : ℕ × ℕ) (rs : List (Result Lexeme LexFault)) → AfterTrivia before state z n → scan_token (after_trivia n state) (drop n z) ≡ Ok t → (t.0 == T_EOF) ≡ false
    → let w = take t.1 (drop n z) in IsTold (t.0 ∷ before) (at + n + length w) (drop (n + length w) z) rs
    → IsTold before at z (Ok (record { id = t.0; start = at + n; len = length w }) ∷ rs)
told_token before state at z n t rs k is more rest_told =
    let rest = drop n z in
    let w = take t.1 rest in
    let r = drop t.1 rest in
    let ends = subst (PieceEnds rest) is (piece_ends (after_trivia n state) rest) in
    let within : t.1 ≤ length rest = ends.0.within in
    let fits = k.fits in
    let len : t.1 ≡ length w = sym (length-take-le t.1 rest within) in
    let seam : rest ≡ w ++ r = sym (take-append-drop t.1 rest) in
    let s = after_trivia n state in
    let reads : scan_token s (w ++ r) ≡ Ok (t.0, length w) = ap (scan_token s) (sym seam) ∙ is ∙ ap (λ n. Ok (t.0, n)) len in
    let g = take n z in
    let g_len : length g ≡ n = length-take-le n z fits in
    let same : s ≡ state_after before g = trivia_state before state g n k.at (sym g_len) in
    let begins = subst (λ (s : State). MayBegin s.mode s.depth t.0 w r) same (piece_begins s t.0 w r reads more) in
    let after_it : drop (n + length w) z ≡ r = sym (drop-drop (length w) n z) ∙ ap (λ n. drop n rest) (sym len) in
    let total : at + n + length w + length r ≡ at + length z = omega (arith, length-drop t.1 rest, length-drop n z) in
    let whole : z ≡ g ++ (w ++ r) = sym (take-append-drop n z) ∙ ap (λ r. g ++ r) seam in
    let trivia : IsTriviaIn (mode_at before) g (w ++ r) = subst (IsTriviaIn (mode_at before) g) seam k.trivia in
    let step : Step = (g, t.0, w) in
    let from : at + length g + length w ≡ at + n + length w = ap (λ k. at + k + length w) g_len in
    ⊎_elim
    (λ e. inl (
      step ∷ e.0,
      (r, whole, trivia, begins, e.1),
      ap (λ rs. Ok (record { id = t.0; start = at + n; len = length w }) ∷ rs) e.2
          ∙ (λ i. Ok (record { id = t.0; start = at + sym g_len i; len = length w }) ∷ map (λ x. Ok x) (places (sym from i) e.0 ++ record { id = T_EOF; start = total i; len = 0 } ∷ [])),
    ))
    (λ e. inr (
      e.0,
      step ∷ e.1,
      (r, whole, trivia, begins, subst (λ n. IsRead (EndsIn e.0 n) (t.0 ∷ before) r e.1) total e.2),
      ap (λ rs. Ok (record { id = t.0; start = at + n; len = length w }) ∷ rs) e.3
          ∙ (λ i. Ok (record { id = t.0; start = at + sym g_len i; len = length w }) ∷ (map (λ x. Ok x) (places (sym from i) e.1) ++ Err e.0 ∷ [])),
    ))
    (subst (λ r. IsTold (t.0 ∷ before) (at + n + length w) r rs) after_it rest_told)

told_piece : (before : List ℕ) (state : State) (at : ℕ) (z : Text) (n : ℕ) (p : Scanned) (fs : List Found) → AfterTrivia before state z n → scan_token (after_trivia n state) (drop n z) ≡ p
    → (goes_on (scanned_text p (drop n z)) ≡ false → fs ≡ [])
    → (goes_on (scanned_text p (drop n z)) ≡ true → IsTold (ids_after before (scanned_text p (drop n z))) (at + n + len_of (scanned_text p (drop n z))) (drop (n + len_of (scanned_text p (drop n z))) z) (place_items (at + n + len_of (scanned_text p (drop n z))) fs))
    → IsTold before at z (place_items at (record { trivia = n; scanned_text = scanned_text p (drop n z) } ∷ fs))
told_piece before state at z n (Ok t) fs k is stops goes =
    let w = take t.1 (drop n z) in
    by_bool (t.0 == T_EOF)
    (λ six. subst (λ fs. IsTold before at z (place_items at (record { trivia = n; scanned_text = Ok (t.0, w) } ∷ fs))) (sym (stops (ap not six))) (told_end before state at z n t k is six))
    (λ more. told_token before state at z n t (place_items (at + n + length w) fs) k is more (goes (ap not more)))
told_piece before state at z n (Err f) fs k is stops goes =
    subst (λ fs. IsTold before at z (place_items at (record { trivia = n; scanned_text = Err (f.0, f.1, fault_char f.0 (drop f.1 (drop n z))) } ∷ fs))) (sym (stops refl)) (told_fault before state at z n f k is)

cut_matches_relation : (fs : List Found) (before : List ℕ) (state : State) (at : ℕ) (z : Text) → IsAt before state → cut state z ≡ fs → IsTold before at z (place_items at fs)
unfolding found
cut_matches_relation [] before state at z h is = let head = cut_is state z in absurd (cc)
cut_matches_relation (f ∷ fs) before state at z h is =
    let n = trivia_len state.mode z in
    let p = scan_token (after_trivia n state) (drop n z) in
    let w = scanned_text p (drop n z) in
    let head = sym is ∙ cut_is state z in
    let first : f ≡ record { trivia = n; scanned_text = w } = cc in
    let rest : fs ≡ cond (goes_on w) (cut (state_after_scan state w) (drop (n + len_of w) z)) [] = cc in
    let next = next_at before state z w h refl in
    subst (λ f. IsTold before at z (place_items at (f ∷ fs))) (sym first)
    (told_piece before state at z n p fs (after_own_trivia before state z h) refl
    (λ stops. rest ∙ ap (λ b. cond b (cut (state_after_scan state w) (drop (n + len_of w) z)) []) stops)
    (λ goes. cut_matches_relation fs (ids_after before w) (state_after_scan state w) (at + n + len_of w) (drop (n + len_of w) z) next (sym (rest ∙ ap (λ b. cond b (cut (state_after_scan state w) (drop (n + len_of w) z)) []) goes))))

-- ---- and nothing else

-- what is found, where the trivia and what is after it are known
found_is : (before : List ℕ) (state : State) (g r : Text) → IsAt before state → IsTriviaIn (mode_at before) g r → found state (g ++ r) ≡ record { trivia = length g; scanned_text = scanned_text (scan_token (state_after before g) r) r }
unfolding found
found_is before state g r h trivia =
    let len : trivia_len state.mode (g ++ r) ≡ length g = ap (λ m. trivia_len m (g ++ r)) h.mode ∙ trivia_passed (mode_at before) g r trivia in
    let rest : drop (trivia_len state.mode (g ++ r)) (g ++ r) ≡ r = ap (λ n. drop n (g ++ r)) len ∙ drop-append_seam g r in
    let same : after_trivia (trivia_len state.mode (g ++ r)) state ≡ state_after before g = trivia_state before state g (trivia_len state.mode (g ++ r)) h len in
    λ i. record { trivia = len i; scanned_text = scanned_text (scan_token (same i) (rest i)) (rest i) }

-- what is found at a step
record StepIs (before : List ℕ) (state : State) (z : Text) (t : Step) (r : Text) : Type 0 where
  found : found state z ≡ record { trivia = length t.0; scanned_text = Ok (t.1, t.2) }
  goes : goes_on (Ok (t.1, t.2)) ≡ true
  rest : drop (length t.0 + length t.2) z ≡ r
  at : IsAt (t.1 ∷ before) (after state t.1)

step_is : (before : List ℕ) (state : State) (z : Text) (t : Step) (r : Text) → IsAt before state → z ≡ t.0 ++ (t.2 ++ r) → IsTriviaIn (mode_at before) t.0 (t.2 ++ r)
    → MayBegin (state_after before t.0).mode (state_after before t.0).depth t.1 t.2 r → StepIs before state z t r
step_is before state z t r h is trivia may =
    let g = t.0 in
    let id = t.1 in
    let w = t.2 in
    let s = state_after before g in
    let begins = begins_piece s id w r may in
    let piece_text_is : scanned_text (scan_token s (w ++ r)) (w ++ r) ≡ Ok (id, w) = ap (λ p. scanned_text p (w ++ r)) begins.0 ∙ ap (λ w. Ok (id, w)) (take-append_seam w r) in
    let f : found state z ≡ record { trivia = length g; scanned_text = Ok (id, w) } = ap (found state) is ∙ found_is before state g (w ++ r) h trivia ∙ ap (λ w. record { trivia = length g; scanned_text = w }) piece_text_is in
    record {
      found = f;
      goes = ap not begins.1;
      rest = ap (drop (length g + length w)) is ∙ sym (drop-drop (length w) (length g) (g ++ (w ++ r))) ∙ ap (drop (length w)) (drop-append_seam g (w ++ r)) ∙ drop-append_seam w r;
      at = next_at before state z (Ok (id, w)) h (ap (λ f. f.scanned_text) f);
    }

-- after steps, what is placed of the rest
steps_placed : (Rest : List ℕ → Text → Type 0) (tail : List (Result Lexeme LexFault)) (total : ℕ) (ts : List Step) (before : List ℕ) (state : State) (at : ℕ) (z : Text)
    → ((before : List ℕ) (state : State) (at : ℕ) (z : Text) → IsAt before state → at + length z ≡ total → Rest before z → place_items at (cut state z) ≡ tail)
    → IsAt before state → at + length z ≡ total → IsRead Rest before z ts → place_items at (cut state z) ≡ map (λ x. Ok x) (places at ts) ++ tail
steps_placed Rest tail total [] before state at z last h len read = last before state at z h len read
steps_placed Rest tail total (t ∷ ts) before state at z last h len read =
    let g = t.0 in
    let id = t.1 in
    let w = t.2 in
    let r = read.0 in
    let k = step_is before state z t r h read.1 read.2 read.3 in
    let here : ℕ = at + length g + length w in
    let whole : length z ≡ length g + (length w + length r) = ap length read.1 ∙ length-append g (w ++ r) ∙ ap (λ n. length g + n) (length-append w r) in
    let more = steps_placed Rest tail total ts (id ∷ before) (after state id) here r last k.at (omega arith) read.4 in
    ap (place_items at) (cut_is state z)
    ∙ ap (λ f. place_items at (f ∷ cond (goes_on f.scanned_text) (cut (state_after_scan state f.scanned_text) (drop (f.trivia + len_of f.scanned_text) z)) [])) k.found
    ∙ ap (λ b. place_items at (record { trivia = length g; scanned_text = Ok (id, w) } ∷ cond b (cut (after state id) (drop (length g + length w) z)) [])) k.goes
    ∙ ap (λ r. Ok (record { id = id; start = at + length g; len = length w }) ∷ place_items here (cut (after state id) r)) k.rest
    ∙ ap (λ rs. Ok (record { id = id; start = at + length g; len = length w }) ∷ rs) more

-- the same without places, up to a rest of which P holds
steps_pieces : (Rest : List ℕ → Text → Type 0) (P : List ScannedText → Type 0) (ts : List Step) (before : List ℕ) (state : State) (z : Text)
    → ((before : List ℕ) (state : State) (z : Text) → IsAt before state → Rest before z → (tail : List ScannedText) × P tail × (pieces state z ≡ tail))
    → IsAt before state → IsRead Rest before z ts → (tail : List ScannedText) × P tail × (pieces state z ≡ map (λ t. Ok (t.1, t.2)) ts ++ tail)
steps_pieces Rest P [] before state z last h read = last before state z h read
steps_pieces Rest P (t ∷ ts) before state z last h read =
    let id = t.1 in
    let w = t.2 in
    let r = read.0 in
    let k = step_is before state z t r h read.1 read.2 read.3 in
    let more = steps_pieces Rest P ts (id ∷ before) (after state id) r last k.at read.4 in (
      more.0,
      more.1,
      pieces_are state z
          ∙ ap (λ f. f.scanned_text ∷ cond (goes_on f.scanned_text) (pieces (state_after_scan state f.scanned_text) (drop (f.trivia + len_of f.scanned_text) z)) []) k.found
          ∙ ap (λ b. Ok (id, w) ∷ cond b (pieces (after state id) (drop (length t.0 + length w) z)) []) k.goes
          ∙ ap (λ r. Ok (id, w) ∷ pieces (after state id) r) k.rest
          ∙ ap (λ ws. Ok (id, w) ∷ ws) more.2,
    )

outside_end : (n : ℕ) (s : State) → s.mode ≡ mode.Outside → s.depth ≡ 0 → after_trivia n s ≡ record { depth = 0; mode = mode.Outside }
unfolding after_trivia
outside_end n s m d = ap (after_trivia n) (λ i. record { depth = d i; mode = m i }) ∙ cond_both (n == 0) _ _ (λ (s : State). s ≡ record { depth = 0; mode = mode.Outside }) (λ _. refl) (λ _. refl)

empty : scanned_text (scan_token (record { depth = 0; mode = mode.Outside }) []) [] ≡ Ok (T_EOF, [])
unfolding scan_token
empty = refl

append_nil : (t : Text) → t ++ [] ≡ t
append_nil [] = refl
append_nil (b ∷ t) = ap (λ t. b ∷ t) (append_nil t)

end_found : (before : List ℕ) (state : State) (z : Text) → IsAt before state → IsEnd before z → found state z ≡ record { trivia = length z; scanned_text = Ok (T_EOF, []) }
end_found before state z h e =
    let at_rest : state_after before z ≡ record { depth = 0; mode = mode.Outside } = sym (trivia_at before z) ∙ outside_end (length z) (state_at before) e.1 e.2 in
    let piece_text_is : scanned_text (scan_token (state_after before z) []) [] ≡ Ok (T_EOF, []) = ap (λ s. scanned_text (scan_token s []) []) at_rest ∙ empty in
    ap (found state) (sym (append_nil z)) ∙ found_is before state z [] h e.0 ∙ ap (λ w. record { trivia = length z; scanned_text = w }) piece_text_is

fault_found : (f : LexFault) (total : ℕ) (before : List ℕ) (state : State) (z : Text) → IsAt before state → (e : EndsIn f total before z) → found state z ≡ record { trivia = length e.0; scanned_text = Err (f.kind, length e.1, f.ch) }
fault_found f total before state z h e =
    let g = e.0 in
    let u = e.1 in
    let v = e.2 in
    let s = state_after before g in
    let reads : scan_token s (u ++ v) ≡ Err (f.kind, length u) = (faults s f.kind u v).1 e.5 in
    let piece_text_is : scanned_text (scan_token s (u ++ v)) (u ++ v) ≡ Err (f.kind, length u, f.ch) =
    ap (λ p. scanned_text p (u ++ v)) reads ∙ ap (λ v. Err (f.kind, length u, fault_char f.kind v)) (drop-append_seam u v) ∙ ap (λ c. Err (f.kind, length u, c)) (sym e.7) in
    ap (found state) e.3 ∙ found_is before state g (u ++ v) h e.4 ∙ ap (λ w. record { trivia = length g; scanned_text = w }) piece_text_is

-- the end, in a text of this length
end_placed : (total : ℕ) (before : List ℕ) (state : State) (at : ℕ) (z : Text) → IsAt before state → at + length z ≡ total → IsEnd before z
    → place_items at (cut state z) ≡ Ok (record { id = T_EOF; start = total; len = 0 }) ∷ []
end_placed total before state at z h len e =
    ap (place_items at) (cut_is state z) ∙ ap (λ f. place_items at (f ∷ cond (goes_on f.scanned_text) (cut (state_after_scan state f.scanned_text) (drop (f.trivia + len_of f.scanned_text) z)) [])) (end_found before state z h e)
    ∙ ap (λ n. Ok (record { id = T_EOF; start = n; len = 0 }) ∷ []) len

-- the fault
fault_placed : (f : LexFault) (total : ℕ) (before : List ℕ) (state : State) (at : ℕ) (z : Text) → IsAt before state → at + length z ≡ total → EndsIn f total before z → place_items at (cut state z) ≡ Err f ∷ []
fault_placed f total before state at z h len e =
    let g = e.0 in
    let u = e.1 in
    let v = e.2 in
    let whole : length z ≡ length g + (length u + length v) = ap length e.3 ∙ length-append g (u ++ v) ∙ ap (λ n. length g + n) (length-append u v) in
    let place_is = e.6 in
    let place : at + length g + length u ≡ f.at = omega arith in
    ap (place_items at) (cut_is state z) ∙ ap (λ f. place_items at (f ∷ cond (goes_on f.scanned_text) (cut (state_after_scan state f.scanned_text) (drop (f.trivia + len_of f.scanned_text) z)) [])) (fault_found f total before state z h e)
    ∙ ap (λ n. Err (record { kind = f.kind; at = n; ch = f.ch }) ∷ []) place

end_pieces : (before : List ℕ) (state : State) (z : Text) → IsAt before state → IsEnd before z → pieces state z ≡ Ok (T_EOF, []) ∷ []
end_pieces before state z h e =
    pieces_are state z ∙ ap (λ f. f.scanned_text ∷ cond (goes_on f.scanned_text) (pieces (state_after_scan state f.scanned_text) (drop (f.trivia + len_of f.scanned_text) z)) []) (end_found before state z h e)

fault_pieces : (f : LexFault) (total : ℕ) (before : List ℕ) (state : State) (z : Text) → IsAt before state → (e : EndsIn f total before z) → pieces state z ≡ Err (f.kind, length e.1, f.ch) ∷ []
fault_pieces f total before state z h e =
    pieces_are state z ∙ ap (λ f. f.scanned_text ∷ cond (goes_on f.scanned_text) (pieces (state_after_scan state f.scanned_text) (drop (f.trivia + len_of f.scanned_text) z)) []) (fault_found f total before state z h e)

-- ---- the laws

map_end : (ys : List Lexeme) (x : Lexeme) → ◌≡◌ {A = List (Result Lexeme LexFault)} (map (λ x. Ok x) ys ++ Ok x ∷ []) (map (λ x. Ok x) (ys ++ x ∷ []))
map_end [] x = refl
map_end (y ∷ ys) x = ap (λ rs. Ok y ∷ rs) (map_end ys x)

pub items_to_end : (s : Text) (ts : List Step) → IsRead IsEnd [] s ts → items s ≡ map (λ x. Ok x) (to_end s ts)
items_to_end s ts read =
    steps_placed IsEnd (Ok (record { id = T_EOF; start = length s; len = 0 }) ∷ []) (length s) ts [] start 0 s (end_placed (length s)) at_start (zero-add (length s)) read
    ∙ map_end (places 0 ts) (record { id = T_EOF; start = length s; len = 0 })

pub items_to_fault : (s : Text) (f : LexFault) (ts : List Step) → IsRead (EndsIn f (length s)) [] s ts → items s ≡ map (λ x. Ok x) (places 0 ts) ++ Err f ∷ []
items_to_fault s f ts read = steps_placed (EndsIn f (length s)) (Err f ∷ []) (length s) ts [] start 0 s (fault_placed f (length s)) at_start (zero-add (length s)) read

-- how the items of a text are read
abbrev pub IsItems : Text → List (Result Lexeme LexFault) → Type 0
IsItems s rs =
    ((ts : List Step) × IsRead IsEnd [] s ts × (rs ≡ map (λ x. Ok x) (to_end s ts)))
    ⊎ ((f : LexFault) × (ts : List Step) × IsRead (EndsIn f (length s)) [] s ts × (rs ≡ map (λ x. Ok x) (places 0 ts) ++ Err f ∷ []))

pub items_told : (s : Text) → IsItems s (items s)
items_told s =
    let n = zero-add (length s) in
    ⊎_elim
    (λ e. inl (e.0, e.1, e.2 ∙ ap (λ n. map (λ x. Ok x) (places 0 e.0 ++ record { id = T_EOF; start = n; len = 0 } ∷ [])) n))
    (λ e. inr (e.0, e.1, subst (λ n. IsRead (EndsIn e.0 n) [] s e.1) n e.2, e.3))
    (cut_matches_relation (cut start s) [] start 0 s at_start refl)

all_tokens : (xs : List Lexeme) → collect_items (map (λ x. Ok x) xs) ≡ Ok xs
all_tokens [] = refl
all_tokens (x ∷ xs) = ap (with_front (x ∷ [])) (all_tokens xs)

one_fault : (xs : List Lexeme) (f : LexFault) → collect_items (map (λ x. Ok x) xs ++ Err f ∷ []) ≡ Err f
one_fault [] f = refl
one_fault (x ∷ xs) f = ap (with_front (x ∷ [])) (one_fault xs f)

lexed_told : (s : Text) → IsLexed s (lex s)
unfolding lex
lexed_told s =
    ⊎_elim
    (λ e. let is : lex s ≡ Ok (to_end s e.0) = ap collect_items e.2 ∙ all_tokens (to_end s e.0) in subst (IsLexed s) (sym is) (e.0, e.1, refl))
    (λ e. let is : lex s ≡ Err e.0 = ap collect_items e.3 ∙ one_fault (places 0 e.1) e.0 in subst (IsLexed s) (sym is) (e.1, e.2))
    (items_told s)

lexed_is : (s : Text) (r : Result (List Lexeme) LexFault) → IsLexed s r → lex s ≡ r
unfolding lex
lexed_is s (Ok xs) e = ap collect_items (items_to_end s e.0 e.1) ∙ all_tokens (to_end s e.0) ∙ ap (λ xs. Ok xs) (sym e.2)
lexed_is s (Err f) e = ap collect_items (items_to_fault s f e.0 e.1) ∙ one_fault (places 0 e.0) f

pub only_tokens : (s : Text) (r : Result (List Lexeme) LexFault) → (lex s ≡ r) ↔ IsLexed s r
only_tokens s r = ((λ is. subst (IsLexed s) is (lexed_told s)), lexed_is s r)

-- ---- ids and texts

sliced_steps : (Rest : List ℕ → Text → Type 0) (s : Text) (ts : List Step) (before : List ℕ) (at : ℕ) (z : Text) → drop at s ≡ z → IsRead Rest before z ts → slice_texts s (places at ts) ≡ map (λ t. (t.1, t.2)) ts
sliced_steps Rest s [] before at z is read = refl
sliced_steps Rest s (t ∷ ts) before at z is read =
    let g = t.0 in
    let w = t.2 in
    let r = read.0 in
    let here : drop (at + length g) s ≡ w ++ r = sym (drop-drop (length g) at s) ∙ ap (drop (length g)) (is ∙ read.1) ∙ drop-append_seam g (w ++ r) in
    let after_it : drop (at + length g + length w) s ≡ r = sym (drop-drop (length w) (at + length g) s) ∙ ap (drop (length w)) here ∙ drop-append_seam w r in
    let text : take (length w) (drop (at + length g) s) ≡ w = ap (take (length w)) here ∙ take-append_seam w r in
    λ i. (t.1, text i) ∷ sliced_steps Rest s ts (t.1 ∷ before) (at + length g + length w) r after_it read.4 i

sliced_end : (s : Text) (xs : List Lexeme) (n : ℕ) → slice_texts s (xs ++ record { id = T_EOF; start = n; len = 0 } ∷ []) ≡ slice_texts s xs ++ (6, []) ∷ []
sliced_end s [] n = refl
sliced_end s (x ∷ xs) n = ap (λ us. (x.id, text_at s x) ∷ us) (sliced_end s xs n)

sliced_is : (s : Text) (ts : List Step) → IsRead IsEnd [] s ts → slice_texts s (to_end s ts) ≡ map (λ t. (t.1, t.2)) ts ++ (6, []) ∷ []
sliced_is s ts read = sliced_end s (places 0 ts) (length s) ∙ ap (λ us. us ++ (6, []) ∷ []) (sliced_steps IsEnd s ts [] 0 s refl read)

texts_to_end : (s : Text) (ts : List Step) → IsRead IsEnd [] s ts → tokens s ≡ Ok (map (λ t. (t.1, t.2)) ts ++ (6, []) ∷ [])
texts_to_end s ts read = ap (result_texts s) (lexed_is s (Ok (to_end s ts)) (ts, read, refl)) ∙ ap (λ us. Ok us) (sliced_is s ts read)

-- ---- what a cursor gives

pieces_to_end : (s : Text) (ts : List Step) → IsRead IsEnd [] s ts → pieces start s ≡ map (λ t. Ok (t.1, t.2)) ts ++ Ok (T_EOF, []) ∷ []
pieces_to_end s ts read =
    let k = steps_pieces IsEnd (λ ws. ws ≡ Ok (T_EOF, []) ∷ []) ts [] start s (λ before state z h e. (Ok (T_EOF, []) ∷ [], refl, end_pieces before state z h e)) at_start read in
    k.2 ∙ ap (λ ws. map (λ t. Ok (t.1, t.2)) ts ++ ws) k.1

pieces_to_fault : (s : Text) (ts : List Step) (f : LexFault) → IsRead (EndsIn f (length s)) [] s ts → (n : ℕ) × (pieces start s ≡ map (λ t. Ok (t.1, t.2)) ts ++ Err (f.kind, n, f.ch) ∷ [])
pieces_to_fault s ts f read =
    let k = steps_pieces (EndsIn f (length s)) (λ ws. (n : ℕ) × (ws ≡ Err (f.kind, n, f.ch) ∷ [])) ts [] start s
    (λ before state z h e. (Err (f.kind, length e.1, f.ch) ∷ [], (length e.1, refl), fault_pieces f (length s) before state z h e)) at_start read in
    (k.1.0, k.2 ∙ ap (λ ws. map (λ t. Ok (t.1, t.2)) ts ++ ws) k.1.1)

pub steps_to_end : (s : Text) (ts : List Step) → IsRead IsEnd [] s ts
    → (items s ≡ map (λ x. Ok x) (to_end s ts)) × (tokens s ≡ Ok (map (λ t. (t.1, t.2)) ts ++ (T_EOF, []) ∷ []))
    × (pieces start s ≡ map (λ t. Ok (t.1, t.2)) ts ++ Ok (T_EOF, []) ∷ [])
steps_to_end s ts read = (items_to_end s ts read, texts_to_end s ts read, pieces_to_end s ts read)

pub steps_to_fault : (s : Text) (ts : List Step) (f : LexFault) → IsRead (EndsIn f (length s)) [] s ts
    → (items s ≡ map (λ x. Ok x) (places 0 ts) ++ Err f ∷ []) × (tokens s ≡ Err f)
    × ((n : ℕ) × (pieces start s ≡ map (λ t. Ok (t.1, t.2)) ts ++ Err (f.kind, n, f.ch) ∷ []))
steps_to_fault s ts f read = (items_to_fault s f ts read, ap (result_texts s) (lexed_is s (Err f) (ts, read)), pieces_to_fault s ts f read)
