-- Where the tokens of a text are, also of one with a fault.
use Rattle.std.proofs.Common.{◌≡◌, ℕ, ◌+◌, ◌-◌, ◌≤◌, true, false, cond, List, [], ◌∷◌, length, take, drop, IsUtf8, Ok, Err, refl, sym, ap, ◌∙◌, subst, arith, length-drop}
use Rattle.std.specs.Result.{ok_prefix}
use Rattle.std.specs.Str.{IsCharBoundary}
use Rattle.std.proofs.lemmas.List.{drop-drop}
use Rattle.std.proofs.lemmas.Str.{IsCharBoundary-start}
use Rattle.promql_token.specs.declared.state.State.{State}
use Rattle.promql_text.specs.Texts.{Text}
use Rattle.promql_token.specs.Cut.{mode_at, ids_after}
use Rattle.promql_token.specs.Trivia.{IsTriviaIn, AreSpans}
use Rattle.promql_token.specs.Lexing.{ScannedText, Found, cut, found, goes_on, state_after_scan, len_of, start, place_items, item, items}
use Rattle.promql_token.specs.TokenScanning.{trivia_len}
use Rattle.promql_token.proofs.one_reading.Boundaries.{StandsAt, stands_at}
use Rattle.promql_token.proofs.beginnings.TriviaLengths.{is_trivia}
use Rattle.promql_token.proofs.one_reading.Steps.{cut_is, found_fits}
use Rattle.promql_token.proofs.one_reading.UniqueTokens.{IsAt, at_start, next_at}

-- what is known of a trivia, and of what comes after it
record Stands (s : Text) (before : List ℕ) (at : ℕ) (f : Found) : Type 0 where
  trivia : IsTriviaIn (mode_at before) (take f.trivia (drop at s)) (drop f.trivia (drop at s))
  fits : f.trivia + len_of f.scanned_text ≤ length (drop at s)
  place : StandsAt s at f

stands : (s : Text) (before : List ℕ) (at : ℕ) (state : State) → IsAt before state → IsUtf8 s → IsCharBoundary s at → Stands s before at (found state (drop at s))
unfolding found
stands s before at state h utf8 here = record {
  trivia = subst (λ m. IsTriviaIn m (take (trivia_len state.mode (drop at s)) (drop at s)) (drop (trivia_len state.mode (drop at s)) (drop at s))) h.mode (is_trivia state.mode (drop at s));
  fits = (found_fits state (drop at s)).0;
  place = stands_at s at state utf8 here;
}

token_stands : (s : Text) (before : List ℕ) (at g : ℕ) (w : ScannedText) (fs : List Found) → at ≤ length s → Stands s before at (record { trivia = g; scanned_text = w })
    → AreSpans s (ids_after before w) (at + g + len_of w) (ok_prefix (place_items (at + g + len_of w) fs))
    → AreSpans s before at (ok_prefix (item (at + g) w ∷ place_items (at + g + len_of w) fs))
token_stands s before at g (Err e) fs within st more = tt
token_stands s before at g (Ok t) fs within st more =
    let fits = st.fits in
    let back : g ≡ at + g - at = omega arith in
    (omega arith, subst (λ n. IsTriviaIn (mode_at before) (take n (drop at s)) (drop (at + g) s)) back (subst (IsTriviaIn (mode_at before) (take g (drop at s))) (drop-drop g at s) st.trivia), omega (arith, length-drop at s), (st.place.start, st.place.end), more)

all_stand : (s : Text) (fs : List Found) (before : List ℕ) (state : State) (at : ℕ) → IsAt before state → IsUtf8 s → IsCharBoundary s at → at ≤ length s → cut state (drop at s) ≡ fs → AreSpans s before at (ok_prefix (place_items at fs))
all_stand s [] before state at h utf8 here within is = tt
all_stand s (f ∷ fs) before state at h utf8 here within is =
    let z = drop at s in
    let f0 = found state z in
    let head = sym is ∙ cut_is state z in
    let first : f ≡ f0 = cc in
    let rest : fs ≡ cond (goes_on f0.scanned_text) (cut (state_after_scan state f0.scanned_text) (drop (f0.trivia + len_of f0.scanned_text) z)) [] = cc in
    let st = subst (λ f. Stands s before at f) (sym first) (stands s before at state h utf8 here) in
    let fits = st.fits in
    let there : ℕ = at + f.trivia + len_of f.scanned_text in
    let at_rest : drop there s ≡ drop (f0.trivia + len_of f0.scanned_text) z =
    let e : at + f0.trivia + len_of f0.scanned_text ≡ at + (f0.trivia + len_of f0.scanned_text) = omega arith in
    ap (λ h. drop (at + h.trivia + len_of h.scanned_text) s) first ∙ ap (λ n. drop n s) e ∙ sym (drop-drop (f0.trivia + len_of f0.scanned_text) at s) in
    let ids : IsAt (ids_after before f.scanned_text) (state_after_scan state f0.scanned_text) = subst (λ w. IsAt (ids_after before w) (state_after_scan state f0.scanned_text)) (sym (ap (λ f. f.scanned_text) first)) (next_at before state z f0.scanned_text h refl) in
    token_stands s before at f.trivia f.scanned_text fs within st
    (elim (goes_on f0.scanned_text) as (λ b. fs ≡ cond b (cut (state_after_scan state f0.scanned_text) (drop (f0.trivia + len_of f0.scanned_text) z)) [] → AreSpans s (ids_after before f.scanned_text) there (ok_prefix (place_items there fs))) [
      | true ↦ λ e. all_stand s fs (ids_after before f.scanned_text) (state_after_scan state f0.scanned_text) there ids utf8 st.place.end (omega (arith, length-drop at s)) (ap (cut (state_after_scan state f0.scanned_text)) at_rest ∙ sym e)
      | false ↦ λ e. subst (λ fs. AreSpans s (ids_after before f.scanned_text) there (ok_prefix (place_items there fs))) (sym e) tt
    ] rest)

pub spans_to_fault : (s : Text) → IsUtf8 s → AreSpans s [] 0 (ok_prefix (items s))
spans_to_fault s utf8 = all_stand s (cut start s) [] start 0 at_start utf8 (IsCharBoundary-start s utf8) (omega arith) refl
