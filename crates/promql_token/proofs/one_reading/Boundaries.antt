-- Tokens come between characters.
use Rattle.std.proofs.Common.{ℕ, ◌+◌, drop, IsUtf8, Ok, Err, sym, subst, length-take-le}
use Rattle.std.specs.Str.{IsCharBoundary}
use Rattle.std.proofs.lemmas.List.{drop-drop}
use Rattle.std.proofs.lemmas.Str.{IsCharBoundary-from_rest, IsUtf8-drop}
use Rattle.promql_token.specs.declared.state.State.{State}
use Rattle.promql_text.specs.Texts.{Text}
use Rattle.promql_token.specs.Lexing.{Found, scanned_text, found, len_of}
use Rattle.promql_token.specs.TokenScanning.{Scanned, scan_token, trivia_len, after_trivia}
use Rattle.promql_token.proofs.one_reading.Ends.{PieceEnds, piece_ends}
use Rattle.promql_token.proofs.one_reading.Places.{Ends, boundary, front, trivia_len_ends}

-- a place in what follows a place is one of the text
rest_boundary : (s : Text) (at n : ℕ) → IsUtf8 s → IsCharBoundary s at → Ends (drop at s) n → IsCharBoundary s (at + n)
rest_boundary s at n utf8 here ends = IsCharBoundary-from_rest s at n here.0 (boundary (drop at s) n (IsUtf8-drop s at utf8 here) ends)

piece_text_ends : (p : Scanned) (z : Text) → PieceEnds z p → Ends z (len_of (scanned_text p z))
piece_text_ends (Ok t) z ends = let within = ends.0.within in subst (Ends z) (sym (length-take-le t.1 z within)) ends.0
piece_text_ends (Err f) z ends = front z

-- where a trivia ends, and the token after it
pub record StandsAt (s : Text) (at : ℕ) (f : Found) : Type 0 where
  pub start : IsCharBoundary s (at + f.trivia)
  pub end : IsCharBoundary s (at + f.trivia + len_of f.scanned_text)

pub stands_at : (s : Text) (at : ℕ) (state : State) → IsUtf8 s → IsCharBoundary s at → StandsAt s at (found state (drop at s))
unfolding found
stands_at s at state utf8 here =
    let z = drop at s in
    let n = trivia_len state.mode z in
    let p = scan_token (after_trivia n state) (drop n z) in
    let begins : IsCharBoundary s (at + n) = rest_boundary s at n utf8 here (trivia_len_ends state.mode z) in
    let ends : Ends (drop (at + n) s) (len_of (scanned_text p (drop n z))) =
    subst (λ l. Ends l (len_of (scanned_text p (drop n z)))) (drop-drop n at s) (piece_text_ends p (drop n z) (piece_ends (after_trivia n state) (drop n z))) in
    record { start = begins; end = rest_boundary s (at + n) (len_of (scanned_text p (drop n z))) utf8 begins ends }
