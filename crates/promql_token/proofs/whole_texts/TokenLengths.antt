-- A token before the end of a text has a byte at least, and no more than there are.
use Rattle.std.proofs.Common.{◌≡◌, ℕ, ◌<◌, ◌≤◌, false, [], ◌∷◌, length, Ok, subst, arith}
use Rattle.std.proofs.lemmas.Bool.{eqb-false}
use Rattle.std.specs.Prelude.{◌==◌}
use Rattle.promql_token.specs.declared.state.State.{State}
use Rattle.promql_token.specs.declared.ids.TheConstants.{T_EOF}
use Rattle.promql_text.specs.Texts.{Text}
use Rattle.promql_token.specs.TokenScanning.{scan_token}
use Rattle.promql_token.proofs.one_reading.Ends.{PieceEnds, piece_ends}
use Rattle.promql_token.proofs.one_reading.Inner.{Inner, begun_inner}

token_inner : (state : State) (z : Text) → 0 < length z → Inner state.depth (scan_token state z)
unfolding scan_token
token_inner state [] some = absurd (omega arith)
token_inner state (b ∷ z) some = begun_inner state.mode state.depth (b ∷ z)

-- it is not the end
pub token_is_not_end : (state : State) (z : Text) (id len : ℕ) → 0 < length z → scan_token state z ≡ Ok (id, len) → (id == T_EOF) ≡ false
token_is_not_end state z id len some is = (subst (Inner state.depth) is (token_inner state z some)).0

pub token_length : (state : State) (z : Text) (id len : ℕ) → 0 < length z → scan_token state z ≡ Ok (id, len) → (0 < len) × (len ≤ length z)
token_length state z id len some is =
    let ends = subst (PieceEnds z) is (piece_ends state z) in
    (ends.1 (eqb-false _ _ (token_is_not_end state z id len some is)), ends.0.within)
