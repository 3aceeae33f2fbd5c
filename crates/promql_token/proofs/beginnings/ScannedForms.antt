-- What a text begins with in a state, in both directions.
use Rattle.std.proofs.Common.{◌≡◌, ℕ, zero, suc, ◌<◌, false, [], ◌∷◌, ◌++◌, length, take, drop, Ok, Err, refl, subst, arith}
use Rattle.std.specs.Prelude.{◌==◌, ◌↔◌}
use Rattle.std.proofs.Math.Seq.{take-append_seam, drop-append_seam}
use Rattle.std.proofs.lemmas.Bool.{cond_both}
use Rattle.promql_token.specs.declared.fault.LexFaultKind.{LexFaultKind}
use Rattle.promql_token.specs.declared.state.Mode.{Mode}
use Rattle.promql_token.specs.declared.state.Mode.TheVariants as mode
use Rattle.promql_token.specs.declared.state.State.{State}
use Rattle.promql_text.specs.Texts.{Text}
use Rattle.promql_token.specs.Begins.{MayBegin}
use Rattle.promql_token.specs.FaultPlaces.{IsFault}
use Rattle.promql_token.specs.TokenScanning.{Scanned, scan_in_mode, end_in, scan_token}
use Rattle.promql_token.proofs.cursors.TestsAndCounts.{not_zero}
use Rattle.promql_token.proofs.beginnings.FaultsRead.{fault_read}
use Rattle.promql_token.proofs.one_reading.Inner.{Inner, begun_inner}
use Rattle.promql_token.proofs.beginnings.ReadBeginnings.{begun_read}
use Rattle.promql_token.proofs.beginnings.ScannedBeginnings.{begun_said}
use Rattle.promql_token.proofs.beginnings.PunctuatorRows.{Says}
use Rattle.promql_token.specs.declared.ids.TheConstants.{T_EOF}

-- T_EOF aside, a token may begin there, and a fault is there
abbrev PieceSays : Mode → ℕ → Text → Scanned → Type 0
PieceSays m depth z (Ok t) = (t.0 == T_EOF) ≡ false → MayBegin m depth t.0 (take t.1 z) (drop t.1 z)
PieceSays m depth z (Err f) = IsFault f.0 m depth (take f.1 z) (drop f.1 z)

end_said : (m : Mode) (depth : ℕ) → PieceSays m depth [] (end_in m depth)
end_said mode.Outside zero = λ no. absurd (cc)
end_said mode.Outside (suc depth) = cond_both (suc depth == 0) _ _ (PieceSays mode.Outside (suc depth) []) (λ e. let no = not_zero depth in absurd (cc)) (λ _. (refl, refl))
end_said mode.Braces depth = (refl, refl)
end_said (mode.Brackets inside) depth = (refl, refl)

lift : (m : Mode) (depth : ℕ) (z : Text) (p : Scanned) → Says m depth z p → PieceSays m depth z p
lift m depth z (Ok t) h = λ _. h
lift m depth z (Err f) h = h

piece_said : (state : State) (z : Text) → PieceSays state.mode state.depth z (scan_token state z)
unfolding scan_token
piece_said state [] = end_said state.mode state.depth
piece_said state (b ∷ y) = lift state.mode state.depth (b ∷ y) (scan_in_mode state.mode state.depth (b ∷ y)) (begun_said state.mode state.depth b y)

pub piece_begins : (state : State) (id : ℕ) (w r : Text) → scan_token state (w ++ r) ≡ Ok (id, length w) → (id == T_EOF) ≡ false → MayBegin state.mode state.depth id w r
piece_begins state id w r is more =
    let m = state.mode in
    let said = (subst (PieceSays m state.depth (w ++ r)) is (piece_said state (w ++ r))) more in
    subst (λ w2. MayBegin m state.depth id w2 r) (take-append_seam w r) (subst (MayBegin m state.depth id (take (length w) (w ++ r))) (drop-append_seam w r) said)

pub begins_piece : (state : State) (id : ℕ) (w r : Text) → MayBegin state.mode state.depth id w r → (scan_token state (w ++ r) ≡ Ok (id, length w)) × ((id == T_EOF) ≡ false) × (0 < length w)
unfolding scan_token
begins_piece state id [] r h = let some = (begun_read state.mode state.depth id [] r h).1 in absurd (omega arith)
begins_piece state id (b ∷ w) r h =
    let z : Text = b ∷ (w ++ r) in
    let read = begun_read state.mode state.depth id (b ∷ w) r h in
    (read.0, (subst (Inner state.depth) read.0 (begun_inner state.mode state.depth z)).0, read.1)

pub begins : (state : State) (id : ℕ) (w r : Text) → ((scan_token state (w ++ r) ≡ Ok (id, length w)) × ((id == T_EOF) ≡ false)) ↔ MayBegin state.mode state.depth id w r
begins state id w r = (λ h. piece_begins state id w r h.0 h.1, λ h. let read = begins_piece state id w r h in (read.0, read.1))

pub faults : (state : State) (kind : LexFaultKind) (u v : Text) → (scan_token state (u ++ v) ≡ Err (kind, length u)) ↔ IsFault kind state.mode state.depth u v
faults state kind u v = (
  λ is.
      let m = state.mode in
      let said = subst (PieceSays m state.depth (u ++ v)) is (piece_said state (u ++ v)) in
      subst (λ u2. IsFault kind m state.depth u2 v) (take-append_seam u v) (subst (IsFault kind m state.depth (take (length u) (u ++ v))) (drop-append_seam u v) said),
  λ h. fault_read kind state.mode state.depth u v h,
)
