use Rattle.std.proofs.Common.{◌≡◌, ◌∙◌, IsUtf8, ⊎_elim, ap, subst, sym}
use Rattle.promql_token.specs.TokenScanning.{mode_after_something}
use Rattle.promql_token.proofs.cursors.FrontTokens.{IsSpace, is_space, after_space, space_passed}
use Rattle.promql_token.proofs.cursor.Cursor.skip_space.Goals as goal
use Rattle.promql_token.proofs.cursor.Cursor.skip_space.Goals.{Then-byte-eq32}

space : (c : Then-byte-eq32) → IsSpace c.args.self.now.text.now c.args.self.now.at
space c = is_space _ _ _ c.as_bytes.ensures.value (sym c.byte.ensures.value ∙ c.if-byte-eq32.true)

pub invariant_of-self-clause-place : goal.invariant_of-self-clause-place
invariant_of-self-clause-place c = after_space _ _ (subst IsUtf8 c.as_bytes.ensures.value c.as_bytes.ensures.utf8) (space c)

pub returns-then-byte-eq32-clause-pieces : goal.returns-then-byte-eq32-clause-pieces
returns-then-byte-eq32-clause-pieces c =
    let s = c.args.self.now in
    let same : mode_after_something s.state.mode ≡ s.state.mode = ⊎_elim (λ is. ap mode_after_something is ∙ sym is) (λ is. ap mode_after_something is ∙ sym is) c.in-Outside.is in
    space_passed s.text.now s.at s.state same (is_space _ _ _ c.as_bytes.ensures.value (sym c.byte.ensures.value ∙ c.if-byte-eq32.true))
