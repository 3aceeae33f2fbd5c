use Rattle.std.proofs.Common.{◌∙◌, ℕ, List, ap, sym}
use Rattle.std.specs.Prelude.{filter}
use denote.Bor.{Bor}
use Rattle.promql_token.specs.Cursor.{is_before_end}
use Rattle.promql_token.specs.Front.{has_fault, up_to_fault}
use Rattle.promql_token.proofs.cursors.FrontTokens.{next_here, tokens_past, fault_past}
use Rattle.promql_token.proofs.cursor.Cursor.next_if_single.Goals as goal

pub take-text-requires : goal.take-text-requires
take-text-requires c =
    let s = c.skip_space.new.self in
    let e = c.as_bytes.ensures in
    (next_here _ s.text.now s.at s.state _ _ e.utf8 e.value s.place c.in_ok-id.ensures.front).end

pub returns-clause-tokens : goal.returns-clause-tokens
returns-clause-tokens c =
    let s = c.skip_space.new.self in
    let e = c.as_bytes.ensures in
    let t = c.take-text.ensures in
    let next = next_here _ s.text.now s.at s.state _ _ e.utf8 e.value s.place c.in_ok-id.ensures.front in
    sym (ap (λ ws. filter is_before_end (up_to_fault ws)) c.skip_space.ensures.pieces)
    ∙ tokens_past next _ _ _ _ t.taken (ap (λ (t : Bor (List ℕ)). t.now) t.text) t.at c.in_ok-id.ensures.state

pub returns-clause-fault : goal.returns-clause-fault
returns-clause-fault c =
    let s = c.skip_space.new.self in
    let e = c.as_bytes.ensures in
    let t = c.take-text.ensures in
    let next = next_here _ s.text.now s.at s.state _ _ e.utf8 e.value s.place c.in_ok-id.ensures.front in
    fault_past next _ _ _ _ t.taken (ap (λ (t : Bor (List ℕ)). t.now) t.text) t.at c.in_ok-id.ensures.state
    ∙ ap has_fault c.skip_space.ensures.pieces
