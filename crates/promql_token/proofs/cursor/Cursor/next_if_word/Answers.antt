use Rattle.std.proofs.Common.{◌∙◌, ℕ, List, ap, sym}
use denote.Bor.{Bor}
use Rattle.promql_token.proofs.cursors.FrontTokens.{next_here, tokens_past, fault_past}
use Rattle.promql_token.proofs.cursor.Cursor.next_if_word.Goals as goal

pub take-requires : goal.take-requires
take-requires c =
    let s = c.args.self.now in
    let e = c.as_bytes.ensures in
    (next_here _ s.text.now s.at s.state _ _ e.utf8 e.value s.place c.in_ok-id.ensures.front).end

pub returns-clause-tokens : goal.returns-clause-tokens
returns-clause-tokens c =
    let s = c.args.self.now in
    let e = c.as_bytes.ensures in
    let t = c.take.ensures in
    let w = c.in_ok-id.ensures in
    let next = next_here _ s.text.now s.at s.state _ _ e.utf8 e.value s.place w.front in
    tokens_past next _ _ _ _ t.taken (ap (λ (t : Bor (List ℕ)). t.now) t.text) t.at (t.state ∙ sym w.stays)

pub returns-clause-fault : goal.returns-clause-fault
returns-clause-fault c =
    let s = c.args.self.now in
    let e = c.as_bytes.ensures in
    let t = c.take.ensures in
    let w = c.in_ok-id.ensures in
    let next = next_here _ s.text.now s.at s.state _ _ e.utf8 e.value s.place w.front in
    fault_past next _ _ _ _ t.taken (ap (λ (t : Bor (List ℕ)). t.now) t.text) t.at (t.state ∙ sym w.stays)
