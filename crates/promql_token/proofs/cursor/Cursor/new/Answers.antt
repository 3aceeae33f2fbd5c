use denote.Bor.{Bor}
use Rattle.std.proofs.Common.{ℕ, List, ap}
use Rattle.promql_token.proofs.cursors.CursorTokens.{new_left, new_whole, new_fault, new_pieces}
use Rattle.promql_token.proofs.cursor.Cursor.new.Goals as goal

pub returns-clause-tokens : goal.returns-clause-tokens
returns-clause-tokens c =
    let e = c.front.ensures in
    new_left c.args.text.now c.front.result (ap (λ (t : Bor (List ℕ)). t.now) e.text) e.at e.state

pub returns-clause-whole : goal.returns-clause-whole
returns-clause-whole c =
    let e = c.front.ensures in
    new_whole c.args.text.now c.front.result (ap (λ (t : Bor (List ℕ)). t.now) e.text) e.at e.state

pub returns-clause-fault : goal.returns-clause-fault
returns-clause-fault c =
    let e = c.front.ensures in
    new_fault c.args.text.now c.front.result (ap (λ (t : Bor (List ℕ)). t.now) e.text) e.at e.state

pub returns-clause-pieces : goal.returns-clause-pieces
returns-clause-pieces c =
    let e = c.front.ensures in
    new_pieces c.args.text.now c.front.result (ap (λ (t : Bor (List ℕ)). t.now) e.text) e.at e.state
