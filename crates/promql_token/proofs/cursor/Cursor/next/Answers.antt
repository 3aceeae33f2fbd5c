use Rattle.std.proofs.Common.{◌≡◌, ◌+◌, ◌-◌, ◌∙◌, ◌∷◌, ap, sym, arith, take, drop}
use Rattle.promql_token.specs.Cursor.{tokens_left, ends_in_fault}
use Rattle.promql_token.specs.Lexing.{text_at}
use Rattle.promql_token.proofs.cursors.CursorTokens.{no_token_left, none_end, some_token, past_token}
use Rattle.promql_token.proofs.cursor.Cursor.next.Goals as goal

pub returns-in_default : goal.returns-in_default
returns-in_default c =
    let s = c.args.self.now in
    let none = no_token_left s c.advance.result _ c.advance.ensures.value c.in_default.is in
    record { tokens = (none, ap tokens_left c.in_default.ensures.fault ∙ none); fault = ap ends_in_fault c.in_default.ensures.fault }

pub returns-then-token-eq-T_EOF : goal.returns-then-token-eq-T_EOF
returns-then-token-eq-T_EOF c =
    let s = c.args.self.now in
    let none = none_end s.text.now s.at s.state _ c.in-Ok.ensures.value c.if-token-eq-T_EOF.true in
    let stays = c.in-Ok.ensures.stays c.if-token-eq-T_EOF.true in
    record { tokens = (none, ap tokens_left stays ∙ none); fault = ap ends_in_fault stays }

pub range-requires-clause-start_boundary : goal.range-requires-clause-start_boundary
range-requires-clause-start_boundary c = let placed = c.in-Ok.ensures.token.placed in λ _. placed.0

pub returns-clause-tokens : goal.returns-clause-tokens
returns-clause-tokens c =
    let t = c.in-Ok.token in
    let e = c.in-Ok.ensures in
    let back : t.start + t.len - t.start ≡ t.len = omega arith in
    let text : text_at c.args.self.now.text.now t ≡ c.range.result.now =
    ap (λ n. take n (drop t.start c.args.self.now.text.now)) (sym back) ∙ sym c.range.ensures.value in
    some_token t c.args.self.now c.advance.new.self e.value e.token c.if-token-eq-T_EOF.false ∙ ap (λ z. (t.id, z) ∷ tokens_left c.advance.new.self) text

pub returns-clause-fault : goal.returns-clause-fault
returns-clause-fault c =
    let e = c.in-Ok.ensures in
    past_token c.in-Ok.token c.args.self.now c.advance.new.self e.value e.token c.if-token-eq-T_EOF.false
