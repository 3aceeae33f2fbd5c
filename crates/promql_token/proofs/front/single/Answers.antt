use Rattle.std.proofs.Common.{refl, rules, sym, ap, ◌∙◌}
use Rattle.promql_token.specs.Front.{begins_trivia}
use Rattle.promql_token.specs.TokenScanning.{in_brackets}
use Rattle.promql_token.proofs.cursors.FrontTokens.{front_token}
use Rattle.promql_token.proofs.front.single.Goals as goal

pub returns-in_ok-id-in-Outside-clause-front : goal.returns-in_ok-id-in-Outside-clause-front
returns-in_ok-id-in-Outside-clause-front c =
    let e = c.in_ok-id-in-Outside.ensures in
    front_token c.args.state _ c.args.z.now c.in_ok-id-in-Outside.id c.in-Outside.is (search rules) e.scanned e.no_end e.front

pub returns-in_ok-id-in-Braces-clause-front : goal.returns-in_ok-id-in-Braces-clause-front
returns-in_ok-id-in-Braces-clause-front c =
    let e = c.in_ok-id-in-Braces.ensures in
    front_token c.args.state _ c.args.z.now c.in_ok-id-in-Braces.id c.in-Braces.is (search rules) e.scanned e.no_end e.front

pub returns-in-Brackets-clause-front : goal.returns-in-Brackets-clause-front
unfolding in_brackets
returns-in-Brackets-clause-front c =
    let first = sym c.byte.ensures.value ∙ c.if-byte-eq93.true in
    front_token c.args.state _ c.args.z.now 17 c.in-Brackets.is (search rules) (rw first refl) refl (ap begins_trivia first)
