use Rattle.std.proofs.Common.{◌≡◌, ◌∙◌, sym}
use Rattle.std.specs.Prelude.{◌≢◌}
use Rattle.promql_grammar.specs.SymbolsLeft.{symbols_left}
use Rattle.std.proofs.lemmas.Bool.Decides.{not_from_Decides}
use Rattle.promql_grammar.proofs.SameTokenKinds.{kind_Decides}
use Rattle.promql_grammar.proofs.Eating.{first_eaten, another_kind}
use Rattle.promql_grammar.proofs.tokens.Tokens.eat.Goals as goal

pub returns-in-Some-clause-gives : goal.returns-in-Some-clause-gives
returns-in-Some-clause-gives c =
    let same : c.in-Some.first ≡ c.args.kind = (kind_Decides c.in-Some.first c.args.kind).0 (sym c.eq.ensures ∙ c.if-eq.true) in
    first_eaten c.args.kind c.in-Some.first c.in-Some.field-0-1.now (symbols_left c.args.self.now) (symbols_left c.bump.new.self) c.in-Some.ensures same c.bump.ensures.drops

pub returns-in_default-clause-gives : goal.returns-in_default-clause-gives
returns-in_default-clause-gives c =
    let other : c.in-Some.first ≢ c.args.kind = not_from_Decides _ (kind_Decides c.in-Some.first c.args.kind) (sym c.eq.ensures ∙ c.if-eq.false) in
    another_kind c.args.kind c.in-Some.first c.in-Some.field-0-1.now (symbols_left c.args.self.now) _ c.in-Some.ensures other
