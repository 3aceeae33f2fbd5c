use Rattle.std.proofs.Common.{ap, ◌∙◌, ◌++◌, ◌∷◌, [], map, sym}
use Rattle.promql_grammar.specs.Symbols.{symbol, symbol_of}
use Rattle.promql_span.specs.TokensBefore.{symbols_of_text}
use Rattle.promql_span.proofs.GoingOn.{no_token_goes_on}
use Rattle.promql_span.proofs.expected.goes_on.Goals as goal

pub returns-else-not-rejects : goal.returns-else-not-rejects
returns-else-not-rejects c = λ none front alike goes.
    let k = c.args.kind in
    let pieces = c.tokens_are_placed.ensures.pieces c.args.text.now in
    let all = c.ending_with-tokens.ensures.tokens ∙ ap (λ ts. map symbol_of ts ++ symbol k [] ∷ []) pieces in
    no_token_goes_on front (symbols_of_text c.args.text.now) k [] _ _ alike all (c.in_ok-rejects.ensures c.if-not-rejects.false) (sym c.is_empty.ensures ∙ none) goes
