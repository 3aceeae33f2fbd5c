use Rattle.std.proofs.Common.{true, false, ◌≡◌, ap, ◌∙◌, map, sym}
use Rattle.std.specs.Prelude.{not}
use Rattle.std.proofs.lemmas.List.{append-nil}
use Rattle.promql_grammar.specs.Symbols.{symbol_of}
use Rattle.promql_span.specs.TokensBefore.{symbols_of_text}
use Rattle.promql_span.proofs.GoingOn.{no_query, not_false}
use Rattle.promql_span.proofs.expected.is_query.Goals as goal

pub returns : goal.returns
returns c = λ none front alike query.
    let pieces = c.tokens_are_placed.ensures.pieces c.args.text.now in
    let all = c.ending_with-tokens.ensures.tokens ∙ append-nil _ ∙ ap (map symbol_of) pieces in
    let rejects : c.in_ok-rejects.rejects ≡ true = not_false c.in_ok-rejects.rejects (λ no. let both : true ≡ false = ap not (sym no) ∙ none in cc) in
    no_query front (symbols_of_text c.args.text.now) _ _ alike all (c.in_ok-rejects.ensures rejects) query
