use Rattle.std.proofs.Common.{◌≡◌, ◌∙◌, ◌&&◌, ◌∷◌, ap, not, rules, sym}
use Rattle.promql_token.specs.Cursor.{ends_in_fault, tokens_left}
use Rattle.promql_token.specs.Lexing.{tokens}
use Rattle.promql_rewrite.specs.Renamings.{is_nothing}
use Rattle.promql_rewrite.proofs.renamed.NameTokens.{named, not_named}
use Rattle.promql_rewrite.proofs.renaming.is_name.Goals as goal

pub returns-in-None : goal.returns-in-None
returns-in-None c =
    not_named c.args.text.now (tokens_left c.new-tokens.result) (ends_in_fault c.new-tokens.result) (tokens c.args.text.now) c.new-tokens.ensures.tokens c.in-None.ensures.tokens.0

pub returns-then-is_name_token : goal.returns-then-is_name_token
returns-then-is_name_token c =
    let text = c.args.text.now in
    let rest = tokens_left c.next.new.self in
    let fault = ends_in_fault c.next.new.self in
    let first : tokens_left c.new-tokens.result ≡ (c.in-Some.id, c.in-Some.word.now) ∷ rest = search (rules, c.in-Some.ensures.tokens, c.in-Some.id-is, c.in-Some.word-is) in
    c.is_at_end.ensures
    ∙ ap (λ b. b && (is_nothing rest && not fault)) (sym (sym c.is_name_token.ensures ∙ c.if-is_name_token.true))
    ∙ named text (tokens_left c.new-tokens.result) fault (tokens text) c.new-tokens.ensures.tokens
    (λ ts e. c.in-Some.ensures.fault ∙ c.new-tokens.ensures.whole ts e) (λ f e. c.in-Some.ensures.fault ∙ c.new-tokens.ensures.fault f e)
    (c.in-Some.id, c.in-Some.word.now) rest first
