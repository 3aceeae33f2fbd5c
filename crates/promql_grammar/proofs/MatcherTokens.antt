-- What the tokens of a matcher are parsed as.
use Rattle.std.proofs.Common.{◌≡◌, refl, sym, ◌∙◌, ap, Bool, true, false, Some, None, List, ◌∷◌}
use Rattle.std.specs.Prelude.{ℕ, Ok, ◌==◌, option_map}
use Rattle.std.proofs.lemmas.Bool.{cond-true, cond-false}
use Rattle.promql_text.specs.Texts.{Text}
use Rattle.promql_grammar.specs.declared.matcher_tokens.MatchOperator as code
use Rattle.promql_grammar.specs.declared.matcher_tokens.MatchOperator.TheVariants as operators
use Rattle.promql_grammar.specs.declared.token_kinds.TokenKind.{TokenKind}
use Rattle.promql_grammar.specs.declared.token_kinds.TokenKind.TheVariants as kind
use Rattle.promql_grammar.specs.Symbols.{Symbol, punct, word, symbol}
use Rattle.promql_grammar.specs.GrammarParts.{equal, not_equal, equal_regex, not_equal_regex}
use Rattle.promql_grammar.specs.Parsing.{parse_match_operator}
use Rattle.promql_grammar.specs.Eating.{HasNo}
use Rattle.promql_grammar.specs.MatcherTokens.{operator_of_part, match_operator_of, IsMatchOperator, ParsesItemEnd, joins, parse_item_end}
use Rattle.promql_token.specs.declared.ids.TheConstants.{T_NEQ}

operator_token : (op : ℕ) (t : Text) (ts : List Symbol) (o : code.MatchOperator) (b : Bool) → (op == T_NEQ) ≡ b → Some o ≡ option_map operator_of_part (match_operator_of (kind.Operator op) t) → IsMatchOperator o ts (parse_match_operator (word (kind.Operator op) t ∷ ts))
operator_token op t ts o true is some = record {
  operator = not_equal t;
  is = cond-true (op == T_NEQ) _ _ is;
  same = let same : Some o ≡ Some operators.NotEqual = some ∙ ap (option_map operator_of_part) (cond-true (op == T_NEQ) _ _ is) in cc;
}
operator_token op t ts o false is some = let none : Some o ≡ None = some ∙ ap (option_map operator_of_part) (cond-false (op == T_NEQ) _ _ is) in cc

pub match_operator : (k : TokenKind) (t : Text) (ts : List Symbol) (o : code.MatchOperator) → Some o ≡ option_map operator_of_part (match_operator_of k t) → IsMatchOperator o ts (parse_match_operator (symbol k t ∷ ts))
match_operator kind.Equal t ts o some = record { operator = equal; is = refl; same = cc }
match_operator kind.EqualRegex t ts o some = record { operator = equal_regex; is = refl; same = cc }
match_operator kind.NotEqualRegex t ts o some = record { operator = not_equal_regex; is = refl; same = cc }
match_operator (kind.Operator op) t ts o some = operator_token op t ts o (op == T_NEQ) refl some
match_operator k t ts o some = cc

no_operator_token : (op : ℕ) (t : Text) (ts : List Symbol) (b : Bool) → (op == T_NEQ) ≡ b → None ≡ option_map operator_of_part (match_operator_of (kind.Operator op) t) → parse_match_operator (word (kind.Operator op) t ∷ ts) ≡ Ok (None, word (kind.Operator op) t ∷ ts)
no_operator_token op t ts true is none = let some : None ≡ Some operators.NotEqual = none ∙ ap (option_map operator_of_part) (cond-true (op == T_NEQ) _ _ is) in cc
no_operator_token op t ts false is none = cond-false (op == T_NEQ) _ _ is

pub no_match_operator : (k : TokenKind) (t : Text) (ts : List Symbol) → None ≡ option_map operator_of_part (match_operator_of k t) → parse_match_operator (symbol k t ∷ ts) ≡ Ok (None, symbol k t ∷ ts)
no_match_operator kind.Equal t ts none = cc
no_match_operator kind.EqualRegex t ts none = cc
no_match_operator kind.NotEqualRegex t ts none = cc
no_match_operator (kind.Operator op) t ts none = no_operator_token op t ts (op == T_NEQ) refl none
no_match_operator k t ts none = refl

-- a comma that no closing brace follows joins the next matcher
pub comma_joins : (ts us : List Symbol) → HasNo kind.RightBrace ts → us ≡ ts → ParsesItemEnd (Some false) us (parse_item_end (punct kind.Comma ∷ ts))
comma_joins (punct kind.RightBrace ∷ ts) us none same = absurd (none refl)
comma_joins ts us none same = record { end = joins None; is = ap (λ us. Ok (joins None, us)) (sym same); same = refl }
