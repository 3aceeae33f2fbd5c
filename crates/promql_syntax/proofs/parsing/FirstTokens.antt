-- What the first token of a base leads to.
use Rattle.std.proofs.Common.{◌≡◌, ℕ, Bool, true, false, true≢false, cond, refl, sym, ◌∙◌, ap, subst, List, [], ◌∷◌}
use Rattle.std.specs.Prelude.{◌||◌, Ok, Err}
use Rattle.promql_text.specs.Texts.{Text}
use Rattle.promql_grammar.specs.declared.token_kinds.TokenKind.{TokenKind}
use Rattle.promql_grammar.specs.declared.token_kinds.TokenKind.TheVariants as kind
use Rattle.promql_grammar.specs.Results.{◌then◌}
use Rattle.promql_grammar.specs.Symbols.{Symbol, punct, word, symbol, begins, may_be_name, may_be_called, is_plus_or_minus, is_word_operator}
use Rattle.promql_grammar.specs.Grammar.{Derivation, selector, unary}
use Rattle.promql_grammar.specs.Parsing.{Read, Reader, parse_unary, parse_selector, parse_call, parse_optional_braces, parse_postfixes, misfit}
use Rattle.promql_grammar.specs.OperatorTokens.{HasNoUnaryOperator}
use Rattle.promql_grammar.specs.Eating.{HasNo}
use Rattle.promql_syntax.specs.declared.grammar.parsed.ParsedExpr.{ParsedExpr}
use Rattle.promql_syntax.specs.ParsesExpr.{ParsesBase, ParsesExpr}
use Rattle.promql_syntax.specs.Atoms.{parse_atom, parse_named}

or_second : (a b : Bool) → b ≡ true → (a || b) ≡ true
or_second true b is = refl
or_second false b is = is

pub name_begins : (k : TokenKind) (text : Text) (ts : List Symbol) → may_be_name k ≡ true → begins (symbol k text ∷ ts) ≡ true
name_begins (kind.Operator op) text ts is = or_second (is_plus_or_minus op) (is_word_operator op) is
name_begins k text ts is = cc

pub called_name : (k : TokenKind) → may_be_called k ≡ true → may_be_name k ≡ true
called_name kind.Identifier is = refl
called_name kind.Start is = refl
called_name kind.End is = refl
called_name k is = cc

-- a base that begins with a function's name
pub called_first : (r : Reader) (k n : ℕ) (w : TokenKind) (text : Text) (ts : List Symbol) → may_be_called w ≡ true → parse_unary r k n (symbol w text ∷ ts) ≡ parse_call r k n w text ts
called_first r k n kind.Identifier text ts may = refl
called_first r k n kind.Start text ts may = refl
called_first r k n kind.End text ts may = refl
called_first r k n w text ts may = absurd (true≢false (sym may))

-- a word that is a name, or does not fit
named_word : (k n : ℕ) (w : TokenKind) (text : Text) (ts : List Symbol) → symbol w text ≡ word w text → parse_named k n w text ts ≡ parse_selector k n w text ts
named_word k n w text ts is = same (may_be_name w) _ (ap (λ s. Err (misfit (s ∷ ts))) is)
  where
    same : {A : Type 0} (b : Bool) (x : A) {y z : A} → y ≡ z → cond b (cond b x z) y ≡ cond b x z
    same true x e = refl
    same false x e = e

-- a base without expressions in it
pub leaf_first : (r : Reader) (k n : ℕ) (w : TokenKind) (text : Text) (ts : List Symbol) → may_be_called w ≡ false → ¬ (w ≡ kind.LeftParen) → ((op : ℕ) → ¬ (w ≡ kind.Aggregator op))
    → HasNoUnaryOperator (symbol w text ∷ ts) → parse_unary r k n (symbol w text ∷ ts) ≡ parse_atom k n w text ts
leaf_first r k n kind.Identifier text ts none paren aggregator no_sign = absurd (true≢false none)
leaf_first r k n kind.Start text ts none paren aggregator no_sign = absurd (true≢false none)
leaf_first r k n kind.End text ts none paren aggregator no_sign = absurd (true≢false none)
leaf_first r k n kind.LeftParen text ts none paren aggregator no_sign = absurd (paren refl)
leaf_first r k n (kind.Aggregator op) text ts none paren aggregator no_sign = absurd (aggregator op refl)
leaf_first r k n (kind.Operator op) text ts none paren aggregator no_sign =
    ap (λ b. cond b (r 6 ts then λ x. Ok (unary op text x.0, x.1)) (parse_selector k n (kind.Operator op) text ts)) no_sign
    ∙ sym (named_word k n (kind.Operator op) text ts refl)
leaf_first r k n w text ts none paren aggregator no_sign = refl

-- a word that isn't called
pub called_none : (r : Reader) (k n : ℕ) (w : TokenKind) (text : Text) (ts : List Symbol) → HasNo kind.LeftParen ts → parse_call r k n w text ts ≡ parse_selector k n w text ts
called_none r k n w text (punct kind.LeftParen ∷ ts) none = absurd (none refl)
called_none r k n w text ts none = refl

-- where a form was read, an expression may begin
abbrev IsOkRead : Read Derivation → Type 0
IsOkRead (Ok x) = Unit {0}
IsOkRead (Err e) = ⊥

named_begins : (k n : ℕ) (w : TokenKind) (text : Text) (ts : List Symbol) (may : Bool) → may_be_name w ≡ may → IsOkRead (cond may (parse_optional_braces ts then λ b. parse_postfixes k n (selector w text b.0) b.1) (Err (misfit (word w text ∷ ts)))) → may_be_name w ≡ true
named_begins k n w text ts true is ok = is
named_begins k n w text ts false is ok = absurd ok

word_begins : (w : TokenKind) (text : Text) (ts : List Symbol) → may_be_name w ≡ true → begins (word w text ∷ ts) ≡ true
word_begins (kind.Operator op) text ts is = or_second (is_plus_or_minus op) (is_word_operator op) is
word_begins w text ts is = cc

operator_begins : (op : ℕ) (text : Text) (ts : List Symbol) (r : Reader) (k n : ℕ) (signed : Bool) → is_plus_or_minus op ≡ signed
    → IsOkRead (cond signed (r 6 ts then λ x. Ok (unary op text x.0, x.1)) (parse_selector k n (kind.Operator op) text ts)) → begins (word (kind.Operator op) text ∷ ts) ≡ true
operator_begins op text ts r k n true is ok = ap (λ b. b || is_word_operator op) is
operator_begins op text ts r k n false is ok = word_begins (kind.Operator op) text ts (named_begins k n (kind.Operator op) text ts (may_be_name (kind.Operator op)) refl ok)

ok_begins : (r : Reader) (k n : ℕ) (ts : List Symbol) → IsOkRead (parse_unary r k n ts) → begins ts ≡ true
ok_begins r k n [] ok = absurd ok
ok_begins r k n (punct kind.LeftParen ∷ ts) ok = refl
ok_begins r k n (punct kind.LeftBrace ∷ ts) ok = refl
ok_begins r k n (punct w ∷ ts) ok = absurd ok
ok_begins r k n (word kind.Number text ∷ ts) ok = refl
ok_begins r k n (word kind.Duration text ∷ ts) ok = refl
ok_begins r k n (word kind.String text ∷ ts) ok = refl
ok_begins r k n (word (kind.Operator op) text ∷ ts) ok = operator_begins op text ts r k n (is_plus_or_minus op) refl ok
ok_begins r k n (word (kind.Aggregator op) text ∷ ts) ok = refl
ok_begins r k n (word kind.Identifier text ∷ ts) ok = refl
ok_begins r k n (word kind.Start text ∷ ts) ok = refl
ok_begins r k n (word kind.End text ∷ ts) ok = refl
ok_begins r k n (word w text ∷ ts) ok = word_begins w text ts (named_begins k n w text ts (may_be_name w) refl ok)

pub given_begins : {builds : Bool} {total : ℕ} (r : Reader) (k n : ℕ) (ts rest : List Symbol) (parsed : ParsedExpr) → ParsesExpr builds total parsed rest (parse_unary r k n ts) → begins ts ≡ true
given_begins r k n ts rest parsed given = ok_begins r k n ts (subst IsOkRead (sym given.is) tt)

pub base_begins : {builds : Bool} {total : ℕ} (r : Reader) (ts rest : List Symbol) (parsed : ParsedExpr) → ParsesBase builds total parsed rest (λ k n. parse_unary r k n ts) → begins ts ≡ true
base_begins r ts rest parsed base = ok_begins r 0 0 ts (subst IsOkRead (sym (base.is 0 0)) tt)
