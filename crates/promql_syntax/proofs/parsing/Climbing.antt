-- What the loop over operators keeps.
use Rattle.std.proofs.Common.{◌≡◌, ℕ, Bool, ◌&&◌, zero, suc, ◌+◌, ◌<◌, ◌≤◌, refl, sym, ◌∙◌, ap, arith, List, ◌∷◌, length}
use Rattle.std.specs.Prelude.{Ok, Err, is_ok}
use Rattle.std.proofs.lemmas.Bool.{cond_above, cond_below}
use Rattle.promql_text.specs.Texts.{Text}
use Rattle.promql_grammar.specs.declared.token_kinds.TokenKind.TheVariants as kind
use Rattle.promql_grammar.specs.Results.{◌then◌}
use Rattle.promql_grammar.specs.Symbols.{Symbol, word}
use Rattle.promql_grammar.specs.GrammarParts.{Modifier}
use Rattle.promql_grammar.specs.Grammar.{Derivation, binary, precedence, height}
use Rattle.promql_grammar.specs.Parsing.{Reader, right_precedence, parse_modifier, parse_unary, parse_operators, parse_expression, too_high}
use Rattle.promql_grammar.specs.OperatorTokens.{HasNoOperator, EatsOperator}
use Rattle.promql_grammar.specs.Failures.{Fails, Failure}
use Rattle.promql_syntax.specs.declared.grammar.parsed.ParsedExpr.{ParsedExpr}
use Rattle.promql_syntax.specs.ParsesExpr.{IsExprOf, ParsesExpr}
use Rattle.promql_syntax.specs.Placing.{left_after}
use Rattle.promql_syntax.proofs.parsing.Bases.{expression_length, followed_by, modifier_length}
use Rattle.promql_syntax.proofs.parsing.ReadErrorSteps.{fails_first}

expression_suc : (n m : ℕ) (ts : List Symbol) → parse_expression (suc n) m ts ≡ (parse_unary (parse_expression n) (length ts) (suc n) ts then λ x. parse_operators (parse_expression n) (length ts) n m x.0 x.1)
unfolding parse_expression
expression_suc n m ts = refl

expression_at : (max_height below m : ℕ) (ts : List Symbol) → max_height ≡ below + 1 → parse_expression max_height m ts ≡ (parse_unary (parse_expression below) (length ts) (below + 1) ts then λ x. parse_operators (parse_expression below) (length ts) below m x.0 x.1)
expression_at max_height below m ts under =
    let next : max_height ≡ suc below = omega arith in
    let same : suc below ≡ below + 1 = omega arith in
    ap (λ n. parse_expression n m ts) next ∙ expression_suc below m ts ∙ ap (λ i. parse_unary (parse_expression below) (length ts) i ts then λ x. parse_operators (parse_expression below) (length ts) below m x.0 x.1) same

pub expression_zero : (max_height m : ℕ) (ts : List Symbol) → max_height ≡ 0 → parse_expression max_height m ts ≡ Err too_high
unfolding parse_expression
expression_zero max_height m ts none = ap (λ n. parse_expression n m ts) none

pub expression_fails : (max_height below m : ℕ) (ts : List Symbol) (e : Failure) → max_height ≡ below + 1 → Fails e (parse_unary (parse_expression below) (length ts) (below + 1) ts) → Fails e (parse_expression max_height m ts)
expression_fails max_height below m ts e under fails =
    fails_first e (parse_unary (parse_expression below) (length ts) (below + 1) ts) (λ x. parse_operators (parse_expression below) (length ts) below m x.0 x.1) (parse_expression max_height m ts) (expression_at max_height below m ts under) fails

-- a left side was parsed, and parsing goes on after it
pub record Climbing (builds : Bool) (n max_height below m : ℕ) (all : List Symbol) (left : ParsedExpr) (rest : List Symbol) : Type 0 where
  pub derivation : Derivation
  pub turns : ℕ
  pub enough : length rest ≤ turns
  pub built : IsExprOf builds n (length rest) left derivation
  pub goes : parse_expression max_height m all ≡ parse_operators (parse_expression below) turns below m derivation rest

pub climbing_first : {builds : Bool} (n max_height below m : ℕ) (all : List Symbol) (left : ParsedExpr) (rest : List Symbol) → max_height ≡ below + 1 → ParsesExpr builds n left rest (parse_unary (parse_expression below) (length all) (below + 1) all) → length rest ≤ length all → Climbing builds n max_height below m all left rest
climbing_first n max_height below m all left rest under given short = record {
  derivation = given.derivation;
  turns = length all;
  enough = short;
  built = given.built;
  goes = expression_at max_height below m all under ∙ ap (λ o. o then λ x. parse_operators (parse_expression below) (length all) below m x.0 x.1) given.is;
}

climb_stops : (r : Reader) (k n m : ℕ) (d : Derivation) (ts : List Symbol) → HasNoOperator m ts → parse_operators r k n m d ts ≡ Ok (d, ts)
climb_stops r zero n m d ts stop = refl
climb_stops r (suc k) n m d (word (kind.Operator op) text ∷ ts) stop = sym (cond_below (precedence op) m (Ok (d, word (kind.Operator op) text ∷ ts)) _ stop)
climb_stops r (suc k) n m d ts stop = refl

-- no operator follows
pub climbing_stops : {builds : Bool} (n max_height below m : ℕ) (all ts : List Symbol) (left : ParsedExpr) → Climbing builds n max_height below m all left ts → HasNoOperator m ts → ParsesExpr builds n left ts (parse_expression max_height m all)
climbing_stops n max_height below m all ts left climbing stop = record {
  derivation = climbing.derivation;
  is = climbing.goes ∙ climb_stops (parse_expression below) climbing.turns below m climbing.derivation ts stop;
  built = climbing.built;
}

climb_deep : (r : Reader) (k n m op : ℕ) (d : Derivation) (ts us : List Symbol) → EatsOperator m op ts us → length ts ≤ k → n < height d → parse_operators r k n m d ts ≡ Err too_high
climb_deep r zero n m op d ts us takes turns high = absurd (omega (arith, ap length takes.first))
climb_deep r (suc k) n m op d ts us takes turns high =
    ap (parse_operators r (suc k) n m d) takes.first ∙ sym (cond_above (precedence op) m (Ok (d, word (kind.Operator op) takes.text ∷ us)) _ _ takes.least refl) ∙ sym (cond_below n (height d) (Err too_high) _ high)

climb_on : (r : Reader) (k n m op : ℕ) (d : Derivation) (ts us : List Symbol) (takes : EatsOperator m op ts us) → length ts ≤ k → height d ≤ n
    → (j : ℕ) × (length us ≤ j) × (parse_operators r k n m d ts ≡ (parse_modifier us then λ y. r (right_precedence op) y.1 then λ x. parse_operators r j n m (binary op takes.text y.0 d x.0) x.1))
climb_on r zero n m op d ts us takes turns low = absurd (omega (arith, ap length takes.first))
climb_on r (suc k) n m op d ts us takes turns low = (
  k,
  omega (arith, ap length takes.first),
  ap (parse_operators r (suc k) n m d) takes.first ∙ sym (cond_above (precedence op) m (Ok (d, word (kind.Operator op) takes.text ∷ us)) _ _ takes.least refl) ∙ sym (cond_above n (height d) (Err too_high) _ _ low refl),
)

module _ {builds : Bool} (n max_height below m : ℕ) (all ts : List Symbol) (left : ParsedExpr) (climbing : Climbing builds n max_height below m all left ts) (op : ℕ) (us : List Symbol) (takes : EatsOperator m op ts us) where
  -- what is before the operator is too high
  pub climbing_deep : below < left.height → parse_expression max_height m all ≡ Err too_high
  climbing_deep high =
      let so_far = climbing.built in
      let tall = so_far.tall in
      climbing.goes ∙ climb_deep (parse_expression below) climbing.turns below m op climbing.derivation ts us takes climbing.enough (omega arith)

  -- the modifier fails
  pub climbing_unmodified : (e : Failure) → left.height ≤ below → Fails e (parse_modifier us) → Fails e (parse_expression max_height m all)
  climbing_unmodified e low fails =
      let so_far = climbing.built in
      let tall = so_far.tall in
      let step = climb_on (parse_expression below) climbing.turns below m op climbing.derivation ts us takes climbing.enough (omega arith) in
      fails_first e (parse_modifier us) (λ y. parse_expression below (right_precedence op) y.1 then λ x. parse_operators (parse_expression below) step.0 below m (binary op takes.text y.0 climbing.derivation x.0) x.1) (parse_expression max_height m all) (climbing.goes ∙ step.2) fails

  module _ (modifier : Modifier) (vs : List Symbol) (modified : parse_modifier us ≡ Ok (modifier, vs)) where
    -- the right side fails
    pub climbing_fails : (e : Failure) → left.height ≤ below → Fails e (parse_expression below (right_precedence op) vs) → Fails e (parse_expression max_height m all)
    climbing_fails e low fails =
        let so_far = climbing.built in
        let tall = so_far.tall in
        let step = climb_on (parse_expression below) climbing.turns below m op climbing.derivation ts us takes climbing.enough (omega arith) in
        fails_first e (parse_expression below (right_precedence op) vs) (λ x. parse_operators (parse_expression below) step.0 below m (binary op takes.text modifier climbing.derivation x.0) x.1) (parse_expression max_height m all)
        (climbing.goes ∙ step.2 ∙ ap (λ o. o then λ y. parse_expression below (right_precedence op) y.1 then λ x. parse_operators (parse_expression below) step.0 below m (binary op takes.text y.0 climbing.derivation x.0) x.1) modified) fails

    pub climbing_on : (ws : List Symbol) (right made : ParsedExpr) → left.height ≤ below → (given : ParsesExpr (builds && is_ok left.value) n right ws (parse_expression below (right_precedence op) vs))
        → ((text : Text) (l : Derivation) → IsExprOf builds n (left_after (length ws) modifier given.derivation) left l → IsExprOf (builds && is_ok left.value) n (length ws) right given.derivation → IsExprOf builds n (length ws) made (binary op text modifier l given.derivation)) → Climbing builds n max_height below m all made ws
    climbing_on ws right made low given built =
        let so_far = climbing.built in
        let tall = so_far.tall in
        let step = climb_on (parse_expression below) climbing.turns below m op climbing.derivation ts us takes climbing.enough (omega arith) in
        let modifier_taken = modifier_length us vs modifier modified in
        let right_taken = expression_length below (right_precedence op) vs ws given.derivation given.is in
        record {
          derivation = binary op takes.text modifier climbing.derivation given.derivation;
          turns = step.0;
          enough = omega (arith, step.1, modifier_taken, right_taken);
          built = built takes.text climbing.derivation
              (followed_by n (length ts) (left_after (length ws) modifier given.derivation) left climbing.derivation (omega (arith, ap length takes.first, modifier_taken, right_taken)) climbing.built) given.built;
          goes = climbing.goes ∙ step.2
              ∙ ap (λ o. o then λ y. parse_expression below (right_precedence op) y.1 then λ x. parse_operators (parse_expression below) step.0 below m (binary op takes.text y.0 climbing.derivation x.0) x.1) modified
              ∙ ap (λ o. o then λ x. parse_operators (parse_expression below) step.0 below m (binary op takes.text modifier climbing.derivation x.0) x.1) given.is;
        }
