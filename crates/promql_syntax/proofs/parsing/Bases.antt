-- Bases: what is read up to their postfixes, by their first token.
use Rattle.std.proofs.Common.{◌≡◌, ℕ, ◌+◌, ◌<◌, ◌^◌, Bool, true, false, ◌≤◌, cond, refl, sym, ◌∙◌, ap, subst, arith, List, [], ◌∷◌, length, Some, None}
use Rattle.std.proofs.lemmas.List.{length-append}
use Rattle.std.specs.Prelude.{Result, Ok, Err, MatchResult, option_map}
use Rattle.promql_text.specs.Texts.{Text}
use Rattle.promql_grammar.specs.OperatorTokens.{EatsUnaryOperator}
use Rattle.promql_grammar.specs.Eating.{HasNo}
use Rattle.promql_grammar.specs.Failures.{Fails, Failure}
use Rattle.promql_grammar.specs.PartTokens.{HasNoGrouping, StartsGrouping}
use Rattle.promql_kind.specs.ModifierViews.{clause_of}
use Rattle.promql_grammar.specs.declared.token_kinds.TokenKind.{TokenKind}
use Rattle.promql_grammar.specs.declared.token_kinds.TokenKind.TheVariants as kind
use Rattle.promql_grammar.specs.declared.read_error.ReadError.{ReadError}
use Rattle.promql_grammar.specs.declared.read_error.ReadError.TheVariants.{Memory, Syntax, TooDeep}
use Rattle.promql_grammar.specs.Results.{◌then◌}
use Rattle.promql_grammar.specs.Symbols.{Symbol, punct, word, symbol}
use Rattle.promql_grammar.specs.Grammar as grammar
use Rattle.promql_grammar.specs.Grammar.{yield}
use Rattle.promql_grammar.specs.GrammarParts as part
use Rattle.promql_grammar.specs.GrammarParts.{yield_after, yield_modifier, yield_postfix}
use Rattle.promql_grammar.specs.Parsing.{Read, Reader, parse_unary, parse_paren_end, parse_call, parse_selector, parse_aggregate, parse_grouped_aggregate, parse_arguments, parse_labels, parse_grouping, parse_postfixes, parse_modifier, parse_postfix, parse_expression, misfit}
use Rattle.promql_grammar.proofs.Sound.{Good, expression_sound}
use Rattle.promql_grammar.proofs.SoundParts.{Any, IsAfter, IsModifierBefore, Takes, clause_taken, modifier_taken, postfix_taken, yield_any_postfix}
use Rattle.promql_syntax.specs.declared.grammar.parsed.ParsedExpr.{ParsedExpr}
use Rattle.promql_syntax.specs.declared.grammar.parsed.ParsedArgs.{ParsedArgs}
use Rattle.promql_syntax.specs.BuildErrors.{view_result}
use Rattle.promql_syntax.specs.FaultTokens.{subexpressions, subexpressions_of}
use Rattle.promql_syntax.specs.ParsesExpr.{IsExprOf, AreArgsOf, IsPlaced, ParsesExpr, ParsesArgs, ParsesBase, FailsBase}
use Rattle.promql_syntax.specs.ParsesPart.{ParsesPart}
use Rattle.promql_syntax.proofs.parsing.ReadErrorSteps.{fails_same, fails_first}
use Rattle.promql_syntax.specs.PartWords.{clause_value}

-- ---- how many tokens are taken

taken_length : {A : Type 0} (spells : A → List Symbol) (holds : A → List Symbol → Type 0) (ts us : List Symbol) (o : Read A) (x : A) → o ≡ Ok (x, us) → Takes spells holds ts o → length ts ≡ length (spells x) + length us
taken_length spells holds ts us o x is takes =
    let took = subst (Takes spells holds ts) is takes in
    ap length took.0 ∙ length-append (spells x) us

pub clause_length : (ts us : List Symbol) (c : part.Clause) → parse_grouping ts ≡ Ok (c, us) → length ts ≡ length (yield_after c) + length us
clause_length ts us c is = taken_length yield_after (λ x us. IsAfter x) ts us (parse_grouping ts) c is (clause_taken ts)

pub modifier_length : (ts us : List Symbol) (m : part.Modifier) → parse_modifier ts ≡ Ok (m, us) → length ts ≡ length (yield_modifier m) + length us
modifier_length ts us m is = taken_length yield_modifier IsModifierBefore ts us (parse_modifier ts) m is (modifier_taken ts)

pub postfix_length : (ts us : List Symbol) (p : part.Postfix) → parse_postfix ts ≡ Ok (Some p, us) → length ts ≡ length (yield_postfix p) + length us
postfix_length ts us p is = taken_length yield_any_postfix (λ x us. Any x) ts us (parse_postfix ts) (Some p) is (postfix_taken ts)

pub no_postfix_taken : (ts us : List Symbol) → parse_postfix ts ≡ Ok (None, us) → ts ≡ us
no_postfix_taken ts us none = let took = subst (Takes yield_any_postfix (λ x us. Any x) ts) none (postfix_taken ts) in took.0

pub expression_length : (h m : ℕ) (ts us : List Symbol) (d : grammar.Derivation) → parse_expression h m ts ≡ Ok (d, us) → length ts ≡ length (yield d) + length us
expression_length h m ts us d is =
    let read = subst (Good h m ts) is ((expression_sound h).by m ts) in
    ap length read.spells ∙ length-append (yield d) us

-- ---- the same base by another name

-- what is counted otherwise, and is as many
pub recount : {builds : Bool} {k : ℕ} (n m : ℕ) (parsed : ParsedExpr) (d : grammar.Derivation) → (n < 2 ^ 64 → m ≡ n) → IsExprOf builds m k parsed d → IsExprOf builds n k parsed d
recount {builds} {k} n m parsed d same is = record {
  tall = is.tall;
  built = is.built;
  placed = λ on fits. subst (λ j. IsPlaced j (subexpressions k d) parsed.value) (same fits) (is.placed on (subst (λ j. j < 2 ^ 64) (sym (same fits)) fits));
}

pub recounted : {builds : Bool} (n m : ℕ) (parsed : ParsedExpr) (rest : List Symbol) (read : Read grammar.Derivation) → (n < 2 ^ 64 → m ≡ n) → ParsesExpr builds m parsed rest read → ParsesExpr builds n parsed rest read
recounted n m parsed rest read same given = record { derivation = given.derivation; is = given.is; built = recount n m parsed given.derivation same given.built }

pub recounted_args : {builds : Bool} (n m : ℕ) (args : ParsedArgs) (ts rest : List Symbol) (read : Read grammar.Arguments) → (n < 2 ^ 64 → m ≡ n) → ParsesArgs builds m args ts rest read → ParsesArgs builds n args ts rest read
recounted_args {builds} n m args ts rest read same given =
    let before = given.built in
    record {
      derivations = given.derivations;
      is = given.is;
      taken = given.taken;
      built = record {
        tall = before.tall;
        built = before.built;
        placed = λ on fits. subst (λ j. IsPlaced j (subexpressions_of (1 + length rest) given.derivations) args.value) (same fits) (before.placed on (subst (λ j. j < 2 ^ 64) (sym (same fits)) fits));
      };
    }

-- as many tokens come after it, told otherwise
pub followed_by : {builds : Bool} (n k j : ℕ) (parsed : ParsedExpr) (d : grammar.Derivation) → k ≡ j → IsExprOf builds n k parsed d → IsExprOf builds n j parsed d
followed_by {builds} n k j parsed d same is = subst (λ i. IsExprOf builds n i parsed d) same is

pub all_followed_by : {builds : Bool} (n k j : ℕ) (args : ParsedArgs) (ds : grammar.Arguments) → k ≡ j → AreArgsOf builds n k args ds → AreArgsOf builds n j args ds
all_followed_by {builds} n k j args ds same are = subst (λ i. AreArgsOf builds n i args ds) same are

-- one count after another
pub counted_on : (a b c : ℕ) → (a < 2 ^ 64 → b ≡ a) → (b < 2 ^ 64 → c ≡ b) → a < 2 ^ 64 → c ≡ a
counted_on a b c first next fits = next (subst (λ j. j < 2 ^ 64) (sym (first fits)) fits) ∙ first fits

base_same : {builds : Bool} (n m : ℕ) (parsed : ParsedExpr) (rest : List Symbol) (read other : ℕ → ℕ → Read grammar.Derivation) → (n < 2 ^ 64 → m ≡ n) → ((k h : ℕ) → other k h ≡ read k h) → ParsesBase builds m parsed rest read → ParsesBase builds n parsed rest other
base_same n m parsed rest read other counts same base = record {
  derivation = base.derivation;
  is = λ k h. same k h ∙ base.is k h;
  built = recount n m parsed base.derivation counts base.built;
}

pub recounted_base : {builds : Bool} (n m : ℕ) (parsed : ParsedExpr) (rest : List Symbol) (read : ℕ → ℕ → Read grammar.Derivation) → (n < 2 ^ 64 → m ≡ n) → ParsesBase builds m parsed rest read → ParsesBase builds n parsed rest read
recounted_base n m parsed rest read counts base = base_same n m parsed rest read read counts (λ k h. refl) base

pub bases_same : (builds : Bool) (n m : ℕ) (result : Result ParsedExpr ReadError) (rest : List Symbol) (read : ℕ → ℕ → Read grammar.Derivation) → (n < 2 ^ 64 → m ≡ n) → (other : ℕ → ℕ → Read grammar.Derivation) → ((k h : ℕ) → other k h ≡ read k h)
    → MatchResult result (λ parsed. ParsesBase builds m parsed rest read) (λ e. FailsBase (e, rest) read) → MatchResult result (λ parsed. ParsesBase builds n parsed rest other) (λ e. FailsBase (e, rest) other)
bases_same builds n m (Ok parsed) rest read counts other same base = base_same n m parsed rest read other counts same base
bases_same builds n m (Err e) rest read counts other same fails = λ k h. fails_same (e, rest) (read k h) (other k h) (same k h) (fails k h)

-- a base, and its postfixes
pub postfixed_given : {builds : Bool} (n : ℕ) (result : Result ParsedExpr ReadError) (base : ParsedExpr) (rest new : List Symbol) (read : ℕ → ℕ → Read grammar.Derivation) (k h : ℕ) → ParsesBase builds n base rest read → length rest ≤ k
    → ((d : grammar.Derivation) (j : ℕ) → IsExprOf builds n (length rest) base d → length rest ≤ j → MatchResult result (λ parsed. ParsesExpr builds n parsed new (parse_postfixes j h d rest)) (λ e. Fails (e, new) (parse_postfixes j h d rest)))
    → MatchResult result (λ parsed. ParsesExpr builds n parsed new (read k h)) (λ e. Fails (e, new) (read k h))
postfixed_given {builds} n result base rest new read k h is enough gives =
    subst (λ r. MatchResult result (λ parsed. ParsesExpr builds n parsed new r) (λ e. Fails (e, new) r)) (sym (is.is k h)) (gives is.derivation k is.built enough)

-- ---- unary operators

sign_read : (r : Reader) (k n op : ℕ) (ts us : List Symbol) (takes : EatsUnaryOperator op ts us) → parse_unary r k n ts ≡ (r 6 us then λ x. Ok (grammar.unary op takes.text x.0, x.1))
sign_read r k n op ts us takes =
    ap (parse_unary r k n) takes.first ∙ ap (λ b. cond b (r 6 us then λ x. Ok (grammar.unary op takes.text x.0, x.1)) (parse_selector k n (kind.Operator op) takes.text us)) takes.is_unary

pub sign_fails : (r : Reader) (k n op : ℕ) (ts us : List Symbol) (e : Failure) → EatsUnaryOperator op ts us → Fails e (r 6 us) → Fails e (parse_unary r k n ts)
sign_fails r k n op ts us e takes fails = fails_first e (r 6 us) (λ x. Ok (grammar.unary op takes.text x.0, x.1)) (parse_unary r k n ts) (sign_read r k n op ts us takes) fails

pub sign_given : {builds : Bool} (total : ℕ) (r : Reader) (k n op : ℕ) (ts us vs : List Symbol) (operand made : ParsedExpr) → EatsUnaryOperator op ts us → ParsesExpr builds total operand vs (r 6 us)
    → ((text : Text) (d : grammar.Derivation) → IsExprOf builds total (length vs) operand d → IsExprOf builds total (length vs) made (grammar.unary op text d)) → ParsesExpr builds total made vs (parse_unary r k n ts)
sign_given total r k n op ts us vs operand made takes given built = record {
  derivation = grammar.unary op takes.text given.derivation;
  is = sign_read r k n op ts us takes ∙ ap (λ o. o then λ x. Ok (grammar.unary op takes.text x.0, x.1)) given.is;
  built = built takes.text given.derivation given.built;
}

-- ---- parentheses

closing_none : (k n : ℕ) (d : grammar.Derivation) (us : List Symbol) → HasNo kind.RightParen us → parse_paren_end k n d us ≡ Err (misfit us)
closing_none k n d (punct kind.RightParen ∷ us) none = absurd (none refl)
closing_none k n d us none = refl

module _ (r : Reader) (text : Text) (all ts : List Symbol) (front : all ≡ symbol kind.LeftParen text ∷ ts) where
  paren_read : (k n : ℕ) → parse_unary r k n all ≡ (r 0 ts then λ x. parse_paren_end k n x.0 x.1)
  paren_read k n = ap (parse_unary r k n) front

  pub paren_fails : (e : Failure) → Fails e (r 0 ts) → FailsBase e (λ k n. parse_unary r k n all)
  paren_fails e fails = λ k n. fails_first e (r 0 ts) (λ x. parse_paren_end k n x.0 x.1) (parse_unary r k n all) (paren_read k n) fails

  pub paren_open : {builds : Bool} {total : ℕ} (inner : ParsedExpr) (us : List Symbol) → ParsesExpr builds total inner us (r 0 ts) → HasNo kind.RightParen us → FailsBase (Syntax, us) (λ k n. parse_unary r k n all)
  paren_open inner us given none = λ k n. paren_read k n ∙ ap (λ o. o then λ x. parse_paren_end k n x.0 x.1) given.is ∙ closing_none k n given.derivation us none

  pub paren_base : {builds : Bool} (n : ℕ) (inner made : ParsedExpr) (us vs : List Symbol) → ParsesExpr builds n inner us (r 0 ts) → us ≡ punct kind.RightParen ∷ vs → ((d : grammar.Derivation) → IsExprOf builds n (1 + length vs) inner d → IsExprOf builds n (length vs) made (grammar.paren d))
      → ParsesBase builds n made vs (λ k h. parse_unary r k h all)
  paren_base {builds} n inner made us vs given close built = record {
    derivation = grammar.paren given.derivation;
    is = λ k h. paren_read k h ∙ ap (λ o. o then λ x. parse_paren_end k h x.0 x.1) given.is ∙ ap (parse_paren_end k h given.derivation) close;
    built = built given.derivation (followed_by n (length us) (1 + length vs) inner given.derivation (omega (arith, ap length close)) given.built);
  }

-- ---- calls

module _ (r : Reader) (w : TokenKind) (text : Text) (all ts : List Symbol) (front : all ≡ punct kind.LeftParen ∷ ts) where
  called_read : (k n : ℕ) → parse_call r k n w text all ≡ (parse_arguments r ts then λ y. parse_postfixes k n (grammar.call w text y.0) y.1)
  called_read k n = ap (parse_call r k n w text) front

  pub call_fails : (e : Failure) → Fails e (parse_arguments r ts) → FailsBase e (λ k n. parse_call r k n w text all)
  call_fails e fails = λ k n. fails_first e (parse_arguments r ts) (λ y. parse_postfixes k n (grammar.call w text y.0) y.1) (parse_call r k n w text all) (called_read k n) fails

  pub call_base : {builds : Bool} (n : ℕ) (args : ParsedArgs) (made : ParsedExpr) (us : List Symbol) (given : ParsesArgs builds n args ts us (parse_arguments r ts)) → (AreArgsOf builds n (1 + length us) args given.derivations → IsExprOf builds n (length us) made (grammar.call w text given.derivations))
      → ParsesBase builds n made us (λ k h. parse_call r k h w text all)
  call_base n args made us given built = record {
    derivation = grammar.call w text given.derivations;
    is = λ k h. called_read k h ∙ ap (λ o. o then λ y. parse_postfixes k h (grammar.call w text y.0) y.1) given.is;
    built = built given.built;
  }

-- ---- aggregations

pub aggregated_none : (r : Reader) (k n op : ℕ) (text : Text) (ts : List Symbol) → HasNo kind.LeftParen ts → HasNoGrouping ts → parse_aggregate r k n op text ts ≡ parse_selector k n (kind.Aggregator op) text ts
aggregated_none r k n op text (punct kind.LeftParen ∷ ts) no_paren no_clause = absurd (no_paren refl)
aggregated_none r k n op text (word kind.By u ∷ ts) no_paren no_clause = absurd no_clause
aggregated_none r k n op text (word kind.Without u ∷ ts) no_paren no_clause = absurd no_clause
aggregated_none r k n op text ts no_paren no_clause = refl

-- the arguments first
module _ (r : Reader) (op : ℕ) (text : Text) (all ts : List Symbol) (front : all ≡ punct kind.LeftParen ∷ ts) where
  after_read : (k n : ℕ) → parse_aggregate r k n op text all ≡ (parse_arguments r ts then λ y. parse_grouping y.1 then λ c. parse_postfixes k n (grammar.aggregate op text c.0 y.0) c.1)
  after_read k n = ap (parse_aggregate r k n op text) front

  pub after_fails : (e : Failure) → Fails e (parse_arguments r ts) → FailsBase e (λ k n. parse_aggregate r k n op text all)
  after_fails e fails = λ k n. fails_first e (parse_arguments r ts) (λ y. parse_grouping y.1 then λ c. parse_postfixes k n (grammar.aggregate op text c.0 y.0) c.1) (parse_aggregate r k n op text all) (after_read k n) fails

  module _ {builds : Bool} {total : ℕ} (args : ParsedArgs) (us : List Symbol) (given : ParsesArgs builds total args ts us (parse_arguments r ts)) where
    after_given : (k n : ℕ) → parse_aggregate r k n op text all ≡ (parse_grouping us then λ c. parse_postfixes k n (grammar.aggregate op text c.0 given.derivations) c.1)
    after_given k n = after_read k n ∙ ap (λ o. o then λ y. parse_grouping y.1 then λ c. parse_postfixes k n (grammar.aggregate op text c.0 y.0) c.1) given.is

    pub after_clause_fails : (e : Failure) → Fails e (parse_grouping us) → FailsBase e (λ k n. parse_aggregate r k n op text all)
    after_clause_fails e fails = λ k n. fails_first e (parse_grouping us) (λ c. parse_postfixes k n (grammar.aggregate op text c.0 given.derivations) c.1) (parse_aggregate r k n op text all) (after_given k n) fails

    pub after_base : (held : _) (vs : List Symbol) (made : ParsedExpr) → ParsesPart (option_map clause_of) clause_value held vs (parse_grouping us)
        → ((t : Text) (c : part.Clause) (ds : grammar.Arguments) → view_result (option_map clause_of) held ≡ clause_value c → AreArgsOf builds total (1 + (length (yield_after c) + length vs)) args ds → IsExprOf builds total (length vs) made (grammar.aggregate op t c ds)) → ParsesBase builds total made vs (λ k n. parse_aggregate r k n op text all)
    after_base held vs made clause built = record {
      derivation = grammar.aggregate op text clause.part given.derivations;
      is = λ k n. after_given k n ∙ ap (λ o. o then λ c. parse_postfixes k n (grammar.aggregate op text c.0 given.derivations) c.1) clause.is;
      built = built text clause.part given.derivations clause.built (all_followed_by total (1 + length us) (1 + (length (yield_after clause.part) + length vs)) args given.derivations (omega (arith, clause_length us vs clause.part clause.is)) given.built);
    }

-- the grouping of an aggregation, before its arguments
record IsBefore (r : Reader) (op : ℕ) (text : Text) (ts us : List Symbol) (c : part.Clause) : Type 0 where
  grouping : part.Grouping
  value : clause_value c ≡ clause_value (Some (true, grouping))
  is : (k n : ℕ) → parse_aggregate r k n op text ts ≡ parse_grouped_aggregate r k n op text grouping us

clause_read : Read part.Clause → part.Clause
clause_read (Ok x) = x.0
clause_read (Err e) = None

left_read : Read part.Clause → List Symbol
left_read (Ok x) = x.1
left_read (Err e) = []

by_before : (r : Reader) (op : ℕ) (text : Text) (ts us : List Symbol) (c : part.Clause) (o : Read part.Labels) (g : part.Labels → part.Grouping)
    → ◌then◌ {B = part.Clause × List Symbol} o (λ l. Ok (Some (false, (g l.0)), l.1)) ≡ Ok (c, us) → ((k n : ℕ) → parse_aggregate r k n op text ts ≡ (o then λ l. parse_grouped_aggregate r k n op text (g l.0) l.1)) → IsBefore r op text ts us c
unfolding clause_read left_read
by_before r op text ts us c (Ok l) g is reads =
    let same : Some (false, (g l.0)) ≡ c = ap clause_read is in
    let left : l.1 ≡ us = ap left_read is in
    record { grouping = g l.0; value = ap clause_value (sym same); is = λ k n. reads k n ∙ ap (parse_grouped_aggregate r k n op text (g l.0)) left }
by_before r op text ts us c (Err e) g is reads = cc

before_read : (r : Reader) (op : ℕ) (text : Text) (ts us : List Symbol) (c : part.Clause) → StartsGrouping ts → parse_grouping ts ≡ Ok (c, us) → IsBefore r op text ts us c
before_read r op text (word kind.By u ∷ ts) us c begins is = by_before r op text (word kind.By u ∷ ts) us c (parse_labels ts) (λ l. (true, u, l)) is (λ k n. refl)
before_read r op text (word kind.Without u ∷ ts) us c begins is = by_before r op text (word kind.Without u ∷ ts) us c (parse_labels ts) (λ l. (false, u, l)) is (λ k n. refl)
before_read r op text ts us c begins is = absurd begins

labels_fail : (e : Failure) (o : Read part.Labels) (g : part.Labels → part.Clause) → Fails {A = part.Clause × List Symbol} e (◌then◌ {B = part.Clause × List Symbol} o (λ l. Ok (g l.0, l.1))) → Fails e o
labels_fail (Memory, rest) o g fails = tt
labels_fail (Syntax, rest) (Ok l) g fails = cc
labels_fail (Syntax, rest) (Err d) g fails = cc
labels_fail (TooDeep, rest) (Ok l) g fails = cc
labels_fail (TooDeep, rest) (Err d) g fails = cc

pub before_fails : (r : Reader) (op : ℕ) (text : Text) (ts : List Symbol) (e : Failure) → StartsGrouping ts → Fails e (parse_grouping ts) → FailsBase e (λ k n. parse_aggregate r k n op text ts)
before_fails r op text (word kind.By u ∷ ts) e begins fails = λ k n. fails_first e (parse_labels ts) (λ l. parse_grouped_aggregate r k n op text (true, u, l.0) l.1) _ refl (labels_fail e (parse_labels ts) (λ l. Some (false, (true, u, l))) fails)
before_fails r op text (word kind.Without u ∷ ts) e begins fails = λ k n. fails_first e (parse_labels ts) (λ l. parse_grouped_aggregate r k n op text (false, u, l.0) l.1) _ refl (labels_fail e (parse_labels ts) (λ l. Some (false, (false, u, l))) fails)
before_fails r op text ts e begins fails = absurd begins

grouped_none : (r : Reader) (k n op : ℕ) (text : Text) (g : part.Grouping) (us : List Symbol) → HasNo kind.LeftParen us → parse_grouped_aggregate r k n op text g us ≡ Err (misfit us)
grouped_none r k n op text g (punct kind.LeftParen ∷ us) none = absurd (none refl)
grouped_none r k n op text g us none = refl

module _ (r : Reader) (op : ℕ) (text : Text) (ts us : List Symbol) (begins : StartsGrouping ts) (held : _) (clause : ParsesPart (option_map clause_of) clause_value held us (parse_grouping ts)) where
  pub before_open : HasNo kind.LeftParen us → FailsBase (Syntax, us) (λ k n. parse_aggregate r k n op text ts)
  before_open none = λ k n.
      let before = before_read r op text ts us clause.part begins clause.is in
      before.is k n ∙ grouped_none r k n op text before.grouping us none

  module _ (vs : List Symbol) (front : us ≡ punct kind.LeftParen ∷ vs) where
    pub before_arguments_fail : (e : Failure) → Fails e (parse_arguments r vs) → FailsBase e (λ k n. parse_aggregate r k n op text ts)
    before_arguments_fail e fails = λ k n.
        let before = before_read r op text ts us clause.part begins clause.is in
        fails_first e (parse_arguments r vs) (λ y. parse_postfixes k n (grammar.aggregate op text (Some (true, before.grouping)) y.0) y.1) _ (before.is k n ∙ ap (parse_grouped_aggregate r k n op text before.grouping) front) fails

    pub before_base : {builds : Bool} (total : ℕ) (args : ParsedArgs) (ws : List Symbol) (made : ParsedExpr) → ParsesArgs builds total args vs ws (parse_arguments r vs)
        → ((t : Text) (c : part.Clause) (ds : grammar.Arguments) → view_result (option_map clause_of) held ≡ clause_value c → AreArgsOf builds total (1 + (length (yield_after c) + length ws)) args ds → IsExprOf builds total (length ws) made (grammar.aggregate op t c ds)) → ParsesBase builds total made ws (λ k n. parse_aggregate r k n op text ts)
    before_base total args ws made given built =
        let before = before_read r op text ts us clause.part begins clause.is in
        record {
          derivation = grammar.aggregate op text (Some (true, before.grouping)) given.derivations;
          is = λ k n. before.is k n ∙ ap (parse_grouped_aggregate r k n op text before.grouping) front ∙ ap (λ o. o then λ y. parse_postfixes k n (grammar.aggregate op text (Some (true, before.grouping)) y.0) y.1) given.is;
          built = built text (Some (true, before.grouping)) given.derivations (clause.built ∙ before.value) (all_followed_by total (1 + length ws) (1 + (0 + length ws)) args given.derivations (omega arith) given.built);
        }
