-- What the loop over postfixes keeps.
use Rattle.std.proofs.Common.{◌≡◌, ℕ, Bool, zero, suc, ◌+◌, ◌<◌, ◌≤◌, ◌^◌, false, refl, sym, ◌∙◌, ap, subst, arith, List, [], ◌∷◌, length, true≢false}
use Rattle.std.specs.Prelude.{Option, Some, None, Result, Ok, Err, MatchResult}
use Rattle.std.proofs.lemmas.Bool.{cond_above, cond_below}
use Rattle.promql_text.specs.Texts.{Text}
use Rattle.promql_grammar.specs.declared.token_kinds.TokenKind.{TokenKind}
use Rattle.promql_grammar.specs.declared.token_kinds.TokenKind.TheVariants as kind
use Rattle.promql_grammar.specs.declared.read_error.ReadError.{ReadError}
use Rattle.promql_grammar.specs.declared.read_error.ReadError.TheVariants.{Memory, Syntax, TooDeep}
use Rattle.promql_grammar.specs.Results.{◌then◌}
use Rattle.promql_grammar.specs.Symbols.{Symbol, symbol}
use Rattle.promql_grammar.specs.GrammarParts.{Postfix, subquery, yield_postfix}
use Rattle.promql_grammar.specs.Grammar.{Derivation, postfixed, height, added_height}
use Rattle.promql_grammar.specs.Parsing.{Read, parse_postfix, parse_postfixes, parse_more_postfixes, too_high}
use Rattle.promql_grammar.specs.Failures.{Fails, Failure}
use Rattle.promql_syntax.specs.declared.grammar.parsed.ParsedExpr.{ParsedExpr}
use Rattle.promql_syntax.specs.ParsesExpr.{IsExprOf, ParsesExpr}
use Rattle.promql_syntax.specs.declared.grammar.postfix.ParsedPostfix.{ParsedPostfix}
use Rattle.promql_syntax.specs.Postfixes.{IsMomentAt, IsPostfixOf, ParsesPostfix, starts_postfix}
use Rattle.promql_syntax.proofs.parsing.Bases.{followed_by, no_postfix_taken, postfix_length}
use Rattle.promql_syntax.proofs.parsing.ReadErrorSteps.{fails_first, fails_same}

-- a base and some postfixes were parsed, and parsing goes on after them
pub record Postfixing (builds : Bool) (total k n : ℕ) (d : Derivation) (all : List Symbol) (parsed : ParsedExpr) (rest : List Symbol) : Type 0 where
  pub derivation : Derivation
  pub turns : ℕ
  pub enough : length rest ≤ turns
  pub built : IsExprOf builds total (length rest) parsed derivation
  pub goes : parse_postfixes k n d all ≡ parse_postfixes turns n derivation rest

pub postfixing_first : {builds : Bool} (total k n : ℕ) (d : Derivation) (ts : List Symbol) (parsed : ParsedExpr) → IsExprOf builds total (length ts) parsed d → length ts ≤ k → Postfixing builds total k n d ts parsed ts
postfixing_first total k n d ts parsed built enough = record { derivation = d; turns = k; enough = enough; built = built; goes = refl }

rest_of : Read (Option Postfix) → List Symbol
rest_of (Ok x) = x.1
rest_of (Err e) = []

postfixes_none : (k n : ℕ) (d : Derivation) (ts us : List Symbol) → length ts ≤ k → parse_postfix ts ≡ Ok (None, us) → parse_postfixes k n d ts ≡ Ok (d, us)
unfolding rest_of
postfixes_none zero n d [] us enough none = let same : [] ≡ us = ap rest_of none in ap (λ l. Ok (d, l)) same
postfixes_none zero n d (t ∷ ts) us enough none = absurd (omega arith)
postfixes_none (suc k) n d ts us enough none = ap (λ o. o then λ p. parse_more_postfixes (parse_postfixes k n) n d p.0 p.1) none

postfixes_fail : (k n : ℕ) (d : Derivation) (ts : List Symbol) (e : Failure) → length ts ≤ k → Fails e (parse_postfix ts) → Fails e (parse_postfixes k n d ts)
postfixes_fail zero n d [] (Memory, rest) enough fails = tt
postfixes_fail zero n d [] (Syntax, rest) enough fails = cc
postfixes_fail zero n d [] (TooDeep, rest) enough fails = cc
postfixes_fail zero n d (t ∷ ts) e enough fails = absurd (omega arith)
postfixes_fail (suc k) n d ts e enough fails = fails_first e (parse_postfix ts) (λ p. parse_more_postfixes (parse_postfixes k n) n d p.0 p.1) (parse_postfixes (suc k) n d ts) refl fails

postfixes_deep : (k n : ℕ) (d : Derivation) (ts us : List Symbol) (p : Postfix) → length us < length ts → length ts ≤ k → parse_postfix ts ≡ Ok (Some p, us) → n < height (postfixed d p) → parse_postfixes k n d ts ≡ Err too_high
postfixes_deep zero n d ts us p short enough some high = absurd (omega arith)
postfixes_deep (suc k) n d ts us p short enough some high =
    ap (λ o. o then λ q. parse_more_postfixes (parse_postfixes k n) n d q.0 q.1) some ∙ sym (cond_below n (height (postfixed d p)) (Err too_high) _ high)

postfixes_on : (k n : ℕ) (d : Derivation) (ts us : List Symbol) (p : Postfix) → length us < length ts → length ts ≤ k → parse_postfix ts ≡ Ok (Some p, us) → height (postfixed d p) ≤ n
    → (j : ℕ) × (length us ≤ j) × (parse_postfixes k n d ts ≡ parse_postfixes j n (postfixed d p) us)
postfixes_on zero n d ts us p short enough some low = absurd (omega arith)
postfixes_on (suc k) n d ts us p short enough some low = (
  k,
  omega arith,
  ap (λ o. o then λ q. parse_more_postfixes (parse_postfixes k n) n d q.0 q.1) some ∙ sym (cond_above n (height (postfixed d p)) (Err too_high) _ _ low refl),
)

-- what is counted otherwise, and is as many
pub recount_postfix : (n m k : ℕ) (held : ParsedPostfix) (p : Postfix) → (n < 2 ^ 64 → m ≡ n) → IsPostfixOf m k held p → IsPostfixOf n k held p
recount_postfix n m k held p same is = record {
  value = is.value;
  adds = is.adds;
  moment = λ fits. subst (λ j. IsMomentAt j k p held.value) (same fits) (is.moment (subst (λ j. j < 2 ^ 64) (sym (same fits)) fits));
}

recounted_postfix : (n m : ℕ) (held : ParsedPostfix) (rest : List Symbol) (read : Read (Option Postfix)) → (n < 2 ^ 64 → m ≡ n) → ParsesPostfix m held rest read → ParsesPostfix n held rest read
recounted_postfix n m held rest read same given = record { part = given.part; is = given.is; built = recount_postfix n m (length rest) held given.part same given.built }

pub recounted_parse : (n m : ℕ) (result : Result ParsedPostfix ReadError) (rest : List Symbol) (read : Read (Option Postfix)) → (n < 2 ^ 64 → m ≡ n)
    → MatchResult result (λ held. ParsesPostfix m held rest read) (λ e. Fails (e, rest) read) → MatchResult result (λ held. ParsesPostfix n held rest read) (λ e. Fails (e, rest) read)
recounted_parse n m (Ok held) rest read same given = recounted_postfix n m held rest read same given
recounted_parse n m (Err e) rest read same fails = fails

none_length : (ts us : List Symbol) → parse_postfix ts ≡ Ok (None, us) → length ts ≡ length us
none_length ts us none = ap length (no_postfix_taken ts us none)

module _ {builds : Bool} (total k n : ℕ) (d : Derivation) (all ts : List Symbol) (parsed : ParsedExpr) (postfixing : Postfixing builds total k n d all parsed ts) where
  pub postfixing_ends : (us : List Symbol) → parse_postfix ts ≡ Ok (None, us) → ParsesExpr builds total parsed us (parse_postfixes k n d all)
  postfixing_ends us none =
      let taken = none_length ts us none in
      record {
        derivation = postfixing.derivation;
        is = postfixing.goes ∙ postfixes_none postfixing.turns n postfixing.derivation ts us postfixing.enough none;
        built = followed_by total (length ts) (length us) parsed postfixing.derivation taken postfixing.built;
      }

  pub postfixing_fails : (e : Failure) → Fails e (parse_postfix ts) → Fails e (parse_postfixes k n d all)
  postfixing_fails e fails = fails_same e _ _ postfixing.goes (postfixes_fail postfixing.turns n postfixing.derivation ts e postfixing.enough fails)

  module _ (us : List Symbol) (short : length us < length ts) (held : ParsedPostfix) (p : Postfix) (some : parse_postfix ts ≡ Ok (Some p, us)) (holds : IsPostfixOf total (length us) held p) where
    pub postfixing_deep : n < parsed.height + held.added_height → parse_postfixes k n d all ≡ Err too_high
    postfixing_deep high =
        let so_far = postfixing.built in
        let tall = so_far.tall in
        let adds = holds.adds in
        postfixing.goes ∙ postfixes_deep postfixing.turns n postfixing.derivation ts us p short postfixing.enough some (omega arith)

    pub postfixing_on : (made : ParsedExpr) → parsed.height + held.added_height ≤ n
        → ((e : Derivation) → IsExprOf builds total (length (yield_postfix p) + length us) parsed e → IsPostfixOf total (length us) held p → IsExprOf builds total (length us) made (postfixed e p)) → Postfixing builds total k n d all made us
    postfixing_on made low built =
        let so_far = postfixing.built in
        let tall = so_far.tall in
        let adds = holds.adds in
        let step = postfixes_on postfixing.turns n postfixing.derivation ts us p short postfixing.enough some (omega arith) in
        record {
          derivation = postfixed postfixing.derivation p;
          turns = step.0;
          enough = step.1;
          built = built postfixing.derivation (followed_by total (length ts) (length (yield_postfix p) + length us) parsed postfixing.derivation (postfix_length ts us p some) postfixing.built) holds;
          goes = postfixing.goes ∙ step.2;
        }

pub added_low : (p : Postfix) → added_height p ≤ 1
added_low (subquery t s) = omega arith
added_low p = omega arith

-- no postfix begins with the first token, or there is none
other_front : (k : TokenKind) (t : Text) (ts : List Symbol) → starts_postfix k ≡ false → parse_postfix (symbol k t ∷ ts) ≡ Ok (None, symbol k t ∷ ts)
other_front kind.LeftBracket t ts other = absurd (true≢false other)
other_front kind.At t ts other = absurd (true≢false other)
other_front kind.Offset t ts other = absurd (true≢false other)
other_front kind.Smoothed t ts other = absurd (true≢false other)
other_front kind.Anchored t ts other = absurd (true≢false other)
other_front k t ts other = refl

pub no_postfix_at : (ts us : List Symbol) (k : TokenKind) (t : Text) → ts ≡ symbol k t ∷ us → starts_postfix k ≡ false → parse_postfix ts ≡ Ok (None, ts)
no_postfix_at ts us k t front other = ap parse_postfix front ∙ other_front k t us other ∙ ap (λ l. Ok (None, l)) (sym front)

pub no_postfix_left : (ts : List Symbol) → ts ≡ [] → parse_postfix ts ≡ Ok (None, ts)
no_postfix_left ts end = ap parse_postfix end ∙ ap (λ l. Ok (None, l)) (sym end)

-- a base that no postfix follows
pub no_postfixes : {builds : Bool} (total k n : ℕ) (d : Derivation) (ts : List Symbol) (parsed : ParsedExpr) → IsExprOf builds total (length ts) parsed d → length ts ≤ k → parse_postfix ts ≡ Ok (None, ts) → ParsesExpr builds total parsed ts (parse_postfixes k n d ts)
no_postfixes total k n d ts parsed built enough none = record { derivation = d; is = postfixes_none k n d ts ts enough none; built = built }
