-- What the loop over arguments keeps.
use Rattle.std.proofs.Common.{◌≡◌, ℕ, ◌+◌, Bool, true, false, ◌&&◌, zero, suc, ◌≤◌, refl, sym, ◌∙◌, ap, arith, List, ◌∷◌, length}
use Rattle.std.proofs.lemmas.List.{length-append}
use Rattle.std.specs.Prelude.{Ok, Err, is_ok}
use Rattle.promql_grammar.specs.declared.token_kinds.TokenKind.TheVariants as kind
use Rattle.promql_grammar.specs.Results.{◌then◌}
use Rattle.promql_grammar.specs.Symbols.{Symbol, punct}
use Rattle.promql_grammar.specs.Grammar as grammar
use Rattle.promql_grammar.specs.Grammar.{yield}
use Rattle.promql_grammar.specs.Parsing.{Read, Reader, parse_arguments, parse_more_arguments, misfit}
use Rattle.promql_grammar.specs.Eating.{HasNo}
use Rattle.promql_grammar.specs.Failures.{Fails, Failure}
use Rattle.promql_grammar.specs.PartTokens.{yield_rest}
use Rattle.promql_syntax.specs.declared.grammar.parsed.ParsedArgs.{ParsedArgs}
use Rattle.promql_syntax.specs.declared.grammar.parsed.ParsedExpr.{ParsedExpr}
use Rattle.promql_syntax.specs.ParsesExpr.{IsExprOf, AreArgsOf, ParsesExpr, ParsesArgs, append_derivation}
use Rattle.promql_syntax.specs.FaultTokens.{rest_count}
use Rattle.promql_syntax.proofs.parsing.Bases.{all_followed_by}
use Rattle.promql_syntax.proofs.parsing.ReadErrorSteps.{fails_bind, fails_first}

-- arguments before others
abbrev pub join : grammar.Arguments → grammar.Arguments → grammar.Arguments
join grammar.none es = es
join (grammar.more d ds) es = grammar.more d (join ds es)

join_none : (ds : grammar.Arguments) → join ds grammar.none ≡ ds
join_none grammar.none = refl
join_none (grammar.more d ds) = ap (grammar.more d) (join_none ds)

join_followed : (ds : grammar.Arguments) (d : grammar.Derivation) (es : grammar.Arguments) → join (append_derivation ds d) es ≡ join ds (grammar.more d es)
join_followed grammar.none d es = refl
join_followed (grammar.more e ds) d es = ap (grammar.more e) (join_followed ds d es)

abbrev pub joined_arguments : grammar.Arguments → Read grammar.Arguments → Read grammar.Arguments
joined_arguments ds o = o then λ y. Ok (join ds y.0, y.1)

joined_more : (ds : grammar.Arguments) (d : grammar.Derivation) (o : Read grammar.Arguments) → joined_arguments ds (o then λ y. Ok (grammar.more d y.0, y.1)) ≡ joined_arguments (append_derivation ds d) o
joined_more ds d (Ok y) = ap (λ (l : grammar.Arguments). Ok (l, y.1)) (sym (join_followed ds d y.0))
joined_more ds d (Err e) = refl

joined_one : (d : grammar.Derivation) (o : Read grammar.Arguments) → (o then λ y. Ok (grammar.more d y.0, y.1)) ≡ joined_arguments (grammar.more d grammar.none) o
joined_one d (Ok y) = refl
joined_one d (Err e) = refl

pub rest_length : (ds : grammar.Arguments) → length (yield_rest ds) ≡ rest_count ds + 1
rest_length grammar.none = omega arith
rest_length (grammar.more d ds) = omega (arith, length-append (yield d) (yield_rest ds), rest_length ds)

rest_more : (ds : grammar.Arguments) (d : grammar.Derivation) → rest_count (append_derivation ds d) ≡ rest_count ds + (1 + length (yield d))
rest_more grammar.none d = omega arith
rest_more (grammar.more e ds) d = omega (arith, rest_more ds d)

-- some arguments were parsed, and parsing goes on after them
pub record Collecting (builds : Bool) (n : ℕ) (r : Reader) (all : List Symbol) (args : ParsedArgs) (rest : List Symbol) : Type 0 where
  pub first : grammar.Derivation
  pub others : grammar.Arguments
  pub turns : ℕ
  pub enough : length rest ≤ turns
  pub taken : length all ≡ length (yield first) + (rest_count others + length rest)
  pub built : AreArgsOf builds n (length rest) args (grammar.more first others)
  pub goes : parse_arguments r all ≡ joined_arguments (grammar.more first others) (parse_more_arguments r turns rest)

arguments_open : (r : Reader) (ts : List Symbol) → HasNo kind.RightParen ts → parse_arguments r ts ≡ (r 0 ts then λ x. parse_more_arguments r (length ts) x.1 then λ y. Ok (grammar.more x.0 y.0, y.1))
arguments_open r (punct kind.RightParen ∷ ts) none = absurd (none refl)
arguments_open r ts none = refl

-- the first argument fails
pub arguments_fail : (r : Reader) (ts : List Symbol) (e : Failure) → HasNo kind.RightParen ts → Fails e (r 0 ts) → Fails e (parse_arguments r ts)
arguments_fail r ts e none fails =
    fails_first e (r 0 ts) (λ x. parse_more_arguments r (length ts) x.1 then λ y. Ok (grammar.more x.0 y.0, y.1)) (parse_arguments r ts) (arguments_open r ts none) fails

-- what is built, is built where more is asked of it
fewer : (builds asked : Bool) (n k : ℕ) (parsed : ParsedExpr) (d : grammar.Derivation) → IsExprOf builds n k parsed d → IsExprOf (builds && asked) n k parsed d
fewer true asked n k parsed d is = record { tall = is.tall; built = λ on. is.built refl; placed = λ on. is.placed refl }
fewer false asked n k parsed d is = record { tall = is.tall; built = λ on. is.built on; placed = λ on. is.placed on }

pub collecting_first : {builds : Bool} (n : ℕ) (r : Reader) (ts us : List Symbol) (args more : ParsedArgs) (parsed : ParsedExpr) → HasNo kind.RightParen ts → (given : ParsesExpr builds n parsed us (r 0 ts)) → length ts ≡ length (yield given.derivation) + length us
    → ((k : ℕ) → AreArgsOf builds n k args grammar.none)
    → ((ds : grammar.Arguments) (d : grammar.Derivation) → AreArgsOf builds n (1 + (length (yield d) + length us)) args ds → IsExprOf (builds && is_ok args.value) n (length us) parsed d → AreArgsOf builds n (length us) more (append_derivation ds d)) → Collecting builds n r ts more us
collecting_first {builds} n r ts us args more parsed none given taken empty built = record {
  first = given.derivation;
  others = grammar.none;
  turns = length ts;
  enough = omega (arith, taken);
  taken = omega (arith, taken);
  built = built grammar.none given.derivation (empty _) (fewer builds (is_ok args.value) n (length us) parsed given.derivation given.built);
  goes = arguments_open r ts none
      ∙ ap (λ o. o then λ x. parse_more_arguments r (length ts) x.1 then λ y. Ok (grammar.more x.0 y.0, y.1)) given.is
      ∙ joined_one given.derivation (parse_more_arguments r (length ts) us);
}

rest_comma : (r : Reader) (k : ℕ) (ts us : List Symbol) → ts ≡ punct kind.Comma ∷ us → length ts ≤ k
    → (j : ℕ) × (length us ≤ j) × (parse_more_arguments r k ts ≡ (r 0 us then λ x. parse_more_arguments r j x.1 then λ y. Ok (grammar.more x.0 y.0, y.1)))
rest_comma r zero ts us is turns = absurd (omega (arith, ap length is))
rest_comma r (suc k) ts us is turns = (k, omega (arith, ap length is), ap (parse_more_arguments r (suc k)) is)

rest_close : (r : Reader) (k : ℕ) (ts us : List Symbol) → ts ≡ punct kind.RightParen ∷ us → length ts ≤ k → parse_more_arguments r k ts ≡ Ok (grammar.none, us)
rest_close r zero ts us is turns = absurd (omega (arith, ap length is))
rest_close r (suc k) ts us is turns = ap (parse_more_arguments r (suc k)) is

rest_none : (r : Reader) (k : ℕ) (ts : List Symbol) → HasNo kind.Comma ts → HasNo kind.RightParen ts → parse_more_arguments r k ts ≡ Err (misfit ts)
rest_none r zero ts no_comma no_paren = refl
rest_none r (suc k) (punct kind.RightParen ∷ ts) no_comma no_paren = absurd (no_paren refl)
rest_none r (suc k) (punct kind.Comma ∷ ts) no_comma no_paren = absurd (no_comma refl)
rest_none r (suc k) ts no_comma no_paren = refl

module _ {builds : Bool} (n : ℕ) (r : Reader) (all ts : List Symbol) (args : ParsedArgs) (collecting : Collecting builds n r all args ts) where
  pub collecting_fails : (us : List Symbol) (e : Failure) → ts ≡ punct kind.Comma ∷ us → Fails e (r 0 us) → Fails e (parse_arguments r all)
  collecting_fails us e is fails =
      let step = rest_comma r collecting.turns ts us is collecting.enough in
      fails_first e (r 0 us then λ x. parse_more_arguments r step.0 x.1 then λ y. Ok (grammar.more x.0 y.0, y.1)) (λ y. Ok (join (grammar.more collecting.first collecting.others) y.0, y.1)) (parse_arguments r all)
      (collecting.goes ∙ ap (joined_arguments (grammar.more collecting.first collecting.others)) step.2)
      (fails_bind e (r 0 us) (λ x. parse_more_arguments r step.0 x.1 then λ y. Ok (grammar.more x.0 y.0, y.1)) fails)

  pub collecting_on : (us vs : List Symbol) (more : ParsedArgs) (parsed : ParsedExpr) → ts ≡ punct kind.Comma ∷ us → (given : ParsesExpr (builds && is_ok args.value) n parsed vs (r 0 us)) → length us ≡ length (yield given.derivation) + length vs
      → ((ds : grammar.Arguments) (d : grammar.Derivation) → AreArgsOf builds n (1 + (length (yield d) + length vs)) args ds → IsExprOf (builds && is_ok args.value) n (length vs) parsed d → AreArgsOf builds n (length vs) more (append_derivation ds d)) → Collecting builds n r all more vs
  collecting_on us vs more parsed is given taken built =
      let step = rest_comma r collecting.turns ts us is collecting.enough in
      record {
        first = collecting.first;
        others = append_derivation collecting.others given.derivation;
        turns = step.0;
        enough = omega (arith, step.1, taken);
        taken = omega (arith, collecting.taken, ap length is, taken, rest_more collecting.others given.derivation);
        built = built (grammar.more collecting.first collecting.others) given.derivation (all_followed_by n (length ts) (1 + (length (yield given.derivation) + length vs)) args (grammar.more collecting.first collecting.others) (omega (arith, ap length is, taken)) collecting.built) given.built;
        goes = collecting.goes
            ∙ ap (joined_arguments (grammar.more collecting.first collecting.others)) (step.2 ∙ ap (λ o. o then λ x. parse_more_arguments r step.0 x.1 then λ y. Ok (grammar.more x.0 y.0, y.1)) given.is)
            ∙ joined_more (grammar.more collecting.first collecting.others) given.derivation (parse_more_arguments r step.0 vs);
      }

  pub collecting_none : HasNo kind.Comma ts → HasNo kind.RightParen ts → parse_arguments r all ≡ Err (misfit ts)
  collecting_none no_comma no_paren = collecting.goes ∙ ap (joined_arguments (grammar.more collecting.first collecting.others)) (rest_none r collecting.turns ts no_comma no_paren)

  pub collecting_ends : (us : List Symbol) → ts ≡ punct kind.RightParen ∷ us → ParsesArgs builds n args all us (parse_arguments r all)
  collecting_ends us is = record {
    derivations = grammar.more collecting.first collecting.others;
    is = collecting.goes ∙ ap (joined_arguments (grammar.more collecting.first collecting.others)) (rest_close r collecting.turns ts us is collecting.enough) ∙ ap (λ (l : grammar.Arguments). Ok (l, us)) (join_none (grammar.more collecting.first collecting.others));
    taken = omega (arith, collecting.taken, ap length is, length-append (yield collecting.first) (yield_rest collecting.others), rest_length collecting.others);
    built = all_followed_by n (length ts) (1 + length us) args (grammar.more collecting.first collecting.others) (omega (arith, ap length is)) collecting.built;
  }
