-- Parts that are parsed one after another, and ends that are missing.
use Rattle.std.proofs.Common.{◌≡◌, ℕ, ◌+◌, ◌<◌, ◌^◌, refl, sym, ◌∙◌, ap, subst, arith, List, [], ◌∷◌, length, Some}
use Rattle.std.specs.Prelude.{Result, Ok, Err, IfErr, MatchResult}
use Rattle.std.proofs.lemmas.List.{length-append}
use Rattle.std.specs.declared.alloc.Global.{Global}
use Rattle.std.specs.declared.boxed.Box.{Box}
use Rattle.promql_text.specs.Texts.{Text}
use Rattle.promql_text.specs.declared.number.Number.{Number}
use Rattle.promql_grammar.specs.declared.token_kinds.TokenKind.{TokenKind}
use Rattle.promql_grammar.specs.declared.token_kinds.TokenKind.TheVariants as kind
use Rattle.promql_grammar.specs.declared.read_error.ReadError.{ReadError}
use Rattle.promql_grammar.specs.Results.{◌then◌}
use Rattle.promql_grammar.specs.Symbols.{Symbol, punct, symbol, word}
use Rattle.promql_grammar.specs.GrammarParts.{Time, Signed, at_number, offset, yield_signed}
use Rattle.promql_grammar.specs.Parsing.{Read, eat_sign, parse_number, parse_time, parse_fill_value, parse_fill_value_end, parse_step, parse_step_end, parse_range_end, parse_postfix, parse_at_modifier, Stop, misfit}
use Rattle.promql_grammar.specs.Eating.{HasNo}
use Rattle.promql_grammar.specs.Failures.{Failure, Fails}
use Rattle.promql_grammar.specs.PartTokens.{parse_offset, parse_signed_number}
use Rattle.promql_ast.specs.AtTimes.{at_of_number}
use Rattle.promql_syntax.specs.declared.grammar.build_error.BuildError as build_errors
use Rattle.promql_syntax.specs.declared.grammar.postfix.ParsedPostfix.{ParsedPostfix}
use Rattle.promql_syntax.specs.declared.grammar.postfix.Postfix as code
use Rattle.promql_syntax.specs.BuildErrors.{build_error_of, view_result}
use Rattle.promql_syntax.specs.ParsesPart.{ParsesPart}
use Rattle.promql_syntax.specs.PartBuilding.{signed_number}
use Rattle.promql_syntax.specs.Placing.{AreTokens, tokens_between}
use Rattle.promql_syntax.specs.declared.grammar.place.Place.{Place}
use Rattle.promql_syntax.specs.Postfixes.{IsMomentAt, ParsesPostfix, at_fault, change_of, parse_range, to_moment}
use Rattle.promql_syntax.proofs.parsing.Bases.{postfix_length}
use Rattle.promql_syntax.proofs.parsing.TokenFaults.{FailsByToken, IsTokenFault, signed_by}
use Rattle.promql_syntax.proofs.parsing.ResultSteps.{fails_same, fails_then, then_then}

-- a number with its sign, and what follows
abbrev with_number : Signed → Text × List Symbol → Read (Signed × Text)
with_number s n = Ok ((s, n.0), n.1)

pub number_then : {B : Type 0} (r : Read Signed) (f : Signed → Text → List Symbol → Result B Stop)
    → (r then λ s. parse_number s.1 then λ n. f s.0 n.0 n.1) ≡ ((r then λ s. parse_number s.1 then with_number s.0) then λ x. f x.0.0 x.0.1 x.1)
number_then (Ok s) f = sym (then_then (parse_number s.1) (with_number s.0) (λ x. f x.0.0 x.0.1 x.1))
number_then (Err e) f = refl

no_value_end : (s : Signed) (n : Text) (ts : List Symbol) → HasNo kind.RightParen ts → parse_fill_value_end s n ts ≡ Err (misfit ts)
no_value_end s n (punct kind.RightParen ∷ ts) none = absurd (none refl)
no_value_end s n ts none = refl

-- no parenthesis closes a fill value
pub value_open : (ts us vs : List Symbol) (p : Signed × Text) → ts ≡ punct kind.LeftParen ∷ us → parse_signed_number us ≡ Ok (p, vs) → HasNo kind.RightParen vs → parse_fill_value ts ≡ Err (misfit vs)
value_open ts us vs p opens reads none =
    ap parse_fill_value opens ∙ number_then (eat_sign us) (λ s n rest. parse_fill_value_end s n rest)
    ∙ ap (λ o. o then λ x. parse_fill_value_end x.0.0 x.0.1 x.1) reads ∙ no_value_end p.0 p.1 vs none

-- no number in a fill value
pub value_fails : (e : Failure) (ts us : List Symbol) → ts ≡ punct kind.LeftParen ∷ us → Fails e (parse_signed_number us) → Fails e (parse_fill_value ts)
value_fails e ts us opens fails =
    fails_same e _ _ (ap parse_fill_value opens ∙ number_then (eat_sign us) (λ s n rest. parse_fill_value_end s n rest))
    (fails_then e (parse_signed_number us) (λ x. parse_fill_value_end x.0.0 x.0.1 x.1) fails)

pub some_step : (t : Time) (ts : List Symbol) → HasNo kind.RightBracket ts → parse_step t ts ≡ (parse_time ts then λ s. parse_step_end t s.0 s.1)
some_step t (punct kind.RightBracket ∷ ts) none = absurd (none refl)
some_step t ts none = refl

no_step_end : (t s : Time) (ts : List Symbol) → HasNo kind.RightBracket ts → parse_step_end t s ts ≡ Err (misfit ts)
no_step_end t s (punct kind.RightBracket ∷ ts) none = absurd (none refl)
no_step_end t s ts none = refl

-- no bracket closes a subquery
pub step_open : (t : Time) (ts us : List Symbol) (s : Time) → HasNo kind.RightBracket ts → parse_time ts ≡ Ok (s, us) → HasNo kind.RightBracket us → parse_step t ts ≡ Err (misfit us)
step_open t ts us s none reads next = some_step t ts none ∙ ap (λ o. o then λ x. parse_step_end t x.0 x.1) reads ∙ no_step_end t s us next

-- a colon follows the first time
pub colon_given : (n : ℕ) (ts us vs rest : List Symbol) (t : Time) (result : Result ParsedPostfix ReadError) → parse_time ts ≡ Ok (t, us) → us ≡ punct kind.Colon ∷ vs
    → MatchResult result (λ held. ParsesPostfix n held rest (parse_step t vs)) (λ e. Fails (e, rest) (parse_step t vs)) → MatchResult result (λ held. ParsesPostfix n held rest (parse_range ts)) (λ e. Fails (e, rest) (parse_range ts))
colon_given n ts us vs rest t result reads front given =
    subst (λ r. MatchResult result (λ held. ParsesPostfix n held rest r) (λ e. Fails (e, rest) r)) (sym (ap (λ o. o then λ x. parse_range_end x.0 x.1) reads ∙ ap (parse_range_end t) front)) given

moment_number : (k : TokenKind) (t : Text) (us : List Symbol) → ¬ (k ≡ kind.Start) → ¬ (k ≡ kind.End)
    → parse_at_modifier (symbol k t ∷ us) ≡ (eat_sign (symbol k t ∷ us) then λ s. parse_number s.1 then λ n. Ok (Some (at_number s.0 n.0), n.1))
moment_number kind.Start t us start end = absurd (start refl)
moment_number kind.End t us start end = absurd (end refl)
moment_number k t us start end = refl

-- no number follows `@`
pub number_fails : (e : Failure) (ts us : List Symbol) (k : TokenKind) (t : Text) → ts ≡ symbol k t ∷ us → ¬ (k ≡ kind.Start) → ¬ (k ≡ kind.End) → Fails e (parse_signed_number ts) → Fails e (parse_at_modifier ts)
number_fails e ts us k t front start end fails =
    let whole : parse_at_modifier ts ≡ (eat_sign ts then λ s. parse_number s.1 then λ n. Ok (Some (at_number s.0 n.0), n.1)) =
    ap parse_at_modifier front ∙ moment_number k t us start end ∙ ap (λ l. eat_sign l then λ s. parse_number s.1 then λ n. Ok (Some (at_number s.0 n.0), n.1)) (sym front) in
    fails_same e _ _ (whole ∙ number_then (eat_sign ts) (λ s n rest. Ok (Some (at_number s n), rest))) (fails_then e (parse_signed_number ts) (λ x. Ok (Some (at_number x.0.0 x.0.1), x.1)) fails)

-- a time with its sign, and what follows
abbrev with_time : Signed → Time × List Symbol → Read (Signed × Time)
with_time s u = Ok ((s, u.0), u.1)

pub time_then : {B : Type 0} (r : Read Signed) (f : Signed → Time → List Symbol → Result B Stop)
    → (r then λ s. parse_time s.1 then λ u. f s.0 u.0 u.1) ≡ ((r then λ s. parse_time s.1 then with_time s.0) then λ x. f x.0.0 x.0.1 x.1)
time_then (Ok s) f = sym (then_then (parse_time s.1) (with_time s.0) (λ x. f x.0.0 x.0.1 x.1))
time_then (Err e) f = refl

-- no time follows `offset`
pub offset_fails : (e : Failure) (t : Text) (ts us : List Symbol) → ts ≡ symbol kind.Offset t ∷ us → Fails e (parse_offset us) → Fails e (parse_postfix ts)
offset_fails e t ts us front fails =
    fails_same e _ _ (ap parse_postfix front ∙ time_then (eat_sign us) (λ s u rest. Ok (Some (offset t s u), rest))) (fails_then e (parse_offset us) (λ x. Ok (Some (offset t x.0.0 x.0.1), x.1)) fails)

-- a number after `@` was read
pub number_held : (n : ℕ) (ts us rest : List Symbol) (k : TokenKind) (t : Text) (seconds : Result Number (Box build_errors.BuildError Global)) (value : Result code.Postfix (Box build_errors.BuildError Global)) (held : ParsedPostfix)
    → ts ≡ symbol k t ∷ us → ¬ (k ≡ kind.Start) → ¬ (k ≡ kind.End) → ParsesPart (λ (n : Number). n) (λ p. signed_number p.0 p.1) seconds rest (parse_signed_number ts)
    → view_result change_of value ≡ (view_result (λ (n : Number). n) seconds then λ n. at_fault (at_of_number n) then λ m. Ok (to_moment m))
    → view_result change_of held.value ≡ view_result change_of value → held.added_height ≡ 0
    → ((s : Signed) (text : Text) → view_result (λ (n : Number). n) seconds ≡ signed_number s text → length ts ≡ length (yield_signed s) + (1 + length rest) → n < 2 ^ 64 → IsMomentAt n (length rest) (at_number s text) held.value)
    → ParsesPostfix n held rest (parse_at_modifier ts)
number_held n ts us rest k t seconds value held front start end read moved holds plain moment =
    let is : parse_at_modifier ts ≡ Ok (Some (at_number read.part.0 read.part.1), rest) =
    ap parse_at_modifier front ∙ moment_number k t us start end
    ∙ ap (λ l. eat_sign l then λ s. parse_number s.1 then λ n. Ok (Some (at_number s.0 n.0), n.1)) (sym front)
    ∙ number_then (eat_sign ts) (λ s n rest. Ok (Some (at_number s n), rest))
    ∙ ap (λ o. o then λ x. Ok (Some (at_number x.0.0 x.0.1), x.1)) read.is in
    let taken = postfix_length (punct kind.At ∷ ts) rest (at_number read.part.0 read.part.1) is in
    record {
      part = at_number read.part.0 read.part.1;
      is = is;
      built = record {
        value =
            holds ∙ moved ∙ ap (λ r. r then λ n. at_fault (at_of_number n) then λ m. Ok (to_moment m)) read.built
            ∙ sym (then_then (signed_number read.part.0 read.part.1) (λ n. at_fault (at_of_number n)) (λ m. Ok (to_moment m)));
        adds = plain;
        moment = λ fits. moment read.part.0 read.part.1 read.built (omega (arith, taken, length-append (yield_signed read.part.0) (word kind.Number read.part.1 ∷ []))) fits;
      };
    }

-- a number that is no moment has its tokens where it was read
pub moment_placed : (n k from to : ℕ) (s : Signed) (text : Text) (place : Place) (seconds : Result Number (Box build_errors.BuildError Global)) (value held : Result code.Postfix (Box build_errors.BuildError Global)) → held ≡ value → place ≡ tokens_between from to
    → view_result (λ (n : Number). n) seconds ≡ signed_number s text → IfErr value (λ e. MatchResult seconds (λ _. e.value.place ≡ place) (λ h. e ≡ h)) → from + (length (yield_signed s) + (1 + k)) ≡ n → to + k ≡ n → IsMomentAt n k (at_number s text) held
moment_placed n k from to s text place seconds value held same there viewed placed first last = subst (IsMomentAt n k (at_number s text)) (sym same) (by_seconds seconds value viewed placed)
  where
    by_seconds : (seconds : Result Number (Box build_errors.BuildError Global)) (value : Result code.Postfix (Box build_errors.BuildError Global)) → view_result (λ (n : Number). n) seconds ≡ signed_number s text
        → IfErr value (λ e. MatchResult seconds (λ _. e.value.place ≡ place) (λ h. e ≡ h)) → IsMomentAt n k (at_number s text) value
    by_seconds seconds (Ok y) viewed placed = tt
    by_seconds (Ok q) (Err e) viewed placed = λ f is. subst (AreTokens n (Some (length (yield_signed s) + (1 + k), k))) (sym (placed ∙ there)) (first, last)
    by_seconds (Err h) (Err e) viewed same = λ f is.
        let by_token : IsTokenFault (build_error_of h.value) = subst FailsByToken (sym viewed) (signed_by s text) in
        absurd (subst IsTokenFault (ap (λ (g : Box build_errors.BuildError Global). build_error_of g.value) (sym same) ∙ is) by_token)
