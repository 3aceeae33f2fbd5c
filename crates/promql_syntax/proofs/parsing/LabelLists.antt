-- How a list of labels is read, label by label.
use Rattle.std.proofs.Common.{◌≡◌, refl, sym, ◌∙◌, ap, subst, List, [], ◌∷◌, ◌++◌, append_assoc, true, false}
use Rattle.std.specs.Prelude.{Result, Ok, Err}
use Rattle.std.proofs.lemmas.Bool.{cond-true, cond-false}
use Rattle.std.specs.declared.alloc.Global.{Global}
use Rattle.std.specs.declared.boxed.Box.{Box}
use Rattle.promql_text.specs.Texts.{Text}
use Rattle.promql_grammar.specs.declared.token_kinds.TokenKind.{TokenKind}
use Rattle.promql_grammar.specs.declared.token_kinds.TokenKind.TheVariants as kind
use Rattle.promql_grammar.specs.Results.{◌then◌}
use Rattle.promql_grammar.specs.Symbols.{Symbol, punct, word, may_be_label}
use Rattle.promql_grammar.specs.GrammarParts.{Labels, no_label, last, next}
use Rattle.promql_grammar.specs.Parsing.{Read, parse_label_list, misfit}
use Rattle.promql_grammar.specs.Eating.{HasNo}
use Rattle.promql_grammar.specs.Failures.{Fails, Failure}
use Rattle.promql_grammar.specs.PartTokens.{HasNoLabel, EatsLabel, LabelEnd, closes, comma_closes, comma, parse_label_end, is_last_label, ParsesLabelEnd}
use Rattle.promql_label.specs.Labels.{labels_of}
use Rattle.promql_label.specs.declared.labels.Labels as code
use Rattle.promql_syntax.specs.declared.grammar.build_error.BuildError as build_errors
use Rattle.promql_syntax.specs.BuildErrors.{BuildError, view_result}
use Rattle.promql_syntax.specs.ParsesPart.{ParsesPart}
use Rattle.promql_syntax.specs.PartBuilding.{label_value, label_values}
use Rattle.promql_syntax.proofs.parsing.ResultSteps.{fails_then, fails_same, then_then, then_ok}

-- what a label and its end give
abbrev labels_after : TokenKind → Text → LabelEnd × List Symbol → Read Labels
labels_after k t (closes, ts) = Ok (last k t, ts)
labels_after k t (comma_closes, ts) = Ok (next k t no_label, ts)
labels_after k t (comma, ts) = parse_label_list ts then λ y. Ok (next k t y.0, y.1)

labels_step : (k : TokenKind) (t : Text) (ts : List Symbol) → may_be_label k ≡ true → parse_label_list (word k t ∷ ts) ≡ (parse_label_end ts then labels_after k t)
labels_step k t (punct kind.RightParen ∷ ts) may = cond-true (may_be_label k) _ _ may
labels_step k t (punct kind.Comma ∷ (punct kind.RightParen ∷ ts)) may = cond-true (may_be_label k) _ _ may
labels_step k t (punct kind.Comma ∷ ts) may = cond-true (may_be_label k) _ _ may
labels_step k t ts may = cond-true (may_be_label k) _ _ may

-- no closing parenthesis is the first token
abbrev IsOpen : List Symbol → Type 0
IsOpen (punct kind.RightParen ∷ ts) = ⊥
IsOpen ts = Unit {0}

open_start : (ts : List Symbol) → HasNo kind.RightParen ts → IsOpen ts
open_start (punct kind.RightParen ∷ ts) none = absurd (none refl)
open_start ts none = tt

abbrev end_of : Read LabelEnd → LabelEnd × List Symbol
end_of (Ok x) = x
end_of (Err e) = (closes, [])

comma_open : (us vs : List Symbol) → parse_label_end us ≡ Ok (comma, vs) → IsOpen vs
comma_open (punct kind.RightParen ∷ ts) vs e = let same : closes ≡ comma = ap (λ o. (end_of o).0) e in cc
comma_open (punct kind.Comma ∷ (punct kind.RightParen ∷ ts)) vs e = let same : comma_closes ≡ comma = ap (λ o. (end_of o).0) e in cc
comma_open (punct kind.Comma ∷ ts) vs e = let same : ts ≡ vs = ap (λ o. (end_of o).1) e in subst IsOpen same tt
comma_open ts vs e = let same : closes ≡ comma = ap (λ o. (end_of o).0) e in cc

no_more : (ts : List Symbol) → IsOpen ts → HasNoLabel ts → parse_label_list ts ≡ Err (misfit ts)
no_more (punct kind.RightParen ∷ ts) free none = absurd free
no_more (word k t ∷ (punct kind.RightParen ∷ ts)) free none = cond-false (may_be_label k) _ _ none
no_more (word k t ∷ (punct kind.Comma ∷ ts)) free none = cond-false (may_be_label k) _ _ none
no_more (word k t ∷ ts) free none = cond-false (may_be_label k) _ _ none
no_more ts free none = refl

-- labels were read, with a comma after each, and parsing goes on
pub record Naming (all rest : List Symbol) (held : Result (List Text) BuildError) : Type 0 where
  pub whole : Labels → Labels
  pub is_open : IsOpen rest
  pub goes : parse_label_list all ≡ (parse_label_list rest then λ y. Ok (whole y.0, y.1))
  pub built : (ls : Labels) → label_values (whole ls) ≡ (held then λ xs. label_values ls then λ ys. Ok (xs ++ ys))

pub naming_starts : (all : List Symbol) → HasNo kind.RightParen all → Naming all all (Ok [])
naming_starts all none = record {
  whole = λ ls. ls;
  is_open = open_start all none;
  goes = then_ok (parse_label_list all);
  built = λ ls. then_ok (label_values ls);
}

values_on : (held : Result (List Text) BuildError) (l : Result Text BuildError) (ms : Result (List Text) BuildError)
    → (held then λ ls. (l then λ x. ms then λ xs. Ok (x ∷ xs)) then λ xs. Ok (ls ++ xs)) ≡ ((held then λ ls. l then λ x. Ok (ls ++ x ∷ [])) then λ ls. ms then λ xs. Ok (ls ++ xs))
values_on (Ok ls) (Ok x) (Ok xs) = ap Ok (sym (append_assoc ls (x ∷ []) xs))
values_on (Ok ls) (Ok x) (Err e) = refl
values_on (Ok ls) (Err e) ms = refl
values_on (Err e) l ms = refl

values_end : (held : Result (List Text) BuildError) (l : Result Text BuildError)
    → (held then λ ls. (l then λ x. Ok (x ∷ [])) then λ xs. Ok (ls ++ xs)) ≡ (held then λ ls. l then λ x. Ok (ls ++ x ∷ []))
values_end (Ok ls) (Ok x) = refl
values_end (Ok ls) (Err e) = refl
values_end (Err e) l = refl

-- the labels so far, with one more
abbrev pub with_label : Result (List Text) BuildError → TokenKind → Text → Result (List Text) BuildError
with_label held k t = held then λ ls. label_value k t then λ l. Ok (ls ++ l ∷ [])

comma_end : (end : LabelEnd) → false ≡ is_last_label end → end ≡ comma
comma_end closes none = cc
comma_end comma_closes none = cc
comma_end comma none = refl

module _ (all rest : List Symbol) (held : Result (List Text) BuildError) (naming : Naming all rest held) where
  step : (k : TokenKind) (t : Text) (us : List Symbol) → EatsLabel k t rest us
      → parse_label_list all ≡ ((parse_label_end us then labels_after k t) then λ y. Ok (naming.whole y.0, y.1))
  step k t us takes =
      naming.goes ∙ ap (λ o. o then λ y. Ok (naming.whole y.0, y.1)) (ap parse_label_list takes.first ∙ labels_step k t us takes.may)

  pub naming_none : HasNoLabel rest → parse_label_list all ≡ Err (misfit rest)
  naming_none none = naming.goes ∙ ap (λ o. o then λ y. Ok (naming.whole y.0, y.1)) (no_more rest naming.is_open none)

  pub naming_fails : (e : Failure) (k : TokenKind) (t : Text) (us : List Symbol) → EatsLabel k t rest us → Fails e (parse_label_end us) → Fails e (parse_label_list all)
  naming_fails e k t us takes fails =
      fails_same e _ _ (step k t us takes) (fails_then e (parse_label_end us then labels_after k t) (λ y. Ok (naming.whole y.0, y.1)) (fails_then e (parse_label_end us) (labels_after k t) fails))

  pub naming_on : (k : TokenKind) (t : Text) (us vs : List Symbol) (next_held : Result (List Text) BuildError) → EatsLabel k t rest us → parse_label_end us ≡ Ok (comma, vs) → next_held ≡ with_label held k t → Naming all vs next_held
  naming_on k t us vs next_held takes ends grows = record {
    whole = λ ls. naming.whole (next k t ls);
    is_open = comma_open us vs ends;
    goes =
        step k t us takes
        ∙ ap (λ o. (o then labels_after k t) then λ y. Ok (naming.whole y.0, y.1)) ends
        ∙ then_then (parse_label_list vs) (λ y. Ok (next k t y.0, y.1)) (λ y. Ok (naming.whole y.0, y.1));
    built = λ ls.
        naming.built (next k t ls)
        ∙ values_on held (label_value k t) (label_values ls)
        ∙ ap (λ h. h then λ xs. label_values ls then λ ys. Ok (xs ++ ys)) (sym grows);
  }

  pub naming_ends : (k : TokenKind) (t : Text) (us vs : List Symbol) (value : Result code.Labels (Box build_errors.BuildError Global)) (end : LabelEnd) → EatsLabel k t rest us → parse_label_end us ≡ Ok (end, vs) → ¬ (end ≡ comma) → view_result labels_of value ≡ with_label held k t
      → ParsesPart labels_of label_values value vs (parse_label_list all)
  naming_ends k t us vs value closes takes ends other grows = record {
    part = naming.whole (last k t);
    is = step k t us takes ∙ ap (λ o. (o then labels_after k t) then λ y. Ok (naming.whole y.0, y.1)) ends;
    built = grows ∙ sym (values_end held (label_value k t)) ∙ sym (naming.built (last k t));
  }
  naming_ends k t us vs value comma_closes takes ends other grows = record {
    part = naming.whole (next k t no_label);
    is = step k t us takes ∙ ap (λ o. (o then labels_after k t) then λ y. Ok (naming.whole y.0, y.1)) ends;
    built = grows ∙ sym (values_end held (label_value k t)) ∙ sym (naming.built (next k t no_label));
  }
  naming_ends k t us vs value comma takes ends other grows = absurd (other refl)

  pub naming_last : (k : TokenKind) (t : Text) (us vs : List Symbol) (value : Result code.Labels (Box build_errors.BuildError Global)) → EatsLabel k t rest us → ParsesLabelEnd true vs (parse_label_end us) → view_result labels_of value ≡ with_label held k t → ParsesPart labels_of label_values value vs (parse_label_list all)
  naming_last k t us vs value takes ends grows = naming_ends k t us vs value ends.end takes ends.is (λ is. let same : true ≡ false = ends.ends ∙ ap is_last_label is in cc) grows

  pub naming_more : (k : TokenKind) (t : Text) (us vs : List Symbol) (next_held : Result (List Text) BuildError) → EatsLabel k t rest us → ParsesLabelEnd false vs (parse_label_end us) → next_held ≡ with_label held k t → Naming all vs next_held
  naming_more k t us vs next_held takes ends grows = naming_on k t us vs next_held takes (ends.is ∙ ap (λ e. Ok (e, vs)) (comma_end ends.end ends.ends)) grows
