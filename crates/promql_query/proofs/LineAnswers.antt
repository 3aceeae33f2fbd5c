-- The answer to a line.
use Rattle.std.proofs.Common.{◌≡◌, ◌⊎◌, ⊎_elim, ◌∙◌, ℕ, List, [], ◌∷◌, map, String, ap, inl, inr, refl, string_bytes, subst, sym}
use Rattle.std.proofs.lemmas.Bool.{or_from}
use Rattle.std.proofs.lemmas.Result.{IfOk-weaker}
use Rattle.std.specs.Prelude.{false, IfErr, IfOk, Option, Some, None, option_and_then, option_map, Result, Ok, Err}
use Rattle.std.specs.Str.{IsUtf8}
use Rattle.std.specs.declared.alloc.Global.{Global}
use Rattle.serde_json.specs.Data.{Data, Members, string}
use Rattle.serde_json.specs.Read.{read}
use Rattle.serde_json.specs.View.{items_of}
use Rattle.serde_json.specs.Written.{has_float, items_have_float, members_have_float}
use Rattle.promql_text.specs.Texts.{Text}
use Rattle.promql_ast.specs.Tree.{Tree}
use Rattle.promql_query.specs.Rejecting.{IsRead}
use Rattle.promql_span.specs.declared.limits.Limits.{Limits}
use Rattle.promql_query.specs.declared.settings.Settings.{Settings}
use Rattle.promql_query.specs.Batch.{EnforcesShort, PrintsAsked, PrintsQuery, error_value, limits_of, with_expectation}
use Rattle.promql_query.specs.BatchSteps.{FailsWith, IsAsked, IsAskedAnswer, IsAskedPrint, IsOkLine, IsQueryAnswer, IsTreeAnswer, IsWantedAnswer, PrintsFormat, TellsEnforced}
use Rattle.promql_query.specs.TimesText.{TellsTimes}
use Rattle.promql_when.specs.declared.times.Times.{Times}
use Rattle.promql_query.specs.QueryErrors.{IsOutput, query_error_number, rejected_in}
use Rattle.promql_query.specs.declared.query_error.QueryError.TheVariants as error
use Rattle.promql_run.specs.Running.{format_text}
use Rattle.promql_query.specs.Requests.{format_with, matcher_in, mode_with, query_in, requested, wanted_in}
use Rattle.promql_query.specs.declared.query_error.QueryError.{QueryError}
use Rattle.promql_query.specs.declared.rejected_query.Expectation.{Expectation}
use Rattle.promql_query.specs.declared.rejected_query.RejectedQuery.{RejectedQuery}
use Rattle.promql_run.specs.declared.format.Format.{Format}
use Rattle.promql_run.specs.declared.format.Format.TheVariants as formats
use Rattle.promql_query.specs.declared.mode.Mode.{Mode}
use Rattle.promql_query.specs.declared.mode.Mode.TheVariants as modes
use Rattle.promql_query.specs.declared.mode.Wanted.{Wanted}
use Rattle.promql_query.specs.declared.mode.Wanted.TheVariants.{Print}

-- what a line asks for, by its value
asked_by_value : (asked : Format) (line query : Text) (w : Wanted) (value : Data) → read line ≡ Some value → query_in value ≡ Some query → wanted_in asked value ≡ Some w
    → requested asked line ≡ Some (query, matcher_in value, w)
asked_by_value asked line query w value is query_is wanted_is =
    ap (option_and_then (λ d. option_and_then (λ q. option_map (λ k. (q, matcher_in d, k)) (wanted_in asked d)) (query_in d))) is
    ∙ ap (option_and_then (λ q. option_map (λ k. (q, matcher_in value, k)) (wanted_in asked value))) query_is
    ∙ ap (option_map (λ k. (query, matcher_in value, k))) wanted_is

-- what the command asks for stays where a line says nothing else
as_asked : (asked : Format) → format_with None None asked ≡ Some asked
as_asked (formats.Pretty layout) = refl
as_asked formats.Line = refl
as_asked formats.Json = refl

-- a line that is a query in quotes asks for it as the command says
pub asks_in_quotes : (asked : Format) (line query : Text) → read line ≡ Some (string query) → requested asked line ≡ Some (query, None, Print (modes.Plain asked))
asks_in_quotes asked line query is =
    asked_by_value asked line query (Print (modes.Plain asked)) (string query) is refl
    (ap (λ f. option_map (λ m. Print m) (option_and_then (mode_with (Some false) None) f)) (as_asked asked))

pub asks_by_value : (asked : Format) (line query : Text) (matcher : Option Text) (w : Wanted) (value : Data) → read line ≡ Some value
    → Some query ≡ query_in value → matcher ≡ matcher_in value → Some w ≡ wanted_in asked value → requested asked line ≡ Some (query, matcher, w)
asks_by_value asked line query matcher w value is query_is matcher_is wanted_is =
    asked_by_value asked line query w value is (sym query_is) (sym wanted_is) ∙ ap (λ c. Some (query, c, w)) (sym matcher_is)

-- the answer to the query that a line asks for is that to the line
pub answered_line : {E : Type 0} (r : Result (String Global) E) (settings : Settings) (line query : Text) (matcher : Option Text) (w : Wanted) → IsUtf8 line → requested settings.format line ≡ Some (query, matcher, w)
    → IfOk r (λ s. IsQueryAnswer settings.limits (string_bytes s) query matcher w) → IfOk r (λ s. IsOkLine settings line (string_bytes s))
answered_line r settings line query matcher w utf8 asks = IfOk-weaker r _ _ (λ s has. ((query, matcher, w), (utf8, asks), has))

texts_are_finite : (ts : List Text) → items_have_float (items_of (map string ts)) ≡ false
texts_are_finite [] = refl
texts_are_finite (t ∷ ts) = texts_are_finite ts

expectation_is_finite : (o : Option Expectation) (ms : Members) → members_have_float ms ≡ false → members_have_float (with_expectation o ms) ≡ false
expectation_is_finite None ms finite = finite
expectation_is_finite (Some e) ms finite = or_from _ _ (texts_are_finite (map (λ name. name.now) e.expected.items)) finite

value_is_finite : (code : ℕ) (message : Text) (o : Option RejectedQuery) → has_float (error_value code message o) ≡ false
value_is_finite code message None = refl
value_is_finite code message (Some r) = expectation_is_finite r.expectation _ refl

pub rejection_is_finite : (built : Data) (r : RejectedQuery) (code : ℕ) (message : Text) → built ≡ error_value code message (Some r) → has_float built ≡ false
rejection_is_finite built r code message is = ap has_float is ∙ value_is_finite code message (Some r)

pub error_is_finite : (built : Data) (e : QueryError) (message : Text) → built ≡ error_value (query_error_number e) message (rejected_in e) → has_float built ≡ false
error_is_finite built e message is = ap has_float is ∙ value_is_finite (query_error_number e) message (rejected_in e)

-- what is made of the tree with the matcher is made of the tree
pub asked_answers : (r : Result (String Global) QueryError) (limits : Limits) (matcher : Option Text) (format : Format) (t u : Tree) → IsAsked limits matcher t (Ok u)
    → IfOk r (λ s. IsTreeAnswer limits matcher format u (string_bytes s)) → IfOk r (λ s. IsAskedAnswer limits matcher format t (string_bytes s))
asked_answers r limits matcher format t u asked = IfOk-weaker r _ _ (λ s has. (has.0, (u, asked, has.1), has.2))

pub asked_fails : {T : Type 0} (r : Result T QueryError) (limits : Limits) (matcher : Option Text) (format : Format) (t u : Tree) → IsAsked limits matcher t (Ok u)
    → IfErr r (λ e. PrintsFormat limits format u (Err e)) → IfErr r (λ e. IsAskedPrint limits matcher format t (Err e))
asked_fails (Ok value) limits matcher format t u asked fails = tt
asked_fails (Err e) limits matcher format t u asked fails = inr (u, asked, fails)

-- what is told of the tree with the matcher
pub told_fails : {T : Type 0} (r : Result T QueryError) (limits : Limits) (matcher : Text) (ts : Times) (t u : Tree) → EnforcesShort limits matcher t (Ok u)
    → IfErr r (λ e. TellsTimes None limits ts u (Err e)) → IfErr r (λ e. TellsEnforced limits matcher ts t (Err e))
told_fails (Ok value) limits matcher ts t u enforces fails = tt
told_fails (Err e) limits matcher ts t u enforces fails = inr (u, enforces, fails)

-- what is printed of that is printed in the mode of the format
asked_prints : (limits : Limits) (query : Text) (matcher : Option Text) (format : Format) (t : Tree) (made : Result Text QueryError) → IsAskedPrint limits matcher format t made
    → PrintsAsked limits query (Print (modes.Plain format)) matcher t made
asked_prints limits query (Some matcher) format t (Ok text) prints = prints
asked_prints limits query (Some matcher) format t (Err e) prints = prints
asked_prints limits query None format t (Ok text) (u, same, prints) = let is : u ≡ t = cc in subst (λ v. PrintsFormat limits format v (Ok text)) is prints
asked_prints limits query None format t (Err e) (inl none) = absurd cc
asked_prints limits query None format t (Err e) (inr (u, same, prints)) = let is : u ≡ t = cc in subst (λ v. PrintsFormat limits format v (Err e)) is prints

pub mode_answers : (r : Result (String Global) QueryError) (limits : Limits) (query : Text) (matcher : Option Text) (format : Format) (m : Mode) (t : Tree) → modes.Plain format ≡ m
    → IfOk r (λ s. IsAskedAnswer limits matcher format t (string_bytes s)) → IfOk r (λ s. IsWantedAnswer limits query matcher (Print m) t (string_bytes s))
mode_answers r limits query matcher format m t is has =
    subst (λ m. IfOk r (λ s. IsWantedAnswer limits query matcher (Print m) t (string_bytes s))) is
    (IfOk-weaker r _ _ (λ s has. (has.0, asked_prints limits query matcher format t (Ok has.0) has.1, has.2)) has)

pub mode_fails : {T : Type 0} (r : Result T QueryError) (limits : Limits) (query : Text) (matcher : Option Text) (format : Format) (m : Mode) (t : Tree) → modes.Plain format ≡ m
    → IfErr r (λ e. IsAskedPrint limits matcher format t (Err e)) → IfErr r (λ e. PrintsAsked limits query (Print m) matcher t (Err e))
mode_fails (Ok value) limits query matcher format m t is fails = tt
mode_fails (Err e) limits query matcher format m t is fails =
    subst (λ m. PrintsAsked limits query (Print m) matcher t (Err e)) is (asked_prints limits query matcher format t (Err e) fails)

-- what is printed of a tree is printed of the query
pub query_answers : (r : Result (String Global) QueryError) (limits : Limits) (query : Text) (matcher : Option Text) (w : Wanted) (t : Tree) → IsRead (limits_of matcher limits) query t
    → IfOk r (λ s. IsWantedAnswer limits query matcher w t (string_bytes s)) → IfOk r (λ s. IsQueryAnswer limits (string_bytes s) query matcher w)
query_answers r limits query matcher w t read = IfOk-weaker r _ _ (λ s has. (has.0, (t, read, has.1), has.2))

pub query_fails : {T : Type 0} (r : Result T QueryError) (limits : Limits) (query : Text) (matcher : Option Text) (w : Wanted) (t : Tree) → IsRead (limits_of matcher limits) query t
    → IfErr r (λ e. PrintsAsked limits query w matcher t (Err e)) → IfErr r (λ e. PrintsQuery limits (query, matcher, w) (Err e))
query_fails (Ok value) limits query matcher w t read fails = tt
query_fails (Err e) limits query matcher w t read fails = inr (t, read, fails)

-- an output of a tree that is too long, or for which an allocation failed
pub no_answer : {T : Type 0} (r : Result T QueryError) (limits : Limits) (format : Format) (t : Tree) (text : Text) → format_text format t ≡ Ok text
    → IfErr r (λ e. IsOutput limits text (Err e) ⊎ (e ≡ error.Memory)) → IfErr r (λ e. PrintsFormat limits format t (Err e))
no_answer (Ok value) limits format t text gives fails = tt
no_answer (Err e) limits format t text gives fails = ⊎_elim (λ out. inr (text, gives, out)) (λ is. inl (inr is)) fails

-- an error of the query is one of the line that asks for it
pub failing_in_vain : {T : Type 0} (r : Result T QueryError) (settings : Settings) (line query : Text) (matcher : Option Text) (w : Wanted) → IsUtf8 line → requested settings.format line ≡ Some (query, matcher, w)
    → IfErr r (λ e. PrintsQuery settings.limits (query, matcher, w) (Err e)) → IfErr r (FailsWith settings line)
failing_in_vain (Ok value) settings line query matcher w utf8 asks fails = tt
failing_in_vain (Err e) settings line query matcher w utf8 asks fails = inr ((query, matcher, w), (utf8, asks), fails)
