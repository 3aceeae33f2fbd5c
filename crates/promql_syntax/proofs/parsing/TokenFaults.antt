-- What the parts of an expression fail with: faults of a token.
use Rattle.std.proofs.Common.{◌≡◌, Bool, true, false, refl, sym, subst}
use Rattle.std.specs.Prelude.{Option, Some, None, ok_or, Result, Ok, Err, IfErr, cond}
use Rattle.promql_text.specs.Texts.{Text}
use Rattle.promql_text.specs.declared.number.Number.{Number}
use Rattle.promql_text.specs.declared.number.NumberFault.{NumberFault}
use Rattle.promql_text.specs.declared.duration.DurationFault.{DurationFault}
use Rattle.promql_text.specs.Durations.{duration_of}
use Rattle.promql_text.specs.NumberText.{read_number}
use Rattle.promql_text.specs.Quoting.{unquoted_text}
use Rattle.promql_grammar.specs.declared.token_kinds.TokenKind.{TokenKind}
use Rattle.promql_grammar.specs.declared.token_kinds.TokenKind.TheVariants as kind
use Rattle.promql_grammar.specs.Grammar as grammar
use Rattle.promql_grammar.specs.GrammarParts as part
use Rattle.promql_grammar.specs.Results.{◌then◌}
use Rattle.promql_ast.specs.AtTimes.{at_of_number}
use Rattle.promql_ast.specs.declared.at_modifier.AtFault.{AtFault}
use Rattle.promql_ast.specs.declared.at_modifier.AtModifier.{AtModifier}
use Rattle.promql_syntax.specs.BuildErrors.{BuildError, number, quoted, duration, at, pattern, unknown_function, check}
use Rattle.promql_syntax.specs.FaultTokens.{fault_tokens}
use Rattle.promql_syntax.specs.BuildErrors as errors
use Rattle.promql_syntax.specs.PartBuilding.{string_value, number_value, signed_number, label_value, label_values, group_value, matching_value, fill_value, fills_value, modifier_value, time_value, shift_value, moment_value, on_error}
use Rattle.promql_syntax.specs.Postfixes.{at_fault, change_value}
use Rattle.promql_syntax.specs.PartWords.{is_blank, step_value}
use Rattle.promql_syntax.proofs.parsing.BlankModifiers.{given_value, by_blank}

abbrev pub IsTokenFault : BuildError → Type 0
IsTokenFault (number f) = Unit {0}
IsTokenFault quoted = Unit {0}
IsTokenFault (duration f) = Unit {0}
IsTokenFault (pattern value) = Unit {0}
IsTokenFault (at f) = ⊥
IsTokenFault (unknown_function name) = ⊥
IsTokenFault (check f) = ⊥

abbrev pub FailsByToken : {A : Type 0} → Result A BuildError → Type 0
FailsByToken r = IfErr r IsTokenFault

by_then : (P : BuildError → Type 0) {A B : Type 0} (r : Result A BuildError) (f : A → Result B BuildError) → IfErr r P → ((x : A) → IfErr (f x) P) → IfErr (r then f) P
by_then P (Ok x) f first rest = rest x
by_then P (Err e) f first rest = first

unquoted_by : (o : Option Text) → FailsByToken (ok_or o quoted)
unquoted_by (Some text) = tt
unquoted_by None = tt

string_by : (text : Text) → FailsByToken (string_value text)
string_by text = unquoted_by (unquoted_text text)

number_by : (r : Result Number NumberFault) → FailsByToken (on_error errors.number r)
number_by (Ok n) = tt
number_by (Err f) = tt

pub signed_by : (s : part.Signed) (text : Text) → FailsByToken (signed_number s text)
signed_by s text = by_then IsTokenFault (number_value text) _ (number_by (read_number text)) (λ n. tt)

label_by : (k : TokenKind) (text : Text) → FailsByToken (label_value k text)
label_by kind.String text = string_by text
label_by k text = tt

labels_by : (ls : part.Labels) → FailsByToken (label_values ls)
labels_by part.no_label = tt
labels_by (part.last k text) = by_then IsTokenFault (label_value k text) _ (label_by k text) (λ l. tt)
labels_by (part.next k text ls) = by_then IsTokenFault (label_value k text) _ (label_by k text) (λ l. by_then IsTokenFault (label_values ls) _ (labels_by ls) (λ more. tt))

group_by : (g : part.Group) → FailsByToken (group_value g)
group_by None = tt
group_by (Some (left, text, None)) = tt
group_by (Some (left, text, Some ls)) = by_then IsTokenFault (label_values ls) _ (labels_by ls) (λ x. tt)

matching_by : (m : part.Matching) → FailsByToken (matching_value m)
matching_by None = tt
matching_by (Some (on, text, ls, g)) = by_then IsTokenFault (label_values ls) _ (labels_by ls) (λ x. by_then IsTokenFault (group_value g) _ (group_by g) (λ c. tt))

fill_by : (v : part.FillValue) → FailsByToken (fill_value v)
fill_by v = signed_by v.0 v.1

fills_by : (f : part.Fills) → FailsByToken (fills_value f)
fills_by part.no_fill = tt
fills_by (part.both text v) = by_then IsTokenFault (fill_value v) _ (fill_by v) (λ n. tt)
fills_by (part.one left text v) = by_then IsTokenFault (fill_value v) _ (fill_by v) (λ n. tt)
fills_by (part.two left text v text' w) = by_then IsTokenFault (fill_value v) _ (fill_by v) (λ n. by_then IsTokenFault (fill_value w) _ (fill_by w) (λ m. tt))

cond_by : {A : Type 0} (b : Bool) (r s : Result A BuildError) → FailsByToken r → FailsByToken s → FailsByToken (cond b r s)
cond_by true r s first second = first
cond_by false r s first second = second

pub modifier_by : (m : part.Modifier) → FailsByToken (modifier_value m)
modifier_by m = subst FailsByToken (sym (by_blank m)) (cond_by (is_blank m) (Ok None) (given_value m) tt given)
  where
    given : FailsByToken (given_value m)
    given = by_then IsTokenFault (matching_value m.1) _ (matching_by m.1) (λ c. by_then IsTokenFault (fills_value m.2) _ (fills_by m.2) (λ f. tt))

-- ---- postfixes: no fault of a check

abbrev pub IsPartFault : BuildError → Type 0
IsPartFault (check f) = ⊥
IsPartFault e = Unit {0}

duration_by : {A : Type 0} (r : Result A DurationFault) → IfErr (on_error errors.duration r) IsPartFault
duration_by (Ok n) = tt
duration_by (Err f) = tt

time_by : (t : part.Time) → IfErr (time_value t) IsPartFault
time_by (part.seconds text) = duration_by (duration_of text)
time_by (part.duration text) = duration_by (duration_of text)

step_by : (s : Option part.Time) → IfErr (step_value s) IsPartFault
step_by None = tt
step_by (Some t) = by_then IsPartFault (time_value t) _ (time_by t) (λ n. tt)

number_part : (r : Result Number NumberFault) → IfErr (on_error errors.number r) IsPartFault
number_part (Ok n) = tt
number_part (Err f) = tt

moment_part : (r : Result AtModifier AtFault) → IfErr (at_fault r) IsPartFault
moment_part (Ok m) = tt
moment_part (Err f) = tt

pub change_by : (p : part.Postfix) → IfErr (change_value p) IsPartFault
change_by (part.range r) = by_then IsPartFault (time_value r) _ (time_by r) (λ n. tt)
change_by (part.subquery r s) = by_then IsPartFault (time_value r) _ (time_by r) (λ n. by_then IsPartFault (step_value s) _ (step_by s) (λ m. tt))
change_by (part.at_number s text) =
    by_then IsPartFault (moment_value s text) _
    (by_then IsPartFault (signed_number s text) _ (by_then IsPartFault (number_value text) _ (number_part (read_number text)) (λ n. tt)) (λ n. moment_part (at_of_number n)))
    (λ m. tt)
change_by (part.at_bound start text) = tt
change_by (part.offset text s r) = by_then IsPartFault (shift_value s r) _ (by_then IsPartFault (time_value r) _ (time_by r) (λ n. tt)) (λ x. tt)
change_by (part.mode smoothed text) = tt

-- ---- such a fault has no tokens of its own here

pub none_by_token : (e : BuildError) (k op : _) (text : Text) (m : part.Modifier) (l r : grammar.Derivation) → IsTokenFault e → fault_tokens e k (grammar.binary op text m l r) ≡ None
none_by_token (number f) k op text m l r is = refl
none_by_token quoted k op text m l r is = refl
none_by_token (duration f) k op text m l r is = refl
none_by_token (pattern value) k op text m l r is = refl
none_by_token (at f) k op text m l r is = absurd is
none_by_token (unknown_function name) k op text m l r is = absurd is
none_by_token (check f) k op text m l r is = absurd is
