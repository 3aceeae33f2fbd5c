-- How modifiers are read and built.
use Rattle.std.proofs.Common.{◌≡◌, ◌≤◌, refl, sym, ◌∙◌, ap, arith, Bool, true, false, Option, Some, None, is_some, List, ◌∷◌, length}
use Rattle.std.specs.Prelude.{if◌then◌else◌, Result, Ok, Err, MatchBool, option_map}
use Rattle.std.specs.declared.alloc.Global.{Global}
use Rattle.std.specs.declared.boxed.Box.{Box}
use Rattle.promql_text.specs.Texts.{Text}
use Rattle.promql_text.specs.declared.number.Number.{Number}
use Rattle.promql_grammar.specs.declared.token_kinds.TokenKind.TheVariants as kind
use Rattle.promql_grammar.specs.Results.{◌then◌}
use Rattle.promql_grammar.specs.Symbols.{Symbol, punct, word, symbol}
use Rattle.promql_grammar.specs.GrammarParts as part
use Rattle.promql_grammar.specs.Parsing.{parse_label_list, parse_group_labels, parse_group, parse_fill_value, parse_fills, parse_fill_right, parse_fill_left, parse_flag, parse_matching, parse_modifier, with_matching}
use Rattle.promql_grammar.specs.Eating.{Eats, HasNo}
use Rattle.promql_grammar.specs.Failures.{Fails, Failure}
use Rattle.promql_label.specs.Labels.{labels_of}
use Rattle.promql_label.specs.declared.labels.Labels as code
use Rattle.promql_kind.specs.Modifiers.{Clause, including, excluding, Cardinality, one_to_one, Fills, fills, Matching, matching}
use Rattle.promql_kind.specs.ModifierViews.{cardinality_of, fills_of, matching_of}
use Rattle.promql_kind.specs.declared.bin_modifier.BinModifier.{BinModifier}
use Rattle.promql_kind.specs.declared.cardinality.VectorMatchCardinality.{VectorMatchCardinality}
use Rattle.promql_kind.specs.declared.fill_values.VectorMatchFillValues.{VectorMatchFillValues}
use Rattle.promql_syntax.specs.declared.grammar.build_error.BuildError as build_errors
use Rattle.promql_syntax.specs.declared.grammar.modifier.Matching as parts
use Rattle.promql_syntax.specs.BuildErrors.{BuildError, view_result}
use Rattle.promql_syntax.specs.ParsesPart.{ParsesPart}
use Rattle.promql_syntax.specs.ModifierParts.{ParsesFlag, list_in, list_value, matching_parts, modifier_of}
use Rattle.promql_syntax.specs.PartBuilding.{label_values, group_value, matching_value, fill_value, fills_value, modifier_value}
use Rattle.promql_syntax.proofs.parsing.ResultSteps.{fails_then, fails_same, then_then}
use Rattle.promql_syntax.specs.PartWords.{cardinality}

-- ---- the flag

no_flag : (ts : List Symbol) → HasNo kind.Bool ts → parse_flag ts ≡ Ok (None, ts)
no_flag (word kind.Bool t ∷ ts) none = absurd (none refl)
no_flag ts none = refl

pub flag_read : (b : Bool) (ts us : List Symbol) → MatchBool b (Eats kind.Bool ts us) (HasNo kind.Bool ts) → (b ≡ false → us ≡ ts) → ParsesFlag b us (parse_flag ts)
flag_read true ts us eats stays = record { flag = Some eats.text; is = ap parse_flag eats.first; same = refl }
flag_read false ts us none stays = record { flag = None; is = no_flag ts none ∙ ap (λ l. Ok (None, l)) (sym (stays refl)); same = refl }

pub flag_short : (b : Bool) (ts us : List Symbol) → MatchBool b (Eats kind.Bool ts us) (HasNo kind.Bool ts) → (b ≡ false → us ≡ ts) → length us ≤ length ts
flag_short true ts us eats stays = omega (arith, ap length eats.first)
flag_short false ts us none stays = omega (arith, ap length (stays refl))

-- ---- groups

abbrev pub group_of_labels : Bool → Text → Option part.Labels → part.Group
group_of_labels left t None = Some (left, t, None)
group_of_labels left t (Some ls) = Some (left, t, Some ls)

list_read : (left : Bool) (t : Text) (ts : List Symbol) → parse_group_labels left t ts ≡ (list_in ts then λ l. Ok (group_of_labels left t l.0, l.1))
list_read left t (punct kind.LeftParen ∷ ts) = sym (then_then (parse_label_list ts) (λ l. Ok (Some l.0, l.1)) (λ l. Ok (group_of_labels left t l.0, l.1)))
list_read left t ts = refl

pub group_left_read : (ts us : List Symbol) (t : Text) → ts ≡ symbol kind.GroupLeft t ∷ us → parse_group ts ≡ (list_in us then λ l. Ok (group_of_labels true t l.0, l.1))
group_left_read ts us t front = ap parse_group front ∙ list_read true t us

pub group_right_read : (ts us : List Symbol) (t : Text) → ts ≡ symbol kind.GroupRight t ∷ us → parse_group ts ≡ (list_in us then λ l. Ok (group_of_labels false t l.0, l.1))
group_right_read ts us t front = ap parse_group front ∙ list_read false t us

grouped_value : (left : Bool) (t : Text) (l : Option part.Labels) → group_value (group_of_labels left t l) ≡ (list_value l then λ ls. Ok (cardinality left ls))
grouped_value left t None = refl
grouped_value left t (Some ls) = refl

module _ (ts us : List Symbol) (left : Bool) (t : Text) (read : parse_group ts ≡ (list_in us then λ l. Ok (group_of_labels left t l.0, l.1))) where
  pub group_fails : (e : Failure) → Fails e (list_in us) → Fails e (parse_group ts)
  group_fails e fails = fails_same e _ _ read (fails_then e (list_in us) (λ l. Ok (group_of_labels left t l.0, l.1)) fails)

  pub group_part : (rest : List Symbol) (labels : Result code.Labels (Box build_errors.BuildError Global)) (card : Result VectorMatchCardinality (Box build_errors.BuildError Global)) → ParsesPart labels_of list_value labels rest (list_in us)
      → view_result cardinality_of card ≡ (view_result labels_of labels then λ ls. Ok (cardinality left ls)) → ParsesPart cardinality_of group_value card rest (parse_group ts)
  group_part rest labels card list made = record {
    part = group_of_labels left t list.part;
    is = read ∙ ap (λ o. o then λ l. Ok (group_of_labels left t l.0, l.1)) list.is;
    built = made ∙ ap (λ r. r then λ ls. Ok (cardinality left ls)) list.built ∙ sym (grouped_value left t list.part);
  }

-- ---- fill values

pub left_filled : (ts us vs : List Symbol) (t : Text) (v : part.FillValue) → ts ≡ symbol kind.FillLeft t ∷ us → parse_fill_value us ≡ Ok (v, vs) → parse_fills ts ≡ parse_fill_right t v vs
left_filled ts us vs t v front is = ap parse_fills front ∙ ap (λ o. o then λ x. parse_fill_right t x.0 x.1) is

pub right_filled : (ts us vs : List Symbol) (t : Text) (v : part.FillValue) → ts ≡ symbol kind.FillRight t ∷ us → parse_fill_value us ≡ Ok (v, vs) → parse_fills ts ≡ parse_fill_left t v vs
right_filled ts us vs t v front is = ap parse_fills front ∙ ap (λ o. o then λ x. parse_fill_left t x.0 x.1) is

-- a value alone, where the other one is not there
no_fill_left : (t : Text) (v : part.FillValue) (ts : List Symbol) → HasNo kind.FillLeft ts → parse_fill_left t v ts ≡ Ok (part.one false t v, ts)
no_fill_left t v (word kind.FillLeft u ∷ ts) none = absurd (none refl)
no_fill_left t v ts none = refl

no_fill_right : (t : Text) (v : part.FillValue) (ts : List Symbol) → HasNo kind.FillRight ts → parse_fill_right t v ts ≡ Ok (part.one true t v, ts)
no_fill_right t v (word kind.FillRight u ∷ ts) none = absurd (none refl)
no_fill_right t v ts none = refl

pub right_alone : (t : Text) (v : part.FillValue) (ts us : List Symbol) → HasNo kind.FillLeft ts → us ≡ ts → parse_fill_left t v ts ≡ Ok (part.one false t v, us)
right_alone t v ts us none same = no_fill_left t v ts none ∙ ap (λ l. Ok (part.one false t v, l)) (sym same)

pub left_alone : (t : Text) (v : part.FillValue) (ts us : List Symbol) → HasNo kind.FillRight ts → us ≡ ts → parse_fill_right t v ts ≡ Ok (part.one true t v, us)
left_alone t v ts us none same = no_fill_right t v ts none ∙ ap (λ l. Ok (part.one true t v, l)) (sym same)

-- ---- the whole modifier

-- with a flag or labels there is a modifier
abbrev some_matching : Bool → Cardinality × Option Clause → Fills → Option Matching
some_matching flag c f = Some (matching c.0 c.1 flag f)

one_filled : (r : Result Number BuildError) (h : Number → Fills) → ((n : Number) → modifier_of false (one_to_one, None) (h n) ≡ some_matching false (one_to_one, None) (h n))
    → ((r then λ n. Ok (h n)) then λ f. Ok (some_matching false (one_to_one, None) f)) ≡ ((r then λ n. Ok (h n)) then λ f. Ok (modifier_of false (one_to_one, None) f))
one_filled (Ok n) h some = ap Ok (sym (some n))
one_filled (Err e) h some = refl

two_filled : (r s : Result Number BuildError) (h : Number → Number → Fills) → ((n m : Number) → modifier_of false (one_to_one, None) (h n m) ≡ some_matching false (one_to_one, None) (h n m))
    → ((r then λ n. s then λ m. Ok (h n m)) then λ f. Ok (some_matching false (one_to_one, None) f)) ≡ ((r then λ n. s then λ m. Ok (h n m)) then λ f. Ok (modifier_of false (one_to_one, None) f))
two_filled (Ok n) (Ok m) h some = ap Ok (sym (some n m))
two_filled (Ok n) (Err e) h some = refl
two_filled (Err e) s h some = refl

without_labels : (f : part.Fills) → modifier_value (None, None, f) ≡ (fills_value f then λ g. Ok (modifier_of false (one_to_one, None) g))
without_labels part.no_fill = refl
without_labels (part.both t v) = one_filled (fill_value v) (λ n. fills (Some n) (Some n)) (λ n. refl)
without_labels (part.one true t v) = one_filled (fill_value v) (λ n. fills None (Some n)) (λ n. refl)
without_labels (part.one false t v) = one_filled (fill_value v) (λ n. fills (Some n) None) (λ n. refl)
without_labels (part.two true t v t' w) = two_filled (fill_value v) (fill_value w) (λ n m. fills (Some m) (Some n)) (λ n m. refl)
without_labels (part.two false t v t' w) = two_filled (fill_value v) (fill_value w) (λ n m. fills (Some n) (Some m)) (λ n m. refl)

with_labels : (ls : Result (List Text) BuildError) (c : Result Cardinality BuildError) (clause : List Text → Clause) (f : Result Fills BuildError)
    → ((ls then λ x. c then λ y. Ok (y, Some (clause x))) then λ m. f then λ g. Ok (some_matching false m g)) ≡ ((ls then λ x. c then λ y. Ok (y, Some (clause x))) then λ m. f then λ g. Ok (modifier_of false m g))
with_labels (Ok x) (Ok y) clause (Ok g) = refl
with_labels (Ok x) (Ok y) clause (Err e) = refl
with_labels (Ok x) (Err e) clause f = refl
with_labels (Err e) c clause f = refl

with_flag : (m : Result (Cardinality × Option Clause) BuildError) (f : Result Fills BuildError) → (m then λ c. f then λ g. Ok (some_matching true c g)) ≡ (m then λ c. f then λ g. Ok (modifier_of true c g))
with_flag (Ok c) (Ok g) = refl
with_flag (Ok c) (Err e) = refl
with_flag (Err e) f = refl

value_of_parts : (flag : Option Text) (m : part.Matching) (f : part.Fills) → modifier_value (flag, m, f) ≡ (matching_value m then λ c. fills_value f then λ g. Ok (modifier_of (is_some flag) c g))
value_of_parts None None f = without_labels f
value_of_parts None (Some (on, t, ls, g)) f = with_labels (label_values ls) (group_value g) (λ x. if on then including x else excluding x) (fills_value f)
value_of_parts (Some t) m f = with_flag (matching_value m) (fills_value f)

abbrev of_matching : Result Fills BuildError → Bool → Cardinality × Option Clause → Result (Option Matching) BuildError
of_matching f flag c = f then λ g. Ok (modifier_of flag c g)

-- a flag, labels and fill values were read one after another
pub modifier_part : (ts us vs rest : List Symbol) (given : Bool) (m : Result parts.Matching (Box build_errors.BuildError Global)) (f : Result VectorMatchFillValues (Box build_errors.BuildError Global)) (value : Result (Option BinModifier) (Box build_errors.BuildError Global))
    → ParsesFlag given us (parse_flag ts) → ParsesPart matching_parts matching_value m vs (parse_matching us) → ParsesPart fills_of fills_value f rest (parse_fills vs)
    → view_result (option_map matching_of) value ≡ (view_result matching_parts m then λ c. view_result fills_of f then λ g. Ok (modifier_of given c g))
    → ParsesPart (option_map matching_of) modifier_value value rest (parse_modifier ts)
modifier_part ts us vs rest given m f value flag labels values made = record {
  part = (flag.flag, labels.part, values.part);
  is =
      ap (λ o. o then λ b. parse_matching b.1 then with_matching b.0) flag.is
      ∙ ap (λ o. o then with_matching flag.flag) labels.is
      ∙ ap (λ o. o then λ x. Ok ((flag.flag, labels.part, x.0), x.1)) values.is;
  built =
      made
      ∙ ap (λ r. r then of_matching (view_result fills_of f) given) labels.built
      ∙ ap (λ r. matching_value labels.part then of_matching r given) values.built
      ∙ ap (λ b. matching_value labels.part then of_matching (fills_value values.part) b) flag.same
      ∙ sym (value_of_parts flag.flag labels.part values.part);
}
