-- How the matchers of a selector are read and built, one by one.
use Rattle.std.proofs.Common.{◌≡◌, ℕ, suc, zero, ◌-◌, ◌<◌, ◌≤◌, refl, sym, ◌∙◌, ap, subst, arith, Bool, true, false, List, [], ◌∷◌, ◌++◌, append_assoc, append-nil, length, Some, None}
use Rattle.std.specs.Prelude.{Result, Ok, Err, ◌==◌, if◌then◌else◌}
use Rattle.std.specs.declared.alloc.Global.{Global}
use Rattle.std.specs.declared.boxed.Box.{Box}
use Rattle.promql_grammar.specs.declared.token_kinds.TokenKind.TheVariants as kind
use Rattle.promql_grammar.specs.declared.read_error.ReadError.TheVariants.{Memory, Syntax, TooDeep}
use Rattle.promql_grammar.specs.Results.{◌then◌}
use Rattle.promql_grammar.specs.Symbols.{Symbol, punct, word}
use Rattle.promql_grammar.specs.GrammarParts.{Item, Items, last_item, next_item, Separator}
use Rattle.promql_grammar.specs.Parsing.{Read, parse_item, parse_items, parse_after_item, parse_braces, Stop, misfit}
use Rattle.promql_grammar.specs.Eating.{HasNo}
use Rattle.promql_grammar.specs.MatcherTokens.{ItemEnd, closes, comma_closes, joins, parse_item_end, is_or, next_group, ParsesItemEnd}
use Rattle.promql_grammar.specs.Failures.{Fails, Failure}
use Rattle.promql_label.specs.PlainMatchers.{PlainMatchers, plain_matchers}
use Rattle.promql_label.specs.MatcherViews.{plain_matchers_of}
use Rattle.promql_label.specs.declared.matchers.Matchers as code
use Rattle.promql_syntax.specs.declared.grammar.build_error.BuildError as build_errors
use Rattle.promql_syntax.specs.Asking.{◌giving◌, Asked, AreAllowed, Ends}
use Rattle.promql_syntax.specs.BuildErrors.{BuildError, view_result}
use Rattle.promql_syntax.specs.ParsesPart.{ParsesAskedPart}
use Rattle.promql_syntax.specs.MatcherItems.{ItemEnds, ItemsEnd, AddsItem}
use Rattle.promql_syntax.specs.PartBuilding.{braces_value, item_value, items_value, append_matcher}
use Rattle.promql_syntax.proofs.building.Asked.{allowed_all, ends_on, ends_fails}
use Rattle.promql_syntax.proofs.parsing.ResultSteps.{fails_then, fails_same, then_then}
use Rattle.promql_token.specs.declared.ids.TheConstants.{T_LOR}

-- what a matcher and its end give
abbrev items_after : (List Symbol → Read Items) → Item → ItemEnd × List Symbol → Read Items
items_after r i (closes, ts) = Ok (last_item i false, ts)
items_after r i (comma_closes, ts) = Ok (last_item i true, ts)
items_after r i (joins s, ts) = r ts then λ y. Ok (next_item i s y.0, y.1)

choice_then : {A B : Type 0} (b : Bool) (x : A) (f : A → Result B Stop) (bad : List Symbol) → (if b then f x else Err (misfit bad)) ≡ ((if b then Ok x else Err (misfit bad)) then f)
choice_then true x f bad = refl
choice_then false x f bad = refl

after_step : (r : List Symbol → Read Items) (i : Item) (ts : List Symbol) → parse_after_item r i ts ≡ (parse_item_end ts then items_after r i)
after_step r i (punct kind.RightBrace ∷ ts) = refl
after_step r i (punct kind.Comma ∷ (punct kind.RightBrace ∷ ts)) = refl
after_step r i (punct kind.Comma ∷ ts) = refl
after_step r i (word (kind.Operator op) t ∷ ts) = choice_then (op == T_LOR) (joins (Some t), ts) (items_after r i) (word (kind.Operator op) t ∷ ts)
after_step r i ts = refl

some_items : (ts : List Symbol) → HasNo kind.RightBrace ts → parse_braces ts ≡ (parse_items (length ts) ts then λ y. Ok (Some y.0, y.1))
some_items (punct kind.RightBrace ∷ ts) none = absurd (none refl)
some_items ts none = refl

turn : (n : ℕ) (rest us : List Symbol) (i : Item) → 0 < n → parse_item rest ≡ Ok (i, us) → parse_items n rest ≡ (parse_item_end us then items_after (parse_items (n - 1)) i)
turn n rest us i some is =
    let next : n ≡ suc (n - 1) = omega arith in
    ap (λ k. parse_items k rest) next ∙ ap (λ o. o then λ x. parse_after_item (parse_items (n - 1)) x.0 x.1) is ∙ after_step (parse_items (n - 1)) i us

-- building goes on from what is held
pub record Builds (held : Result PlainMatchers BuildError) (separator : Separator) (whole : Items → Items) : Type 0 where
  pub answers : List Asked
  pub allowed : AreAllowed answers
  pub ends : (is : Items) (more : List Asked) (after : Result PlainMatchers BuildError) → ItemsEnd held separator is more after → Ends (braces_value (Some (whole is))) (answers ++ more) after

-- matchers were read, and parsing goes on
pub record Selecting (builds : Bool) (all rest : List Symbol) (held : Result PlainMatchers BuildError) (by_or : Bool) : Type 0 where
  pub turns : ℕ
  pub enough : length rest ≤ turns
  pub separator : Separator
  pub same : by_or ≡ is_or separator
  pub whole : Items → Items
  pub goes : parse_braces all ≡ (parse_items turns rest then λ y. Ok (Some (whole y.0), y.1))
  pub built : builds ≡ true → Builds held separator whole

pub selecting_starts : (builds : Bool) (all : List Symbol) → HasNo kind.RightBrace all → Selecting builds all all (Ok (plain_matchers [] [])) false
selecting_starts builds all none = record {
  turns = length all;
  enough = omega arith;
  separator = None;
  same = refl;
  whole = λ is. is;
  goes = some_items all none;
  built = λ on. record { answers = []; allowed = tt; ends = λ is more after ends. ends };
}

fault_on : (f : BuildError) (held : Result PlainMatchers BuildError) (s : Separator) (is : Items) (more : List Asked) (after : Result PlainMatchers BuildError) → held ≡ Err f → ItemsEnd held s is more after → (more ≡ []) × (after ≡ Err f)
fault_on f (Ok cs) s is more after same ends = cc
fault_on f (Err g) s is more after same ends = (ends.0, ends.1 ∙ same)

items_on : (held next : Result PlainMatchers BuildError) (s t : Separator) (i : Item) (is : Items) (xs ys : List Asked) (after : Result PlainMatchers BuildError)
    → ItemEnds held s i xs next → ItemsEnd next t is ys after → ItemsEnd held s (next_item i t is) (xs ++ ys) after
items_on (Ok cs) (Ok ds) s t i is xs ys after first second = ends_on (item_value i) (append_matcher s cs) (λ c. items_value c t is) xs ys ds after first second
items_on (Ok cs) (Err f) s t i is xs ys after first second =
    let ends = ends_fails (item_value i) (append_matcher s cs) (λ c. items_value c t is) xs f first in
    let all : xs ++ ys ≡ xs = ap (λ l. xs ++ l) second.0 ∙ append-nil xs in
    let moved = subst (λ r. Ends (item_value i giving λ c. items_value (append_matcher s cs c) t is) xs r) (sym second.1) ends in
    subst (λ l. Ends (item_value i giving λ c. items_value (append_matcher s cs c) t is) l after) (sym all) moved
items_on (Err f) next s t i is xs ys after first second =
    let faulty = fault_on f next t is ys after first.1 second in
    (ap (λ l. l ++ ys) first.0 ∙ faulty.0, faulty.1)

items_end : (held after : Result PlainMatchers BuildError) (s : Separator) (i : Item) (xs : List Asked) → ItemEnds held s i xs after → ItemsEnd held s (last_item i false) xs after
items_end (Ok cs) after s i xs ends = ends
items_end (Err f) after s i xs ends = ends

items_end_comma : (held after : Result PlainMatchers BuildError) (s : Separator) (i : Item) (xs : List Asked) → ItemEnds held s i xs after → ItemsEnd held s (last_item i true) xs after
items_end_comma (Ok cs) after s i xs ends = ends
items_end_comma (Err f) after s i xs ends = ends

fails_items : (e : Failure) (bad : List Symbol) → Fails {A = Item × List Symbol} e (Err (misfit bad)) → Fails {A = Items × List Symbol} e (Err (misfit bad))
fails_items (Memory, rest) bad fails = tt
fails_items (Syntax, rest) bad fails = cc
fails_items (TooDeep, rest) bad fails = cc

-- no matcher follows
item_none : (n : ℕ) (e : Failure) (ts : List Symbol) → Fails e (parse_item ts) → length ts ≤ n → Fails e (parse_items n ts)
item_none zero e [] fails enough = fails_items e [] fails
item_none zero e (t ∷ ts) fails enough = absurd (omega arith)
item_none (suc n) e ts fails enough = fails_then e (parse_item ts) (λ x. parse_after_item (parse_items n) x.0 x.1) fails

last_end : (end : ItemEnd) → None ≡ next_group end → ¬ ((s : Separator) × (end ≡ joins s))
last_end closes same joined = let no : closes ≡ joins joined.0 = joined.1 in cc
last_end comma_closes same joined = let no : comma_closes ≡ joins joined.0 = joined.1 in cc
last_end (joins s) same joined = cc

joining_end : (group : Bool) (end : ItemEnd) → Some group ≡ next_group end → (s : Separator) × (end ≡ joins s) × (group ≡ is_or s)
joining_end group closes same = cc
joining_end group comma_closes same = cc
joining_end group (joins s) same = (s, refl, cc)

module _ (builds : Bool) (all rest : List Symbol) (held : Result PlainMatchers BuildError) (by_or : Bool) (selecting : Selecting builds all rest held by_or) where
  step : (i : Item) (us : List Symbol) → 0 < length rest → parse_item rest ≡ Ok (i, us)
      → parse_braces all ≡ ((parse_item_end us then items_after (parse_items (selecting.turns - 1)) i) then λ y. Ok (Some (selecting.whole y.0), y.1))
  step i us some is =
      let enough = selecting.enough in
      selecting.goes ∙ ap (λ o. o then λ y. Ok (Some (selecting.whole y.0), y.1)) (turn selecting.turns rest us i (omega arith) is)

  pub selecting_none : (e : Failure) → Fails e (parse_item rest) → Fails e (parse_braces all)
  selecting_none e fails = fails_same e _ _ selecting.goes (fails_then e (parse_items selecting.turns rest) (λ y. Ok (Some (selecting.whole y.0), y.1)) (item_none selecting.turns e rest fails selecting.enough))

  pub selecting_fails : (i : Item) (us : List Symbol) (e : Failure) → 0 < length rest → parse_item rest ≡ Ok (i, us) → Fails e (parse_item_end us) → Fails e (parse_braces all)
  selecting_fails i us e some is fails =
      fails_same e _ _ (step i us some is)
      (fails_then e (parse_item_end us then items_after (parse_items (selecting.turns - 1)) i) (λ y. Ok (Some (selecting.whole y.0), y.1))
      (fails_then e (parse_item_end us) (items_after (parse_items (selecting.turns - 1)) i) fails))

  pub selecting_on : (i : Item) (us vs : List Symbol) (s : Separator) (next : Result PlainMatchers BuildError) (group : Bool)
      → parse_item rest ≡ Ok (i, us) → parse_item_end us ≡ Ok (joins s, vs) → length us < length rest → length vs < length us → (builds ≡ true → AddsItem held selecting.separator i next) → group ≡ is_or s → Selecting builds all vs next group
  selecting_on i us vs s next group is ends short shorter added same = record {
    turns = selecting.turns - 1;
    enough = let enough = selecting.enough in omega arith;
    separator = s;
    same = same;
    whole = λ is. selecting.whole (next_item i s is);
    goes =
        step i us (omega arith) is
        ∙ ap (λ o. (o then items_after (parse_items (selecting.turns - 1)) i) then λ y. Ok (Some (selecting.whole y.0), y.1)) ends
        ∙ then_then (parse_items (selecting.turns - 1) vs) (λ y. Ok (next_item i s y.0, y.1)) (λ y. Ok (Some (selecting.whole y.0), y.1));
    built = λ on.
        let so_far = selecting.built on in
        let adds = added on in
        record {
          answers = so_far.answers ++ adds.answers;
          allowed = allowed_all so_far.answers adds.answers so_far.allowed adds.allowed;
          ends = λ is more after rest_ends.
              subst (λ l. Ends (braces_value (Some (selecting.whole (next_item i s is)))) l after) (sym (append_assoc so_far.answers adds.answers more))
              (so_far.ends (next_item i s is) (adds.answers ++ more) after (items_on held next selecting.separator s i is adds.answers more after adds.ends rest_ends));
        };
  }

  pub selecting_ends : (i : Item) (us vs : List Symbol) (value : Result code.Matchers (Box build_errors.BuildError Global)) (end : ItemEnd)
      → parse_item rest ≡ Ok (i, us) → 0 < length rest → parse_item_end us ≡ Ok (end, vs) → ¬ ((s : Separator) × (end ≡ joins s)) → (builds ≡ true → AddsItem held selecting.separator i (view_result plain_matchers_of value)) → ParsesAskedPart builds plain_matchers_of braces_value value vs (parse_braces all)
  selecting_ends i us vs value closes is some ends other added = record {
    part = Some (selecting.whole (last_item i false));
    is = step i us some is ∙ ap (λ o. (o then items_after (parse_items (selecting.turns - 1)) i) then λ y. Ok (Some (selecting.whole y.0), y.1)) ends;
    built = λ on.
        let so_far = selecting.built on in
        let adds = added on in
        record {
          answers = so_far.answers ++ adds.answers;
          allowed = allowed_all so_far.answers adds.answers so_far.allowed adds.allowed;
          ends = so_far.ends (last_item i false) adds.answers _ (items_end held _ selecting.separator i adds.answers adds.ends);
        };
  }
  selecting_ends i us vs value comma_closes is some ends other added = record {
    part = Some (selecting.whole (last_item i true));
    is = step i us some is ∙ ap (λ o. (o then items_after (parse_items (selecting.turns - 1)) i) then λ y. Ok (Some (selecting.whole y.0), y.1)) ends;
    built = λ on.
        let so_far = selecting.built on in
        let adds = added on in
        record {
          answers = so_far.answers ++ adds.answers;
          allowed = allowed_all so_far.answers adds.answers so_far.allowed adds.allowed;
          ends = so_far.ends (last_item i true) adds.answers _ (items_end_comma held _ selecting.separator i adds.answers adds.ends);
        };
  }
  selecting_ends i us vs value (joins s) is some ends other added = absurd (other (s, refl))

  pub selecting_last : (i : Item) (us vs : List Symbol) (value : Result code.Matchers (Box build_errors.BuildError Global))
      → parse_item rest ≡ Ok (i, us) → 0 < length rest → ParsesItemEnd None vs (parse_item_end us) → (builds ≡ true → AddsItem held selecting.separator i (view_result plain_matchers_of value)) → ParsesAskedPart builds plain_matchers_of braces_value value vs (parse_braces all)
  selecting_last i us vs value is some ends added = selecting_ends i us vs value ends.end is some ends.is (last_end ends.end ends.same) added

  pub selecting_more : (i : Item) (us vs : List Symbol) (next : Result PlainMatchers BuildError) (group : Bool)
      → parse_item rest ≡ Ok (i, us) → ParsesItemEnd (Some group) vs (parse_item_end us) → length us < length rest → length vs < length us → (builds ≡ true → AddsItem held selecting.separator i next) → Selecting builds all vs next group
  selecting_more i us vs next group is ends short shorter added =
      let joined = joining_end group ends.end ends.same in
      selecting_on i us vs joined.0 next group is (ends.is ∙ ap (λ e. Ok (e, vs)) joined.1) short shorter added joined.2
