-- The members of a request.
use Rattle.std.proofs.Common.{◌≡◌, List, [], ◌∷◌, cond, false, true, Some, None, map, Global, String, string_bytes, ap, refl, rules, sym, ◌∙◌}
use Rattle.std.specs.Prelude.{Bool, Option, if◌then◌else◌, is_none, is_some, not, option_map}
use Rattle.std.specs.BTreeMap.{BTreeMap}
use Rattle.serde_json.specs.View.{members_view, view}
use Rattle.serde_json.specs.declared.value.Value.{Value, Object, the_lemmas}
use Rattle.promql_text.specs.Texts.{Text}
use Rattle.promql_query.specs.BatchSteps.{first_unknown}
use Rattle.promql_query.specs.Requests.{ends_fault, has_time_names, is_known, names_fault, unknown_in, unknown_name}
use Rattle.promql_query.specs.declared.request.Names.{Names}
use Rattle.promql_query.specs.declared.request.Names.TheVariants.{OfRequest, OfTimes}
use Rattle.promql_query.specs.declared.request_fault.RequestFault.TheVariants.{TimesMember}

abbrev names : List (String Global) → List Text
names = map string_bytes

module _ (known : Names) where
  pub known_first : (left rest : List (String Global)) (key : String Global) → left ≡ key ∷ rest → is_known known (string_bytes key) ≡ true → first_unknown known (names rest) ≡ first_unknown known (names left)
  known_first left rest key is so =
      sym (ap (λ keys. first_unknown known (names keys)) is ∙ ap (λ b. cond b (first_unknown known (names rest)) (Some (string_bytes key))) so)

  pub unknown_first : (left rest : List (String Global)) (key : String Global) → left ≡ key ∷ rest → is_known known (string_bytes key) ≡ false → Some (string_bytes key) ≡ first_unknown known (names left)
  unknown_first left rest key is not_so =
      sym (ap (λ keys. first_unknown known (names keys)) is ∙ ap (λ b. cond b (first_unknown known (names rest)) (Some (string_bytes key))) not_so)

  pub names_of : (ms : List (String Global × Value)) → first_unknown known (names (map (λ m. m.0) ms)) ≡ unknown_name known (members_view ms)
  names_of [] = refl
  names_of (m ∷ ms) = ap (λ o. cond (is_known known (string_bytes m.0)) o (Some (string_bytes m.0))) (names_of ms)

pub object_has : (v : Value) (members : BTreeMap (String Global) Value) → v ≡ Object members → unknown_in (view v) ≡ unknown_name OfRequest (members_view members.entries)
object_has v members is = search (rules, the_lemmas)

pub some_of_map : {A B : Type 0} (f : A → B) (o : Option A) → is_some o ≡ is_some (option_map f o)
some_of_map f None = refl
some_of_map f (Some x) = refl

-- an object of times
pub times_object : (v : Value) (members : BTreeMap (String Global) Value) → v ≡ Object members → has_time_names (view v) ≡ is_none (unknown_name OfTimes (members_view members.entries))
times_object v members is = search (rules, the_lemmas)

pub times_faults : (v : Value) (members : BTreeMap (String Global) Value) → v ≡ Object members
    → names_fault (view v) ≡ (if is_none (unknown_name OfTimes (members_view members.entries)) then ends_fault (view v) else TimesMember)
times_faults v members is = search (rules, the_lemmas)

pub none_from_some : {A : Type 0} (o : Option A) (b : Bool) → is_some o ≡ not b → b ≡ is_none o
none_from_some None true is = refl
none_from_some None false is = cc
none_from_some (Some x) true is = cc
none_from_some (Some x) false is = refl

pub none_of_map : {A B : Type 0} (f : A → B) (o : Option A) → is_none o ≡ is_none (option_map f o)
none_of_map f None = refl
none_of_map f (Some x) = refl
