-- Private: what is left of an object's members, and an error that is in a value. No contract of a public function speaks of it.
use Rattle.std.specs.Prelude.{◌≡◌, ◌≢◌, ◌&&◌, Bool, true, false, not, List, [], ◌∷◌, Option, Some, None, is_some, slice_get, codes, string_bytes}
use Rattle.std.specs.Cmp.Lexicographic.{slice_cmp}
use Rattle.std.specs.Option.{option_map_or}
use Rattle.std.specs.Ordering.{is_lt, nat_cmp}
use Rattle.serde_json.specs.Data.{Data, object, string, Members, no_members, member}
use Rattle.serde_json.specs.Find.{get, get_member}
use Rattle.promql_text.specs.Texts.{Text}
use Rattle.promql_from_json.specs.FormMisfits.{Form, MisfitAt, grouped, labels, list_of, matcher, may_be_left_out, one, or_null, row_of, rows}
use Rattle.promql_kind.specs.Functions.{Signature, function_named, name_of}
use Rattle.promql_from_json.specs.declared.from_error.Expected.TheVariants.{FullList, List as ListThere, Millis, StartOrEnd, Text as TextThere}
use Rattle.promql_from_json.specs.declared.from_error.ReadError.{ReadError}
use Rattle.promql_from_json.specs.declared.from_error.ReadError.TheVariants.{Memory, Misfit}

abbrev pub IsIn : Form → Data → ReadError → Type 0
IsIn f d Memory = Unit {0}
IsIn f d (Misfit m) = MisfitAt f d (string_bytes m.path) m.expected

abbrev pub is_below : Text → Text → Bool
is_below k l = is_lt (slice_cmp nat_cmp k l)

-- after a name, if there is one, and before one
abbrev pub is_after : Option Text → Text → Bool
is_after last name = option_map_or (λ l. is_below l name) last true

abbrev pub is_before : Text → Option Text → Bool
is_before name next = option_map_or (λ n. is_below name n) next true

-- no row is between two names
abbrev pub none_between : {A : Type 0} → List (Text × A) → Option Text → Option Text → Bool
none_between [] last next = true
none_between ((k, a) ∷ more) last next = not (is_after last k && is_before k next) && none_between more last next

abbrev pub follows : Form → Option Text → Option Text → Bool
follows f last next = option_map_or (is_after last) next true && none_between (rows f) last next

-- the form is of objects, and its first row is of this name
abbrev pub begins : Form → Text → Bool
begins f first = is_some (slice_get (rows f) 0) && follows f None (Some first)

-- an object of the form has to have this member
abbrev pub is_wanted : Form → Text → Bool
is_wanted f name = option_map_or (λ g. true) (row_of name (rows f)) false && not (may_be_left_out name)

-- members that it has to have, and no row is between them
abbrev pub in_order : Form → List Text → Bool
in_order f [] = true
in_order f (k ∷ []) = is_wanted f k
in_order f (k ∷ l ∷ more) = is_wanted f k && follows f (Some k) (Some l) && in_order f (l ∷ more)

abbrev pub Ascends : Option Text → Members → Type 0
Ascends last no_members = Unit {0}
Ascends last (member k v ms) = (is_after last k ≡ true) × Ascends (Some k) ms

-- of d, which is to be of a form, these members are left, in order, and the next row is of this name
pub record AreLeft (f : Form) (d : Data) (next : Option Text) (rest : Members) : Type 0 where
  pub whole : (ms : Members) × (d ≡ object ms)
  pub rows_known : rows f ≢ []
  pub last : Option Text
  pub found : (name : Text) → is_after last name ≡ true → get name d ≡ get_member name rest
  pub ascends : Ascends last rest
  pub ahead : option_map_or (is_after last) next true ≡ true
  pub unlisted : (k : Text) (v : Data) (more : Members) → rest ≡ member k v more → is_before k next ≡ true → row_of k (rows f) ≡ None

-- ---- types of nodes, and which members a form has

abbrev pub IsTyped : Data → Text → Type 0
IsTyped d name = get (codes "type") d ≡ Some (string name)

-- the text of the member `type`, or none where that is no text
pub record IsTypeIn (d : Data) (name : Text) : Type 0 where
  pub found : name ≢ [] → IsTyped d name
  pub only : (other : Text) → IsTyped d other → name ≡ other

abbrev pub IsRow : Signature → Type 0
IsRow s = function_named (name_of s) ≡ Some s

-- the object of a cardinality has this member alone
abbrev pub IsAlone : Text → Type 0
IsAlone name = (in_order (grouped name) (name ∷ []) ≡ true) × (follows (grouped name) None (Some name) ≡ true)
    × (follows (grouped name) (Some name) None ≡ true) × (row_of name (rows (grouped name)) ≡ Some labels)

-- the first and the last members are those of a selector
abbrev pub BeginsSelector : Form → Type 0
BeginsSelector f = (in_order f (codes "matchers" ∷ codes "name" ∷ codes "offset" ∷ []) ≡ true) × (follows f (Some (codes "offset")) (Some (codes "or_matchers")) ≡ true)
    × (row_of (codes "matchers") (rows f) ≡ Some (list_of ListThere matcher)) × (row_of (codes "name") (rows f) ≡ Some (or_null (one TextThere)))
    × (row_of (codes "offset") (rows f) ≡ Some (one Millis)) × (row_of (codes "or_matchers") (rows f) ≡ Some (list_of FullList (list_of ListThere matcher)))

abbrev pub EndsSelector : Form → Type 0
EndsSelector f = (in_order f (codes "startOrEnd" ∷ codes "timestamp" ∷ codes "type" ∷ []) ≡ true) × (follows f (Some (codes "type")) None ≡ true)
    × (row_of (codes "startOrEnd") (rows f) ≡ Some (one StartOrEnd)) × (row_of (codes "timestamp") (rows f) ≡ Some (or_null (one Millis)))
