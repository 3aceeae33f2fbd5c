-- Private: a relation of a value that is no form, a path and what was expected there, which readers give. `FormFaults` says more shortly
-- what follows from it. No contract of a public function speaks of it.
use Rattle.std.specs.Prelude.{◌≡◌, ◌≢◌, ℕ, zero, ◌+◌, ℤ, List, [], ◌∷◌, ◌++◌, ◌||◌, Bool, true, false, if◌then◌else◌, Option, Some, None, codes, slice_get, FitsSigned}
use Rattle.std.specs.Fmt.{decimal}
use Rattle.std.specs.Int.{w64}
use Rattle.std.specs.Option.{option_map_or}
use Rattle.std.specs.Str.{bytes_eq}
use Rattle.serde_json.specs.Data.{Data, null, boolean, string, array, object, Items, no_items, item, Members}
use Rattle.serde_json.specs.Find.{at, get, get_member}
use Rattle.promql_text.specs.Texts.{Text}
use Rattle.promql_text.specs.Values.{IsNumber}
use Rattle.promql_text.specs.declared.number.Number.{Number}
use Rattle.promql_token.specs.Ids.{is_aggregator, text_of}
use Rattle.promql_label.specs.Answers.{Allows, rejected}
use Rattle.promql_label.specs.PlainMatchers.{Operator, operator_text}
use Rattle.promql_kind.specs.Functions.{Signature, function_named, name_of}
use Rattle.promql_kind.specs.Modifiers.{Cardinality}
use Rattle.promql_ast.specs.Shifts.{Moment}
use Rattle.promql_json.specs.JsonParts.{cardinality_json, function_json, millis, number_json, start_or_end, whole}
use Rattle.promql_from_json.specs.Readable.{is_binary_operator}
use Rattle.promql_from_json.specs.declared.from_error.Expected.{Expected}
use Rattle.promql_from_json.specs.declared.from_error.Expected.TheVariants as kind

-- what a place of a form has
pub data Form : Type 0 where
  -- a node of at most so many nodes above one another, and one of this type with so many below it
  node : ℕ → Form
  node_named : Text → ℕ → Form
  matcher modifier fill_values function : Form
  -- the object of a cardinality that has this member
  grouped : Text → Form
  -- a list that is as expected, of these, and one without an item
  list_of : Expected → Form → Form
  no_list : Form
  or_null : Form → Form
  -- a value by itself, and one that is a text
  one word : Expected → Form
  -- this very value, which is part of a function's
  exactly : Data → Form

-- ---- "Members"

abbrev pub labels : Form
labels = list_of kind.List (one kind.Text)

abbrev pub shift_rows : List (Text × Form)
shift_rows = (codes "offset", one kind.Millis) ∷ (codes "startOrEnd", one kind.StartOrEnd) ∷ (codes "timestamp", or_null (one kind.Millis)) ∷ []

abbrev pub selector_rows : List (Text × Form)
selector_rows = (codes "matchers", list_of kind.List matcher) ∷ (codes "name", or_null (one kind.Text)) ∷ (codes "or_matchers", list_of kind.FullList (list_of kind.List matcher)) ∷ shift_rows

-- the types of nodes, and the members of each but `type`
abbrev pub nodes : ℕ → List (Text × List (Text × Form))
nodes n =
    (codes "aggregation", (codes "expr", node n) ∷ (codes "grouping", labels) ∷ (codes "op", word kind.Aggregator) ∷ (codes "param", or_null (node n)) ∷ (codes "without", one kind.Flag) ∷ [])
    ∷ (codes "unaryExpr", (codes "expr", node n) ∷ (codes "op", one kind.Minus) ∷ [])
    ∷ (codes "binaryExpr", (codes "bool", one kind.Flag) ∷ (codes "lhs", node n) ∷ (codes "matching", or_null modifier) ∷ (codes "op", word kind.Operator) ∷ (codes "rhs", node n) ∷ [])
    ∷ (codes "parenExpr", (codes "expr", node n) ∷ [])
    ∷ (codes "subquery", (codes "expr", node n) ∷ (codes "range", one kind.Length) ∷ (codes "step", or_null (one kind.Length)) ∷ shift_rows)
    ∷ (codes "numberLiteral", (codes "val", word kind.Number) ∷ [])
    ∷ (codes "stringLiteral", (codes "val", one kind.Text) ∷ [])
    ∷ (codes "vectorSelector", selector_rows)
    ∷ (codes "matrixSelector", (codes "range", one kind.Length) ∷ (codes "rangeMode", one kind.RangeMode) ∷ selector_rows)
    ∷ (codes "call", (codes "args", list_of kind.List (node n)) ∷ (codes "func", function) ∷ [])
    ∷ []

abbrev pub row_of : {A : Type 0} → Text → List (Text × A) → Option A
row_of name [] = None
row_of name ((k, a) ∷ more) = if bytes_eq k name then Some a else row_of name more

-- the members of an object of a form
abbrev pub rows : Form → List (Text × Form)
rows (node_named name n) = (codes "type", one kind.Node) ∷ option_map_or (λ more. more) (row_of name (nodes n)) []
rows matcher = (codes "name", one kind.Text) ∷ (codes "type", one kind.MatchOp) ∷ (codes "value", one kind.Text) ∷ []
rows modifier = (codes "card", one kind.Cardinality) ∷ (codes "fillValues", fill_values) ∷ (codes "include", no_list) ∷ (codes "labels", labels) ∷ (codes "on", one kind.Flag) ∷ []
rows (grouped name) = (name, labels) ∷ []
rows fill_values = (codes "lhs", or_null (word kind.Number)) ∷ (codes "rhs", or_null (word kind.Number)) ∷ []
rows function =
    (codes "argTypes", list_of kind.List (one kind.FunctionPart)) ∷ (codes "experimental", one kind.FunctionPart) ∷ (codes "name", word kind.FunctionName)
    ∷ (codes "returnType", one kind.FunctionPart) ∷ (codes "variadic", one kind.FunctionPart) ∷ []
rows _ = []

abbrev pub may_be_left_out : Text → Bool
may_be_left_out name = bytes_eq name (codes "or_matchers") || bytes_eq name (codes "rangeMode")

-- a member of an object has to be of a form: that of its row, or what other members ask of it
pub data AsksOf : Form → Data → Text → Form → Type 0 where
  by_row : (f g : Form) (d : Data) (name : Text) → row_of name (rows f) ≡ Some g → AsksOf f d name g
  by_match : (d : Data) → get (codes "type") d ≡ Some (string (codes "=~")) → AsksOf matcher d (codes "value") (one kind.Pattern)
  by_no_match : (d : Data) → get (codes "type") d ≡ Some (string (codes "!~")) → AsksOf matcher d (codes "value") (one kind.Pattern)
  by_start_or_end : (f : Form) (d v : Data) → row_of (codes "timestamp") (rows f) ≡ Some (or_null (one kind.Millis)) → get (codes "startOrEnd") d ≡ Some v → v ≢ null
      → AsksOf f d (codes "timestamp") (one kind.NoTimestamp)
  by_bool : (n : ℕ) (d : Data) → get (codes "bool") d ≡ Some (boolean true) → AsksOf (node_named (codes "binaryExpr") n) d (codes "matching") modifier
  by_function : (s : Signature) (d v : Data) (name : Text) → function_named (name_of s) ≡ Some s → get (codes "name") d ≡ Some (string (name_of s))
      → get name (function_json s) ≡ Some v → AsksOf function d name (exactly v)

-- ---- what is expected at a place by itself

abbrev pub expected_at : Form → List Expected
expected_at (one e) = e ∷ []
expected_at (word e) = kind.Text ∷ e ∷ []
expected_at (list_of e f) = kind.List ∷ e ∷ []
expected_at no_list = kind.List ∷ kind.EmptyList ∷ []
expected_at (or_null f) = []
expected_at (exactly d) = []
expected_at (node zero) = []
expected_at _ = kind.Object ∷ []

-- a value is not what is expected; of what is left out the places below say more
abbrev pub IsNot : Expected → Data → Type 0
IsNot kind.Object d = (ms : Members) → d ≢ object ms
IsNot kind.List d = (ds : Items) → d ≢ array ds
IsNot kind.FullList d = (first : Data) (ds : Items) → d ≢ array (item first ds)
IsNot kind.EmptyList d = d ≢ array no_items
IsNot kind.Text d = (s : Text) → d ≢ string s
IsNot kind.Flag d = (b : Bool) → d ≢ boolean b
IsNot kind.Length d = (n : ℕ) → d ≢ whole (millis n)
IsNot kind.Millis d = (z : ℤ) → FitsSigned w64 z → d ≢ whole z
IsNot kind.Number d = (n : Number) → IsNumber n → d ≢ number_json n
IsNot kind.Aggregator d = (op : ℕ) → is_aggregator op ≡ true → d ≢ string (text_of op)
IsNot kind.Operator d = (op : ℕ) → is_binary_operator op ≡ true → d ≢ string (text_of op)
IsNot kind.Minus d = d ≢ string (codes "-")
IsNot kind.MatchOp d = (op : Operator) → d ≢ string (operator_text op)
IsNot kind.Pattern d = (s : Text) × (d ≡ string s) × Allows s rejected
IsNot kind.StartOrEnd d = (at : Option Moment) → d ≢ start_or_end at
IsNot kind.NoTimestamp d = d ≢ null
IsNot kind.RangeMode d = (d ≢ string (codes "smoothed")) × (d ≢ string (codes "anchored"))
IsNot kind.Cardinality d = (card : Cardinality) → d ≢ cardinality_json card
IsNot kind.FunctionName d = (s : Signature) → function_named (name_of s) ≡ Some s → d ≢ string (name_of s)
IsNot _ d = ⊥

-- in a value for which this form is wanted, a path leads to a place that is not what the form has there
pub data MisfitAt : Form → Data → Text → Expected → Type 0 where
  here : (f : Form) (d : Data) (e : Expected) (i : ℕ) → slice_get (expected_at f) i ≡ Some e → IsNot e d → MisfitAt f d [] e
  differs : (d v : Data) → d ≢ v → MisfitAt (exactly v) d [] kind.FunctionPart
  too_high : (d : Data) → MisfitAt (node 0) d [] kind.LowTree
  missing : (f g : Form) (ms : Members) (name : Text) → row_of name (rows f) ≡ Some g → may_be_left_out name ≡ false → get_member name ms ≡ None
      → MisfitAt f (object ms) (codes "." ++ name) kind.Missing
  unknown : (f : Form) (ms : Members) (name : Text) (v : Data) → rows f ≢ [] → row_of name (rows f) ≡ None → get_member name ms ≡ Some v
      → MisfitAt f (object ms) (codes "." ++ name) kind.Unknown
  untyped : (n : ℕ) (ms : Members) → ((name : Text) → get_member (codes "type") ms ≡ Some (string name) → row_of name (nodes n) ≡ None)
      → MisfitAt (node (n + 1)) (object ms) (codes ".type") kind.Node
  typed : (n : ℕ) (d : Data) (name path : Text) (e : Expected) (more : List (Text × Form)) → get (codes "type") d ≡ Some (string name)
      → row_of name (nodes n) ≡ Some more → MisfitAt (node_named name n) d path e → MisfitAt (node (n + 1)) d path e
  many_to_one : (d : Data) (path : Text) (e : Expected) → get (codes "one-to-many") d ≡ None → MisfitAt (grouped (codes "many-to-one")) d path e
      → MisfitAt (one kind.Cardinality) d path e
  one_to_many : (d v : Data) (path : Text) (e : Expected) → get (codes "one-to-many") d ≡ Some v → MisfitAt (grouped (codes "one-to-many")) d path e
      → MisfitAt (one kind.Cardinality) d path e
  not_null : (f : Form) (d : Data) (path : Text) (e : Expected) → d ≢ null → MisfitAt f d path e → MisfitAt (or_null f) d path e
  inside : (f g : Form) (d v : Data) (name path : Text) (e : Expected) → AsksOf f d name g → get name d ≡ Some v → MisfitAt g v path e
      → MisfitAt f d (codes "." ++ (name ++ path)) e
  inside_item : (x : Expected) (f : Form) (d v : Data) (i : ℕ) (path : Text) (e : Expected) → at i d ≡ Some v → MisfitAt f v path e
      → MisfitAt (list_of x f) d (codes "[" ++ (decimal i ++ (codes "]" ++ path))) e
  inside_exact : (d v w x : Data) (i : ℕ) (path : Text) (e : Expected) → at i w ≡ Some x → at i d ≡ Some v → MisfitAt (exactly x) v path e
      → MisfitAt (exactly w) d (codes "[" ++ (decimal i ++ (codes "]" ++ path))) e
