-- Where a value is no form, and what was expected there (docs/reference/json.md, "Members" and "From JSON to a tree").
use Rattle.std.specs.Prelude.{◌≡◌, ◌≢◌, ◌⊎◌, ℕ, zero, suc, ℤ, List, [], ◌∷◌, ◌++◌, Bool, true, MatchBool, Option, Some, None, IfSome, option_and_then, option_map, codes, FitsSigned}
use Rattle.std.specs.Fmt.{decimal}
use Rattle.std.specs.Int.{w64}
use Rattle.std.specs.Str.{bytes_eq}
use Rattle.serde_json.specs.Data.{Data, null, boolean, string, array, object, no_items, Members}
use Rattle.serde_json.specs.Find.{as_str, at, get, get_member}
use Rattle.promql_text.specs.Texts.{Text}
use Rattle.promql_text.specs.Values.{IsNumber}
use Rattle.promql_text.specs.declared.number.Number.{Number}
use Rattle.promql_token.specs.Ids.{is_aggregator, text_of}
use Rattle.promql_label.specs.PlainMatchers.{Operator, operator_text, plain_matcher}
use Rattle.promql_kind.specs.Functions.{Signature, function_named, name_of}
use Rattle.promql_json.specs.JsonParts.{cardinality_json, function_json, millis, number_json, start_or_end, whole}
use Rattle.promql_from_json.specs.Readable.{ReadableMatcher, is_binary_operator}
use Rattle.promql_from_json.specs.declared.from_error.Expected.{Expected}
use Rattle.promql_from_json.specs.declared.from_error.Expected.TheVariants as kind

-- What a place of a form has, told by its faults: of a value, or of none, the path to a part that is not so, and what was expected there.
abbrev pub Form : Type 1
Form = Option Data → Text → Expected → Type 0

-- a value of which this holds
abbrev pub is : Expected → (Data → Type 0) → Form
is x Holds None path e = (path ≡ []) × (e ≡ kind.Missing)
is x Holds (Some d) path e = (path ≡ []) × (e ≡ x) × ¬ Holds d

-- what two forms have together
abbrev pub both : Form → Form → Form
both f g o path e = f o path e ⊎ g o path e

-- this, or what a form has
abbrev pub or : Option Data → Form → Form
or other f o path e = (o ≢ other) × f o path e

-- a value of a function
abbrev pub like : {A : Type 0} → (A → Data) → Data → Type 0
like f d = (x : _) × (d ≡ f x)

-- a list; the item of each index has its form
abbrev pub list : (ℕ → Form) → Form
list f = both (is kind.List (like array)) (λ o path e. (i : ℕ) × (rest : Text) × (path ≡ codes "[" ++ (decimal i ++ (codes "]" ++ rest)))
    × or None (f i) (option_and_then (at i) o) rest e)

-- a row of a table
infix 70 ◌has◌
abbrev pub ◌has◌ : {A : Type 1} → Text → A → Text × A
name has a = (name, a)

-- what the row of a name has; a name without a row has no value
abbrev pub row_of : List (Text × Form) → Text → Form
row_of [] name = or None (is kind.Unknown (λ d. ⊥))
row_of ((k, f) ∷ more) name = λ o path e. MatchBool (bytes_eq k name) (f o path e) (row_of more name o path e)

-- an object of these rows, and no other members
abbrev pub object_of : List (Text × Form) → Form
object_of rows = both (is kind.Object (like object)) (λ o path e. (ms : Members) × (name : Text) × (rest : Text) × (o ≡ Some (object ms))
    × (path ≡ codes "." ++ (name ++ rest)) × row_of rows name (get_member name ms) rest e)

-- the value of a member, if there is one
abbrev pub member : Text → Option Data → Option Data
member name o = option_and_then (get name) o

-- ---- parts

abbrev pub text : Form
text = is kind.Text (like string)

abbrev pub length : Form
length = is kind.Length (like (λ n. whole (millis n)))

abbrev pub number : Form
number = both text (is kind.Number (λ d. (n : Number) × IsNumber n × (d ≡ number_json n)))

-- the text of a token for which `may` holds
abbrev pub token : Expected → (ℕ → Bool) → Form
token x may = both text (is x (λ d. (op : ℕ) × (may op ≡ true) × (d ≡ string (text_of op))))

abbrev pub matcher : Form
matcher o = object_of (codes "name" has text ∷ codes "type" has is kind.MatchOp (like (λ op. string (operator_text op)))
    ∷ codes "value" has both text (is kind.Pattern (λ d. (op : Operator) (s : Text)
    → member (codes "type") o ≡ Some (string (operator_text op)) → d ≡ string s → ReadableMatcher (plain_matcher op [] s))) ∷ []) o

-- the object of a cardinality: that of `one-to-many` where it has this member
abbrev pub grouped : Option Data → Form
grouped None = object_of (codes "many-to-one" has list (λ i. text) ∷ [])
grouped (Some labels) = object_of (codes "one-to-many" has list (λ i. text) ∷ [])

abbrev pub modifier : Form
modifier = object_of (
    codes "card" has both (is kind.Cardinality (like cardinality_json)) (λ o. grouped (member (codes "one-to-many") o) o)
    ∷ codes "fillValues" has object_of (codes "lhs" has or (Some null) number ∷ codes "rhs" has or (Some null) number ∷ [])
    ∷ codes "include" has both (is kind.List (like array)) (is kind.EmptyList (λ d. d ≡ array no_items))
    ∷ codes "labels" has list (λ i. text) ∷ codes "on" has is kind.Flag (like boolean) ∷ [])

-- a function of the table, with the parts that it has there
abbrev pub function : Form
function o =
    let known = option_map function_json (option_and_then function_named (option_and_then as_str (member (codes "name") o))) in
    let types = member (codes "argTypes") known in
    let same = λ (v : Option Data). is kind.FunctionPart (λ d. IfSome v (λ w. d ≡ w)) in
    object_of (codes "argTypes" has both (list (λ i. same (option_and_then (at i) types))) (same types)
    ∷ codes "experimental" has same (member (codes "experimental") known)
    ∷ codes "name" has both text (is kind.FunctionName (λ d.
    (s : Signature) × (function_named (name_of s) ≡ Some s) × (d ≡ string (name_of s))))
    ∷ codes "returnType" has same (member (codes "returnType") known) ∷ codes "variadic" has same (member (codes "variadic") known) ∷ []) o

-- ---- nodes

abbrev pub shift_rows : Option Data → List (Text × Form)
shift_rows o =
    let time = is kind.Millis (λ d. (z : ℤ) × FitsSigned w64 z × (d ≡ whole z)) in
    codes "offset" has time ∷ codes "startOrEnd" has is kind.StartOrEnd (like start_or_end)
    ∷ codes "timestamp" has both (or (Some null) time)
    (is kind.NoTimestamp (λ d. IfSome (member (codes "startOrEnd") o) (λ v. v ≢ null → d ≡ null))) ∷ []

abbrev pub selector_rows : Option Data → List (Text × Form)
selector_rows o =
    codes "matchers" has list (λ i. matcher) ∷ codes "name" has or (Some null) text
    ∷ codes "or_matchers" has or None (both (list (λ i. list (λ j. matcher))) (is kind.FullList (λ d. at 0 d ≢ None))) ∷ shift_rows o

-- the types of nodes, and their other members; `below` is what the nodes below have to be
abbrev pub nodes : Form → Option Data → List (Text × List (Text × Form))
nodes below o =
    codes "aggregation" has (codes "expr" has below ∷ codes "grouping" has list (λ i. text)
    ∷ codes "op" has token kind.Aggregator is_aggregator ∷ codes "param" has or (Some null) below
    ∷ codes "without" has is kind.Flag (like boolean) ∷ [])
    ∷ codes "unaryExpr" has (codes "expr" has below ∷ codes "op" has is kind.Minus (λ d. d ≡ string (codes "-")) ∷ [])
    ∷ codes "binaryExpr" has (codes "bool" has is kind.Flag (like boolean) ∷ codes "lhs" has below
    ∷ codes "matching" has (λ v path e. (member (codes "bool") o ≢ Some (boolean true) → v ≢ Some null) × modifier v path e)
    ∷ codes "op" has token kind.Operator is_binary_operator ∷ codes "rhs" has below ∷ [])
    ∷ codes "parenExpr" has (codes "expr" has below ∷ [])
    ∷ codes "subquery" has (codes "expr" has below ∷ codes "range" has length ∷ codes "step" has or (Some null) length ∷ shift_rows o)
    ∷ codes "numberLiteral" has (codes "val" has number ∷ [])
    ∷ codes "stringLiteral" has (codes "val" has text ∷ [])
    ∷ codes "vectorSelector" has selector_rows o
    ∷ codes "matrixSelector" has (codes "range" has length
    ∷ codes "rangeMode" has or None (is kind.RangeMode (λ d. (d ≡ string (codes "smoothed")) ⊎ (d ≡ string (codes "anchored"))))
    ∷ selector_rows o)
    ∷ codes "call" has (codes "args" has list (λ i. below) ∷ codes "func" has function ∷ []) ∷ []

-- an object with the rows of its type, which is one of these
abbrev pub of_type : List (Text × List (Text × Form)) → Form
of_type [] o path e = (ms : Members) × (o ≡ Some (object ms)) × (path ≡ codes ".type") × (e ≡ kind.Node)
of_type ((name, rows) ∷ more) o path e =
    ((member (codes "type") o ≡ Some (string name)) × object_of (codes "type" has is kind.Node (like string) ∷ rows) o path e)
    ⊎ ((member (codes "type") o ≢ Some (string name)) × of_type more o path e)

-- a node of at most so many nodes above one another
abbrev pub node : ℕ → Form
node zero = is kind.LowTree (λ d. ⊥)
node (suc n) = λ o. both (is kind.Object (like object)) (of_type (nodes (node n) o)) o
