-- The rows of the relation of forms are rows of forms by their faults.
use Rattle.std.proofs.Common.{ℕ, zero, suc, ◌≡◌, ◌≢◌, ◌⊎◌, inl, inr, ℤ, List, [], ◌∷◌, ◌++◌, Bool, true, false, true≢false, Option, Some, None, if◌then◌else◌, codes, refl, subst}
use Rattle.std.specs.Prelude.{MatchBool, IfSome, option_and_then, option_map, FitsSigned}
use Rattle.std.specs.Fmt.{decimal}
use Rattle.std.specs.Int.{w64}
use Rattle.std.specs.Option.{option_map_or}
use Rattle.std.specs.Str.{bytes_eq}
use Rattle.std.proofs.lemmas.Slice.Eq.{bytes_eq-Decides}
use Rattle.serde_json.specs.Data.{Data, null, boolean, number as number_data, string, array, object, Items, no_items, item}
use Rattle.serde_json.specs.Find.{as_str, at}
use Rattle.promql_text.specs.Texts.{Text}
use Rattle.promql_token.specs.Ids.{is_aggregator}
use Rattle.promql_label.specs.PlainMatchers.{Operator, operator_text, plain_matcher}
use Rattle.promql_kind.specs.Functions.{Signature, function_named, name_of}
use Rattle.promql_json.specs.JsonParts.{cardinality_json, function_json, whole}
use Rattle.promql_from_json.specs.Readable.{ReadableMatcher, is_binary_operator}
use Rattle.promql_from_json.specs.declared.from_error.Expected.{Expected}
use Rattle.promql_from_json.specs.declared.from_error.Expected.TheVariants as kind
use Rattle.promql_from_json.specs.FormMisfits as old
use Rattle.promql_from_json.specs.FormMisfits.{AsksOf, IsNot, MisfitAt, exactly, expected_at, fill_values, grouped, may_be_left_out, no_list, node_named, one, or_null, rows, word}
use Rattle.promql_from_json.specs.FormFaults as new
use Rattle.promql_from_json.specs.FormFaults.{both, is, like, list, member, object_of, of_type, or, text, token}

-- ---- forms of the relation as forms told by their faults

abbrev pub leaf : Expected → new.Form
leaf x None path e = ⊥
leaf x (Some d) path e = (path ≡ []) × (e ≡ x) × IsNot x d

abbrev items : new.Form → new.Form
items f o path e =
    (i : ℕ) × (rest : Text) × (path ≡ codes "[" ++ (decimal i ++ (codes "]" ++ rest))) × or None f (option_and_then (at i) o) rest e

-- along a path two values differ
pub data Differs : Data → Data → Text → Type 0 where
  at_once : (w d : Data) → d ≢ w → Differs w d []
  in_item : (w d x v : Data) (i : ℕ) (path : Text) → at i w ≡ Some x → at i d ≡ Some v → Differs x v path
      → Differs w d (codes "[" ++ (decimal i ++ (codes "]" ++ path)))

abbrev pub choose : {A : Type 1} → Bool → A → A → A
choose true a b = a
choose false a b = b

abbrev pub named : Text → List (Text × List (Text × new.Form)) → List (Text × new.Form)
named name [] = []
named name ((k, more) ∷ table) = choose (bytes_eq k name) more (named name table)

abbrev grouped_rows : Text → List (Text × new.Form)
grouped_rows name = (name, list (λ i. text)) ∷ []

abbrev pub known : Option Data → Option Data
known o = option_map function_json (option_and_then function_named (option_and_then as_str (member (codes "name") o)))

abbrev pub same : Option Data → new.Form
same v = is kind.FunctionPart (λ d. IfSome v (λ w. d ≡ w))

abbrev pub news : old.Form → Option Data → List (Text × new.Form)
news (node_named name n) o = (codes "type", is kind.Node (like string)) ∷ named name (new.nodes (new.node n) o)
news old.matcher o =
    (codes "name", text) ∷ (codes "type", is kind.MatchOp (like (λ op. string (operator_text op))))
    ∷ (
      codes "value",
      both text (is kind.Pattern (λ d. (op : Operator) (s : Text)
          → member (codes "type") o ≡ Some (string (operator_text op)) → d ≡ string s → ReadableMatcher (plain_matcher op [] s))),
    ) ∷ []
news old.modifier o = (
  codes "card",
  both (is kind.Cardinality (like cardinality_json)) (λ p. new.grouped (member (codes "one-to-many") p) p),
)
    ∷ (codes "fillValues", object_of ((codes "lhs", or (Some null) new.number) ∷ (codes "rhs", or (Some null) new.number) ∷ []))
    ∷ (codes "include", both (is kind.List (like array)) (is kind.EmptyList (λ d. d ≡ array no_items)))
    ∷ (codes "labels", list (λ i. text)) ∷ (codes "on", is kind.Flag (like boolean)) ∷ []
news (grouped name) o = grouped_rows name
news fill_values o = (codes "lhs", or (Some null) new.number) ∷ (codes "rhs", or (Some null) new.number) ∷ []
news old.function o =
    (codes "argTypes", both (list (λ i. same (option_and_then (at i) (member (codes "argTypes") (known o))))) (same (member (codes "argTypes") (known o))))
    ∷ (codes "experimental", same (member (codes "experimental") (known o)))
    ∷ (codes "name", both text (is kind.FunctionName (λ d. (s : Signature) × (function_named (name_of s) ≡ Some s) × (d ≡ string (name_of s)))))
    ∷ (codes "returnType", same (member (codes "returnType") (known o)))
    ∷ (codes "variadic", same (member (codes "variadic") (known o))) ∷ []
news f o = []

abbrev pub T : old.Form → new.Form
T (old.node n) = new.node n
T (one x) = λ o path e. leaf x o path e ⊎ ((x ≡ kind.Cardinality) × new.grouped (member (codes "one-to-many") o) o path e)
T (word x) = both (leaf kind.Text) (leaf x)
T (old.list_of x f) = both (both (leaf kind.List) (leaf x)) (items (T f))
T no_list = both (leaf kind.List) (leaf kind.EmptyList)
T (or_null f) = or (Some null) (T f)
T (exactly w) = λ o path e. (d : Data) × (o ≡ Some d) × (e ≡ kind.FunctionPart) × Differs w d path
T f = λ o. object_of (news f o) o

is_matcher : (o : Option Data) → object_of (news old.matcher o) o ≡ new.matcher o
is_matcher o = refl

is_modifier : (o : Option Data) → object_of (news old.modifier o) o ≡ new.modifier o
is_modifier o = refl

is_function : (o : Option Data) → object_of (news old.function o) o ≡ new.function o
is_function o = refl

-- ---- rows

abbrev Times : old.Form → Option Data → new.Form → Type 0
Times (or_null (one kind.Millis)) o f = (v w : Data) → member (codes "startOrEnd") o ≡ Some v → v ≢ null → w ≢ null → f (Some w) [] kind.NoTimestamp
Times g o f = Unit {0}

abbrev Goes : old.Form → new.Form → Type 0
Goes g f = (v : Data) (path : Text) (e : Expected) → T g (Some v) path e → f (Some v) path e

abbrev pub Row : Option Data → Text → old.Form → new.Form → Type 0
Row o k g f = Goes g f × (may_be_left_out k ≡ false → f None [] kind.Missing) × Times g o f

abbrev Rows : Option Data → List (Text × old.Form) → List (Text × new.Form) → Type 0
Rows o [] [] = Unit {0}
Rows o ((k, g) ∷ olds) ((l, f) ∷ more) = (k ≡ l) × Row o k g f × Rows o olds more
Rows o [] (x ∷ more) = ⊥
Rows o (x ∷ olds) [] = ⊥

pub same_key : (k l : Text) → bytes_eq k l ≡ true → k ≡ l
same_key k l h = (bytes_eq-Decides k l).0 h

row_at : (b : Bool) (h g : old.Form) (o : Option old.Form) (P Q : Type 0) → (if b then Some h else o) ≡ Some g → (b ≡ true → h ≡ g → P) → (o ≡ Some g → Q) → MatchBool b P Q
row_at true h g o P Q eq first more = first refl cc
row_at false h g o P Q eq first more = more eq

pub found : (o : Option Data) (olds : List (Text × old.Form)) (more : List (Text × new.Form)) (name : Text) (g : old.Form) (v : Option Data) (path : Text) (e : Expected)
    → Rows o olds more → old.row_of name olds ≡ Some g
    → ((k : Text) (f : new.Form) → k ≡ name → Row o k g f → f v path e) → new.row_of more name v path e
found o [] [] name g v path e all there at_it = absurd cc
found o [] (x ∷ more) name g v path e all there at_it = absurd all
found o (x ∷ olds) [] name g v path e all there at_it = absurd all
found o ((k, h) ∷ olds) ((l, f) ∷ more) name g v path e all there at_it =
    subst (λ m. MatchBool (bytes_eq m name) (f v path e) (new.row_of more name v path e)) all.0
    (row_at (bytes_eq k name) h g (old.row_of name olds) _ _ there
    (λ key eq. at_it k f (same_key k name key) (subst (λ i. Row o k i f) eq all.1))
    (λ later. found o olds more name g v path e all.2 later at_it))

none_at : (b : Bool) (h : old.Form) (o : Option old.Form) (P Q : Type 0) → (if b then Some h else o) ≡ None → (o ≡ None → Q) → MatchBool b P Q
none_at true h o P Q none more = absurd cc
none_at false h o P Q none more = more none

pub unlisted : (o : Option Data) (olds : List (Text × old.Form)) (more : List (Text × new.Form)) (name : Text) (v : Data)
    → Rows o olds more → old.row_of name olds ≡ None → new.row_of more name (Some v) [] kind.Unknown
unlisted o [] [] name v all none = (λ h. cc, (refl, refl, λ x. x))
unlisted o [] (x ∷ more) name v all none = absurd all
unlisted o (x ∷ olds) [] name v all none = absurd all
unlisted o ((k, h) ∷ olds) ((l, f) ∷ more) name v all none =
    subst (λ m. MatchBool (bytes_eq m name) (f (Some v) [] kind.Unknown) (new.row_of more name (Some v) [] kind.Unknown)) all.0
    (none_at (bytes_eq k name) h (old.row_of name olds) _ _ none (λ later. unlisted o olds more name v all.2 later))

-- ---- single values

pub unlike : {A : Type 0} (f : A → Data) (d : Data) → ((x : A) → d ≢ f x) → ¬ like f d
unlike f d none p = none p.0 p.1

one_goes : (x : Expected) (H : Data → Type 0) → x ≢ kind.Cardinality → ((d : Data) → IsNot x d → ¬ H d) → Goes (one x) (is x H)
one_goes x H other none v path e (inl h) = (h.0, h.1, none v h.2)
one_goes x H other none v path e (inr h) = absurd (other h.0)

text_goes : Goes (one kind.Text) text
text_goes = one_goes kind.Text (like string) (λ h. cc) (λ d h. unlike string d h)

flag_goes : Goes (one kind.Flag) (is kind.Flag (like boolean))
flag_goes = one_goes kind.Flag (like boolean) (λ h. cc) (λ d h. unlike boolean d h)

length_goes : Goes (one kind.Length) new.length
length_goes = one_goes kind.Length _ (λ h. cc) (λ d h p. h p.0 p.1)

word_goes : (x : Expected) (H : Data → Type 0) → ((d : Data) → IsNot x d → ¬ H d) → Goes (word x) (both text (is x H))
word_goes x H none v path e (inl h) = inl (h.0, h.1, unlike string v h.2)
word_goes x H none v path e (inr h) = inr (h.0, h.1, none v h.2)

number_goes : Goes (word kind.Number) new.number
number_goes = word_goes kind.Number _ (λ d h p. h p.0 p.1 p.2)

anything : (x : Expected) (f : new.Form) → x ≢ kind.Cardinality → ((d : Data) → IsNot x d → ⊥) → Goes (one x) f
anything x f other none v path e (inl h) = absurd (none v h.2)
anything x f other none v path e (inr h) = absurd (other h.0)

nullable : (g : old.Form) (f : new.Form) → Goes g f → Goes (or_null g) (or (Some null) f)
nullable g f goes v path e h = (h.0, goes v path e h.1)

left_out : (g : old.Form) (f : new.Form) → Goes g f → Goes g (or None f)
left_out g f goes v path e h = (λ none. cc, goes v path e h)

-- ---- lists

each : (g : old.Form) (f : new.Form) → Goes g f → (o : Option Data) (path : Text) (e : Expected) → or None (T g) o path e → or None f o path e
each g f goes None path e h = absurd (h.0 refl)
each g f goes (Some v) path e h = (h.0, goes v path e h.1)

in_list : (g : old.Form) (f : ℕ → new.Form) → ((i : ℕ) → Goes g (f i)) → (v : Data) (path : Text) (e : Expected) → items (T g) (Some v) path e → list f (Some v) path e
in_list g f goes v path e h = inr (h.0, h.1, h.2, each g (f h.0) (goes h.0) (at h.0 v) h.1 e h.3)

list_goes : (g : old.Form) (f : ℕ → new.Form) → ((i : ℕ) → Goes g (f i)) → Goes (old.list_of kind.List g) (list f)
list_goes g f goes v path e (inl (inl h)) = inl (h.0, h.1, unlike array v h.2)
list_goes g f goes v path e (inl (inr h)) = inl (h.0, h.1, unlike array v h.2)
list_goes g f goes v path e (inr h) = in_list g f goes v path e h

none_first : (d : Data) → ((x : Data) (ds : Items) → d ≢ array (item x ds)) → ¬ (at 0 d ≢ None)
none_first null none some = some refl
none_first (boolean b) none some = some refl
none_first (number_data n) none some = some refl
none_first (string s) none some = some refl
none_first (array no_items) none some = some refl
none_first (array (item x ds)) none some = none x ds refl
none_first (object ms) none some = some refl

full_goes : (g : old.Form) (f : ℕ → new.Form) → ((i : ℕ) → Goes g (f i)) → Goes (old.list_of kind.FullList g) (both (list f) (is kind.FullList (λ d. at 0 d ≢ None)))
full_goes g f goes v path e (inl (inl h)) = inl (inl (h.0, h.1, unlike array v h.2))
full_goes g f goes v path e (inl (inr h)) = inr (h.0, h.1, none_first v h.2)
full_goes g f goes v path e (inr h) = inl (in_list g f goes v path e h)

texts_go : Goes old.labels (list (λ i. text))
texts_go = list_goes (one kind.Text) (λ i. text) (λ i. text_goes)

-- ---- the rows of parts

fill_row : (o : Option Data) (k : Text) → Row o k (or_null (word kind.Number)) (or (Some null) new.number)
fill_row o k = (nullable (word kind.Number) new.number number_goes, λ h. (λ none. cc, inl (refl, refl)), tt)

labels_row : (o : Option Data) (k : Text) → Row o k old.labels (list (λ i. text))
labels_row o k = (texts_go, λ h. inl (refl, refl), tt)

flag_row : (o : Option Data) (k : Text) → Row o k (one kind.Flag) (is kind.Flag (like boolean))
flag_row o k = (flag_goes, λ h. (refl, refl), tt)

length_row : (o : Option Data) (k : Text) → Row o k (one kind.Length) new.length
length_row o k = (length_goes, λ h. (refl, refl), tt)

text_row : (o : Option Data) (k : Text) → Row o k (one kind.Text) text
text_row o k = (text_goes, λ h. (refl, refl), tt)

matcher_rows : (o : Option Data) → Rows o (rows old.matcher) (news old.matcher o)
matcher_rows o = (
  refl,
  text_row o (codes "name"),
  (
    refl,
    (one_goes kind.MatchOp _ (λ h. cc) (λ d h p. h p.0 p.1), λ h. (refl, refl), tt),
    (refl, (λ v path e h. inl (text_goes v path e h), λ h. inl (refl, refl), tt), tt),
  ),
)

card_goes : Goes (one kind.Cardinality) (both (is kind.Cardinality (like cardinality_json)) (λ o. new.grouped (member (codes "one-to-many") o) o))
card_goes v path e (inl h) = inl (h.0, h.1, unlike cardinality_json v h.2)
card_goes v path e (inr h) = inr h.1

fills_rows : (o : Option Data) → Rows o (rows fill_values) (news fill_values o)
fills_rows o = (refl, fill_row o (codes "lhs"), (refl, fill_row o (codes "rhs"), tt))

empty_goes : Goes no_list (both (is kind.List (like array)) (is kind.EmptyList (λ d. d ≡ array no_items)))
empty_goes v path e (inl h) = inl (h.0, h.1, unlike array v h.2)
empty_goes v path e (inr h) = inr (h.0, h.1, h.2)

modifier_rows : (o : Option Data) → Rows o (rows old.modifier) (news old.modifier o)
modifier_rows o = (
  refl,
  (card_goes, λ h. inl (refl, refl), tt),
  (
    refl,
    (λ v path e h. h, λ h. inl (refl, refl), tt),
    (
      refl,
      (empty_goes, λ h. inl (refl, refl), tt),
      (
        refl,
        labels_row o (codes "labels"),
        (refl, flag_row o (codes "on"), tt),
      ),
    ),
  ),
)

types_go : (f : ℕ → new.Form) (g : new.Form) → Goes (old.list_of kind.List (one kind.FunctionPart)) (both (list f) g)
types_go f g v path e h = inl (list_goes (one kind.FunctionPart) f (λ i. anything kind.FunctionPart (f i) (λ h. cc) (λ d h. h)) v path e h)

part_row : (o : Option Data) (k : Text) (w : Option Data) → Row o k (one kind.FunctionPart) (same w)
part_row o k w = (anything kind.FunctionPart (same w) (λ h. cc) (λ d h. h), λ h. (refl, refl), tt)

function_rows : (o : Option Data) → Rows o (rows old.function) (news old.function o)
function_rows o = (
  refl,
  (types_go (λ i. same (option_and_then (at i) (member (codes "argTypes") (known o)))) (same (member (codes "argTypes") (known o))), λ h. inl (inl (refl, refl)), tt),
  (
    refl,
    part_row o (codes "experimental") (member (codes "experimental") (known o)),
    (
      refl,
      (word_goes kind.FunctionName _ (λ d h p. h p.0 p.1 p.2), λ h. inl (refl, refl), tt),
      (
        refl,
        part_row o (codes "returnType") (member (codes "returnType") (known o)),
        (refl, part_row o (codes "variadic") (member (codes "variadic") (known o)), tt),
      ),
    ),
  ),
)

-- ---- the rows of nodes

abbrev time : new.Form
time = is kind.Millis (λ d. (z : ℤ) × FitsSigned w64 z × (d ≡ whole z))

time_goes : Goes (one kind.Millis) time
time_goes = one_goes kind.Millis _ (λ h. cc) (λ d h p. h p.0 p.1 p.2)

start_value : (o : Option Data) (v w : Data) → o ≡ Some v → v ≢ null → w ≢ null → ¬ IfSome o (λ u. u ≢ null → w ≡ null)
start_value o v w is some other all = other (subst (λ x. IfSome x (λ u. u ≢ null → w ≡ null)) is all some)

shift_rows_go : (o : Option Data) → Rows o old.shift_rows (new.shift_rows o)
shift_rows_go o = (
  refl,
  (time_goes, λ h. (refl, refl), tt),
  (
    refl,
    (one_goes kind.StartOrEnd _ (λ h. cc) (λ d h p. h p.0 p.1), λ h. (refl, refl), tt),
    (
      refl,
      (
        λ v path e h. inl (nullable (one kind.Millis) time time_goes v path e h),
        λ h. inl (λ none. cc, (refl, refl)),
        λ v w there some other. inr (refl, refl, start_value (member (codes "startOrEnd") o) v w there some other),
      ),
      tt,
    ),
  ),
)

matcher_goes : Goes old.matcher new.matcher
matcher_goes v path e h = h

selector_rows_go : (o : Option Data) → Rows o old.selector_rows (new.selector_rows o)
selector_rows_go o = (
  refl,
  (list_goes old.matcher (λ i. new.matcher) (λ i. matcher_goes), λ h. inl (refl, refl), tt),
  (
    refl,
    (nullable (one kind.Text) text text_goes, λ h. (λ none. cc, (refl, refl)), tt),
    (
      refl,
      (
        left_out (old.list_of kind.FullList (old.list_of kind.List old.matcher)) (both (list (λ i. list (λ j. new.matcher))) (is kind.FullList (λ d. at 0 d ≢ None))) (full_goes (old.list_of kind.List old.matcher) (λ i. list (λ j. new.matcher)) (λ i. list_goes old.matcher (λ j. new.matcher) (λ j. matcher_goes))),
        λ h. absurd (true≢false h),
        tt,
      ),
      shift_rows_go o,
    ),
  ),
)

-- ---- the types of nodes

abbrev pub Tables : Option Data → List (Text × List (Text × old.Form)) → List (Text × List (Text × new.Form)) → Type 0
Tables o [] [] = Unit {0}
Tables o ((k, olds) ∷ table) ((l, more) ∷ others) = (k ≡ l) × Rows o olds more × Tables o table others
Tables o [] (x ∷ others) = ⊥
Tables o (x ∷ table) [] = ⊥

node_missing : (n : ℕ) → new.node n None [] kind.Missing
node_missing zero = (refl, refl)
node_missing (suc n) = inl (refl, refl)

node_row : (n : ℕ) (o : Option Data) (k : Text) → Row o k (old.node n) (new.node n)
node_row n o k = (λ v path e h. h, λ h. node_missing n, tt)

aggregator_goes : Goes (word kind.Aggregator) (token kind.Aggregator is_aggregator)
aggregator_goes = word_goes kind.Aggregator _ (λ d h p. h p.0 p.1 p.2)

operator_goes : Goes (word kind.Operator) (token kind.Operator is_binary_operator)
operator_goes = word_goes kind.Operator _ (λ d h p. h p.0 p.1 p.2)

neither : (d : Data) → IsNot kind.RangeMode d → (d ≡ string (codes "smoothed")) ⊎ (d ≡ string (codes "anchored")) → ⊥
neither d h (inl p) = h.0 p
neither d h (inr p) = h.1 p

mode_goes : Goes (one kind.RangeMode) (is kind.RangeMode (λ d. (d ≡ string (codes "smoothed")) ⊎ (d ≡ string (codes "anchored"))))
mode_goes = one_goes kind.RangeMode _ (λ h. cc) neither

pub tables_go : (n : ℕ) (o : Option Data) → Tables o (old.nodes n) (new.nodes (new.node n) o)
tables_go n o = (
  refl,
  (
    refl,
    node_row n o (codes "expr"),
    (
      refl,
      labels_row o (codes "grouping"),
      (
        refl,
        (aggregator_goes, λ h. inl (refl, refl), tt),
        (refl, (nullable (old.node n) (new.node n) (λ v path e h. h), λ h. (λ none. cc, node_missing n), tt), (refl, flag_row o (codes "without"), tt)),
      ),
    ),
  ),
  (
    refl,
    (refl, node_row n o (codes "expr"), (refl, (one_goes kind.Minus (λ d. d ≡ string (codes "-")) (λ h. cc) (λ d h p. h p), λ h. (refl, refl), tt), tt)),
    (
      refl,
      (
        refl,
        flag_row o (codes "bool"),
        (
          refl,
          node_row n o (codes "lhs"),
          (
            refl,
            (λ v path e h. (λ other. h.0, h.1), λ h. (λ other none. cc, inl (refl, refl)), tt),
            (refl, (operator_goes, λ h. inl (refl, refl), tt), (refl, node_row n o (codes "rhs"), tt)),
          ),
        ),
      ),
      (
        refl,
        (refl, node_row n o (codes "expr"), tt),
        (
          refl,
          (
            refl,
            node_row n o (codes "expr"),
            (
              refl,
              length_row o (codes "range"),
              (refl, (nullable (one kind.Length) new.length length_goes, λ h. (λ none. cc, (refl, refl)), tt), shift_rows_go o),
            ),
          ),
          (
            refl,
            (refl, (number_goes, λ h. inl (refl, refl), tt), tt),
            (
              refl,
              (refl, text_row o (codes "val"), tt),
              (
                refl,
                selector_rows_go o,
                (
                  refl,
                  (refl, length_row o (codes "range"), (refl, (left_out (one kind.RangeMode) (is kind.RangeMode (λ d. (d ≡ string (codes "smoothed")) ⊎ (d ≡ string (codes "anchored")))) mode_goes, λ h. absurd (true≢false h), tt), selector_rows_go o)),
                  (
                    refl,
                    (refl, (list_goes (old.node n) (λ i. new.node n) (λ i v path e h. h), λ h. inl (refl, refl), tt), (refl, (λ v path e h. h, λ h. inl (refl, refl), tt), tt)),
                    tt,
                  ),
                ),
              ),
            ),
          ),
        ),
      ),
    ),
  ),
)

named_at : (o : Option Data) (b : Bool) (olds : List (Text × old.Form)) (r : Option (List (Text × old.Form))) (more rest : List (Text × new.Form))
    → Rows o olds more → Rows o (option_map_or (λ m. m) r []) rest → Rows o (option_map_or (λ m. m) (if b then Some olds else r) []) (choose b more rest)
named_at o true olds r more rest first later = first
named_at o false olds r more rest first later = later

named_rows : (o : Option Data) (name : Text) (table : List (Text × List (Text × old.Form))) (others : List (Text × List (Text × new.Form)))
    → Tables o table others → Rows o (option_map_or (λ m. m) (old.row_of name table) []) (named name others)
named_rows o name [] [] all = tt
named_rows o name [] (x ∷ others) all = absurd all
named_rows o name (x ∷ table) [] all = absurd all
named_rows o name ((k, olds) ∷ table) ((l, more) ∷ others) all =
    subst (λ m. Rows o (option_map_or (λ m. m) (old.row_of name ((k, olds) ∷ table)) []) (choose (bytes_eq m name) more (named name others))) all.0
    (named_at o (bytes_eq k name) olds (old.row_of name table) more (named name others) all.1 (named_rows o name table others all.2))

pub all_rows : (f : old.Form) (o : Option Data) → Rows o (rows f) (news f o)
all_rows (node_named name n) o =
    (refl, (anything kind.Node (is kind.Node (like string)) (λ h. cc) (λ d h. h), λ h. (refl, refl), tt), named_rows o name (old.nodes n) (new.nodes (new.node n) o) (tables_go n o))
all_rows old.matcher o = matcher_rows o
all_rows old.modifier o = modifier_rows o
all_rows (grouped name) o = (refl, labels_row o name, tt)
all_rows fill_values o = fills_rows o
all_rows old.function o = function_rows o
all_rows f o = tt
