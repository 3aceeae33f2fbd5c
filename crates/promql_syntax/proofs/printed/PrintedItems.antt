-- A printed tree as parts with the white space between them (docs/reference/printing.md, "Nodes"), from the derivation
-- of its text.
use Rattle.std.specs.Prelude.{ℕ, zero, suc, ◌+◌, Bool, not, if◌then◌else◌, Option, Some, None, List, [], ◌∷◌, ◌++◌, codes, true, false}
use Rattle.promql_text.specs.Texts.{Text, code}
use Rattle.promql_token.specs.declared.ids.TheConstants.{T_ADD, T_SUB}
use Rattle.promql_ast.specs.Lines.{is_longer}
use Rattle.promql_grammar.specs.declared.token_kinds.TokenKind.{TokenKind}
use Rattle.promql_grammar.specs.declared.token_kinds.TokenKind.TheVariants as kind
use Rattle.promql_grammar.specs.Grammar as grammar
use Rattle.promql_grammar.specs.Grammar.{Derivation, Arguments}
use Rattle.promql_grammar.specs.GrammarParts as part
use Rattle.promql_grammar.specs.Symbols.{Symbol, punct, word}

pub data Item : Type 0 where
  token : Symbol → Item
  blank : Item
  newline : Item

-- the tokens alone
abbrev pub strip : List Item → List Symbol
strip [] = []
strip (token s ∷ is) = s ∷ strip is
strip (blank ∷ is) = strip is
strip (newline ∷ is) = strip is

-- the bytes of punctuation, and of a token
abbrev pub punct_text : TokenKind → Text
punct_text kind.LeftParen = codes "("
punct_text kind.RightParen = codes ")"
punct_text kind.LeftBrace = codes "{"
punct_text kind.RightBrace = codes "}"
punct_text kind.LeftBracket = codes "["
punct_text kind.RightBracket = codes "]"
punct_text kind.Comma = codes ","
punct_text kind.Colon = codes ":"
punct_text kind.Equal = codes "="
punct_text kind.EqualRegex = codes "=~"
punct_text kind.NotEqualRegex = codes "!~"
punct_text kind.At = codes "@"
punct_text k = []

abbrev pub spell : Symbol → Text
spell (punct k) = punct_text k
spell (word k text) = text

-- the bytes of items
abbrev pub render : List Item → Text
render [] = []
render (token s ∷ is) = spell s ++ render is
render (blank ∷ is) = code " " ∷ render is
render (newline ∷ is) = code "\n" ∷ render is

-- ---- parts

abbrev pub time_line : part.Time → List Item
time_line (part.seconds text) = token (word kind.Number text) ∷ []
time_line (part.duration text) = token (word kind.Duration text) ∷ []

abbrev pub signed_line : part.Signed → List Item
signed_line None = []
signed_line (Some (minus, text)) = token (word (kind.Operator (if minus then T_SUB else T_ADD)) text) ∷ []

abbrev pub names_line : part.Labels → List Item
names_line part.no_label = token (punct kind.RightParen) ∷ []
names_line (part.last k text) = token (word k text) ∷ token (punct kind.RightParen) ∷ []
names_line (part.next k text ls) = token (word k text) ∷ token (punct kind.Comma) ∷ blank ∷ names_line ls

abbrev pub labels_line : part.Labels → List Item
labels_line ls = token (punct kind.LeftParen) ∷ names_line ls

abbrev pub grouping_line : part.Grouping → List Item
grouping_line (by, text, ls) = blank ∷ token (word (if by then kind.By else kind.Without) text) ∷ blank ∷ (labels_line ls ++ blank ∷ [])

abbrev pub before_line : part.Clause → List Item
before_line (Some (true, g)) = grouping_line g
before_line _ = []

abbrev pub after_line : part.Clause → List Item
after_line (Some (false, g)) = grouping_line g
after_line _ = []

abbrev pub group_line : part.Group → List Item
group_line None = []
group_line (Some (left, text, None)) = blank ∷ token (word (if left then kind.GroupLeft else kind.GroupRight) text) ∷ []
group_line (Some (left, text, Some ls)) = blank ∷ token (word (if left then kind.GroupLeft else kind.GroupRight) text) ∷ blank ∷ labels_line ls

abbrev pub matching_line : part.Matching → List Item
matching_line None = []
matching_line (Some (on, text, ls, g)) = blank ∷ token (word (if on then kind.On else kind.Ignoring) text) ∷ blank ∷ (labels_line ls ++ group_line g)

abbrev pub value_line : part.FillValue → List Item
value_line v = blank ∷ token (punct kind.LeftParen) ∷ (signed_line v.0 ++ token (word kind.Number v.1) ∷ token (punct kind.RightParen) ∷ [])

abbrev pub side_line : Bool → Text → part.FillValue → List Item
side_line left text v = blank ∷ token (word (if left then kind.FillLeft else kind.FillRight) text) ∷ value_line v

abbrev pub fills_line : part.Fills → List Item
fills_line part.no_fill = []
fills_line (part.both text v) = blank ∷ token (word kind.Fill text) ∷ value_line v
fills_line (part.one left text v) = side_line left text v
fills_line (part.two left text v text' w) = side_line left text v ++ side_line (not left) text' w

abbrev pub flag_line : Option Text → List Item
flag_line None = []
flag_line (Some text) = blank ∷ token (word kind.Bool text) ∷ []

abbrev pub modifier_line : part.Modifier → List Item
modifier_line m = flag_line m.0 ++ (matching_line m.1 ++ fills_line m.2)

abbrev pub item_line : part.Item → List Item
item_line (part.matcher quoted text s value) = token (word (part.name_kind quoted) text) ∷ token (part.yield_match_operator s) ∷ token (word kind.String value) ∷ []
item_line (part.lone text) = token (word kind.String text) ∷ []

-- matchers in groups have a space after a comma, all others have none
pub data Spacing : Type 0 where
  close : Spacing
  wide : Spacing

abbrev pub spacing : part.Items → Spacing
spacing (part.last_item i false) = close
spacing (part.last_item i true) = close
spacing (part.next_item i None is) = spacing is
spacing (part.next_item i (Some text) is) = wide

abbrev pub separator_line : Spacing → part.Separator → List Item
separator_line close None = token (punct kind.Comma) ∷ []
separator_line wide None = token (punct kind.Comma) ∷ blank ∷ []
separator_line s (Some text) = blank ∷ token (part.yield_separator (Some text)) ∷ blank ∷ []

abbrev pub items_line : Spacing → part.Items → List Item
items_line s (part.last_item i false) = item_line i ++ token (punct kind.RightBrace) ∷ []
items_line s (part.last_item i true) = item_line i ++ token (punct kind.Comma) ∷ token (punct kind.RightBrace) ∷ []
items_line s (part.next_item i t is) = item_line i ++ (separator_line s t ++ items_line s is)

abbrev pub braces_line : part.Braces → List Item
braces_line None = token (punct kind.LeftBrace) ∷ token (punct kind.RightBrace) ∷ []
braces_line (Some is) = token (punct kind.LeftBrace) ∷ items_line (spacing is) is

abbrev pub any_braces_line : Option part.Braces → List Item
any_braces_line None = []
any_braces_line (Some b) = braces_line b

abbrev pub step_line : Option part.Time → List Item
step_line None = []
step_line (Some t) = time_line t

abbrev pub postfix_line : part.Postfix → List Item
postfix_line (part.range t) = token (punct kind.LeftBracket) ∷ (time_line t ++ token (punct kind.RightBracket) ∷ [])
postfix_line (part.subquery t s) = token (punct kind.LeftBracket) ∷ (time_line t ++ token (punct kind.Colon) ∷ (step_line s ++ token (punct kind.RightBracket) ∷ []))
postfix_line (part.at_number s text) = blank ∷ token (punct kind.At) ∷ blank ∷ (signed_line s ++ token (word kind.Number text) ∷ [])
postfix_line (part.at_bound start text) = blank ∷ token (punct kind.At) ∷ blank ∷ token (word (if start then kind.Start else kind.End) text) ∷ token (punct kind.LeftParen) ∷ token (punct kind.RightParen) ∷ []
postfix_line (part.offset text s t) = blank ∷ token (word kind.Offset text) ∷ blank ∷ (signed_line s ++ time_line t)
postfix_line (part.mode smoothed text) = blank ∷ token (word (if smoothed then kind.Smoothed else kind.Anchored) text) ∷ []

-- ---- one line

abbrev mutual
  pub line : Derivation → List Item
  line (grammar.number text) = token (word kind.Number text) ∷ []
  line (grammar.duration text) = token (word kind.Duration text) ∷ []
  line (grammar.string text) = token (word kind.String text) ∷ []
  line (grammar.selector k text b) = token (word k text) ∷ any_braces_line b
  line (grammar.nameless b) = braces_line b
  line (grammar.paren d) = token (punct kind.LeftParen) ∷ (line d ++ token (punct kind.RightParen) ∷ [])
  line (grammar.call k text ds) = token (word k text) ∷ token (punct kind.LeftParen) ∷ arguments_line ds
  line (grammar.aggregate op text c ds) = token (word (kind.Aggregator op) text) ∷ (before_line c ++ token (punct kind.LeftParen) ∷ (arguments_line ds ++ after_line c))
  line (grammar.postfixed d p) = line d ++ postfix_line p
  line (grammar.unary op text d) = token (word (kind.Operator op) text) ∷ line d
  line (grammar.binary op text m l r) = line l ++ blank ∷ token (word (kind.Operator op) text) ∷ (modifier_line m ++ blank ∷ line r)

  pub arguments_line : Arguments → List Item
  arguments_line grammar.none = token (punct kind.RightParen) ∷ []
  arguments_line (grammar.more d ds) = line d ++ rest_line ds

  pub rest_line : Arguments → List Item
  rest_line grammar.none = token (punct kind.RightParen) ∷ []
  rest_line (grammar.more d ds) = token (punct kind.Comma) ∷ blank ∷ (line d ++ rest_line ds)

-- ---- over several lines (docs/reference/printing.md, "Nodes over several lines")

abbrev pub indent_items : ℕ → List Item → List Item
indent_items zero is = is
indent_items (suc n) is = blank ∷ blank ∷ indent_items n is

-- without the spaces before it
abbrev pub trim_items : List Item → List Item
trim_items [] = []
trim_items (blank ∷ is) = trim_items is
trim_items (token s ∷ is) = token s ∷ is
trim_items (newline ∷ is) = newline ∷ is

-- the one line if it fits, else the lines
abbrev pub choose_items : List Item → List Item → ℕ → ℕ → List Item
choose_items one lines level most = if is_longer most (render one) then lines else indent_items level one

-- a closing parenthesis on a line of its own
abbrev pub closing_line : ℕ → List Item → List Item
closing_line level after = newline ∷ indent_items level (token (punct kind.RightParen) ∷ after)

abbrev mutual
  pub lines : Derivation → ℕ → ℕ → List Item
  lines (grammar.paren d) level most =
      choose_items (line (grammar.paren d)) (indent_items level (token (punct kind.LeftParen) ∷ newline ∷ (lines d (level + 1) most ++ closing_line level []))) level most
  lines (grammar.call k text ds) level most =
      choose_items (line (grammar.call k text ds))
      (indent_items level (token (word k text) ∷ token (punct kind.LeftParen) ∷ newline ∷ arguments_lines ds (level + 1) most (closing_line level []))) level most
  lines (grammar.aggregate op text c ds) level most =
      choose_items (line (grammar.aggregate op text c ds))
      (indent_items level (token (word (kind.Aggregator op) text) ∷ (before_line c ++ token (punct kind.LeftParen) ∷ newline ∷ arguments_lines ds (level + 1) most (closing_line level (after_line c))))) level most
  lines (grammar.postfixed d p) level most = lines d level most ++ postfix_line p
  lines (grammar.unary op text d) level most = indent_items level (token (word (kind.Operator op) text) ∷ trim_items (lines d level most))
  lines (grammar.binary op text m l r) level most =
      choose_items (line (grammar.binary op text m l r))
      (lines l (level + 1) most ++ newline ∷ indent_items level (token (word (kind.Operator op) text) ∷ (modifier_line m ++ newline ∷ lines r (level + 1) most))) level most
  lines d level most = indent_items level (line d)

  -- arguments, and what follows them
  pub arguments_lines : Arguments → ℕ → ℕ → List Item → List Item
  arguments_lines grammar.none level most after = after
  arguments_lines (grammar.more d ds) level most after = lines d level most ++ rest_lines ds level most after

  pub rest_lines : Arguments → ℕ → ℕ → List Item → List Item
  rest_lines grammar.none level most after = after
  rest_lines (grammar.more d ds) level most after = token (punct kind.Comma) ∷ newline ∷ (lines d level most ++ rest_lines ds level most after)
