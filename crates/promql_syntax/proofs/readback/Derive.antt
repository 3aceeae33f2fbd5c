-- The derivation of a tree's text (docs/reference/printing.md, "Nodes"): what the grammar reads the printed tree as.
use Rattle.std.specs.Prelude.{◌≡◌, ℕ, true, false, if◌then◌else◌, Option, Some, None, option_map, Result, Ok, Err, codes}
use Rattle.promql_text.specs.NumberText.{number_text, read_number}
use Rattle.promql_text.specs.Quoting.{quoted_text}
use Rattle.promql_text.specs.Texts.{Text}
use Rattle.promql_text.specs.Values.{is_below_zero, neg}
use Rattle.promql_text.specs.declared.number.Number.{Number}
use Rattle.promql_text.specs.declared.number.NumberFault.{NumberFault}
use Rattle.promql_token.specs.Ids.{text_of}
use Rattle.promql_token.specs.Laws.{is_word}
use Rattle.promql_token.specs.declared.ids.TheConstants.{T_SUB}
use Rattle.promql_grammar.specs.declared.token_kinds.TokenKind.{TokenKind}
use Rattle.promql_grammar.specs.declared.token_kinds.TokenKind.TheVariants as kind
use Rattle.promql_grammar.specs.Grammar as grammar
use Rattle.promql_grammar.specs.Grammar.{Derivation, Arguments}
use Rattle.promql_grammar.specs.GrammarParts as part
use Rattle.promql_grammar.specs.Symbols.{token_kind}
use Rattle.promql_kind.specs.Functions.{name_of}
use Rattle.promql_ast.specs.Selectors.{Selector, selector}
use Rattle.promql_ast.specs.Shifts.{Shift, Moment}
use Rattle.promql_ast.specs.Tree.{Tree, aggregate, unary, binary, paren, subquery, number, string, vector, matrix, call, extension, MaybeTree, absent, present, Trees, no_trees, first_tree}
use Rattle.promql_ast.specs.declared.range_mode.RangeMode.{RangeMode}
use Rattle.promql_ast.specs.declared.range_mode.RangeMode.TheVariants.{Plain, Smoothed, Anchored}
use Rattle.promql_syntax.proofs.printed.PrintedParts.{word_kind, time, moment, shift, clause, modifier, braces}

-- a number below zero is a minus and a number
abbrev pub derive_number : Number → Derivation
derive_number n =
    if is_below_zero n then grammar.unary T_SUB (codes "-") (grammar.number (number_text (neg n)))
    else grammar.number (number_text n)

abbrev pub derive_base : Option Text → Option part.Braces → Derivation
derive_base (Some name) b = grammar.selector (word_kind name) name b
derive_base None (Some b) = grammar.nameless b
derive_base None None = grammar.nameless None

-- a range mode, `@` and `offset`, in the order in which they are printed
abbrev pub with_mode : RangeMode → Derivation → Derivation
with_mode Plain d = d
with_mode Smoothed d = grammar.postfixed d (part.mode true (codes "smoothed"))
with_mode Anchored d = grammar.postfixed d (part.mode false (codes "anchored"))

abbrev pub with_at : Option Moment → Derivation → Derivation
with_at None d = d
with_at (Some m) d = grammar.postfixed d (moment m)

abbrev pub with_offset : Option Shift → Derivation → Derivation
with_offset None d = d
with_offset (Some s) d = grammar.postfixed d (shift s)

abbrev pub with_suffix : Option Shift → Option Moment → Derivation → Derivation
with_suffix offset at d = with_offset offset (with_at at d)

abbrev pub derive_selector : Selector → Derivation
derive_selector (selector name matchers offset at) = with_suffix offset at (derive_base name (braces matchers))

abbrev pub derive_matrix : Selector → ℕ → RangeMode → Derivation
derive_matrix (selector name matchers offset at) range mode =
    with_suffix offset at (with_mode mode (grammar.postfixed (derive_base name (braces matchers)) (part.range (time range))))

abbrev mutual
  pub derive : Tree → Derivation
  derive (aggregate op e p m) = grammar.aggregate op (text_of op) (clause m) (derive_after p (grammar.more (derive e) grammar.none))
  derive (unary e) = grammar.unary T_SUB (codes "-") (derive e)
  derive (binary op l r m) = grammar.binary op (text_of op) (modifier m) (derive l) (derive r)
  derive (paren e) = grammar.paren (derive e)
  derive (subquery e offset at range step) =
      with_suffix offset at (grammar.postfixed (derive e) (part.subquery (time range) (option_map time step)))
  derive (number n) = derive_number n
  derive (string s) = grammar.string (quoted_text s)
  derive (vector s) = derive_selector s
  derive (matrix s range mode) = derive_matrix s range mode
  derive (call f ts) = grammar.call (word_kind (name_of f)) (name_of f) (derive_all ts)
  derive (extension name gives ts) = grammar.call (word_kind name) name (derive_all ts)

  -- a parameter, and what follows it
  pub derive_after : MaybeTree → Arguments → Arguments
  derive_after absent ds = ds
  derive_after (present e) ds = grammar.more (derive e) ds

  pub derive_all : Trees → Arguments
  derive_all no_trees = grammar.none
  derive_all (first_tree t ts) = grammar.more (derive t) (derive_all ts)

-- ---- what the words of a derivation are, that the lexer gives

-- the number of a word has no sign
abbrev pub IsUnsigned : Result Number NumberFault → Type 0
IsUnsigned (Ok n) = is_below_zero n ≡ false
IsUnsigned (Err f) = Unit {0}

-- a word, of the kind that its text has
pub record IsName (k : TokenKind) (text : Text) : Type 0 where
  pub letters : is_word text ≡ true
  pub kind : k ≡ word_kind text

-- numbers have no sign, the names of metrics and functions are words of their kinds, and operators have their ids
abbrev mutual
  pub HasWords : Derivation → Type 0
  HasWords (grammar.number text) = IsUnsigned (read_number text)
  HasWords (grammar.selector k text b) = IsName k text
  HasWords (grammar.paren d) = HasWords d
  HasWords (grammar.call k text ds) = IsName k text × AllHaveWords ds
  HasWords (grammar.aggregate op text c ds) = AllHaveWords ds
  HasWords (grammar.postfixed d p) = HasWords d
  HasWords (grammar.unary op text d) = HasWords d
  HasWords (grammar.binary op text m l r) = HasWords l × HasWords r × (token_kind op ≡ kind.Operator op)
  HasWords d = Unit {0}

  pub AllHaveWords : Arguments → Type 0
  AllHaveWords grammar.none = Unit {0}
  AllHaveWords (grammar.more d ds) = HasWords d × AllHaveWords ds
