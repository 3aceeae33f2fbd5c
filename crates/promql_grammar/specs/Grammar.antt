-- The grammar: derivations, their tokens, their heights, and which of them are well formed (docs/reference/grammar.md,
-- "Grammar").
use Rattle.std.specs.Prelude.{◌≡◌, ◌⊎◌, ℕ, ◌+◌, ◌≤◌, ◌<◌, true, ◌==◌, ◌||◌, if◌then◌else◌, min, max, Option, Some, None, IfSome, List, [], ◌∷◌, ◌++◌}
use Rattle.std.specs.Option.{option_map_or}
use Rattle.promql_text.specs.Texts.{Text}
use Rattle.promql_token.specs.declared.ids.TheConstants.{T_LOR, T_LAND, T_LUNLESS, T_EQLC, T_NEQ, T_LTE, T_LSS, T_GTE, T_GTR, T_ADD, T_SUB, T_POW}
use Rattle.promql_token.specs.Ids.{is_one_of}
use Rattle.promql_grammar.specs.declared.token_kinds.TokenKind.{TokenKind}
use Rattle.promql_grammar.specs.declared.token_kinds.TokenKind.TheVariants as kind
use Rattle.promql_grammar.specs.Symbols.{Symbol, punct, word, may_be_name, may_be_called}
use Rattle.promql_grammar.specs.GrammarParts.{IsLabels, Braces, yield_braces, Clause, yield_before, yield_after, Modifier, yield_modifier, Matching, IsMatching, Fills, no_fill, Postfix, subquery, yield_postfix}

-- a derivation, with a case for each form of expression; it keeps the tokens of its form
mutual
  pub data Derivation : Type 0 where
    number duration string : Text → Derivation
    selector : TokenKind → Text → Option Braces → Derivation
    nameless : Braces → Derivation
    paren : Derivation → Derivation
    call : TokenKind → Text → Arguments → Derivation
    aggregate : ℕ → Text → Clause → Arguments → Derivation
    postfixed : Derivation → Postfix → Derivation
    unary : ℕ → Text → Derivation → Derivation
    binary : ℕ → Text → Modifier → Derivation → Derivation → Derivation

  pub data Arguments : Type 0 where
    none : Arguments
    more : Derivation → Arguments → Arguments

-- the tokens that a derivation spells; those of arguments end with the closing parenthesis, and have a comma before each but the first
abbrev mutual
  pub yield : Derivation → List Symbol
  yield (number text) = word kind.Number text ∷ []
  yield (duration text) = word kind.Duration text ∷ []
  yield (string text) = word kind.String text ∷ []
  yield (selector k text b) = word k text ∷ option_map_or yield_braces b []
  yield (nameless b) = yield_braces b
  yield (paren d) = punct kind.LeftParen ∷ (yield d ++ punct kind.RightParen ∷ [])
  yield (call k text ds) = word k text ∷ punct kind.LeftParen ∷ yield_arguments [] ds
  yield (aggregate op text c ds) = word (kind.Aggregator op) text ∷ (yield_before c ++ punct kind.LeftParen ∷ (yield_arguments [] ds ++ yield_after c))
  yield (postfixed d p) = yield d ++ yield_postfix p
  yield (unary op text d) = word (kind.Operator op) text ∷ yield d
  yield (binary op text m l r) = yield l ++ word (kind.Operator op) text ∷ (yield_modifier m ++ yield r)

  pub yield_arguments : (before : List Symbol) → Arguments → List Symbol
  yield_arguments before none = punct kind.RightParen ∷ []
  yield_arguments before (more d ds) = before ++ (yield d ++ yield_arguments (punct kind.Comma ∷ []) ds)

-- how tightly an operator binds; `*`, `/`, `%` and `atan2` by 5 (by lists in KindLists)
abbrev pub precedence : ℕ → ℕ
precedence op =
    if op == T_POW then 6
    else if is_one_of (T_LOR ∷ []) op then 1
    else if is_one_of (T_LAND ∷ T_LUNLESS ∷ []) op then 2
    else if is_one_of (T_EQLC ∷ T_NEQ ∷ T_LTE ∷ T_LSS ∷ T_GTE ∷ T_GTR ∷ []) op then 3
    else if is_one_of (T_ADD ∷ T_SUB ∷ []) op then 4
    else 5

-- an operator of at most this precedence may follow the form and take all of it as its left side
abbrev pub openness : Derivation → ℕ
openness (unary op text d) = min 5 (openness d)
openness (binary op text m l r) = min (precedence op) (openness r)
openness d = 7

-- the openness of a left side is at least the precedence, and for a power above it
abbrev pub FitsLeft : ℕ → ℕ → Type 0
FitsLeft op left = (if op == T_POW then 7 else precedence op) ≤ left

-- a right side that is binary has a higher precedence, or both are powers
abbrev pub FitsRight : ℕ → Derivation → Type 0
FitsRight op (binary inner text m l r) = (precedence op < precedence inner) ⊎ ((op ≡ T_POW) × (inner ≡ T_POW))
FitsRight op d = Unit {0}

-- a unary operator before a binary form is before a power
abbrev pub FitsUnary : Derivation → Type 0
FitsUnary (binary op text m l r) = op ≡ T_POW
FitsUnary d = Unit {0}

-- a postfix follows a form without unary and binary operators outside
abbrev pub IsBase : Derivation → Type 0
IsBase (binary op text m l r) = ⊥
IsBase (unary op text d) = ⊥
IsBase d = Unit {0}

abbrev pub OpensNoParen : List Symbol → Type 0
OpensNoParen (punct kind.LeftParen ∷ ts) = ⊥
OpensNoParen ts = Unit {0}

-- a parenthesis directly after a grouping word opens its labels
abbrev pub FitsMatching : Matching → Fills → List Symbol → Type 0
FitsMatching (Some (on, text, ls, Some (left, text', None))) no_fill ts = OpensNoParen ts
FitsMatching m f ts = Unit {0}

-- the conditions hold everywhere in the derivation
abbrev mutual
  pub IsWellFormed : Derivation → Type 0
  IsWellFormed (selector k text b) = may_be_name k ≡ true
  IsWellFormed (paren d) = IsWellFormed d
  IsWellFormed (call k text ds) = (may_be_called k ≡ true) × AreWellFormed ds
  IsWellFormed (aggregate op text c ds) = IfSome c (λ (before, (by, text, ls)). IsLabels ls) × AreWellFormed ds
  IsWellFormed (postfixed d p) = IsWellFormed d × IsBase d
  IsWellFormed (unary op text d) = ((op == T_ADD || op == T_SUB) ≡ true) × IsWellFormed d × FitsUnary d
  IsWellFormed (binary op text m l r) = IsWellFormed l × IsWellFormed r × IsMatching m.1 × FitsLeft op (openness l) × FitsRight op r × FitsMatching m.1 m.2 (yield r)
  IsWellFormed d = Unit {0}

  pub AreWellFormed : Arguments → Type 0
  AreWellFormed none = Unit {0}
  AreWellFormed (more d ds) = IsWellFormed d × AreWellFormed ds

-- what a postfix adds to the height of its base: a subquery is a form of its own
abbrev pub added_height : Postfix → ℕ
added_height (subquery t s) = 1
added_height p = 0

abbrev mutual
  pub height : Derivation → ℕ
  height (paren d) = 1 + height d
  height (call k text ds) = 1 + greatest_height ds
  height (aggregate op text c ds) = 1 + greatest_height ds
  height (postfixed d p) = added_height p + height d
  height (unary op text d) = 1 + height d
  height (binary op text m l r) = 1 + max (height l) (height r)
  height d = 1

  pub greatest_height : Arguments → ℕ
  greatest_height none = 0
  greatest_height (more d ds) = max (height d) (greatest_height ds)
