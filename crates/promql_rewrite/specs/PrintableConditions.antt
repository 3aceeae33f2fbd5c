-- What is asked of the parts of a node that reads back from what it prints (docs/guide/rewriting.md, "Trees of your own").
use Rattle.std.specs.Prelude.{◌≡◌, ◌≢◌, ◌⊎◌, ◌*◌, ◌^◌, ◌<◌, ℕ, min, true, if◌then◌else◌, [], ◌∷◌, Option, Some, None, FitsSigned, IfSome}
use Rattle.std.specs.Int.{w64}
use Rattle.std.specs.List.{AllByRecursion}
use Rattle.promql_text.specs.Texts.{Text}
use Rattle.promql_text.specs.Values.{IsNumber, is_below_zero}
use Rattle.promql_text.specs.declared.number.Number.{Number}
use Rattle.promql_token.specs.Vocabulary.{is_word, word_id}
use Rattle.promql_token.specs.declared.ids.TheConstants.{T_POW}
use Rattle.promql_grammar.specs.Grammar.{precedence}
use Rattle.promql_grammar.specs.Symbols.{may_be_name, token_kind}
use Rattle.promql_label.specs.PlainMatchers.{PlainMatchers, plain_matchers}
use Rattle.promql_ast.specs.Shifts.{Shift, back, ahead, Moment, at_time}
use Rattle.promql_ast.specs.Tree.{Tree, unary, binary, number}

-- ---- values

-- nanoseconds that are read as they print: not none, and below 2^64 seconds
abbrev pub PrintableTime : ℕ → Type 0
PrintableTime n = (0 < n) × (n < 2 ^ 64 * 1_000_000_000)

abbrev pub PrintableOffset : Option Shift → Type 0
PrintableOffset None = Unit {0}
PrintableOffset (Some (back n)) = PrintableTime n
PrintableOffset (Some (ahead n)) = PrintableTime n

-- milliseconds of 64 bits
abbrev pub PrintableAt : Option Moment → Type 0
PrintableAt (Some (at_time t)) = FitsSigned w64 t
PrintableAt _ = Unit {0}

abbrev pub PrintableFill : Option Number → Type 0
PrintableFill n = IfSome n IsNumber

-- ---- names

-- a word that may be the name of a metric
abbrev pub PrintableName : Option Text → Type 0
PrintableName name = IfSome name (λ w. (is_word w ≡ true) × (may_be_name (token_kind (word_id w [])) ≡ true))

-- ---- how tightly a printed tree binds; where that is too little for its place, it stands in parentheses

-- an operator of at most this precedence may follow the tree and take all of it as its left side; the tree is closed at 7
abbrev pub openness : Tree → ℕ
openness (unary e) = min 5 (openness e)
openness (binary op l r m) = min (precedence op) (openness r)
openness (number n) = if is_below_zero n then 5 else 7
openness t = 7

-- a right side that is binary has a higher precedence, or both are powers
abbrev pub IsRightSide : ℕ → Tree → Type 0
IsRightSide op (binary inner l r m) = (precedence op < precedence inner) ⊎ ((op ≡ T_POW) × (inner ≡ T_POW))
IsRightSide op t = Unit {0}

-- ---- or-groups

-- there are none, or two at least, none of them empty, and no matcher beside them
abbrev pub AreGrouped : PlainMatchers → Type 0
AreGrouped (plain_matchers cs []) = Unit {0}
AreGrouped (plain_matchers cs (g ∷ gs)) = (cs ≡ []) × (gs ≢ []) × AllByRecursion (λ g. g ≢ []) (g ∷ gs)

-- ---- an operand of a minus. Private: nothing rests on believing it

-- after a minus: of binary trees only powers, and no number, which would take the sign
abbrev pub IsNegated : Tree → Type 0
IsNegated (binary op l r m) = op ≡ T_POW
IsNegated (number n) = ⊥
IsNegated t = Unit {0}
