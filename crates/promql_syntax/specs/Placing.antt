-- Where a fault is, by the parts of its node. Private: nothing rests on believing it.
use Rattle.std.specs.Prelude.{◌≡◌, ℕ, ◌+◌, ◌<◌, ◌^◌, Option, Some, None, IfSome, [], length}
use Rattle.std.specs.declared.alloc.Global.{Global}
use Rattle.std.specs.declared.boxed.Box.{Box}
use Rattle.promql_grammar.specs.Grammar.{Arguments, Derivation, yield, yield_arguments}
use Rattle.promql_grammar.specs.GrammarParts.{Modifier, Postfix, yield_modifier, yield_postfix}
use Rattle.promql_ast.specs.Faults.{Fault, bool_modifier, label_twice, no_grouping, vector_matching}
use Rattle.promql_ast.specs.Tree.{Tree, binary}
use Rattle.promql_syntax.specs.BuildErrors.{BuildError, build_error_of, check}
use Rattle.promql_syntax.specs.declared.grammar.build_error.BuildError as code
use Rattle.promql_syntax.specs.declared.grammar.place.Extent.{Extent}
use Rattle.promql_syntax.specs.declared.grammar.place.Place.{Place}
use Rattle.promql_syntax.specs.declared.grammar.place.Place.TheVariants.{Argument, Tokens}

-- the tokens from one index up to another
abbrev pub tokens_between : ℕ → ℕ → Place
tokens_between from to = Tokens (record { start = from; end = to })

-- of a fault about the modifier of an operator
abbrev pub modifier_place : Tree → Fault → Extent → Option Place
modifier_place (binary op l r m) bool_modifier extent = Some (tokens_between extent.modifier extent.right)
modifier_place (binary op l r m) (label_twice label) extent = Some (tokens_between extent.modifier extent.right)
modifier_place (binary op l r m) (no_grouping set) extent = Some (tokens_between extent.modifier extent.right)
modifier_place (binary op l r m) vector_matching extent = Some (tokens_between extent.modifier extent.right)
modifier_place t fault extent = None

-- how many tokens come after the left side of an operator
abbrev pub left_after : ℕ → Modifier → Derivation → ℕ
left_after k m r = 1 + (length (yield_modifier m) + (length (yield r) + k))

-- the modifier of an operator and the right side, where k of n tokens come after that
abbrev pub IsModifierAt : ℕ → ℕ → Extent → Modifier → Derivation → Type 0
IsModifierAt n k extent m r =
    n < 2 ^ 64 → (extent.modifier + (length (yield_modifier m) + (length (yield r) + k)) ≡ n) × (extent.right + (length (yield r) + k) ≡ n)

-- a postfix, where k of n tokens come after it
abbrev pub IsPostfixAt : ℕ → ℕ → Extent → Postfix → Type 0
IsPostfixAt n k extent p = n < 2 ^ 64 → (extent.operator + (length (yield_postfix p) + k) ≡ n) × (extent.end + k ≡ n)

-- a name and the arguments after it, where k of n tokens come after them
abbrev pub IsCallAt : ℕ → ℕ → Extent → Arguments → Type 0
IsCallAt n k extent ds = n < 2 ^ 64 → extent.start + (2 + (length (yield_arguments [] ds) + k)) ≡ n

-- the tokens from one up to another, by how many of n are left
abbrev pub AreTokens : ℕ → Option (ℕ × ℕ) → Place → Type 0
AreTokens n None place = Unit {0}
AreTokens n (Some left) (Tokens range) = (range.start + left.0 ≡ n) × (range.end + left.1 ≡ n)
AreTokens n (Some left) (Argument range index) = ⊥

-- an error of a check, or of a builder
abbrev pub IsCheck : BuildError → Type 0
IsCheck (check fault) = Unit {0}
IsCheck e = ⊥

-- of a fault about the modifier of an operator, the error has its place
abbrev pub HasModifierPlace : Tree → Extent → Box code.BuildError Global → Type 0
HasModifierPlace t extent error =
    (fault : Fault) → build_error_of error.value ≡ check fault → IfSome (modifier_place t fault extent) (λ place. error.value.place ≡ place)
