-- The tree around the text of a matcher. Private: nothing rests on believing it.
use Rattle.std.specs.Prelude.{◌≡◌, [], ◌∷◌, Option, Some, None, codes}
use Rattle.promql_text.specs.Texts.{Text}
use Rattle.promql_label.specs.PlainMatchers.{PlainMatcher, plain_matchers, name_of}
use Rattle.promql_ast.specs.Selectors.{selector}
use Rattle.promql_ast.specs.Tree.{Tree, vector}
use Rattle.promql_rewrite.specs.declared.matcher_text.MatcherError.{MatcherError}
use Rattle.promql_rewrite.specs.declared.matcher_text.MatcherError.TheVariants as error

-- a selector with this matcher after another one, without or-groups, offset and `@`
abbrev pub HasMatcherAfter : Tree → PlainMatcher → Type 0
HasMatcherAfter t c =
    (name : Option Text) × (first : PlainMatcher) × (t ≡ vector (selector name (plain_matchers (first ∷ c ∷ []) []) None None))

-- the second matcher of the tree, if it is such a selector
abbrev pub IsSecondMatcher : Tree → Option PlainMatcher → Type 0
IsSecondMatcher t None = (c : PlainMatcher) → ¬ HasMatcherAfter t c
IsSecondMatcher t (Some c) = HasMatcherAfter t c

-- why there is no copy of it
abbrev pub IsCopyFault : Tree → MatcherError → Type 0
IsCopyFault t error.Memory = Unit {0}
IsCopyFault t error.NotAMatcher = (c : PlainMatcher) → ¬ HasMatcherAfter t c
IsCopyFault t error.MetricName = (c : PlainMatcher) × HasMatcherAfter t c × (name_of c ≡ codes "__name__")
