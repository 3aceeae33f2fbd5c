-- Matchers that are given as texts (docs/guide/rewriting.md, "Matchers from texts").
use Rattle.std.specs.Prelude.{◌≡◌, ◌≢◌, ◌++◌, if◌then◌else◌, [], ◌∷◌, None, Result, Ok, Err, codes, true, false}
use Rattle.std.specs.Str.{bytes_eq}
use Rattle.promql_text.specs.Texts.{Text}
use Rattle.promql_label.specs.PlainMatchers.{PlainMatcher, plain_matchers, name_of}
use Rattle.promql_ast.specs.Selectors.{selector}
use Rattle.promql_ast.specs.Tree.{Tree, vector}
use Rattle.promql_syntax.specs.ParseAnswers.{IsAnswerTo, PlainParseError, memory}
use Rattle.promql_rewrite.specs.Enforcing.{enforced, has_bare_info}
use Rattle.promql_rewrite.specs.declared.matcher_text.MatcherError.{MatcherError}
use Rattle.promql_rewrite.specs.declared.matcher_text.MatcherError.TheVariants as error

-- the text between the braces of a selector, after a matcher, and before the end of its line
abbrev pub selector_around : Text → Text
selector_around text = codes "{x=\"y\"," ++ text ++ codes "\n}"

-- the second matcher of a selector that has two, without or-groups, offset and `@`, and that is not of the metric's name
abbrev pub matcher_in : Result Tree PlainParseError → Result PlainMatcher MatcherError
matcher_in (Ok (vector (selector name (plain_matchers (first ∷ c ∷ []) []) None None))) =
    if bytes_eq (name_of c) (codes "__name__") then Err error.MetricName else Ok c
matcher_in _ = Err error.NotAMatcher

-- the matcher to enforce that the text is, or why it is none
abbrev pub IsMatcherText : Text → Result PlainMatcher MatcherError → Type 0
IsMatcherText text result =
    (answer : Result Tree PlainParseError) × IsAnswerTo (selector_around text) answer × (answer ≢ Err memory) × (result ≡ matcher_in answer)

-- the text is a matcher to enforce, each call of `info` in the first tree has a second argument, and the second tree is the first
-- with the matcher in every selector
abbrev pub IsEnforcedBy : Text → Tree → Tree → Type 0
IsEnforcedBy text t u = (c : PlainMatcher) × IsMatcherText text (Ok c) × (has_bare_info t ≡ false) × (u ≡ enforced c t)

-- the text is a matcher to enforce, and a call of `info` in the tree has no second argument
abbrev pub MeetsBareInfo : Text → Tree → Type 0
MeetsBareInfo text t = ((c : PlainMatcher) × IsMatcherText text (Ok c)) × (has_bare_info t ≡ true)
