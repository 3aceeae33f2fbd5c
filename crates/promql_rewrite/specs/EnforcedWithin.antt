-- A matcher in every selector of a tree whose line is short enough (docs/guide/rewriting.md, "Matchers from texts").
use Rattle.std.specs.Prelude.{◌≡◌, ◌≢◌, ◌<◌, ◌||◌, ℕ, Bool, true, false, Ok, codes, length}
use Rattle.promql_text.specs.Texts.{Text}
use Rattle.promql_label.specs.PlainMatchers.{PlainMatcher, name_of}
use Rattle.promql_ast.specs.Text.{text as line_text}
use Rattle.promql_ast.specs.Tree.{Tree}
use Rattle.promql_rewrite.specs.Enforcing.{enforced, has_bare_info}
use Rattle.promql_rewrite.specs.MatcherTexts.{IsEnforcedBy, IsMatcherText}
use Rattle.promql_rewrite.specs.Patterns.{has_pattern, is_regex}
use Rattle.promql_rewrite.specs.declared.enforcing_within.EnforceWithinError.{EnforceWithinError}
use Rattle.promql_rewrite.specs.declared.enforcing_within.EnforceWithinError.TheVariants.{Memory, Matcher, Info, TooLong}

-- the line of the tree with the matcher of the text has so many bytes, which are more than `most`
abbrev pub IsLongEnforced : Text → Tree → ℕ → ℕ → Type 0
IsLongEnforced text t most len = (u : Tree) × IsEnforcedBy text t u × (len ≡ length (line_text u)) × (most < len)

-- the text is a matcher to enforce, which is not of the metric's name, the second tree is the first with it in every selector, and
-- this tells whether the first tree or the matcher has a pattern
abbrev pub IsEnforcedWith : Text → Tree → Tree → Bool → Type 0
IsEnforcedWith text t u pattern =
    (c : PlainMatcher) × IsMatcherText text (Ok c) × (name_of c ≢ codes "__name__") × (u ≡ enforced c t) × (pattern ≡ is_regex c || has_pattern t)

-- ---- of one matcher. Private: nothing rests on believing it

abbrev pub IsPlaceFault : ℕ → PlainMatcher → Tree → EnforceWithinError → Type 0
IsPlaceFault most c t Memory = Unit {0}
IsPlaceFault most c t (Matcher e) = ⊥
IsPlaceFault most c t Info = has_bare_info t ≡ true
IsPlaceFault most c t (TooLong len) = (has_bare_info t ≡ false) × (len ≡ length (line_text (enforced c t))) × (most < len)
