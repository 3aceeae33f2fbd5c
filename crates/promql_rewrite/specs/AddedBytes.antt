-- How many bytes a matcher adds to the texts of selectors. Private: nothing rests on believing it.
use Rattle.std.specs.Prelude.{◌≡◌, ℕ, ◌+◌, if◌then◌else◌, List, [], ◌∷◌, Ok, Err}
use Rattle.std.specs.List.{list_any, sum_by}
use Rattle.std.specs.declared.alloc.AllocError.{AllocError}
use Rattle.promql_text.specs.PrintedLen.{cap_usize}
use Rattle.promql_label.specs.MatcherViews.{plain_matcher_of}
use Rattle.promql_label.specs.PlainMatchers.{PlainMatcher, PlainMatchers, plain_matchers}
use Rattle.promql_ast.specs.Same.{matcher_eq}
use Rattle.promql_ast.specs.Selectors.{Selector, selector}
use Rattle.promql_rewrite.specs.Mapping.{MapGives}
use Rattle.promql_rewrite.specs.declared.enforced_len.AddedBytes.{AddedBytes}

-- what has so many bytes and is the first of a list, or comes after others
abbrev pub placed_bytes : ℕ → ℕ → ℕ → List PlainMatcher → ℕ
placed_bytes first after len [] = len + first
placed_bytes first after len (d ∷ ds) = len + after

-- a matcher of so many bytes, to a list; none where an equal one is there
abbrev pub added_to_list : ℕ → ℕ → ℕ → PlainMatcher → List PlainMatcher → ℕ
added_to_list first after len c cs = if list_any (matcher_eq c) cs then 0 else placed_bytes first after len cs

-- to matchers in braces, which have none around the empty text: `,` comes before it without groups, and `, ` in a group
abbrev pub added_to_matchers : ℕ → PlainMatcher → PlainMatchers → ℕ
added_to_matchers len c (plain_matchers cs []) = added_to_list 2 1 len c cs
added_to_matchers len c (plain_matchers cs (g ∷ [])) = added_to_list 2 2 len c g
added_to_matchers len c (plain_matchers cs (g ∷ h ∷ gs)) = sum_by (added_to_list 0 2 len c) (g ∷ h ∷ gs)

abbrev pub added_to_selector : ℕ → PlainMatcher → Selector → ℕ
added_to_selector len c (selector name cs offset at) = added_to_matchers len c cs

-- what the mapper does that adds them up, and leaves the selector as it is
abbrev pub adds_bytes : MapGives AddedBytes AllocError
adds_bytes a k s (Ok z) b t =
    (t ≡ s) × (b.matcher ≡ a.matcher) × (b.len ≡ a.len) × (b.total ≡ cap_usize (a.total + added_to_selector a.len (plain_matcher_of a.matcher.now) s))
adds_bytes a k s (Err e) b t = Unit {0}
