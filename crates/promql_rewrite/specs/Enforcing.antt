-- A matcher in every selector (docs/guide/rewriting.md, "Enforcing").
use Rattle.std.specs.Prelude.{Bool, false, ◌&&◌, nat_le, if◌then◌else◌, List, [], ◌∷◌, ◌++◌, map, codes}
use Rattle.std.specs.List.{list_any}
use Rattle.std.specs.Str.{bytes_eq}
use Rattle.promql_label.specs.PlainMatchers.{PlainMatcher, PlainMatchers, plain_matchers}
use Rattle.promql_kind.specs.Functions.{Signature, name_of}
use Rattle.promql_ast.specs.Arguments.{count}
use Rattle.promql_ast.specs.Mapped.{mapped, maybe_mapped, all_mapped}
use Rattle.promql_ast.specs.Same.{matcher_eq}
use Rattle.promql_ast.specs.Selectors.{Selector, selector}
use Rattle.promql_ast.specs.Tree.{Tree, call, MaybeTree, Trees}
use Rattle.promql_rewrite.specs.Collecting.{nodes_of}

-- the list with the matcher at its end, unless an equal one is there
abbrev pub with_matcher : PlainMatcher → List PlainMatcher → List PlainMatcher
with_matcher c cs = if list_any (matcher_eq c) cs then cs else cs ++ c ∷ []

-- in each or-group, and beside the groups unless they are all
abbrev pub enforced_matchers : PlainMatcher → PlainMatchers → PlainMatchers
enforced_matchers c (plain_matchers cs []) = plain_matchers (with_matcher c cs) []
enforced_matchers c (plain_matchers cs (g ∷ gs)) = plain_matchers cs (map (with_matcher c) (g ∷ gs))

abbrev pub enforced_selector : PlainMatcher → Selector → Selector
enforced_selector c (selector name cs offset at) = selector name (enforced_matchers c cs) offset at

abbrev pub enforced : PlainMatcher → Tree → Tree
enforced c = mapped (enforced_selector c) (λ m. m) (λ m. m)

-- ---- series that no selector selects

abbrev pub is_info : Signature → Bool
is_info f = bytes_eq (name_of f) (codes "info")

-- a call of `info` without a second argument, which reads series that no selector of the query selects
abbrev pub is_bare_info : Tree → Bool
is_bare_info (call f args) = is_info f && nat_le (count args) 1
is_bare_info _ = false

-- one of the tree's nodes is such a call
abbrev pub has_bare_info : Tree → Bool
has_bare_info t = list_any is_bare_info (nodes_of t)

-- ---- of parts of trees. Private: nothing rests on believing it

abbrev pub maybe_enforced : PlainMatcher → MaybeTree → MaybeTree
maybe_enforced c = maybe_mapped (enforced_selector c) (λ m. m) (λ m. m)

abbrev pub all_enforced : PlainMatcher → Trees → Trees
all_enforced c = all_mapped (enforced_selector c) (λ m. m) (λ m. m)
