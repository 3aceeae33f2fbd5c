-- What a walk for the places of selectors leaves. Private: nothing rests on believing it.
use Rattle.std.specs.Prelude.{◌≡◌, List, ◌++◌, Option}
use Rattle.promql_span.specs.declared.span.Span.{Span}
use Rattle.promql_query.specs.SelectorPlaces.{Step, selector_places}
use Rattle.promql_query.specs.declared.selector_places.Walk.{Walk}

-- the places that were found, and those of these steps
abbrev pub with_places : List Step → Walk → List (Option Span)
with_places more w = w.found.items ++ selector_places more w.left.now

-- these steps were taken, whatever comes after them
abbrev pub Takes : List Step → Walk → Walk → Type 0
Takes taken before after = (more : List Step) → with_places more after ≡ with_places (taken ++ more) before
