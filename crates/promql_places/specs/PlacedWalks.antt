-- What a visitor is given along a walk (docs/reference/walks.md, "Visitors with places").
use Rattle.std.specs.Prelude.{ℕ, ◌+◌, List, [], Vec, length, nat_lt, slice_get, slice_index_or, if◌then◌else◌}
use Rattle.std.specs.Global.{Global}
use Rattle.std.specs.Option.{option_map_or}
use Rattle.promql_span.specs.declared.span.Span.{Span}
use Rattle.promql_places.specs.declared.parts.Part.{Part}

-- the place of the node with this number, and its parts
abbrev pub place_at : List Span → ℕ → Span
place_at places n = slice_index_or places n (record { start = 0; end = 0 })

abbrev pub parts_at : List (Vec Part Global) → ℕ → List Part
parts_at lists n = option_map_or (λ ps. ps.items) (slice_get lists n) []

-- one more, as long as there are places
abbrev pub next_after : List Span → ℕ → ℕ
next_after places n = if nat_lt n (length places) then n + 1 else n
