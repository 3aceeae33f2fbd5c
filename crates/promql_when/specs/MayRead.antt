-- Which series a query may read (docs/reference/when.md, "Series that a query may read").
use Rattle.std.specs.Prelude.{Bool, true, false, ◌&&◌, ◌||◌, if◌then◌else◌, List, [], ◌∷◌, bytes_eq, codes}
use Rattle.std.specs.Option.{option_map_or}
use Rattle.promql_ast.specs.Fold.{all_within, folded, maybe_within}
use Rattle.promql_ast.specs.Selectors.{Selector, selector}
use Rattle.promql_ast.specs.Tree.{Tree, MaybeTree, Trees, vector, matrix, call}
use Rattle.promql_rewrite.specs.Selecting.{Series, selects}
use Rattle.promql_when.specs.Reads.{is_bare_info, target_info}
use Rattle.promql_when.specs.declared.series.SeriesLabel.{SeriesLabel}

-- of two labels with one name the first counts
abbrev pub series_of : List SeriesLabel → Series
series_of [] name = []
series_of (l ∷ ls) name = if bytes_eq l.name.now name then l.value.now else series_of ls name

-- some selector selects the series; a call of `info` without a second argument reads `target_info`
abbrev pub may_read_at : Series → Tree → Bool → Bool
may_read_at series (vector s) below = selects s series
may_read_at series (matrix s range mode) below = selects s series
may_read_at series (call f args) below = below || (is_bare_info f args && selects target_info series)
may_read_at series t below = below

abbrev pub may_read : Series → Tree → Bool
may_read series = folded false ◌||◌ (may_read_at series)

-- ---- of parts of trees and of selectors. Private: nothing rests on believing it

abbrev pub maybe_may_read : Series → MaybeTree → Bool
maybe_may_read series = maybe_within false ◌||◌ (may_read_at series)

abbrev pub any_may_read : Series → Trees → Bool
any_may_read series = all_within false ◌||◌ (may_read_at series)

abbrev pub has_name : Selector → Series → Bool
has_name (selector name cs offset at) series = option_map_or (λ n. bytes_eq n (series (codes "__name__"))) name true
