-- Stores of series (docs/guide/meaning.md, "A store").
use Rattle.std.specs.Prelude.{ℕ, ℤ, Bool, List, [], ◌∷◌, filter}
use Rattle.promql_label.specs.PlainMatchers.{PlainMatcher}
use Rattle.promql_ast.specs.Selectors.{Selector}
use Rattle.promql_ast.specs.Tree.{Tree}
use Rattle.promql_rewrite.specs.Selecting.{Series, allows, selects}
use Rattle.promql_when.specs.MayRead.{may_read}

-- a sample of a series: its time in milliseconds, and a number that stands for its value
pub record Sample : Type 0 where
  pub time : ℤ
  pub value : ℕ

-- a series of a store
pub record Stored : Type 0 where
  pub labels : Series
  pub samples : List Sample

abbrev pub Store : Type 0
Store = List Stored

-- the series that a selector selects, in the store's order
abbrev pub read : Selector → Store → Store
read s store = filter (λ x. selects s x.labels) store

-- those that a matcher allows
abbrev pub kept : PlainMatcher → Store → Store
kept c store = filter (λ x. allows c x.labels) store

-- those that a query may read
abbrev pub readable : Tree → Store → Store
readable t store = filter (λ x. may_read x.labels t) store

-- with a series, if it has a sample
abbrev pub with_series : Series → List Sample → Store → Store
with_series labels [] store = store
with_series labels (s ∷ ss) store = record { labels = labels; samples = s ∷ ss } ∷ store

-- the samples of which this holds, by the labels of the series and the time
abbrev pub only : (Series → ℤ → Bool) → Store → Store
only holds [] = []
only holds (x ∷ store) = with_series x.labels (filter (λ s. holds x.labels s.time) x.samples) (only holds store)

-- one sample of one series
abbrev pub one_sample : Series → ℤ → ℕ → Store
one_sample labels time value = record { labels = labels; samples = record { time = time; value = value } ∷ [] } ∷ []
