-- What an engine can see of a query and a store at a time (docs/guide/meaning.md, "At a time").
use Rattle.std.specs.Prelude.{ℕ, ℤ, false, List, [], ◌∷◌, map, Some, None, int_le}
use Rattle.std.specs.Option.{option_map_or}
use Rattle.promql_text.specs.Texts.{Text}
use Rattle.promql_kind.specs.Functions.{Signature}
use Rattle.promql_kind.specs.Modifiers.{Clause, Matching}
use Rattle.promql_kind.specs.declared.value.ValueType.{ValueType}
use Rattle.promql_ast.specs.Tree.{Tree}
use Rattle.promql_ast.specs.declared.range_mode.RangeMode.{RangeMode}
use Rattle.promql_when.specs.Last.{last_of}
use Rattle.promql_when.specs.Reads.{is_read, lies_within, reads, windows}
use Rattle.promql_when.specs.Windows.{asked, base, instant, is_within, matrix_window, multiples_in, step_of, subquery_window, vector_window}
use Rattle.promql_when.specs.declared.times.Times.{Times}
use Rattle.promql_when.specs.declared.times.Window.{Window}
use Rattle.promql_rewrite.specs.Selecting.{selects}
use Rattle.promql_meaning.specs.Seen as whole
use Rattle.promql_meaning.specs.Seen.{Beside, Seen, Seens, seen}
use Rattle.promql_meaning.specs.Stores.{Store, only}

mutual
  pub data SeenAt : Type 0 where
    aggregated : ℕ → SeenAt → SeenAts → Clause → SeenAt
    negated : SeenAt → SeenAt
    operated : ℕ → SeenAt → SeenAt → Matching → SeenAt
    -- up to a time, over a range, what is seen at each of these times
    stepped : ℤ → ℕ → List ℤ → SeenAts → SeenAt
    literal : Tree → SeenAt
    instants : Store → SeenAt
    -- up to a time, over a range
    ranges : ℤ → ℕ → RangeMode → Store → SeenAt
    called : Signature → Beside → SeenAts → SeenAt
    extended : Text → ValueType → SeenAts → SeenAt

  pub data SeenAts : Type 0 where
    none_seen : SeenAts
    first_seen : SeenAt → SeenAts → SeenAts

abbrev pub listed : List SeenAt → SeenAts
listed [] = none_seen
listed (e ∷ es) = first_seen e (listed es)

-- the samples in a window
abbrev pub in_window : Window → Store → Store
in_window w = only (λ labels y. is_within w y)

abbrev pub beside_at : Times → ℤ → Beside → Beside
beside_at ts x (whole.series store) = whole.series (in_window (vector_window ts None None (instant x)) store)
beside_at ts x b = b

-- of what is seen the samples that are read at a time
abbrev mutual
  pub at_time : Times → Seen → ℤ → SeenAt
  at_time ts (whole.aggregated op e p clause) x = aggregated op (at_time ts e x) (all_at_time ts p x) clause
  at_time ts (whole.negated e) x = negated (at_time ts e x)
  at_time ts (whole.operated op l r j) x = operated op (at_time ts l x) (at_time ts r x) j
  at_time ts (whole.stepped e offset at range step) x =
      let times = multiples_in (step_of ts step) (subquery_window ts offset at range (instant x)) in
      stepped (base ts offset at x) range times (listed (map (at_time ts e) times))
  at_time ts (whole.literal t) x = literal t
  at_time ts (whole.instants store offset at) x = instants (in_window (vector_window ts offset at (instant x)) store)
  at_time ts (whole.ranges store offset at range mode) x =
      ranges (base ts offset at x) range mode (in_window (matrix_window ts offset at range mode (instant x)) store)
  at_time ts (whole.called f b es) x = called f (beside_at ts x b) (all_at_time ts es x)
  at_time ts (whole.extended name gives es) x = extended name gives (all_at_time ts es x)

  pub all_at_time : Times → Seens → ℤ → SeenAts
  all_at_time ts whole.none_seen x = none_seen
  all_at_time ts (whole.first_seen e es) x = first_seen (at_time ts e x) (all_at_time ts es x)

abbrev pub seen_at : Times → Store → Tree → ℤ → SeenAt
seen_at ts store t = at_time ts (seen store t)

-- ---- which samples of a store a query reads

-- at a time
abbrev pub read_at : Times → Tree → ℤ → Store → Store
read_at ts t x = only (λ labels y. is_read (λ s. selects s labels) y (reads ts t x))

-- in its windows
abbrev pub in_windows : Times → Tree → Store → Store
in_windows ts t = only (λ labels y. lies_within (λ s. selects s labels) y (windows ts t (asked ts)))

-- up to the last time that it reads at a time
abbrev pub up_to_last : Times → Tree → ℤ → Store → Store
up_to_last ts t x = only (λ labels y. option_map_or (λ last. int_le y last) (last_of (windows ts t (Some (instant x)))) false)
