-- All that a query reads at a time lies at or before the last millisecond that it reads.
use Rattle.std.proofs.Common.{◌≡◌, ◌∙◌, ap, Bool, true, false, Some}
use Rattle.std.specs.Prelude.{ℤ, int_le}
use Rattle.std.specs.Option.{option_map_or}
use Rattle.promql_ast.specs.Tree.{Tree}
use Rattle.promql_rewrite.specs.Selecting.{Series, selects}
use Rattle.promql_when.specs.Last.{last_of}
use Rattle.promql_when.specs.Reads.{is_read, reads, windows}
use Rattle.promql_when.specs.Windows.{instant}
use Rattle.promql_when.specs.declared.times.Times.{Times}
use Rattle.promql_when.proofs.LastReads.{UpTo, up_to_last}
use Rattle.promql_when.proofs.Orders.{le_same, of_le}
use Rattle.promql_when.proofs.WithinWindows.{inside_windows}

module _ (ts : Times) (t : Tree) (x : ℤ) where
  abbrev pub is_up_to_last : Series → ℤ → Bool
  is_up_to_last labels y = option_map_or (λ last. int_le y last) (last_of (windows ts t (Some (instant x)))) false

  early : (labels : Series) (y : ℤ) → UpTo y (last_of (windows ts t (Some (instant x)))) → is_up_to_last labels y ≡ true
  early labels y (last, is, before) = ap (λ l. option_map_or (λ last. int_le y last) l false) is ∙ of_le y last before

  pub known_up_to_last : (labels : Series) (y : ℤ) → is_read (λ s. selects s labels) y (reads ts t x) ≡ true → is_up_to_last labels y ≡ true
  known_up_to_last labels y read =
      early labels y (up_to_last (λ s. selects s labels) y (windows ts t (Some (instant x)))
      (inside_windows (λ s. selects s labels) y ts t (instant x) x (le_same x) (le_same x) read))
