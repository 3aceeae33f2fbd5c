use Rattle.std.proofs.Common.{◌≡◌, ◌≤◌, length, map, take}
use Rattle.std.specs.List.{filter}
use Rattle.promql_label.specs.NextText.{is_above, row_texts, text_of, text_of_some}
use Rattle.promql_label.specs.SortedTexts.{sorted_texts}
use Rattle.promql_label.proofs.sorted.find_least.Given as goal

-- the row has the least of those above that were looked at
abbrev pub invariant-search : goal.invariant-search
invariant-search l = record {
  above : l.above ≡ length (filter (is_above (text_of_some l.last)) (map text_of (take l.matcher-index l.matchers)));
  len : length l.row ≡ length l.initial.row;
  within : l.held ≤ length l.row;
  held : row_texts (take l.held l.row) ≡ take (length l.row) (sorted_texts (filter (is_above (text_of_some l.last)) (map text_of (take l.matcher-index l.matchers))));
}
