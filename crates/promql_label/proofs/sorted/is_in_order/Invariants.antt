use Rattle.std.proofs.Common.{◌≡◌, None, drop, map}
use Rattle.promql_label.specs.NextText.{is_rising, text_of, text_of_some}
use Rattle.promql_label.proofs.sorted.is_in_order.Given as goal

-- the whole list is in order exactly if what is left is
abbrev pub invariant-pairs : goal.invariant-pairs
invariant-pairs l =
    is_rising (text_of_some l.last) (map text_of (drop l.matcher-index l.matchers)) ≡ is_rising None (map text_of l.matchers)
