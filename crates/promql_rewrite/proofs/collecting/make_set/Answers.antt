use Rattle.std.specs.String.{string_eq}
use Rattle.std.proofs.lemmas.List.Filters.{dedup_is}
use Rattle.promql_rewrite.proofs.names.CollectedSets.{set_of_sorted}
use Rattle.promql_rewrite.proofs.collecting.make_set.Goals as goal

pub returns : goal.returns
returns c =
    set_of_sorted c.args.names.now.items c.sort_unstable.new.self.items c.dedup.new.self.items c.sort_unstable.ensures.permutation
    (dedup_is string_eq _ _ c.dedup.ensures.filtered) c.sort_unstable.ensures.sorted
