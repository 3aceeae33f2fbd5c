use Rattle.std.proofs.Common.{refl}
use Rattle.promql_query.specs.declared.selector_places.Walk.{Walk}
use Rattle.promql_query.proofs.SelectorWalks.{info_pushed}
use Rattle.promql_query.proofs.selector_places.Walk.push_bare_info.Goals as goal

pub returns : goal.returns
returns c =
    let before = c.args.self.now in
    let after : Walk = record before { found = c.push.new.self } in
    info_pushed before after refl c.in_ok-push.ensures.items
