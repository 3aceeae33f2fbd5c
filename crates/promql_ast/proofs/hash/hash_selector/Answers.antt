use Rattle.std.proofs.Common.{◌++◌, option_map, refl, string_bytes}
use Rattle.std.specs.Hash.{fed_along, fed_then, option, str}
use Rattle.promql_label.specs.MatcherFeeds.{matchers_feed}
use Rattle.promql_label.specs.MatcherViews.{plain_matchers_of}
use Rattle.promql_label.proofs.equality.FedLists.{option_fed}
use Rattle.promql_label.proofs.equality.FedMatchers.{matchers_fed}
use Rattle.promql_ast.specs.Shifts.{moment_of, shift_of}
use Rattle.promql_ast.specs.TreeFeed.{moment_feed, shift_feed}
use Rattle.promql_ast.proofs.hash.hash_selector.Goals as goal

pub returns : goal.returns
returns g c =
    let W = g.H.Hasher.write in
    let v = c.args.selector.now in
    let s = c.hash.new.state in
    let t = c.hash-2.new.state in
    let u = c.hash_offset.new.state in
    let end = c.hash_at.new.state in
    let matchers = matchers_feed (plain_matchers_of v.matchers) in
    let offset = option shift_feed (option_map shift_of v.offset) in
    let at = option moment_feed (option_map moment_of v.at) in
    fed_then W c.args.state.now s end (option str (option_map string_bytes v.name)) (matchers ++ (offset ++ at))
    (fed_along W c.args.state.now s (option_fed string_bytes str (λ w. str (string_bytes w)) (λ w. refl) v.name) c.hash.ensures)
    (fed_then W s t end matchers (offset ++ at) (fed_along W s t (matchers_fed v.matchers) c.hash-2.ensures)
    (fed_then W t u end offset at c.hash_offset.ensures c.hash_at.ensures))
