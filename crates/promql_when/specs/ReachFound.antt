-- What contracts see of how far a query reads.
use Rattle.std.specs.Prelude.{List, map}
use Rattle.std.specs.Option.{option_map_or}
use Rattle.promql_ast.specs.Selectors.{Selector}
use Rattle.promql_ast.specs.View.{selector_of}
use Rattle.promql_when.specs.Reads.{target_info}
use Rattle.promql_when.specs.declared.reach.Reach.{Reach}
use Rattle.promql_when.specs.declared.reach.SelectorReach.{SelectorReach}

abbrev pub reaches_of : List SelectorReach → List (Selector × Reach)
reaches_of = map (λ s. (option_map_or (λ v. selector_of v.now) s.selector target_info, s.reach))
