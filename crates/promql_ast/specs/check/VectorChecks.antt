-- The checks of a selector (docs/reference/tree.md, "Selectors").
use Rattle.std.specs.Prelude.{Option, Some, None, option_map, codes}
use Rattle.promql_text.specs.Texts.{Text}
use Rattle.promql_label.specs.PlainMatchers.{PlainMatchers, all_match_empty, found_value}
use Rattle.promql_ast.specs.Checks.{when}
use Rattle.promql_ast.specs.Faults.{Fault, name_twice, empty_selector}
use Rattle.promql_ast.specs.Selectors.{Selector, selector}

-- "Names": not both before the braces and in them; without a name, one matcher at least does not match the empty text
abbrev pub name_fault : Option Text → PlainMatchers → Option Fault
name_fault (Some name) matchers = option_map (name_twice name) (found_value matchers (codes "__name__"))
name_fault None matchers = when (all_match_empty matchers) empty_selector

abbrev pub selector_fault : Selector → Option Fault
selector_fault (selector name matchers offset at) = name_fault name matchers
