-- Private: the members of a selector's form in byte order of their names. No contract of a public function speaks of it.
use Rattle.std.specs.Prelude.{ℕ, List, [], ◌∷◌, map, Option, codes}
use Rattle.serde_json.specs.Data.{Data, string as text, Members, no_members, member}
use Rattle.promql_text.specs.Texts.{Text}
use Rattle.promql_label.specs.PlainMatchers.{PlainMatcher, plain_matchers}
use Rattle.promql_ast.specs.Selectors.{Selector, selector}
use Rattle.promql_ast.specs.Shifts.{Moment, Shift}
use Rattle.promql_ast.specs.declared.range_mode.RangeMode.{RangeMode}
use Rattle.promql_ast.specs.declared.range_mode.RangeMode.TheVariants.{Plain, Smoothed, Anchored}
use Rattle.promql_json.specs.JsonParts.{list, or_null, whole, group_json, millis, shift_millis, start_or_end, timestamp}

abbrev pub groups_members : List (List PlainMatcher) → Members → Members
groups_members [] ms = ms
groups_members (g ∷ gs) ms = member (codes "or_matchers") (list (map group_json (g ∷ gs))) ms

abbrev pub mode_members : RangeMode → Members → Members
mode_members Plain ms = ms
mode_members Smoothed ms = member (codes "rangeMode") (text (codes "smoothed")) ms
mode_members Anchored ms = member (codes "rangeMode") (text (codes "anchored")) ms

-- the members before a range or a time
abbrev pub begin_members : Selector → Members → Members
begin_members (selector name (plain_matchers plain groups) offset at) ms =
    member (codes "matchers") (group_json plain)
    (member (codes "name") (or_null text name)
    (member (codes "offset") (whole (shift_millis offset)) (groups_members groups ms)))

-- the members from the time on
abbrev pub end_members : Option Moment → Text → Members
end_members at type_name =
    member (codes "startOrEnd") (start_or_end at)
    (member (codes "timestamp") (timestamp at)
    (member (codes "type") (text type_name) no_members))

-- the members of other nodes, by their values
abbrev pub aggregate_members : Data → Data → Data → Data → Data → Members
aggregate_members expr grouping op param without =
    member (codes "expr") expr
    (member (codes "grouping") grouping
    (member (codes "op") op
    (member (codes "param") param
    (member (codes "type") (text (codes "aggregation"))
    (member (codes "without") without no_members)))))

abbrev pub binary_members : Data → Data → Data → Data → Data → Members
binary_members is_bool lhs matching op rhs =
    member (codes "bool") is_bool
    (member (codes "lhs") lhs
    (member (codes "matching") matching
    (member (codes "op") op
    (member (codes "rhs") rhs
    (member (codes "type") (text (codes "binaryExpr")) no_members)))))

abbrev pub subquery_members : Data → Option Shift → Option Moment → ℕ → Option ℕ → Members
subquery_members expr offset at range step =
    member (codes "expr") expr
    (member (codes "offset") (whole (shift_millis offset))
    (member (codes "range") (whole (millis range))
    (member (codes "startOrEnd") (start_or_end at)
    (member (codes "step") (or_null (λ n. whole (millis n)) step)
    (member (codes "timestamp") (timestamp at)
    (member (codes "type") (text (codes "subquery")) no_members))))))

abbrev pub modifier_members : Data → Data → Data → Data → Data → Members
modifier_members card values include labels on =
    member (codes "card") card
    (member (codes "fillValues") values
    (member (codes "include") include
    (member (codes "labels") labels
    (member (codes "on") on no_members))))

abbrev pub function_members : Data → Data → Data → Data → Data → Members
function_members types experimental name gives variadic =
    member (codes "argTypes") types
    (member (codes "experimental") experimental
    (member (codes "name") name
    (member (codes "returnType") gives
    (member (codes "variadic") variadic no_members))))
