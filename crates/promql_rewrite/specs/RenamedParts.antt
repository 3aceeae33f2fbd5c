-- The parts of a tree with other names (docs/guide/rewriting.md, "Renaming"): by the law `renamings_change_parts` a renamed
-- tree is the tree with these changes.
use Rattle.std.specs.Prelude.{if◌then◌else◌, Option, map, option_map}
use Rattle.promql_text.specs.Texts.{Text}
use Rattle.promql_label.specs.PlainMatchers.{PlainMatcher, plain_matcher, plain_matchers}
use Rattle.promql_kind.specs.Modifiers.{Cardinality, many_to_one, one_to_many, Clause, including, excluding, Matching, matching}
use Rattle.promql_ast.specs.Selectors.{Selector, selector}
use Rattle.promql_rewrite.specs.Collecting.{is_metric_name}

-- the name before the braces, and the matchers
abbrev pub selector_with : (Option Text → Option Text) → (PlainMatcher → PlainMatcher) → Selector → Selector
selector_with on_name on_matcher (selector name (plain_matchers cs gs) offset at) =
    selector (on_name name) (plain_matchers (map on_matcher cs) (map (map on_matcher) gs)) offset at

-- the value of a matcher that names a metric
abbrev pub metric_with : (Text → Text) → PlainMatcher → PlainMatcher
metric_with f (plain_matcher op name value) =
    plain_matcher op name (if is_metric_name (plain_matcher op name value) then f value else value)

-- the label of a matcher, and those of the lists
abbrev pub label_with : (Text → Text) → PlainMatcher → PlainMatcher
label_with f (plain_matcher op name value) = plain_matcher op (f name) value

abbrev pub clause_with : (Text → Text) → Clause → Clause
clause_with f (including ls) = including (map f ls)
clause_with f (excluding ls) = excluding (map f ls)

abbrev pub cardinality_with : (Text → Text) → Cardinality → Cardinality
cardinality_with f (many_to_one ls) = many_to_one (map f ls)
cardinality_with f (one_to_many ls) = one_to_many (map f ls)
cardinality_with f card = card

abbrev pub matching_with : (Text → Text) → Matching → Matching
matching_with f (matching card clause return_bool values) =
    matching (cardinality_with f card) (option_map (clause_with f) clause) return_bool values
