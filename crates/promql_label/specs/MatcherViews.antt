-- What contracts see of matchers and their lists.
use Rattle.std.specs.Prelude.{map, string_bytes}
use Rattle.promql_label.specs.declared.matcher.MatchOp.{MatchOp}
use Rattle.promql_label.specs.declared.matcher.MatchOp.TheVariants.{Equal, NotEqual, Re, NotRe}
use Rattle.promql_label.specs.declared.matcher.Matcher.{Matcher}
use Rattle.promql_label.specs.declared.matchers.Matchers.{Matchers}
use Rattle.promql_label.specs.PlainMatchers.{Operator, equal, not_equal, matches, matches_not, PlainMatcher, plain_matcher, PlainMatchers, plain_matchers}

abbrev pub operator_of : MatchOp → Operator
operator_of Equal = equal
operator_of NotEqual = not_equal
operator_of (Re p) = matches p
operator_of (NotRe p) = matches_not p

abbrev pub plain_matcher_of : Matcher → PlainMatcher
plain_matcher_of m = plain_matcher (operator_of m.op) (string_bytes m.name) (string_bytes m.value)

abbrev pub plain_matchers_of : Matchers → PlainMatchers
plain_matchers_of m =
    plain_matchers (map plain_matcher_of m.matchers.items) (map (λ g. map plain_matcher_of g.items) m.or_matchers.items)
