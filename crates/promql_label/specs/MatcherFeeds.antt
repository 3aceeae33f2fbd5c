-- What labels, matchers and their lists feed a hasher (docs/reference/matchers.md, "Hashes").
use Rattle.std.specs.Prelude.{List, ◌++◌, pos}
use Rattle.std.specs.Hash.{HashWrites, isize, slice, str}
use Rattle.promql_text.specs.Texts.{Text}
use Rattle.promql_label.specs.PlainMatchers.{Operator, equal, not_equal, matches, matches_not, PlainMatcher, plain_matcher, PlainMatchers, plain_matchers}

abbrev pub labels_feed : List Text → HashWrites
labels_feed = slice str

-- the index of the kind, and the built text of a pattern
abbrev pub operator_feed : Operator → HashWrites
operator_feed equal = isize (pos 0)
operator_feed not_equal = isize (pos 1)
operator_feed (matches w) = isize (pos 2) ++ str w
operator_feed (matches_not w) = isize (pos 3) ++ str w

abbrev pub matcher_feed : PlainMatcher → HashWrites
matcher_feed (plain_matcher op name value) = operator_feed op ++ (str name ++ str value)

abbrev pub matchers_feed : PlainMatchers → HashWrites
matchers_feed (plain_matchers plain groups) = slice matcher_feed plain ++ slice (slice matcher_feed) groups
