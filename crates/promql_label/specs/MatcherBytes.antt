-- What an iterator over a printed matcher has left (private: nothing rests on believing it).
use Rattle.std.specs.Prelude.{◌++◌, string_bytes}
use Rattle.std.specs.Str.Iter.{bytes_rest}
use Rattle.promql_label.specs.declared.matcher.Matcher.{Matcher}
use Rattle.promql_label.specs.declared.sorted.MatcherBytes.{MatcherBytes}
use Rattle.promql_label.specs.declared.sorted.NameBytes.{NameBytes}
use Rattle.promql_label.specs.declared.sorted.NameBytes.TheVariants.{Bare, Quoted}
use Rattle.promql_label.specs.declared.sorted.TestBytes.{TestBytes}
use Rattle.promql_label.specs.MatcherViews.{operator_of}
use Rattle.promql_label.specs.PlainMatchers.{operator_text}
use Rattle.promql_text.specs.QuotedBytes.{bytes_left}
use Rattle.promql_text.specs.Quoting.{quoted_text}
use Rattle.promql_text.specs.Texts.{Text}

-- what prints after a matcher's name
abbrev pub test_text : Matcher → Text
test_text m = operator_text (operator_of m.op) ++ quoted_text (string_bytes m.value)

abbrev pub left_of_name : NameBytes → Text
left_of_name (Bare bytes) = bytes_rest bytes
left_of_name (Quoted bytes) = bytes_left bytes

abbrev pub left_of_test : TestBytes → Text
left_of_test s = bytes_rest s.op ++ bytes_left s.value

abbrev pub left_of : MatcherBytes → Text
left_of s = left_of_name s.name ++ left_of_test s.test
