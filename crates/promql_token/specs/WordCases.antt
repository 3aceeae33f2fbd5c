-- How the code compares a word with a keyword. Private: nothing rests on believing it.
use Rattle.std.specs.Prelude.{Bool}
use Rattle.std.specs.Str.{bytes_eq, str_eq_ignore_ascii_case}
use Rattle.promql_text.specs.Texts.{Text}
use Rattle.promql_token.specs.declared.ids.Case.{Case}
use Rattle.promql_token.specs.declared.ids.Case.TheVariants as case

abbrev pub same_word : Case → Text → Text → Bool
same_word case.Lower = bytes_eq
same_word case.Any = str_eq_ignore_ascii_case
