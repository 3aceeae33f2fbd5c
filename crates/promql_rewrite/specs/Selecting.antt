-- What a selector selects (docs/guide/rewriting.md, "Selecting").
use Rattle.std.specs.Prelude.{Bool, true, ◌&&◌, List, [], ◌∷◌, Option, codes}
use Rattle.std.specs.List.{list_all, list_any}
use Rattle.std.specs.Option.{option_map_or}
use Rattle.std.specs.Str.{bytes_eq}
use Rattle.promql_text.specs.Texts.{Text}
use Rattle.promql_label.specs.PlainMatchers.{PlainMatcher, PlainMatchers, plain_matchers, holds, name_of}
use Rattle.promql_ast.specs.Selectors.{Selector, selector}

-- the labels of a series: of each name its value, empty where the series has no such label
abbrev pub Series : Type 0
Series = Text → Text

-- the matcher allows the value of its label
abbrev pub allows : PlainMatcher → Series → Bool
allows c series = holds c (series (name_of c))

abbrev pub allow_all : List PlainMatcher → Series → Bool
allow_all cs series = list_all (λ c. allows c series) cs

-- each matcher allows the series, or where there are or-groups, each matcher of a group does, and those beside the groups
abbrev pub matchers_select : PlainMatchers → Series → Bool
matchers_select (plain_matchers cs []) series = allow_all cs series
matchers_select (plain_matchers cs (g ∷ gs)) series = allow_all cs series && list_any (λ g. allow_all g series) (g ∷ gs)

-- the series has the selector's name, if there is one, and its matchers select it
abbrev pub selects : Selector → Series → Bool
selects (selector name cs offset at) series =
    option_map_or (λ n. bytes_eq n (series (codes "__name__"))) name true && matchers_select cs series

-- ---- of a name alone. Private: nothing rests on believing it

abbrev pub has_name : Option Text → Series → Bool
has_name name series = option_map_or (λ n. bytes_eq n (series (codes "__name__"))) name true
