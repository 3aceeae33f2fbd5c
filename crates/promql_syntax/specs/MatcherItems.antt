-- How the matchers of a selector are built. Private: nothing rests on believing it.
use Rattle.std.specs.Prelude.{◌≡◌, List, [], Result, Ok, Err}
use Rattle.promql_grammar.specs.GrammarParts as part
use Rattle.promql_label.specs.PlainMatchers.{PlainMatchers}
use Rattle.promql_syntax.specs.Asking.{gives, ◌giving◌, Asked, AreAllowed, Ends}
use Rattle.promql_syntax.specs.BuildErrors.{BuildError}
use Rattle.promql_syntax.specs.PartBuilding.{item_value, items_value, append_matcher}

-- building one more matcher of the list ends like this; after an error nothing is built
abbrev pub ItemEnds : Result PlainMatchers BuildError → part.Separator → part.Item → List Asked → Result PlainMatchers BuildError → Type 0
ItemEnds (Ok cs) s i answers after = Ends (item_value i giving λ c. gives (append_matcher s cs c)) answers after
ItemEnds (Err f) s i answers after = (answers ≡ []) × (after ≡ Err f)

abbrev pub ItemsEnd : Result PlainMatchers BuildError → part.Separator → part.Items → List Asked → Result PlainMatchers BuildError → Type 0
ItemsEnd (Ok cs) s is answers after = Ends (items_value cs s is) answers after
ItemsEnd (Err f) s is answers after = (answers ≡ []) × (after ≡ Err f)

pub record AddsItem (before : Result PlainMatchers BuildError) (s : part.Separator) (i : part.Item) (after : Result PlainMatchers BuildError) : Type 0 where
  pub answers : List Asked
  pub allowed : AreAllowed answers
  pub ends : ItemEnds before s i answers after
