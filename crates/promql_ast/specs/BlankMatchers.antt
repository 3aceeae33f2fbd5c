-- Private: nothing rests on believing it. Which lists of matchers have an empty text.
use Rattle.std.specs.Prelude.{Bool, true, false, [], ◌∷◌}
use Rattle.promql_label.specs.PlainMatchers.{PlainMatchers, plain_matchers}

abbrev pub is_blank : PlainMatchers → Bool
is_blank (plain_matchers [] []) = true
is_blank (plain_matchers (c ∷ cs) []) = false
is_blank (plain_matchers plain ([] ∷ [])) = true
is_blank (plain_matchers plain ((c ∷ cs) ∷ [])) = false
is_blank (plain_matchers plain (g ∷ h ∷ groups)) = false
