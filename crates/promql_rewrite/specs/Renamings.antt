-- What contracts see of a renaming, and whether tokens are left (private: nothing rests on believing it).
use Rattle.std.specs.Prelude.{ℕ, Bool, true, false, ◌&&◌, List, [], ◌∷◌}
use Rattle.std.specs.Str.{bytes_eq}
use Rattle.promql_text.specs.Texts.{Text}
use Rattle.promql_grammar.specs.Symbols.{may_be_name, token_kind}
use Rattle.promql_grammar.specs.SourceTokens.{Token}
use Rattle.promql_rewrite.specs.Renaming.{Renaming, of_label, of_metric}
use Rattle.promql_rewrite.specs.declared.renaming.Named.{Named}
use Rattle.promql_rewrite.specs.declared.renaming.Named.TheVariants.{Metric, Label}
use Rattle.promql_rewrite.specs.declared.renaming.Renaming as code

abbrev pub named_renaming : Named → Text → Text → Renaming
named_renaming Metric from to = of_metric from to
named_renaming Label from to = of_label from to

abbrev pub renaming_of : code.Renaming → Renaming
renaming_of r = named_renaming r.named r.from.now r.to.now

abbrev pub is_nothing : List Token → Bool
is_nothing [] = true
is_nothing (t ∷ ts) = false

-- the token is all of the text, and may be the name of a metric
abbrev pub is_name_token : ℕ → Text → Text → Bool
is_name_token id word text = bytes_eq word text && may_be_name (token_kind id)

-- there is this token, and no other
abbrev pub is_name_of : Text → List Token → Bool
is_name_of text [] = false
is_name_of text (t ∷ []) = is_name_token t.0 t.1 text
is_name_of text (t ∷ u ∷ ts) = false
