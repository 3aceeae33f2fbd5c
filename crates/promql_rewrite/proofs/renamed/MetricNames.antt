-- Which texts may be the name of a metric.
use Rattle.std.proofs.Common.{◌≡◌, ◌∙◌, Bool, true, false, ◌&&◌, List, [], ◌∷◌, refl, ap}
use Rattle.std.specs.Prelude.{◌↔◌, Result, Ok, Err}
use Rattle.std.specs.Str.{bytes_eq}
use Rattle.std.proofs.lemmas.Slice.Eq.{bytes_eq-Decides}
use Rattle.promql_text.specs.Texts.{Text}
use Rattle.promql_token.specs.declared.fault.LexFault.{LexFault}
use Rattle.promql_grammar.specs.SourceTokens.{Token, tokens}
use Rattle.promql_grammar.specs.Symbols.{may_be_name, token_kind}
use Rattle.promql_rewrite.specs.Renaming.{is_name, is_name_in}

both : (a b : Bool) → (a && b) ≡ true → (a ≡ true) × (b ≡ true)
both true b e = (refl, e)
both false b e = cc

one_name : (text : Text) (r : Result (List Token) LexFault) → is_name_in text r ≡ true
    → (t : Token) × (r ≡ Ok (t ∷ [])) × (t.1 ≡ text) × (may_be_name (token_kind t.0) ≡ true)
one_name text (Ok []) e = cc
one_name text (Ok (t ∷ [])) e = let parts = both (bytes_eq t.1 text) (may_be_name (token_kind t.0)) e in
    (t, refl, (bytes_eq-Decides t.1 text).0 parts.0, parts.1)
one_name text (Ok (t ∷ u ∷ ts)) e = cc
one_name text (Err f) e = cc

names_one : (text : Text) (r : Result (List Token) LexFault)
    → ((t : Token) × (r ≡ Ok (t ∷ [])) × (t.1 ≡ text) × (may_be_name (token_kind t.0) ≡ true)) → is_name_in text r ≡ true
names_one text r h = ap (is_name_in text) h.1 ∙ (λ i. (bytes_eq-Decides h.0.1 text).1 h.2 i && h.3 i)

pub is_name_is : (text : Text)
    → (is_name text ≡ true) ↔ ((t : Token) × (tokens text ≡ Ok (t ∷ [])) × (t.1 ≡ text) × (may_be_name (token_kind t.0) ≡ true))
is_name_is text = (one_name text (tokens text), names_one text (tokens text))
