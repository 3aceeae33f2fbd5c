-- Texts of JSON that are read and written without a value.
use Rattle.std.proofs.Common.{◌≡◌, [], ◌∷◌, ◌++◌, Some, refl, ap, sym, ◌∙◌, append-nil, codes}
use Rattle.std.specs.Prelude.{option_and_then}
use Rattle.json.specs.Json as json
use Rattle.json.specs.Lex.{tokens}
use Rattle.json.specs.Print.{ArePrintable, print_from, quoted}
use Rattle.json.specs.Token.{Token}
use Rattle.json.proofs.Printed.Tokens.{tokens-print}
use Rattle.serde_json.specs.Data.{Data, string, object, no_members, member}
use Rattle.serde_json.specs.Read.{max_depth, of_json, read}
use Rattle.serde_json.specs.Written.{compact_text}
use Rattle.serde_json.proofs.OnLiterals.{serde_json_on_literals}
use Rattle.promql_text.specs.Texts.{Text}

string_tokens : (s : Text) → tokens (quoted s) ≡ Token.string s ∷ []
unfolding print_from ArePrintable
string_tokens s = ap tokens (sym (append-nil (quoted s))) ∙ tokens-print (Token.string s ∷ []) (tt, tt)

pub quoted_is_read : (s : Text) → read (quoted s) ≡ Some (string s)
unfolding json.value
quoted_is_read s = ap (λ ts. option_and_then of_json (option_and_then (λ p. json.if_last p.0 p.1) (json.value max_depth ts))) (string_tokens s)

-- the answer with a value
abbrev pub ok_object : Data → Data
ok_object value = object (member (codes "ok") value no_members)

pub ok_text : (d : Data) → compact_text (ok_object d) ≡ codes "{\"ok\":" ++ (compact_text d ++ codes "}")
unfolding serde_json_on_literals
ok_text d = refl
