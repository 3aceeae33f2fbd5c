-- What is told of a token that does not fit (docs/reference/grammar.md, "What is expected").
use Rattle.std.specs.Prelude.{◌≡◌, ◌⊎◌, ◌↔◌, ℕ, Bool, true, nat_le, List, [], ◌∷◌, ◌++◌, Contains, filter, map, slice_get, Option, option_map, codes}
use Rattle.std.specs.Borrow.{Bor}
use Rattle.std.specs.Option.{option_map_or}
use Rattle.std.specs.Set.{is_member}
use Rattle.promql_text.specs.Texts.{Text}
use Rattle.promql_token.specs.Lexing.{slice_texts}
use Rattle.promql_grammar.specs.Symbols.{token_kind}
use Rattle.promql_grammar.specs.contracts.token_kinds.TokenKindPartialEq.TheImpl as same
use Rattle.promql_grammar.specs.declared.token_kinds.TokenKind.{TokenKind}
use Rattle.promql_grammar.specs.declared.token_kinds.TokenKind.TheVariants as kind
use Rattle.promql_span.specs.ExpectedTokens.{AreExpected, symbols_before}
use Rattle.promql_span.specs.KindNames.{class_name, name_among, quoted}
use Rattle.promql_span.specs.PlacedTokens.{placed_tokens}
use Rattle.promql_span.specs.declared.unexpected.Unexpected.{Unexpected}

-- the first token that begins at this byte or after it: its kind and its text
abbrev pub found_at : Text → ℕ → Option (TokenKind × Text)
found_at s at = option_map (λ t. (token_kind t.0, t.1)) (slice_get (slice_texts s (filter (λ x. nat_le at x.start) (placed_tokens s))) 0)

-- the names of these kinds and, where the text may end, of the end, and no other
abbrev pub AreNames : List TokenKind → Bool → List Text → Type 0
AreNames kinds ends names =
    (n : Text) → Contains names n
    ↔ (((k : TokenKind) × Contains kinds k × (n ≡ name_among (is_member same.ghosts.eq kinds) k))
    ⊎ ((ends ≡ true) × (n ≡ codes "end of query")))

-- what was found and what was expected at this byte; a hint may be any text
pub record IsUnexpected (s : Text) (at : ℕ) (u : Unexpected) : Type 0 where
  pub found : option_map (λ f. (f.0, f.1.now)) u.found ≡ found_at s at
  pub expected : AreExpected (symbols_before s at) u.expected.kinds.items u.expected.ends
  pub names : AreNames u.expected.kinds.items u.expected.ends (map (λ name. name.now) u.names.items)

-- ---- as a text

-- a token by its text in quotes, which a string has already, after what it is where its kind has several texts
abbrev pub token_name : TokenKind → Text → Text
token_name kind.String text = codes "string " ++ text
token_name k text = option_map_or (λ class. class ++ codes " " ++ quoted text) (class_name k) (quoted text)

abbrev pub found_name : Option (TokenKind × Text) → Text
found_name found = option_map_or (λ f. token_name f.0 f.1) found (codes "end of query")

-- with commas between, and `or` before the last one
abbrev pub either_text : Text → List Text → Text
either_text n [] = n
either_text n (m ∷ []) = n ++ (codes " or " ++ m)
either_text n (m ∷ ns) = n ++ (codes ", " ++ either_text m ns)

abbrev pub expected_text : List Text → Text
expected_text [] = []
expected_text (n ∷ ns) = codes ", expected " ++ either_text n ns

abbrev pub hint_text : Option (Bor Text) → Text
hint_text hint = option_map_or (λ h. codes "; " ++ h.now) hint []

-- what was found, what was expected, and the hint
abbrev pub unexpected_text : Unexpected → Text
unexpected_text u =
    codes "unexpected " ++ (found_name (option_map (λ f. (f.0, f.1.now)) u.found) ++ (expected_text (map (λ name. name.now) u.names.items) ++ hint_text u.hint))
