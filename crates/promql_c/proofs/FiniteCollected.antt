-- What a query names, as JSON, has no number, and places, parts, tokens and findings have no float.
use Rattle.std.proofs.Common.{◌≡◌, refl, List, [], ◌∷◌, map}
use Rattle.std.specs.Prelude.{false, Option, Some, None}
use Rattle.std.proofs.lemmas.Bool.{or_from}
use Rattle.serde_json.specs.Data.{Data, string}
use Rattle.serde_json.specs.View.{items_of}
use Rattle.serde_json.specs.Written.{has_float, items_have_float}
use Rattle.promql_text.specs.Texts.{Text}
use Rattle.promql_rewrite.specs.Collecting.{Selection, selected}
use Rattle.promql_c.specs.CollectedJson.{collected_value, selector_value}
use Rattle.promql_query.specs.Batch.{texts}
use Rattle.promql_c.specs.FindingsText.{row_value}
use Rattle.promql_query.specs.declared.findings.Finding.{Finding}
use Rattle.promql_c.specs.PartsText.{part_value, parts_value}
use Rattle.promql_c.specs.PlacesText.{span_value}
use Rattle.promql_c.specs.TokensText.{token_value}
use Rattle.promql_places.specs.declared.parts.Part.{Part}
use Rattle.promql_token.specs.declared.lexeme.Lexeme.{Lexeme}
use Rattle.promql_span.specs.declared.span.Span.{Span}
use Rattle.promql_json.specs.JsonParts.{list, or_null}

no_numbers : {A : Type 0} (f : A → Data) → ((a : A) → has_float (f a) ≡ false) → (xs : List A) → items_have_float (items_of (map f xs)) ≡ false
no_numbers f none [] = refl
no_numbers f none (x ∷ xs) = or_from (has_float (f x)) _ (none x) (no_numbers f none xs)

or_null_no_number : {A : Type 0} (f : A → Data) → ((a : A) → has_float (f a) ≡ false) → (o : Option A) → has_float (or_null f o) ≡ false
or_null_no_number f none None = refl
or_null_no_number f none (Some a) = none a

selector_no_number : (s : Selection) → has_float (selector_value s) ≡ false
selector_no_number (selected name matchers range offset at) =
    or_from _ _ (or_null_no_number _ (λ m. refl) at)
    (or_from _ _ (or_null_no_number _ (λ t. refl) name) (or_from _ _ (or_null_no_number _ (λ s. refl) offset)
    (or_from _ _ (or_null_no_number _ (λ n. refl) range) refl)))

texts_no_number : (ts : List Text) → has_float (texts ts) ≡ false
texts_no_number ts = no_numbers string (λ t. refl) ts

pub collected_no_number : (functions labels metrics : List Text) (found : List Selection) → has_float (collected_value functions labels metrics found) ≡ false
collected_no_number functions labels metrics found =
    or_from _ _ (texts_no_number functions) (or_from _ _ (texts_no_number labels) (or_from _ _ (texts_no_number metrics)
    (or_from _ _ (no_numbers selector_value selector_no_number found) refl)))

pub places_no_float : (places : List Span) → has_float (list (map span_value places)) ≡ false
places_no_float places = no_numbers span_value (λ p. refl) places

pub parts_no_float : (lists : List (List Part)) → has_float (list (map parts_value lists)) ≡ false
parts_no_float lists = no_numbers parts_value (λ ps. no_numbers part_value (λ p. refl) ps) lists

pub tokens_no_float : (tokens : List Lexeme) → has_float (list (map token_value tokens)) ≡ false
tokens_no_float tokens = no_numbers token_value (λ x. refl) tokens

pub findings_no_float : (rows : List (Finding × Text)) → has_float (list (map row_value rows)) ≡ false
findings_no_float rows = no_numbers row_value (λ row. refl) rows
