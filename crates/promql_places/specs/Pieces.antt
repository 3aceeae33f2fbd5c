-- Parts by their counts, and the kinds of postfixes. Private: nothing rests on believing it.
use Rattle.std.specs.Prelude.{ℕ}
use Rattle.promql_grammar.specs.GrammarParts.{Postfix, range, subquery, offset, mode}
use Rattle.promql_places.specs.NodeParts.{PartTokens}
use Rattle.promql_places.specs.declared.parts.PartKind.{PartKind}
use Rattle.promql_places.specs.declared.parts.PartKind.TheVariants as kind

abbrev pub piece : PartKind → ℕ → ℕ → PartTokens
piece p n k = (p, n, k)

abbrev pub postfix_kind : Postfix → PartKind
postfix_kind (range t) = kind.Range
postfix_kind (subquery t s) = kind.Range
postfix_kind (offset text s t) = kind.Offset
postfix_kind (mode smoothed text) = kind.Mode
postfix_kind p = kind.At
