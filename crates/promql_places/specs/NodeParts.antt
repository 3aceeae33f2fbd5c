-- Where the parts of nodes are in a text (docs/reference/walks.md, "Parts of nodes").
use Rattle.std.specs.Prelude.{ℕ, ◌+◌, if◌then◌else◌, List, [], ◌∷◌, ◌++◌, length, map}
use Rattle.std.specs.Option.{option_and_then, option_map_or}
use Rattle.promql_text.specs.Texts.{Text}
use Rattle.promql_grammar.specs.Grammar as grammar
use Rattle.promql_grammar.specs.Grammar.{Derivation, yield, yield_arguments}
use Rattle.promql_grammar.specs.GrammarParts.{Labels, no_label, last, next, Clause, Group, Matching, Items, last_item, next_item, Braces, Postfix, range, subquery, offset, mode, yield_names, yield_braces, yield_before, yield_after, yield_group, yield_fills, yield_modifier, yield_item, yield_items, yield_postfix}
use Rattle.promql_syntax.specs.FaultTokens.{Subexpression}
use Rattle.promql_span.specs.TokenSpans.{span_over}
use Rattle.promql_places.specs.NodePlaces.{has_node, tokens_at}
use Rattle.promql_places.specs.declared.parts.Part.{Part}
use Rattle.promql_places.specs.declared.parts.PartKind.{PartKind}
use Rattle.promql_places.specs.declared.parts.PartKind.TheVariants as kind

-- a part: its kind, how many tokens it has, and how many come after it
abbrev pub PartTokens : Type 0
PartTokens = PartKind × ℕ × ℕ

-- ---- the parts of what k tokens come after

-- labels in parentheses
abbrev pub label_parts : PartKind → ℕ → Labels → List PartTokens
label_parts p k no_label = []
label_parts p k (last w text) = (p, 1, 1 + k) ∷ []
label_parts p k (next w text ls) = (p, 1, 1 + (length (yield_names ls) + k)) ∷ label_parts p k ls

-- the clause of an aggregation, which n tokens come after where it is before the arguments
abbrev pub clause_parts : ℕ → ℕ → Clause → List PartTokens
clause_parts n k c = option_map_or (λ clause. label_parts kind.Label (if clause.0 then n else k) clause.1.2) c []

-- the modifier of an operator
abbrev pub group_parts : ℕ → Group → List PartTokens
group_parts k g = option_map_or (label_parts kind.GroupLabel k) (option_and_then (λ group. group.2) g) []

abbrev pub matching_parts : ℕ → Matching → List PartTokens
matching_parts k m = option_map_or (λ c. label_parts kind.Label (length (yield_group c.3) + k) c.2 ++ group_parts k c.3) m []

-- matchers in braces
abbrev pub item_parts : ℕ → Items → List PartTokens
item_parts k (last_item i comma) = (kind.Matcher, length (yield_item i), (if comma then 2 else 1) + k) ∷ []
item_parts k (next_item i s is) = (kind.Matcher, length (yield_item i), 1 + (length (yield_items is) + k)) ∷ item_parts k is

abbrev pub matcher_parts : ℕ → Braces → List PartTokens
matcher_parts k b = option_map_or (item_parts k) b []

abbrev pub shift_kind : Postfix → PartKind
shift_kind (offset text s t) = kind.Offset
shift_kind (mode smoothed text) = kind.Mode
shift_kind p = kind.At

-- those of an expression, but of its nodes below, in the order in which they end; a selector is a part of its own before a range,
-- and a node before that of a subquery
abbrev pub parts : ℕ → Derivation → List PartTokens
parts k (grammar.selector w text b) = (kind.Name, 1, length (option_map_or yield_braces b []) + k) ∷ option_map_or (matcher_parts k) b []
parts k (grammar.nameless b) = matcher_parts k b
parts k (grammar.call w text ds) = (kind.Name, 1, 1 + (length (yield_arguments [] ds) + k)) ∷ []
parts k (grammar.aggregate op text c ds) =
    let inner = 1 + (length (yield_arguments [] ds) + (length (yield_after c) + k)) in
    (kind.Operator, 1, length (yield_before c) + inner) ∷ clause_parts inner k c
parts k (grammar.postfixed d (range t)) =
    let after = length (yield_postfix (range t)) + k in
    (parts after d ++ (kind.Selector, length (yield d), after) ∷ []) ++ (kind.Range, length (yield_postfix (range t)), k) ∷ []
parts k (grammar.postfixed d (subquery t s)) = (kind.Range, length (yield_postfix (subquery t s)), k) ∷ []
parts k (grammar.postfixed d p) = parts (length (yield_postfix p) + k) d ++ (shift_kind p, length (yield_postfix p), k) ∷ []
parts k (grammar.unary op text d) = if has_node op d then (kind.Operator, 1, length (yield d) + k) ∷ [] else parts k d
parts k (grammar.binary op text m l r) =
    let after = length (yield r) + k in
    (kind.Operator, 1, length (yield_modifier m) + after) ∷ matching_parts (length (yield_fills m.2) + after) m.1
parts k d = []

-- ---- their places

-- from the first of its tokens through the last
abbrev pub parts_of : Text → Subexpression → List Part
parts_of s sub = map (λ p. record { kind = p.0; span = span_over s (tokens_at s p.1 p.2) }) (parts sub.0 sub.1)
