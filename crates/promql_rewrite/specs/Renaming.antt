-- A metric or a label by another name (docs/guide/rewriting.md, "Renaming"): by the law `renamings_change_parts` a renamed
-- tree has the changes of `RenamedParts`.
use Rattle.std.specs.Prelude.{Bool, false, not, ◌&&◌, if◌then◌else◌, List, [], ◌∷◌, Option, Result, Ok, codes, map, option_map}
use Rattle.std.specs.List.{list_any}
use Rattle.std.specs.Str.{bytes_eq}
use Rattle.promql_text.specs.Texts.{Text}
use Rattle.promql_token.specs.declared.fault.LexFault.{LexFault}
use Rattle.promql_grammar.specs.Symbols.{may_be_name, token_kind}
use Rattle.promql_grammar.specs.SourceTokens.{Token, tokens}
use Rattle.promql_label.specs.Labels.{is_among}
use Rattle.promql_label.specs.PlainMatchers.{PlainMatcher, plain_matcher, PlainMatchers, plain_matchers, every, name_of}
use Rattle.promql_kind.specs.Modifiers.{Cardinality, many_to_one, one_to_many, Clause, including, excluding, Matching, matching}
use Rattle.promql_ast.specs.Mapped.{mapped, maybe_mapped, all_mapped}
use Rattle.promql_ast.specs.Selectors.{Selector, selector}
use Rattle.promql_ast.specs.Tree.{Tree, vector, matrix, MaybeTree, Trees}
use Rattle.promql_rewrite.specs.Collecting.{is_metric_name, nodes_of, own_labels}

-- the old name and the new one, of a metric or of a label
pub data Renaming : Type 0 where
  of_metric of_label : Text → Text → Renaming

-- a name, or the new one for the old one
abbrev pub replaced : Text → Text → Text → Text
replaced from to name = if bytes_eq name from then to else name

-- the name before the braces
abbrev pub renamed_name : Renaming → Option Text → Option Text
renamed_name (of_metric from to) name = option_map (replaced from to) name
renamed_name (of_label from to) name = name

-- the value of a matcher that names a metric, or the label of any matcher
abbrev pub renamed_matcher : Renaming → PlainMatcher → PlainMatcher
renamed_matcher (of_metric from to) (plain_matcher op name value) =
    plain_matcher op name (if is_metric_name (plain_matcher op name value) then replaced from to value else value)
renamed_matcher (of_label from to) (plain_matcher op name value) = plain_matcher op (replaced from to name) value

abbrev pub renamed_labels : Renaming → List Text → List Text
renamed_labels (of_metric from to) ls = ls
renamed_labels (of_label from to) ls = map (replaced from to) ls

module _ (r : Renaming) where
  abbrev pub renamed_matchers : PlainMatchers → PlainMatchers
  renamed_matchers (plain_matchers cs gs) = plain_matchers (map (renamed_matcher r) cs) (map (map (renamed_matcher r)) gs)

  abbrev pub renamed_selector : Selector → Selector
  renamed_selector (selector name cs offset at) = selector (renamed_name r name) (renamed_matchers cs) offset at

  abbrev pub renamed_clause : Clause → Clause
  renamed_clause (including ls) = including (renamed_labels r ls)
  renamed_clause (excluding ls) = excluding (renamed_labels r ls)

  abbrev pub renamed_cardinality : Cardinality → Cardinality
  renamed_cardinality (many_to_one ls) = many_to_one (renamed_labels r ls)
  renamed_cardinality (one_to_many ls) = one_to_many (renamed_labels r ls)
  renamed_cardinality card = card

  abbrev pub renamed_matching : Matching → Matching
  renamed_matching (matching card clause return_bool values) =
      matching (renamed_cardinality card) (option_map renamed_clause clause) return_bool values

  abbrev pub renamed : Tree → Tree
  renamed = mapped renamed_selector (option_map renamed_clause) (option_map renamed_matching)

-- ---- where two labels would become one

-- the labels are two, and a node names both
abbrev pub clashes : Text → Text → Tree → Bool
clashes from to t = not (bytes_eq from to) && list_any (λ n. is_among (own_labels n) from && is_among (own_labels n) to) (nodes_of t)

abbrev pub is_metric_label : Text → Bool
is_metric_label l = bytes_eq l (codes "__name__")

-- ---- what may be the name of a metric

-- there is one token, which is all of the text and may be the name of a metric
abbrev pub is_name_in : Text → Result (List Token) LexFault → Bool
is_name_in text (Ok (t ∷ [])) = bytes_eq t.1 text && may_be_name (token_kind t.0)
is_name_in text _ = false

abbrev pub is_name : Text → Bool
is_name text = is_name_in text (tokens text)

-- ---- of one node, and of parts of trees. Private: nothing rests on believing it

-- the labels of a node's matchers, or after its `by`, `without`, `on`, `ignoring`, `group_left` and `group_right`
abbrev pub listed_labels : Tree → List Text
listed_labels (vector (selector name cs offset at)) = map name_of (every cs)
listed_labels (matrix (selector name cs offset at) range mode) = map name_of (every cs)
listed_labels t = own_labels t

abbrev pub lists_both : Text → Text → Tree → Bool
lists_both from to t = is_among (listed_labels t) from && is_among (listed_labels t) to

abbrev pub listed_clashes : Text → Text → Tree → Bool
listed_clashes from to t = not (bytes_eq from to) && list_any (lists_both from to) (nodes_of t)

module _ (r : Renaming) where
  abbrev pub maybe_renamed : MaybeTree → MaybeTree
  maybe_renamed = maybe_mapped (renamed_selector r) (option_map (renamed_clause r)) (option_map (renamed_matching r))

  abbrev pub all_renamed : Trees → Trees
  all_renamed = all_mapped (renamed_selector r) (option_map (renamed_clause r)) (option_map (renamed_matching r))
