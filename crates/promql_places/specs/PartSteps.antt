-- What is taken of tokens for the parts of a node, by their kinds: where the parts are, and what is left. Private: nothing rests on
-- believing it.
use Rattle.std.specs.Prelude.{◌≡◌, ℕ, Bool, if◌then◌else◌, List, [], ◌∷◌, ◌++◌, drop, length, map}
use Rattle.promql_text.specs.Texts.{Text}
use Rattle.promql_grammar.specs.declared.token_kinds.TokenKind.{TokenKind}
use Rattle.promql_grammar.specs.declared.token_kinds.TokenKind.TheVariants as kind
use Rattle.promql_places.specs.CursorTokens.{IsOver, kinds_left, span_in}
use Rattle.promql_places.specs.Skipping.{front, is_bound_word, is_closing, is_group_word, is_grouping_word, is_left_brace, is_left_paren, is_matching_word, is_mode, is_separator, is_shift_word, is_sign, skip_brackets, skip_fill, skip_flag, skip_item, skip_pluses, skip_separator, skip_shift, skip_signs}
use Rattle.promql_places.specs.declared.parts.Part.{Part}
use Rattle.promql_places.specs.declared.parts.PartKind.{PartKind}
use Rattle.promql_places.specs.declared.parts.PartKind.TheVariants as part
use Rattle.promql_places.specs.declared.token_cursor.TokenCursor.{TokenCursor}

-- a part, by how many tokens are left at its start and after its end
abbrev pub PartSpan : Type 0
PartSpan = PartKind × (ℕ × ℕ)

-- parts, and the kinds of the tokens after them
abbrev pub Taken : Type 0
Taken = List PartSpan × List TokenKind

abbrev pub Step : Type 0
Step = List TokenKind → Taken

abbrev pub also : PartSpan → Taken → Taken
also p r = (p ∷ r.0, r.1)

abbrev pub and_then : Taken → Step → Taken
and_then r step = (r.0 ++ (step r.1).0, (step r.1).1)

abbrev pub if_so : Bool → Step → Step
if_so b step ks = if b then step ks else ([], ks)

-- what is skipped, as a part
abbrev pub whole : PartKind → (List TokenKind → List TokenKind) → Step
whole p skip ks = ((p, (length ks, length (skip ks))) ∷ [], skip ks)

abbrev pub word : PartKind → Step
word p = whole p (drop 1)

-- ---- lists in brackets

abbrev mutual
  -- before a part of a list, or the bracket that closes it
  pub items : PartKind → Step
  items p [] = ([], [])
  items p (k ∷ ks) = if is_closing k then ([], ks) else in_item p (length (k ∷ ks)) ks

  -- in a part that began where so many tokens were left
  pub in_item : PartKind → ℕ → Step
  in_item p n [] = ((p, (n, 0)) ∷ [], [])
  in_item p n (k ∷ ks) =
      if is_closing k then ((p, (n, length (k ∷ ks))) ∷ [], ks)
      else if is_separator k then also (p, (n, length (k ∷ ks))) (items p ks)
      else in_item p n ks

-- one of them, and what separates it from the next
abbrev pub item : PartKind → Step
item p ks = let r = whole p (λ ks. skip_item (drop 1 ks)) ks in (r.0, skip_separator r.1)

abbrev pub labels : PartKind → Step
labels p ks = if_so (is_left_paren (front ks)) (λ ks. items p (drop 1 ks)) ks

abbrev pub clause : Step
clause ks = if_so (is_grouping_word (front ks)) (λ ks. labels part.Label (drop 1 ks)) ks

abbrev pub group : Step
group ks = if_so (is_group_word (front ks)) (λ ks. labels part.GroupLabel (drop 1 ks)) ks

abbrev pub matching : Step
matching ks = if_so (is_matching_word (front ks)) (λ ks. and_then (labels part.Label (drop 1 ks)) group) ks

-- ---- selectors, and what comes after them

abbrev pub name : Step
name ks = if is_left_brace (front ks) then ([], ks) else word part.Name ks

abbrev pub braces : Step
braces ks = if_so (is_left_brace (front ks)) (λ ks. items part.Matcher (drop 1 ks)) ks

abbrev pub selector : Step
selector ks = and_then (name ks) braces

abbrev pub shift_kind : TokenKind → PartKind
shift_kind kind.At = part.At
shift_kind kind.Offset = part.Offset
shift_kind _ = part.Mode

-- shifts in time and range modes: before one, in its value, in the parentheses of that
abbrev mutual
  pub shifts : Step
  shifts [] = ([], [])
  shifts (k ∷ ks) =
      if is_shift_word k then shift_value (shift_kind k) (length (k ∷ ks)) ks
      else if is_mode k then also (part.Mode, (length (k ∷ ks), length ks)) (shifts ks)
      else ([], k ∷ ks)

  pub shift_value : PartKind → ℕ → Step
  shift_value p n [] = ((p, (n, 0)) ∷ [], [])
  shift_value p n (k ∷ ks) =
      if is_sign k then shift_value p n ks
      else if is_bound_word k then shift_bound p n ks
      else also (p, (n, length ks)) (shifts ks)

  pub shift_bound : PartKind → ℕ → Step
  shift_bound p n [] = ((p, (n, 0)) ∷ [], [])
  shift_bound p n (k ∷ ks) = if is_closing k then also (p, (n, length ks)) (shifts ks) else shift_bound p n ks

-- one of them
abbrev pub shift : Step
shift ks = whole (shift_kind (front ks)) skip_shift ks

-- ---- before, between and after the children of a node

abbrev pub vector : Step
vector ks = and_then (selector (skip_signs ks)) shifts

-- a selector that is itself a part
abbrev pub ranged : Step
ranged ks = let r = vector ks in (r.0 ++ (part.Selector, (length (skip_signs ks), length r.1)) ∷ [], r.1)

abbrev pub range : Step
range ks = and_then (whole part.Range skip_brackets ks) shifts

abbrev pub minus : Step
minus ks = word part.Operator (skip_pluses ks)

abbrev pub operator : Step
operator ks = let r = and_then (word part.Operator ks) (λ ks. matching (skip_flag ks)) in (r.0, skip_fill (skip_fill r.1))

abbrev pub called : Step
called ks = let r = word part.Name (skip_signs ks) in (r.0, drop 1 r.1)

abbrev pub aggregate : Step
aggregate ks = let r = and_then (word part.Operator (skip_signs ks)) clause in (r.0, drop 1 r.1)

abbrev pub aggregate_end : Step
aggregate_end ks = clause (drop 1 ks)

-- ---- what is taken

abbrev pub part_in : Text → PartSpan → Part
part_in s p = record { kind = p.0; span = span_in s p.1 }

-- a cursor went on past these parts, which were added
pub record Takes (r : Taken) (old new : TokenCursor) (had has : List Part) : Type 0 where
  pub to : kinds_left new ≡ r.1
  pub over : (s : Text) → IsOver s old → IsOver s new
  pub parts : (s : Text) → IsOver s old → has ≡ had ++ map (part_in s) r.0
