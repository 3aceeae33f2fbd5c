-- The tokens of a derivation are of kinds that the lexer gives.
use Rattle.std.proofs.Common.{◌≡◌, refl, subst, Bool, true, false, not, List, [], ◌∷◌, ◌++◌, Option, Some, None}
use Rattle.std.specs.Prelude.{if◌then◌else◌}
use Rattle.promql_text.specs.Texts.{Text}
use Rattle.promql_grammar.specs.declared.token_kinds.TokenKind.{TokenKind}
use Rattle.promql_grammar.specs.declared.token_kinds.TokenKind.TheVariants as kind
use Rattle.promql_grammar.specs.Symbols.{Symbol, punct, word, may_be_name, may_be_label, may_be_called}
use Rattle.promql_grammar.specs.GrammarParts.{Time, seconds, duration, Signed, Labels, no_label, last, next, Grouping, Clause, Group, Matching, FillValue, Fills, no_fill, both, one, two, Modifier, MatchOperator, equal, not_equal, equal_regex, not_equal_regex, Item, matcher, lone, Separator, Items, last_item, next_item, Braces, Postfix, range, subquery, at_number, at_bound, offset, mode, yield_time, yield_signed, yield_names, yield_labels, yield_grouping, yield_before, yield_after, yield_group, yield_matching, yield_value, yield_side, yield_fills, yield_modifier, yield_match_operator, yield_item, yield_items, yield_separator, yield_braces, yield_postfix, IsLabels, IsMatching}
use Rattle.promql_grammar.specs.PartTokens.{IsGrouping, yield_flag, yield_step, yield_any_braces, IsClause, IsGroup, yield_rest}
use Rattle.promql_grammar.specs.Grammar as grammar
use Rattle.promql_grammar.specs.Grammar.{Derivation, Arguments, selector, nameless, paren, call, aggregate, postfixed, unary, binary, none, more, yield, yield_arguments, IsWellFormed, AreWellFormed}

abbrev pub is_known : TokenKind → Bool
is_known kind.Other = false
is_known k = true

-- the words are of known kinds
abbrev pub AreKnown : List Symbol → Type 0
AreKnown [] = Unit {0}
AreKnown (punct k ∷ ts) = AreKnown ts
AreKnown (word k text ∷ ts) = (is_known k ≡ true) × AreKnown ts

known_append : (ts us : List Symbol) → AreKnown ts → AreKnown us → AreKnown (ts ++ us)
known_append [] us k l = l
known_append (punct w ∷ ts) us k l = known_append ts us k l
known_append (word w text ∷ ts) us k l = (k.0, known_append ts us k.1 l)

-- a test that fails on other kinds
known_if : (test : TokenKind → Bool) (k : TokenKind) → test kind.Other ≡ false → test k ≡ true → is_known k ≡ true
known_if test kind.Other fails holds = cc
known_if test k fails holds = refl

known_label : (k : TokenKind) → may_be_label k ≡ true → is_known k ≡ true
known_label k holds = known_if may_be_label k refl holds

known_time : (t : Time) → AreKnown (yield_time t)
known_time (seconds text) = (refl, tt)
known_time (duration text) = (refl, tt)

known_signed : (s : Signed) → AreKnown (yield_signed s)
known_signed None = tt
known_signed (Some (minus, text)) = (refl, tt)

-- a word that is one of two
known_either : (b : Bool) (k j : TokenKind) → is_known k ≡ true → is_known j ≡ true → is_known (if b then k else j) ≡ true
known_either true k j first second = first
known_either false k j first second = second

known_names : (ls : Labels) → IsLabels ls → AreKnown (yield_names ls)
known_names no_label h = tt
known_names (last k text) h = (known_label k h, tt)
known_names (next k text ls) h = (known_label k h.0, known_names ls h.1)

known_labels : (ls : Labels) → IsLabels ls → AreKnown (yield_labels ls)
known_labels ls h = known_names ls h

known_grouping : (g : Grouping) → IsGrouping g → AreKnown (yield_grouping g)
known_grouping (by, text, ls) h = (known_either by kind.By kind.Without refl refl, known_labels ls h)

known_before : (c : Clause) → IsClause c → AreKnown (yield_before c)
known_before (Some (true, (by, text, ls))) h = known_grouping (by, text, ls) h
known_before c h = tt

known_after : (c : Clause) → IsClause c → AreKnown (yield_after c)
known_after (Some (false, (by, text, ls))) h = known_grouping (by, text, ls) h
known_after c h = tt

known_group : (g : Group) → IsGroup g → AreKnown (yield_group g)
known_group None h = tt
known_group (Some (left, text, None)) h = (known_either left kind.GroupLeft kind.GroupRight refl refl, tt)
known_group (Some (left, text, Some ls)) h = (known_either left kind.GroupLeft kind.GroupRight refl refl, known_labels ls h)

known_matching : (m : Matching) → IsMatching m → AreKnown (yield_matching m)
known_matching None h = tt
known_matching (Some (on, text, ls, g)) h = (known_either on kind.On kind.Ignoring refl refl, known_append (yield_labels ls) (yield_group g) (known_labels ls h.0) (known_group g h.1))

known_value : (v : FillValue) → AreKnown (yield_value v)
known_value v = known_append (yield_signed v.0) (word kind.Number v.1 ∷ punct kind.RightParen ∷ []) (known_signed v.0) (refl, tt)

known_side : (left : Bool) (text : Text) (v : FillValue) → AreKnown (yield_side left text v)
known_side left text v = (known_either left kind.FillLeft kind.FillRight refl refl, known_value v)

known_fills : (f : Fills) → AreKnown (yield_fills f)
known_fills no_fill = tt
known_fills (both text v) = (refl, known_value v)
known_fills (one left text v) = known_side left text v
known_fills (two left text v text' w) = known_append (yield_side left text v) (yield_side (not left) text' w) (known_side left text v) (known_side (not left) text' w)

known_flag : (flag : Option Text) → AreKnown (yield_flag flag)
known_flag None = tt
known_flag (Some text) = (refl, tt)

known_modifier : (m : Modifier) → IsMatching m.1 → AreKnown (yield_modifier m)
known_modifier m h =
    known_append (yield_flag m.0) (yield_matching m.1 ++ yield_fills m.2) (known_flag m.0)
    (known_append (yield_matching m.1) (yield_fills m.2) (known_matching m.1 h) (known_fills m.2))

known_match_operator : (s : MatchOperator) (ts : List Symbol) → AreKnown ts → AreKnown (yield_match_operator s ∷ ts)
known_match_operator equal ts k = k
known_match_operator (not_equal text) ts k = (refl, k)
known_match_operator equal_regex ts k = k
known_match_operator not_equal_regex ts k = k

known_item : (i : Item) → AreKnown (yield_item i)
known_item (matcher quoted text s value) = (known_either quoted kind.String kind.Identifier refl refl, known_match_operator s (word kind.String value ∷ []) (refl, tt))
known_item (lone text) = (refl, tt)

known_separator : (s : Separator) (ts : List Symbol) → AreKnown ts → AreKnown (yield_separator s ∷ ts)
known_separator None ts k = k
known_separator (Some text) ts k = (refl, k)

known_items : (is : Items) → AreKnown (yield_items is)
known_items (last_item i false) = known_append (yield_item i) (punct kind.RightBrace ∷ []) (known_item i) tt
known_items (last_item i true) = known_append (yield_item i) (punct kind.Comma ∷ punct kind.RightBrace ∷ []) (known_item i) tt
known_items (next_item i s is) = known_append (yield_item i) (yield_separator s ∷ yield_items is) (known_item i) (known_separator s (yield_items is) (known_items is))

known_braces : (b : Braces) → AreKnown (yield_braces b)
known_braces None = tt
known_braces (Some is) = known_items is

known_any_braces : (b : Option Braces) → AreKnown (yield_any_braces b)
known_any_braces None = tt
known_any_braces (Some b) = known_braces b

known_step : (s : Option Time) → AreKnown (yield_step s)
known_step None = tt
known_step (Some t) = known_time t

known_postfix : (p : Postfix) → AreKnown (yield_postfix p)
known_postfix (range t) = known_append (yield_time t) (punct kind.RightBracket ∷ []) (known_time t) tt
known_postfix (subquery t s) =
    known_append (yield_time t) (punct kind.Colon ∷ (yield_step s ++ punct kind.RightBracket ∷ [])) (known_time t)
    (known_append (yield_step s) (punct kind.RightBracket ∷ []) (known_step s) tt)
known_postfix (at_number s text) = known_append (yield_signed s) (word kind.Number text ∷ []) (known_signed s) (refl, tt)
known_postfix (at_bound start text) = (known_either start kind.Start kind.End refl refl, tt)
known_postfix (offset text s t) = (refl, known_append (yield_signed s) (yield_time t) (known_signed s) (known_time t))
known_postfix (mode smoothed text) = (known_either smoothed kind.Smoothed kind.Anchored refl refl, tt)

mutual
  known_yield : (d : Derivation) → IsWellFormed d → AreKnown (yield d)
  known_yield (grammar.number text) h = (refl, tt)
  known_yield (grammar.duration text) h = (refl, tt)
  known_yield (grammar.string text) h = (refl, tt)
  known_yield (selector k text b) h = (known_if may_be_name k refl h, known_any_braces b)
  known_yield (nameless b) h = known_braces b
  known_yield (paren d) h = known_append (yield d) (punct kind.RightParen ∷ []) (known_yield d h) tt
  known_yield (call k text ds) h = (known_if may_be_called k refl h.0, known_arguments ds h.1)
  known_yield (aggregate op text c ds) h = (
    refl,
    known_append (yield_before c) (punct kind.LeftParen ∷ (yield_arguments [] ds ++ yield_after c)) (known_before c h.0)
        (known_append (yield_arguments [] ds) (yield_after c) (known_arguments ds h.1) (known_after c h.0)),
  )
  known_yield (postfixed d p) h = known_append (yield d) (yield_postfix p) (known_yield d h.0) (known_postfix p)
  known_yield (unary op text d) h = (refl, known_yield d h.1)
  known_yield (binary op text m a b) h =
      known_append (yield a) (word (kind.Operator op) text ∷ (yield_modifier m ++ yield b)) (known_yield a h.0)
      (refl, known_append (yield_modifier m) (yield b) (known_modifier m h.2) (known_yield b h.1))

  known_arguments : (ds : Arguments) → AreWellFormed ds → AreKnown (yield_arguments [] ds)
  known_arguments none h = tt
  known_arguments (more d ds) h = known_append (yield d) (yield_rest ds) (known_yield d h.0) (known_rest ds h.1)

  known_rest : (ds : Arguments) → AreWellFormed ds → AreKnown (yield_rest ds)
  known_rest none h = tt
  known_rest (more d ds) h = known_append (yield d) (yield_rest ds) (known_yield d h.0) (known_rest ds h.1)

unknown_last : (front : List Symbol) (text : Text) → ¬ (AreKnown (front ++ word kind.Other text ∷ []))
unknown_last [] text k = let same = k.0 in cc
unknown_last (punct w ∷ ts) text k = unknown_last ts text k
unknown_last (word w t ∷ ts) text k = unknown_last ts text k.1

-- no derivation's last token is of another kind
pub last_is_known : (d : Derivation) (front : List Symbol) (text : Text) → IsWellFormed d → ¬ (yield d ≡ front ++ word kind.Other text ∷ [])
last_is_known d front text formed same = unknown_last front text (subst AreKnown same (known_yield d formed))
