-- The lexer reads printed matchers in braces as their tokens.
use Rattle.std.proofs.Common.{◌≡◌, ℕ, refl, ap, arith, Bool, true, false, cond, not, ◌&&◌, Option, Some, None, List, [], ◌∷◌, ◌++◌, codes, ◌∙◌, Ok}
use Rattle.std.specs.Prelude.{◌==◌, option_map, slice_index}
use Rattle.std.specs.Str.{str_eq_ignore_ascii_case}
use Rattle.promql_text.specs.Quoting.{quoted_text}
use Rattle.promql_text.specs.Texts.{Text}
use Rattle.promql_token.specs.Classes.{is_in, is_label}
use Rattle.promql_token.specs.Lexing.{pieces}
use Rattle.promql_token.specs.TokenScanning as scan
use Rattle.promql_token.specs.TokenScanning.{after, in_braces, outside}
use Rattle.promql_token.specs.declared.class.Class.TheVariants as class
use Rattle.promql_token.specs.declared.ids.TheConstants.{T_IDENTIFIER, T_LOR, T_STRING, T_COMMA, T_EQL, T_EQL_REGEX, T_LEFT_BRACE, T_NEQ, T_NEQ_REGEX, T_RIGHT_BRACE}
use Rattle.promql_token.specs.declared.state.Mode.TheVariants as mode
use Rattle.promql_token.specs.declared.state.State.{State}
use Rattle.promql_token.proofs.printed.Concatenation.{joins, joins_name}
use Rattle.promql_token.proofs.printed.ValueTokens.{joins_quoted}
use Rattle.promql_token.proofs.one_reading.Steps.{pieces_run}
use Rattle.promql_grammar.specs.declared.token_kinds.TokenKind.TheVariants as kind
use Rattle.promql_grammar.specs.GrammarParts as part
use Rattle.promql_grammar.specs.Symbols.{punct, word}
use Rattle.promql_label.specs.PlainMatchers.{Operator, equal, not_equal, matches, matches_not, PlainMatcher, plain_matcher, PlainMatchers, plain_matchers, name_text}
use Rattle.promql_label.specs.ReadMatchers.{sorted_matchers}
use Rattle.promql_syntax.proofs.lexed.Lexes.{Lexes, at_depth}
use Rattle.promql_syntax.proofs.printed.PrintedItems.{Item, token, blank, Spacing, close, wide, spacing, any_braces_line, braces_line, item_line, items_line, render, separator_line}
use Rattle.promql_syntax.proofs.printed.PrintedParts.{any_items, braces, items_of, group_items, item, match_operator, matcher_kind, or_items}
use Rattle.promql_syntax.proofs.lexed.LexedItems.{Reads, append_lex, nothing, token_then}

-- in braces, with so many open parentheses before them
abbrev inside : ℕ → State
inside depth = record { depth = depth; mode = mode.Braces }

blank_inside : (depth : ℕ) (c : State) (is : List Item) → Lexes (inside depth) c is → Lexes (inside depth) c (blank ∷ is)
blank_inside depth c is more r = let m = more r in (m.0, m.1, pieces_run (inside depth) (32 ∷ []) (render is ++ r) refl refl ∙ m.2)

-- ---- operators of matchers

brace_reads : (depth : ℕ) (r : Text) → Reads (at_depth depth) (inside depth) (punct kind.LeftBrace) r
unfolding scan.scan_token outside scan.punctuator after
brace_reads depth r = record { id = T_LEFT_BRACE; is = refl; reads = joins (at_depth depth) (123 ∷ []) r T_LEFT_BRACE (omega arith) refl refl }

unbrace_reads : (depth : ℕ) (r : Text) → Reads (inside depth) (at_depth depth) (punct kind.RightBrace) r
unfolding scan.scan_token in_braces after
unbrace_reads depth r = record { id = T_RIGHT_BRACE; is = refl; reads = joins (inside depth) (125 ∷ []) r T_RIGHT_BRACE (omega arith) refl refl }

comma_inside : (depth : ℕ) (r : Text) → Reads (inside depth) (inside depth) (punct kind.Comma) r
unfolding scan.scan_token in_braces after
comma_inside depth r = record { id = T_COMMA; is = refl; reads = joins (inside depth) (44 ∷ []) r T_COMMA (omega arith) refl refl }

-- the operator of a matcher, before a quote
match_operator_reads : (depth : ℕ) (op : Operator) (r : Text) → Reads (inside depth) (inside depth) (part.yield_match_operator (match_operator op)) (34 ∷ r)
unfolding scan.scan_token in_braces after
match_operator_reads depth equal r = record { id = T_EQL; is = refl; reads = joins (inside depth) (61 ∷ []) (34 ∷ r) T_EQL (omega arith) refl refl }
match_operator_reads depth not_equal r = record { id = T_NEQ; is = refl; reads = joins (inside depth) (33 ∷ 61 ∷ []) (34 ∷ r) T_NEQ (omega arith) refl refl }
match_operator_reads depth (matches w) r = record { id = T_EQL_REGEX; is = refl; reads = joins (inside depth) (61 ∷ 126 ∷ []) (34 ∷ r) T_EQL_REGEX (omega arith) refl refl }
match_operator_reads depth (matches_not w) r = record { id = T_NEQ_REGEX; is = refl; reads = joins (inside depth) (33 ∷ 126 ∷ []) (34 ∷ r) T_NEQ_REGEX (omega arith) refl refl }

-- ---- matchers

quoted_inside : (depth : ℕ) (s r : Text) → Reads (inside depth) (inside depth) (word kind.String (quoted_text s)) r
unfolding after
quoted_inside depth s r = record { id = T_STRING; is = refl; reads = joins_quoted (inside depth) s r refl }

-- a name before a byte that is no space is no `or`
name_inside : (depth : ℕ) (w r : Text) → is_label w ≡ true → is_in class.Name (slice_index r 0) ≡ false → (slice_index r 0 == 32) ≡ false → Reads (inside depth) (inside depth) (word kind.Identifier w) r
name_inside depth w r label stop apart = record {
  id = T_IDENTIFIER;
  is = refl;
  reads = joins_name depth w r label stop ∙ ap (λ id. Ok (id, w) ∷ pieces (inside depth) r) (named (str_eq_ignore_ascii_case w (codes "or")) (slice_index r 0 == 32) apart);
}
  where
    named : (a b : Bool) → b ≡ false → cond (a && b) T_LOR T_IDENTIFIER ≡ T_IDENTIFIER
    named true true e = cc
    named true false e = refl
    named false b e = refl

-- the name of a matcher, a word or quoted
matcher_name_reads : (depth : ℕ) (name r : Text) → is_in class.Name (slice_index r 0) ≡ false → (slice_index r 0 == 32) ≡ false → Reads (inside depth) (inside depth) (word (matcher_kind name) (name_text name)) r
matcher_name_reads depth name r stop apart = go (is_label name) refl
  where
    go : (b : Bool) → is_label name ≡ b → Reads (inside depth) (inside depth) (word (part.name_kind (not b)) (cond b name (quoted_text name))) r
    go true label = name_inside depth name r label stop apart
    go false label = quoted_inside depth name r

-- the operator of a matcher ends its name
before_operator : (depth : ℕ) (name : Text) (op : Operator) (is : List Item) (r : Text) → Reads (inside depth) (inside depth) (word (matcher_kind name) (name_text name)) (render (token (part.yield_match_operator (match_operator op)) ∷ is) ++ r)
before_operator depth name equal is r = matcher_name_reads depth name _ refl refl
before_operator depth name not_equal is r = matcher_name_reads depth name _ refl refl
before_operator depth name (matches w) is r = matcher_name_reads depth name _ refl refl
before_operator depth name (matches_not w) is r = matcher_name_reads depth name _ refl refl

item_lex : (depth : ℕ) (c : PlainMatcher) → Lexes (inside depth) (inside depth) (item_line (item c))
item_lex depth (plain_matcher op name value) =
    let i = inside depth in
    let last = token (word kind.String (quoted_text value)) ∷ [] in
    token_then i i i (word (matcher_kind name) (name_text name)) (token (part.yield_match_operator (match_operator op)) ∷ last) (λ r. before_operator depth name op last r)
    (token_then i i i (part.yield_match_operator (match_operator op)) last (λ r. match_operator_reads depth op _)
    (token_then i i i (word kind.String (quoted_text value)) [] (λ r. quoted_inside depth value r) (nothing i)))

-- ---- separators

or_reads : (depth : ℕ) (r : Text) → Reads (inside depth) (inside depth) (word (kind.Operator T_LOR) (codes "or")) (32 ∷ r)
or_reads depth r = record { id = T_LOR; is = refl; reads = joins_name depth (codes "or") (32 ∷ r) refl refl }

or_lex : (depth : ℕ) → Lexes (inside depth) (inside depth) (blank ∷ token (word (kind.Operator T_LOR) (codes "or")) ∷ blank ∷ [])
or_lex depth =
    let i = inside depth in
    blank_inside depth i (token (word (kind.Operator T_LOR) (codes "or")) ∷ blank ∷ [])
    (token_then i i i (word (kind.Operator T_LOR) (codes "or")) (blank ∷ []) (λ r. or_reads depth r) (blank_inside depth i [] (nothing i)))

separator_lex : (depth : ℕ) (s : Spacing) → Lexes (inside depth) (inside depth) (separator_line s None)
separator_lex depth close = let i = inside depth in token_then i i i (punct kind.Comma) [] (λ r. comma_inside depth r) (nothing i)
separator_lex depth wide = let i = inside depth in token_then i i i (punct kind.Comma) (blank ∷ []) (λ r. comma_inside depth (32 ∷ r)) (blank_inside depth i [] (nothing i))

or_separator_lex : (depth : ℕ) (s : Spacing) → Lexes (inside depth) (inside depth) (separator_line s (Some (codes "or")))
or_separator_lex depth close = or_lex depth
or_separator_lex depth wide = or_lex depth

-- ---- lists of matchers, through the closing brace

-- what follows a group
abbrev MoreLexes : ℕ → Spacing → Option (part.Separator × part.Items) → Type 0
MoreLexes depth s None = Unit {0}
MoreLexes depth s (Some (t, is)) = Lexes (inside depth) (at_depth depth) (separator_line s t ++ items_line s is)

followed_lex : (depth : ℕ) (s : Spacing) (c : PlainMatcher) (more : Option (part.Separator × part.Items)) → MoreLexes depth s more → Lexes (inside depth) (at_depth depth) (items_line s (items_of (item c) more))
followed_lex depth s c None h =
    let i = inside depth in
    let o = at_depth depth in
    append_lex i i o (item_line (item c)) (token (punct kind.RightBrace) ∷ []) (item_lex depth c) (token_then i o o (punct kind.RightBrace) [] (λ r. unbrace_reads depth r) (nothing o))
followed_lex depth s c (Some (t, is)) h = append_lex (inside depth) (inside depth) (at_depth depth) (item_line (item c)) (separator_line s t ++ items_line s is) (item_lex depth c) h

group_items_lex : (depth : ℕ) (s : Spacing) (c : PlainMatcher) (ds : List PlainMatcher) (more : Option (part.Separator × part.Items)) → MoreLexes depth s more
    → Lexes (inside depth) (at_depth depth) (items_line s (group_items c ds more))
group_items_lex depth s c [] more h = followed_lex depth s c more h
group_items_lex depth s c (d ∷ ds) more h =
    let i = inside depth in
    let o = at_depth depth in
    let rest = items_line s (group_items d ds more) in
    append_lex i i o (item_line (item c)) (separator_line s None ++ rest) (item_lex depth c)
    (append_lex i i o (separator_line s None) rest (separator_lex depth s) (group_items_lex depth s d ds more h))

or_items_lex : (depth : ℕ) (s : Spacing) (groups : List (List PlainMatcher)) → MoreLexes depth s (or_items groups)
or_items_lex depth s [] = tt
or_items_lex depth s ([] ∷ groups) = or_items_lex depth s groups
or_items_lex depth s ((c ∷ cs) ∷ groups) =
    append_lex (inside depth) (inside depth) (at_depth depth) (separator_line s (Some (codes "or"))) (items_line s (group_items c cs (or_items groups))) (or_separator_lex depth s)
    (group_items_lex depth s c cs (or_items groups) (or_items_lex depth s groups))

-- ---- braces

opened_lex : (depth : ℕ) (is : List Item) → Lexes (inside depth) (at_depth depth) is → Lexes (at_depth depth) (at_depth depth) (token (punct kind.LeftBrace) ∷ is)
opened_lex depth is more = token_then (at_depth depth) (inside depth) (at_depth depth) (punct kind.LeftBrace) is (λ r. brace_reads depth (render is ++ r)) more

any_items_lex : (depth : ℕ) (cs : List PlainMatcher) → Lexes (at_depth depth) (at_depth depth) (any_braces_line (any_items cs))
any_items_lex depth [] = nothing (at_depth depth)
any_items_lex depth (c ∷ cs) =
    let is = group_items c cs None in
    opened_lex depth (items_line (spacing is) is) (group_items_lex depth (spacing is) c cs None tt)

groups_lex : (depth : ℕ) (groups : List (List PlainMatcher)) → Lexes (at_depth depth) (at_depth depth) (any_braces_line (option_map (λ x. Some x.1) (or_items groups)))
groups_lex depth [] = nothing (at_depth depth)
groups_lex depth ([] ∷ groups) = groups_lex depth groups
groups_lex depth ((c ∷ cs) ∷ groups) =
    let is = group_items c cs (or_items groups) in
    opened_lex depth (items_line (spacing is) is) (group_items_lex depth (spacing is) c cs (or_items groups) (or_items_lex depth (spacing is) groups))

pub braces_lex : (depth : ℕ) (cs : PlainMatchers) → Lexes (at_depth depth) (at_depth depth) (any_braces_line (braces cs))
braces_lex depth (plain_matchers plain []) = any_items_lex depth (sorted_matchers plain)
braces_lex depth (plain_matchers plain (g ∷ groups)) = groups_lex depth (g ∷ groups)

-- a selector without a name and matchers
pub no_item_lex : (depth : ℕ) → Lexes (at_depth depth) (at_depth depth) (braces_line None)
no_item_lex depth =
    opened_lex depth (token (punct kind.RightBrace) ∷ [])
    (token_then (inside depth) (at_depth depth) (at_depth depth) (punct kind.RightBrace) [] (λ r. unbrace_reads depth r) (nothing (at_depth depth)))
