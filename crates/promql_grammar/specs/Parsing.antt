-- Parsing as a function on lists of tokens, which the parser agrees with. Private: nothing rests on believing it.
use Rattle.std.specs.Prelude.{ℕ, Bool, true, false, zero, suc, ◌+◌, nat_lt, ◌==◌, if◌then◌else◌, Option, Some, None, List, ◌∷◌, length, Result, Ok, Err}
use Rattle.promql_text.specs.Texts.{Text}
use Rattle.promql_token.specs.declared.ids.TheConstants.{T_POW, T_NEQ, T_LOR, T_ADD, T_SUB}
use Rattle.promql_grammar.specs.declared.token_kinds.TokenKind.{TokenKind}
use Rattle.promql_grammar.specs.declared.token_kinds.TokenKind.TheVariants as kind
use Rattle.promql_grammar.specs.Results.{◌then◌}
use Rattle.promql_grammar.specs.Symbols.{Symbol, punct, word, is_plus_or_minus, may_be_name, may_be_label}
use Rattle.promql_grammar.specs.GrammarParts.{Time, seconds, duration, Signed, Labels, no_label, last, next, Grouping, Clause, Group, Matching, FillValue, Fills, no_fill, both, one, two, Modifier, MatchOperator, equal, not_equal, equal_regex, not_equal_regex, Item, matcher, lone, Items, last_item, next_item, Braces, Postfix, range, subquery, at_number, at_bound, offset, mode}
use Rattle.promql_grammar.specs.Grammar.{Derivation, number, string, selector, nameless, paren, call, aggregate, postfixed, unary, binary, Arguments, none, more, precedence, height}
use Rattle.promql_grammar.specs.Grammar as grammar

-- why there is no part: a token that does not fit, with those after it, or the end where one is missing; or the height
pub data Stop : Type 0 where
  misfit : List Symbol → Stop
  too_high : Stop

-- a part and the tokens after it, or why there is none
abbrev pub Read : Type 0 → Type 0
Read A = Result (A × List Symbol) Stop

-- what parses an expression, from the lowest precedence of its operators and the tokens
abbrev pub Reader : Type 0
Reader = ℕ → List Symbol → Read Derivation

-- the lowest precedence of an operator inside the right side
abbrev pub right_precedence : ℕ → ℕ
right_precedence op = if op == T_POW then 6 else precedence op + 1

abbrev pub parse_time : List Symbol → Read Time
parse_time (word kind.Number t ∷ ts) = Ok (seconds t, ts)
parse_time (word kind.Duration t ∷ ts) = Ok (duration t, ts)
parse_time ts = Err (misfit ts)

abbrev pub eat_sign : List Symbol → Read Signed
eat_sign (word (kind.Operator op) t ∷ ts) =
    if op == T_ADD then Ok (Some (false, t), ts) else if op == T_SUB then Ok (Some (true, t), ts) else Ok (None, word (kind.Operator op) t ∷ ts)
eat_sign ts = Ok (None, ts)

abbrev pub parse_number : List Symbol → Read Text
parse_number (word kind.Number t ∷ ts) = Ok (t, ts)
parse_number ts = Err (misfit ts)

abbrev pub parse_string : List Symbol → Read Text
parse_string (word kind.String t ∷ ts) = Ok (t, ts)
parse_string ts = Err (misfit ts)

-- labels after an opening parenthesis
abbrev pub parse_label_list : List Symbol → Read Labels
parse_label_list (punct kind.RightParen ∷ ts) = Ok (no_label, ts)
parse_label_list (word k t ∷ (punct kind.RightParen ∷ ts)) = if may_be_label k then Ok (last k t, ts) else Err (misfit (word k t ∷ (punct kind.RightParen ∷ ts)))
parse_label_list (word k t ∷ (punct kind.Comma ∷ ts)) =
    if may_be_label k then (parse_label_list ts then λ y. Ok (next k t y.0, y.1)) else Err (misfit (word k t ∷ (punct kind.Comma ∷ ts)))
parse_label_list (word k t ∷ ts) = if may_be_label k then Err (misfit ts) else Err (misfit (word k t ∷ ts))
parse_label_list ts = Err (misfit ts)

abbrev pub parse_labels : List Symbol → Read Labels
parse_labels (punct kind.LeftParen ∷ ts) = parse_label_list ts
parse_labels ts = Err (misfit ts)

-- a grouping after arguments, if there is one
abbrev pub parse_grouping : List Symbol → Read Clause
parse_grouping (word kind.By t ∷ ts) = parse_labels ts then λ l. Ok (Some (false, (true, t, l.0)), l.1)
parse_grouping (word kind.Without t ∷ ts) = parse_labels ts then λ l. Ok (Some (false, (false, t, l.0)), l.1)
parse_grouping ts = Ok (None, ts)

abbrev pub parse_group_labels : Bool → Text → List Symbol → Read Group
parse_group_labels left t (punct kind.LeftParen ∷ ts) = parse_label_list ts then λ l. Ok (Some (left, t, Some l.0), l.1)
parse_group_labels left t ts = Ok (Some (left, t, None), ts)

abbrev pub parse_group : List Symbol → Read Group
parse_group (word kind.GroupLeft t ∷ ts) = parse_group_labels true t ts
parse_group (word kind.GroupRight t ∷ ts) = parse_group_labels false t ts
parse_group ts = Ok (None, ts)

abbrev pub parse_matching_after : Bool → Text → List Symbol → Read Matching
parse_matching_after on t ts = parse_labels ts then λ l. parse_group l.1 then λ g. Ok (Some (on, t, l.0, g.0), g.1)

abbrev pub parse_matching : List Symbol → Read Matching
parse_matching (word kind.On t ∷ ts) = parse_matching_after true t ts
parse_matching (word kind.Ignoring t ∷ ts) = parse_matching_after false t ts
parse_matching ts = Ok (None, ts)

abbrev pub parse_fill_value_end : Signed → Text → List Symbol → Read FillValue
parse_fill_value_end s n (punct kind.RightParen ∷ ts) = Ok ((s, n), ts)
parse_fill_value_end s n ts = Err (misfit ts)

abbrev pub parse_fill_value : List Symbol → Read FillValue
parse_fill_value (punct kind.LeftParen ∷ ts) = eat_sign ts then λ s. parse_number s.1 then λ n. parse_fill_value_end s.0 n.0 n.1
parse_fill_value ts = Err (misfit ts)

abbrev pub parse_fill_right : Text → FillValue → List Symbol → Read Fills
parse_fill_right t v (word kind.FillRight u ∷ ts) = parse_fill_value ts then λ w. Ok (two true t v u w.0, w.1)
parse_fill_right t v ts = Ok (one true t v, ts)

abbrev pub parse_fill_left : Text → FillValue → List Symbol → Read Fills
parse_fill_left t v (word kind.FillLeft u ∷ ts) = parse_fill_value ts then λ w. Ok (two false t v u w.0, w.1)
parse_fill_left t v ts = Ok (one false t v, ts)

abbrev pub parse_fills : List Symbol → Read Fills
parse_fills (word kind.Fill t ∷ ts) = parse_fill_value ts then λ v. Ok (both t v.0, v.1)
parse_fills (word kind.FillLeft t ∷ ts) = parse_fill_value ts then λ v. parse_fill_right t v.0 v.1
parse_fills (word kind.FillRight t ∷ ts) = parse_fill_value ts then λ v. parse_fill_left t v.0 v.1
parse_fills ts = Ok (no_fill, ts)

abbrev pub parse_flag : List Symbol → Read (Option Text)
parse_flag (word kind.Bool t ∷ ts) = Ok (Some t, ts)
parse_flag ts = Ok (None, ts)

abbrev pub with_fills : Option Text → Matching → Fills × List Symbol → Read Modifier
with_fills b m f = Ok ((b, m, f.0), f.1)

abbrev pub with_matching : Option Text → Matching × List Symbol → Read Modifier
with_matching b m = parse_fills m.1 then with_fills b m.0

abbrev pub parse_modifier : List Symbol → Read Modifier
parse_modifier ts = parse_flag ts then λ b. parse_matching b.1 then with_matching b.0

-- the operator of a matcher, if there is one
abbrev pub parse_match_operator : List Symbol → Read (Option MatchOperator)
parse_match_operator (punct kind.Equal ∷ ts) = Ok (Some equal, ts)
parse_match_operator (punct kind.EqualRegex ∷ ts) = Ok (Some equal_regex, ts)
parse_match_operator (punct kind.NotEqualRegex ∷ ts) = Ok (Some not_equal_regex, ts)
parse_match_operator (word (kind.Operator op) t ∷ ts) = if op == T_NEQ then Ok (Some (not_equal t), ts) else Ok (None, word (kind.Operator op) t ∷ ts)
parse_match_operator ts = Ok (None, ts)

abbrev pub parse_matcher_value : Bool → Text → MatchOperator → List Symbol → Read Item
parse_matcher_value quoted t s ts = parse_string ts then λ v. Ok (matcher quoted t s v.0, v.1)

abbrev pub parse_after_name : Text → Option MatchOperator × List Symbol → Read Item
parse_after_name t (Some s, ts) = parse_matcher_value false t s ts
parse_after_name t (None, ts) = Err (misfit ts)

abbrev pub parse_after_string : Text → Option MatchOperator × List Symbol → Read Item
parse_after_string t (Some s, ts) = parse_matcher_value true t s ts
parse_after_string t (None, ts) = Ok (lone t, ts)

abbrev pub parse_item : List Symbol → Read Item
parse_item (word kind.Identifier t ∷ ts) = parse_match_operator ts then parse_after_name t
parse_item (word kind.String t ∷ ts) = parse_match_operator ts then parse_after_string t
parse_item ts = Err (misfit ts)

abbrev pub parse_after_item : (List Symbol → Read Items) → Item → List Symbol → Read Items
parse_after_item r i (punct kind.RightBrace ∷ ts) = Ok (last_item i false, ts)
parse_after_item r i (punct kind.Comma ∷ (punct kind.RightBrace ∷ ts)) = Ok (last_item i true, ts)
parse_after_item r i (punct kind.Comma ∷ ts) = r ts then λ y. Ok (next_item i None y.0, y.1)
parse_after_item r i (word (kind.Operator op) t ∷ ts) = if op == T_LOR then (r ts then λ y. Ok (next_item i (Some t) y.0, y.1)) else Err (misfit (word (kind.Operator op) t ∷ ts))
parse_after_item r i ts = Err (misfit ts)

abbrev pub parse_items : ℕ → List Symbol → Read Items
parse_items zero ts = Err (misfit ts)
parse_items (suc k) ts = parse_item ts then λ i. parse_after_item (parse_items k) i.0 i.1

-- matchers after an opening brace
abbrev pub parse_braces : List Symbol → Read Braces
parse_braces (punct kind.RightBrace ∷ ts) = Ok (None, ts)
parse_braces ts = parse_items (length ts) ts then λ y. Ok (Some y.0, y.1)

abbrev pub parse_optional_braces : List Symbol → Read (Option Braces)
parse_optional_braces (punct kind.LeftBrace ∷ ts) = parse_braces ts then λ b. Ok (Some b.0, b.1)
parse_optional_braces ts = Ok (None, ts)

abbrev pub parse_step_end : Time → Time → List Symbol → Read (Option Postfix)
parse_step_end t s (punct kind.RightBracket ∷ ts) = Ok (Some (subquery t (Some s)), ts)
parse_step_end t s ts = Err (misfit ts)

abbrev pub parse_step : Time → List Symbol → Read (Option Postfix)
parse_step t (punct kind.RightBracket ∷ ts) = Ok (Some (subquery t None), ts)
parse_step t ts = parse_time ts then λ s. parse_step_end t s.0 s.1

abbrev pub parse_range_end : Time → List Symbol → Read (Option Postfix)
parse_range_end t (punct kind.RightBracket ∷ ts) = Ok (Some (range t), ts)
parse_range_end t (punct kind.Colon ∷ ts) = parse_step t ts
parse_range_end t ts = Err (misfit ts)

abbrev pub parse_at_bound : Bool → Text → List Symbol → Read (Option Postfix)
parse_at_bound start t (punct kind.LeftParen ∷ (punct kind.RightParen ∷ ts)) = Ok (Some (at_bound start t), ts)
parse_at_bound start t (punct kind.LeftParen ∷ ts) = Err (misfit ts)
parse_at_bound start t ts = Err (misfit ts)

abbrev pub parse_at_modifier : List Symbol → Read (Option Postfix)
parse_at_modifier (word kind.Start t ∷ ts) = parse_at_bound true t ts
parse_at_modifier (word kind.End t ∷ ts) = parse_at_bound false t ts
parse_at_modifier ts = eat_sign ts then λ s. parse_number s.1 then λ n. Ok (Some (at_number s.0 n.0), n.1)

abbrev pub parse_offset_postfix : Text → List Symbol → Read (Option Postfix)
parse_offset_postfix t ts = eat_sign ts then λ s. parse_time s.1 then λ u. Ok (Some (offset t s.0 u.0), u.1)

-- a postfix, if there is one
abbrev pub parse_postfix : List Symbol → Read (Option Postfix)
parse_postfix (punct kind.LeftBracket ∷ ts) = parse_time ts then λ t. parse_range_end t.0 t.1
parse_postfix (punct kind.At ∷ ts) = parse_at_modifier ts
parse_postfix (word kind.Offset t ∷ ts) = parse_offset_postfix t ts
parse_postfix (word kind.Smoothed t ∷ ts) = Ok (Some (mode true t), ts)
parse_postfix (word kind.Anchored t ∷ ts) = Ok (Some (mode false t), ts)
parse_postfix ts = Ok (None, ts)

abbrev pub parse_more_postfixes : (Derivation → List Symbol → Read Derivation) → ℕ → Derivation → Option Postfix → List Symbol → Read Derivation
parse_more_postfixes go n d None ts = Ok (d, ts)
parse_more_postfixes go n d (Some p) ts = if nat_lt n (height (postfixed d p)) then Err too_high else go (postfixed d p) ts

-- the postfixes of a base, where the whole is of height at most n
abbrev pub parse_postfixes : ℕ → ℕ → Derivation → List Symbol → Read Derivation
parse_postfixes zero n d ts = Ok (d, ts)
parse_postfixes (suc k) n d ts = parse_postfix ts then λ p. parse_more_postfixes (parse_postfixes k n) n d p.0 p.1

abbrev pub parse_paren_end : ℕ → ℕ → Derivation → List Symbol → Read Derivation
parse_paren_end k n d (punct kind.RightParen ∷ ts) = parse_postfixes k n (paren d) ts
parse_paren_end k n d ts = Err (misfit ts)

abbrev pub parse_more_arguments : Reader → ℕ → List Symbol → Read Arguments
parse_more_arguments r zero ts = Err (misfit ts)
parse_more_arguments r (suc k) (punct kind.RightParen ∷ ts) = Ok (none, ts)
parse_more_arguments r (suc k) (punct kind.Comma ∷ ts) = r 0 ts then λ x. parse_more_arguments r k x.1 then λ y. Ok (more x.0 y.0, y.1)
parse_more_arguments r (suc k) ts = Err (misfit ts)

abbrev pub parse_arguments : Reader → List Symbol → Read Arguments
parse_arguments r (punct kind.RightParen ∷ ts) = Ok (none, ts)
parse_arguments r ts = r 0 ts then λ x. parse_more_arguments r (length ts) x.1 then λ y. Ok (more x.0 y.0, y.1)

abbrev pub parse_selector : ℕ → ℕ → TokenKind → Text → List Symbol → Read Derivation
parse_selector k n w t ts = if may_be_name w then (parse_optional_braces ts then λ b. parse_postfixes k n (selector w t b.0) b.1) else Err (misfit (word w t ∷ ts))

abbrev pub parse_call : Reader → ℕ → ℕ → TokenKind → Text → List Symbol → Read Derivation
parse_call r k n w t (punct kind.LeftParen ∷ ts) = parse_arguments r ts then λ y. parse_postfixes k n (call w t y.0) y.1
parse_call r k n w t ts = parse_selector k n w t ts

abbrev pub parse_grouped_aggregate : Reader → ℕ → ℕ → ℕ → Text → Grouping → List Symbol → Read Derivation
parse_grouped_aggregate r k n op t g (punct kind.LeftParen ∷ ts) = parse_arguments r ts then λ y. parse_postfixes k n (aggregate op t (Some (true, g)) y.0) y.1
parse_grouped_aggregate r k n op t g ts = Err (misfit ts)

abbrev pub parse_aggregate : Reader → ℕ → ℕ → ℕ → Text → List Symbol → Read Derivation
parse_aggregate r k n op t (punct kind.LeftParen ∷ ts) = parse_arguments r ts then λ y. parse_grouping y.1 then λ c. parse_postfixes k n (aggregate op t c.0 y.0) c.1
parse_aggregate r k n op t (word kind.By u ∷ ts) = parse_labels ts then λ l. parse_grouped_aggregate r k n op t (true, u, l.0) l.1
parse_aggregate r k n op t (word kind.Without u ∷ ts) = parse_labels ts then λ l. parse_grouped_aggregate r k n op t (false, u, l.0) l.1
parse_aggregate r k n op t ts = parse_selector k n (kind.Aggregator op) t ts

-- a form with no binary operator outside, of height at most n, with at most k postfixes
abbrev pub parse_unary : Reader → ℕ → ℕ → List Symbol → Read Derivation
parse_unary r k n (word kind.Number t ∷ ts) = parse_postfixes k n (number t) ts
parse_unary r k n (word kind.Duration t ∷ ts) = parse_postfixes k n (grammar.duration t) ts
parse_unary r k n (word kind.String t ∷ ts) = parse_postfixes k n (string t) ts
parse_unary r k n (word (kind.Operator op) t ∷ ts) =
    if is_plus_or_minus op then (r 6 ts then λ x. Ok (unary op t x.0, x.1)) else parse_selector k n (kind.Operator op) t ts
parse_unary r k n (word (kind.Aggregator op) t ∷ ts) = parse_aggregate r k n op t ts
parse_unary r k n (word kind.Identifier t ∷ ts) = parse_call r k n kind.Identifier t ts
parse_unary r k n (word kind.Start t ∷ ts) = parse_call r k n kind.Start t ts
parse_unary r k n (word kind.End t ∷ ts) = parse_call r k n kind.End t ts
parse_unary r k n (word w t ∷ ts) = parse_selector k n w t ts
parse_unary r k n (punct kind.LeftParen ∷ ts) = r 0 ts then λ x. parse_paren_end k n x.0 x.1
parse_unary r k n (punct kind.LeftBrace ∷ ts) = parse_braces ts then λ b. parse_postfixes k n (nameless b.0) b.1
parse_unary r k n ts = Err (misfit ts)

-- at most k operators of at least precedence m after d, and their right sides, of height at most n
abbrev pub parse_operators : Reader → ℕ → ℕ → ℕ → Derivation → List Symbol → Read Derivation
parse_operators r zero n m d ts = Ok (d, ts)
parse_operators r (suc k) n m d (word (kind.Operator op) t ∷ ts) =
    if nat_lt (precedence op) m then Ok (d, word (kind.Operator op) t ∷ ts)
    else (if nat_lt n (height d) then Err too_high
    else (parse_modifier ts then λ y. r (right_precedence op) y.1 then λ x. parse_operators r k n m (binary op t y.0 d x.0) x.1))
parse_operators r (suc k) n m d ts = Ok (d, ts)

-- an expression of height at most n, whose operators outside are of at least precedence m
unfoldable pub parse_expression : ℕ → Reader
parse_expression zero m ts = Err too_high
parse_expression (suc n) m ts = parse_unary (parse_expression n) (length ts) (suc n) ts then λ x. parse_operators (parse_expression n) (length ts) n m x.0 x.1
