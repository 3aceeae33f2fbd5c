-- Which tokens are skipped, by their kinds. Private: nothing rests on believing it.
use Rattle.std.specs.Prelude.{ℕ, Bool, true, false, ◌==◌, if◌then◌else◌, List, [], ◌∷◌, drop, map}
use Rattle.promql_token.specs.declared.ids.TheConstants.{T_ADD, T_LOR, T_POW}
use Rattle.promql_grammar.specs.declared.token_kinds.TokenKind.{TokenKind}
use Rattle.promql_grammar.specs.declared.token_kinds.TokenKind.TheVariants as kind
use Rattle.promql_grammar.specs.Symbols.{Symbol, punct, word, is_plus_or_minus}

-- the kind of a symbol
abbrev pub kind_of : Symbol → TokenKind
kind_of (punct k) = k
kind_of (word k text) = k

abbrev pub kinds : List Symbol → List TokenKind
kinds = map kind_of

-- the first of these kinds, or another one
abbrev pub front : List TokenKind → TokenKind
front [] = kind.Other
front (k ∷ ks) = k

-- ---- kinds

abbrev pub is_sign : TokenKind → Bool
is_sign (kind.Operator op) = is_plus_or_minus op
is_sign _ = false

abbrev pub is_plus : TokenKind → Bool
is_plus (kind.Operator op) = op == T_ADD
is_plus _ = false

-- the words of `@`, of matching and of grouping
abbrev pub is_bound_word : TokenKind → Bool
is_bound_word kind.Start = true
is_bound_word kind.End = true
is_bound_word _ = false

abbrev pub is_matching_word : TokenKind → Bool
is_matching_word kind.On = true
is_matching_word kind.Ignoring = true
is_matching_word _ = false

abbrev pub is_group_word : TokenKind → Bool
is_group_word kind.GroupLeft = true
is_group_word kind.GroupRight = true
is_group_word _ = false

abbrev pub is_closing : TokenKind → Bool
is_closing kind.RightParen = true
is_closing kind.RightBrace = true
is_closing kind.RightBracket = true
is_closing _ = false

abbrev pub is_left_paren : TokenKind → Bool
is_left_paren kind.LeftParen = true
is_left_paren _ = false

abbrev pub is_left_brace : TokenKind → Bool
is_left_brace kind.LeftBrace = true
is_left_brace _ = false

abbrev pub is_flag : TokenKind → Bool
is_flag kind.Bool = true
is_flag _ = false

abbrev pub is_fill_word : TokenKind → Bool
is_fill_word kind.Fill = true
is_fill_word kind.FillLeft = true
is_fill_word kind.FillRight = true
is_fill_word _ = false

abbrev pub is_grouping_word : TokenKind → Bool
is_grouping_word kind.By = true
is_grouping_word kind.Without = true
is_grouping_word _ = false

-- `@` and `offset`, after which a value comes
abbrev pub is_shift_word : TokenKind → Bool
is_shift_word kind.At = true
is_shift_word kind.Offset = true
is_shift_word _ = false

abbrev pub is_mode : TokenKind → Bool
is_mode kind.Smoothed = true
is_mode kind.Anchored = true
is_mode _ = false

-- either
abbrev pub is_shift : TokenKind → Bool
is_shift k = if is_shift_word k then true else is_mode k

-- ---- parts

abbrev pub when : Bool → (List TokenKind → List TokenKind) → List TokenKind → List TokenKind
when b skip ks = if b then skip ks else ks

abbrev pub skip_signs : List TokenKind → List TokenKind
skip_signs [] = []
skip_signs (k ∷ ks) = if is_sign k then skip_signs ks else k ∷ ks

abbrev pub skip_pluses : List TokenKind → List TokenKind
skip_pluses [] = []
skip_pluses (k ∷ ks) = if is_plus k then skip_pluses ks else k ∷ ks

-- through the next closing bracket
abbrev pub skip_brackets : List TokenKind → List TokenKind
skip_brackets [] = []
skip_brackets (k ∷ ks) = if is_closing k then ks else skip_brackets ks

-- lists in brackets: whether one ends here, what separates its parts, and what is up to that or to the end
abbrev pub ends_list : List TokenKind → Bool
ends_list [] = true
ends_list (k ∷ ks) = is_closing k

abbrev pub is_separator : TokenKind → Bool
is_separator kind.Comma = true
is_separator (kind.Operator op) = op == T_LOR
is_separator _ = false

abbrev pub skip_item : List TokenKind → List TokenKind
skip_item [] = []
skip_item (k ∷ ks) = if is_closing k then k ∷ ks else if is_separator k then k ∷ ks else skip_item ks

abbrev pub skip_separator : List TokenKind → List TokenKind
skip_separator ks = when (is_separator (front ks)) (drop 1) ks

abbrev pub skip_fill : List TokenKind → List TokenKind
skip_fill ks = when (is_fill_word (front ks)) skip_brackets ks

abbrev pub skip_flag : List TokenKind → List TokenKind
skip_flag ks = when (is_flag (front ks)) (drop 1) ks

-- the value of a shift, and a shift with it
abbrev pub skip_moment : List TokenKind → List TokenKind
skip_moment ks = if is_bound_word (front ks) then skip_brackets ks else drop 1 ks

abbrev pub skip_value : List TokenKind → List TokenKind
skip_value ks = skip_moment (skip_signs ks)

abbrev pub skip_shift : List TokenKind → List TokenKind
skip_shift ks = when (is_shift_word (front ks)) skip_value (drop 1 ks)

-- signs, and a token
abbrev pub skip_signed : List TokenKind → List TokenKind
skip_signed ks = drop 1 (skip_signs ks)

-- the signs before a power
abbrev pub skip_power_signs : ℕ → List TokenKind → List TokenKind
skip_power_signs op ks = when (op == T_POW) skip_signs ks
