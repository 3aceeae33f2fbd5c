-- Which patterns are plain (docs/reference/matchers.md, "Plain patterns").
-- A pattern is scanned byte by byte: `after` tells what a place comes after.
use Rattle.std.specs.Prelude.{ℕ, ◌+◌, ◌-◌, ◌*◌, Bool, true, false, not, ◌==◌, ◌&&◌, ◌||◌, if◌then◌else◌, [], ◌∷◌, nat_le, nat_lt}
use Rattle.std.specs.Char.{is_ascii, is_ascii_alphanumeric, is_ascii_digit}
use Rattle.promql_text.specs.Texts.{Text, code}
use Rattle.promql_label.specs.declared.plain.After.{After}
use Rattle.promql_label.specs.declared.plain.After.TheVariants as after
use Rattle.promql_label.specs.declared.plain.Scan.{Scan}
use Rattle.promql_label.specs.declared.plain.TheConstants.{MAX_GROUPS}

-- ---- bytes

abbrev pub question_mark : ℕ
question_mark = 63

abbrev pub bar : ℕ
bar = 124

-- `*`, `+` or `?`
abbrev pub is_repetition : ℕ → Bool
is_repetition b = b == 42 || b == 43 || b == 63

-- what a repetition begins with: these or `{`
abbrev pub is_operator : ℕ → Bool
is_operator b = b == 63 || (b == 42 || (b == 43 || b == 123))

-- what a backslash may come before: all of ASCII that is no letter, digit, `<` or `>`, and `d`, `D`, `s`, `S`, `w` and `W`
abbrev pub is_escaped : ℕ → Bool
is_escaped b = is_ascii b && not (is_ascii_alphanumeric b || b == 60 || b == 62) || b == 100 || b == 68 || b == 115 || b == 83 || b == 119 || b == 87

-- ASCII without `[`, `\`, `]`, `^`, `-`, `&` and `~`
abbrev pub is_member : ℕ → Bool
is_member b = is_ascii b && not (b == 91 || b == 92 || b == 93 || b == 94 || b == 45 || b == 38 || b == 126)

-- ---- classes, from `[` to `]`

-- a member, which may begin a range, or an escape
abbrev pub member : ℕ → After
member b =
    if is_member b then after.Member b
    else if b == code "\\" then after.ClassBackslash
    else after.Foreign

abbrev pub in_class : ℕ → After
in_class b = if b == code "]" then after.Item else member b

abbrev pub first_in_class : ℕ → After
first_in_class b = if b == code "-" then after.FirstHyphen else member b

abbrev pub after_hyphen : ℕ → ℕ → After
after_hyphen low b =
    if b == code "]" then after.Item
    else if is_member b && nat_le low b then after.Range
    else after.Foreign

-- ---- counts, from `{` to `}`

abbrev pub digit_of : ℕ → ℕ
digit_of b = b - code "0"

-- a number is below 1,000
abbrev pub after_least : ℕ → ℕ → After
after_least n b =
    if b == code "}" then after.Repetition
    else if b == code "," then after.Comma n
    else if is_ascii_digit b && nat_lt n 100 then after.Least (10 * n + digit_of b)
    else after.Foreign

abbrev pub after_comma : ℕ → ℕ → After
after_comma least b =
    if b == code "}" then after.Repetition
    else if is_ascii_digit b then after.Most least (digit_of b)
    else after.Foreign

-- the second number is no smaller
abbrev pub after_most : ℕ → ℕ → ℕ → After
after_most least n b =
    if b == code "}" then (if nat_le least n then after.Repetition else after.Foreign)
    else if is_ascii_digit b && nat_lt n 100 then after.Most least (10 * n + digit_of b)
    else after.Foreign

-- ---- a byte after another

abbrev pub if_byte : ℕ → ℕ → After → After
if_byte b wanted what = if b == wanted then what else after.Foreign

abbrev pub if_escaped : ℕ → After → After
if_escaped b what = if is_escaped b then what else after.Foreign

-- where an item of one byte or more begins, or a branch
abbrev pub item_or_bar : ℕ → After
item_or_bar b =
    if b == bar then after.Start
    else if b == code "[" then after.Bracket
    else if b == code "\\" then after.Backslash
    else if is_operator b || not (is_ascii b) then after.Foreign
    else after.Item

-- inside an item
abbrev pub inside_item : After → ℕ → After
inside_item after.Question b = if_byte b (code ":") after.Start
inside_item after.Backslash b = if_escaped b after.Item
inside_item after.Bracket b = if b == code "^" then after.Caret else first_in_class b
inside_item after.Caret b = first_in_class b
inside_item after.FirstHyphen b = in_class b
inside_item (after.Member low) b = if b == code "-" then after.Hyphen low else in_class b
inside_item (after.Hyphen low) b = after_hyphen low b
inside_item after.Range b = if b == code "-" then after.LastHyphen else in_class b
inside_item after.ClassBackslash b = if_escaped b after.Range
inside_item after.LastHyphen b = if_byte b (code "]") after.Item
inside_item after.Brace b = if is_ascii_digit b then after.Least (digit_of b) else after.Foreign
inside_item (after.Least n) b = after_least n b
inside_item (after.Comma least) b = after_comma least b
inside_item (after.Most least n) b = after_most least n b
inside_item _ b = after.Foreign

abbrev pub to : Scan → After → Scan
to scan what = record scan { after = what }

abbrev pub open_group : Scan → Scan
open_group scan =
    if nat_lt scan.opened MAX_GROUPS then record scan { opened = scan.opened + 1; after = after.Paren }
    else to scan after.Foreign

abbrev pub close_group : Scan → Scan
close_group scan =
    if nat_lt scan.closed scan.opened then record scan { closed = scan.closed + 1; after = after.Item }
    else to scan after.Foreign

-- an item, `|` or `)`
abbrev pub begin : Scan → ℕ → Scan
begin scan b =
    if b == code "(" then open_group scan
    else if b == code ")" then close_group scan
    else to scan (item_or_bar b)

abbrev pub next_after : After → Scan → ℕ → Scan
next_after after.Start scan b = begin scan b
next_after after.Item scan b =
    if is_repetition b then to scan after.Repetition
    else if b == code "{" then to scan after.Brace
    else begin scan b
next_after after.Repetition scan b = if b == question_mark then to scan after.Start else begin scan b
next_after after.Paren scan b = if b == question_mark then to scan after.Question else begin scan b
next_after what scan b = to scan (inside_item what b)

unfoldable pub next : Scan → ℕ → Scan
next scan b = next_after scan.after scan b

-- ---- patterns

abbrev pub ends_item : After → Bool
ends_item after.Start = true
ends_item after.Item = true
ends_item after.Repetition = true
ends_item _ = false

abbrev pub can_end : Scan → Bool
can_end scan = ends_item scan.after && scan.opened == scan.closed

-- the rest of a plain pattern
abbrev pub is_plain_from : Scan → Text → Bool
is_plain_from scan [] = can_end scan
is_plain_from scan (b ∷ z) = is_plain_from (next scan b) z

abbrev pub start : Scan
start = record { opened = 0; closed = 0; after = after.Start }

-- "Plain patterns"
abbrev pub is_plain : Text → Bool
is_plain v = is_plain_from start v
