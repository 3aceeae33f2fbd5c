-- The measure of a pattern (docs/reference/matchers.md, "The measure of a pattern").
use Rattle.std.specs.Prelude.{ℕ, ◌+◌, ◌*◌, ◌^◌, max, ◌==◌, ◌&&◌, ◌||◌, Bool, false, if◌then◌else◌, [], ◌∷◌, count_by, drop, length, not, take_while}
use Rattle.std.specs.Char.{is_ascii_alphabetic, is_ascii_alphanumeric, is_ascii_digit}
use Rattle.std.specs.List.{list_any}
use Rattle.promql_text.specs.Texts.{Text, code}
use Rattle.promql_label.specs.PlainPatterns.{digit_of}

-- the greatest number up to a brace or the end, after the digits of n: a comma ends a number, and what is no digit may come between its own
abbrev pub greatest : ℕ → Text → ℕ
greatest n [] = n
greatest n (b ∷ z) =
    if b == code "{" || b == code "}" then n
    else if b == code "," then max n (greatest 0 z)
    else if is_ascii_digit b then greatest (10 * n + digit_of b) z
    else greatest n z

-- a count after such a byte repeats one item, no group and no repetition
abbrev pub ends_item : ℕ → Bool
ends_item b = is_ascii_alphanumeric b || b == code "." || b == code "]"

-- one more than the greatest number of those counts; a text comes after the byte `before`
abbrev pub item_repeats : ℕ → Text → ℕ
item_repeats before [] = 1
item_repeats before (b ∷ z) = max (if b == code "{" && ends_item before then 1 + greatest 0 z else 1) (item_repeats b z)

-- one more than the greatest number of each other count, multiplied
abbrev pub group_repeats : ℕ → Text → ℕ
group_repeats before [] = 1
group_repeats before (b ∷ z) = (if b == code "{" && not (ends_item before) then 1 + greatest 0 z else 1) * group_repeats b z

-- a comment, which begins with `#`, may hide braces and commas: then it is ten for each digit after the first `{`
abbrev pub repeats : Text → ℕ
repeats v =
    if list_any (λ b. b == code "#") v then 10 ^ count_by is_ascii_digit (drop (length (take_while (λ b. not (b == code "{")) v)) v)
    else item_repeats 0 v * group_repeats 0 v

-- flags are letters and hyphens
abbrev pub is_flag : ℕ → Bool
is_flag b = is_ascii_alphabetic b || b == code "-"

-- case may be folded: an `i` comes among flags that a `?` begins
abbrev pub may_fold : (in_flags : Bool) → Text → Bool
may_fold in_flags [] = false
may_fold in_flags (b ∷ z) = in_flags && b == code "i" || may_fold (b == code "?" || in_flags && is_flag b) z

-- a byte may begin a class, or be of an operator of classes
abbrev pub is_set_sign : ℕ → Bool
is_set_sign b = b == code "[" || b == code "-" || b == code "&" || b == code "~"

-- the letters right after a backslash; a text comes after the byte `before`
abbrev pub letter_escapes : ℕ → Text → ℕ
letter_escapes before [] = 0
letter_escapes before (b ∷ z) = (if before == code "\\" && is_ascii_alphabetic b then 1 else 0) + letter_escapes b z

-- an escaped letter may be a class of many ranges, as `\w`; folding its case costs more, and each class around it and each operator fold again
abbrev pub class_weight : Text → ℕ
class_weight v =
    if may_fold false v then (letter_escapes 0 v + 1) * (count_by is_set_sign v + 1) * 22
    else 22 * letter_escapes 0 v

-- the bytes of the anchored text, and what its classes weigh, so often
abbrev pub measure : Text → ℕ
measure v = (length v + 6 + class_weight v) * repeats v
