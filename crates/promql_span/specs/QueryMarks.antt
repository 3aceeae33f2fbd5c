-- What a query has in which there may be something that a server reads otherwise. Private: nothing rests on believing it.
use Rattle.std.specs.Prelude.{ℕ, Bool, ◌&&◌, ◌||◌, ◌==◌, [], ◌∷◌, bytes_eq, codes, length, nat_le, take}
use Rattle.std.specs.List.{list_any}
use Rattle.promql_text.specs.Texts.{Text, code}

abbrev pub has : ℕ → Text → Bool
has c = list_any (λ b. b == c)

abbrev pub has_text : Text → Text → Bool
has_text w [] = bytes_eq [] w
has_text w (b ∷ z) = bytes_eq (take (length w) (b ∷ z)) w || has_text w z

-- a digit of a number that is zero, or a byte past ASCII
abbrev pub may_have_zero : Text → Bool
may_have_zero s = has (code "0") s || list_any (nat_le 128) s

-- a part of a number with parts of a thousandth
abbrev pub may_have_fine : Text → Bool
may_have_fine s = has (code ".") s || has (code "-") s

-- the end of the name of a call that looks at a plus
abbrev pub may_look_at_plus : Text → Bool
may_look_at_plus s = has_text (codes "bsent") s || has_text (codes "mestamp") s

-- an escape, a minus and a zero, a time and a part of a thousandth, a plus and a call that looks at it, or a matcher and a call that looks at the order of these
abbrev pub has_mark : Text → Bool
has_mark s =
    has (code "\\") s || ((has (code "-") s && may_have_zero s) || ((has (code "@") s && may_have_fine s)
    || ((has (code "+") s && may_look_at_plus s) || (has (code "=") s && has_text (codes "bsent") s))))
