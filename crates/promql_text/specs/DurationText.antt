-- The text of a duration: docs/reference/texts.md, "The text of a duration".
use Rattle.std.specs.Prelude.{ℕ, zero, suc, ◌+◌, ◌/◌, ◌%◌, ◌^◌, if◌then◌else◌, ◌==◌, List, [], ◌∷◌, ◌++◌, codes}
use Rattle.std.specs.Fmt.{decimal}
use Rattle.promql_text.specs.Texts.{Text}
use Rattle.promql_text.specs.Durations.{nanos_of, word_of}
use Rattle.promql_text.specs.declared.duration.Unit.{Unit}
use Rattle.promql_text.specs.declared.duration.Unit.TheVariants.{Year, Week, Day, Hour, Minute, Second, Milli}

-- a count and its unit's word; nothing for zero
abbrev pub count_text : ℕ → Unit → Text
count_text n u = if n == 0 then [] else decimal n ++ word_of u

-- nanoseconds in these units, the rest of each in the next
abbrev pub counts_text : List Unit → ℕ → Text
counts_text [] n = []
counts_text (u ∷ us) n = count_text (n / nanos_of u) u ++ counts_text us (n % nanos_of u)

-- whole milliseconds: years, or weeks, where nothing remains, else days, hours, minutes, seconds and milliseconds
abbrev pub whole_text : ℕ → Text
whole_text n =
    if n % nanos_of Year == 0 then count_text (n / nanos_of Year) Year
    else (if n % nanos_of Week == 0 then count_text (n / nanos_of Week) Week
    else counts_text (Day ∷ Hour ∷ Minute ∷ Second ∷ Milli ∷ []) n)

-- r as k digits after a point, without zeros at the end
unfoldable pub fraction_text : ℕ → ℕ → Text
fraction_text zero r = []
fraction_text (suc k) r = if r == 0 then [] else (48 + r / 10 ^ k) ∷ fraction_text k (r % 10 ^ k)

-- the text of a duration of n nanoseconds
unfoldable pub duration_text : ℕ → Text
duration_text n =
    if n == 0 then codes "0s"
    else (if n % nanos_of Milli == 0 then whole_text n
    else decimal (n / nanos_of Second) ++ (46 ∷ fraction_text 9 (n % nanos_of Second)))
