-- The text of a finite number (docs/reference/texts.md, "Numbers").
use Rattle.std.specs.Prelude.{ℕ, ◌-◌, ◌/◌, ◌%◌, ◌^◌, if◌then◌else◌, ◌==◌, [], ◌∷◌, ◌++◌, length, replicate}
use Rattle.std.specs.Fmt.{decimal}
use Rattle.promql_text.specs.Texts.{Text}
use Rattle.promql_text.specs.Numbers.{Exact}

-- the digits of n, with zeros before them up to this length
abbrev pub pad_zeros : ℕ → ℕ → Text
pad_zeros len n = replicate (len - length (decimal n)) 48 ++ decimal n

-- the digits of a number in plain positional form
abbrev pub magnitude_text : Exact → Text
magnitude_text d =
    if d.places == 0 then decimal d.digits ++ replicate d.zeros 48
    else decimal (d.digits / 10 ^ d.places) ++ (46 ∷ pad_zeros d.places (d.digits % 10 ^ d.places))

abbrev pub exact_text : Exact → Text
exact_text d = (if d.is_negative then 45 ∷ [] else []) ++ magnitude_text d
