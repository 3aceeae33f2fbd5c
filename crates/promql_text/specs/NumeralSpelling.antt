-- How the decimal form is spelled: a relation between texts and what they are (docs/reference/texts.md,
-- "The decimal form").
use Rattle.std.specs.Prelude.{◌≡◌, ◌⊎◌, ℕ, ◌+◌, ◌<◌, Bool, true, false, [], ◌∷◌, ◌++◌, length, codes}
use Rattle.std.specs.Str.{str_to_ascii_lowercase}
use Rattle.std.specs.Str.Parse.{AllDigits}
use Rattle.promql_text.specs.Texts.{Text}
use Rattle.promql_text.specs.DecimalForm.{Numeral, Reading, NotANumber, Infinite, Finite, Signed}

-- `-`, or `+` or nothing
abbrev pub IsSign : Bool → Text → Type 0
IsSign true s = s ≡ 45 ∷ []
IsSign false s = (s ≡ []) ⊎ (s ≡ 43 ∷ [])

-- no exponent, or `e` or `E`, a sign or none, and one or more digits
abbrev pub IsExponent : Numeral → Text → Type 0
IsExponent n t =
    ((t ≡ []) × (n.is_down ≡ false) × (n.exponent ≡ []))
    ⊎ ((e : ℕ) × (sign : Text) × (t ≡ e ∷ (sign ++ n.exponent)) × ((e ≡ 101) ⊎ (e ≡ 69)) × IsSign n.is_down sign × (0 < length n.exponent) × AllDigits 10 n.exponent)

-- digits, a point, or none where no digits follow it, digits, and an exponent or none; among the first two at least one digit
abbrev pub Spells : Numeral → Text → Type 0
Spells n t =
    (point : Text) × (end : Text) × (t ≡ n.whole ++ (point ++ (n.fraction ++ end))) × AllDigits 10 n.whole × AllDigits 10 n.fraction
    × (0 < length n.whole + length n.fraction) × ((point ≡ 46 ∷ []) ⊎ ((point ≡ []) × (n.fraction ≡ []))) × IsExponent n end

-- `nan`, `inf` or `infinity` in any case, or a numeral
abbrev pub IsReading : Reading → Text → Type 0
IsReading NotANumber t = str_to_ascii_lowercase t ≡ codes "nan"
IsReading Infinite t = (str_to_ascii_lowercase t ≡ codes "inf") ⊎ (str_to_ascii_lowercase t ≡ codes "infinity")
IsReading (Finite n) t = Spells n t

-- a sign or none, and one of these
abbrev pub IsDecimalForm : Signed → Text → Type 0
IsDecimalForm f t = (sign : Text) × (body : Text) × (t ≡ sign ++ body) × IsSign f.is_negative sign × IsReading f.reading body
