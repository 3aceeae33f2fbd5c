-- Worked examples of the definitions.
use Rattle.std.proofs.Common.{◌≡◌, refl, Ok, Err, true, false}
use Rattle.std.specs.Prelude.{codes}
use Rattle.std.specs.Str.{chars}
use Rattle.std.specs.Fmt.{digits}
use Rattle.promql_text.specs.DecimalForm.{numeral, reading, decimal_form}
use Rattle.promql_text.specs.NumberText.{read_number, number_of, hexadecimal, radix_number, finite, number_text}
use Rattle.promql_text.specs.declared.number.Number.TheVariants.{Finite, NegInf}
use Rattle.promql_text.specs.declared.number.NumberFault.TheVariants.{NotANumber, OutOfRange}

spaced : read_number (codes "1 000") ≡ Ok (Finite (record { is_negative = false; digits = 1; zeros = 3; places = 0 }))
unfolding chars number_of decimal_form reading numeral finite digits
spaced = refl

hex : read_number (codes "- 0x2f ") ≡ Ok (Finite (record { is_negative = true; digits = 47; zeros = 0; places = 0 }))
unfolding chars number_of hexadecimal radix_number digits
hex = refl

octal : read_number (codes "-017") ≡ Ok (Finite (record { is_negative = true; digits = 15; zeros = 0; places = 0 }))
unfolding chars number_of radix_number digits
octal = refl

small : read_number (codes "1e-324") ≡ Ok (Finite (record { is_negative = false; digits = 1; zeros = 0; places = 324 }))
unfolding chars number_of decimal_form reading numeral finite digits
small = refl

too_small : read_number (codes "1e-325") ≡ Err OutOfRange
unfolding chars number_of decimal_form reading numeral finite digits
too_small = refl

huge : read_number (codes "0.1e309") ≡ Ok (Finite (record { is_negative = false; digits = 1; zeros = 308; places = 0 }))
unfolding chars number_of decimal_form reading numeral finite digits
huge = refl

far : read_number (codes "1e99999999999999999999") ≡ Err OutOfRange
unfolding chars number_of decimal_form reading numeral finite digits
far = refl

nothing : read_number (codes "0.0e99999999999999999999") ≡ Ok (Finite (record { is_negative = false; digits = 0; zeros = 0; places = 0 }))
unfolding chars number_of decimal_form reading numeral finite digits
nothing = refl

bad : read_number (codes "0e5") ≡ Err NotANumber
unfolding chars number_of radix_number digits
bad = refl

minus_infinity : read_number (codes "-iNFinity") ≡ Ok NegInf
unfolding chars number_of decimal_form reading numeral finite digits
minus_infinity = refl

text : number_text (Finite (record { is_negative = true; digits = 10005; zeros = 0; places = 4 })) ≡ codes "-1.0005"
unfolding digits
text = refl

text_small : number_text (Finite (record { is_negative = false; digits = 25; zeros = 0; places = 4 })) ≡ codes "0.0025"
unfolding digits
text_small = refl
