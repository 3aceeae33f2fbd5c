-- Durations of one part.
use Rattle.std.proofs.Common.{◌≡◌, inl, inr, ◌+◌, ◌*◌, [], ◌∷◌, ◌++◌, None, Some, refl, sym, ap, ◌∙◌, append-nil, arith}
use Rattle.std.specs.Str.Parse.{digits_value}
use Rattle.promql_text.specs.Texts.{Text}
use Rattle.promql_text.specs.DecimalForm.{decimal_form}
use Rattle.promql_text.specs.Durations.{nanos_of, word_of, units, parts_nanos}
use Rattle.promql_text.specs.DurationForms.{AreParts}
use Rattle.promql_text.specs.DurationReaders.{Part, IsCount, parts_text}
use Rattle.promql_text.specs.declared.duration.Unit.{Unit}
use Rattle.promql_text.specs.declared.duration.Unit.TheVariants.{Year, Week, Day, Hour, Minute, Second, Milli}
use Rattle.promql_text.proofs.durations.DurationParts.{parts_form, units_read}

one_part : (p : Part) → IsCount p.0 → AreParts units (p ∷ [])
unfolding units
one_part p is = by_unit p.1 refl
  where
    by_unit : (u : Unit) → p.1 ≡ u → AreParts (Year ∷ Week ∷ Day ∷ Hour ∷ Minute ∷ Second ∷ Milli ∷ []) (p ∷ [])
    by_unit Year e = inl (e, is, tt)
    by_unit Week e = inr (inl (e, is, tt))
    by_unit Day e = inr (inr (inl (e, is, tt)))
    by_unit Hour e = inr (inr (inr (inl (e, is, tt))))
    by_unit Minute e = inr (inr (inr (inr (inl (e, is, tt)))))
    by_unit Second e = inr (inr (inr (inr (inr (inl (e, is, tt))))))
    by_unit Milli e = inr (inr (inr (inr (inr (inr (inl (e, is, tt)))))))

part_text : (ds word : Text) (u : Unit) → word_of u ≡ word → parts_text ((ds, u) ∷ []) ≡ ds ++ word
part_text ds word u spelled = ap (λ w. ds ++ w) (append-nil (word_of u) ∙ spelled)

-- digits and a unit's word are no number of seconds
pub part_no_number : (ds word : Text) (u : Unit) → IsCount ds → word_of u ≡ word → decimal_form (ds ++ word) ≡ None
part_no_number ds word u is spelled =
    let p : Part = (ds, u) in
    ap decimal_form (sym (part_text ds word u spelled)) ∙ parts_form (p ∷ []) (omega arith) (one_part p is)

-- and so many of the unit's nanoseconds
pub part_nanos : (ds word : Text) (u : Unit) → IsCount ds → word_of u ≡ word → parts_nanos units (ds ++ word) ≡ Some (digits_value 10 ds * nanos_of u)
part_nanos ds word u is spelled =
    let p : Part = (ds, u) in
    let sum : digits_value 10 ds * nanos_of u + 0 ≡ digits_value 10 ds * nanos_of u = omega arith in
    ap (parts_nanos units) (sym (part_text ds word u spelled)) ∙ units_read (p ∷ []) (one_part p is) ∙ ap Some sum
