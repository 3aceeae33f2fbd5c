-- The options of a program, one and its value at a time.
use Rattle.std.proofs.Common.{◌≡◌, ◌-◌, ◌≤◌, [], ◌∷◌, List, length, drop, take, map, get_or, Some, Global, String, string_bytes, sym, ap, ap₂, ◌∙◌, arith}
use Rattle.std.specs.Prelude.{option_and_then}
use Rattle.std.proofs.lemmas.List.{take_rest}
use Rattle.promql_span.specs.declared.limits.Limits.{Limits}
use Rattle.promql_programs.specs.LimitOptions.{limits_with, with_option}

-- the first option changes the limits, and those after it change what that gives
pub one_option : (limits changed : Limits) (words : List (String Global)) (name value : String Global) → 2 ≤ length words
    → name ≡ get_or words 0 name → value ≡ get_or words 1 value → with_option limits (string_bytes name) (string_bytes value) ≡ Some changed
    → limits_with changed (map string_bytes (take (length words - 2) (drop 2 words))) ≡ limits_with limits (map string_bytes words)
one_option limits changed [] name value long first second changes = absurd (omega (arith, long))
one_option limits changed (w ∷ []) name value long first second changes = absurd (omega (arith, long))
one_option limits changed (w ∷ v ∷ words) name value long first second changes =
    let rest = take_rest (w ∷ v ∷ words) 2 in
    let option : with_option limits (string_bytes w) (string_bytes v) ≡ Some changed =
    ap₂ (λ w v. with_option limits (string_bytes w) (string_bytes v)) (sym first) (sym second) ∙ changes in
    ap (λ words. limits_with changed (map string_bytes words)) rest
    ∙ sym (ap (λ o. option_and_then (λ changed. limits_with changed (map string_bytes words)) o) option)
