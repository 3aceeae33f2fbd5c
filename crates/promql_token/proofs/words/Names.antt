-- A name's run from its first letter on.
use Rattle.std.proofs.Common.{◌≡◌, ℕ, ◌+◌, true, cond, [], ◌∷◌, get_or, sym, ap, ◌∙◌, arith}
use Rattle.std.specs.List.{prefix_len}
use Rattle.std.proofs.lemmas.Grind.{common_steps}
use Rattle.promql_token.specs.declared.class.Class.TheVariants as class
use Rattle.promql_text.specs.Texts.{Text}
use Rattle.promql_token.specs.Classes.{is_letter, end_of_run}
use Rattle.promql_token.specs.WordRanks.{is_name_byte}

letter_in_name : (b : ℕ) → is_letter b ≡ true → is_name_byte b ≡ true
letter_in_name b h = grind (arith, common_steps)

-- a name's end, from its first letter on
pub name_run : (z : Text) → is_letter (get_or z 0 0) ≡ true → end_of_run class.Name z 1 ≡ end_of_run class.Name z 0
name_run [] h = cc
name_run (b ∷ z) h =
    let more : 1 + prefix_len is_name_byte z ≡ 0 + (1 + prefix_len is_name_byte z) = omega arith in
    more ∙ ap (λ c. 0 + cond c (1 + prefix_len is_name_byte z) 0) (sym (letter_in_name b h))
