-- Where parsing stops at a token, no well formed derivation begins with the tokens up to and with it.
use Rattle.std.proofs.Common.{◌≡◌, ℕ, ⊎_elim, refl, sym, ◌∙◌, ap, subst, arith, List, [], ◌∷◌, ◌++◌, length, length-append, append-nil}
use Rattle.std.specs.Prelude.{Ok, Err}
use Rattle.std.proofs.lemmas.Bool.{cases_lt}
use Rattle.promql_grammar.specs.Symbols.{Symbol}
use Rattle.promql_grammar.specs.Grammar.{Derivation, IsWellFormed, height, yield}
use Rattle.promql_grammar.specs.Misfits.{NoneFits, AreMisfits}
use Rattle.promql_grammar.specs.Parsing.{Read, misfit, too_high, parse_expression}
use Rattle.promql_grammar.proofs.ExpressionPrefixes.{misfit_ends, left_ends, misfit_alike, left_alike}
use Rattle.promql_grammar.proofs.Unique.{whole}
use Rattle.promql_grammar.proofs.Within.{within_low, within_high}

-- the tokens of a derivation are read with nothing left, or are too high
abbrev IsWhole : Read Derivation → Type 0
IsWhole (Ok y) = length y.1 ≡ 0
IsWhole (Err too_high) = Unit {0}
IsWhole (Err (misfit us)) = ⊥

whole_or_high : (n : ℕ) (d : Derivation) → IsWellFormed d → IsWhole (parse_expression n 0 (yield d))
whole_or_high n d formed =
    let r : Read Derivation = Ok (d, []) in
    subst IsWhole (sym (whole n d formed))
    (⊎_elim (λ high. subst IsWhole (sym (within_high n (height d) r high)) tt) (λ low. subst IsWhole (sym (within_low n (height d) r low)) refl) (cases_lt n (height d)))

-- so lists that are read otherwise are no tokens of a derivation
no_misfit : (n : ℕ) (ts us : List Symbol) (d : Derivation) → IsWellFormed d → yield d ≡ ts → parse_expression n 0 ts ≡ Err (misfit us) → ⊥
no_misfit n ts us d formed spells is = subst IsWhole (ap (parse_expression n 0) spells ∙ is) (whole_or_high n d formed)

nothing_left : (n : ℕ) (ts us : List Symbol) (d e : Derivation) → IsWellFormed d → yield d ≡ ts → parse_expression n 0 ts ≡ Ok (e, us) → length us ≡ 0
nothing_left n ts us d e formed spells is = subst IsWhole (ap (parse_expression n 0) spells ∙ is) (whole_or_high n d formed)

module _ (n : ℕ) (front : List Symbol) where
  none_fits : (rest : List Symbol) → parse_expression n 0 (front ++ rest) ≡ Err (misfit rest) → NoneFits front rest
  none_fits [] is = λ d formed spells. no_misfit n (front ++ []) [] d formed (spells ∙ sym (append-nil front)) is
  none_fits (x ∷ rest) is = λ d others formed spells. let a = misfit_alike n front rest others x is in no_misfit n (front ++ x ∷ others) a.0 d formed spells a.1

  none_fits_after : (x : Symbol) (rest : List Symbol) (e : Derivation) → parse_expression n 0 (front ++ x ∷ rest) ≡ Ok (e, x ∷ rest) → NoneFits front (x ∷ rest)
  none_fits_after x rest e is = λ d others formed spells.
      let a = left_alike n front rest others x e is in
      absurd (omega (arith, nothing_left n (front ++ x ∷ others) (a.0 ++ x ∷ others) d e formed spells a.1, length-append a.0 (x ∷ others)))

pub misfits : (n : ℕ) (ts us : List Symbol) → parse_expression n 0 ts ≡ Err (misfit us) → AreMisfits ts us
misfits n ts us is =
    let e = misfit_ends n ts us is in
    (e.0, e.1, none_fits n e.0 us (ap (parse_expression n 0) (sym e.1) ∙ is))

pub misfits_after : (n : ℕ) (ts : List Symbol) (x : Symbol) (us : List Symbol) (d : Derivation) → parse_expression n 0 ts ≡ Ok (d, x ∷ us) → AreMisfits ts (x ∷ us)
misfits_after n ts x us d is =
    let e = left_ends n ts d (x ∷ us) is in
    (e.0, e.1, none_fits_after n e.0 x us d (ap (parse_expression n 0) (sym e.1) ∙ is))

-- so none has all the tokens
pub none_spells : (ts rest : List Symbol) → AreMisfits ts rest → (d : Derivation) → IsWellFormed d → yield d ≡ ts → ⊥
none_spells ts rest are d formed spells = go rest are.2 (spells ∙ are.1)
  where
    go : (us : List Symbol) → NoneFits are.0 us → yield d ≡ are.0 ++ us → ⊥
    go [] none is = none d formed (is ∙ append-nil are.0)
    go (x ∷ us) none is = none d us formed is
