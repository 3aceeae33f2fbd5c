-- Where the parser stops at a token or before it, no well formed derivation goes on with it, nor one with other texts before it.
use Rattle.std.proofs.Common.{◌≡◌, ℕ, ◌+◌, ◌<◌, ◌≤◌, Bool, true, false, List, [], ◌∷◌, ◌++◌, length, refl, sym, ap, ◌∙◌, append_assoc, append-nil, arith, subst, ⊎_elim}
use Rattle.std.specs.Prelude.{◌==◌, if◌then◌else◌, IfSome}
use Rattle.std.specs.Bool.{then_some}
use Rattle.std.specs.Option.{unwrap_or, option_map}
use Rattle.std.proofs.lemmas.Bool.{cases_lt}
use Rattle.std.proofs.lemmas.Option.{slice_get_past}
use Rattle.promql_text.specs.Texts.{Text}
use Rattle.promql_grammar.specs.Grammar.{Derivation, IsWellFormed, yield}
use Rattle.promql_grammar.specs.Misfits.{AreMisfits}
use Rattle.promql_grammar.specs.Symbols.{Symbol, punct, word, is_punct, symbol, token_kind}
use Rattle.promql_grammar.specs.declared.token_kinds.TokenKind.{TokenKind}
use Rattle.promql_grammar.specs.declared.token_kinds.TokenKind.TheVariants.{Other}
use Rattle.promql_grammar.specs.declared.token_kinds.TheConstants.{TOKEN_KINDS}
use Rattle.promql_span.specs.TokensBefore.{AreAlike, GoesOn, IsQuery}
use Rattle.promql_span.proofs.Respelling.{alike_append, derivation_again, same_alike}

-- a token with another text in place of the last one
alike_symbols : (b : Bool) (k : TokenKind) (text other : Text) (ts : List Symbol) → AreAlike ((if b then punct k else word k text) ∷ ts) ((if b then punct k else word k other) ∷ ts)
alike_symbols true k text other ts = (refl, same_alike ts)
alike_symbols false k text other ts = (refl, same_alike ts)

pub no_token_goes_on : (front near : List Symbol) (k : TokenKind) (text : Text) (ts rest : List Symbol) → AreAlike front near → ts ≡ near ++ symbol k text ∷ [] → AreMisfits ts rest → (length rest == 0) ≡ false → GoesOn front k → ⊥
no_token_goes_on front near k text ts [] same is misfits some goes = let no : true ≡ false = some in cc
no_token_goes_on front near k text ts (x ∷ rest) same is misfits some goes =
    let others = goes.2 in
    let asked : List Symbol = near ++ symbol k text ∷ others in
    let alike : AreAlike (front ++ symbol k goes.1 ∷ others) asked = alike_append front (symbol k goes.1 ∷ others) near (symbol k text ∷ others) same (alike_symbols (is_punct k) k goes.1 text others) in
    let again = derivation_again goes.0 asked goes.3 (subst (λ l. AreAlike l asked) (sym goes.4) alike) in
    misfits.2 again.it (rest ++ others) again.formed
    (again.spells ∙ sym (append_assoc near (symbol k text ∷ []) others) ∙ ap (λ l. l ++ others) (sym is ∙ misfits.1) ∙ append_assoc misfits.0 (x ∷ rest) others)

-- where the parser stops, no well formed derivation has these tokens
no_whole : (ts rest : List Symbol) → AreMisfits ts rest → (d : Derivation) → IsWellFormed d → ¬ (yield d ≡ ts)
no_whole ts [] misfits d formed is = misfits.2 d formed (is ∙ misfits.1 ∙ append-nil misfits.0)
no_whole ts (x ∷ rest) misfits d formed is = misfits.2 d rest formed (is ∙ misfits.1)

pub no_query : (front near ts rest : List Symbol) → AreAlike front near → ts ≡ near → AreMisfits ts rest → IsQuery front → ⊥
no_query front near ts rest same is misfits query =
    let again = derivation_again query.0 near query.1 (subst (λ l. AreAlike l near) (sym query.2) same) in
    no_whole ts rest misfits again.it again.formed (again.spells ∙ sym is)

-- an id past the table has no kind of its own
pub past_kinds : (id : ℕ) → 86 ≤ id → token_kind id ≡ Other
past_kinds id past = ap (λ found. unwrap_or (option_map (λ row. row.1) found) Other) (slice_get_past TOKEN_KINDS id past)

-- what is not false is true
pub not_false : (b : Bool) → (b ≡ false → ⊥) → b ≡ true
not_false true _ = refl
not_false false never = absurd (never refl)

-- what holds of all numbers below one, and of it, holds of all below the next
pub below_next : (P : ℕ → Type 0) (n : ℕ) → ((i : ℕ) → i < n → P i) → P n → (i : ℕ) → i < n + 1 → P i
below_next P n before here i less = ⊎_elim (λ earlier. before i earlier) (λ later. let same : n ≡ i = omega arith in subst P same here) (cases_lt i n)

-- what a value has under a condition, the value has that is there under it alone
pub then_has : {X : Type 0} (P : X → Type 0) (b : Bool) (x : X) → (b ≡ true → P x) → IfSome (then_some b x) P
then_has P true x holds = holds refl
then_has P false x holds = tt
