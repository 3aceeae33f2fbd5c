-- A byte of a string that is neither its quote nor a backslash.
use Rattle.std.proofs.Common.{◌≡◌, ◌≢◌, ℕ, ◌+◌, ◌<◌, false, cond, ◌∷◌, length, get_or, drop, drop-cons, add-one, Ok, sym, ap, ◌∙◌}
use Rattle.std.specs.Prelude.{◌==◌, ◌&&◌, not}
use Rattle.std.proofs.lemmas.Bool.{ne_eqb}
use Rattle.promql_text.specs.Texts.{Text}
use Rattle.promql_token.specs.declared.ids.TheConstants.{T_STRING}
use Rattle.promql_token.specs.TokenScanning.{string_from}

pub plain_byte : (quote : ℕ) (z : Text) (at : ℕ) → at < length z → get_or z at 0 ≢ quote → get_or z at 0 ≢ 92 → string_from quote false (at + 1) (drop (at + 1) z) ≡ string_from quote false at (drop at z)
plain_byte quote z at within no_quote no_slash =
    let b = get_or z at 0 in
    let rest = drop (at + 1) z in
    let front : drop at z ≡ b ∷ rest = drop-cons z at 0 within ∙ ap (λ n. b ∷ drop n z) (sym (add-one at)) in
    sym (ap (string_from quote false at) front
    ∙ ap (λ c. cond c (Ok (T_STRING, at + 1)) (string_from quote ((b == 92) && not (quote == 96)) (at + 1) rest)) (ne_eqb b quote no_quote)
    ∙ ap (λ c. string_from quote (c && not (quote == 96)) (at + 1) rest) (ne_eqb b 92 no_slash))
