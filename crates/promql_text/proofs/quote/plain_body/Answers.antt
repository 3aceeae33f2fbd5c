use Rattle.std.proofs.Common.{◌≡◌, ℕ, ◌+◌, ◌-◌, List, length, take, drop, sym, ap, ◌∙◌, arith}
use Rattle.std.proofs.lemmas.List.{length-take-le, length-drop}
use Rattle.promql_text.specs.Quoting.{unquoted_text}
use Rattle.promql_text.proofs.quoting.PlainQuotes.{cut_out, unquoted_between}
use Rattle.promql_text.proofs.quote.plain_body.Goals as goal

pub returns : goal.returns
returns c =
    let s : List ℕ = c.args.s.now in
    let bytes : List ℕ = c.as_bytes.result.now in
    let same : bytes ≡ s = c.as_bytes.ensures.value in
    let middle : ℕ = length bytes - 1 - 1 in
    let body : List ℕ = take middle (drop 1 bytes) in
    let count : 1 + length body - 1 ≡ middle =
    (let long = length-drop 1 bytes in let whole = length-take-le middle (drop 1 bytes) (omega (arith, long, c.in-len2-up.len_at_least)) in omega (arith, whole)) in
    let said = unquoted_between bytes c.in-len2-up.len_at_least c.if-last-quote.false (sym c.is_quote.ensures ∙ c.if-not-is_quote.false) (sym c.is_plain.ensures ∙ c.if-not-is_plain.false) in
    let cut : take (1 + length body - 1) (drop 1 s) ≡ body = ap (λ n. take n (drop 1 s)) count ∙ ap (λ z. take middle (drop 1 z)) (sym same) in
    cut_out _ s body 1 (1 + length body) c.get.result (ap unquoted_text (sym same) ∙ said) cut c.get.ensures.cases
