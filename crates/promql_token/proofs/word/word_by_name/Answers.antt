use Rattle.std.proofs.Common.{◌∙◌, Ok, sym, ap, take}
use Rattle.std.specs.Prelude.{◌==◌, ℕ}
use Rattle.std.proofs.lemmas.Bool.{ne_eqb}
use Rattle.std.proofs.lemmas.List.{take_rest}
use Rattle.promql_token.specs.declared.ids.TheConstants.{T_METRIC_IDENTIFIER}
use Rattle.promql_token.specs.TokenScanning.{Scanned, word_id}
use Rattle.promql_token.proofs.words.Words.{no_colon, word_with_colon, word_without_colon}
use Rattle.promql_token.proofs.word.word_by_name.Goals as goal

pub word_id-requires : goal.word_id-requires
word_id-requires c = no_colon c.args.z.now c.args.name c.requires.name

pub returns-then-byte-eq58 : goal.returns-then-byte-eq58
returns-then-byte-eq58 c =
    let scanned : ℕ → Scanned = λ len. Ok (T_METRIC_IDENTIFIER, len) in
    ap scanned c.end_of_run.ensures.value ∙ sym (word_with_colon c.args.z.now c.args.name c.requires.name (sym c.byte.ensures.value ∙ c.if-byte-eq58.true))

pub returns-else-byte-eq58 : goal.returns-else-byte-eq58
returns-else-byte-eq58 c =
    let z = c.args.z.now in
    let other = ap (λ b. b == 58) (sym c.byte.ensures.value) ∙ ne_eqb _ _ c.if-byte-eq58.false in
    let scanned : ℕ → Scanned = λ id. Ok (id, c.args.name) in
    ap scanned (c.word_id.ensures ∙ ap (word_id (take c.args.name z)) (take_rest z c.args.name)) ∙ sym (word_without_colon z c.args.name c.requires.name other)
