use Rattle.std.proofs.Common.{◌-◌, ◌∙◌, ap, ap₂, sym, length, drop, take, map, string_bytes}
use Rattle.std.proofs.lemmas.List.{take_rest}
use Rattle.promql_programs.specs.FormatSettings.{is_flag, settings_with, with_flag, with_option}
use Rattle.promql_programs.proofs.FormatOptionSteps.{one_flag, one_option}
use Rattle.promql_programs.proofs.format_settings.settings_with.Goals as goal

pub loop-rest-preserved-then-is_flag : goal.loop-rest-preserved-then-is_flag
loop-rest-preserved-then-is_flag c =
    let s = c.loop-rest.changed in
    let words = c.loop-rest.rest.now in
    let is = ap is_flag (sym c.as_str.ensures.value) ∙ sym c.is_flag.ensures ∙ c.if-is_flag.true in
    let changes = c.with_flag-changed.ensures ∙ ap (with_flag s) c.as_str-then-is_flag.ensures.value in
    ap (λ t. settings_with t (map string_bytes (take (length words - 1) (drop 1 words)))) changes
    ∙ one_flag s words c.word-item.result c.in-len1-up.len_at_least c.word-item.is is
    ∙ c.loop-rest.invariant

pub loop-rest-preserved : goal.loop-rest-preserved
loop-rest-preserved c =
    let s = c.loop-rest.changed in
    let words = c.loop-rest.rest.now in
    let is = ap is_flag (sym c.as_str.ensures.value) ∙ sym c.is_flag.ensures ∙ c.if-is_flag.false in
    let changes =
    ap₂ (with_option s) (sym c.as_str-else-is_flag.ensures.value) (sym c.as_str-else-is_flag-2.ensures.value)
    ∙ sym c.with_option.ensures ∙ c.in_ok-changed.was in
    one_option s c.in_ok-changed.changed words (take (length words - 1) (drop 1 words)) c.word-item.result c.value-item.result (take_rest words 1)
    c.in-len1-up-after.len_at_least c.word-item.is c.value-item.is is changes
    ∙ c.loop-rest.invariant
