use Rattle.std.proofs.Common.{sym, subst, map, option_map, string_bytes}
use Rattle.regex.specs.Patterns.{Reads, Refuses}
use Rattle.promql_label.proofs.regex_answers.Reading.{read_within_limit, rejected_by_grammar}
use Rattle.promql_label.proofs.pattern.is_read.Goals as goal

pub returns-in-Ok : goal.returns-in-Ok
unfolding Reads
returns-in-Ok c =
    let text = c.args.text.now in
    sym (read_within_limit text _ (λ p h. h.0) (subst (λ config. Reads config text c.in-Ok._parsed.hir (map (option_map string_bytes) c.in-Ok._parsed.names.items)) c.default.ensures c.in-Ok.ensures.ok))

pub returns-in_default : goal.returns-in_default
returns-in_default c =
    let text = c.args.text.now in
    sym (rejected_by_grammar text c.in-Err.error.kind c.in_default.not-OutOfMemory
    (subst (λ config. Refuses config text c.in-Err.error.kind) c.default.ensures c.in-Err.ensures.err))
