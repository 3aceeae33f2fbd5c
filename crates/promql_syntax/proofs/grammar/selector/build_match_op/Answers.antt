use Rattle.std.proofs.Common.{◌∙◌, sym, subst, Err}
use Rattle.promql_syntax.specs.Asking.{Ends}
use Rattle.promql_syntax.specs.PartBuilding.{operator_value}
use Rattle.promql_syntax.proofs.building.MatcherBuilding.{matches_ends, matches_fails, matches_not_ends, matches_not_fails}
use Rattle.promql_syntax.proofs.grammar.selector.build_match_op.Goals as goal

pub returns-in-Ok : goal.returns-in-Ok
returns-in-Ok c = λ s is.
    let allowed = rw c.in-Ok.is at (c.in_ok-pattern-in-EqualRegex).ensures in
    let ended = matches_ends s c.args.value.now c.in-Ok.pattern (sym c.in-EqualRegex.is ∙ is) allowed in
    record { answers = ended.answers; allowed = ended.allowed; ends = ended.ends }

pub returns-in-Err : goal.returns-in-Err
returns-in-Err c = λ s is.
    let fault = rw c.in-Err.is at (c.in_ok-pattern-in-EqualRegex).ensures in
    let ended = matches_fails s c.args.value.now (sym c.in-EqualRegex.is ∙ is) fault.1 in
    let moved = subst (λ e. Ends (operator_value s c.args.value.now) ended.answers (Err e)) (sym fault.0) ended.ends in
    record { answers = ended.answers; allowed = ended.allowed; ends = moved }

pub returns-in-Ok-2 : goal.returns-in-Ok-2
returns-in-Ok-2 c = λ s is.
    let allowed = rw c.in-Ok-2.is at (c.in_ok-pattern-in-NotEqualRegex).ensures in
    let ended = matches_not_ends s c.args.value.now c.in-Ok-2.pattern (sym c.in-NotEqualRegex.is ∙ is) allowed in
    record { answers = ended.answers; allowed = ended.allowed; ends = ended.ends }

pub returns-in-Err-2 : goal.returns-in-Err-2
returns-in-Err-2 c = λ s is.
    let fault = rw c.in-Err-2.is at (c.in_ok-pattern-in-NotEqualRegex).ensures in
    let ended = matches_not_fails s c.args.value.now (sym c.in-NotEqualRegex.is ∙ is) fault.1 in
    let moved = subst (λ e. Ends (operator_value s c.args.value.now) ended.answers (Err e)) (sym fault.0) ended.ends in
    record { answers = ended.answers; allowed = ended.allowed; ends = moved }
