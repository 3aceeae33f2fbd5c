use Rattle.std.proofs.Common.{◌≡◌, None, ap, sym, ◌∙◌}
use Rattle.promql_text.specs.Texts.{Text}
use Rattle.promql_span.specs.declared.limits.Limits.{Limits}
use Rattle.promql_span.specs.declared.target.Target.TheVariants.{Rules}
use Rattle.promql_target.specs.Refusals.{checked_by, first_refusal, refusal}
use Rattle.promql_target.proofs.NoRefusals.{no_refusal}
use Rattle.promql_target.proofs.inspected.inspect_printed.Goals as goal

none_refused : (limits : Limits) (query : Text) → checked_by limits.printed limits.target ≡ Rules → None ≡ refusal limits query
none_refused limits query printed = sym (ap (λ target. first_refusal target query) printed ∙ no_refusal query)

pub returns-then-not-may_differ-clause-refusal : goal.returns-then-not-may_differ-clause-refusal
returns-then-not-may_differ-clause-refusal c = none_refused c.args.limits.now c.args.query.now c.requires.printed

pub returns-in-None-clause-refusal : goal.returns-in-None-clause-refusal
returns-in-None-clause-refusal c = none_refused c.args.limits.now c.args.query.now c.requires.printed
