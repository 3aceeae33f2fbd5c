use Rattle.std.proofs.Common.{rules, ◌∙◌, sym, ap, subst}
use Rattle.promql_from_json.proofs.ReadForms.{err_within}
use Rattle.promql_from_json.proofs.ErrorPlaces.{as_wanted, bool_here, modifier_here}
use Rattle.serde_json.specs.declared.value.Value.{the_lemmas}
use Rattle.promql_from_json.specs.FormMisfits.{modifier}
use Rattle.serde_json.specs.Data.{Data}
use Rattle.serde_json.specs.View.{view}
use Rattle.serde_json.proofs.Views.{view-Object}
use Rattle.promql_from_json.specs.MembersLeft.{IsIn}
use Rattle.promql_from_json.proofs.read_modifiers.read_matching.Goals as goal

pub returns-then-return_bool-clause-place : goal.returns-then-return_bool-clause-place
returns-then-return_bool-clause-place c =
    c.here.ensures _ _ (bool_here c.args.return_bool _ c.if-return_bool.true (search (rules, the_lemmas, c.in-Null.is)))

pub returns-in_default : goal.returns-in_default
returns-in_default c = record {
  matching = tt;
  bool = tt;
  err = search (rules, the_lemmas, c.in_default.not-Null, c.in_default.not-Object);
  place = c.here-in_default.ensures _ _ (modifier_here c.args.return_bool _ (search (rules, the_lemmas, c.in_default.not-Null)) (search (rules, the_lemmas, c.in_default.not-Object)));
}

pub returns-in_err-read_modifier-in-Object-clause-place : goal.returns-in_err-read_modifier-in-Object-clause-place
returns-in_err-read_modifier-in-Object-clause-place c =
    err_within _ c.from_residual.result c.in_err-read_modifier-in-Object.field-0.0 c.from_residual.ensures.1
    (as_wanted c.args.return_bool _ _ (search (rules, the_lemmas, c.in-Object.is))
    (subst (λ (x : Data). IsIn modifier x c.in_err-read_modifier-in-Object.field-0.0) (sym (ap view c.in-Object.is ∙ view-Object c.in-Object.members))
    c.in_err-read_modifier-in-Object.ensures.place))
