use Rattle.std.proofs.Common.{◌≡◌, ◌∙◌, sym}
use Rattle.promql_from_json.specs.declared.from_error.FromJsonError.TheVariants as from
use Rattle.promql_query.proofs.read_form.read_tree.Goals as goal

pub returns-in-Err-Misfit-clause-err : goal.returns-in-Err-Misfit-clause-err
returns-in-Err-Misfit-clause-err c =
    let found = c.in-Err-Misfit.ensures in
    let is = c.in-Err-Misfit.field-0-is in (
      found.err (λ memory. let same : from.Memory ≡ from.Misfit c.in-Err-Misfit.misfit = sym memory ∙ is in cc),
      found.place c.in-Err-Misfit.misfit is,
    )
