use Rattle.std.proofs.Common.{◌≡◌, true, subst, ap, take}
use Rattle.std.specs.List.{list_all}
use Rattle.promql_text.specs.DecimalForm.{front}
use Rattle.promql_kind.specs.FunctionRows.{begins_otherwise}
use Rattle.promql_kind.specs.declared.function_table.TheConstants.{FUNCTIONS}
use Rattle.promql_kind.proofs.SkippedRows.{skipped_rows}
use Rattle.promql_kind.proofs.function.first_row.Goals as goal

pub returns-in-len1-up-clause-skipped : goal.returns-in-len1-up-clause-skipped
returns-in-len1-up-clause-skipped c =
    let n = c.first_row_of.result in
    skipped_rows c.args.name.now n FUNCTIONS
    (subst (λ b. list_all (begins_otherwise b) (take n FUNCTIONS) ≡ true) (ap front c.as_bytes.ensures.value) c.first_row_of.ensures.skipped)
