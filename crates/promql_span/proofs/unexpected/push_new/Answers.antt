use Rattle.std.proofs.Common.{◌∙◌, ap, bytes_eq, sym}
use Rattle.std.specs.List.{list_any}
use Rattle.promql_span.proofs.Naming.{contains_name}
use Rattle.promql_span.proofs.unexpected.push_new.Goals as goal

pub returns-else-not-contains-clause-has : goal.returns-else-not-contains-clause-has
returns-else-not-contains-clause-has c =
    contains_name c.args.names.now.items c.args.name.now
    (ap (list_any (λ n. bytes_eq n.now c.args.name.now)) (sym c.deref.ensures.value) ∙ sym c.if-not-contains.ensures.value)
