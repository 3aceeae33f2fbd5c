use Rattle.promql_from_json.proofs.MembersInOrder.{item_there}
use Rattle.serde_json.specs.Data.{string}
use Rattle.serde_json.specs.View.{view}
use Rattle.promql_from_json.proofs.ReadForms.{no_plain_list}
use Rattle.promql_from_json.specs.FormMisfits.{one}
use Rattle.promql_from_json.specs.declared.from_error.Expected.TheVariants.{List as ListThere, Text}
use Rattle.promql_from_json.proofs.read_labels.read_label_list.Goals as goal

pub returns-in-Err-clause-err : goal.returns-in-Err-clause-err
returns-in-Err-clause-err c = λ other ls.
    no_plain_list view string c.args.list.now ls c.loop-i.i c.index-list-i.result c.loop-i-test.true c.index-list-i.is
    (λ s. c.in-Err.ensures.err (λ m. other (c.inside_item.ensures.memory m)) s)

pub returns-in-Err-clause-place : goal.returns-in-Err-clause-place
returns-in-Err-clause-place c =
    c.inside_item.ensures.place ListThere (one Text) _ _ (item_there c.args.list.now c.loop-i.i c.index-list-i.result c.loop-i-test.true c.index-list-i.is) c.in-Err.ensures.place
