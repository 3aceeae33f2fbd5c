use Rattle.promql_from_json.proofs.MembersInOrder.{item_there}
use Rattle.serde_json.specs.View.{view}
use Rattle.promql_json.specs.JsonParts.{matcher_json}
use Rattle.promql_from_json.specs.Readable.{ReadableMatcher}
use Rattle.promql_from_json.proofs.ReadForms.{no_list}
use Rattle.promql_from_json.specs.FormMisfits.{matcher}
use Rattle.promql_from_json.specs.declared.from_error.Expected.TheVariants.{List as ListThere}
use Rattle.promql_from_json.proofs.read_labels.read_matcher_list.Goals as goal

pub returns-in-Err-clause-err : goal.returns-in-Err-clause-err
returns-in-Err-clause-err c = λ other ms all.
    no_list ReadableMatcher view matcher_json c.args.list.now ms c.loop-i.i c.index-list-i.result c.loop-i-test.true c.index-list-i.is
    (λ m. c.in-Err.ensures.err (λ e. other (c.inside_item.ensures.memory e)) m) all

pub returns-in-Err-clause-place : goal.returns-in-Err-clause-place
returns-in-Err-clause-place c =
    c.inside_item.ensures.place ListThere matcher _ _ (item_there c.args.list.now c.loop-i.i c.index-list-i.result c.loop-i-test.true c.index-list-i.is) c.in-Err.ensures.place
