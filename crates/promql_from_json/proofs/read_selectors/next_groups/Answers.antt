use Rattle.promql_from_json.proofs.MembersInOrder.{skipped}
use Rattle.std.proofs.Common.{◌∙◌, codes}
use Rattle.serde_json.specs.View.{view}
use Rattle.promql_from_json.proofs.ReadForms.{no_groups, without_groups}
use Rattle.promql_from_json.specs.FormMisfits.{by_row, list_of, matcher}
use Rattle.promql_from_json.specs.declared.from_error.Expected.TheVariants.{FullList, List as ListThere}
use Rattle.promql_from_json.proofs.read_selectors.next_groups.Goals as goal

pub returns-in-Err-clause-err : goal.returns-in-Err-clause-err
returns-in-Err-clause-err c = λ other gs name d ms fine apart h.
    let some = rw c.in-Some.is at c.in_ok-groups.ensures.some in
    no_groups gs name (view c.in-Some.groups.now) d _ _ ms apart (c.in-Err.ensures.err (λ e. other (c.inside.ensures.memory e))) fine some h

pub returns-in-None-clause-rest : goal.returns-in-None-clause-rest
returns-in-None-clause-rest c = λ gs name d ms apart h.
    let same = rw c.in-None.is at c.in_ok-groups.ensures.same in
    let none = rw c.in-None.is at c.in_ok-groups.ensures.none in
    same ∙ without_groups gs _ _ none h

pub returns-in-Err-clause-place : goal.returns-in-Err-clause-place
returns-in-Err-clause-place c = λ f d left is.
    let some = rw c.in-Some.is at c.in_ok-groups.ensures.left in
    c.inside.ensures.place f (list_of FullList (list_of ListThere matcher)) d _ (by_row f (list_of FullList (list_of ListThere matcher)) d (codes "or_matchers") is) (some f d left).0 c.in-Err.ensures.place

pub returns-in-Ok-clause-left : goal.returns-in-Ok-clause-left
returns-in-Ok-clause-left c = λ f d left.
    let some = rw c.in-Some.is at c.in_ok-groups.ensures.left in
    (some f d left).1

pub returns-in-None-clause-left : goal.returns-in-None-clause-left
returns-in-None-clause-left c = λ f d left after next.
    let same = rw c.in-None.is at c.in_ok-groups.ensures.same in
    let none = rw c.in-None.is at c.in_ok-groups.ensures.none in
    rw same (skipped f d _ (codes "or_matchers") after none left next)
