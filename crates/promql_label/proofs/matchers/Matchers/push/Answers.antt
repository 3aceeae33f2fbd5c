use Rattle.std.proofs.Common.{arith, map, ap, ◌∙◌, refl}
use Rattle.std.specs.Prelude.{Vec, Result, Ok, Err, OnErr}
use Rattle.std.specs.declared.alloc.Global.{Global}
use Rattle.std.proofs.lemmas.List.{map-append}
use Rattle.promql_label.specs.declared.matcher.Matcher.{Matcher}
use Rattle.promql_label.specs.MatcherViews.{plain_matcher_of}
use Rattle.promql_label.proofs.order.Groups.{appended_set, kept_set}
use Rattle.promql_label.proofs.matchers.Matchers.push.Goals as goal

pub returns-in_ok-push-in-Some-clause-appended : goal.returns-in_ok-push-in-Some-clause-appended
returns-in_ok-push-in-Some-clause-appended c =
    let f = λ (g : Vec Matcher Global). map plain_matcher_of g.items in
    let groups = c.args.self.now.or_matchers in
    let length_is = groups.ok.0 in
    let some = c.in-Some.ensures.variant.0 refl in
    appended_set f _ groups.items _ _ c.in-Some.group.now (plain_matcher_of c.args.matcher) (omega arith) c.in-Some.ensures.value
    (ap (map plain_matcher_of) c.in_ok-push-in-Some.ensures.items ∙ map-append plain_matcher_of _ _)

on_err : {T E : Type 0} {P : Type 0} (r : Result T E) → P → OnErr r P
on_err (Ok _) p = search
on_err (Err _) p = p

pub returns-in_err-push-in-Some-clause-unchanged : goal.returns-in_err-push-in-Some-clause-unchanged
returns-in_err-push-in-Some-clause-unchanged c =
    let f = λ (g : Vec Matcher Global). map plain_matcher_of g.items in
    let groups = c.args.self.now.or_matchers in
    on_err _ (kept_set f _ groups.items _ _ c.in-Some.group.now c.in-Some.ensures.value (ap (map plain_matcher_of) c.in_err-push-in-Some.ensures.items))
