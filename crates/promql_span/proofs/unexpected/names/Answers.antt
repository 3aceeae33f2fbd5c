use Rattle.std.proofs.Common.{◌∙◌, ap, refl}
use Rattle.promql_span.proofs.Naming.{all_named, ends_are_named, has_in, has_in_is, no_ends_are_named, one_more_named}
use Rattle.promql_span.proofs.unexpected.names.Goals as goal
use Rattle.promql_span.proofs.unexpected.names.Goals.{then-expected+in_ok-push, else-expected}

pub loop-kind-preserved : goal.loop-kind-preserved
loop-kind-preserved c =
    let ks = c.args.expected.now.kinds.items in
    let pushed = c.in_ok-push_new.ensures in
    one_more_named (has_in ks) c.deref-kind-items.result.now ks c.loop-kind.kind-index _ c.name_of.result.now _ _ c.deref-kind-items.ensures.value
    c.loop-kind-test.true (c.name_of.ensures (has_in ks) (has_in_is ks)) c.loop-kind.invariant pushed.has pushed.keeps pushed.only

pub returns : goal.returns
returns c =
    let ks = c.args.expected.now.kinds.items in
    let ends = c.args.expected.now.ends in
    let named = all_named (has_in ks) c.deref-kind-items.result.now ks c.loop-kind.kind-index _ c.deref-kind-items.ensures.value c.loop-kind-test.false c.loop-kind.invariant in
    elim c.if-expected.branch [
      | then-expected+in_ok-push w ↦
          ends_are_named ks ends c.loop-kind.names.items c.if-expected.names.items _ w.if-expected.true refl (ap (λ v. v.items) w.names-is ∙ w.in_ok-push.ensures.items) named
      | else-expected w ↦
          no_ends_are_named ks ends c.loop-kind.names.items c.if-expected.names.items w.if-expected.false (ap (λ v. v.items) w.names-is) named
    ]
