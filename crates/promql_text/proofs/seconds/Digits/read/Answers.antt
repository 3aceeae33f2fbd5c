use Rattle.std.proofs.Common.{◌++◌, ◌∷◌, [], get_or, take, ◌∙◌, sym, ap, subst, append_assoc, arith}
use Rattle.std.proofs.lemmas.List.{take_all}
use Rattle.std.proofs.lemmas.Str.Parse.{digit_at}
use Rattle.promql_text.specs.Rounding.{HasRead}
use Rattle.promql_text.proofs.numerals.DigitsRead.{digit_is, more_taken}
use Rattle.promql_text.proofs.seconds.Digits.read.Goals as goal

pub overflow_sub-b : goal.overflow_sub-b
overflow_sub-b c = (digit_at c.args.digits.now c.loop-b.b-index c.requires (omega arith)).0

pub push-requires : goal.push-requires
push-requires c = let is = digit_at c.args.digits.now c.loop-b.b-index c.requires (omega arith) in omega arith

pub loop-b-preserved : goal.loop-b-preserved
loop-b-preserved c = λ n ds has.
    let all = c.args.digits.now in
    let i = c.loop-b.b-index in
    let b = get_or all i 0 in
    let is = digit_at all i c.requires (omega arith) in
    subst (λ t. HasRead n t c.push.new.self) (append_assoc ds (take i all) (b ∷ []) ∙ ap (λ t. ds ++ t) (sym (more_taken all i (omega arith))))
    (c.push.ensures n (ds ++ take i all) b (digit_is b is.0 is.1) (c.loop-b.invariant n ds has))

pub returns : goal.returns
returns c = λ n ds has.
    let all = c.args.digits.now in
    subst (λ t. HasRead n (ds ++ t) c.loop-b.self) (take_all c.loop-b.b-index all (omega arith)) (c.loop-b.invariant n ds has)
