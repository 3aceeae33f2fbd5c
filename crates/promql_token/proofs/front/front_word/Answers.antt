use Rattle.std.proofs.Common.{◌≡◌, ◌∙◌, sym, ap, subst, Some, take, drop}
use Rattle.std.specs.Prelude.{IfSome}
use Rattle.std.specs.Result.{result_ok}
use Rattle.promql_token.specs.declared.state.State.{State}
use Rattle.promql_token.specs.declared.class.Class.TheVariants as class
use Rattle.promql_token.specs.Classes.{is_letter, end_of_run}
use Rattle.promql_token.specs.Front.{IsFrontWord}
use Rattle.promql_token.specs.TokenScanning.{word_id, braces_id, word, word_in_braces}
use Rattle.promql_token.proofs.cursors.FrontTokens.{front_word_outside, front_word_in_braces}
use Rattle.promql_token.proofs.front.front_word.Goals as goal

pub returns-in-Outside : goal.returns-in-Outside
unfolding word
returns-in-Outside c =
    let s = c.args.state in
    let z = c.args.z.now in
    let n = end_of_run class.Word z 0 in
    let letter = ap is_letter (sym c.byte.ensures.value) ∙ sym c.is_letter.ensures ∙ c.if-not-is_letter.false in
    let found : c.ok.result ≡ Some (word_id (take n z) (drop n z), n) = c.ok.ensures.value ∙ ap result_ok c.word_by_name.ensures in
    let front = front_word_outside s.depth z letter in
    subst (λ r. IfSome r (λ x. IsFrontWord s z x.0 x.1)) (sym found)
    (subst (λ m. let state : State = record { depth = s.depth; mode = m } in IsFrontWord state z (word_id (take n z) (drop n z)) n) (sym c.in-Outside.is) front)

pub returns-in-Braces : goal.returns-in-Braces
unfolding word_in_braces
returns-in-Braces c =
    let s = c.args.state in
    let z = c.args.z.now in
    let n = end_of_run class.Name z 0 in
    let letter = ap is_letter (sym c.byte.ensures.value) ∙ sym c.is_letter.ensures ∙ c.if-not-is_letter.false in
    let found : c.ok-in-Braces.result ≡ Some (braces_id (take n z) (drop n z), n) = c.ok-in-Braces.ensures.value ∙ ap result_ok c.braces_word_by_name.ensures in
    let front = front_word_in_braces s.depth z letter in
    subst (λ r. IfSome r (λ x. IsFrontWord s z x.0 x.1)) (sym found)
    (subst (λ m. let state : State = record { depth = s.depth; mode = m } in IsFrontWord state z (braces_id (take n z) (drop n z)) n) (sym c.in-Braces.is) front)
