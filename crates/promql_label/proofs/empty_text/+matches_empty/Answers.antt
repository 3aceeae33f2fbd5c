use Rattle.std.proofs.Common.{◌≡◌, ℕ, ◌+◌, ◌<◌, ◌==◌, List, ◌∷◌, drop, get_or, length, map, vec_len, sym, ap, ◌∙◌, arith}
use Rattle.std.proofs.lemmas.List.{drop_all, drop_more}
use Rattle.regex_hir.specs.Meaning.{alt_all, cat_all, meaning}
use Rattle.regex_hir.specs.Re.{Re}
use Rattle.regex_hir.specs.declared.hir.Hir.{Hir}
use Rattle.regex_hir.proofs.MeaningLemmas.{meaning-Empty, meaning-Literal, meaning-Bytes, meaning-Chars, meaning-Look, meaning-Repetition, meaning-Capture}
use Rattle.promql_label.proofs.regex_answers.EmptyText.{byte_takes, char_takes, empty_takes, first_fails, first_goes_on, first_is_left, first_works, group_takes, literal_takes, look_takes, no_branch_takes, no_repeat_takes, repeat_takes, takes_nothing}
use Rattle.promql_label.proofs.empty_text.+matches_empty.Goals as goal

pub matches_empty-returns-in-Empty : goal.matches_empty-returns-in-Empty
matches_empty-returns-in-Empty t c = sym (ap takes_nothing (ap meaning c.in-Empty.is ∙ meaning-Empty) ∙ empty_takes)

pub matches_empty-returns-in-Literal : goal.matches_empty-returns-in-Literal
matches_empty-returns-in-Literal t c =
    let bytes = c.in-Literal.bytes in
    let same : vec_len bytes ≡ length bytes.items = omega arith in
    c.is_empty.ensures ∙ ap (λ n. n == 0) same ∙ sym (ap takes_nothing (ap meaning c.in-Literal.is ∙ meaning-Literal _) ∙ literal_takes _)

pub matches_empty-returns-in-Bytes : goal.matches_empty-returns-in-Bytes
matches_empty-returns-in-Bytes t c = sym (ap takes_nothing (ap meaning c.in-Bytes.is ∙ meaning-Bytes _) ∙ byte_takes _)

pub matches_empty-returns-in-Chars : goal.matches_empty-returns-in-Chars
matches_empty-returns-in-Chars t c = sym (ap takes_nothing (ap meaning c.in-Chars.is ∙ meaning-Chars _) ∙ char_takes _)

pub matches_empty-returns-in-Look : goal.matches_empty-returns-in-Look
matches_empty-returns-in-Look t c = c.holds.ensures ∙ sym (ap takes_nothing (ap meaning c.in-Look.is ∙ meaning-Look _) ∙ look_takes _)

pub matches_empty-returns-then-min-eq0 : goal.matches_empty-returns-then-min-eq0
matches_empty-returns-then-min-eq0 t c =
    sym (ap takes_nothing (ap meaning c.in-Repetition.is ∙ meaning-Repetition _ _ _ _) ∙ no_repeat_takes _ _ _ _ c.if-min-eq0.true)

pub matches_empty-returns-else-min-eq0 : goal.matches_empty-returns-else-min-eq0
matches_empty-returns-else-min-eq0 t c =
    c.matches_empty.ensures ∙ ap (λ h. takes_nothing (meaning h)) c.deref.ensures
    ∙ sym (ap takes_nothing (ap meaning c.in-Repetition.is ∙ meaning-Repetition _ _ _ _) ∙ repeat_takes _ _ _ _ c.if-min-eq0.false)

pub matches_empty-returns-in-Capture : goal.matches_empty-returns-in-Capture
matches_empty-returns-in-Capture t c =
    c.matches_empty-in-Capture.ensures ∙ ap (λ h. takes_nothing (meaning h)) c.deref-in-Capture.ensures
    ∙ sym (ap takes_nothing (ap meaning c.in-Capture.is ∙ meaning-Capture _ _) ∙ group_takes _ _)

-- ---- parts

-- the part at a place, before what is left after it
one_more : (f : List Re → Re) (parts : List Hir) (i : ℕ) (part : Hir) → i < length parts → part ≡ get_or parts i part
    → takes_nothing (f (map meaning (drop i parts))) ≡ takes_nothing (f (meaning part ∷ map meaning (drop (i + 1) parts)))
one_more f parts i part within is =
    ap (λ ps. takes_nothing (f (map meaning ps))) (drop_more parts i part within ∙ ap (λ h. h ∷ drop (i + 1) parts) (sym is))

pub all_match_empty-returns-then-not-matches_empty : goal.all_match_empty-returns-then-not-matches_empty
all_match_empty-returns-then-not-matches_empty t c =
    sym (sym c.loop-part.invariant
    ∙ one_more cat_all c.args.parts.now c.loop-part.part-index _ c.loop-part-test.true c.part-item.is
    ∙ first_fails _ _ (sym c.matches_empty.ensures ∙ c.if-not-matches_empty.true))

pub all_match_empty-loop-part-preserved : goal.all_match_empty-loop-part-preserved
all_match_empty-loop-part-preserved t c =
    sym (one_more cat_all c.args.parts.now c.loop-part.part-index _ c.loop-part-test.true c.part-item.is
    ∙ first_goes_on _ _ (sym c.matches_empty.ensures ∙ c.if-not-matches_empty.false))
    ∙ c.loop-part.invariant

pub all_match_empty-returns : goal.all_match_empty-returns
all_match_empty-returns t c =
    sym (sym c.loop-part.invariant
    ∙ ap (λ ps. takes_nothing (cat_all (map meaning ps))) (drop_all c.loop-part.part-index c.args.parts.now (omega (arith, c.loop-part-test.false)))
    ∙ empty_takes)

pub any_matches_empty-returns-then-matches_empty : goal.any_matches_empty-returns-then-matches_empty
any_matches_empty-returns-then-matches_empty t c =
    sym (sym c.loop-branch.invariant
    ∙ one_more alt_all c.args.branches.now c.loop-branch.branch-index _ c.loop-branch-test.true c.branch-item.is
    ∙ first_works _ _ (sym c.matches_empty.ensures ∙ c.if-matches_empty.true))

pub any_matches_empty-loop-branch-preserved : goal.any_matches_empty-loop-branch-preserved
any_matches_empty-loop-branch-preserved t c =
    sym (one_more alt_all c.args.branches.now c.loop-branch.branch-index _ c.loop-branch-test.true c.branch-item.is
    ∙ first_is_left _ _ (sym c.matches_empty.ensures ∙ c.if-matches_empty.false))
    ∙ c.loop-branch.invariant

pub any_matches_empty-returns : goal.any_matches_empty-returns
any_matches_empty-returns t c =
    sym (sym c.loop-branch.invariant
    ∙ ap (λ ps. takes_nothing (alt_all (map meaning ps))) (drop_all c.loop-branch.branch-index c.args.branches.now (omega (arith, c.loop-branch-test.false)))
    ∙ no_branch_takes)
