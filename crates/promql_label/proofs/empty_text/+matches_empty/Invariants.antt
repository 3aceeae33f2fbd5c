use Rattle.std.proofs.Common.{◌≡◌, drop, map}
use Rattle.regex.specs.Patterns.{alt_all, cat_all}
use Rattle.regex_hir.specs.Meaning.{meaning}
use Rattle.promql_label.proofs.regex_answers.EmptyText.{takes_nothing}
use Rattle.promql_label.proofs.empty_text.+matches_empty.Given as goal

-- the whole takes what is left of it

abbrev pub invariant-all_match_empty-loop-part : goal.invariant-all_match_empty-loop-part
invariant-all_match_empty-loop-part l = takes_nothing (cat_all (map meaning (drop l.part-index l.parts))) ≡ takes_nothing (cat_all (map meaning l.parts))

abbrev pub invariant-any_matches_empty-loop-branch : goal.invariant-any_matches_empty-loop-branch
invariant-any_matches_empty-loop-branch l = takes_nothing (alt_all (map meaning (drop l.branch-index l.branches))) ≡ takes_nothing (alt_all (map meaning l.branches))
