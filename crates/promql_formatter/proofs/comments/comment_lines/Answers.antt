use Rattle.std.proofs.Common.{arith, ◌≡◌, ◌+◌, ◌-◌, ◌≤◌, ◌∷◌, ◌++◌, ◌∙◌, [], ap, append-nil, append_assoc, drop, length, sym, take}
use Rattle.promql_token.specs.Scan.{items_left}
use Rattle.std.specs.Result.{ok_prefix}
use Rattle.promql_formatter.specs.Comments.{gaps}
use Rattle.promql_formatter.proofs.CommentScans.{all, clamped_gaps, in_gaps, last_gap, lines}
use Rattle.promql_formatter.proofs.comments.comment_lines.Goals as goal
use Rattle.promql_formatter.proofs.comments.comment_lines.Goals.{in-None, in-Some+in_default}

pub loop-token-preserved : goal.loop-token-preserved
loop-token-preserved c =
    let s = c.args.text.now in
    let x = c.in-Ok.token in
    let found = c.loop-token.found.items in
    let rest = ok_prefix (items_left c.next.new.self) in
    let past = x.start + x.len in
    let gap = c.between.result.now in
    let fits : length s ≤ 18446744073709551615 = omega arith in
    let head : ok_prefix (items_left c.loop-token.token-iterator) ≡ x ∷ rest = ap ok_prefix (c.in-Some.ensures.steps ∙ ap (λ r. r ∷ items_left c.next.new.self) c.in-Ok.is) in
    let clamp : gaps s c.saturating_add-at.result rest ≡ gaps s past rest = ap (λ n. gaps s n rest) c.saturating_add-at.ensures ∙ clamped_gaps s past _ rest fits in
    let is : gap ≡ take (x.start - c.loop-token.at) (drop c.loop-token.at s) = c.between.ensures ∙ ap (λ bytes. take (x.start - c.loop-token.at) (drop c.loop-token.at bytes)) c.as_bytes-bytes.ensures.value in
    let pushed : c.push_comments.new.out.items ≡ found ++ all (lines gap) = c.in_ok-push_comments.ensures in
    let more : all (lines gap) ++ in_gaps (gaps s past rest) ≡ in_gaps (gaps s c.loop-token.at (x ∷ rest)) = ap (λ g. all (lines g) ++ in_gaps (gaps s past rest)) is in (
      tt,
      tt,
      ap (λ t. t ++ in_gaps (gaps s c.saturating_add-at.result rest)) pushed
          ∙ ap (λ gs. (found ++ all (lines gap)) ++ in_gaps gs) clamp
          ∙ append_assoc found (all (lines gap)) (in_gaps (gaps s past rest))
          ∙ ap (λ t. found ++ t) more
          ∙ ap (λ xs. found ++ in_gaps (gaps s c.loop-token.at xs)) (sym head)
          ∙ c.loop-token.invariant.2,
    )

pub returns : goal.returns
returns c =
    let s = c.args.text.now in
    let found = c.loop-token.found.items in
    let at = c.loop-token.at in
    let ended : ok_prefix (items_left c.loop-token.token-iterator) ≡ [] = elim c.match-next.branch [
      | in-None w ↦ ap ok_prefix w.in-None.ensures.steps.0
      | in-Some+in_default w ↦ ap ok_prefix (w.in-Some.ensures.steps ∙ ap (λ r. r ∷ items_left c.next.new.self) w.in_default.is)
    ] in
    let bytes = c.as_bytes-bytes.ensures.value in
    let is : c.between-2.result.now ≡ drop at s =
    c.between-2.ensures ∙ ap (λ b. take (length b - at) (drop at b)) bytes ∙ last_gap s at in
    let pushed : c.push_comments-2.new.out.items ≡ found ++ all (lines c.between-2.result.now) = c.in_ok-push_comments-2.ensures in
    pushed ∙ ap (λ g. found ++ all (lines g)) is
    ∙ ap (λ t. found ++ t) (sym (append-nil (all (lines (drop at s)))))
    ∙ ap (λ xs. found ++ in_gaps (gaps s at xs)) (sym ended)
    ∙ c.loop-token.invariant.2
