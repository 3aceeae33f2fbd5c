-- The answers that `regex` may give for a pattern, and the one that is computed.
use Rattle.std.proofs.Common.{◌≡◌, Bool, true, false, not, ◌&&◌, ◌||◌, cond, refl, sym, ap, ◌∙◌}
use Rattle.std.proofs.lemmas.Bool.{and_parts, not-true}
use Rattle.promql_text.specs.Texts.{Text}
use Rattle.promql_label.specs.Answers.{Answer, Allows, anchor, as_it_is, built, by_escaping, has_one_answer, is_read_pair, is_small, neither, pattern_answer, rejected}
use Rattle.promql_label.specs.PatternMeasure.{measure}
use Rattle.promql_label.specs.Repeats.{escaped_repeats}
use Rattle.std.specs.Prelude.{nat_le}

pub small_pair_is_read : (u : Text) → is_small u ≡ true → is_read_pair u ≡ true
small_pair_is_read u small = (and_parts (nat_le (measure u) 16000) (is_read_pair u) small).1

-- what measures more is not small
pub large_is_not_small : (u : Text) → nat_le (measure u) 16000 ≡ false → is_small u ≡ false
large_is_not_small u large = ap (λ b. b && is_read_pair u) large

and_false : (a : Bool) → (a && false) ≡ false
and_false true = refl
and_false false = refl

-- nor is what is not read
pub pair_not_small : (u : Text) → is_read_pair u ≡ false → is_small u ≡ false
pair_not_small u none = ap (λ b. nat_le (measure u) 16000 && b) none ∙ and_false (nat_le (measure u) 16000)

-- ---- the computed answer

answer_as_read : (v : Text) → is_read_pair v ≡ true → pattern_answer v ≡ built (anchor v)
answer_as_read v h = ap (λ b. cond b (built (anchor v)) (cond (is_read_pair (escaped_repeats v)) (built (anchor (escaped_repeats v))) rejected)) h

answer_escaped : (v : Text) → is_read_pair v ≡ false → pattern_answer v ≡ cond (is_read_pair (escaped_repeats v)) (built (anchor (escaped_repeats v))) rejected
answer_escaped v h = ap (λ b. cond b (built (anchor v)) (cond (is_read_pair (escaped_repeats v)) (built (anchor (escaped_repeats v))) rejected)) h

-- a form that may be rejected is not read, where it is small or not read
undecided : (u : Text) → (is_small u || not (is_read_pair u)) ≡ true → is_small u ≡ false → is_read_pair u ≡ false
undecided u one rejects = not-true (is_read_pair u) (ap (λ b. b || not (is_read_pair u)) (sym rejects) ∙ one)

-- where the value may be rejected and has one answer, no form that may be rejected is read
not_read : (v : Text) → has_one_answer v ≡ true → is_small v ≡ false
    → (is_read_pair v ≡ false) × (is_small (escaped_repeats v) ≡ false → is_read_pair (escaped_repeats v) ≡ false)
not_read v one rejects =
    let e = escaped_repeats v in
    let both = and_parts (not (is_read_pair v)) (is_small e || not (is_read_pair e))
    (ap (λ b. b || not (is_read_pair v) && (is_small e || not (is_read_pair e))) (sym rejects) ∙ one) in
    (not-true (is_read_pair v) both.0, undecided e both.1)

pub allowed_is_answer : (v : Text) → has_one_answer v ≡ true → (a : Answer) → Allows v a → a ≡ pattern_answer v
allowed_is_answer v one a (as_it_is _ read) = sym (answer_as_read v read)
allowed_is_answer v one a (by_escaping _ rejects read) =
    let e = escaped_repeats v in
    sym (answer_escaped v (not_read v one rejects).0 ∙ ap (λ b. cond b (built (anchor e)) rejected) read)
allowed_is_answer v one a (neither _ rejects again) =
    let e = escaped_repeats v in
    let none = not_read v one rejects in
    sym (answer_escaped v none.0 ∙ ap (λ b. cond b (built (anchor e)) rejected) (none.1 again))

answer_allowed_by : (v : Text) (p q : Bool) → is_read_pair v ≡ p → is_read_pair (escaped_repeats v) ≡ q → Allows v (cond p (built (anchor v)) (cond q (built (anchor (escaped_repeats v))) rejected))
answer_allowed_by v true q a b = as_it_is v a
answer_allowed_by v false true a b = by_escaping v (pair_not_small v a) b
answer_allowed_by v false false a b = neither v (pair_not_small v a) (pair_not_small (escaped_repeats v) b)

-- the answer is allowed, of each pattern
pub answer_is_allowed : (v : Text) → Allows v (pattern_answer v)
answer_is_allowed v = answer_allowed_by v (is_read_pair v) (is_read_pair (escaped_repeats v)) refl refl
