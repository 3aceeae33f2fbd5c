-- Bytes that are read or written in turns.
use Rattle.std.proofs.Common.{◌≡◌, ℕ, List, [], ◌++◌, length, take, drop, refl, sym, ap, ◌∙◌, append_assoc, append-nil, take-append-drop, arith, subst, ⊎_elim, ◌≤◌, ◌+◌}
use Rattle.std.specs.Prelude.{Bool, false, ◌==◌, ◌&&◌, ◌||◌, not, IfErr, OnErr, Option, Some, None, Result, Ok, Err}
use Rattle.std.proofs.Math.Bool.{or-false}
use Rattle.std.proofs.Math.Seq.{take-append-add, take-append_seam}
use Rattle.std.proofs.lemmas.Bool.{cases_lt}
use Rattle.std.proofs.lemmas.List.{take-append-le, take_all}
use Rattle.std.proofs.lemmas.Bool.Decides.{nat_tests}
use Rattle.std.specs.Io.KnownBytes.{Consumes, Appends, Keeps}
use Rattle.promql_run.specs.Ended.{AppendsBeginning}

pub consumes_none : (o : Option (List ℕ)) → Consumes o o []
consumes_none None = tt
consumes_none (Some xs) = refl

pub consumes_more : (old mid new : Option (List ℕ)) (front back : List ℕ) → Consumes old mid front → Consumes mid new back → Consumes old new (front ++ back)
consumes_more None mid new front back first second = tt
consumes_more (Some xs) None new front back first second = absurd first
consumes_more (Some xs) (Some ys) None front back first second = absurd second
consumes_more (Some xs) (Some ys) (Some zs) front back first second = first ∙ ap (λ l. front ++ l) second ∙ sym (append_assoc front back zs)

pub appends_none : (o : Option (List ℕ)) → Appends o o []
appends_none None = tt
appends_none (Some xs) = sym (append-nil xs)

pub appends_more : (old mid new : Option (List ℕ)) (front back : List ℕ) → Appends old mid front → Appends mid new back → Appends old new (front ++ back)
appends_more None mid new front back first second = tt
appends_more (Some xs) None new front back first second = absurd first
appends_more (Some xs) (Some ys) None front back first second = absurd second
appends_more (Some xs) (Some ys) (Some zs) front back first second = second ∙ ap (λ l. l ++ back) first ∙ append_assoc xs front back

pub appends_keeps : (old mid new : Option (List ℕ)) (front : List ℕ) → Appends old mid front → Keeps mid new → Appends old new front
appends_keeps None mid new front first same = tt
appends_keeps (Some xs) None new front first same = absurd first
appends_keeps (Some xs) (Some ys) None front first same = absurd same
appends_keeps (Some xs) (Some ys) (Some zs) front first same = same ∙ first

-- a beginning of the text was written, and this rest is left
pub record IsPartlyWritten (old new : Option (List ℕ)) (text rest : List ℕ) : Type 0 where
  pub front : List ℕ
  pub whole : front ++ rest ≡ text
  pub appends : Appends old new front

pub written_more : (old mid new : Option (List ℕ)) (text rest after : List ℕ) (n : ℕ) → IsPartlyWritten old mid text rest → Appends mid new (take n rest) → after ≡ drop n rest → IsPartlyWritten old new text after
written_more old mid new text rest after n so_far appends back = record {
  front = so_far.front ++ take n rest;
  whole = append_assoc so_far.front (take n rest) after ∙ ap (λ l. so_far.front ++ l) (ap (λ l. take n rest ++ l) back ∙ take-append-drop n rest) ∙ so_far.whole;
  appends = appends_more old mid new so_far.front (take n rest) so_far.appends appends;
}

-- a write that took bytes has not failed
pub write_kept : (old new : Bool) (n : ℕ) (text : List ℕ) → new ≡ (old || (n == 0 && not (length text == 0))) → (n ≡ 0 → ⊥) → new ≡ old
write_kept old new n text failed some =
    let took : (n == 0) ≡ false = grind (arith, nat_tests) in
    failed ∙ ap (λ b. old || (b && not (length text == 0))) took ∙ or-false old

-- ---- a failed write

pub always_on_err : {T E P : Type 0} (r : Result T E) → P → OnErr r P
always_on_err (Ok x) fact = tt
always_on_err (Err e) fact = fact

pub always_if_err : {T E : Type 0} (Q : E → Type 0) (r : Result T E) → ((e : E) → Q e) → IfErr r Q
always_if_err Q (Ok x) facts = tt
always_if_err Q (Err e) facts = facts e

-- what was partly written is a beginning
pub begun_of : (old new : Option (List ℕ)) (text rest : List ℕ) → IsPartlyWritten old new text rest → AppendsBeginning old new text
begun_of old new text rest partly =
    let front : take (length partly.front) text ≡ partly.front = ap (take (length partly.front)) (sym partly.whole) ∙ take-append_seam partly.front rest in
    (length partly.front, subst (Appends old new) (sym front) partly.appends)

-- the whole is one of its beginnings
pub whole_begun : (old mid new : Option (List ℕ)) (text : List ℕ) → Appends old mid text → Keeps mid new → AppendsBeginning old new text
whole_begun old mid new text appends keeps =
    (length text, subst (Appends old new) (sym (take_all (length text) text (omega arith))) (appends_keeps old mid new text appends keeps))

pub kept_partly : (old mid new : Option (List ℕ)) (text rest : List ℕ) → IsPartlyWritten old mid text rest → Keeps mid new → IsPartlyWritten old new text rest
kept_partly old mid new text rest partly keeps = record { front = partly.front; whole = partly.whole; appends = appends_keeps old mid new partly.front partly.appends keeps }

pub beginning_longer : (old new : Option (List ℕ)) (text more : List ℕ) → AppendsBeginning old new text → AppendsBeginning old new (text ++ more)
beginning_longer old new text more begun =
    ⊎_elim
    (λ less. let short : begun.0 ≤ length text = omega arith in (begun.0, subst (Appends old new) (sym (take-append-le begun.0 text more short)) begun.1))
    (λ past. (length text, subst (Appends old new) (take_all begun.0 text past ∙ sym (take-append_seam text more)) begun.1))
    (cases_lt begun.0 (length text))

pub beginning_after : (old mid new : Option (List ℕ)) (text more : List ℕ) → Appends old mid text → AppendsBeginning mid new more → AppendsBeginning old new (text ++ more)
beginning_after old mid new text more appends begun =
    (length text + begun.0, subst (Appends old new) (sym (take-append-add text more begun.0)) (appends_more old mid new text (take begun.0 more) appends begun.1))
