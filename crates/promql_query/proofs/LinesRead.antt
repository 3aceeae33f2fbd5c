-- What std's `read_until` tells of a line.
use Rattle.std.proofs.Common.{◌≡◌, ◌-◌, ℕ, suc, List, [], ◌∷◌, ◌++◌, All, length, take, None, Some, arith, refl, sym, ap, ◌∙◌, subst}
use Rattle.std.proofs.lemmas.Bool.Decides.{nat_tests}
use Rattle.std.proofs.lemmas.List.Elements.{All-cons, All-head, All-nil, All-tail}
use Rattle.std.specs.Prelude.{◌==◌, ◌≢◌, Bool, true, false, if◌then◌else◌, IfSome, Option}
use Rattle.std.specs.List.{slice_get}
use Rattle.std.specs.Io.{StopsAt, appended_bytes}
use Rattle.std.specs.Io.BufRead.{take_through}
use Rattle.std.specs.Io.KnownBytes.{Consumes}
use Rattle.promql_query.specs.BatchSteps.{HasNoFeed, IsAll}

-- the bytes before the last, and the last, are others
no_feed : (line : List ℕ) (last : ℕ) → Some last ≡ slice_get line (length line - 1) → last ≢ 10 → All (λ b. b ≢ 10) (take (length line - 1) line) → HasNoFeed line
no_feed [] last is other front = absurd cc
no_feed (b ∷ []) last is other front =
    let same : last ≡ b = cc in
    All-cons (λ x. x ≢ 10) b [] (subst (λ x. x ≢ 10) same other) (All-nil (λ x. x ≢ 10))
no_feed (b ∷ c ∷ line) last is other front =
    let less : length (b ∷ c ∷ line) - 1 ≡ suc (length (c ∷ line) - 1) = omega arith in
    let rest : All (λ x. x ≢ 10) (b ∷ take (length (c ∷ line) - 1) (c ∷ line)) = subst (λ n. All (λ x. x ≢ 10) (take n (b ∷ c ∷ line))) less front in
    All-cons (λ x. x ≢ 10) b (c ∷ line) (All-head (λ x. x ≢ 10) b _ rest)
    (no_feed (c ∷ line) last (is ∙ ap (slice_get (b ∷ c ∷ line)) less) other (All-tail (λ x. x ≢ 10) b _ rest))

-- what is taken up to a line feed is all where it has none
through_step : (feeds : Bool) (b : ℕ) (bytes : List ℕ) → (b == 10) ≡ feeds → All (λ x. x ≢ 10) (if feeds then b ∷ [] else b ∷ take_through 10 bytes) → (All (λ x. x ≢ 10) (take_through 10 bytes) → take_through 10 bytes ≡ bytes) → (if feeds then b ∷ [] else b ∷ take_through 10 bytes) ≡ b ∷ bytes
through_step true b bytes feeds all more =
    let is : b ≡ 10 = grind (arith, nat_tests) in
    absurd (All-head (λ x. x ≢ 10) b [] all is)
through_step false b bytes feeds all more = ap (λ rest. b ∷ rest) (more (All-tail (λ x. x ≢ 10) b _ all))

through_all : (bytes : List ℕ) → All (λ x. x ≢ 10) (take_through 10 bytes) → take_through 10 bytes ≡ bytes
through_all [] all = refl
through_all (b ∷ bytes) all = through_step (b == 10) b bytes refl all (through_all bytes)

all_taken : (left : Option (List ℕ)) (before line : List ℕ) → before ≡ [] → HasNoFeed line → IfSome left (λ bytes. line ≡ before ++ take_through 10 bytes) → IsAll left line
all_taken None before line was none taken = tt
all_taken (Some bytes) before line was none taken =
    let same : line ≡ take_through 10 bytes = taken ∙ ap (λ b. b ++ take_through 10 bytes) was in
    sym (same ∙ through_all bytes (subst (All (λ x. x ≢ 10)) same none))

pub last_read : (left left_after : Option (List ℕ)) (before line : List ℕ) (last : ℕ) → before ≡ [] → Some last ≡ slice_get line (length line - 1) → last ≢ 10 → StopsAt (appended_bytes before line) 10 → IfSome left (λ bytes. line ≡ before ++ take_through 10 bytes) → Consumes left left_after (appended_bytes before line) → Consumes left left_after line × HasNoFeed line × IsAll left line × (line ≢ [])
last_read left left_after before line last was is other stops taken consumes =
    let read : appended_bytes before line ≡ line = ap (λ b. appended_bytes b line) was in
    let none = no_feed line last is other (subst (λ l. StopsAt l 10) read stops) in (
      subst (Consumes left left_after) read consumes,
      none,
      all_taken left before line was none taken,
      λ empty. let gone : Some last ≡ slice_get [] (length line - 1) = is ∙ ap (λ l. slice_get l (length line - 1)) empty in cc,
    )
