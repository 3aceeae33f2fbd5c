-- What a pattern lacks, which has no `{`, `?` or backslash.
use Rattle.std.proofs.Common.{◌≡◌, ℕ, ◌+◌, ◌*◌, ◌^◌, max, Bool, true, false, not, cond, ◌==◌, ◌&&◌, ◌||◌, [], ◌∷◌, count_by, drop, length, refl, ap, ap₂, ◌∙◌, true≢false, arith, take, take_while}
use Rattle.std.specs.Char.{is_ascii_alphabetic, is_ascii_digit}
use Rattle.std.specs.List.{list_any, prefix_len}
use Rattle.std.proofs.lemmas.List.{drop_all, take_all}
use Rattle.promql_text.specs.Texts.{Text}
use Rattle.promql_label.specs.PatternMeasure.{ends_item, greatest, group_repeats, item_repeats, letter_escapes, may_fold, repeats}

neither : (a b : Bool) → (a || b) ≡ false → (a ≡ false) × (b ≡ false)
neither false b none = (refl, none)
neither true b none = absurd (true≢false none)

-- no `{` begins a count
no_item_repeats : (before : ℕ) (v : Text) → list_any (λ b. b == 123) v ≡ false → item_repeats before v ≡ 1
no_item_repeats before [] none = refl
no_item_repeats before (b ∷ z) none =
    let other = neither (b == 123) (list_any (λ b. b == 123) z) none in
    ap₂ (λ brace rest. max (cond (brace && ends_item before) (1 + greatest 0 z) 1) rest) other.0 (no_item_repeats b z other.1)

no_group_repeats : (before : ℕ) (v : Text) → list_any (λ b. b == 123) v ≡ false → group_repeats before v ≡ 1
no_group_repeats before [] none = refl
no_group_repeats before (b ∷ z) none =
    let other = neither (b == 123) (list_any (λ b. b == 123) z) none in
    ap₂ (λ brace rest. cond (brace && not (ends_item before)) (1 + greatest 0 z) 1 * rest) other.0 (no_group_repeats b z other.1)

all_before : (v : Text) → list_any (λ b. b == 123) v ≡ false → prefix_len (λ b. not (b == 123)) v ≡ length v
all_before [] none = refl
all_before (b ∷ z) none =
    let other = neither (b == 123) (list_any (λ b. b == 123) z) none in
    let more : 1 + length z ≡ length (b ∷ z) = omega arith in
    ap₂ (λ brace n. cond (not brace) (1 + n) 0) other.0 (all_before z other.1) ∙ more

nothing_after : (v : Text) → list_any (λ b. b == 123) v ≡ false → drop (length (take_while (λ b. not (b == 123)) v)) v ≡ []
nothing_after v none =
    ap (λ n. drop (length (take n v)) v) (all_before v none)
    ∙ ap (λ z. drop (length z) v) (take_all (length v) v (omega arith))
    ∙ drop_all (length v) v (omega arith)

pub no_repeats : (v : Text) → list_any (λ b. b == 123) v ≡ false → repeats v ≡ 1
no_repeats v none = go (list_any (λ b. b == 35) v)
  where
    go : (comment : Bool)
        → cond comment (10 ^ count_by is_ascii_digit (drop (length (take_while (λ b. not (b == 123)) v)) v)) (item_repeats 0 v * group_repeats 0 v) ≡ 1
    go true = ap (λ z. 10 ^ count_by is_ascii_digit z) (nothing_after v none)
    go false = ap₂ (λ items groups. items * groups) (no_item_repeats 0 v none) (no_group_repeats 0 v none)

-- no `?` begins flags
pub no_folding : (v : Text) → list_any (λ b. b == 63) v ≡ false → may_fold false v ≡ false
no_folding [] none = refl
no_folding (b ∷ z) none =
    let other = neither (b == 63) (list_any (λ b. b == 63) z) none in
    ap (λ mark. may_fold (mark || false) z) other.0 ∙ no_folding z other.1

-- no backslash begins an escape
after_other : (before : ℕ) (v : Text) → (before == 92) ≡ false → list_any (λ b. b == 92) v ≡ false → letter_escapes before v ≡ 0
after_other before [] first none = refl
after_other before (b ∷ z) first none =
    let other = neither (b == 92) (list_any (λ b. b == 92) z) none in
    ap₂ (λ escapes rest. cond (escapes && is_ascii_alphabetic b) 1 0 + rest) first (after_other b z other.0 other.1)

pub no_escapes : (v : Text) → list_any (λ b. b == 92) v ≡ false → letter_escapes 0 v ≡ 0
no_escapes v none = after_other 0 v refl none
