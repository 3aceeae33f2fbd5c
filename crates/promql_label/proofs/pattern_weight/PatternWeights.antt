-- How much of a pattern is read with how many bytes, where counts repeat it.
use Rattle.std.proofs.Common.{◌≡◌, ℕ, zero, suc, ◌+◌, ◌-◌, ◌*◌, ◌≤◌, Bool, true, false, List, [], ◌∷◌, Option, Some, None, map, unwrap_or, refl, ap, le_trans, le_of_eq, mul-le-mul_left, mul-le-mul_right, arith}
use Rattle.regex_syntax.specs.Brackets.{Nested}
use Rattle.regex_hir.specs.Meaning.{copies, up_to}
use Rattle.regex.specs.Patterns.{Re, alt_all, cat_all, repeat}
use Rattle.promql_label.specs.PatternSize.{weight}

-- ---- parts

unfoldable pub total : List (Nested Re) → ℕ
total [] = 0
total (part ∷ parts) = weight part.value + total parts

pub cat_weighs : (parts : List (Nested Re)) → weight (cat_all (map (λ part. part.value) parts)) ≡ total parts
unfolding total
cat_weighs [] = refl
cat_weighs (part ∷ parts) = ap (λ n. weight part.value + n) (cat_weighs parts)

pub alt_weighs : (parts : List (Nested Re)) → weight (alt_all (map (λ part. part.value) parts)) ≡ total parts + 1
unfolding total
alt_weighs [] = refl
alt_weighs (part ∷ parts) = omega (arith, alt_weighs parts)

-- ---- repetitions

copies_weigh : (n : ℕ) (a b : Re) → weight (copies n a b) ≡ n * weight a + weight b
copies_weigh zero a b = omega arith
copies_weigh (suc n) a b = omega (arith, copies_weigh n a b)

up_to_weighs : (greedy : Bool) (n : ℕ) (a : Re) → weight (up_to greedy n a) ≡ n * weight a
up_to_weighs greedy zero a = omega arith
up_to_weighs true (suc n) a = omega (arith, up_to_weighs true n a)
up_to_weighs false (suc n) a = omega (arith, up_to_weighs false n a)

-- a repetition weighs what is repeated, once for each time and once more at most
pub repeat_weighs : (least : ℕ) (most : Option ℕ) (greedy : Bool) (a : Re) → least ≤ unwrap_or most least
    → weight (repeat least most greedy a) ≤ weight a * (1 + unwrap_or most least)
unfolding repeat
repeat_weighs zero None true a rising = omega arith
repeat_weighs zero None false a rising = omega arith
repeat_weighs (suc n) None greedy a rising = omega (arith, copies_weigh n a (Re.plus greedy a))
repeat_weighs least (Some most) greedy a rising =
    let again = copies_weigh least a (up_to greedy (most - least) a) in
    let maybe = up_to_weighs greedy (most - least) a in
    let both : least + (most - least) ≡ most = omega (arith, rising) in
    let times : (least + (most - least)) * weight a ≡ most * weight a = ap (λ n. n * weight a) both in
    omega (arith, again, maybe, times)

-- `?`, `*` and `+` make nothing heavier
pub mark_weighs : (greedy : Bool) (a : Re) → weight (repeat 0 (Some 1) greedy a) ≤ weight a * 1
unfolding repeat
mark_weighs true a = omega arith
mark_weighs false a = omega arith

pub star_weighs : (greedy : Bool) (a : Re) → weight (repeat 0 None greedy a) ≤ weight a * 1
unfolding repeat
star_weighs true a = omega arith
star_weighs false a = omega arith

pub plus_weighs : (greedy : Bool) (a : Re) → weight (repeat 1 None greedy a) ≤ weight a * 1
unfolding repeat
plus_weighs greedy a = omega arith

-- ---- bytes

-- what weighs w is read with n bytes, while the repetitions of what is left fall from f to g
pub record Within (w n f g : ℕ) : Type 0 where
  pub bound : w * g ≤ n * f
  pub falls : g ≤ f

pub within_one : (w f : ℕ) → w ≡ 1 → Within w 1 f f
within_one w f one = record { bound = le_of_eq (ap (λ w. w * f) one); falls = omega arith }

pub within_then : (w n v m f g h : ℕ) → Within w n f g → Within v m g h → Within (w + v) (n + m) f h
within_then w n v m f g h before next = record {
  bound = omega (arith, before.bound, next.bound, mul-le-mul_left w next.falls, mul-le-mul_left m before.falls);
  falls = omega (arith, before.falls, next.falls);
}

pub within_more : (w n f g : ℕ) → Within w n f g → Within (w + 1) (n + 1) f g
within_more w n f g h = record { bound = omega (arith, h.bound, h.falls); falls = h.falls }

pub within_nothing : (f : ℕ) → Within 0 0 f f
within_nothing f = record { bound = omega arith; falls = omega arith }

-- the same under a repetition
pub within_repeated : (w v n f g h : ℕ) → Within w n f g → v * h ≤ w * g → h ≤ g → Within v n f h
within_repeated w v n f g h before heavier falls = record { bound = le_trans heavier before.bound; falls = omega (arith, falls, before.falls) }

-- what is repeated m times at most, while the repetitions of what is left fall by that factor
pub repeated_bound : (w v m g h : ℕ) → v ≤ w * m → g ≡ m * h → v * h ≤ w * g
repeated_bound w v m g h heavier falls = omega (arith, mul-le-mul_right h heavier, ap (λ g. w * g) falls)
