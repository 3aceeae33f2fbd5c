-- Numbers in a radix.
use Rattle.std.proofs.Common.{◌≡◌, ℕ, suc, ◌+◌, ◌*◌, ◌^◌, ◌≤◌, List, [], ◌∷◌, length, arith, ◌++◌, refl, ap, ◌∙◌, sym}
use Rattle.std.proofs.lemmas.Nat.{mul-le}
use Rattle.std.proofs.Math.Nat.{pow-suc, pow-zero}
use Rattle.std.specs.Char.{digit_value}
use Rattle.std.specs.Str.Parse.{digits_value, digits_value_after}

pub radix_value_ge : (radix n : ℕ) (ds : List ℕ) → 2 ≤ radix → n ≤ digits_value_after radix n ds
radix_value_ge radix n [] some = omega arith
radix_value_ge radix n (c ∷ cs) some =
    let h = radix_value_ge radix (n * radix + digit_value c) cs some in
    let low = mul-le n 1 n radix (omega arith) (omega arith) in
    omega (arith, h, low)

pub value_append : (radix n : ℕ) (xs ys : List ℕ) → digits_value_after radix n (xs ++ ys) ≡ digits_value_after radix (digits_value_after radix n xs) ys
value_append radix n [] ys = refl
value_append radix n (x ∷ xs) ys = value_append radix (n * radix + digit_value x) xs ys

-- what comes before digits counts as often as their power of the radix
sum_after : (radix n : ℕ) (ds : List ℕ) → digits_value_after radix n ds ≡ n * radix ^ length ds + digits_value radix ds
sum_after radix n [] = let e : n ≡ n * 1 + 0 = omega arith in e ∙ ap (λ q. n * q + 0) (sym (pow-zero radix))
sum_after radix n (c ∷ cs) =
    let p : ℕ = radix ^ length cs in
    let d : ℕ = digit_value c in
    let spread : (n * radix + d) * p + digits_value radix cs ≡ n * (p * radix) + ((0 * radix + d) * p + digits_value radix cs) = omega arith in
    sum_after radix (n * radix + d) cs ∙ spread ∙ ap (λ q. n * q + ((0 * radix + d) * p + digits_value radix cs)) (sym (pow-suc radix (length cs)))
    ∙ ap (λ v. n * radix ^ suc (length cs) + v) (sym (sum_after radix (0 * radix + d) cs))

pub digits_summed : (radix c : ℕ) (ds : List ℕ) → digits_value radix (c ∷ ds) ≡ digit_value c * radix ^ length ds + digits_value radix ds
digits_summed radix c ds = sum_after radix (0 * radix + digit_value c) ds
    ∙ (let d : ℕ = digit_value c in let p : ℕ = radix ^ length ds in let v : ℕ = digits_value radix ds in let e : (0 * radix + d) * p + v ≡ d * p + v = omega arith in e)
