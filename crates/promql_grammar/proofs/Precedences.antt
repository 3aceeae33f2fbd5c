-- Levels, openness, and what may follow a derivation.
use Rattle.std.proofs.Common.{◌≡◌, ℕ, ◌+◌, ◌<◌, ◌≤◌, ◌⊎◌, inl, inr, min, refl, sym, subst, arith, List, [], ◌∷◌, Bool, true, false, cond}
use Rattle.std.specs.Prelude.{◌==◌, if◌then◌else◌}
use Rattle.std.proofs.lemmas.Bool.Decides.{nat_tests}
use Rattle.promql_token.specs.declared.ids.TheConstants.{T_POW}
use Rattle.promql_grammar.specs.declared.token_kinds.TokenKind.TheVariants as kind
use Rattle.promql_grammar.specs.Symbols.{Symbol, punct, word}
use Rattle.promql_grammar.specs.Grammar.{Derivation, unary, binary, precedence, openness, IsBase, FitsLeft, FitsRight, FitsUnary}
use Rattle.promql_grammar.specs.Parsing.{right_precedence}

-- the openness that an operator needs on its left
abbrev pub need : ℕ → ℕ
need op = if op == T_POW then 7 else precedence op

abbrev pub Band : ℕ → ℕ → ℕ → Type 0
Band l n a = ((n ≡ 7) × (l ≡ 6) × (a ≡ 6)) ⊎ ((n ≡ l) × (a ≡ l + 1) × (l ≤ 5))

cond_most : (b : Bool) (m n k : ℕ) → m ≤ k → n ≤ k → cond b m n ≤ k
cond_most true m n k e f = e
cond_most false m n k e f = f

-- the precedence of an operator that is no power
abbrev low_level : Bool → Bool → Bool → Bool → ℕ
low_level a b c d = cond a 1 (cond b 2 (cond c 3 (cond d 4 5)))

low_level_most : (a b c d : Bool) → low_level a b c d ≤ 5
low_level_most a b c d = cond_most a 1 _ 5 (omega arith) (cond_most b 2 _ 5 (omega arith) (cond_most c 3 _ 5 (omega arith) (cond_most d 4 5 5 (omega arith) (omega arith))))

band_of : (p a b c d : Bool) → let low = low_level a b c d in let l = cond p 6 low in Band l (cond p 7 l) (cond p 6 (l + 1))
band_of true a b c d = inl (refl, refl, refl)
band_of false a b c d = inr (refl, refl, low_level_most a b c d)

pub band : (op : ℕ) → Band (precedence op) (need op) (right_precedence op)
band op = band_of _ _ _ _ _

power_of : (p a b c d : Bool) → 6 ≤ cond p 6 (low_level a b c d) → p ≡ true
power_of true a b c d h = refl
power_of false a b c d h = absurd (omega (arith, low_level_most a b c d))

-- only a power is of the highest precedence
pub is_power : (op : ℕ) → 6 ≤ precedence op → op ≡ T_POW
is_power op h = let same : (op == T_POW) ≡ true = power_of (op == T_POW) _ _ _ _ h in grind (arith, nat_tests)

-- a derivation's operators outside are of at least precedence m
abbrev pub Root : ℕ → Derivation → Type 0
Root m (binary op t w a b) = m ≤ precedence op
Root m d = Unit {0}

-- the tokens start with no operator of at least precedence m
abbrev pub Stops : ℕ → List Symbol → Type 0
Stops m (word (kind.Operator op) t ∷ ts) = precedence op < m
Stops m ts = Unit {0}

-- the operator at the front, if there is one, may follow a left side of openness o
abbrev pub After : ℕ → List Symbol → Type 0
After o (word (kind.Operator op) t ∷ ts) = FitsLeft op o
After o ts = Unit {0}

-- what may follow a whole derivation of openness o
abbrev pub Follows : ℕ → List Symbol → Type 0
Follows o [] = Unit {0}
Follows o (word (kind.Operator op) t ∷ ts) = FitsLeft op o
Follows o (punct kind.RightParen ∷ ts) = Unit {0}
Follows o (punct kind.Comma ∷ ts) = Unit {0}
Follows o ts = ⊥

stop_num : (l n a l' n' a' o : ℕ) → Band l n a → Band l' n' a' → n' ≤ min l o → l' < a
stop_num l n a l' n' a' o (inl h) (inl k) e = absurd (omega arith)
stop_num l n a l' n' a' o (inl h) (inr k) e = omega arith
stop_num l n a l' n' a' o (inr h) (inl k) e = absurd (omega arith)
stop_num l n a l' n' a' o (inr h) (inr k) e = omega arith

keep_num : (l n a l' n' a' o : ℕ) → Band l n a → Band l' n' a' → l' < a → n' ≤ o → n' ≤ min l o
keep_num l n a l' n' a' o (inl h) (inl k) e f = absurd (omega arith)
keep_num l n a l' n' a' o (inl h) (inr k) e f = omega arith
keep_num l n a l' n' a' o (inr h) (inl k) e f = absurd (omega arith)
keep_num l n a l' n' a' o (inr h) (inr k) e f = omega arith

sign_num : (l n a o : ℕ) → Band l n a → n ≤ min 5 o → (l < 6) × (n ≤ o)
sign_num l n a o (inl h) e = absurd (omega arith)
sign_num l n a o (inr h) e = (omega arith, omega arith)

keep_sign_num : (l n a o : ℕ) → Band l n a → l < 6 → n ≤ o → n ≤ min 5 o
keep_sign_num l n a o (inl h) e f = absurd (omega arith)
keep_sign_num l n a o (inr h) e f = omega arith

level_need : (l n a : ℕ) → Band l n a → l ≤ n
level_need l n a (inl h) = omega arith
level_need l n a (inr h) = omega arith

need_most : (l n a : ℕ) → Band l n a → n ≤ 7
need_most l n a (inl h) = omega arith
need_most l n a (inr h) = omega arith

right_num : (l n a l' n' a' : ℕ) → Band l n a → Band l' n' a' → l < l' → a ≤ l'
right_num l n a l' n' a' (inl h) (inl k) e = absurd (omega arith)
right_num l n a l' n' a' (inl h) (inr k) e = absurd (omega arith)
right_num l n a l' n' a' (inr h) k e = omega arith

-- for the right side of an operator
pub follows_right : (p o : ℕ) (ts : List Symbol) → Follows (min (precedence p) o) ts → Follows o ts × Stops (right_precedence p) ts
follows_right p o [] h = (tt, tt)
follows_right p o (word (kind.Operator q) t ∷ ts) h = (omega arith, stop_num _ _ _ _ _ _ o (band p) (band q) h)
follows_right p o (punct kind.RightParen ∷ ts) h = (tt, tt)
follows_right p o (punct kind.Comma ∷ ts) h = (tt, tt)
follows_right p o ts h = absurd h

pub after_right : (p o : ℕ) (ts : List Symbol) → After o ts → Stops (right_precedence p) ts → After (min (precedence p) o) ts
after_right p o (word (kind.Operator q) t ∷ ts) h k = keep_num _ _ _ _ _ _ o (band p) (band q) k h
after_right p o ts h k = tt

-- for the operand of a unary operator
pub follows_sign : (o : ℕ) (ts : List Symbol) → Follows (min 5 o) ts → Follows o ts × Stops 6 ts
follows_sign o [] h = (tt, tt)
follows_sign o (word (kind.Operator q) t ∷ ts) h = let k = sign_num _ _ _ o (band q) h in (k.1, k.0)
follows_sign o (punct kind.RightParen ∷ ts) h = (tt, tt)
follows_sign o (punct kind.Comma ∷ ts) h = (tt, tt)
follows_sign o ts h = absurd h

pub after_sign : (o : ℕ) (ts : List Symbol) → After o ts → Stops 6 ts → After (min 5 o) ts
after_sign o (word (kind.Operator q) t ∷ ts) h k = keep_sign_num _ _ _ o (band q) k h
after_sign o ts h k = tt

-- the left side of an operator of at least precedence m
pub root_left : (m p : ℕ) (d : Derivation) → m ≤ precedence p → FitsLeft p (openness d) → Root m d
root_left m p (binary q t w a b) e h = let l = level_need _ _ _ (band p) in omega arith
root_left m p d e h = tt

pub root_right : (p : ℕ) (d : Derivation) → FitsRight p d → Root (right_precedence p) d
root_right p (binary q t w a b) (inl h) = right_num _ _ _ _ _ _ (band p) (band q) h
root_right p (binary q t w a b) (inr (e, f)) =
    let g : right_precedence T_POW ≤ precedence T_POW = omega arith in
    subst (λ x. right_precedence x ≤ precedence q) (sym e) (subst (λ x. right_precedence T_POW ≤ precedence x) (sym f) g)
root_right p d h = tt

power_num : (l n a l' n' a' : ℕ) → Band l n a → Band l' n' a' → a ≤ l' → (l < l') ⊎ ((6 ≤ l) × (6 ≤ l'))
power_num l n a l' n' a' (inl h) k e = inr (omega arith, omega arith)
power_num l n a l' n' a' (inr h) k e = inl (omega arith)

fits_power : (p q : ℕ) → (precedence p < precedence q) ⊎ ((6 ≤ precedence p) × (6 ≤ precedence q)) → (precedence p < precedence q) ⊎ ((p ≡ T_POW) × (q ≡ T_POW))
fits_power p q (inl h) = inl h
fits_power p q (inr h) = inr (is_power p h.0, is_power q h.1)

pub right_root : (p : ℕ) (d : Derivation) → Root (right_precedence p) d → FitsRight p d
right_root p (binary q t w a b) h = fits_power p q (power_num _ _ _ _ _ _ (band p) (band q) h)
right_root p d h = tt

pub root_sign : (d : Derivation) → FitsUnary d → Root 6 d
root_sign (binary q t w a b) h = let g : 6 ≤ precedence T_POW = omega arith in subst (λ x. 6 ≤ precedence x) (sym h) g
root_sign d h = tt

pub sign_root : (d : Derivation) → Root 6 d → FitsUnary d
sign_root (binary q t w a b) h = is_power q h
sign_root d h = tt

pub root_zero : (d : Derivation) → Root 0 d
root_zero (binary q t w a b) = omega arith
root_zero d = tt

pub root_base : (m : ℕ) (d : Derivation) → IsBase d → Root m d
root_base m (binary q t w a b) h = absurd h
root_base m d h = tt

pub open_base : (d : Derivation) → IsBase d → openness d ≡ 7
open_base (binary q t w a b) h = absurd h
open_base (unary q t d) h = absurd h
open_base d h = refl

pub after_base : (d : Derivation) (ts : List Symbol) → IsBase d → After (openness d) ts
after_base d (word (kind.Operator q) t ∷ ts) h = let e = open_base d h in let k = need_most _ _ _ (band q) in omega arith
after_base d ts h = tt
