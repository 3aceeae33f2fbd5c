-- A tree has no bare call of `info` exactly if each call of `info` has two arguments at least.
use Rattle.std.proofs.Common.{◌≡◌, ◌≤◌, ◌∙◌, ℕ, Bool, true, false, ◌&&◌, ◌||◌, List, [], ◌∷◌, refl, sym, ap, arith}
use Rattle.std.specs.Prelude.{◌↔◌, nat_le}
use Rattle.std.specs.List.{AllByRecursion, list_any}
use Rattle.std.proofs.lemmas.Bool.{leb-false, leb-true}
use Rattle.promql_kind.specs.Functions.{Signature}
use Rattle.promql_ast.specs.Arguments.{count}
use Rattle.promql_ast.specs.Tree.{Tree, aggregate, unary, binary, paren, subquery, number, string, vector, matrix, call, extension, Trees}
use Rattle.promql_rewrite.specs.Collecting.{nodes_of}
use Rattle.promql_rewrite.specs.Enforcing.{has_bare_info, is_bare_info, is_info}
use Rattle.promql_rewrite.specs.Everywhere.{Everywhere}

neither : (a b : Bool) → (a || b) ≡ false → (a ≡ false) × (b ≡ false)
neither true b e = cc
neither false b e = (refl, e)

second : (a b : Bool) → (a && b) ≡ false → a ≡ true → b ≡ false
second true b e h = e
second false b e h = cc

two_at_least : (n : ℕ) → nat_le n 1 ≡ false → 2 ≤ n
two_at_least n e = let less = leb-false n 1 e in omega arith

not_one : (n : ℕ) → 2 ≤ n → nat_le n 1 ≡ false
not_one n h = go (nat_le n 1) refl
  where
    go : (b : Bool) → nat_le n 1 ≡ b → b ≡ false
    go true is = absurd (let le = leb-true n 1 is in omega arith)
    go false is = refl

has_two : (n : Tree) → is_bare_info n ≡ false → (f : Signature) (args : Trees) → n ≡ call f args → is_info f ≡ true → 2 ≤ count args
has_two n e f args is info = two_at_least (count args) (second (is_info f) (nat_le (count args) 1) (ap is_bare_info (sym is) ∙ e) info)

not_bare : (n : Tree) → ((f : Signature) (args : Trees) → n ≡ call f args → is_info f ≡ true → 2 ≤ count args) → is_bare_info n ≡ false
not_bare (call f args) h = go (is_info f) refl
  where
    go : (b : Bool) → is_info f ≡ b → (b && nat_le (count args) 1) ≡ false
    go true is = not_one (count args) (h f args refl is)
    go false is = refl
not_bare (aggregate op e p m) h = refl
not_bare (unary e) h = refl
not_bare (binary op l r m) h = refl
not_bare (paren e) h = refl
not_bare (subquery e offset at range step) h = refl
not_bare (number n) h = refl
not_bare (string s) h = refl
not_bare (vector s) h = refl
not_bare (matrix s range mode) h = refl
not_bare (extension name gives es) h = refl

all_have : (ts : List Tree) → list_any is_bare_info ts ≡ false
    → AllByRecursion (λ n. (f : Signature) (args : Trees) → n ≡ call f args → is_info f ≡ true → 2 ≤ count args) ts
all_have [] e = tt
all_have (t ∷ ts) e = let parts = neither (is_bare_info t) (list_any is_bare_info ts) e in (has_two t parts.0, all_have ts parts.1)

none_bare : (ts : List Tree) → AllByRecursion (λ n. (f : Signature) (args : Trees) → n ≡ call f args → is_info f ≡ true → 2 ≤ count args) ts
    → list_any is_bare_info ts ≡ false
none_bare [] h = refl
none_bare (t ∷ ts) h = λ i. not_bare t h.0 i || none_bare ts h.1 i

pub info_calls : (t : Tree) → (has_bare_info t ≡ false)
    ↔ Everywhere (λ n. (f : Signature) (args : Trees) → n ≡ call f args → is_info f ≡ true → 2 ≤ count args) t
info_calls t = (all_have (nodes_of t), none_bare (nodes_of t))
