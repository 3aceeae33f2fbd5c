-- How building that asks goes on after a part of it.
use Rattle.std.proofs.Common.{◌≡◌, sym, ap, subst, List, [], ◌∷◌, ◌++◌}
use Rattle.std.specs.Prelude.{Result, Ok, Err}
use Rattle.promql_syntax.specs.Asking.{Asking, gives, fails, asks, ◌giving◌, Asked, AreAllowed, Ends}
use Rattle.promql_syntax.specs.BuildErrors.{BuildError}

pub allowed_all : (xs ys : List Asked) → AreAllowed xs → AreAllowed ys → AreAllowed (xs ++ ys)
allowed_all [] ys first second = second
allowed_all (x ∷ xs) ys first second = (first.0, allowed_all xs ys first.1 second)

-- a value, and what it leads to
pub ends_on : {A B C : Type 0} (m : Asking A) (g : A → B) (f : B → Asking C) (xs ys : List Asked) (y : B) (end : Result C BuildError)
    → Ends (m giving λ x. gives (g x)) xs (Ok y) → Ends (f y) ys end → Ends (m giving λ x. f (g x)) (xs ++ ys) end
ends_on (gives x) g f [] ys y end first second = let same : y ≡ g x = cc in subst (λ z. Ends (f z) ys end) same second
ends_on (gives x) g f (a ∷ xs) ys y end first second = absurd first
ends_on (fails fault) g f [] ys y end first second = cc
ends_on (fails fault) g f (a ∷ xs) ys y end first second = absurd first
ends_on (asks v next) g f [] ys y end first second = absurd first
ends_on (asks v next) g f (a ∷ xs) ys y end first second = (first.0, ends_on (next a.answer) g f xs ys y end first.1 second)

-- an error ends it
pub ends_fails : {A B C : Type 0} (m : Asking A) (g : A → B) (f : B → Asking C) (xs : List Asked) (fault : BuildError)
    → Ends (m giving λ x. gives (g x)) xs (Err fault) → Ends (m giving λ x. f (g x)) xs (Err fault)
ends_fails (gives x) g f [] fault first = cc
ends_fails (gives x) g f (a ∷ xs) fault first = absurd first
ends_fails (fails other) g f [] fault first = let same : fault ≡ other = cc in ap Err same
ends_fails (fails other) g f (a ∷ xs) fault first = absurd first
ends_fails (asks v next) g f [] fault first = absurd first
ends_fails (asks v next) g f (a ∷ xs) fault first = (first.0, ends_fails (next a.answer) g f xs fault first.1)

-- the end, with a step that asks nothing after it
pub ends_map : {A B : Type 0} (m : Asking A) (g : A → B) (xs : List Asked) (x : A) → Ends m xs (Ok x) → Ends (m giving λ x. gives (g x)) xs (Ok (g x))
ends_map (gives y) g [] x first = let same : y ≡ x = cc in ap (λ z. Ok (g z)) (sym same)
ends_map (gives y) g (a ∷ xs) x first = absurd first
ends_map (fails other) g [] x first = cc
ends_map (fails other) g (a ∷ xs) x first = absurd first
ends_map (asks v next) g [] x first = absurd first
ends_map (asks v next) g (a ∷ xs) x first = (first.0, ends_map (next a.answer) g xs x first.1)

pub ends_err : {A B : Type 0} (m : Asking A) (f : A → Asking B) (xs : List Asked) (fault : BuildError) → Ends m xs (Err fault) → Ends (m giving f) xs (Err fault)
ends_err (gives y) f [] fault first = cc
ends_err (gives y) f (a ∷ xs) fault first = absurd first
ends_err (fails other) f [] fault first = let same : other ≡ fault = cc in ap Err (sym same)
ends_err (fails other) f (a ∷ xs) fault first = absurd first
ends_err (asks v next) f [] fault first = absurd first
ends_err (asks v next) f (a ∷ xs) fault first = (first.0, ends_err (next a.answer) f xs fault first.1)
