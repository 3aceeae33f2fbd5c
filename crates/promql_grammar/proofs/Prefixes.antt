-- Parsing looks at one token past what it takes: lists that begin alike are parsed alike.
use Rattle.std.proofs.Common.{◌≡◌, ℕ, zero, suc, ◌+◌, ◌≤◌, ◌⊎◌, inl, inr, refl, sym, ◌∙◌, ap, subst, arith, List, [], ◌∷◌, ◌++◌, length, append_assoc, length-append}
use Rattle.std.specs.Prelude.{Ok, Err}
use Rattle.promql_grammar.specs.Results.{◌then◌}
use Rattle.promql_grammar.specs.Symbols.{Symbol}
use Rattle.promql_grammar.specs.Parsing.{Read, misfit, too_high}

-- a list ends in these tokens
abbrev pub IsEnd : List Symbol → List Symbol → Type 0
IsEnd us ts = (front : List Symbol) × (ts ≡ front ++ us)

pub whole_end : (ts : List Symbol) → IsEnd ts ts
whole_end ts = ([], refl)

pub end_later : (t : Symbol) (us ts : List Symbol) → IsEnd us ts → IsEnd us (t ∷ ts)
end_later t us ts e = (t ∷ e.0, ap (λ l. t ∷ l) e.1)

end_of_end : (vs us ts : List Symbol) → IsEnd vs us → IsEnd us ts → IsEnd vs ts
end_of_end vs us ts e f = (f.0 ++ e.0, f.1 ∙ ap (λ l. f.0 ++ l) e.1 ∙ sym (append_assoc f.0 e.0 vs))

end_shorter : (us ts : List Symbol) → IsEnd us ts → length us ≤ length ts
end_shorter us ts e = omega (arith, ap length e.1, length-append e.0 us)

-- what is left, or does not fit, is an end of the list
abbrev pub Ends : {A : Type 0} → List Symbol → Read A → Type 0
Ends ts (Ok y) = IsEnd y.1 ts
Ends ts (Err (misfit us)) = IsEnd us ts
Ends ts (Err too_high) = Unit {0}

ends_later : {A : Type 0} (t : Symbol) (ts : List Symbol) (o : Read A) → Ends ts o → Ends (t ∷ ts) o
ends_later t ts (Ok y) e = end_later t y.1 ts e
ends_later t ts (Err (misfit us)) e = end_later t us ts e
ends_later t ts (Err too_high) e = tt

ends_after : {A : Type 0} (us ts : List Symbol) (o : Read A) → IsEnd us ts → Ends us o → Ends ts o
ends_after us ts (Ok y) e f = end_of_end y.1 us ts f e
ends_after us ts (Err (misfit vs)) e f = end_of_end vs us ts f e
ends_after us ts (Err too_high) e f = tt

-- two lists that are alike up to and with a token x
module _ (x : Symbol) (rest other : List Symbol) where
  abbrev pub one : List Symbol → List Symbol
  one front = front ++ x ∷ rest

  abbrev pub two : List Symbol → List Symbol
  two front = front ++ x ∷ other

  -- what is left of the first begins at x or before it, and so much is left of the second
  pub record SameOk {A : Type 0} (a : A) (us : List Symbol) (o : Read A) : Type 0 where
    pub front : List Symbol
    pub left : us ≡ one front
    pub same : o ≡ Ok (a, two front)

  pub record SameErr {A : Type 0} (us : List Symbol) (o : Read A) : Type 0 where
    pub front : List Symbol
    pub left : us ≡ one front
    pub same : o ≡ Err (misfit (two front))

  -- x was taken, or both give the same
  abbrev pub Agrees : {A : Type 0} → Read A → Read A → Type 0
  Agrees (Ok y) o = (length y.1 ≤ length rest) ⊎ SameOk y.0 y.1 o
  Agrees (Err (misfit us)) o = (length us ≤ length rest) ⊎ SameErr us o
  Agrees (Err too_high) o = Unit {0}

  -- where x was taken
  agrees_past : {A : Type 0} (us : List Symbol) (o o' : Read A) → length us ≤ length rest → Ends us o → Agrees o o'
  agrees_past us (Ok y) o' past e = inl (omega (arith, end_shorter y.1 us e))
  agrees_past us (Err (misfit vs)) o' past e = inl (omega (arith, end_shorter vs us e))
  agrees_past us (Err too_high) o' past e = tt

  -- two readers give the same of lists that begin alike, and are at most so long
  pub record Local {A : Type 0} (m n : ℕ) (f g : List Symbol → Read A) : Type 0 where
    pub ends : (ts : List Symbol) → length ts ≤ m → Ends ts (f ts)
    pub same : (front : List Symbol) → length (one front) ≤ m → length (two front) ≤ n → Agrees (f (one front)) (g (two front))

  pub local_ok : {A : Type 0} (a : A) (m n : ℕ) → Local m n (λ ts. Ok (a, ts)) (λ ts. Ok (a, ts))
  local_ok a m n = record {
    ends = λ ts l. whole_end ts;
    same = λ front l l'. inr (record { front = front; left = refl; same = refl });
  }

  pub local_misfit : {A : Type 0} (m n : ℕ) → Local {A = A} m n (λ ts. Err (misfit ts)) (λ ts. Err (misfit ts))
  local_misfit m n = record {
    ends = λ ts l. whole_end ts;
    same = λ front l l'. inr (record { front = front; left = refl; same = refl });
  }

  pub local_high : {A : Type 0} (m n : ℕ) → Local {A = A} m n (λ ts. Err too_high) (λ ts. Err too_high)
  local_high m n = record { ends = λ ts l. tt; same = λ front l l'. tt }

  -- of an empty list, and of one that is alike to none
  pub local_empty : {A : Type 0} (n : ℕ) (f g : List Symbol → Read A) → Ends [] (f []) → Local 0 n f g
  local_empty n f g e = record { ends = λ ts l. empty_ends ts l; same = λ front l l'. absurd (omega (arith, length-append front (x ∷ rest))) }
    where
      empty_ends : (ts : List Symbol) → length ts ≤ 0 → Ends ts (f ts)
      empty_ends [] l = e
      empty_ends (t ∷ ts) l = absurd (omega arith)

  local_none : {A : Type 0} (m : ℕ) (f g : List Symbol → Read A) → ((ts : List Symbol) → length ts ≤ m → Ends ts (f ts)) → Local m 0 f g
  local_none m f g e = record { ends = e; same = λ front l l'. absurd (omega (arith, length-append front (x ∷ other))) }

  -- one reader after another
  then_ends : {A B : Type 0} (m : ℕ) (ts : List Symbol) (o : Read A) (f : A → List Symbol → Read B) → length ts ≤ m → Ends ts o → ((a : A) (us : List Symbol) → length us ≤ m → Ends us (f a us)) → Ends ts (o then λ y. f y.0 y.1)
  then_ends m ts (Ok y) f l e h = ends_after y.1 ts (f y.0 y.1) e (h y.0 y.1 (omega (arith, end_shorter y.1 ts e)))
  then_ends m ts (Err (misfit us)) f l e h = e
  then_ends m ts (Err too_high) f l e h = tt

  then_agrees : {A B : Type 0} (m n : ℕ) (front : List Symbol) (o o' : Read A) (f g : A → List Symbol → Read B) → length (one front) ≤ m → length (two front) ≤ n → Ends (one front) o → Agrees o o' → ((a : A) → Local m n (f a) (g a))
      → Agrees (o then λ y. f y.0 y.1) (o' then λ y. g y.0 y.1)
  then_agrees m n front (Ok y) o' f g l l' e (inl past) h = agrees_past y.1 (f y.0 y.1) (o' then λ y. g y.0 y.1) past ((h y.0).ends y.1 (omega (arith, end_shorter y.1 (one front) e)))
  then_agrees m n front (Ok y) o' f g l l' e (inr a) h =
      let short = end_shorter y.1 (one front) e in
      let next : Agrees (f y.0 (one a.front)) (g y.0 (two a.front)) = (h y.0).same a.front (omega (arith, short, ap length a.left)) (omega (arith, short, ap length a.left, length-append front (x ∷ rest), length-append front (x ∷ other), length-append a.front (x ∷ rest), length-append a.front (x ∷ other))) in
      let at : Agrees (f y.0 y.1) (g y.0 (two a.front)) = subst (λ us. Agrees (f y.0 us) (g y.0 (two a.front))) (sym a.left) next in
      subst (λ q. Agrees (f y.0 y.1) (q then λ y. g y.0 y.1)) (sym a.same) at
  then_agrees m n front (Err (misfit us)) o' f g l l' e (inl past) h = inl past
  then_agrees m n front (Err (misfit us)) o' f g l l' e (inr a) h = inr (record { front = a.front; left = a.left; same = ap (λ q. q then λ y. g y.0 y.1) a.same })
  then_agrees m n front (Err too_high) o' f g l l' e a h = tt

  pub local_then : {A B : Type 0} (m n : ℕ) (p q : List Symbol → Read A) (f g : A → List Symbol → Read B) → Local m n p q → ((a : A) → Local m n (f a) (g a)) → Local m n (λ ts. p ts then λ y. f y.0 y.1) (λ ts. q ts then λ y. g y.0 y.1)
  local_then m n p q f g l h = record {
    ends = λ ts s. then_ends m ts (p ts) f s (l.ends ts s) (λ a us s'. (h a).ends us s');
    same = λ front s s'. then_agrees m n front (p (one front)) (q (two front)) f g s s' (l.ends (one front) s) (l.same front s s') h;
  }

  -- ---- by the first token

  -- what a reader does at a token: it takes the token and goes on, or goes on at it
  pub data Step {A : Type 0} (m n m' n' : ℕ) (f g : List Symbol → Read A) (t : Symbol) : Type 0 where
    takes : (h k : List Symbol → Read A) → Local m' n' h k → ((ts : List Symbol) → f (t ∷ ts) ≡ h ts) → ((ts : List Symbol) → g (t ∷ ts) ≡ k ts) → Step m n m' n' f g t
    stays : (h k : List Symbol → Read A) → Local m n h k → ((ts : List Symbol) → f (t ∷ ts) ≡ h (t ∷ ts)) → ((ts : List Symbol) → g (t ∷ ts) ≡ k (t ∷ ts)) → Step m n m' n' f g t

  step_ends : {A : Type 0} (m n m' n' : ℕ) (f g : List Symbol → Read A) (t : Symbol) (ts : List Symbol) → m ≤ m' + 1 → length (t ∷ ts) ≤ m → Step m n m' n' f g t → Ends (t ∷ ts) (f (t ∷ ts))
  step_ends m n m' n' f g t ts b l (takes h k s e e') = subst (Ends (t ∷ ts)) (sym (e ts)) (ends_later t ts (h ts) (s.ends ts (omega arith)))
  step_ends m n m' n' f g t ts b l (stays h k s e e') = subst (Ends (t ∷ ts)) (sym (e ts)) (s.ends (t ∷ ts) l)

  agrees_by : {A : Type 0} (o p o' p' : Read A) → o ≡ p → o' ≡ p' → Agrees p p' → Agrees o o'
  agrees_by o p o' p' e e' a = subst (λ q. Agrees q o') (sym e) (subst (Agrees p) (sym e') a)

  -- x is the first token
  step_here : {A : Type 0} (m n m' n' : ℕ) (f g : List Symbol → Read A) → m ≤ m' + 1 → length (x ∷ rest) ≤ m → length (x ∷ other) ≤ n → Step m n m' n' f g x → Agrees (f (x ∷ rest)) (g (x ∷ other))
  step_here m n m' n' f g b l l' (takes h k s e e') = agrees_by _ (h rest) _ (k other) (e rest) (e' other) (agrees_past rest (h rest) (k other) (omega arith) (s.ends rest (omega arith)))
  step_here m n m' n' f g b l l' (stays h k s e e') = agrees_by _ (h (x ∷ rest)) _ (k (x ∷ other)) (e rest) (e' other) (s.same [] l l')

  -- it comes later
  step_later : {A : Type 0} (m n m' n' : ℕ) (f g : List Symbol → Read A) (t : Symbol) (front : List Symbol) → m ≤ m' + 1 → n ≤ n' + 1 → length (one (t ∷ front)) ≤ m → length (two (t ∷ front)) ≤ n → Step m n m' n' f g t → Agrees (f (one (t ∷ front))) (g (two (t ∷ front)))
  step_later m n m' n' f g t front b b' l l' (takes h k s e e') = agrees_by _ (h (one front)) _ (k (two front)) (e (one front)) (e' (two front)) (s.same front (omega arith) (omega arith))
  step_later m n m' n' f g t front b b' l l' (stays h k s e e') = agrees_by _ (h (one (t ∷ front))) _ (k (two (t ∷ front))) (e (one front)) (e' (two front)) (s.same (t ∷ front) l l')

  pub local_by_first : {A : Type 0} (m n m' n' : ℕ) (f g : List Symbol → Read A) → m ≤ m' + 1 → n ≤ n' + 1 → Ends [] (f []) → ((t : Symbol) → Step m n m' n' f g t) → Local m n f g
  local_by_first m n m' n' f g b b' none step = record { ends = ends_all; same = same_all }
    where
      ends_all : (ts : List Symbol) → length ts ≤ m → Ends ts (f ts)
      ends_all [] l = none
      ends_all (t ∷ ts) l = step_ends m n m' n' f g t ts b l (step t)

      same_all : (front : List Symbol) → length (one front) ≤ m → length (two front) ≤ n → Agrees (f (one front)) (g (two front))
      same_all [] l l' = step_here m n m' n' f g b l l' (step x)
      same_all (t ∷ front) l l' = step_later m n m' n' f g t front b b' l l' (step t)

  -- ---- readers that are bounded by a number

  pub local_bounded : {A D : Type 0} (p : ℕ → D → List Symbol → Read A) → ((d : D) → Ends [] (p 0 d [])) → ((k j : ℕ) → ((d : D) → Local k j (p k d) (p j d)) → (d : D) → Local (suc k) (suc j) (p (suc k) d) (p (suc j) d))
      → (k j : ℕ) (d : D) → Local k j (p k d) (p j d)
  local_bounded p none next zero j d = local_empty j (p 0 d) (p j d) (none d)
  local_bounded p none next (suc k) zero d = local_none (suc k) (p (suc k) d) (p 0 d) (next k 0 (λ e. local_bounded p none next k zero e) d).ends
  local_bounded p none next (suc k) (suc j) d = next k j (λ e. local_bounded p none next k j e) d

  -- the bound is the length of the list
  pub local_by_length : {A : Type 0} (m n : ℕ) (p : ℕ → List Symbol → Read A) → ((k j : ℕ) → Local k j (p k) (p j)) → Local m n (λ ts. p (length ts) ts) (λ ts. p (length ts) ts)
  local_by_length m n p all = record {
    ends = λ ts l. (all (length ts) 0).ends ts (omega arith);
    same = λ front l l'. (all (length (one front)) (length (two front))).same front (omega arith) (omega arith);
  }
