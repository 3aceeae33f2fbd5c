-- The grammar of `regex` reads the bytes and the escapes of plain patterns.
use Rattle.std.proofs.Common.{◌≡◌, ℕ, zero, suc, ◌<◌, ◌≤◌, Bool, true, false, not, ◌&&◌, ◌||◌, ◌∷◌, ◌++◌, length, Option, Some, None, IsSomeAnd, is_some, refl, sym, subst, ne_eqb, ⊎_elim, arith, true≢false}
use Rattle.std.specs.Prelude.{IfSome}
use Rattle.std.proofs.lemmas.Bool.{and_parts, cases_Bool, cases_lt, not-true}
use Rattle.regex_syntax.proofs.Written.{grammar}
use Rattle.regex_syntax.specs.Brackets.{Nested, flat, single}
use Rattle.regex_syntax.specs.Escapes.{Piece, assertion, character, class, escape, one_letter}
use Rattle.regex_syntax.specs.Grammar.{atom, piece_meaning}
use Rattle.regex_syntax.specs.Reading.{◌>>=◌, ◌∈◌, first, is_empty}
use Rattle.regex.specs.Patterns.{Re, default_config}
use Rattle.promql_text.specs.Texts.{Text}
use Rattle.promql_label.specs.declared.plain.After.TheVariants as after
use Rattle.promql_label.specs.PatternSize.{weight}
use Rattle.promql_label.specs.PlainPatterns.{is_escaped}
use Rattle.promql_label.proofs.plain_patterns.PlainScans.{IsByte, Plain, escaped_ascii}

pub not_empty : (b : ℕ) (t : Text) → is_empty (b ∷ t) ≡ false
not_empty b t = ne_eqb (length (b ∷ t)) 0 (λ e. omega (arith, e))

-- what is read up to this text, nested no deeper than so: a byte, a class or an assertion
abbrev pub UpTo : ℕ → Text → Nested Re × Text → Type 0
UpTo depth t read = (read.0.depth ≤ depth) × (read.1 ≡ t) × (weight read.0.value ≡ 1)

-- an atom is read up to an item that ends a shorter text before r
pub record AtomRead (r : Text) (o c f most : ℕ) (read : Nested Re × Text) : Type 0 where
  pub shallow : read.0.depth ≤ 2
  pub light : weight read.0.value ≡ 1
  pub rest : Text
  pub is : read.1 ≡ rest ++ r
  pub plain : Plain o c f after.Item rest
  pub short : length rest ≤ most

pub atom_up_to : (r : Text) (o c f most : ℕ) (y : Text) (made : Option (Nested Re × Text)) → Plain o c f after.Item y → length y ≤ most
    → IsSomeAnd made (UpTo 0 (y ++ r)) → IsSomeAnd made (AtomRead r o c f most)
atom_up_to r o c f most y None plain short h = absurd h
atom_up_to r o c f most y (Some read) plain short h = record { shallow = omega (arith, h.0); light = h.2; rest = y; is = h.1; plain = plain; short = short }

-- ---- bytes

pub byte_is_read : (b : ℕ) (t : Text) → IsByte b → IsSomeAnd (atom default_config (b ∷ t)) (UpTo 0 t)
unfolding grammar
byte_is_read b t one = ⊎_elim
    (λ (dot : (b ∈ ".") ≡ true). rw (one.repeats, one.brackets, one.escapes, dot) (omega arith, refl, refl))
    (λ (no_dot : (b ∈ ".") ≡ false). ⊎_elim
    (λ (start : (b ∈ "^") ≡ true). rw (one.repeats, one.brackets, one.escapes, no_dot, start) (omega arith, refl, refl))
    (λ (no_start : (b ∈ "^") ≡ false). ⊎_elim
    (λ (end : (b ∈ "$") ≡ true). rw (one.repeats, one.brackets, one.escapes, no_dot, no_start, end) (omega arith, refl, refl))
    (λ (no_end : (b ∈ "$") ≡ false). rw (one.repeats, one.brackets, one.escapes, no_dot, no_start, no_end) (omega arith, refl, refl))
    (cases_Bool (b ∈ "$")))
    (cases_Bool (b ∈ "^")))
    (cases_Bool (b ∈ "."))

-- ---- escapes

-- no more of the text is looked at after a backslash and this byte, and it means something outside classes and in them
abbrev is_read_alone : ℕ → Bool
is_read_alone b =
    not (b ∈ "x") && not (b ∈ "u") && not (b ∈ "U") && not (b ∈ "pP") && not (b ∈ "b")
    && is_some (one_letter default_config b >>= piece_meaning default_config)
    && is_some (one_letter default_config b >>= single default_config)

escapes_agree : (n : ℕ) → Bool
escapes_agree zero = true
escapes_agree (suc n) = (not (is_escaped n) || is_read_alone n) && escapes_agree n

escaped_below : (n b : ℕ) → b < n → escapes_agree n ≡ true → (not (is_escaped b) || is_read_alone b) ≡ true
unfolding escapes_agree
escaped_below zero b less all = absurd (omega (arith, less))
escaped_below (suc n) b less all = ⊎_elim
    (λ (below : b < n). escaped_below n b below (and_parts _ _ all).1)
    (λ (past : n ≤ b). let last : n ≡ b = omega (arith, less, past) in
    subst (λ m. (not (is_escaped m) || is_read_alone m) ≡ true) last (and_parts _ _ all).0)
    (cases_lt b n)

escapes_are_read_alone : escapes_agree 128 ≡ true
unfolding grammar escapes_agree
escapes_are_read_alone = refl

pub record ReadAlone (b : ℕ) : Type 0 where
  pub hex : (b ∈ "x") ≡ false
  pub short : (b ∈ "u") ≡ false
  pub long : (b ∈ "U") ≡ false
  pub property : (b ∈ "pP") ≡ false
  pub boundary : (b ∈ "b") ≡ false
  pub meaning : is_some (one_letter default_config b >>= piece_meaning default_config) ≡ true
  pub in_class : is_some (one_letter default_config b >>= single default_config) ≡ true

pub read_alone : (b : ℕ) → is_escaped b ≡ true → ReadAlone b
read_alone b h =
    let alone : is_read_alone b ≡ true = subst (λ p. (not p || is_read_alone b) ≡ true) h (escaped_below 128 b (escaped_ascii b h) escapes_are_read_alone) in
    let (others, in_class) = and_parts _ (is_some (one_letter default_config b >>= single default_config)) alone in
    let (others, meaning) = and_parts _ (is_some (one_letter default_config b >>= piece_meaning default_config)) others in
    let (others, boundary) = and_parts _ (not (b ∈ "b")) others in
    let (others, property) = and_parts _ (not (b ∈ "pP")) others in
    let (others, long) = and_parts _ (not (b ∈ "U")) others in
    let (hex, short) = and_parts (not (b ∈ "x")) (not (b ∈ "u")) others in
    record {
      hex = not-true _ hex;
      short = not-true _ short;
      long = not-true _ long;
      property = not-true _ property;
      boundary = not-true _ boundary;
      meaning = meaning;
      in_class = in_class;
    }

piece_weighs : (piece : Piece) → IfSome (piece_meaning default_config piece) (λ re. weight re ≡ 1)
unfolding grammar
piece_weighs (character c true) = refl
piece_weighs (character c false) = refl
piece_weighs (class set) = refl
piece_weighs (assertion l) = refl

meaning_is_read : (m : Option Re) (t : Text) → is_some m ≡ true → IfSome m (λ re. weight re ≡ 1) → IsSomeAnd (m >>= λ re. Some (flat re, t)) (UpTo 0 t)
meaning_is_read None t h one = absurd (true≢false (sym h))
meaning_is_read (Some re) t h one = (omega arith, refl, one)

piece_is_read : (o : Option Piece) (t : Text) → is_some (o >>= piece_meaning default_config) ≡ true
    → IsSomeAnd ((o >>= λ piece. Some (piece, t)) >>= λ (piece, rest). piece_meaning default_config piece >>= λ re. Some (flat re, rest)) (UpTo 0 t)
piece_is_read None t h = absurd (true≢false (sym h))
piece_is_read (Some piece) t h = meaning_is_read (piece_meaning default_config piece) t h (piece_weighs piece)

pub escape_is_read : (b : ℕ) (t : Text) → is_escaped b ≡ true → IsSomeAnd (atom default_config (92 ∷ b ∷ t)) (UpTo 0 t)
unfolding atom escape first
escape_is_read b t h =
    let alone = read_alone b h in
    rw (alone.hex, alone.short, alone.long, alone.property, alone.boundary) (piece_is_read (one_letter default_config b) t alone.meaning)
