-- What is found byte by byte is the comments of the lines.
use Rattle.std.proofs.Common.{◌≡◌, ℕ, ◌+◌, ◌-◌, ◌≤◌, Bool, true, false, List, [], ◌∷◌, ◌++◌, drop, length, map, min, take, refl, sym, ap, ◌∙◌, subst, append_assoc, arith, inl, inr, length-drop}
use Rattle.std.specs.Prelude.{◌==◌}
use Rattle.std.specs.List.{concat, onto_first, slice_split}
use Rattle.std.proofs.lemmas.Bool.{cases_lt, eqb-true}
use Rattle.std.proofs.lemmas.List.{drop_all, take_all}
use Rattle.std.proofs.Math.Nat.{min-eq_left, min-eq_right}
use Rattle.std.proofs.Math.Seq.{take-nil}
use Rattle.promql_token.specs.declared.lexeme.Lexeme.{Lexeme}
use Rattle.promql_text.specs.Texts.{Text, code}
use Rattle.promql_token.specs.Vocabulary.{is_line_end}
use Rattle.promql_formatter.specs.Comments.{gaps, line_comment}
use Rattle.promql_formatter.specs.CommentScans.{scan}

abbrev pub lines : Text → List Text
lines = slice_split is_line_end

abbrev pub all : List Text → Text
all ls = concat (map line_comment ls)

-- the same, of lines of which the first is inside a comment
abbrev pub inside : List Text → Text
inside [] = code "\n" ∷ []
inside (first ∷ rest) = first ++ (code "\n" ∷ all rest)

by_bool : (b : Bool) (P : Type 0) → (b ≡ true → P) → (b ≡ false → P) → P
by_bool true P f g = f refl
by_bool false P f g = g refl

begins : (b : ℕ) (ls : List Text) → (b == code "#") ≡ true → all (onto_first b ls) ≡ b ∷ inside ls
begins b [] is = rw is
begins b (first ∷ rest) is = rw is (ap (λ t. b ∷ t) (append_assoc first (code "\n" ∷ []) (all rest)))

skips : (b : ℕ) (ls : List Text) → (b == code "#") ≡ false → all (onto_first b ls) ≡ all ls
skips b [] is = rw is
skips b (first ∷ rest) is = rw is

goes_on : (b : ℕ) (ls : List Text) → inside (onto_first b ls) ≡ b ∷ inside ls
goes_on b [] = refl
goes_on b (first ∷ rest) = refl

no_hash : (b : ℕ) → is_line_end b ≡ true → (b == code "#") ≡ false
no_hash b end = by_bool (b == code "#") _ (λ is. let at : is_line_end (code "#") ≡ true = subst (λ x. is_line_end x ≡ true) (eqb-true b (code "#") is) end in let no : false ≡ true = at in cc) (λ no. no)

pub scanned : (g : Text) → (scan false g ≡ all (lines g)) × (scan true g ≡ inside (lines g))
scanned [] = (refl, refl)
scanned (b ∷ bs) =
    let rest = scanned bs in
    by_bool (is_line_end b) _
    (λ end. let no = no_hash b end in (rw (no, end) rest.0, rw end (ap (λ t. code "\n" ∷ t) rest.0)))
    (λ apart. (
      by_bool (b == code "#") _ (λ is. rw (is, apart) (ap (λ t. b ∷ t) rest.1 ∙ sym (begins b (lines bs) is))) (λ no. rw (no, apart) (rest.0 ∙ sym (skips b (lines bs) no))),
      rw apart (ap (λ t. b ∷ t) rest.1 ∙ sym (goes_on b (lines bs))),
    ))

-- the comments of all gaps
abbrev pub in_gaps : List Text → Text
in_gaps gs = concat (map (λ gap. concat (map line_comment (lines gap))) gs)

-- ---- a place past every text is its end

clamped_gap : (s : Text) (a m e : ℕ) → length s ≤ m → take (e - min a m) (drop (min a m) s) ≡ take (e - a) (drop a s)
clamped_gap s a m e fits = elim (cases_lt a m) [
  | inl low ↦ let less : a ≤ m = omega arith in rw (min-eq_left less) refl
  | inr high ↦
      let past : length s ≤ a = omega arith in
      let ends : min a m ≡ m = min-eq_right high in
      rw (ends, drop_all m s fits, drop_all a s past) (take-nil (e - m) ∙ sym (take-nil (e - a)))
]

pub clamped_gaps : (s : Text) (a m : ℕ) (xs : List Lexeme) → length s ≤ m → gaps s (min a m) xs ≡ gaps s a xs
clamped_gaps s a m [] fits = elim (cases_lt a m) [
  | inl low ↦ let less : a ≤ m = omega arith in rw (min-eq_left less) refl
  | inr high ↦
      let past : length s ≤ a = omega arith in
      let ends : min a m ≡ m = min-eq_right high in
      rw (ends, drop_all m s fits, drop_all a s past) refl
]
clamped_gaps s a m (x ∷ xs) fits = ap (λ gap. gap ∷ gaps s (x.start + x.len) xs) (clamped_gap s a m x.start fits)

-- the last gap, as the code takes it
pub last_gap : (s : Text) (a : ℕ) → take (length s - a) (drop a s) ≡ drop a s
last_gap s a = take_all _ _ (omega (arith, length-drop a s))
