-- What is passed as a trivia is white space and comments, and no more and no less.
use Rattle.std.proofs.Common.{◌≡◌, ℕ, suc, ◌+◌, true, false, cond, List, [], ◌∷◌, ◌++◌, length, take, drop, refl, sym, ap, ◌∙◌, subst, inl, inr, ◌⊎◌, ⊎_elim, arith, append_assoc, length-append, zero-add}
use Rattle.std.specs.Prelude.{◌==◌, not, ◌&&◌}
use Rattle.std.specs.Char.{is_ascii_whitespace}
use Rattle.std.specs.List.{concat, list_all}
use Rattle.std.proofs.Math.Seq.{take-append_seam, drop-append_seam}
use Rattle.std.proofs.lemmas.Grind.{common_steps}
use Rattle.promql_token.specs.declared.class.Class.TheVariants as class
use Rattle.promql_token.specs.declared.state.Mode.{Mode}
use Rattle.promql_token.specs.declared.state.Mode.TheVariants as mode
use Rattle.promql_text.specs.Texts.{Text}
use Rattle.promql_token.specs.Trivia.{IsComment, AreBlank, IsTriviaIn}
use Rattle.promql_token.specs.Vocabulary.{next}
use Rattle.promql_token.specs.TokenScanning.{trivia_len, trivia_from, is_line_end}
use Rattle.promql_token.proofs.cursors.TestsAndCounts.{by_bool}
use Rattle.promql_token.proofs.one_reading.Ends.{and_left, and_right}
use Rattle.promql_token.proofs.printed.PrintedForms.{past_front}

no_hash : (b : ℕ) → is_ascii_whitespace b ≡ true → (b == 35) ≡ false
no_hash b h = grind (arith, common_steps)

-- ---- such a row is passed

one_white : (b : ℕ) (z : Text) → is_ascii_whitespace b ≡ true → trivia_from false (b ∷ z) ≡ suc (trivia_from false z)
one_white b z white =
    ap (λ c. cond c (suc (trivia_from true z)) (cond (is_ascii_whitespace b) (suc (trivia_from false z)) 0)) (no_hash b white) ∙ ap (λ c. cond c (suc (trivia_from false z)) 0) white

all_white : (p z : Text) → list_all is_ascii_whitespace p ≡ true → trivia_from false (p ++ z) ≡ length p + trivia_from false z
all_white [] z h = sym (zero-add (trivia_from false z))
all_white (b ∷ p) z h =
    let more = all_white p z (and_right (is_ascii_whitespace b) (list_all is_ascii_whitespace p) h) in
    let same : suc (length p + trivia_from false z) ≡ suc (length p) + trivia_from false z = omega arith in
    one_white b (p ++ z) (and_left (is_ascii_whitespace b) (list_all is_ascii_whitespace p) h) ∙ ap suc more ∙ same

line_passed : (line z : Text) → list_all (λ b. not (is_line_end b)) line ≡ true → trivia_from true (line ++ z) ≡ length line + trivia_from true z
line_passed [] z h = sym (zero-add (trivia_from true z))
line_passed (b ∷ line) z h =
    let more = line_passed line z (and_right (not (is_line_end b)) (list_all (λ b. not (is_line_end b)) line) h) in
    let same : suc (length line + trivia_from true z) ≡ suc (length line) + trivia_from true z = omega arith in
    ap (λ c. suc (trivia_from c (line ++ z))) (and_left (not (is_line_end b)) (list_all (λ b. not (is_line_end b)) line) h) ∙ ap suc more ∙ same

comment_passed : (p z : Text) → IsComment p z → trivia_from false (p ++ z) ≡ length p + trivia_from false z
comment_passed p z c =
    let line = c.0 in
    ⊎_elim (λ closed.
    let e = closed.0 in
    let end : trivia_from true (e ∷ z) ≡ suc (trivia_from false z) = ap (λ x. suc (trivia_from (not x) z)) closed.1 in
    let seam : (line ++ e ∷ []) ++ z ≡ line ++ e ∷ z = append_assoc line (e ∷ []) z in
    let same : suc (length line + suc (trivia_from false z)) ≡ length (35 ∷ (line ++ e ∷ [])) + trivia_from false z = omega (arith, length-append line (e ∷ [])) in
    subst (λ p. trivia_from false (p ++ z) ≡ length p + trivia_from false z) (sym closed.2)
    (ap (λ t. suc (trivia_from true t)) seam ∙ ap suc (line_passed line (e ∷ z) c.1) ∙ ap (λ n. suc (length line + n)) end ∙ same))
    (λ unclosed.
    let same : suc (length line + 0) ≡ suc (length line) + 0 = omega arith in
    subst (λ p. trivia_from false (p ++ z) ≡ length p + trivia_from false z) (sym unclosed.0)
    (subst (λ z. suc (trivia_from true (line ++ z)) ≡ suc (length line) + trivia_from false z) (sym unclosed.1) (ap suc (line_passed line [] c.1) ∙ same)))
    c.2

stops_here : (r : Text) → is_ascii_whitespace (next r) ≡ false → (next r == 35) ≡ false → trivia_from false r ≡ 0
stops_here [] white hash = refl
stops_here (b ∷ r) white hash =
    ap (λ c. cond c (suc (trivia_from true r)) (cond (is_ascii_whitespace b) (suc (trivia_from false r)) 0)) hash ∙ ap (λ c. cond c (suc (trivia_from false r)) 0) white

blank_passed : (ps : List Text) (r : Text) → AreBlank ps r → is_ascii_whitespace (next r) ≡ false → (next r == 35) ≡ false → trivia_from false (concat ps ++ r) ≡ length (concat ps)
blank_passed [] r h white hash = stops_here r white hash
blank_passed (p ∷ ps) r h white hash =
    let rest : Text = concat ps ++ r in
    let more = blank_passed ps r h.1 white hash in
    let first : trivia_from false (p ++ rest) ≡ length p + trivia_from false rest = ⊎_elim (λ w. all_white p rest w) (λ c. comment_passed p rest c) h.0 in
    ap (trivia_from false) (append_assoc p (concat ps) r) ∙ first ∙ ap (λ n. length p + n) more ∙ sym (length-append p (concat ps))

-- a trivia is what is passed
pub trivia_passed : (m : Mode) (g r : Text) → IsTriviaIn m g r → trivia_len m (g ++ r) ≡ length g
unfolding trivia_len
trivia_passed mode.Outside g r h = subst (λ g. trivia_from false (g ++ r) ≡ length g) (sym h.1) (blank_passed h.0 r h.2 h.3 h.4)
trivia_passed mode.Braces g r h = subst (λ g. trivia_from false (g ++ r) ≡ length g) (sym h.1) (blank_passed h.0 r h.2 h.3 h.4)
trivia_passed (mode.Brackets inside) g r h = past_front class.White g r h.0 h.1

-- ---- each text begins with such a row

record Blank (z : Text) : Type 0 where
  parts : List Text
  rest : Text
  is : z ≡ concat parts ++ rest
  blank : AreBlank parts rest
  white : is_ascii_whitespace (next rest) ≡ false
  hash : (next rest == 35) ≡ false

-- the rest of a comment, and what follows it
record Line (z : Text) : Type 0 where
  line : Text
  plain : list_all (λ b. not (is_line_end b)) line ≡ true
  end : ((e : ℕ) × (r : Text) × (is_line_end e ≡ true) × (z ≡ line ++ e ∷ r) × Blank r) ⊎ (z ≡ line)

longer_line : (b : ℕ) (z : Text) → is_line_end b ≡ false → Line z → Line (b ∷ z)
longer_line b z no_end l = record {
  line = b ∷ l.line;
  plain = λ i. not (no_end i) && l.plain i;
  end = ⊎_elim (λ closed. inl (closed.0, closed.1, closed.2, ap (λ t. b ∷ t) closed.3, closed.4)) (λ unclosed. inr (ap (λ t. b ∷ t) unclosed)) l.end;
}

comment_first : (b : ℕ) (z : Text) → (b == 35) ≡ true → Line z → Blank (b ∷ z)
comment_first b z hash l =
    let b_is : b ≡ 35 = grind (arith, common_steps) in
    ⊎_elim (λ closed.
    let e = closed.0 in
    let k = closed.4 in
    let p : Text = 35 ∷ (l.line ++ e ∷ []) in
    record {
      parts = p ∷ k.parts;
      rest = k.rest;
      is = (λ i. b_is i ∷ closed.3 i) ∙ ap (λ r. 35 ∷ (l.line ++ e ∷ r)) k.is ∙ ap (λ t. 35 ∷ t) (sym (append_assoc l.line (e ∷ []) (concat k.parts ++ k.rest))) ∙ sym (append_assoc p (concat k.parts) k.rest);
      blank = (inr (l.line, l.plain, inl (e, closed.2, refl)), k.blank);
      white = k.white;
      hash = k.hash;
    })
    (λ unclosed. record {
      parts = (35 ∷ l.line) ∷ [];
      rest = [];
      is = (λ i. b_is i ∷ unclosed i) ∙ nil (35 ∷ l.line);
      blank = (inr (l.line, l.plain, inr (refl, refl)), tt);
      white = refl;
      hash = refl;
    })
    l.end
  where
    nil : (t : Text) → t ≡ (t ++ []) ++ []
    nil [] = refl
    nil (b ∷ t) = ap (λ t. b ∷ t) (nil t)

blank_first : (b : ℕ) (z : Text) → Blank z × Line z → Blank (b ∷ z)
blank_first b z k =
    by_bool (b == 35) (λ hash. comment_first b z hash k.1) (λ hash.
    by_bool (is_ascii_whitespace b)
    (λ white. record { parts = (b ∷ []) ∷ k.0.parts; rest = k.0.rest; is = ap (λ t. b ∷ t) k.0.is; blank = (inl (ap (λ c. c && true) white), k.0.blank); white = k.0.white; hash = k.0.hash })
    (λ white. record { parts = []; rest = b ∷ z; is = refl; blank = tt; white = white; hash = hash }))

line_first : (b : ℕ) (z : Text) → Blank z × Line z → Line (b ∷ z)
line_first b z k =
    by_bool (is_line_end b) (λ end. record { line = []; plain = refl; end = inl (b, z, end, refl, k.0) })
    (λ no_end. longer_line b z no_end k.1)

both : (z : Text) → Blank z × Line z
both [] = (record { parts = []; rest = []; is = refl; blank = tt; white = refl; hash = refl }, record { line = []; plain = refl; end = inr refl })
both (b ∷ z) = let k = both z in (blank_first b z k, line_first b z k)

record White (z : Text) : Type 0 where
  white : Text
  rest : Text
  is : z ≡ white ++ rest
  all : list_all is_ascii_whitespace white ≡ true
  stop : is_ascii_whitespace (next rest) ≡ false

white_of : (z : Text) → White z
white_of [] = record { white = []; rest = []; is = refl; all = refl; stop = refl }
white_of (b ∷ z) =
    by_bool (is_ascii_whitespace b)
    (λ first. let k = white_of z in record { white = b ∷ k.white; rest = k.rest; is = ap (λ t. b ∷ t) k.is; all = λ i. first i && k.all i; stop = k.stop })
    (λ first. record { white = []; rest = b ∷ z; is = refl; all = refl; stop = first })

-- a text split at the end of a trivia
trivia_split : (m : Mode) (z g r : Text) → z ≡ g ++ r → IsTriviaIn m g r → IsTriviaIn m (take (trivia_len m z) z) (drop (trivia_len m z) z)
trivia_split m z g r is h =
    let n : trivia_len m z ≡ length g = ap (trivia_len m) is ∙ trivia_passed m g r h in
    let front : g ≡ take (trivia_len m z) z = sym ((λ i. take (n i) (is i)) ∙ take-append_seam g r) in
    let back : r ≡ drop (trivia_len m z) z = sym ((λ i. drop (n i) (is i)) ∙ drop-append_seam g r) in
    subst (λ r. IsTriviaIn m (take (trivia_len m z) z) r) back (subst (λ g. IsTriviaIn m g r) front h)

-- what is passed is a trivia
pub is_trivia : (m : Mode) (z : Text) → IsTriviaIn m (take (trivia_len m z) z) (drop (trivia_len m z) z)
is_trivia mode.Outside z = let k = (both z).0 in trivia_split mode.Outside z (concat k.parts) k.rest k.is (k.parts, refl, k.blank, k.white, k.hash)
is_trivia mode.Braces z = let k = (both z).0 in trivia_split mode.Braces z (concat k.parts) k.rest k.is (k.parts, refl, k.blank, k.white, k.hash)
is_trivia (mode.Brackets inside) z = let k = white_of z in trivia_split (mode.Brackets inside) z k.white k.rest k.is (k.all, k.stop)
