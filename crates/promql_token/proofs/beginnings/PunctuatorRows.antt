-- Punctuators by their table, and the faults at them.
use Rattle.std.proofs.Common.{◌≡◌, ℕ, zero, suc, ◌<◌, true, false, cond, List, [], ◌∷◌, length, take, drop, Some, Ok, Err, refl, ap, subst, inl, inr, arith, eqb-true}
use Rattle.std.specs.Prelude.{◌==◌, ◌||◌, slice_get}
use Rattle.std.specs.Char.{is_ascii_digit}
use Rattle.std.specs.List.{list_any}
use Rattle.std.proofs.lemmas.Bool.{cond_both}
use Rattle.std.proofs.lemmas.Grind.{common_steps}
use Rattle.promql_token.specs.declared.class.Class.TheVariants as class
use Rattle.promql_token.specs.declared.fault.LexFaultKind.TheVariants.{RightParen}
use Rattle.promql_token.specs.declared.state.Bracket.{Bracket}
use Rattle.promql_token.specs.declared.state.Bracket.TheVariants as bracket
use Rattle.promql_token.specs.declared.state.Mode.{Mode}
use Rattle.promql_token.specs.declared.state.Mode.TheVariants as mode
use Rattle.promql_text.specs.Texts.{Text}
use Rattle.promql_token.specs.Begins.{punctuators, punctuators_outside, IsOneOf, MayBegin}
use Rattle.promql_token.specs.Front.{Punctuator}
use Rattle.promql_token.specs.Classes.{is_in}
use Rattle.promql_token.specs.FaultPlaces.{IsFault}
use Rattle.promql_token.specs.Vocabulary.{next}
use Rattle.promql_token.specs.TokenScanning.{Scanned, is_quote, bang_in_braces, bang_token, colon_token, dot_token, equal_token, or_equal, punctuator}
use Rattle.promql_token.proofs.cursors.TestsAndCounts.{not_one}
use Rattle.promql_token.specs.declared.ids.TheConstants.{T_COMMA, T_EQL, T_EQL_REGEX, T_RIGHT_BRACE, T_RIGHT_BRACKET, T_RIGHT_PAREN}

-- what a piece says of its text
abbrev pub Says : Mode → ℕ → Text → Scanned → Type 0
Says m depth z (Ok t) = MayBegin m depth t.0 (take t.1 z) (drop t.1 z)
Says m depth z (Err f) = IsFault f.0 m depth (take f.1 z) (drop f.1 z)

-- ---- rows

abbrev IsRow : Punctuator → ℕ → Text → Text → Type 0
IsRow s id w r = (w ≡ s.0) × (id ≡ s.1) × (list_any (λ b. next r == b) s.2 ≡ false)

pub row_at : (k : ℕ) (ss : List Punctuator) (s : Punctuator) (id : ℕ) (w r : Text) → slice_get ss k ≡ Some s → IsRow s id w r → IsOneOf ss id w r
row_at k [] s id w r is row = absurd (cc)
row_at zero (t ∷ ss) s id w r is row = let same : s ≡ t = cc in inl (subst (λ s. IsRow s id w r) same row)
row_at (suc k) (t ∷ ss) s id w r is row = inr (row_at k ss s id w r is row)

pub row_outside : (depth id : ℕ) (w r : Text) → IsOneOf punctuators_outside id w r → IsOneOf (punctuators mode.Outside depth) id w r
row_outside zero id w r h = h
row_outside (suc depth) id w r h = inr h

pub byte_is : (b n : ℕ) → (b == n) ≡ true → b ∷ [] ≡ n ∷ []
byte_is b n e = ap (λ b. b ∷ []) (eqb-true b n e)

-- a second byte that is not NUL
second : (n : ℕ) (y : Text) → (next y == n) ≡ true → 0 < n → (rest : Text) × (y ≡ n ∷ rest)
second n [] e some = absurd (grind (arith, common_steps))
second n (c ∷ y) e some = (y, ap (λ c. c ∷ y) (eqb-true c n e))

two_bytes : (b n m : ℕ) (y : Text) → (b == n) ≡ true → (next y == m) ≡ true → 0 < m → take 2 (b ∷ y) ≡ n ∷ m ∷ []
two_bytes b n m y e f some = let s = second m y f some in (λ i. take 2 (eqb-true b n e i ∷ s.1 i))

-- ---- outside

-- a punctuator of the table, at its row
outside_row : (depth k : ℕ) (s : Punctuator) (id n : ℕ) (z : Text) → slice_get punctuators_outside k ≡ Some s → IsRow s id (take n z) (drop n z) → MayBegin mode.Outside depth id (take n z) (drop n z)
outside_row depth k s id n z is row = inl (row_outside depth id (take n z) (drop n z) (row_at k punctuators_outside s id (take n z) (drop n z) is row))

dot_says : (depth b : ℕ) (y : Text) → (b == 46) ≡ true → is_ascii_digit (next y) ≡ false → Says mode.Outside depth (b ∷ y) (dot_token (b ∷ y))
dot_says depth b [] is digit = (refl, byte_is b 46 is)
dot_says depth b (c ∷ y) is digit =
    cond_both (length (b ∷ c ∷ y) == 1) _ _ (Says mode.Outside depth (b ∷ c ∷ y)) (λ one. let never = not_one (length y) in absurd (cc)) (λ _. (byte_is b 46 is, omega arith, digit))

equal_says : (depth b : ℕ) (y : Text) → (b == 61) ≡ true → Says mode.Outside depth (b ∷ y) (equal_token (next y))
equal_says depth b y is =
    cond_both (next y == 61) _ _ (Says mode.Outside depth (b ∷ y)) (λ e. outside_row depth 12 _ 26 2 (b ∷ y) refl (two_bytes b 61 61 y is e (omega arith), refl, refl)) (λ no_equal.
    cond_both (next y == 126) _ _ (Says mode.Outside depth (b ∷ y)) (λ e. (byte_is b 61 is, e)) (λ no_tilde.
    outside_row depth 11 _ 0 1 (b ∷ y) refl (byte_is b 61 is, refl, (λ i. no_equal i || (no_tilde i || false)))))

less_says : (depth b : ℕ) (y : Text) → (b == 60) ≡ true → Says mode.Outside depth (b ∷ y) (or_equal (next y) 33 32)
less_says depth b y is =
    cond_both (next y == 61) _ _ (Says mode.Outside depth (b ∷ y)) (λ e. outside_row depth 15 _ 33 2 (b ∷ y) refl (two_bytes b 60 61 y is e (omega arith), refl, refl))
    (λ no_equal. outside_row depth 14 _ 32 1 (b ∷ y) refl (byte_is b 60 is, refl, (λ i. no_equal i || false)))

greater_says : (depth b : ℕ) (y : Text) → (b == 62) ≡ true → Says mode.Outside depth (b ∷ y) (or_equal (next y) 28 29)
greater_says depth b y is =
    cond_both (next y == 61) _ _ (Says mode.Outside depth (b ∷ y)) (λ e. outside_row depth 17 _ 28 2 (b ∷ y) refl (two_bytes b 62 61 y is e (omega arith), refl, refl))
    (λ no_equal. outside_row depth 16 _ 29 1 (b ∷ y) refl (byte_is b 62 is, refl, (λ i. no_equal i || false)))

bang_says : (depth b : ℕ) (y : Text) → (b == 33) ≡ true → Says mode.Outside depth (b ∷ y) (bang_token (b ∷ y))
bang_says depth b [] is = (refl, byte_is b 33 is, refl)
bang_says depth b (c ∷ y) is =
    cond_both (length (b ∷ c ∷ y) == 1) _ _ (Says mode.Outside depth (b ∷ c ∷ y)) (λ one. let never = not_one (length y) in absurd (cc)) (λ _.
    cond_both (c == 61) _ _ (Says mode.Outside depth (b ∷ c ∷ y)) (λ e. outside_row depth 13 _ 37 2 (b ∷ c ∷ y) refl (two_bytes b 33 61 (c ∷ y) is e (omega arith), refl, refl))
    (λ no_equal. (byte_is b 33 is, omega arith, no_equal)))

right_says : (depth b : ℕ) (y : Text) → (b == 41) ≡ true → Says mode.Outside depth (b ∷ y) (cond (depth == 0) (Err (RightParen, 0)) (Ok (T_RIGHT_PAREN, 1)))
right_says zero b y is = (refl, is)
right_says (suc depth) b y is = cond_both (suc depth == 0) _ _ (Says mode.Outside (suc depth) (b ∷ y)) (λ none. absurd (grind (arith, common_steps))) (λ _. inl (inl (byte_is b 41 is, refl, refl)))

pub punctuator_says : (depth b : ℕ) (y : Text) → is_in class.Word b ≡ false → is_quote b ≡ false → ((b == 46) ≡ true → is_ascii_digit (next y) ≡ false) → Says mode.Outside depth (b ∷ y) (punctuator depth (b ∷ y))
unfolding punctuator
punctuator_says depth b y no_word no_quote no_digit =
    let P = Says mode.Outside depth (b ∷ y) in
    let row : (k n id : ℕ) → slice_get punctuators_outside k ≡ Some (n ∷ [], id, []) → (b == n) ≡ true → MayBegin mode.Outside depth id (b ∷ []) y = λ k n id is e. outside_row depth k (n ∷ [], id, []) id 1 (b ∷ y) is (byte_is b n e, refl, refl) in
    cond_both (b == 46) _ _ P (λ e. dot_says depth b y e (no_digit e)) (λ n46.
    cond_both (b == 61) _ _ P (λ e. equal_says depth b y e) (λ n61.
    cond_both (b == 60) _ _ P (λ e. less_says depth b y e) (λ n60.
    cond_both (b == 62) _ _ P (λ e. greater_says depth b y e) (λ n62.
    cond_both (b == 33) _ _ P (λ e. bang_says depth b y e) (λ n33.
    cond_both (b == 64) _ _ P (row 0 64 _ refl) (λ n64.
    cond_both (b == 44) _ _ P (row 1 44 _ refl) (λ n44.
    cond_both (b == 42) _ _ P (row 2 42 _ refl) (λ n42.
    cond_both (b == 47) _ _ P (row 3 47 _ refl) (λ n47.
    cond_both (b == 37) _ _ P (row 4 37 _ refl) (λ n37.
    cond_both (b == 43) _ _ P (row 5 43 _ refl) (λ n43.
    cond_both (b == 45) _ _ P (row 6 45 _ refl) (λ n45.
    cond_both (b == 94) _ _ P (row 7 94 _ refl) (λ n94.
    cond_both (b == 123) _ _ P (row 8 123 _ refl) (λ n123.
    cond_both (b == 91) _ _ P (row 9 91 _ refl) (λ n91.
    cond_both (b == 40) _ _ P (row 10 40 _ refl) (λ n40.
    cond_both (b == 41) _ _ P (λ e. right_says depth b y e) (λ n41.
    cond_both (b == 125) _ _ P (λ e. (refl, e)) (λ n125.
    cond_both (b == 93) _ _ P (λ e. (refl, e)) (λ n93. (
      refl,
      omega arith,
      (λ i. no_word i || (no_quote i || (n46 i || (n64 i || (n44 i || (n42 i || (n47 i || (n37 i || (n43 i || (n45 i || (n94 i || (n123 i || (n91 i || (n40 i || (n41 i || (n125 i || (n93 i || (n61 i || (n33 i || (n60 i || (n62 i || false))))))))))))))))))))),
    )
    )))))))))))))))))))

-- ---- in braces

braces_row : (depth k : ℕ) (s : Punctuator) (id n : ℕ) (z : Text) → slice_get (punctuators mode.Braces depth) k ≡ Some s → IsRow s id (take n z) (drop n z) → MayBegin mode.Braces depth id (take n z) (drop n z)
braces_row depth k s id n z is row = inl (row_at k (punctuators mode.Braces depth) s id (take n z) (drop n z) is row)

pub comma_in_braces_says : (depth b : ℕ) (y : Text) → (b == 44) ≡ true → Says mode.Braces depth (b ∷ y) (Ok (T_COMMA, 1))
comma_in_braces_says depth b y is = braces_row depth 0 _ 3 1 (b ∷ y) refl (byte_is b 44 is, refl, refl)

pub equal_in_braces_says : (depth b : ℕ) (y : Text) → (b == 61) ≡ true → Says mode.Braces depth (b ∷ y) (cond (next y == 126) (Ok (T_EQL_REGEX, 2)) (Ok (T_EQL, 1)))
equal_in_braces_says depth b y is =
    cond_both (next y == 126) _ _ (Says mode.Braces depth (b ∷ y)) (λ e. braces_row depth 3 _ 27 2 (b ∷ y) refl (two_bytes b 61 126 y is e (omega arith), refl, refl))
    (λ no_tilde. braces_row depth 1 _ 0 1 (b ∷ y) refl (byte_is b 61 is, refl, (λ i. no_tilde i || false)))

pub bang_in_braces_says : (depth b : ℕ) (y : Text) → (b == 33) ≡ true → Says mode.Braces depth (b ∷ y) (bang_in_braces (b ∷ y))
bang_in_braces_says depth b [] is = (refl, byte_is b 33 is, refl)
bang_in_braces_says depth b (c ∷ y) is =
    let P = Says mode.Braces depth (b ∷ c ∷ y) in
    cond_both (length (b ∷ c ∷ y) == 1) _ _ P (λ one. let never = not_one (length y) in absurd (cc)) (λ _.
    cond_both (c == 126) _ _ P (λ e. braces_row depth 4 _ 38 2 (b ∷ c ∷ y) refl (two_bytes b 33 126 (c ∷ y) is e (omega arith), refl, refl)) (λ no_tilde.
    cond_both (c == 61) _ _ P (λ e. braces_row depth 2 _ 37 2 (b ∷ c ∷ y) refl (two_bytes b 33 61 (c ∷ y) is e (omega arith), refl, refl))
    (λ no_equal. (byte_is b 33 is, omega arith, (λ i. no_equal i || no_tilde i)))))

pub right_brace_says : (depth b : ℕ) (y : Text) → (b == 125) ≡ true → Says mode.Braces depth (b ∷ y) (Ok (T_RIGHT_BRACE, 1))
right_brace_says depth b y is = braces_row depth 5 _ 16 1 (b ∷ y) refl (byte_is b 125 is, refl, refl)

-- ---- in brackets

pub colon_says : (inside : Bracket) (depth b : ℕ) (y : Text) → (b == 58) ≡ true → Says (mode.Brackets inside) depth (b ∷ y) (colon_token inside)
colon_says bracket.Nothing depth b y is = (refl, is)
colon_says bracket.Something depth b y is = inl (inr (inl (byte_is b 58 is, refl, refl)))
colon_says bracket.Colon depth b y is = (refl, is)

pub right_bracket_says : (inside : Bracket) (depth b : ℕ) (y : Text) → (b == 93) ≡ true → Says (mode.Brackets inside) depth (b ∷ y) (Ok (T_RIGHT_BRACKET, 1))
right_bracket_says bracket.Nothing depth b y is = inl (inl (byte_is b 93 is, refl, refl))
right_bracket_says bracket.Something depth b y is = inl (inl (byte_is b 93 is, refl, refl))
right_bracket_says bracket.Colon depth b y is = inl (inl (byte_is b 93 is, refl, refl))
