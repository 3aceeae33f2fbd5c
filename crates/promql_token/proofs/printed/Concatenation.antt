-- A token and what follows it.
use Rattle.std.proofs.Common.{◌≡◌, ℕ, suc, Bool, true, false, cond, [], ◌∷◌, ◌++◌, length, get_or, take, drop, Ok, Err, refl, sym, ap, ◌∙◌, subst, arith, eqb-true}
use Rattle.std.specs.Prelude.{◌==◌, not, ◌&&◌, ◌||◌}
use Rattle.std.specs.Char.{is_ascii_digit, is_ascii_whitespace}
use Rattle.std.proofs.lemmas.Bool.{cond_both}
use Rattle.std.proofs.lemmas.Grind.{common_steps}
use Rattle.std.proofs.Math.Seq.{take-length, drop-length}
use Rattle.promql_token.specs.declared.class.Class.TheVariants as class
use Rattle.promql_token.specs.declared.fault.LexFaultKind.TheVariants.{AfterBang, AfterBangInBraces, AfterEqual}
use Rattle.promql_token.specs.declared.ids.TheConstants.{T_EQL, T_EQLC, T_EQL_REGEX, T_NEQ, T_NEQ_REGEX, T_GTE, T_GTR, T_LSS, T_LTE}
use Rattle.promql_token.specs.declared.state.Bracket.{Bracket}
use Rattle.promql_token.specs.declared.state.Mode.{Mode}
use Rattle.promql_token.specs.declared.state.Mode.TheVariants as mode
use Rattle.promql_token.specs.declared.state.State.{State}
use Rattle.promql_text.specs.Texts.{Text}
use Rattle.promql_token.specs.Classes.{is_in, is_letter, end_of_run}
use Rattle.promql_token.specs.Laws.{Joins, JoinsWord, JoinsName, stops_numeral, stops_punctuator, parts, parts_outside, parts_in_braces, parts_in_brackets}
use Rattle.promql_token.specs.Lexing.{pieces}
use Rattle.promql_token.specs.TokenScanning.{Scanned, trivia_from, trivia_len, word_id, word, braces_id, word_in_braces, numeral, is_quote, string, bang_token, dot_token, punctuator, begins_numeral, outside, bang_in_braces, in_braces, in_brackets, scan_in_mode, scan_token, after}
use Rattle.promql_token.proofs.printed.InLongerTexts.{numeral_beside, stops, string_beside, word_beside, word_in_braces_beside}
use Rattle.promql_token.proofs.cursors.TestsAndCounts.{not_one, or_false, by_bool}
use Rattle.promql_token.proofs.one_reading.Ends.{and_left, and_right}
use Rattle.promql_token.proofs.one_reading.Inner.{Inner, begun_inner, word_plain, braces_plain, after_outside, after_in_braces}
use Rattle.promql_token.proofs.one_reading.Steps.{not_true, pieces_piece}

-- ---- no trivia is where a token does

is_white : (b : ℕ) → (b == 9) ≡ false → (b == 10) ≡ false → (b == 12) ≡ false → (b == 13) ≡ false → (b == 32) ≡ false → is_ascii_whitespace b ≡ false
is_white b h9 h10 h12 h13 h32 = grind (arith, common_steps)

-- a byte of white space is one of five
white_cases : (P : ℕ → Type 0) → P 9 → P 10 → P 12 → P 13 → P 32 → (b : ℕ) → is_ascii_whitespace b ≡ true → P b
white_cases P p9 p10 p12 p13 p32 b white =
    by_bool (b == 9) (λ e. subst P (sym (eqb-true b 9 e)) p9) (λ n9.
    by_bool (b == 10) (λ e. subst P (sym (eqb-true b 10 e)) p10) (λ n10.
    by_bool (b == 12) (λ e. subst P (sym (eqb-true b 12 e)) p12) (λ n12.
    by_bool (b == 13) (λ e. subst P (sym (eqb-true b 13 e)) p13) (λ n13.
    by_bool (b == 32) (λ e. subst P (sym (eqb-true b 32 e)) p32) (λ n32.
    let never = is_white b n9 n10 n12 n13 n32 in absurd (cc))))))

-- no token begins with the byte
abbrev IsNoToken : Mode → ℕ → ℕ → Type 0
IsNoToken m depth b = (w : Text) (t : ℕ × ℕ) → scan_in_mode m depth (b ∷ w) ≡ Ok t → ⊥

white_outside : (depth b : ℕ) → is_ascii_whitespace b ≡ true → IsNoToken mode.Outside depth b
unfolding outside punctuator
white_outside depth = white_cases (IsNoToken mode.Outside depth) (λ w t is. cc) (λ w t is. cc) (λ w t is. cc) (λ w t is. cc) (λ w t is. cc)

hash_outside : (depth : ℕ) → IsNoToken mode.Outside depth 35
unfolding outside punctuator
hash_outside depth w t is = cc

white_in_braces : (depth b : ℕ) → is_ascii_whitespace b ≡ true → IsNoToken mode.Braces depth b
unfolding in_braces
white_in_braces depth = white_cases (IsNoToken mode.Braces depth) (λ w t is. cc) (λ w t is. cc) (λ w t is. cc) (λ w t is. cc) (λ w t is. cc)

hash_in_braces : (depth : ℕ) → IsNoToken mode.Braces depth 35
unfolding in_braces
hash_in_braces depth w t is = cc

white_in_brackets : (m : Bracket) (b : ℕ) → is_ascii_whitespace b ≡ true → (w : Text) (t : ℕ × ℕ) → in_brackets m (b ∷ w) ≡ Ok t → ⊥
unfolding in_brackets
white_in_brackets m =
    white_cases (λ b. (w : Text) (t : ℕ × ℕ) → in_brackets m (b ∷ w) ≡ Ok t → ⊥) (λ w t is. cc) (λ w t is. cc) (λ w t is. cc) (λ w t is. cc) (λ w t is. cc)

no_comment_trivia : (b : ℕ) (z : Text) → ((b == 35) ≡ true → ⊥) → (is_ascii_whitespace b ≡ true → ⊥) → trivia_from false (b ∷ z) ≡ 0
no_comment_trivia b z hash white =
    by_bool (b == 35) (λ e. absurd (hash e)) (λ no_hash.
    by_bool (is_ascii_whitespace b) (λ e. absurd (white e)) (λ no_white.
    ap (λ c. cond c (suc (trivia_from true z)) (cond (is_ascii_whitespace b) (suc (trivia_from false z)) 0)) no_hash ∙ ap (λ c. cond c (suc (trivia_from false z)) 0) no_white))

no_white_trivia : (b : ℕ) (z : Text) → (is_ascii_whitespace b ≡ true → ⊥) → end_of_run class.White (b ∷ z) 0 ≡ 0
no_white_trivia b z white = by_bool (is_ascii_whitespace b) (λ e. absurd (white e)) (λ no_white. rw no_white refl)

gapless : (m : Mode) (depth b : ℕ) (w z : Text) (t : ℕ × ℕ) → scan_in_mode m depth (b ∷ w) ≡ Ok t → trivia_len m (b ∷ z) ≡ 0
unfolding trivia_len
gapless mode.Outside depth b w z t is =
    no_comment_trivia b z (λ e. subst (IsNoToken mode.Outside depth) (sym (eqb-true b 35 e)) (hash_outside depth) w t is) (λ e. white_outside depth b e w t is)
gapless mode.Braces depth b w z t is =
    no_comment_trivia b z (λ e. subst (IsNoToken mode.Braces depth) (sym (eqb-true b 35 e)) (hash_in_braces depth) w t is) (λ e. white_in_braces depth b e w t is)
gapless (mode.Brackets inside) depth b w z t is = no_white_trivia b z (λ e. white_in_brackets inside b e w t is)

-- ---- tokens that nothing goes on

-- both arms of a choice keep their token
keeps : (c : Bool) (x x2 y y2 : Scanned) (t : ℕ × ℕ) → (c ≡ true → x ≡ Ok t → x2 ≡ Ok t) → (c ≡ false → y ≡ Ok t → y2 ≡ Ok t) → cond c x y ≡ Ok t → cond c x2 y2 ≡ Ok t
keeps true x x2 y y2 t f g is = f refl is
keeps false x x2 y y2 t f g is = g refl is

-- a word that is a token alone is all word
word_all : (z : Text) (id : ℕ) → word z ≡ Ok (id, length z) → (end_of_run class.Word z 0 ≡ length z) × (word_id z [] ≡ id)
unfolding word
word_all z id is =
    let n = end_of_run class.Word z 0 in
    let pair : ◌≡◌ {A = ℕ × ℕ} (word_id (take n z) (drop n z), n) (id, length z) = cc in
    let len : n ≡ length z = ap (λ (p : ℕ × ℕ). p.1) pair in
    (len, (λ i. word_id ((sym (take-length z) ∙ ap (λ k. take k z) (sym len)) i) ((sym (drop-length z) ∙ ap (λ k. drop k z) (sym len)) i)) ∙ ap (λ (p : ℕ × ℕ). p.0) pair)

name_all : (z : Text) (id : ℕ) → word_in_braces z ≡ Ok (id, length z) → (end_of_run class.Name z 0 ≡ length z) × (braces_id z [] ≡ id)
unfolding word_in_braces
name_all z id is =
    let n = end_of_run class.Name z 0 in
    let pair : ◌≡◌ {A = ℕ × ℕ} (braces_id (take n z) (drop n z), n) (id, length z) = cc in
    let len : n ≡ length z = ap (λ (p : ℕ × ℕ). p.1) pair in
    (len, (λ i. braces_id ((sym (take-length z) ∙ ap (λ k. take k z) (sym len)) i) ((sym (drop-length z) ∙ ap (λ k. drop k z) (sym len)) i)) ∙ ap (λ (p : ℕ × ℕ). p.0) pair)

word_keeps : (w r : Text) (id : ℕ) → (not (is_in class.Word (get_or r 0 0)) && (word_id w r == word_id w [])) ≡ true → word w ≡ Ok (id, length w) → word (w ++ r) ≡ Ok (id, length w)
word_keeps w r id apart is =
    let stop = not_true _ (and_left (not (is_in class.Word (get_or r 0 0))) (word_id w r == word_id w []) apart) in
    let same = eqb-true _ _ (and_right (not (is_in class.Word (get_or r 0 0))) (word_id w r == word_id w []) apart) in
    let all = word_all w id is in
    word_beside w r all.0 stop ∙ ap (λ i. Ok (i, length w)) (same ∙ all.1)

name_keeps : (w r : Text) (id : ℕ) → (not (is_in class.Name (get_or r 0 0)) && (braces_id w r == braces_id w [])) ≡ true → word_in_braces w ≡ Ok (id, length w) → word_in_braces (w ++ r) ≡ Ok (id, length w)
name_keeps w r id apart is =
    let stop = not_true _ (and_left (not (is_in class.Name (get_or r 0 0))) (braces_id w r == braces_id w []) apart) in
    let same = eqb-true _ _ (and_right (not (is_in class.Name (get_or r 0 0))) (braces_id w r == braces_id w []) apart) in
    let all = name_all w id is in
    word_in_braces_beside w r all.0 stop ∙ ap (λ i. Ok (i, length w)) (same ∙ all.1)

numeral_keeps : (b : ℕ) (w r : Text) (t : ℕ × ℕ) → stops_numeral (b ∷ w) r ≡ true → numeral (b ∷ w) ≡ Ok t → numeral ((b ∷ w) ++ r) ≡ Ok t
numeral_keeps b w r t apart is = numeral_beside (omega arith) (stops (b ∷ w) r apart) ∙ is

string_keeps : (b : ℕ) (w r : Text) (t : ℕ × ℕ) → string (b ∷ w) ≡ Ok t → string ((b ∷ w) ++ r) ≡ Ok t
unfolding string
string_keeps b w r t is = string_beside b false 1 w r t is

-- a choice is not of its other arm
arm_true : (c d : Bool) (x : Bool) → c ≡ true → cond c x d ≡ true → x ≡ true
arm_true true d x is h = h
arm_true false d x is h = absurd (cc)

arm_false : (c x d : Bool) → c ≡ false → cond c x d ≡ true → d ≡ true
arm_false true x d is h = absurd (cc)
arm_false false x d is h = h

-- ---- punctuators

-- one byte, which another may make longer
record Alone (b : ℕ) (r : Text) : Type 0 where
  equal : (get_or r 0 0 == 61) ≡ false
  tilde : (get_or r 0 0 == 126) ≡ false

alone : (b : ℕ) (r : Text) → ((b == 61) || (b == 60) || (b == 62)) ≡ true → stops_punctuator (b ∷ []) r ≡ true → Alone b r
alone b r first apart =
    let c = get_or r 0 0 in
    let no : ((c == 61) || (c == 126)) ≡ false = first_false _ _ first (not_true _ apart) in
    let both = or_false (c == 61) (c == 126) no in
    record { equal = both.0; tilde = both.1 }
  where
    first_false : (a d : Bool) → a ≡ true → (a && d) ≡ false → d ≡ false
    first_false true d is h = h
    first_false false d is h = absurd (cc)

dot_never : (z : Text) (t : ℕ × ℕ) → dot_token z ≡ Ok t → ⊥
dot_never z t = cond_both (length z == 1) _ _ (λ p. p ≡ Ok t → ⊥) (λ _ is. cc) (λ _ is. cc)

bang_two : (b c : ℕ) (w : Text) → bang_token (b ∷ c ∷ w) ≡ cond (c == 61) (Ok (T_NEQ, 2)) (Err (AfterBang, 1))
bang_two b c w = rw (not_one (length w)) refl

bang_in_braces_two : (b c : ℕ) (w : Text) → bang_in_braces (b ∷ c ∷ w) ≡ cond (c == 126) (Ok (T_NEQ_REGEX, 2)) (cond (c == 61) (Ok (T_NEQ, 2)) (Err (AfterBangInBraces, 1)))
bang_in_braces_two b c w = rw (not_one (length w)) refl

punctuator_keeps : (depth b : ℕ) (w r : Text) (t : ℕ × ℕ) → stops_punctuator (b ∷ w) r ≡ true → punctuator depth (b ∷ w) ≡ Ok t → punctuator depth ((b ∷ w) ++ r) ≡ Ok t
unfolding punctuator
punctuator_keeps depth b [] r t apart =
    let c = get_or r 0 0 in
    keeps (b == 46) _ _ _ _ t (λ _ is. absurd (dot_never (b ∷ []) t is)) (λ _.
    keeps (b == 61) _ _ _ _ t
    (λ e is. let a = alone b r (ap (λ x. (x || (b == 60)) || (b == 62)) e) apart in
    ap (λ x. cond x (Ok (T_EQLC, 2)) (cond (c == 126) (Err (AfterEqual, 1)) (Ok (T_EQL, 1)))) a.equal ∙ ap (λ x. cond x (Err (AfterEqual, 1)) (Ok (T_EQL, 1))) a.tilde ∙ is) (λ n61.
    keeps (b == 60) _ _ _ _ t
    (λ e is. let a = alone b r ((λ i. (n61 i || e i) || (b == 62))) apart in ap (λ x. cond x (Ok (T_LTE, 2)) (Ok (T_LSS, 1))) a.equal ∙ is) (λ n60.
    keeps (b == 62) _ _ _ _ t
    (λ e is. let a = alone b r ((λ i. (n61 i || n60 i) || e i)) apart in ap (λ x. cond x (Ok (T_GTE, 2)) (Ok (T_GTR, 1))) a.equal ∙ is) (λ _.
    keeps (b == 33) _ _ _ _ t (λ _ is. cc) (λ _ is. is)))))
punctuator_keeps depth b (c ∷ w) r t apart =
    keeps (b == 46) _ _ _ _ t (λ _ is. absurd (dot_never (b ∷ c ∷ w) t is)) (λ _.
    keeps (b == 61) _ _ _ _ t (λ _ is. is) (λ _.
    keeps (b == 60) _ _ _ _ t (λ _ is. is) (λ _.
    keeps (b == 62) _ _ _ _ t (λ _ is. is) (λ _.
    keeps (b == 33) _ _ _ _ t (λ _ is. bang_two b c (w ++ r) ∙ sym (bang_two b c w) ∙ is) (λ _ is. is)))))

-- ---- modes

-- what follows a token makes no numeral of it
begins_same : (depth b : ℕ) (w r : Text) (t : ℕ × ℕ) → outside depth (b ∷ w) ≡ Ok t → begins_numeral ((b ∷ w) ++ r) ≡ begins_numeral (b ∷ w)
unfolding outside punctuator
begins_same depth b (c ∷ w) r t is = refl
begins_same depth b [] r t is =
    by_bool (b == 46)
    (λ e. let never : outside depth (46 ∷ []) ≡ Ok t = subst (λ b. outside depth (b ∷ []) ≡ Ok t) (eqb-true b 46 e) is in absurd (cc))
    (λ no. ap (λ x. is_ascii_digit b || (x && is_ascii_digit (get_or r 0 0))) no ∙ sym (ap (λ x. is_ascii_digit b || (x && is_ascii_digit 0)) no))

outside_keeps : (depth b : ℕ) (w r : Text) (id : ℕ) → parts_outside (b ∷ w) r ≡ true → outside depth (b ∷ w) ≡ Ok (id, suc (length w)) → outside depth ((b ∷ w) ++ r) ≡ Ok (id, suc (length w))
unfolding outside
outside_keeps depth b w r id apart is =
    let t : ℕ × ℕ = (id, suc (length w)) in
    let z : Text = b ∷ (w ++ r) in
    let word_first = is_letter b || (b == 58) in
    ap (λ x. cond x (numeral z) (cond word_first (word z) (cond (is_quote b) (string z) (punctuator depth z)))) (begins_same depth b w r t is)
    ∙ keeps (begins_numeral (b ∷ w)) _ _ _ _ t
    (λ n is. numeral_keeps b w r t (arm_true (begins_numeral (b ∷ w)) _ _ n apart) is) (λ no_n.
    let apart2 = arm_false (begins_numeral (b ∷ w)) _ _ no_n apart in
    keeps word_first _ _ _ _ t
    (λ first is. word_keeps (b ∷ w) r id (arm_true word_first _ _ first apart2) is) (λ no_word.
    let apart3 = arm_false word_first _ _ no_word apart2 in
    keeps (is_quote b) _ _ _ _ t (λ _ is. string_keeps b w r t is)
    (λ no_quote is. punctuator_keeps depth b w r t (arm_false (is_quote b) _ _ no_quote apart3) is))) is

abbrev equal_arm : ℕ → Scanned
equal_arm next = cond (next == 126) (Ok (T_EQL_REGEX, 2)) (Ok (T_EQL, 1))

equal_keeps : (w r : Text) (t : ℕ × ℕ) → stops_punctuator (61 ∷ w) r ≡ true → equal_arm (get_or (61 ∷ w) 1 0) ≡ Ok t → equal_arm (get_or (61 ∷ (w ++ r)) 1 0) ≡ Ok t
equal_keeps [] r t apart is =
    let arm : Bool → Scanned = λ x. cond x (Ok (T_EQL_REGEX, 2)) (Ok (T_EQL, 1)) in
    ap arm (alone 61 r refl apart).tilde ∙ is
equal_keeps (c ∷ w) r t apart is = is

bang_in_braces_keeps : (b : ℕ) (w r : Text) (t : ℕ × ℕ) → bang_in_braces (b ∷ w) ≡ Ok t → bang_in_braces ((b ∷ w) ++ r) ≡ Ok t
bang_in_braces_keeps b [] r t is = cc
bang_in_braces_keeps b (c ∷ w) r t is = bang_in_braces_two b c (w ++ r) ∙ sym (bang_in_braces_two b c w) ∙ is

in_braces_keeps : (b : ℕ) (w r : Text) (id : ℕ) → parts_in_braces (b ∷ w) r ≡ true → in_braces (b ∷ w) ≡ Ok (id, suc (length w)) → in_braces ((b ∷ w) ++ r) ≡ Ok (id, suc (length w))
unfolding in_braces
in_braces_keeps b w r id apart =
    let t : ℕ × ℕ = (id, suc (length w)) in
    keeps (b == 44) _ _ _ _ t (λ _ is. is) (λ _.
    keeps (b == 61) _ _ _ _ t (λ e is. let same = eqb-true b 61 e in equal_keeps w r t (subst (λ b. parts_in_braces (b ∷ w) r ≡ true) same apart) is) (λ _.
    keeps (b == 33) _ _ _ _ t (λ _ is. bang_in_braces_keeps b w r t is) (λ _.
    keeps (b == 123) _ _ _ _ t (λ _ is. is) (λ _.
    keeps (b == 125) _ _ _ _ t (λ _ is. is) (λ _.
    keeps (is_letter b) _ _ _ _ t
    (λ letter is. name_keeps (b ∷ w) r id (arm_true (is_letter b) _ _ letter apart) is) (λ _.
    keeps (is_quote b) _ _ _ _ t (λ _ is. string_keeps b w r t is) (λ _ is. is)))))))

in_brackets_keeps : (m : Bracket) (b : ℕ) (w r : Text) (t : ℕ × ℕ) → parts_in_brackets (b ∷ w) r ≡ true → in_brackets m (b ∷ w) ≡ Ok t → in_brackets m ((b ∷ w) ++ r) ≡ Ok t
unfolding in_brackets
in_brackets_keeps m b w r t apart =
    keeps (b == 58) _ _ _ _ t (λ _ is. is) (λ _.
    keeps (b == 93) _ _ _ _ t (λ _ is. is) (λ _.
    keeps (b == 91) _ _ _ _ t (λ _ is. is) (λ _.
    keeps (is_ascii_digit b) _ _ _ _ t (λ digit is. numeral_keeps b w r t (arm_true (is_ascii_digit b) _ _ digit apart) is) (λ _ is. is))))

begun_keeps : (m : Mode) (depth b : ℕ) (w r : Text) (id : ℕ) → parts m (b ∷ w) r ≡ true → scan_in_mode m depth (b ∷ w) ≡ Ok (id, suc (length w)) → scan_in_mode m depth ((b ∷ w) ++ r) ≡ Ok (id, suc (length w))
begun_keeps mode.Outside depth b w r id apart is = outside_keeps depth b w r id apart is
begun_keeps mode.Braces depth b w r id apart is = in_braces_keeps b w r id apart is
begun_keeps (mode.Brackets inside) depth b w r id apart is = in_brackets_keeps inside b w r _ apart is

-- ---- the laws

-- a token with its own text after no trivia
steps : (state : State) (b : ℕ) (w r : Text) (id : ℕ) → scan_in_mode state.mode state.depth ((b ∷ w) ++ r) ≡ Ok (id, suc (length w)) → pieces state ((b ∷ w) ++ r) ≡ Ok (id, b ∷ w) ∷ pieces (after state id) r
unfolding scan_token
steps state b w r id is =
    pieces_piece state (b ∷ w) r id (gapless state.mode state.depth b (w ++ r) (w ++ r) (id, suc (length w)) is) is (subst (Inner state.depth) is (begun_inner state.mode state.depth ((b ∷ w) ++ r))).0

pub joins : Joins
unfolding scan_token
joins state [] r id some is apart = absurd (omega arith)
joins state (b ∷ w) r id some is apart = steps state b w r id (begun_keeps state.mode state.depth b w r id apart is)

pub no_numeral : (b c : ℕ) → (is_letter b || (b == 58)) ≡ true → (is_ascii_digit b || ((b == 46) && is_ascii_digit c)) ≡ false
no_numeral b c h = grind (arith, common_steps)

pub joins_word : JoinsWord
unfolding outside
joins_word depth [] r is stop = cc
joins_word depth (b ∷ w) r is stop =
    let state : State = record { depth = depth; mode = mode.Outside } in
    let first = and_left (is_letter b || (b == 58)) _ is in
    let all = eqb-true (end_of_run class.Word (b ∷ w) 0) (suc (length w)) (and_right (is_letter b || (b == 58)) _ is) in
    let z : Text = b ∷ (w ++ r) in
    let id = word_id (b ∷ w) r in
    let reads : outside depth z ≡ Ok (id, suc (length w)) =
    ap (λ x. cond x (numeral z) (cond (is_letter b || (b == 58)) (word z) (cond (is_quote b) (string z) (punctuator depth z)))) (no_numeral b (get_or (w ++ r) 0 0) first)
    ∙ ap (λ x. cond x (word z) (cond (is_quote b) (string z) (punctuator depth z))) first ∙ word_beside (b ∷ w) r all stop in
    steps state b w r id reads ∙ ap (λ s. Ok (id, b ∷ w) ∷ pieces s r) (after_outside depth id (word_plain (b ∷ w) r))

pub letter_apart : (b n : ℕ) → is_letter b ≡ true → is_letter n ≡ false → (b == n) ≡ false
letter_apart b n letter other = by_bool (b == n) (λ e. let same = ap is_letter (eqb-true b n e) in absurd (cc)) (λ no. no)

pub joins_name : JoinsName
unfolding in_braces
joins_name depth [] r is stop = cc
joins_name depth (b ∷ w) r is stop =
    let state : State = record { depth = depth; mode = mode.Braces } in
    let letter = and_left (is_letter b) _ is in
    let all = eqb-true (end_of_run class.Name (b ∷ w) 0) (suc (length w)) (and_right (is_letter b) _ is) in
    let z : Text = b ∷ (w ++ r) in
    let id = braces_id (b ∷ w) r in
    let n44 = letter_apart b 44 letter refl in
    let n61 = letter_apart b 61 letter refl in
    let n33 = letter_apart b 33 letter refl in
    let n123 = letter_apart b 123 letter refl in
    let n125 = letter_apart b 125 letter refl in
    let reads : in_braces z ≡ Ok (id, suc (length w)) = rw (n44, n61, n33, n123, n125, letter) (word_in_braces_beside (b ∷ w) r all stop) in
    steps state b w r id reads ∙ ap (λ s. Ok (id, b ∷ w) ∷ pieces s r) (after_in_braces depth id (braces_plain (b ∷ w) r))
