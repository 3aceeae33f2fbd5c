-- A token before a text's end is not T_EOF, and `)` is where a parenthesis is open.
use Rattle.std.proofs.Common.{◌≡◌, ℕ, Bool, true, false, [], ◌∷◌, List, length, get_or, take, drop, Ok, Err, refl, sym, ◌<◌, arith}
use Rattle.std.specs.Prelude.{◌==◌, not, ◌&&◌, ◌||◌, ◌-◌, codes}
use Rattle.std.specs.Char.{is_ascii_digit}
use Rattle.std.specs.List.{list_all, list_any}
use Rattle.std.specs.Option.{unwrap_or}
use Rattle.std.specs.Str.{str_eq_ignore_ascii_case}
use Rattle.std.proofs.lemmas.Bool.{cond_both}
use Rattle.std.proofs.lemmas.Grind.{common_steps}
use Rattle.promql_token.specs.declared.class.Class.TheVariants as class
use Rattle.promql_token.specs.declared.state.Bracket.{Bracket}
use Rattle.promql_token.specs.declared.state.Bracket.TheVariants as bracket
use Rattle.promql_token.specs.declared.state.Mode.{Mode}
use Rattle.promql_token.specs.declared.state.Mode.TheVariants as mode
use Rattle.promql_text.specs.Texts.{Text}
use Rattle.promql_token.specs.Classes.{is_letter, end_of_run}
use Rattle.promql_token.specs.Ids.{lookup, keywords, keyword_in_any_case}
use Rattle.promql_token.specs.WordCases.{same_word}
use Rattle.promql_token.specs.declared.ids.Case.TheVariants as case
use Rattle.promql_token.specs.TokenScanning.{Scanned, is_fill, opens, name_id, word_id, word, braces_id, word_in_braces, number_end, units, numeral, is_quote, is_escape, string_from, string, equal_token, bang_token, single, punctuator, begins_numeral, outside, bang_in_braces, in_braces, colon_token, in_brackets, scan_in_mode, after}
use Rattle.promql_token.proofs.one_reading.Ends.{and_left, and_right}
use Rattle.promql_token.specs.declared.ids.TheConstants.{T_COLON, T_EOF, T_LEFT_BRACE, T_LEFT_BRACKET, T_LEFT_PAREN, T_RIGHT_BRACE, T_RIGHT_BRACKET, T_RIGHT_PAREN}

-- ---- ids that open, close and end nothing

abbrev pub is_plain : ℕ → Bool
is_plain id =
    not (id == T_EOF) && (not (id == T_COLON) && (not (id == T_LEFT_BRACE) && (not (id == T_LEFT_BRACKET) && (not (id == T_LEFT_PAREN) && (not (id == T_RIGHT_BRACE) && (not (id == T_RIGHT_BRACKET) && not (id == T_RIGHT_PAREN)))))))

lookup_all : (p : ℕ → Bool) (same : Text → Text → Bool) (ks : List (Text × ℕ)) (w : Text) (d : ℕ) → list_all (λ k. p k.1) ks ≡ true → p d ≡ true → p (unwrap_or (lookup same ks w) d) ≡ true
lookup_all p same [] w d all h = h
lookup_all p same (k ∷ ks) w d all h =
    cond_both (same k.0 w) _ _ (λ o. p (unwrap_or o d) ≡ true) (λ _. and_left (p k.1) _ all) (λ _. lookup_all p same ks w d (and_right (p k.1) _ all) h)

keyword_plain : (w : Text) (d : ℕ) → is_plain d ≡ true → is_plain (unwrap_or (keyword_in_any_case w) d) ≡ true
unfolding keyword_in_any_case
keyword_plain w d h = lookup_all is_plain (same_word case.Any) keywords w d refl h

name_plain : (w : Text) → is_plain (name_id w) ≡ true
name_plain w = cond_both (list_any (λ b. b == 58) w) 14 8 (λ id. is_plain id ≡ true) (λ _. refl) (λ _. refl)

pub word_plain : (w r : Text) → is_plain (word_id w r) ≡ true
word_plain w r =
    let id = unwrap_or (keyword_in_any_case w) (name_id w) in
    cond_both (is_fill id && not (opens r)) _ _ (λ id. is_plain id ≡ true) (λ _. refl) (λ _. keyword_plain w (name_id w) (name_plain w))

pub braces_plain : (w r : Text) → is_plain (braces_id w r) ≡ true
braces_plain w r = cond_both (str_eq_ignore_ascii_case w (codes "or") && (get_or r 0 0 == 32)) 31 8 (λ id. is_plain id ≡ true) (λ _. refl) (λ _. refl)

pub plain_no_end : (id : ℕ) → is_plain id ≡ true → (id == T_EOF) ≡ false
plain_no_end id h = no (id == T_EOF) (and_left (not (id == T_EOF)) _ h)
  where
    no : (b : Bool) → not b ≡ true → b ≡ false
    no true h = sym h
    no false h = refl

pub plain_no_close : (id : ℕ) → is_plain id ≡ true → (id == T_RIGHT_PAREN) ≡ false
plain_no_close id h =
    let h2 = and_right (not (id == T_EOF)) _ h in
    let h9 = and_right (not (id == T_COLON)) _ h2 in
    let h10 = and_right (not (id == T_LEFT_BRACE)) _ h9 in
    let h11 = and_right (not (id == T_LEFT_BRACKET)) _ h10 in
    let h16 = and_right (not (id == T_LEFT_PAREN)) _ h11 in
    let h17 = and_right (not (id == T_RIGHT_BRACE)) _ h16 in
    false_of (id == T_RIGHT_PAREN) (and_right (not (id == T_RIGHT_BRACKET)) _ h17)
  where
    false_of : (b : Bool) → not b ≡ true → b ≡ false
    false_of true h = sym h
    false_of false h = refl

-- ---- pieces

abbrev pub Inner : ℕ → Scanned → Type 0
Inner depth (Ok t) = ((t.0 == T_EOF) ≡ false) × ((t.0 == 18) ≡ true → 0 < depth)
Inner depth (Err f) = Unit {0}

some : (depth : ℕ) → (depth == 0) ≡ false → 0 < depth
some depth h = grind (arith, common_steps)

plain_inner : (depth id : ℕ) → is_plain id ≡ true → ((id == T_EOF) ≡ false) × ((id == T_RIGHT_PAREN) ≡ true → 0 < depth)
plain_inner depth id h = (plain_no_end id h, λ is. let n = plain_no_close id h in absurd (cc))

numeral_inner : (depth : ℕ) (z : Text) → Inner depth (numeral z)
unfolding numeral
numeral_inner depth z =
    let end = number_end z in
    let run = end_of_run class.Name z end in
    cond_both ((run == end) && not (get_or z end 0 == 46)) _ _ (Inner depth) (λ _. (refl, λ (no : false ≡ true). absurd (cc))) (λ _.
    cond_both (units (take (run - end) (drop end z))) _ _ (Inner depth) (λ _. (refl, λ (no : false ≡ true). absurd (cc))) (λ _. tt))

string_from_inner : (depth quote : ℕ) (e : Bool) (at : ℕ) (z : Text) → Inner depth (string_from quote e at z)
string_from_inner depth quote true at [] = tt
string_from_inner depth quote false at [] = tt
string_from_inner depth quote true at (b ∷ z) = cond_both (is_escape quote b) _ _ (Inner depth) (λ _. string_from_inner depth quote false _ z) (λ _. tt)
string_from_inner depth quote false at (b ∷ z) = cond_both (b == quote) _ _ (Inner depth) (λ _. (refl, λ (no : false ≡ true). absurd (cc))) (λ _. string_from_inner depth quote _ _ z)

string_inner : (depth : ℕ) (z : Text) → Inner depth (string z)
unfolding string
string_inner depth z = string_from_inner depth (get_or z 0 0) false 1 (drop 1 z)

equal_inner : (depth c : ℕ) → Inner depth (equal_token c)
equal_inner depth c = cond_both (c == 61) _ _ (Inner depth) (λ _. (refl, λ (no : false ≡ true). absurd (cc))) (λ _. cond_both (c == 126) _ _ (Inner depth) (λ _. tt) (λ _. (refl, λ (no : false ≡ true). absurd (cc))))

bang_inner : (depth : ℕ) (z : Text) → Inner depth (bang_token z)
bang_inner depth z = cond_both (length z == 1) _ _ (Inner depth) (λ _. tt) (λ _. cond_both (get_or z 1 0 == 61) _ _ (Inner depth) (λ _. (refl, λ (no : false ≡ true). absurd (cc))) (λ _. tt))

single_inner : (depth b : ℕ) → Inner depth (single depth b)
single_inner depth b =
    cond_both (b == 64) _ _ (Inner depth) (λ _. (refl, λ (no : false ≡ true). absurd (cc))) (λ _.
    cond_both (b == 44) _ _ (Inner depth) (λ _. (refl, λ (no : false ≡ true). absurd (cc))) (λ _.
    cond_both (b == 42) _ _ (Inner depth) (λ _. (refl, λ (no : false ≡ true). absurd (cc))) (λ _.
    cond_both (b == 47) _ _ (Inner depth) (λ _. (refl, λ (no : false ≡ true). absurd (cc))) (λ _.
    cond_both (b == 37) _ _ (Inner depth) (λ _. (refl, λ (no : false ≡ true). absurd (cc))) (λ _.
    cond_both (b == 43) _ _ (Inner depth) (λ _. (refl, λ (no : false ≡ true). absurd (cc))) (λ _.
    cond_both (b == 45) _ _ (Inner depth) (λ _. (refl, λ (no : false ≡ true). absurd (cc))) (λ _.
    cond_both (b == 94) _ _ (Inner depth) (λ _. (refl, λ (no : false ≡ true). absurd (cc))) (λ _.
    cond_both (b == 123) _ _ (Inner depth) (λ _. (refl, λ (no : false ≡ true). absurd (cc))) (λ _.
    cond_both (b == 91) _ _ (Inner depth) (λ _. (refl, λ (no : false ≡ true). absurd (cc))) (λ _.
    cond_both (b == 40) _ _ (Inner depth) (λ _. (refl, λ (no : false ≡ true). absurd (cc))) (λ _.
    cond_both (b == 41) _ _ (Inner depth) (λ _. cond_both (depth == 0) _ _ (Inner depth) (λ _. tt) (λ n. (refl, λ _. some depth n))) (λ _.
    cond_both (b == 125) _ _ (Inner depth) (λ _. tt) (λ _.
    cond_both (b == 93) _ _ (Inner depth) (λ _. tt) (λ _. tt))))))))))))))

punctuator_inner : (depth : ℕ) (z : Text) → Inner depth (punctuator depth z)
unfolding punctuator
punctuator_inner depth z =
    let b = get_or z 0 0 in
    cond_both (b == 46) _ _ (Inner depth) (λ _. cond_both (length z == 1) _ _ (Inner depth) (λ _. tt) (λ _. tt)) (λ _.
    cond_both (b == 61) _ _ (Inner depth) (λ _. equal_inner depth (get_or z 1 0)) (λ _.
    cond_both (b == 60) _ _ (Inner depth) (λ _. cond_both (get_or z 1 0 == 61) _ _ (Inner depth) (λ _. (refl, λ (no : false ≡ true). absurd (cc))) (λ _. (refl, λ (no : false ≡ true). absurd (cc)))) (λ _.
    cond_both (b == 62) _ _ (Inner depth) (λ _. cond_both (get_or z 1 0 == 61) _ _ (Inner depth) (λ _. (refl, λ (no : false ≡ true). absurd (cc))) (λ _. (refl, λ (no : false ≡ true). absurd (cc)))) (λ _.
    cond_both (b == 33) _ _ (Inner depth) (λ _. bang_inner depth z) (λ _. single_inner depth b)))))

outside_inner : (depth : ℕ) (z : Text) → Inner depth (outside depth z)
unfolding outside word
outside_inner depth z =
    let b = get_or z 0 0 in
    cond_both (begins_numeral z) _ _ (Inner depth) (λ _. numeral_inner depth z) (λ _.
    cond_both (is_letter b || (b == 58)) _ _ (Inner depth) (λ _. let n = end_of_run class.Word z 0 in plain_inner depth _ (word_plain (take n z) (drop n z))) (λ _.
    cond_both (is_quote b) _ _ (Inner depth) (λ _. string_inner depth z) (λ _. punctuator_inner depth z)))

bang_in_braces_inner : (depth : ℕ) (z : Text) → Inner depth (bang_in_braces z)
bang_in_braces_inner depth z =
    cond_both (length z == 1) _ _ (Inner depth) (λ _. tt) (λ _.
    cond_both (get_or z 1 0 == 126) _ _ (Inner depth) (λ _. (refl, λ (no : false ≡ true). absurd (cc))) (λ _.
    cond_both (get_or z 1 0 == 61) _ _ (Inner depth) (λ _. (refl, λ (no : false ≡ true). absurd (cc))) (λ _. tt)))

in_braces_inner : (depth : ℕ) (z : Text) → Inner depth (in_braces z)
unfolding in_braces word_in_braces
in_braces_inner depth z =
    let b = get_or z 0 0 in
    cond_both (b == 44) _ _ (Inner depth) (λ _. (refl, λ (no : false ≡ true). absurd (cc))) (λ _.
    cond_both (b == 61) _ _ (Inner depth) (λ _. cond_both (get_or z 1 0 == 126) _ _ (Inner depth) (λ _. (refl, λ (no : false ≡ true). absurd (cc))) (λ _. (refl, λ (no : false ≡ true). absurd (cc)))) (λ _.
    cond_both (b == 33) _ _ (Inner depth) (λ _. bang_in_braces_inner depth z) (λ _.
    cond_both (b == 123) _ _ (Inner depth) (λ _. tt) (λ _.
    cond_both (b == 125) _ _ (Inner depth) (λ _. (refl, λ (no : false ≡ true). absurd (cc))) (λ _.
    cond_both (is_letter b) _ _ (Inner depth) (λ _. let n = end_of_run class.Name z 0 in plain_inner depth _ (braces_plain (take n z) (drop n z))) (λ _.
    cond_both (is_quote b) _ _ (Inner depth) (λ _. string_inner depth z) (λ _. tt)))))))

colon_inner : (depth : ℕ) (inside : Bracket) → Inner depth (colon_token inside)
colon_inner depth bracket.Nothing = tt
colon_inner depth bracket.Something = (refl, λ (no : false ≡ true). absurd (cc))
colon_inner depth bracket.Colon = tt

in_brackets_inner : (depth : ℕ) (inside : Bracket) (z : Text) → Inner depth (in_brackets inside z)
unfolding in_brackets
in_brackets_inner depth inside z =
    let b = get_or z 0 0 in
    cond_both (b == 58) _ _ (Inner depth) (λ _. colon_inner depth inside) (λ _.
    cond_both (b == 93) _ _ (Inner depth) (λ _. (refl, λ (no : false ≡ true). absurd (cc))) (λ _.
    cond_both (b == 91) _ _ (Inner depth) (λ _. tt) (λ _.
    cond_both (is_ascii_digit b) _ _ (Inner depth) (λ _. numeral_inner depth z) (λ _. tt))))

pub begun_inner : (m : Mode) (depth : ℕ) (z : Text) → Inner depth (scan_in_mode m depth z)
begun_inner mode.Outside depth z = outside_inner depth z
begun_inner mode.Braces depth z = in_braces_inner depth z
begun_inner (mode.Brackets inside) depth z = in_brackets_inner depth inside z

-- ---- states

no : (b : Bool) → not b ≡ true → b ≡ false
no true h = sym h
no false h = refl

-- a plain token leaves the state outside and in braces as it was
pub after_outside : (depth id : ℕ) → is_plain id ≡ true → after (record { depth = depth; mode = mode.Outside }) id ≡ record { depth = depth; mode = mode.Outside }
unfolding after
after_outside depth id h =
    let h2 = and_right (not (id == T_EOF)) _ h in
    let h9 = and_right (not (id == T_COLON)) _ h2 in
    let h10 = and_right (not (id == T_LEFT_BRACE)) _ h9 in
    let h11 = and_right (not (id == T_LEFT_BRACKET)) _ h10 in
    let h16 = and_right (not (id == T_LEFT_PAREN)) _ h11 in
    let h17 = and_right (not (id == T_RIGHT_BRACE)) _ h16 in
    let n2 = no (id == T_COLON) (and_left _ _ h2) in
    let n9 = no (id == T_LEFT_BRACE) (and_left _ _ h9) in
    let n10 = no (id == T_LEFT_BRACKET) (and_left _ _ h10) in
    let n11 = no (id == T_LEFT_PAREN) (and_left _ _ h11) in
    let n16 = no (id == T_RIGHT_BRACE) (and_left _ _ h16) in
    let n17 = no (id == T_RIGHT_BRACKET) (and_left _ _ h17) in
    let n18 = no (id == T_RIGHT_PAREN) (and_right (not (id == T_RIGHT_BRACKET)) _ h17) in
    rw (n11, n18, n9, n10, n16, n17, n2) refl

pub after_in_braces : (depth id : ℕ) → is_plain id ≡ true → after (record { depth = depth; mode = mode.Braces }) id ≡ record { depth = depth; mode = mode.Braces }
unfolding after
after_in_braces depth id h =
    let h2 = and_right (not (id == T_EOF)) _ h in
    let h9 = and_right (not (id == T_COLON)) _ h2 in
    let h10 = and_right (not (id == T_LEFT_BRACE)) _ h9 in
    let h11 = and_right (not (id == T_LEFT_BRACKET)) _ h10 in
    let h16 = and_right (not (id == T_LEFT_PAREN)) _ h11 in
    let h17 = and_right (not (id == T_RIGHT_BRACE)) _ h16 in
    let n2 = no (id == T_COLON) (and_left _ _ h2) in
    let n9 = no (id == T_LEFT_BRACE) (and_left _ _ h9) in
    let n10 = no (id == T_LEFT_BRACKET) (and_left _ _ h10) in
    let n11 = no (id == T_LEFT_PAREN) (and_left _ _ h11) in
    let n16 = no (id == T_RIGHT_BRACE) (and_left _ _ h16) in
    let n17 = no (id == T_RIGHT_BRACKET) (and_left _ _ h17) in
    let n18 = no (id == T_RIGHT_PAREN) (and_right (not (id == T_RIGHT_BRACKET)) _ h17) in
    rw (n11, n18, n9, n10, n16, n17, n2) refl
