-- The parts of a line around a place.
use Rattle.std.proofs.Common.{◌≡◌, ℕ, zero, suc, ◌+◌, ◌-◌, ◌<◌, ◌≤◌, Bool, true, false, [], ◌∷◌, ◌++◌, length, drop, take, map, min, replicate, None, Some, refl, sym, ap, ◌∙◌, subst, arith, append_assoc}
use Rattle.std.specs.Prelude.{◌==◌, ◌||◌, if◌then◌else◌, not}
use Rattle.std.specs.Char.{encode_utf8}
use Rattle.std.specs.List.{after_last, before_first, list_any}
use Rattle.std.specs.Str.{IsCharBoundary, IsUtf8, NoCharPasses, NonePass, chars}
use Rattle.std.specs.Str.Pattern.{FindsChar, RFindsChar}
use Rattle.std.proofs.lemmas.Bool.{cond-false, cond-true, cond_both, eq-eqb, or_right}
use Rattle.std.proofs.lemmas.List.{append_cancel_right, drop_at, take-append-drop}
use Rattle.std.proofs.lemmas.List.Sums.{take_while-cons}
use Rattle.std.proofs.lemmas.Str.{IsUtf8-drop, IsUtf8-past_char, IsUtf8-take, chars-append, chars-nil, chars_from_encodes, chars_past_char, encode_ascii, encodes-append, encodes-chars, length-le-encodes}
use Rattle.promql_span.specs.Locations.{is_line_feed}
use Rattle.promql_span.proofs.Columns.{last_line, last_line_is}
use Rattle.promql_text.specs.Texts.{Text}
use Rattle.promql_span.specs.Snippets.{blank, snippet_of}
use Rattle.promql_span.specs.Visible.{visible}
use lib.Utf8.{encodes}

-- ---- a text around a character

module _ (s : Text) (i j c : ℕ) (text : IsUtf8 s) (place : IsCharBoundary s i) (split : drop i s ≡ encode_utf8 c ++ drop j s) where
  chars_around : chars s ≡ chars (take i s) ++ c ∷ chars (drop j s)
  chars_around =
      ap chars (sym (take-append-drop i s)) ∙ chars-append (take i s) (drop i s) (IsUtf8-take s i text place)
      ∙ ap (λ l. chars (take i s) ++ l) (chars_past_char (drop i s) (drop j s) c (IsUtf8-drop s i text place) split)

  text_past : IsUtf8 (drop j s)
  text_past = IsUtf8-past_char (drop i s) (drop j s) c (IsUtf8-drop s i text place) split

none_of : (p : ℕ → Bool) (s : Text) → IsUtf8 s → NoCharPasses p s → NonePass p (chars s)
none_of p s text none = subst (NonePass p) (chars_from_encodes none.0 s text none.1) none.2

-- ---- after the last line feed

no_feed : (cs : Text) → NonePass is_line_feed cs → list_any is_line_feed cs ≡ false
no_feed [] none = refl
no_feed (c ∷ cs) none = ap (λ b. b || list_any is_line_feed cs) none.0 ∙ no_feed cs none.1

last_line_whole : (cs : Text) → list_any is_line_feed cs ≡ false → last_line cs ≡ cs
last_line_whole [] h = refl
last_line_whole (c ∷ cs) h = ap (λ b. if b then last_line cs else c ∷ cs) h

feed_in : (xs ys : Text) → list_any is_line_feed (xs ++ 10 ∷ ys) ≡ true
feed_in [] ys = refl
feed_in (x ∷ xs) ys = or_right (is_line_feed x) _ (feed_in xs ys)

last_line_at : (xs ys : Text) → list_any is_line_feed ys ≡ false → last_line (xs ++ 10 ∷ ys) ≡ ys
last_line_at [] ys none = last_line_whole ys none
last_line_at (x ∷ xs) ys none =
    ap (λ b. if b then last_line (xs ++ 10 ∷ ys) else x ∷ (xs ++ 10 ∷ ys)) (or_right (is_line_feed x) _ (feed_in xs ys)) ∙ last_line_at xs ys none

pub whole_is_last : (s : Text) → IsUtf8 s → RFindsChar 10 s None → chars s ≡ after_last is_line_feed (chars s)
whole_is_last s text none = sym (last_line_whole (chars s) (no_feed (chars s) (none_of is_line_feed s text none))) ∙ last_line_is (chars s)

pub after_is_last : (s : Text) (i j : ℕ) → IsUtf8 s → IsCharBoundary s i → RFindsChar 10 s (Some (i, j)) → chars (drop j s) ≡ after_last is_line_feed (chars s)
after_is_last s i j text place found =
    let split = found.1.split in
    let rest = text_past s i j 10 text place split in
    sym (ap last_line (chars_around s i j 10 text place split) ∙ last_line_at (chars (take i s)) (chars (drop j s)) (no_feed (chars (drop j s)) (none_of is_line_feed (drop j s) rest found.0)))
    ∙ last_line_is (chars s)

-- ---- up to a character

abbrev up_to : ℕ → Text → Text
up_to b [] = []
up_to b (c ∷ cs) = if c == b then [] else c ∷ up_to b cs

up_to_is : (b : ℕ) (cs : Text) → up_to b cs ≡ before_first (λ c. c == b) cs
up_to_is b [] = refl
up_to_is b (c ∷ cs) =
    ap (λ l. if c == b then [] else c ∷ l) (up_to_is b cs) ∙ go (c == b) ∙ sym (take_while-cons (λ d. not (d == b)) c cs)
  where
    go : (e : Bool) → (if e then [] else c ∷ before_first (λ d. d == b) cs) ≡ (if not e then c ∷ before_first (λ d. d == b) cs else [])
    go true = refl
    go false = refl

up_to_whole : (b : ℕ) (cs : Text) → NonePass (λ d. d == b) cs → up_to b cs ≡ cs
up_to_whole b [] none = refl
up_to_whole b (c ∷ cs) none = cond-false (c == b) [] (c ∷ up_to b cs) none.0 ∙ ap (λ l. c ∷ l) (up_to_whole b cs none.1)

up_to_at : (b : ℕ) (cs ds : Text) → NonePass (λ d. d == b) cs → up_to b (cs ++ b ∷ ds) ≡ cs
up_to_at b [] ds none = cond-true (b == b) [] (b ∷ up_to b ds) (eq-eqb b b refl)
up_to_at b (c ∷ cs) ds none = cond-false (c == b) [] (c ∷ up_to b (cs ++ b ∷ ds)) none.0 ∙ ap (λ l. c ∷ l) (up_to_at b cs ds none.1)

pub whole_is_up_to : (b : ℕ) (s : Text) → IsUtf8 s → FindsChar b s None → chars s ≡ before_first (λ c. c == b) (chars s)
whole_is_up_to b s text none = sym (up_to_whole b (chars s) (none_of (λ d. d == b) s text none)) ∙ up_to_is b (chars s)

pub front_is_up_to : (b : ℕ) (s : Text) (i j : ℕ) → IsUtf8 s → IsCharBoundary s i → FindsChar b s (Some (i, j)) → chars (take i s) ≡ before_first (λ c. c == b) (chars s)
front_is_up_to b s i j text place found =
    sym (ap (up_to b) (chars_around s i j b text place found.1.split) ∙ up_to_at b (chars (take i s)) (chars (drop j s)) (none_of (λ d. d == b) (take i s) (IsUtf8-take s i text place) found.0))
    ∙ up_to_is b (chars s)

-- ---- the bytes of a snippet

pub blank_small : (c : ℕ) → blank c < 128
blank_small c = cond_both (c == 9) 9 32 (λ n. n < 128) (λ _. omega arith) (λ _. omega arith)

encodes_blank : (cs : Text) → encodes (map blank cs) ≡ map blank cs
encodes_blank [] = refl
encodes_blank (c ∷ cs) = ap (λ l. l ++ encodes (map blank cs)) (encode_ascii (blank c) (blank_small c)) ∙ ap (λ l. blank c ∷ l) (encodes_blank cs)

encodes_tildes : (n : ℕ) → encodes (replicate n 126) ≡ replicate n 126
unfolding encode_utf8
encodes_tildes zero = refl
encodes_tildes (suc n) = ap (λ l. 126 ∷ l) (encodes_tildes n)

encodes_mark : (n : ℕ) → encodes (94 ∷ replicate n 126) ≡ 94 ∷ replicate n 126
unfolding encode_utf8
encodes_mark n = ap (λ l. 94 ∷ l) (encodes_tildes n)

encodes_below : (bs : Text) → encodes (10 ∷ bs) ≡ 10 ∷ encodes bs
unfolding encode_utf8
encodes_below bs = refl

pub snippet_bytes : (before after : Text) (n : ℕ) → IsUtf8 before → IsUtf8 after
    → encodes (chars before ++ (chars after ++ 10 ∷ (map blank (chars before) ++ 94 ∷ replicate n 126))) ≡ before ++ (after ++ 10 ∷ (map blank (chars before) ++ 94 ∷ replicate n 126))
snippet_bytes before after n text more =
    let blanks = map blank (chars before) in
    let marks = encodes_mark n in
    let below : encodes (blanks ++ 94 ∷ replicate n 126) ≡ blanks ++ 94 ∷ replicate n 126 =
    encodes-append blanks (94 ∷ replicate n 126) ∙ ap (λ l. l ++ encodes (94 ∷ replicate n 126)) (encodes_blank (chars before)) ∙ ap (λ l. blanks ++ l) marks in
    let lower : encodes (10 ∷ (blanks ++ 94 ∷ replicate n 126)) ≡ 10 ∷ (blanks ++ 94 ∷ replicate n 126) = encodes_below (blanks ++ 94 ∷ replicate n 126) ∙ ap (λ l. 10 ∷ l) below in
    encodes-append (chars before) (chars after ++ 10 ∷ (blanks ++ 94 ∷ replicate n 126)) ∙ ap (λ l. l ++ encodes (chars after ++ 10 ∷ (blanks ++ 94 ∷ replicate n 126))) (encodes-chars before text)
    ∙ ap (λ l. before ++ l) (encodes-append (chars after) (10 ∷ (blanks ++ 94 ∷ replicate n 126)) ∙ ap (λ l. l ++ encodes (10 ∷ (blanks ++ 94 ∷ replicate n 126))) (encodes-chars after more) ∙ ap (λ l. after ++ l) lower)

-- ---- a text cut before a character

pub front_taken : (s : Text) (at n : ℕ) → IsUtf8 s → IsCharBoundary s at → chars (drop at s) ≡ drop n (chars s) → chars (take at s) ≡ take n (chars s)
front_taken s at n text place back =
    append_cancel_right (chars (take at s)) (take n (chars s)) (drop n (chars s))
    (ap (λ l. chars (take at s) ++ l) (sym back) ∙ sym (chars-append (take at s) (drop at s) (IsUtf8-take s at text place)) ∙ ap chars (take-append-drop at s) ∙ sym (take-append-drop n (chars s)))

pub one_less : (n c : ℕ) (cs : Text) → (n == 0) ≡ false → drop n (c ∷ cs) ≡ drop (n - 1) cs
one_less zero c cs some = let no : true ≡ false = some in cc
one_less (suc n) c cs some = let e : n ≡ suc n - 1 = omega arith in ap (λ k. drop k cs) e

drop_none : (n : ℕ) → ◌≡◌ {A = Text} (drop n []) []
drop_none zero = refl
drop_none (suc n) = refl

pub no_chars : (s : Text) → length s ≡ 0 → chars s ≡ []
no_chars [] none = chars-nil
no_chars (b ∷ s) none = absurd (omega arith)

pub none_left : (n : ℕ) (s : Text) → length s ≡ 0 → chars s ≡ drop n (chars s)
none_left n s none = let empty = no_chars s none in empty ∙ sym (drop_none n) ∙ ap (drop n) (sym empty)

-- ---- what is shown

pub chars_fit : (s : Text) → IsUtf8 s → length (chars s) ≤ length s
chars_fit s text = omega (arith, length-le-encodes (chars s), ap length (encodes-chars s text))

pub appended : (o0 o1 o2 o3 o4 o5 o6 before inside beyond below mark : Text) → o0 ≡ [] → o1 ≡ o0 ++ before → o2 ≡ o1 ++ inside → o3 ≡ o2 ++ beyond → o4 ≡ o3 ++ 10 ∷ []
    → o5 ≡ o4 ++ below → o6 ≡ o5 ++ mark → o6 ≡ before ++ ((inside ++ beyond) ++ 10 ∷ (below ++ mark))
appended o0 o1 o2 o3 o4 o5 o6 before inside beyond below mark e0 e1 e2 e3 e4 e5 e6 =
    let all : o6 ≡ ((((([] ++ before) ++ inside) ++ beyond) ++ 10 ∷ []) ++ below) ++ mark = cc in
    all ∙ append_assoc (((before ++ inside) ++ beyond) ++ 10 ∷ []) below mark ∙ append_assoc ((before ++ inside) ++ beyond) (10 ∷ []) (below ++ mark)
    ∙ ap (λ l. l ++ 10 ∷ (below ++ mark)) (append_assoc before inside beyond) ∙ append_assoc before (inside ++ beyond) (10 ∷ (below ++ mark))

pub shown_is : (left right before after : Text) (marked : ℕ) → before ≡ drop (min (length left - 50) (length left + length right - 100)) left → after ≡ take (100 - length before) right
    → visible before ++ (visible after ++ 10 ∷ (map blank (visible before) ++ 94 ∷ replicate (length (visible (take marked after)) - 1) 126)) ≡ snippet_of left right marked
shown_is left right before after marked b a =
    ap (λ t. visible before ++ (visible t ++ 10 ∷ (map blank (visible before) ++ 94 ∷ replicate (length (visible (take marked t)) - 1) 126))) a
    ∙ ap (λ t. visible t ++ (visible (take (100 - length t) right) ++ 10 ∷ (map blank (visible t) ++ 94 ∷ replicate (length (visible (take marked (take (100 - length t) right))) - 1) 126))) b

-- what follows the characters before a place
pub chars_after : (s front rest : Text) → front ≡ take (length front) s → rest ≡ drop (length front) s → IsUtf8 front → chars rest ≡ drop (length (chars front)) (chars s)
chars_after s front rest is_front is_rest text =
    let whole : front ++ rest ≡ s = (λ i. is_front i ++ is_rest i) ∙ take-append-drop (length front) s in
    sym (ap (λ l. drop (length (chars front)) l) (ap chars (sym whole) ∙ chars-append front rest text) ∙ drop_at (chars front) (chars rest) (length (chars front)) refl)
