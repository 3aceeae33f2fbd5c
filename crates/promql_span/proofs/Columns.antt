-- Lines and columns, counted along the characters of a text.
use Rattle.std.proofs.Common.{◌≡◌, ℕ, suc, ◌+◌, ◌-◌, ◌<◌, ◌≤◌, ⊎_elim, Bool, true, false, [], ◌∷◌, ◌++◌, length, take, drop, refl, sym, ap, ◌∙◌, arith, length-append, append-nil, reverse}
use Rattle.std.specs.Prelude.{if◌then◌else◌, ◌||◌, ◌==◌, ◌/◌, ◌%◌, nat_lt, not}
use Rattle.std.specs.Char.{encode_utf8, len_utf8}
use Rattle.std.specs.Char.Escape.{encode_utf16}
use Rattle.std.specs.List.{after_last, count_by, list_any, prefix_len, suffix_len, sum_by}
use Rattle.std.specs.Str.{IsCharBoundary, IsUtf8, chars}
use Rattle.std.proofs.lemmas.Bool.{cases_lt, cond-false, cond-true, cond_above, cond_below, eq-eqb, ne_eqb, or_right}
use Rattle.std.proofs.lemmas.List.{length-reverse, length-take-le, reverse-append, take-append-drop}
use Rattle.std.proofs.lemmas.List.Folds.{prefix_len-append}
use Rattle.std.proofs.lemmas.List.Sums.{sum_by-cons}
use Rattle.std.proofs.lemmas.Str.{chars-append, chars-nil, chars_past_char, encodes-chars, length-encode, len_utf8_bounds, IsCharBoundary-past_char, IsUtf8-drop, IsUtf8-past_char, IsUtf8-take}
use Rattle.promql_span.specs.Locations.{characters_before, is_line_feed}
use Rattle.promql_text.specs.Texts.{Text}
use lib.Utf8.{encodes}

-- ---- the characters before a byte

-- characters that end at or before the byte are all taken
characters_past : (xs ys : Text) (offset : ℕ) → length (encodes xs) ≤ offset → characters_before (xs ++ ys) offset ≡ xs ++ characters_before ys (offset - length (encodes xs))
characters_past [] ys offset h = ap (characters_before ys) (omega arith)
characters_past (x ∷ xs) ys offset h =
    let size : length (encodes (x ∷ xs)) ≡ len_utf8 x + length (encodes xs) = omega (arith, length-append (encode_utf8 x) (encodes xs), length-encode x) in
    sym (cond_above offset (len_utf8 x) [] (x ∷ characters_before (xs ++ ys) (offset - len_utf8 x)) _ (omega arith) refl)
    ∙ ap (λ l. x ∷ l) (characters_past xs ys (offset - len_utf8 x) (omega arith))
    ∙ ap (λ n. x ∷ (xs ++ characters_before ys n)) (omega arith)

-- and none where the first one ends after it
characters_none : (ys : Text) (offset : ℕ) → ((y : ℕ) (zs : Text) → ys ≡ y ∷ zs → offset < len_utf8 y) → characters_before ys offset ≡ []
characters_none [] offset h = refl
characters_none (y ∷ ys) offset h = sym (cond_below offset (len_utf8 y) [] (y ∷ characters_before ys (offset - len_utf8 y)) (h y ys refl))

-- the text up to the last place at or before the byte at which it may be cut
pub cut_before : (s : Text) (at offset : ℕ) → IsUtf8 s → IsCharBoundary s at → at ≤ offset → ((i : ℕ) → at < i → i ≤ offset → IsCharBoundary s i → ⊥) → chars (take at s) ≡ characters_before (chars s) offset
cut_before s at offset text place low nearest =
    let front : IsUtf8 (take at s) = IsUtf8-take s at text place in
    let back : IsUtf8 (drop at s) = IsUtf8-drop s at text place in
    let whole : chars s ≡ chars (take at s) ++ chars (drop at s) = ap chars (sym (take-append-drop at s)) ∙ chars-append (take at s) (drop at s) front in
    let size : length (encodes (chars (take at s))) ≡ at = ap length (encodes-chars (take at s) front) ∙ length-take-le at s place.0 in
    let none : characters_before (chars (drop at s)) (offset - length (encodes (chars (take at s)))) ≡ [] =
    characters_none (chars (drop at s)) (offset - length (encodes (chars (take at s)))) (λ y zs e. ends_after y zs back e size) in
    sym (append-nil (chars (take at s))) ∙ ap (λ l. chars (take at s) ++ l) (sym none) ∙ sym (characters_past (chars (take at s)) (chars (drop at s)) offset (omega arith)) ∙ ap (λ l. characters_before l offset) (sym whole)
  where
    ends_after : (y : ℕ) (zs : Text) → IsUtf8 (drop at s) → chars (drop at s) ≡ y ∷ zs → length (encodes (chars (take at s))) ≡ at → offset - length (encodes (chars (take at s))) < len_utf8 y
    ends_after y zs back e size =
        let split : drop at s ≡ encode_utf8 y ++ encodes zs = sym (encodes-chars (drop at s) back) ∙ ap encodes e in
        let cut : IsCharBoundary s (at + len_utf8 y) = IsCharBoundary-past_char s (encodes zs) at y place.0 back split in
        ⊎_elim (λ lt. lt)
        (λ ge. absurd (nearest (at + len_utf8 y) (omega (arith, (len_utf8_bounds y).0)) (omega arith) cut))
        (cases_lt (offset - length (encodes (chars (take at s)))) (len_utf8 y))

-- ---- columns

-- the column after these characters, from the column k, where a character takes w of it
abbrev pub column_from : (ℕ → ℕ) → ℕ → Text → ℕ
column_from w k [] = k
column_from w k (c ∷ cs) = column_from w (if is_line_feed c then 1 else k + w c) cs

abbrev pub one : ℕ → ℕ
one c = 1

-- what comes after the last line feed, or all where there is none, character by character
abbrev pub last_line : Text → Text
last_line [] = []
last_line (c ∷ cs) = if is_line_feed c || list_any is_line_feed cs then last_line cs else c ∷ cs

abbrev is_other : ℕ → Bool
is_other c = not (is_line_feed c)

-- how many characters come after the last line feed
one_before : (c : ℕ) (cs : Text) → suffix_len is_other (c ∷ cs)
    ≡ (if suffix_len is_other cs == length cs then length cs + prefix_len is_other (c ∷ []) else suffix_len is_other cs)
one_before c cs =
    ap (prefix_len is_other) (reverse-append (c ∷ []) cs) ∙ prefix_len-append is_other (reverse cs) (c ∷ [])
    ∙ ap (λ n. if suffix_len is_other cs == n then n + prefix_len is_other (c ∷ []) else suffix_len is_other cs) (length-reverse cs)

record Counted (cs : Text) : Type 0 where
  all : list_any is_line_feed cs ≡ false → suffix_len is_other cs ≡ length cs
  fewer : list_any is_line_feed cs ≡ true → suffix_len is_other cs < length cs
  after : last_line cs ≡ after_last is_line_feed cs

counted_on : (c : ℕ) (cs : Text) → Counted cs → Counted (c ∷ cs)
counted_on c cs n = go (is_line_feed c) refl (list_any is_line_feed cs) refl
  where
    size : ℕ
    size = suffix_len is_other cs

    go : (b : Bool) → is_line_feed c ≡ b → (a : Bool) → list_any is_line_feed cs ≡ a → Counted (c ∷ cs)
    go b feed true any =
        let less : size < length cs = n.fewer any in
        let same : suffix_len is_other (c ∷ cs) ≡ size = one_before c cs ∙ cond-false (size == length cs) _ _ (ne_eqb size (length cs) (λ e. absurd (omega (arith, e, less)))) in
        let here : length (c ∷ cs) - suffix_len is_other (c ∷ cs) ≡ suc (length cs - size) = omega (arith, same, less) in
        record {
          all = λ no. let never : true ≡ false = sym (or_right b _ any) ∙ sym (ap (λ x. x || list_any is_line_feed cs) feed) ∙ no in cc;
          fewer = λ _. omega (arith, same, less);
          after = ap (λ x. if x then last_line cs else c ∷ cs) (ap (λ x. x || list_any is_line_feed cs) feed ∙ or_right b _ any) ∙ n.after ∙ sym (ap (λ k. drop k (c ∷ cs)) here);
        }
    go true feed false none =
        let whole : size ≡ length cs = n.all none in
        let first : prefix_len is_other (c ∷ []) ≡ 0 = ap (λ (b : Bool). if not b then 1 else 0) feed in
        let same : suffix_len is_other (c ∷ cs) ≡ length cs = one_before c cs ∙ cond-true (size == length cs) _ _ (eq-eqb size (length cs) whole) ∙ omega (arith, first) in
        let here : length (c ∷ cs) - suffix_len is_other (c ∷ cs) ≡ 1 = omega (arith, same) in
        let start : length cs - size ≡ 0 = omega (arith, whole) in
        record {
          all = λ no. let never : true ≡ false = sym (ap (λ x. x || list_any is_line_feed cs) feed) ∙ no in cc;
          fewer = λ _. omega (arith, same);
          after = ap (λ x. if x || list_any is_line_feed cs then last_line cs else c ∷ cs) feed ∙ n.after ∙ ap (λ k. drop k cs) start ∙ sym (ap (λ k. drop k (c ∷ cs)) here);
        }
    go false feed false none =
        let whole : size ≡ length cs = n.all none in
        let first : prefix_len is_other (c ∷ []) ≡ 1 = ap (λ (b : Bool). if not b then 1 else 0) feed in
        let same : suffix_len is_other (c ∷ cs) ≡ length cs + 1 = one_before c cs ∙ cond-true (size == length cs) _ _ (eq-eqb size (length cs) whole) ∙ omega (arith, first) in
        let here : length (c ∷ cs) - suffix_len is_other (c ∷ cs) ≡ 0 = omega (arith, same) in
        record {
          all = λ _. omega (arith, same);
          fewer = λ yes. let never : true ≡ false = sym yes ∙ ap (λ x. x || list_any is_line_feed cs) feed ∙ none in cc;
          after = ap (λ x. if x then last_line cs else c ∷ cs) (ap (λ x. x || list_any is_line_feed cs) feed ∙ none) ∙ sym (ap (λ k. drop k (c ∷ cs)) here);
        }

counted : (cs : Text) → Counted cs
counted [] = record { all = λ _. refl; fewer = λ yes. let never : true ≡ false = sym yes in cc; after = refl }
counted (c ∷ cs) = counted_on c cs (counted cs)

pub last_line_is : (cs : Text) → last_line cs ≡ after_last is_line_feed cs
last_line_is cs = (counted cs).after

last_line_whole : (cs : Text) → list_any is_line_feed cs ≡ false → last_line cs ≡ cs
last_line_whole [] h = refl
last_line_whole (c ∷ cs) h = ap (λ b. if b then last_line cs else c ∷ cs) h

column_is : (w : ℕ → ℕ) (k : ℕ) (cs : Text) → column_from w k cs ≡ (if list_any is_line_feed cs then 1 + sum_by w (last_line cs) else k + sum_by w cs)
column_is w k [] = omega arith
column_is w k (c ∷ cs) = go (is_line_feed c) (list_any is_line_feed cs) refl (column_is w (if is_line_feed c then 1 else k + w c) cs)
  where
    go : (b a : Bool) → list_any is_line_feed cs ≡ a → column_from w (if b then 1 else k + w c) cs ≡ (if a then 1 + sum_by w (last_line cs) else (if b then 1 else k + w c) + sum_by w cs)
        → column_from w (if b then 1 else k + w c) cs ≡ (if b || a then 1 + sum_by w (if b || a then last_line cs else c ∷ cs) else k + sum_by w (c ∷ cs))
    go true true e ih = ih
    go true false e ih = ih ∙ ap (λ l. 1 + sum_by w l) (sym (last_line_whole cs e))
    go false true e ih = ih
    go false false e ih = omega (arith, ih, sum_by-cons w c cs)

pub column_whole : (w : ℕ → ℕ) (cs : Text) → column_from w 1 cs ≡ 1 + sum_by w (after_last is_line_feed cs)
column_whole w cs = column_is w 1 cs ∙ go (list_any is_line_feed cs) refl ∙ ap (λ l. 1 + sum_by w l) (last_line_is cs)
  where
    go : (a : Bool) → list_any is_line_feed cs ≡ a → (if a then 1 + sum_by w (last_line cs) else 1 + sum_by w cs) ≡ 1 + sum_by w (last_line cs)
    go true e = refl
    go false e = ap (λ l. 1 + sum_by w l) (sym (last_line_whole cs e))

pub length_sum : (cs : Text) → sum_by one cs ≡ length cs
length_sum [] = refl
length_sum (c ∷ cs) = omega (arith, sum_by-cons one c cs, length_sum cs)

-- ---- one character further

module _ (s rest : Text) (c : ℕ) (text : IsUtf8 s) (split : s ≡ encode_utf8 c ++ rest) where
  pub next_column : (w : ℕ → ℕ) (k : ℕ) → column_from w k (chars s) ≡ column_from w (if is_line_feed c then 1 else k + w c) (chars rest)
  next_column w k = ap (column_from w k) (chars_past_char s rest c text split)

  pub next_line : count_by is_line_feed (chars s) ≡ (if is_line_feed c then 1 else 0) + count_by is_line_feed (chars rest)
  next_line = ap (count_by is_line_feed) (chars_past_char s rest c text split) ∙ sum_by-cons (λ d. if is_line_feed d then 1 else 0) c (chars rest)

  pub next_size : length s ≡ len_utf8 c + length rest
  next_size = omega (arith, ap length split, length-append (encode_utf8 c) rest, length-encode c)

-- how many units a character takes in UTF-16
abbrev pub len_utf16 : ℕ → ℕ
len_utf16 c = length (encode_utf16 c)

units_are : (c : ℕ) → len_utf16 c ≡ (if nat_lt c 0x1_0000 then 1 else 2)
units_are c = go (nat_lt c 0x1_0000)
  where
    go : (b : Bool) → length (if b then c ∷ [] else (0xD800 + (c - 0x1_0000) / 0x400) ∷ (0xDC00 + (c - 0x1_0000) % 0x400) ∷ []) ≡ (if b then 1 else 2)
    go true = refl
    go false = refl

few_units : (c : ℕ) → (if nat_lt c 0x1_0000 then 1 else 2) ≤ len_utf8 c
few_units c = grind arith

pub len_utf16-le : (c : ℕ) → len_utf16 c ≤ len_utf8 c
len_utf16-le c = omega (arith, units_are c, few_units c)

-- ---- the steps of a count

pub some_size : (c : ℕ) → 1 ≤ len_utf8 c
some_size c = (len_utf8_bounds c).0

pub text_after : (s rest : Text) (c : ℕ) → IsUtf8 s → s ≡ encode_utf8 c ++ rest → IsUtf8 rest
text_after s rest c text split = IsUtf8-past_char s rest c text split

pub passed_feed : (s rest : Text) (c : ℕ) → IsUtf8 s → s ≡ encode_utf8 c ++ rest → is_line_feed c ≡ true → count_by is_line_feed (chars s) ≡ 1 + count_by is_line_feed (chars rest)
passed_feed s rest c text split feed = next_line s rest c text split ∙ ap (λ (b : Bool). (if b then 1 else 0) + count_by is_line_feed (chars rest)) feed

pub passed_other : (s rest : Text) (c : ℕ) → IsUtf8 s → s ≡ encode_utf8 c ++ rest → is_line_feed c ≡ false → count_by is_line_feed (chars s) ≡ count_by is_line_feed (chars rest)
passed_other s rest c text split other = next_line s rest c text split ∙ ap (λ (b : Bool). (if b then 1 else 0) + count_by is_line_feed (chars rest)) other ∙ omega arith

pub column_fed : (w : ℕ → ℕ) (k : ℕ) (s rest : Text) (c : ℕ) → IsUtf8 s → s ≡ encode_utf8 c ++ rest → is_line_feed c ≡ true → column_from w 1 (chars rest) ≡ column_from w k (chars s)
column_fed w k s rest c text split feed = sym (next_column s rest c text split w k ∙ ap (λ (b : Bool). column_from w (if b then 1 else k + w c) (chars rest)) feed)

pub column_on : (w : ℕ → ℕ) (k : ℕ) (s rest : Text) (c : ℕ) → IsUtf8 s → s ≡ encode_utf8 c ++ rest → is_line_feed c ≡ false → column_from w (k + w c) (chars rest) ≡ column_from w k (chars s)
column_on w k s rest c text split other = sym (next_column s rest c text split w k ∙ ap (λ (b : Bool). column_from w (if b then 1 else k + w c) (chars rest)) other)

-- at the end
no_chars : (s : Text) → length s ≡ 0 → chars s ≡ []
no_chars [] none = chars-nil
no_chars (b ∷ s) none = absurd (omega arith)

pub no_column : (w : ℕ → ℕ) (k : ℕ) (s : Text) → length s ≡ 0 → column_from w k (chars s) ≡ k
no_column w k s none = ap (column_from w k) (no_chars s none)

pub no_line : (s : Text) → length s ≡ 0 → count_by is_line_feed (chars s) ≡ 0
no_line s none = ap (count_by is_line_feed) (no_chars s none)

-- units of UTF-16
pub len_utf16-is : (c n : ℕ) → (c < 0x1_0000 → n ≡ 1) → (0x1_0000 ≤ c → n ≡ 2) → n ≡ len_utf16 c
len_utf16-is c n low high =
    ⊎_elim (λ lt. low lt ∙ cond_below c 0x1_0000 1 2 lt) (λ ge. high ge ∙ cond_above c 0x1_0000 1 2 2 ge refl) (cases_lt c 0x1_0000) ∙ sym (units_are c)
