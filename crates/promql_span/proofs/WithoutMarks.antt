-- A text without a mark has nothing that a server reads otherwise.
use Rattle.std.proofs.Common.{◌≡◌, ℕ, suc, ◌+◌, ◌-◌, ◌<◌, refl, sym, ◌∙◌, ap, subst, Bool, true, false, true≢false, arith, cond, ◌&&◌, ◌||◌, [], ◌∷◌, ◌++◌, length, take}
use Rattle.std.specs.Prelude.{◌==◌, Option, Some, None, option_and_then, bytes_eq, codes, is_some, nat_le, nat_lt, not, option_map, option_to_list, slice_get, slice_index}
use Rattle.std.specs.List.{list_any, prefix_len}
use Rattle.std.specs.Str.{IsAscii}
use Rattle.std.proofs.lemmas.Bool.{and_parts, cond_both}
use Rattle.std.proofs.lemmas.Bool.Decides.{nat_tests}
use Rattle.std.proofs.lemmas.Slice.Eq.{bytes_eq-Decides}
use Rattle.std.proofs.lemmas.Str.Ascii.{IsAscii-nil, IsAscii-cons}
use Rattle.std.proofs.Math.Bool.{or-true}
use Rattle.std.proofs.Math.Seq.{take-length}
use Rattle.promql_text.specs.NumberText.{read_number}
use Rattle.promql_text.specs.Texts.{Text, code}
use Rattle.promql_token.specs.Cursor.{tokens_up_to_fault}
use Rattle.promql_token.specs.declared.ids.TheConstants.{T_ADD, T_AT, T_EOF, T_EQL, T_IDENTIFIER, T_LEFT_PAREN, T_NUMBER, T_STRING, T_SUB}
use Rattle.promql_span.specs.ByteEscapes.{first_escape, is_byte_escape}
use Rattle.promql_span.specs.Differences.{Tokens, after_brace, after_signs, begins_with_fine, begins_with_zero, clashes, comes_first, counted, difference, difference_at, has_replacement, in_parens, is_before_operand, is_fine, kind_at, kinds, len_to_point, matched_labels, reads_zero, spells_replacement, stands_for, string_kind}
use Rattle.promql_span.specs.QueryMarks.{has, has_mark, has_text, may_have_fine, may_have_zero, may_look_at_plus}
use Rattle.promql_span.specs.declared.differences.DifferenceKind.{DifferenceKind}
use Rattle.promql_span.specs.declared.differences.DifferenceKind.TheVariants as kind
use Rattle.promql_span.specs.declared.limits.Limits.{Limits}
use Rattle.promql_span.proofs.LaterTokens.{has_token, is_fine_number, is_zero_number, no_fine_after_signs, no_repeated_label, no_zero_after_signs, none_first, none_in_parens}
use Rattle.promql_span.proofs.OperatorTokens.{OfPunctuators, in_front, needs_byte, or_left, or_right}
use Rattle.promql_span.proofs.TokensWithout.{NeedsText, none_such}
use Rattle.promql_span.proofs.ZeroNumbers.{no_zero_without_naught}

-- ---- which texts of tokens have something

-- where a text that lacks it is none of these
by_lack : (f has : Bool) → (has ≡ false → f ≡ false) → f ≡ true → has ≡ true
by_lack f true lacks is = refl
by_lack f false lacks is = absurd (true≢false (sym is ∙ lacks refl))

-- a token of an id, whose text is one of these
abbrev is_such : ℕ → (Text → Bool) → ℕ × Text → Bool
is_such id f t = t.0 == id && f t.1

abbrev IsKept : (Text → Bool) → Type 0
IsKept has = (b : ℕ) (z : Text) → has (b ∷ z) ≡ false → has z ≡ false

spelled : (id : ℕ) (f has : Text → Bool) → (T_EOF == id) ≡ false → IsKept has → ((w r : Text) → f w ≡ true → has (w ++ r) ≡ true) → NeedsText (is_such id f) has
spelled id f has other more front = record {
  more = more;
  ends = λ w. ap (λ a. a && f w) other;
  begins = λ m depth own w r begun is. front w r (and_parts (own == id) (f w) is).1;
}

either_front : (p q : ℕ → Bool) (w r : Text) → list_any p w || list_any q w ≡ true → list_any p (w ++ r) || list_any q (w ++ r) ≡ true
either_front p q w r is = go (list_any p w) refl is
  where
    go : (a : Bool) → list_any p w ≡ a → a || list_any q w ≡ true → list_any p (w ++ r) || list_any q (w ++ r) ≡ true
    go true one is = ap (λ a. a || list_any q (w ++ r)) (in_front p w r one)
    go false one is = ap (λ a. list_any p (w ++ r) || a) (in_front q w r is) ∙ or-true (list_any p (w ++ r))

either_kept : (one other : Text → Bool) → IsKept one → IsKept other → IsKept (λ s. one s || other s)
either_kept one other more also b z miss =
    ap (λ a. a || other z) (more b z (or_left (one (b ∷ z)) (other (b ∷ z)) miss)) ∙ also b z (or_right (one (b ∷ z)) (other (b ∷ z)) miss)

any_kept : (p : ℕ → Bool) → IsKept (list_any p)
any_kept p b z miss = or_right (p b) (list_any p z) miss

text_kept : (w : Text) → IsKept (has_text w)
text_kept w b z miss = or_right _ (has_text w z) miss

-- ---- a string with an escape has a backslash

pub no_escape : (at : ℕ) (w : Text) → has (code "\\") w ≡ false → first_escape false at w ≡ None
no_escape at [] miss = refl
no_escape at (b ∷ w) miss = go (b == code "\\") miss (no_escape (at + 1) w)
  where
    go : (a : Bool) → a || has (code "\\") w ≡ false → (has (code "\\") w ≡ false → first_escape false (at + 1) w ≡ None)
        → cond (a && is_byte_escape w) (Some at) (first_escape a (at + 1) w) ≡ None
    go true miss rest = absurd (true≢false miss)
    go false miss rest = rest miss

no_replacement : (w : Text) → has (code "\\") w ≡ false → has_replacement w ≡ false
no_replacement [] miss = refl
no_replacement (b ∷ w) miss = go (b == code "\\") miss (no_replacement w)
  where
    go : (a : Bool) → a || has (code "\\") w ≡ false → (has (code "\\") w ≡ false → has_replacement w ≡ false)
        → (a && spells_replacement w) || has_replacement w ≡ false
    go true miss rest = absurd (true≢false miss)
    go false miss rest = rest miss

no_kind : (w : Text) → has (code "\\") w ≡ false → string_kind w ≡ None
no_kind w miss =
    cond_both (slice_index w 0 == code "`") _ _ (λ o. o ≡ None) (λ _. refl)
    (λ _. (λ i. cond (is_some (no_escape 0 w miss i)) (Some kind.ByteEscape) (cond (no_replacement w miss i) (Some kind.ReplacementEscape) None)))

abbrev has_kind : Text → Bool
has_kind w = is_some (string_kind w)

needs_backslash : NeedsText (is_such T_STRING has_kind) (has (code "\\"))
needs_backslash = spelled T_STRING has_kind (has (code "\\")) refl (any_kept (λ b. b == code "\\"))
    (λ w r is. in_front (λ b. b == code "\\") w r (by_lack (has_kind w) (has (code "\\") w) (λ miss. ap is_some (no_kind w miss)) is))

-- ---- a number that is zero has a zero, and one with parts of a thousandth a point or a minus

pub ascii_text : (w : Text) → list_any (nat_le 128) w ≡ false → IsAscii w
ascii_text [] miss = IsAscii-nil
ascii_text (b ∷ w) miss = IsAscii-cons b w (below b (or_left (nat_le 128 b) _ miss)) (ascii_text w (or_right (nat_le 128 b) _ miss))
  where
    below : (b : ℕ) → nat_le 128 b ≡ false → b < 128
    below b miss = grind (arith, nat_tests)

abbrev is_zero_text : Text → Bool
is_zero_text w = reads_zero (read_number w)

needs_zero : NeedsText (is_such T_NUMBER is_zero_text) may_have_zero
needs_zero = spelled T_NUMBER is_zero_text may_have_zero refl (either_kept (has (code "0")) (list_any (nat_le 128)) (any_kept (λ b. b == code "0")) (any_kept (nat_le 128)))
    (λ w r is. either_front (λ b. b == code "0") (nat_le 128) w r (by_lack (is_zero_text w) (may_have_zero w)
    (λ miss. no_zero_without_naught w (ascii_text w (or_right (has (code "0") w) _ miss)) (or_left (has (code "0") w) (list_any (nat_le 128) w) miss)) is))

all_before : (w : Text) → has (code ".") w ≡ false → prefix_len (λ b. not (b == code ".")) w ≡ length w
all_before [] miss = refl
all_before (b ∷ w) miss =
    ap (λ a. cond (not a) (1 + prefix_len (λ b. not (b == code ".")) w) 0) (or_left (b == code ".") (has (code ".") w) miss)
    ∙ ap (λ n. 1 + n) (all_before w (or_right (b == code ".") (has (code ".") w) miss)) ∙ one_more (length w)
  where
    one_more : (n : ℕ) → 1 + n ≡ suc n
    one_more n = grind arith

all_to_point : (w : Text) → has (code ".") w ≡ false → len_to_point w ≡ length w
all_to_point w miss = ap (λ n. length (take n w)) (all_before w miss) ∙ ap length (take-length w)

none_after : (n : ℕ) → nat_lt 4 (n - n) ≡ false
none_after n = grind (arith, nat_tests)

not_fine : (w : Text) → may_have_fine w ≡ false → is_fine w ≡ false
not_fine w miss =
    ap (λ n. nat_lt 4 (length w - n) || has (code "-") w) (all_to_point w (or_left (has (code ".") w) (has (code "-") w) miss))
    ∙ ap (λ a. a || has (code "-") w) (none_after (length w)) ∙ or_right (has (code ".") w) (has (code "-") w) miss

needs_point : NeedsText (is_such T_NUMBER is_fine) may_have_fine
needs_point = spelled T_NUMBER is_fine may_have_fine refl (either_kept (has (code ".")) (has (code "-")) (any_kept (λ b. b == code ".")) (any_kept (λ b. b == code "-")))
    (λ w r is. either_front (λ b. b == code ".") (λ b. b == code "-") w r (by_lack (is_fine w) (may_have_fine w) (not_fine w) is))

-- ---- names of calls

-- of those that look at a plus, and of those that look at the order of matchers
abbrev looks_at_plus : Text → Bool
looks_at_plus w = list_any (bytes_eq w) (codes "timestamp" ∷ codes "absent" ∷ [])

abbrev looks_at_order : Text → Bool
looks_at_order w = list_any (bytes_eq w) (codes "absent" ∷ codes "absent_over_time" ∷ [])

-- what is so of each of two names, is so of a text that is one of them
one_of_two : (a b : Text) (P : Text → Type 0) → P a → P b → (w : Text) → list_any (bytes_eq w) (a ∷ b ∷ []) ≡ true → P w
one_of_two a b P first second w is = go (bytes_eq w a) refl (bytes_eq w b) refl is
  where
    named : (name : Text) → bytes_eq w name ≡ true → P name → P w
    named name same p = subst P (sym ((bytes_eq-Decides w name).0 same)) p

    go : (x : Bool) → bytes_eq w a ≡ x → (y : Bool) → bytes_eq w b ≡ y → x || (y || false) ≡ true → P w
    go true one y _ is = named a one first
    go false one true two is = named b two second
    go false one false two is = absurd (true≢false (sym is))

needs_order_name : NeedsText (is_such T_IDENTIFIER looks_at_order) (has_text (codes "bsent"))
needs_order_name = spelled T_IDENTIFIER looks_at_order (has_text (codes "bsent")) refl (text_kept (codes "bsent"))
    (λ w r. one_of_two (codes "absent") (codes "absent_over_time") (λ w. has_text (codes "bsent") (w ++ r) ≡ true) refl refl w)

needs_plus_name : NeedsText (is_such T_IDENTIFIER looks_at_plus) may_look_at_plus
needs_plus_name = spelled T_IDENTIFIER looks_at_plus may_look_at_plus refl
    (either_kept (has_text (codes "bsent")) (has_text (codes "mestamp")) (text_kept (codes "bsent")) (text_kept (codes "mestamp")))
    (λ w r. one_of_two (codes "timestamp") (codes "absent") (λ w. may_look_at_plus (w ++ r) ≡ true) (or-true (has_text (codes "bsent") (codes "timestamp" ++ r))) refl w)

-- ---- operators

needs_operator : (id c : ℕ) → OfPunctuators (λ k. k == id) c → NeedsText (λ t. t.0 == id) (has c)
needs_operator id c these = needs_byte (λ k. k == id) c these

with_minus : OfPunctuators (λ k. k == T_SUB) (code "-")
with_minus = record { outside = refl; braces = refl; brackets = refl; word = record { keyword = refl; name = refl; metric = refl; alternative = refl }; other = refl }

with_at : OfPunctuators (λ k. k == T_AT) (code "@")
with_at = record { outside = refl; braces = refl; brackets = refl; word = record { keyword = refl; name = refl; metric = refl; alternative = refl }; other = refl }

with_plus : OfPunctuators (λ k. k == T_ADD) (code "+")
with_plus = record { outside = refl; braces = refl; brackets = refl; word = record { keyword = refl; name = refl; metric = refl; alternative = refl }; other = refl }

with_equal : OfPunctuators (λ k. k == T_EQL) (code "=")
with_equal = record { outside = refl; braces = refl; brackets = refl; word = record { keyword = refl; name = refl; metric = refl; alternative = refl }; other = refl }

-- ---- tokens of which nothing is read otherwise

pub record AreQuiet (ts : Tokens) : Type 0 where
  pub strings : list_any (is_such T_STRING has_kind) ts ≡ false
  pub zeros : has_token T_SUB ts && list_any is_zero_number ts ≡ false
  pub times : has_token T_AT ts && list_any is_fine_number ts ≡ false
  pub pluses : has_token T_ADD ts && list_any (is_such T_IDENTIFIER looks_at_plus) ts ≡ false
  pub labels : has_token T_EQL ts && list_any (is_such T_IDENTIFIER looks_at_order) ts ≡ false

both_later : (a more b others : Bool) → (a || more) && (b || others) ≡ false → more && others ≡ false
both_later true more true others miss = absurd (true≢false miss)
both_later false false b others miss = refl
both_later a true b false miss = refl
both_later true true false true miss = absurd (true≢false miss)
both_later true false false others miss = refl
both_later false true b true miss = absurd (true≢false (sym (or-true b) ∙ miss))

later : (t : ℕ × Text) (ts : Tokens) → AreQuiet (t ∷ ts) → AreQuiet ts
later t ts quiet = record {
  strings = or_right (is_such T_STRING has_kind t) _ quiet.strings;
  zeros = both_later (t.0 == T_SUB) (has_token T_SUB ts) (is_zero_number t) (list_any is_zero_number ts) quiet.zeros;
  times = both_later (t.0 == T_AT) (has_token T_AT ts) (is_fine_number t) (list_any is_fine_number ts) quiet.times;
  pluses = both_later (t.0 == T_ADD) (has_token T_ADD ts) (is_such T_IDENTIFIER looks_at_plus t) (list_any (is_such T_IDENTIFIER looks_at_plus) ts) quiet.pluses;
  labels = both_later (t.0 == T_EQL) (has_token T_EQL ts) (is_such T_IDENTIFIER looks_at_order t) (list_any (is_such T_IDENTIFIER looks_at_order) ts) quiet.labels;
}

-- a sign with a number after it
no_signed : (a more b others k y : Bool) → (a || more) && (b || others) ≡ false → (others ≡ false → y ≡ false) → a && (k && y) ≡ false
no_signed false more b others k y miss rest = refl
no_signed true more b others false y miss rest = refl
no_signed true more b others true y miss rest = rest (or_right b others miss)

-- a call with something in it
no_called : (p ps i l ns opens y : Bool) → (p || ps) && ((i && l) || ns) ≡ false → (ps ≡ false → y ≡ false) → (i && (l && opens)) && y ≡ false
no_called p ps false l ns opens y miss rest = refl
no_called p ps true false ns opens y miss rest = refl
no_called p ps true true ns false y miss rest = refl
no_called true ps true true ns true y miss rest = absurd (true≢false miss)
no_called false true true true ns true y miss rest = absurd (true≢false miss)
no_called false false true true ns true y miss rest = rest refl

no_other_kind : (naught fine signed twice : Bool) → naught ≡ false → fine ≡ false → signed ≡ false → twice ≡ false
    → cond naught (Some kind.NegativeZero) (cond fine (Some kind.PartOfMillisecond) (cond signed (Some kind.Plus) (cond twice (Some kind.RepeatedLabel) None))) ≡ None
no_other_kind naught fine signed twice one two three four =
    λ i. cond (one i) (Some kind.NegativeZero) (cond (two i) (Some kind.PartOfMillisecond) (cond (three i) (Some kind.Plus) (cond (four i) (Some kind.RepeatedLabel) None)))

no_some : (o : Option DifferenceKind) → is_some o ≡ false → o ≡ None
no_some None miss = refl
no_some (Some k) miss = absurd (true≢false miss)

no_kind_at : (before : ℕ) (t : ℕ × Text) (ts : Tokens) → AreQuiet (t ∷ ts) → kind_at before t ts ≡ None
no_kind_at before t ts quiet =
    cond_both (t.0 == T_STRING) _ _ (λ o. o ≡ None)
    (λ is. no_some (string_kind t.1) (ap (λ a. a && has_kind t.1) (sym is) ∙ or_left (is_such T_STRING has_kind t) _ quiet.strings))
    (λ _. no_other_kind _ _ _ _
    (no_signed (t.0 == T_SUB) (has_token T_SUB ts) (is_zero_number t) (list_any is_zero_number ts) (is_before_operand before) (begins_with_zero (after_signs ts))
    quiet.zeros (no_zero_after_signs ts))
    (no_signed (t.0 == T_AT) (has_token T_AT ts) (is_fine_number t) (list_any is_fine_number ts) true (begins_with_fine (after_signs ts))
    quiet.times (no_fine_after_signs ts))
    (no_called (t.0 == T_ADD) (has_token T_ADD ts) (t.0 == T_IDENTIFIER) (looks_at_plus t.1) _ (comes_first T_LEFT_PAREN ts) (comes_first T_ADD (in_parens ts))
    quiet.pluses (λ none. none_first T_ADD (in_parens ts) (none_in_parens T_ADD ts none)))
    (no_called (t.0 == T_EQL) (has_token T_EQL ts) (t.0 == T_IDENTIFIER) (looks_at_order t.1) _ (comes_first T_LEFT_PAREN ts)
    (clashes (matched_labels [] (after_brace (in_parens ts)))) quiet.labels (no_repeated_label ts)))

no_kinds : (limits : Limits) (n before : ℕ) (ts : Tokens) → AreQuiet ts → kinds limits n before ts ≡ []
no_kinds limits n before [] quiet = refl
no_kinds limits n before (t ∷ ts) quiet =
    ap (λ o. option_to_list (option_map (λ kind. (n, kind)) (counted limits o)) ++ kinds limits (n + 1) (stands_for before t.0) ts) (no_kind_at before t ts quiet)
    ∙ no_kinds limits (n + 1) (stands_for before t.0) ts (later t ts quiet)

-- ---- and so are those of a text without a mark

-- where a text lacks one of two things, its tokens lack one of two kinds
lacks_either : (x y a b : Bool) → (x ≡ false → a ≡ false) → (y ≡ false → b ≡ false) → x && y ≡ false → a && b ≡ false
lacks_either false y a b first second miss = ap (λ a. a && b) (first refl)
lacks_either true y a b first second miss = and_false a (second miss)
  where
    and_false : (a : Bool) → b ≡ false → a && b ≡ false
    and_false true none = none
    and_false false none = refl

quiet_tokens : (s : Text) → has_mark s ≡ false → AreQuiet (tokens_up_to_fault s)
quiet_tokens s miss = record {
  strings = none_such (is_such T_STRING has_kind) (has (code "\\")) needs_backslash s (or_left (has (code "\\") s) _ miss);
  zeros = lacks_either (has (code "-") s) (may_have_zero s) _ _ (none_such (λ t. t.0 == T_SUB) (has (code "-")) (needs_operator T_SUB (code "-") with_minus) s)
      (none_such is_zero_number may_have_zero needs_zero s) (or_left _ _ after_escapes);
  times = lacks_either (has (code "@") s) (may_have_fine s) _ _ (none_such (λ t. t.0 == T_AT) (has (code "@")) (needs_operator T_AT (code "@") with_at) s)
      (none_such is_fine_number may_have_fine needs_point s) (or_left _ _ after_zeros);
  pluses = lacks_either (has (code "+") s) (may_look_at_plus s) _ _ (none_such (λ t. t.0 == T_ADD) (has (code "+")) (needs_operator T_ADD (code "+") with_plus) s)
      (none_such (is_such T_IDENTIFIER looks_at_plus) may_look_at_plus needs_plus_name s) (or_left _ _ after_times);
  labels = lacks_either (has (code "=") s) (has_text (codes "bsent") s) _ _ (none_such (λ t. t.0 == T_EQL) (has (code "=")) (needs_operator T_EQL (code "=") with_equal) s)
      (none_such (is_such T_IDENTIFIER looks_at_order) (has_text (codes "bsent")) needs_order_name s) (or_right _ _ after_times);
}
  where
    after_escapes : (has (code "-") s && may_have_zero s) || ((has (code "@") s && may_have_fine s) || ((has (code "+") s && may_look_at_plus s) || (has (code "=") s && has_text (codes "bsent") s))) ≡ false
    after_escapes = or_right (has (code "\\") s) _ miss

    after_zeros : (has (code "@") s && may_have_fine s) || ((has (code "+") s && may_look_at_plus s) || (has (code "=") s && has_text (codes "bsent") s)) ≡ false
    after_zeros = or_right (has (code "-") s && may_have_zero s) _ after_escapes

    after_times : (has (code "+") s && may_look_at_plus s) || (has (code "=") s && has_text (codes "bsent") s) ≡ false
    after_times = or_right (has (code "@") s && may_have_fine s) _ after_zeros

pub no_difference_without_mark : (limits : Limits) (s : Text) → has_mark s ≡ false → difference limits s ≡ None
no_difference_without_mark limits s miss =
    ap (λ ks. option_and_then (difference_at s) (slice_get ks 0)) (no_kinds limits 0 T_LEFT_PAREN (tokens_up_to_fault s) (quiet_tokens s miss))
