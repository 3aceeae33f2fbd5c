-- How the rest of a plain pattern goes on, by what it comes after.
use Rattle.std.proofs.Common.{◌≡◌, ◌⊎◌, ℕ, ◌+◌, ◌*◌, ◌<◌, Bool, true, false, not, ◌&&◌, ◌||◌, ◌==◌, if◌then◌else◌, [], ◌∷◌, nat_lt, nat_le, refl, sym, ◌∙◌, inl, inr, ⊎_elim, arith, true≢false}
use Rattle.std.proofs.lemmas.Bool.{and_parts, eqb-true, eqb-false, ltb-true, ne_eqb, not-false, not-true, or_from, or_parts}
use Rattle.std.proofs.lemmas.Bool.Decides.{nat_tests}
use Rattle.std.proofs.lemmas.Str.Ascii.{IsAscii-cons, IsAscii-nil}
use Rattle.std.specs.Char.{is_ascii, is_ascii_digit}
use Rattle.std.specs.Str.{IsAscii}
use Rattle.regex_syntax.specs.Reading.{◌∈◌}
use Rattle.promql_text.specs.Texts.{Text}
use Rattle.promql_label.specs.declared.plain.After.{After}
use Rattle.promql_label.specs.declared.plain.After.TheVariants as after
use Rattle.promql_label.specs.declared.plain.Scan.{Scan}
use Rattle.promql_label.specs.declared.plain.TheConstants.{MAX_GROUPS}
use Rattle.promql_label.specs.PatternSize.{repeats_from}
use Rattle.promql_label.specs.PlainPatterns.{after_hyphen, begin, close_group, digit_of, first_in_class, in_class, is_escaped, is_member, is_operator, is_plain_from, is_repetition, item_or_bar, member, next, open_group}

-- so many groups are opened and closed before a text, which comes after this
abbrev pub scan_at : ℕ → ℕ → After → Scan
scan_at opened closed what = record { opened = opened; closed = closed; after = what }

-- a text is the rest of a plain pattern after this place, and its counts repeat f times
abbrev pub Rest : ℕ → Scan → Text → Type 0
Rest f scan z = (is_plain_from scan z ≡ true) × (repeats_from scan z ≡ f)

abbrev pub Plain : ℕ → ℕ → ℕ → After → Text → Type 0
Plain opened closed f what z = Rest f (scan_at opened closed what) z

foreign_is_not_plain : (o c : ℕ) (z : Text) → is_plain_from (scan_at o c after.Foreign) z ≡ false
unfolding next
foreign_is_not_plain o c [] = refl
foreign_is_not_plain o c (b ∷ z) = foreign_is_not_plain o c z

pub never : {A : Type 0} (o c f : ℕ) (z : Text) → Plain o c f after.Foreign z → A
never o c f z h = absurd (true≢false (sym h.0 ∙ foreign_is_not_plain o c z))

-- a choice by a test, which has what the chosen one has
pub by_test : {A : Type 0} (P : A → Type 0) (test : Bool) (x y : A) → P (if test then x else y) → ((test ≡ true) × P x) ⊎ ((test ≡ false) × P y)
by_test P true x y h = inl (refl, h)
by_test P false x y h = inr (refl, h)

-- the same of what comes next
pub by_next : (o c f : ℕ) (z : Text) (test : Bool) (x y : After) → Plain o c f (if test then x else y) z
    → ((test ≡ true) × Plain o c f x z) ⊎ ((test ≡ false) × Plain o c f y z)
by_next o c f z test x y h = by_test (λ what. Plain o c f what z) test x y h

pub turned : (a b : ℕ) → (a == b) ≡ false → (b == a) ≡ false
turned a b h = ne_eqb b a (λ e. eqb-false a b h (sym e))

-- ---- bytes

-- a byte that means itself, or is the dot, the start or the end of a line
pub record IsByte (b : ℕ) : Type 0 where
  pub ascii : b < 128
  pub ends : (b ∈ "|)") ≡ false
  pub opens : (b ∈ "(") ≡ false
  pub repeats : (b ∈ "?*+{") ≡ false
  pub brackets : (b ∈ "[") ≡ false
  pub escapes : (b ∈ "\\") ≡ false

pub record IsMember (b : ℕ) : Type 0 where
  pub ascii : b < 128
  pub opens : (b == 91) ≡ false
  pub escapes : (b == 92) ≡ false
  pub closes : (b == 93) ≡ false
  pub negates : (b == 94) ≡ false
  pub hyphen : (b == 45) ≡ false
  pub both : (b == 38) ≡ false
  pub either : (b == 126) ≡ false

pub member_tests : (b : ℕ) → is_member b ≡ true → IsMember b
member_tests b h =
    let parts = and_parts (is_ascii b) _ h in
    let none = not-true _ parts.1 in
    let (others, either) = or_parts _ (b == 126) none in
    let (others, both) = or_parts _ (b == 38) others in
    let (others, hyphen) = or_parts _ (b == 45) others in
    let (others, negates) = or_parts _ (b == 94) others in
    let (others, closes) = or_parts _ (b == 93) others in
    let (opens, escapes) = or_parts (b == 91) (b == 92) others in
    record {
      ascii = ltb-true b 128 parts.0;
      opens = opens;
      escapes = escapes;
      closes = closes;
      negates = negates;
      hyphen = hyphen;
      both = both;
      either = either;
    }

-- a member comes next, or an escape
pub member_next : (o c f b : ℕ) (z : Text) → Plain o c f (member b) z → (IsMember b × Plain o c f (after.Member b) z) ⊎ ((b ≡ 92) × Plain o c f after.ClassBackslash z)
member_next o c f b z h = ⊎_elim
    (λ one. inl (member_tests b one.0, one.1))
    (λ other. ⊎_elim
    (λ slash. inr (eqb-true b 92 slash.0, slash.1))
    (λ none. never o c f z none.1)
    (by_next o c f z (b == 92) after.ClassBackslash after.Foreign other.1))
    (by_next o c f z (is_member b) (after.Member b) _ h)

-- ---- where an item may begin

pub data Begins (o c f b : ℕ) (z : Text) : Type 0 where
  group : b ≡ 40 → o < MAX_GROUPS → Plain (o + 1) c f after.Paren z → Begins o c f b z
  close : b ≡ 41 → c < o → Plain o (c + 1) f after.Item z → Begins o c f b z
  branch : b ≡ 124 → Plain o c f after.Start z → Begins o c f b z
  class : b ≡ 91 → Plain o c f after.Bracket z → Begins o c f b z
  escape : b ≡ 92 → Plain o c f after.Backslash z → Begins o c f b z
  byte : IsByte b → Plain o c f after.Item z → Begins o c f b z

item_begins : (o c f b : ℕ) (z : Text) → (b == 40) ≡ false → (b == 41) ≡ false → Plain o c f (item_or_bar b) z → Begins o c f b z
item_begins o c f b z no_group no_close h = ⊎_elim
    (λ bar. branch (eqb-true b 124 bar.0) bar.1)
    (λ no_bar. ⊎_elim
    (λ opens. class (eqb-true b 91 opens.0) opens.1)
    (λ no_class. ⊎_elim
    (λ slash. escape (eqb-true b 92 slash.0) slash.1)
    (λ no_escape. ⊎_elim
    (λ none. never o c f z none.1)
    (λ one. byte (itself no_bar.0 no_class.0 no_escape.0 (or_parts (is_operator b) (not (is_ascii b)) one.0)) one.1)
    (by_next o c f z (is_operator b || not (is_ascii b)) after.Foreign after.Item no_escape.1))
    (by_next o c f z (b == 92) after.Backslash _ no_class.1))
    (by_next o c f z (b == 91) after.Bracket _ no_bar.1))
    (by_next o c f z (b == 124) after.Start _ h)
  where
    itself : (b == 124) ≡ false → (b == 91) ≡ false → (b == 92) ≡ false → (is_operator b ≡ false) × (not (is_ascii b) ≡ false) → IsByte b
    itself no_bar no_class no_escape rest = record {
      ascii = ltb-true b 128 (not-false (is_ascii b) rest.1);
      ends = or_from (b == 124) (b == 41) no_bar no_close;
      opens = no_group;
      repeats = rest.0;
      brackets = no_class;
      escapes = no_escape;
    }

pub begins : (o c f : ℕ) (what : After) (b : ℕ) (z : Text) → Rest f (begin (scan_at o c what) b) z → Begins o c f b z
begins o c f what b z h = ⊎_elim
    (λ opens. ⊎_elim
    (λ few. group (eqb-true b 40 opens.0) (ltb-true o MAX_GROUPS few.0) few.1)
    (λ many. never o c f z many.1)
    (by_test plain (nat_lt o MAX_GROUPS) (scan_at (o + 1) c after.Paren) (scan_at o c after.Foreign) opens.1))
    (λ no_group. ⊎_elim
    (λ shut. ⊎_elim
    (λ some. close (eqb-true b 41 shut.0) (ltb-true c o some.0) some.1)
    (λ none. never o c f z none.1)
    (by_test plain (nat_lt c o) (scan_at o (c + 1) after.Item) (scan_at o c after.Foreign) shut.1))
    (λ no_close. item_begins o c f b z no_group.0 no_close.0 no_close.1)
    (by_test plain (b == 41) (close_group (scan_at o c what)) (scan_at o c (item_or_bar b)) no_group.1))
    (by_test plain (b == 40) (open_group (scan_at o c what)) _ h)
  where
    plain : Scan → Type 0
    plain scan = Rest f scan z

pub start_begins : (o c f b : ℕ) (z : Text) → Plain o c f after.Start (b ∷ z) → Begins o c f b z
unfolding next
start_begins o c f b z h = begins o c f after.Start b z h

-- ---- escapes

pub escaped_next : (o c f b : ℕ) (z : Text) → Plain o c f after.Backslash (b ∷ z) → (is_escaped b ≡ true) × Plain o c f after.Item z
unfolding next
escaped_next o c f b z h = ⊎_elim
    (λ one. one)
    (λ none. never o c f z none.1)
    (by_next o c f z (is_escaped b) after.Item after.Foreign h)

pub class_escape_next : (o c f b : ℕ) (z : Text) → Plain o c f after.ClassBackslash (b ∷ z) → (is_escaped b ≡ true) × Plain o c f after.Range z
unfolding next
class_escape_next o c f b z h = ⊎_elim
    (λ one. one)
    (λ none. never o c f z none.1)
    (by_next o c f z (is_escaped b) after.Range after.Foreign h)

-- ---- repetitions

pub item_goes_on : (o c f b : ℕ) (z : Text) → Plain o c f after.Item (b ∷ z)
    → ((is_repetition b ≡ true) × Plain o c f after.Repetition z) ⊎ (((b ≡ 123) × Plain o c f after.Brace z) ⊎ Plain o c f after.Start (b ∷ z))
unfolding next
item_goes_on o c f b z h = ⊎_elim
    (λ one. inl one)
    (λ none. inr (⊎_elim
    (λ count. inl (eqb-true b 123 count.0, count.1))
    (λ no_count. inr no_count.1)
    (by_test plain (b == 123) (scan_at o c after.Brace) (begin (scan_at o c after.Item) b) none.1)))
    (by_test plain (is_repetition b) (scan_at o c after.Repetition) _ h)
  where
    plain : Scan → Type 0
    plain scan = Rest f scan z

pub repetition_goes_on : (o c f b : ℕ) (z : Text) → Plain o c f after.Repetition (b ∷ z)
    → ((b ≡ 63) × Plain o c f after.Start z) ⊎ Plain o c f after.Start (b ∷ z)
unfolding next
repetition_goes_on o c f b z h = ⊎_elim
    (λ lazy. inl (eqb-true b 63 lazy.0, lazy.1))
    (λ greedy. inr greedy.1)
    (by_test (λ scan. Rest f scan z) (b == 63) (scan_at o c after.Start) (begin (scan_at o c after.Repetition) b) h)

-- ---- counts

-- a digit comes next
by_digit : (o c f b : ℕ) (z : Text) (what : After) → Plain o c f (if is_ascii_digit b then what else after.Foreign) z → (is_ascii_digit b ≡ true) × Plain o c f what z
by_digit o c f b z what h = ⊎_elim (λ one. one) (λ none. never o c f z none.1) (by_next o c f z (is_ascii_digit b) what after.Foreign h)

by_small_digit : (o c f b n : ℕ) (z : Text) (what : After) → Plain o c f (if is_ascii_digit b && nat_lt n 100 then what else after.Foreign) z
    → (is_ascii_digit b ≡ true) × (n < 100) × Plain o c f what z
by_small_digit o c f b n z what h = ⊎_elim
    (λ one. let (digit, small) = and_parts (is_ascii_digit b) (nat_lt n 100) one.0 in (digit, ltb-true n 100 small, one.1))
    (λ none. never o c f z none.1)
    (by_next o c f z (is_ascii_digit b && nat_lt n 100) what after.Foreign h)

pub brace_goes_on : (o c f b : ℕ) (z : Text) → Plain o c f after.Brace (b ∷ z) → (is_ascii_digit b ≡ true) × Plain o c f (after.Least (digit_of b)) z
unfolding next
brace_goes_on o c f b z h = by_digit o c f b z (after.Least (digit_of b)) h

-- a count ends, whose greatest number is n
pub record CountEnds (o c f n : ℕ) (what : After) (z : Text) : Type 0 where
  pub left : ℕ
  pub is : f ≡ (1 + n) * left
  pub plain : Plain o c left what z

-- the brace comes next that ends a count, or another byte
by_brace : (o c f n b : ℕ) (z : Text) (end other : After) → (is_plain_from (scan_at o c (if b == 125 then end else other)) z ≡ true)
    × ((if b == 125 then (1 + n) * repeats_from (scan_at o c (if b == 125 then end else other)) z else repeats_from (scan_at o c (if b == 125 then end else other)) z) ≡ f)
    → ((b ≡ 125) × CountEnds o c f n end z) ⊎ (((b == 125) ≡ false) × Plain o c f other z)
by_brace o c f n b z end other h = ⊎_elim
    (λ brace. inl (eqb-true b 125 brace.0, record { left = repeats_from (scan_at o c end) z; is = sym brace.1.1; plain = (brace.1.0, refl) }))
    (λ none. inr none)
    (by_choice (b == 125) h)
  where
    by_choice : (test : Bool) → (is_plain_from (scan_at o c (if test then end else other)) z ≡ true)
        × ((if test then (1 + n) * repeats_from (scan_at o c (if test then end else other)) z else repeats_from (scan_at o c (if test then end else other)) z) ≡ f)
        → ((test ≡ true) × ((is_plain_from (scan_at o c end) z ≡ true) × ((1 + n) * repeats_from (scan_at o c end) z ≡ f))) ⊎ ((test ≡ false) × Plain o c f other z)
    by_choice true h = inl (refl, h)
    by_choice false h = inr (refl, h)

-- a number goes on with the end of the count, a comma or one more digit
pub least_goes_on : (o c f n b : ℕ) (z : Text) → Plain o c f (after.Least n) (b ∷ z)
    → ((b ≡ 125) × CountEnds o c f n after.Repetition z) ⊎ (((b ≡ 44) × Plain o c f (after.Comma n) z)
    ⊎ ((is_ascii_digit b ≡ true) × (n < 100) × Plain o c f (after.Least (10 * n + digit_of b)) z))
unfolding next
least_goes_on o c f n b z h = ⊎_elim
    (λ end. inl end)
    (λ no_end. inr (⊎_elim
    (λ comma. inl (eqb-true b 44 comma.0, comma.1))
    (λ no_comma. inr (by_small_digit o c f b n z (after.Least (10 * n + digit_of b)) no_comma.1))
    (by_next o c f z (b == 44) (after.Comma n) _ no_end.1)))
    (by_brace o c f n b z after.Repetition _ h)

pub comma_goes_on : (o c f least b : ℕ) (z : Text) → Plain o c f (after.Comma least) (b ∷ z)
    → ((b ≡ 125) × CountEnds o c f least after.Repetition z) ⊎ (((b == 125) ≡ false) × (is_ascii_digit b ≡ true) × Plain o c f (after.Most least (digit_of b)) z)
unfolding next
comma_goes_on o c f least b z h = ⊎_elim
    (λ end. inl end)
    (λ no_end. let one = by_digit o c f b z (after.Most least (digit_of b)) no_end.1 in inr (no_end.0, one.0, one.1))
    (by_brace o c f least b z after.Repetition _ h)

pub most_goes_on : (o c f least n b : ℕ) (z : Text) → Plain o c f (after.Most least n) (b ∷ z)
    → ((b ≡ 125) × (nat_le least n ≡ true) × CountEnds o c f n after.Repetition z) ⊎ ((is_ascii_digit b ≡ true) × (n < 100) × Plain o c f (after.Most least (10 * n + digit_of b)) z)
unfolding next
most_goes_on o c f least n b z h = ⊎_elim
    (λ (is, end). ⊎_elim
    (λ rising. inl (is, rising.0, record { left = end.left; is = end.is; plain = rising.1 }))
    (λ falling. never o c end.left z falling.1)
    (by_next o c end.left z (nat_le least n) after.Repetition after.Foreign end.plain))
    (λ no_end. inr (by_small_digit o c f b n z (after.Most least (10 * n + digit_of b)) no_end.1))
    (by_brace o c f n b z (if nat_le least n then after.Repetition else after.Foreign) _ h)

-- ---- groups

pub group_goes_on : (o c f b : ℕ) (z : Text) → Plain o c f after.Paren (b ∷ z)
    → ((b ≡ 63) × Plain o c f after.Question z) ⊎ (((b == 63) ≡ false) × Plain o c f after.Start (b ∷ z))
unfolding next
group_goes_on o c f b z h = ⊎_elim
    (λ flags. inl (eqb-true b 63 flags.0, flags.1))
    (λ none. inr none)
    (by_test (λ scan. Rest f scan z) (b == 63) (scan_at o c after.Question) (begin (scan_at o c after.Paren) b) h)

pub colon_next : (o c f b : ℕ) (z : Text) → Plain o c f after.Question (b ∷ z) → (b ≡ 58) × Plain o c f after.Start z
unfolding next
colon_next o c f b z h = ⊎_elim
    (λ colon. (eqb-true b 58 colon.0, colon.1))
    (λ none. never o c f z none.1)
    (by_next o c f z (b == 58) after.Start after.Foreign h)

-- a `)` comes next
pub close_next : (o c f : ℕ) (z : Text) → Plain o c f after.Start (41 ∷ z) → (c < o) × Plain o (c + 1) f after.Item z
unfolding next
close_next o c f z h = ⊎_elim
    (λ some. (ltb-true c o some.0, some.1))
    (λ none. never o c f z none.1)
    (by_test (λ scan. Rest f scan z) (nat_lt c o) (scan_at o (c + 1) after.Item) (scan_at o c after.Foreign) h)

-- ---- plain patterns are ASCII

pub escaped_ascii : (b : ℕ) → is_escaped b ≡ true → b < 128
escaped_ascii b h = grind (arith, nat_tests)

digit_ascii : (b : ℕ) → is_ascii_digit b ≡ true → b < 128
digit_ascii b h = grind (arith, nat_tests)

repetition_ascii : (b : ℕ) → is_repetition b ≡ true → b < 128
repetition_ascii b h = grind (arith, nat_tests)

begun_ascii : (o c f b : ℕ) (z : Text) → Begins o c f b z → b < 128
begun_ascii o c f b z (group is _ _) = omega (arith, is)
begun_ascii o c f b z (close is _ _) = omega (arith, is)
begun_ascii o c f b z (branch is _) = omega (arith, is)
begun_ascii o c f b z (class is _) = omega (arith, is)
begun_ascii o c f b z (escape is _) = omega (arith, is)
begun_ascii o c f b z (byte one _) = one.ascii

equal_ascii : (b d : ℕ) → d < 128 → (b == d) ≡ true → b < 128
equal_ascii b d small same = omega (arith, small, eqb-true b d same)

member_ascii : (o c f b : ℕ) (z : Text) → Plain o c f (member b) z → b < 128
member_ascii o c f b z h = ⊎_elim (λ one. one.0.ascii) (λ slash. omega (arith, slash.0)) (member_next o c f b z h)

in_class_ascii : (o c f b : ℕ) (z : Text) → Plain o c f (in_class b) z → b < 128
in_class_ascii o c f b z h = ⊎_elim
    (λ shut. equal_ascii b 93 (omega arith) shut.0)
    (λ opens. member_ascii o c f b z opens.1)
    (by_next o c f z (b == 93) after.Item (member b) h)

first_in_class_ascii : (o c f b : ℕ) (z : Text) → Plain o c f (first_in_class b) z → b < 128
first_in_class_ascii o c f b z h = ⊎_elim
    (λ hyphen. equal_ascii b 45 (omega arith) hyphen.0)
    (λ other. member_ascii o c f b z other.1)
    (by_next o c f z (b == 45) after.FirstHyphen (member b) h)

-- a byte, or what is ASCII otherwise
byte_or : (o c f b d : ℕ) (z : Text) (x y : After) → d < 128 → (Plain o c f y z → b < 128) → Plain o c f (if b == d then x else y) z → b < 128
byte_or o c f b d z x y small otherwise h = ⊎_elim
    (λ same. equal_ascii b d small same.0)
    (λ other. otherwise other.1)
    (by_next o c f z (b == d) x y h)

after_hyphen_ascii : (o c f low b : ℕ) (z : Text) → Plain o c f (after_hyphen low b) z → b < 128
after_hyphen_ascii o c f low b z h = byte_or o c f b 93 z after.Item _ (omega arith)
    (λ opens. ⊎_elim
    (λ rising. (member_tests b (and_parts (is_member b) (nat_le low b) rising.0).0).ascii)
    (λ none. never o c f z none.1)
    (by_next o c f z (is_member b && nat_le low b) after.Range after.Foreign opens)) h

start_ascii : (o c f b : ℕ) (z : Text) → Plain o c f after.Start (b ∷ z) → b < 128
start_ascii o c f b z h = begun_ascii o c f b z (start_begins o c f b z h)

next_ascii : (what : After) (o c f b : ℕ) (z : Text) → Plain o c f what (b ∷ z) → b < 128
unfolding next
next_ascii after.Start o c f b z h = start_ascii o c f b z h
next_ascii after.Item o c f b z h = ⊎_elim (λ one. repetition_ascii b one.0)
    (λ other. ⊎_elim (λ count. omega (arith, count.0)) (λ none. start_ascii o c f b z none) other) (item_goes_on o c f b z h)
next_ascii after.Repetition o c f b z h = ⊎_elim (λ lazy. omega (arith, lazy.0)) (λ greedy. start_ascii o c f b z greedy) (repetition_goes_on o c f b z h)
next_ascii after.Paren o c f b z h = ⊎_elim (λ flags. omega (arith, flags.0)) (λ none. start_ascii o c f b z none.1) (group_goes_on o c f b z h)
next_ascii after.Question o c f b z h = omega (arith, (colon_next o c f b z h).0)
next_ascii after.Backslash o c f b z h = escaped_ascii b (escaped_next o c f b z h).0
next_ascii after.Bracket o c f b z h = byte_or o c f b 94 z after.Caret (first_in_class b) (omega arith) (first_in_class_ascii o c f b z) h
next_ascii after.Caret o c f b z h = first_in_class_ascii o c f b z h
next_ascii after.FirstHyphen o c f b z h = in_class_ascii o c f b z h
next_ascii (after.Member low) o c f b z h = byte_or o c f b 45 z (after.Hyphen low) (in_class b) (omega arith) (in_class_ascii o c f b z) h
next_ascii (after.Hyphen low) o c f b z h = after_hyphen_ascii o c f low b z h
next_ascii after.Range o c f b z h = byte_or o c f b 45 z after.LastHyphen (in_class b) (omega arith) (in_class_ascii o c f b z) h
next_ascii after.LastHyphen o c f b z h = byte_or o c f b 93 z after.Item after.Foreign (omega arith) (never o c f z) h
next_ascii after.ClassBackslash o c f b z h = escaped_ascii b (class_escape_next o c f b z h).0
next_ascii after.Brace o c f b z h = digit_ascii b (brace_goes_on o c f b z h).0
next_ascii (after.Least n) o c f b z h = ⊎_elim (λ end. omega (arith, end.0)) (λ other. ⊎_elim (λ comma. omega (arith, comma.0)) (λ digit. digit_ascii b digit.0) other) (least_goes_on o c f n b z h)
next_ascii (after.Comma least) o c f b z h = ⊎_elim (λ end. omega (arith, end.0)) (λ digit. digit_ascii b digit.1) (comma_goes_on o c f least b z h)
next_ascii (after.Most least n) o c f b z h = ⊎_elim (λ end. omega (arith, end.0)) (λ digit. digit_ascii b digit.0) (most_goes_on o c f least n b z h)
next_ascii after.Foreign o c f b z h = never o c f z h

pub plain_ascii : (scan : Scan) (v : Text) → is_plain_from scan v ≡ true → IsAscii v
plain_ascii scan [] h = IsAscii-nil
plain_ascii scan (b ∷ z) h = IsAscii-cons b z (next_ascii scan.after scan.opened scan.closed (repeats_from scan (b ∷ z)) b z (h, refl)) (plain_ascii (next scan b) z h)
