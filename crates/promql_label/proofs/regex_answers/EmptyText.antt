-- What matches the empty text.
use Rattle.std.proofs.Common.{◌≡◌, ◌≢◌, ◌⊎◌, inl, inr, ℕ, zero, suc, ◌+◌, ◌-◌, Bool, true, false, ◌&&◌, ◌||◌, cond, List, [], ◌∷◌, Option, Some, None, is_some, option_map, if◌then◌else◌, length, nat_lt, ◌*◌, ◌==◌, refl, sym, ap, ap₂, ◌∙◌, arith, ne_eqb}
use Rattle.std.specs.Option.{option_or}
use Rattle.regex_hir.specs.Find.{Match, first_from, find_str}
use Rattle.regex_hir.specs.Looks.{Side, holds, holds_between}
use Rattle.regex_hir.specs.declared.look.Look.{Look}
use Rattle.regex_hir.specs.declared.look.Look.TheVariants as looks
use Rattle.regex_hir.specs.Meaning.{alt_all, copies, optional, repeat, up_to}
use Rattle.regex_hir.specs.Re.{Re, Rest, Trace, accept, attempt, empty, literal, byte_in, char_in, look, cat, alt, group, more_rounds, plus, write}
use Rattle.regex_hir.proofs.TextLemmas.{char_at_past}
use Rattle.regex_hir.specs.Text.{byte_before, char_at, char_before, has_bytes_at, is_boundary}

abbrev pub takes_nothing : Re → Bool
takes_nothing re = is_some (attempt [] re accept 0)

-- ---- booleans

and_true : (a : Bool) → (a && true) ≡ a
and_true true = refl
and_true false = refl

and_assoc : (a b c : Bool) → (a && (b && c)) ≡ ((a && b) && c)
and_assoc true b c = refl
and_assoc false b c = refl

or_and : (a b c : Bool) → ((a && c) || (b && c)) ≡ ((a || b) && c)
or_and true b true = refl
or_and true true false = refl
or_and true false false = refl
or_and false b c = refl

is_some_or : {A : Type 0} (o p : Option A) → is_some (option_or o p) ≡ (is_some o || is_some p)
is_some_or None p = refl
is_some_or (Some x) p = refl

is_some_write : (slot i : ℕ) (o : Option Trace) → is_some (write slot i o) ≡ is_some o
is_some_write slot i None = refl
is_some_write slot i (Some t) = refl

or_true : (a : Bool) → (a || true) ≡ true
or_true true = refl
or_true false = refl

and_self : (a : Bool) → (a && a) ≡ a
and_self true = refl
and_self false = refl

is_some_cond : (b : Bool) (o : Option Trace) → is_some (cond b o None) ≡ (b && is_some o)
is_some_cond true o = refl
is_some_cond false o = refl

-- ---- patterns

no_character : char_at [] 0 ≡ None
no_character = char_at_past [] 0 (omega arith)

in_group : (n : ℕ) (a : Re) → ((k : Rest) → is_some (attempt [] a k 0) ≡ (takes_nothing a && is_some (k 0))) → (k : Rest) → is_some (attempt [] (group n a) k 0) ≡ (takes_nothing a && is_some (k 0))
unfolding attempt
in_group n a inner k =
    is_some_write (2 * n) 0 (attempt [] a (λ j. write (2 * n + 1) j (k j)) 0)
    ∙ inner (λ j. write (2 * n + 1) j (k j))
    ∙ ap (λ r. takes_nothing a && r) (is_some_write (2 * n + 1) 0 (k 0))

in_loop : (greedy : Bool) (a : Re) → ((k : Rest) → is_some (attempt [] a k 0) ≡ (takes_nothing a && is_some (k 0))) → (k : Rest) → is_some (attempt [] (plus greedy a) k 0) ≡ (takes_nothing a && is_some (k 0))
unfolding attempt
in_loop greedy a inner k = inner (λ j. if nat_lt 0 j then more_rounds [] greedy (attempt [] a) k j else k j)

-- in the empty text a pattern goes on exactly where it takes nothing and the rest goes on
pub goes_on : (re : Re) (k : Rest) → is_some (attempt [] re k 0) ≡ (takes_nothing re && is_some (k 0))
unfolding attempt has_bytes_at
goes_on empty k = refl
goes_on (literal []) k = refl
goes_on (literal (b ∷ bs)) k = refl
goes_on (byte_in rs) k = refl
goes_on (char_in rs) k = rw no_character refl
goes_on (look l) k = is_some_cond (holds l [] 0) (k 0) ∙ ap (λ b. b && is_some (k 0)) (sym (and_true (holds l [] 0)) ∙ sym (is_some_cond (holds l [] 0) (accept 0)))
goes_on (cat a b) k =
    goes_on a (attempt [] b k) ∙ ap (λ r. takes_nothing a && r) (goes_on b k) ∙ and_assoc (takes_nothing a) (takes_nothing b) (is_some (k 0))
    ∙ ap (λ r. r && is_some (k 0)) (sym (goes_on a (attempt [] b accept)))
goes_on (alt a b) k =
    is_some_or (attempt [] a k 0) (attempt [] b k 0) ∙ ap₂ (λ p q. p || q) (goes_on a k) (goes_on b k)
    ∙ or_and (takes_nothing a) (takes_nothing b) (is_some (k 0))
    ∙ ap (λ r. r && is_some (k 0)) (sym (is_some_or (attempt [] a accept 0) (attempt [] b accept 0)))
goes_on (group n a) k = in_group n a (goes_on a) k ∙ ap (λ r. r && is_some (k 0)) (sym (in_group n a (goes_on a) accept ∙ and_true (takes_nothing a)))
goes_on (plus greedy a) k = in_loop greedy a (goes_on a) k ∙ ap (λ r. r && is_some (k 0)) (sym (in_loop greedy a (goes_on a) accept ∙ and_true (takes_nothing a)))

-- ---- parts

pub empty_takes : takes_nothing empty ≡ true
unfolding attempt
empty_takes = refl

pub literal_takes : (bs : List ℕ) → takes_nothing (literal bs) ≡ (length bs == 0)
unfolding attempt has_bytes_at
literal_takes [] = refl
literal_takes (b ∷ bs) = sym (ne_eqb (length (b ∷ bs)) 0 (λ e. omega (arith, e)))

pub byte_takes : (rs : List (ℕ × ℕ)) → takes_nothing (byte_in rs) ≡ false
unfolding attempt
byte_takes rs = refl

pub char_takes : (rs : List (ℕ × ℕ)) → takes_nothing (char_in rs) ≡ false
unfolding attempt
char_takes rs = rw no_character refl

pub look_takes : (l : Look) → takes_nothing (look l) ≡ holds l [] 0
unfolding attempt
look_takes l = is_some_cond (holds l [] 0) (accept 0) ∙ and_true (holds l [] 0)

pub cat_takes : (a b : Re) → takes_nothing (cat a b) ≡ (takes_nothing a && takes_nothing b)
unfolding attempt
cat_takes a b = goes_on a (attempt [] b accept)

pub alt_takes : (a b : Re) → takes_nothing (alt a b) ≡ (takes_nothing a || takes_nothing b)
unfolding attempt
alt_takes a b = is_some_or (attempt [] a accept 0) (attempt [] b accept 0)

pub group_takes : (n : ℕ) (a : Re) → takes_nothing (group n a) ≡ takes_nothing a
group_takes n a = in_group n a (goes_on a) accept ∙ and_true (takes_nothing a)

pub loop_takes : (greedy : Bool) (a : Re) → takes_nothing (plus greedy a) ≡ takes_nothing a
loop_takes greedy a = in_loop greedy a (goes_on a) accept ∙ and_true (takes_nothing a)

-- ---- the first part, and the rest

pub first_fails : (a b : Re) → takes_nothing a ≡ false → takes_nothing (cat a b) ≡ false
first_fails a b h = cat_takes a b ∙ ap (λ r. r && takes_nothing b) h

pub first_goes_on : (a b : Re) → takes_nothing a ≡ true → takes_nothing (cat a b) ≡ takes_nothing b
first_goes_on a b h = cat_takes a b ∙ ap (λ r. r && takes_nothing b) h

pub first_works : (a b : Re) → takes_nothing a ≡ true → takes_nothing (alt a b) ≡ true
first_works a b h = alt_takes a b ∙ ap (λ r. r || takes_nothing b) h

pub first_is_left : (a b : Re) → takes_nothing a ≡ false → takes_nothing (alt a b) ≡ takes_nothing b
first_is_left a b h = alt_takes a b ∙ ap (λ r. r || takes_nothing b) h

pub no_branch_takes : takes_nothing (alt_all []) ≡ false
unfolding attempt
no_branch_takes = refl

-- ---- repetitions

optional_takes : (greedy : Bool) (a : Re) → takes_nothing (optional greedy a) ≡ true
unfolding attempt
optional_takes true a = alt_takes a empty ∙ or_true (takes_nothing a)
optional_takes false a = refl

up_to_takes : (greedy : Bool) (n : ℕ) (a : Re) → takes_nothing (up_to greedy n a) ≡ true
unfolding attempt
up_to_takes greedy zero a = refl
up_to_takes greedy (suc n) a = optional_takes greedy (cat a (up_to greedy n a))

copies_take : (n : ℕ) (a b : Re) → (takes_nothing a && takes_nothing b) ≡ takes_nothing a → takes_nothing (copies (suc n) a b) ≡ takes_nothing a
copies_take zero a b h = cat_takes a b ∙ h
copies_take (suc n) a b h = cat_takes a (copies (suc n) a b) ∙ ap (λ r. takes_nothing a && r) (copies_take n a b h) ∙ and_self (takes_nothing a)

no_copies_take : (most : Option ℕ) (greedy : Bool) (a : Re) → takes_nothing (repeat 0 most greedy a) ≡ true
unfolding repeat
no_copies_take None greedy a = optional_takes greedy (plus greedy a)
no_copies_take (Some most) greedy a = up_to_takes greedy (most - 0) a

some_copies_take : (n : ℕ) (most : Option ℕ) (greedy : Bool) (a : Re) → takes_nothing (repeat (suc n) most greedy a) ≡ takes_nothing a
unfolding repeat
some_copies_take zero None greedy a = loop_takes greedy a
some_copies_take (suc n) None greedy a =
    copies_take n a (plus greedy a) (ap (λ r. takes_nothing a && r) (loop_takes greedy a) ∙ and_self (takes_nothing a))
some_copies_take n (Some most) greedy a =
    copies_take n a (up_to greedy (most - suc n) a) (ap (λ r. takes_nothing a && r) (up_to_takes greedy (most - suc n) a) ∙ and_true (takes_nothing a))

pub repeat_takes : (least : ℕ) (most : Option ℕ) (greedy : Bool) (a : Re) → least ≢ 0 → takes_nothing (repeat least most greedy a) ≡ takes_nothing a
repeat_takes zero most greedy a some = absurd (some refl)
repeat_takes (suc n) most greedy a some = some_copies_take n most greedy a

pub no_repeat_takes : (least : ℕ) (most : Option ℕ) (greedy : Bool) (a : Re) → least ≡ 0 → takes_nothing (repeat least most greedy a) ≡ (least == 0)
no_repeat_takes least most greedy a none = ap (λ n. takes_nothing (repeat n most greedy a)) none ∙ no_copies_take most greedy a ∙ sym (ap (λ n. n == 0) none)

-- ---- searches

abbrev begins : Trace → Match
begins t = record { start = 0; trace = t }

-- the one place of the empty text is where a match is looked for
pub found_in_nothing : (re : Re) → is_some (find_str re [] 0) ≡ takes_nothing re
unfolding find_str first_from is_boundary
found_in_nothing re = only (attempt [] re accept 0)
  where
    only : (o : Option Trace) → is_some (option_or (option_map begins o) None) ≡ is_some o
    only None = refl
    only (Some t) = refl

-- ---- assertions

-- both sides of the one place of the empty text
abbrev nowhere : Side
nowhere = record { byte = None; char = None }

pub holds_nowhere : (l : Look) → holds l [] 0 ≡ holds_between l nowhere nowhere
unfolding holds byte_before char_before
holds_nowhere l = ap (λ c. holds_between l nowhere (record { byte = None; char = c })) no_character

-- those that ask for a word beside them do not
pub no_word_beside : (l : Look) → (l ≡ looks.WordAscii) ⊎ ((l ≡ looks.WordUnicode) ⊎ ((l ≡ looks.WordStartAscii) ⊎ ((l ≡ looks.WordEndAscii) ⊎ ((l ≡ looks.WordStartUnicode) ⊎ (l ≡ looks.WordEndUnicode)))))
    → false ≡ holds_between l nowhere nowhere
unfolding holds_between
no_word_beside l (inl e) = ap (λ l. holds_between l nowhere nowhere) (sym e)
no_word_beside l (inr (inl e)) = ap (λ l. holds_between l nowhere nowhere) (sym e)
no_word_beside l (inr (inr (inl e))) = ap (λ l. holds_between l nowhere nowhere) (sym e)
no_word_beside l (inr (inr (inr (inl e)))) = ap (λ l. holds_between l nowhere nowhere) (sym e)
no_word_beside l (inr (inr (inr (inr (inl e))))) = ap (λ l. holds_between l nowhere nowhere) (sym e)
no_word_beside l (inr (inr (inr (inr (inr e))))) = ap (λ l. holds_between l nowhere nowhere) (sym e)

-- all others do
pub holds_otherwise : (l : Look) → l ≢ looks.WordAscii → l ≢ looks.WordUnicode → l ≢ looks.WordStartAscii → l ≢ looks.WordEndAscii → l ≢ looks.WordStartUnicode → l ≢ looks.WordEndUnicode
    → true ≡ holds_between l nowhere nowhere
unfolding holds_between
holds_otherwise looks.WordAscii a b c d e f = absurd (a refl)
holds_otherwise looks.WordUnicode a b c d e f = absurd (b refl)
holds_otherwise looks.WordStartAscii a b c d e f = absurd (c refl)
holds_otherwise looks.WordEndAscii a b c d e f = absurd (d refl)
holds_otherwise looks.WordStartUnicode a b c d e f = absurd (e refl)
holds_otherwise looks.WordEndUnicode a b c d e f = absurd (f refl)
holds_otherwise _ a b c d e f = refl
