-- A word by the end of its run of letters, digits and `_`: a colon follows, or the word ends there and has none.
use Rattle.std.proofs.Common.{◌≡◌, ℕ, suc, ◌+◌, Bool, true, false, not, cond, [], ◌∷◌, get_or, take, drop, Ok, refl, sym, ap, ◌∙◌, arith, zero-add}
use Rattle.std.specs.Prelude.{◌==◌, ◌||◌, ◌&&◌}
use Rattle.std.specs.List.{list_any, prefix_len}
use Rattle.std.specs.Option.{unwrap_or}
use Rattle.std.proofs.lemmas.Grind.{common_steps}
use Rattle.promql_token.specs.declared.class.Class.{Class}
use Rattle.promql_token.specs.declared.class.Class.TheVariants as class
use Rattle.promql_token.specs.declared.ids.TheConstants.{T_IDENTIFIER, T_METRIC_IDENTIFIER}
use Rattle.promql_text.specs.Texts.{Text, code}
use Rattle.promql_token.specs.Classes.{is_in, end_of_run}
use Rattle.promql_token.specs.WordRanks.{is_name_byte, is_word_byte}
use Rattle.promql_token.specs.TokenScanning.{is_fill, opens, word, word_id}
use Rattle.promql_token.proofs.words.Keywords.{no_keyword_with_colon}
use Rattle.promql_token.proofs.cursors.TestsAndCounts.{by_bool}

-- ---- runs

one_more : (p : ℕ → Bool) (b : ℕ) (z : Text) → p b ≡ true → prefix_len p (b ∷ z) ≡ suc (prefix_len p z)
one_more p b z is = ap (λ c. cond c (1 + prefix_len p z) 0) is ∙ omega arith

stops : (p : ℕ → Bool) (b : ℕ) (z : Text) → p b ≡ false → prefix_len p (b ∷ z) ≡ 0
stops p b z is = ap (λ c. cond c (1 + prefix_len p z) 0) is

name_in_word : (b : ℕ) → is_name_byte b ≡ true → is_word_byte b ≡ true
name_in_word b is = ap (λ c. c || (b == 58)) is

name_no_colon : (b : ℕ) → is_name_byte b ≡ true → (b == 58) ≡ false
name_no_colon b is = grind (arith, common_steps)

or_true : (a : Bool) → (a || true) ≡ true
or_true true = refl
or_true false = refl

-- a word's run goes on where a name's ends
run_goes_on : (z : Text) → prefix_len is_word_byte z ≡ prefix_len is_name_byte z + prefix_len is_word_byte (drop (prefix_len is_name_byte z) z)
run_goes_on [] = refl
run_goes_on (b ∷ z) =
    by_bool (is_name_byte b)
    (λ is.
    let n = prefix_len is_name_byte z in
    let same : suc (n + prefix_len is_word_byte (drop n z)) ≡ suc n + prefix_len is_word_byte (drop n z) = omega arith in
    one_more is_word_byte b z (name_in_word b is) ∙ ap suc (run_goes_on z) ∙ same
    ∙ ap (λ n. n + prefix_len is_word_byte (drop n (b ∷ z))) (sym (one_more is_name_byte b z is)))
    (λ no.
    sym (zero-add (prefix_len is_word_byte (b ∷ z))) ∙ ap (λ n. n + prefix_len is_word_byte (drop n (b ∷ z))) (sym (stops is_name_byte b z no)))

-- it has the colon that follows the name
colon_in_run : (z : Text) → get_or z (prefix_len is_name_byte z) 0 ≡ 58 → list_any (λ b. b == code ":") (take (prefix_len is_word_byte z) z) ≡ true
colon_in_run [] h = absurd (cc)
colon_in_run (b ∷ z) h =
    by_bool (is_name_byte b)
    (λ is.
    let more = colon_in_run z (ap (λ n. get_or (b ∷ z) n 0) (sym (one_more is_name_byte b z is)) ∙ h) in
    ap (λ n. list_any (λ b. b == code ":") (take n (b ∷ z))) (one_more is_word_byte b z (name_in_word b is)) ∙ ap (λ x. (b == 58) || x) more ∙ or_true (b == 58))
    (λ no.
    let first : b ≡ 58 = ap (λ n. get_or (b ∷ z) n 0) (sym (stops is_name_byte b z no)) ∙ h in
    let is : (b == 58) ≡ true = grind (arith, common_steps) in
    let in_word : is_word_byte b ≡ true = ap (λ c. is_name_byte b || c) is ∙ or_true (is_name_byte b) in
    ap (λ n. list_any (λ b. b == code ":") (take n (b ∷ z))) (one_more is_word_byte b z in_word) ∙ ap (λ x. x || list_any (λ b. b == code ":") (take (prefix_len is_word_byte z) z)) is)

-- and with no colon there it ends
run_ends_with_name : (z : Text) → (get_or z (prefix_len is_name_byte z) 0 == 58) ≡ false → prefix_len is_word_byte z ≡ prefix_len is_name_byte z
run_ends_with_name [] h = refl
run_ends_with_name (b ∷ z) h =
    by_bool (is_name_byte b)
    (λ is.
    let more = run_ends_with_name z (ap (λ n. get_or (b ∷ z) n 0 == 58) (sym (one_more is_name_byte b z is)) ∙ h) in
    one_more is_word_byte b z (name_in_word b is) ∙ ap suc more ∙ sym (one_more is_name_byte b z is))
    (λ no.
    let other : (b == 58) ≡ false = ap (λ n. get_or (b ∷ z) n 0 == 58) (sym (stops is_name_byte b z no)) ∙ h in
    stops is_word_byte b z (λ i. no i || other i) ∙ sym (stops is_name_byte b z no))

no_colon_in_name : (z : Text) → list_any (λ b. b == code ":") (take (prefix_len is_name_byte z) z) ≡ false
no_colon_in_name [] = refl
no_colon_in_name (b ∷ z) =
    by_bool (is_name_byte b)
    (λ is. ap (λ n. list_any (λ b. b == code ":") (take n (b ∷ z))) (one_more is_name_byte b z is) ∙ (λ i. name_no_colon b is i || no_colon_in_name z i))
    (λ no. ap (λ n. list_any (λ b. b == code ":") (take n (b ∷ z))) (stops is_name_byte b z no))

-- ---- words

from_front : (c : Class) (z : Text) → end_of_run c z 0 ≡ prefix_len (is_in c) z
from_front c z = zero-add (prefix_len (is_in c) z)

metric_id : (w r : Text) → list_any (λ b. b == code ":") w ≡ true → word_id w r ≡ T_METRIC_IDENTIFIER
metric_id w r some =
    λ i. let id = unwrap_or (no_keyword_with_colon w some i) (cond (some i) T_METRIC_IDENTIFIER T_IDENTIFIER) in cond (is_fill id && not (opens r)) T_IDENTIFIER id

-- a word with a colon
pub word_with_colon : (z : Text) (n : ℕ) → n ≡ end_of_run class.Name z 0 → get_or z n 0 ≡ 58 → word z ≡ Ok (T_METRIC_IDENTIFIER, end_of_run class.Word z n)
unfolding word
word_with_colon z n is h =
    let name : n ≡ prefix_len is_name_byte z = is ∙ from_front class.Name z in
    let some = colon_in_run z (ap (λ n. get_or z n 0) (sym name) ∙ h) in
    let len : end_of_run class.Word z 0 ≡ end_of_run class.Word z n = from_front class.Word z ∙ run_goes_on z ∙ ap (end_of_run class.Word z) (sym name) in
    let has : list_any (λ b. b == code ":") (take (end_of_run class.Word z 0) z) ≡ true = ap (λ n. list_any (λ b. b == code ":") (take n z)) (from_front class.Word z) ∙ some in
    λ i. Ok (metric_id (take (end_of_run class.Word z 0) z) (drop (end_of_run class.Word z 0) z) has i, len i)

-- a word without one
pub no_colon : (z : Text) (n : ℕ) → n ≡ end_of_run class.Name z 0 → list_any (λ b. b == code ":") (take n z) ≡ false
no_colon z n is = ap (λ n. list_any (λ b. b == code ":") (take n z)) (is ∙ from_front class.Name z) ∙ no_colon_in_name z

pub word_without_colon : (z : Text) (n : ℕ) → n ≡ end_of_run class.Name z 0 → (get_or z n 0 == 58) ≡ false → word z ≡ Ok (word_id (take n z) (drop n z), n)
unfolding word
word_without_colon z n is h =
    let name : n ≡ prefix_len is_name_byte z = is ∙ from_front class.Name z in
    let same = run_ends_with_name z (ap (λ n. get_or z n 0 == 58) (sym name) ∙ h) in
    let len : end_of_run class.Word z 0 ≡ n = from_front class.Word z ∙ same ∙ sym name in
    ap (λ n. Ok (word_id (take n z) (drop n z), n)) len
