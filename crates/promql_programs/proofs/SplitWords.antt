-- The words of a command line, one at a time.
use Rattle.std.proofs.Common.{◌≡◌, ◌-◌, ◌≤◌, ◌++◌, Bool, true, false, cond, [], ◌∷◌, List, length, drop, take, map, get_or, Global, String, string_bytes, sym, ap, ap₂, ◌∙◌, arith, append_assoc, append-nil}
use Rattle.std.proofs.lemmas.List.{take_rest}
use Rattle.promql_text.specs.Texts.{Text}
use Rattle.promql_programs.specs.Words.{ends_options, is_option, one, option_words, split, wants_value, with_operands, with_options}

-- words that were taken, and those that are left
abbrev pub joined : List Text → List Text → List Text × List Text → List Text × List Text
joined options operands parts = (options ++ parts.0, operands ++ parts.1)

abbrev pub rest_of : List (String Global) → List (String Global)
rest_of words = take (length words - 1) (drop 1 words)

pub more_options : (os ps words : List Text) (parts : List Text × List Text) → joined (os ++ words) ps parts ≡ joined os ps (with_options words parts)
more_options os ps words parts = ap (λ l. (l, ps ++ parts.1)) (append_assoc os words parts.0)

pub more_operands : (os ps words : List Text) (parts : List Text × List Text) → joined os (ps ++ words) parts ≡ joined os ps (with_operands words parts)
more_operands os ps words parts = ap (λ l. (os ++ parts.0, l)) (append_assoc ps words parts.1)

pub after_value : (os ps : List Text) (words : List (String Global)) (word : String Global) → 1 ≤ length words → word ≡ get_or words 0 word
    → joined (os ++ one (string_bytes word)) ps (split false (map string_bytes (rest_of words))) ≡ joined os ps (split true (map string_bytes words))
after_value os ps [] word long first = absurd (omega (arith, long))
after_value os ps (w ∷ words) word long first =
    ap₂ (λ v ws. joined (os ++ one (string_bytes v)) ps (split false (map string_bytes ws))) first (take_rest (w ∷ words) 1)
    ∙ more_options os ps (one (string_bytes w)) (split false (map string_bytes words))

-- what an option, or an operand, makes of what is left
split_option : (w : Text) (words : List Text) → ends_options w ≡ false → is_option w ≡ true → with_options (option_words w) (split (wants_value w) words) ≡ split false (w ∷ words)
split_option w words ends is =
    sym (ap (λ b. cond b ([], words) (cond (is_option w) (with_options (option_words w) (split (wants_value w) words)) (with_operands (one w) (split false words)))) ends
    ∙ ap (λ b. cond b (with_options (option_words w) (split (wants_value w) words)) (with_operands (one w) (split false words))) is)

split_operand : (w : Text) (words : List Text) → ends_options w ≡ false → is_option w ≡ false → with_operands (one w) (split false words) ≡ split false (w ∷ words)
split_operand w words ends is =
    sym (ap (λ b. cond b ([], words) (cond (is_option w) (with_options (option_words w) (split (wants_value w) words)) (with_operands (one w) (split false words)))) ends
    ∙ ap (λ b. cond b (with_options (option_words w) (split (wants_value w) words)) (with_operands (one w) (split false words))) is)

split_dashes : (w : Text) (words : List Text) → ends_options w ≡ true → ([], words) ≡ split false (w ∷ words)
split_dashes w words ends =
    sym (ap (λ b. cond b ([], words) (cond (is_option w) (with_options (option_words w) (split (wants_value w) words)) (with_operands (one w) (split false words)))) ends)

pub after_option : (os ps : List Text) (words : List (String Global)) (word : String Global) → 1 ≤ length words → word ≡ get_or words 0 word
    → ends_options (string_bytes word) ≡ false → is_option (string_bytes word) ≡ true
    → joined (os ++ option_words (string_bytes word)) ps (split (wants_value (string_bytes word)) (map string_bytes (rest_of words))) ≡ joined os ps (split false (map string_bytes words))
after_option os ps [] word long first ends is = absurd (omega (arith, long))
after_option os ps (w ∷ words) word long first ends is =
    ap₂ (λ v ws. joined (os ++ option_words (string_bytes v)) ps (split (wants_value (string_bytes v)) (map string_bytes ws))) first (take_rest (w ∷ words) 1)
    ∙ more_options os ps (option_words (string_bytes w)) (split (wants_value (string_bytes w)) (map string_bytes words))
    ∙ ap (joined os ps) (split_option (string_bytes w) (map string_bytes words) (ap (λ v. ends_options (string_bytes v)) (sym first) ∙ ends) (ap (λ v. is_option (string_bytes v)) (sym first) ∙ is))

pub after_operand : (os ps : List Text) (words : List (String Global)) (word : String Global) → 1 ≤ length words → word ≡ get_or words 0 word
    → ends_options (string_bytes word) ≡ false → is_option (string_bytes word) ≡ false
    → joined os (ps ++ one (string_bytes word)) (split false (map string_bytes (rest_of words))) ≡ joined os ps (split false (map string_bytes words))
after_operand os ps [] word long first ends is = absurd (omega (arith, long))
after_operand os ps (w ∷ words) word long first ends is =
    ap₂ (λ v ws. joined os (ps ++ one (string_bytes v)) (split false (map string_bytes ws))) first (take_rest (w ∷ words) 1)
    ∙ more_operands os ps (one (string_bytes w)) (split false (map string_bytes words))
    ∙ ap (joined os ps) (split_operand (string_bytes w) (map string_bytes words) (ap (λ v. ends_options (string_bytes v)) (sym first) ∙ ends) (ap (λ v. is_option (string_bytes v)) (sym first) ∙ is))

-- what comes after `--` is all operands
pub after_dashes : (os ps : List Text) (words : List (String Global)) (word : String Global) → 1 ≤ length words → word ≡ get_or words 0 word
    → ends_options (string_bytes word) ≡ true
    → (os, ps ++ map string_bytes (rest_of words)) ≡ joined os ps (split false (map string_bytes words))
after_dashes os ps [] word long first ends = absurd (omega (arith, long))
after_dashes os ps (w ∷ words) word long first ends =
    ap₂ (λ l ws. (l, ps ++ map string_bytes ws)) (sym (append-nil os)) (take_rest (w ∷ words) 1)
    ∙ ap (joined os ps) (split_dashes (string_bytes w) (map string_bytes words) (ap (λ v. ends_options (string_bytes v)) (sym first) ∙ ends))

-- nothing is left
pub all_taken : (os ps : List Text) (is_value : Bool) (words : List (String Global)) → length words ≡ 0 → (os, ps) ≡ joined os ps (split is_value (map string_bytes words))
all_taken os ps is_value [] none = ap₂ (λ l m. (l, m)) (sym (append-nil os)) (sym (append-nil ps))
all_taken os ps is_value (w ∷ words) none = absurd (omega (arith, none))
