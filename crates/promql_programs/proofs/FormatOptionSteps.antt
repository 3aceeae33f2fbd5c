-- The options of the program, one at a time.
use Rattle.std.proofs.Common.{◌≡◌, ◌-◌, ◌≤◌, true, false, cond, [], ◌∷◌, List, length, drop, take, map, get_or, Some, None, Global, String, string_bytes, sym, ap, ap₂, ◌∙◌, arith}
use Rattle.std.specs.Prelude.{option_and_then}
use Rattle.std.proofs.lemmas.List.{take_rest}
use Rattle.promql_programs.specs.FormatSettings.{is_flag, settings_with, with_flag, with_option}
use Rattle.promql_programs.specs.declared.format_settings.FormatSettings.{FormatSettings}

-- an option without a number, and then the words after it
flag_first : (s : FormatSettings) (w : String Global) (words : List (String Global)) → is_flag (string_bytes w) ≡ true
    → settings_with (with_flag s (string_bytes w)) (map string_bytes words) ≡ settings_with s (map string_bytes (w ∷ words))
flag_first s w [] is = sym (ap (λ b. cond b (Some (with_flag s (string_bytes w))) None) is)
flag_first s w (v ∷ words) is =
    sym (ap (λ b. cond b (settings_with (with_flag s (string_bytes w)) (map string_bytes (v ∷ words)))
    (option_and_then (λ changed. settings_with changed (map string_bytes words)) (with_option s (string_bytes w) (string_bytes v)))) is)

pub one_flag : (s : FormatSettings) (words : List (String Global)) (word : String Global) → 1 ≤ length words → word ≡ get_or words 0 word → is_flag (string_bytes word) ≡ true
    → settings_with (with_flag s (string_bytes word)) (map string_bytes (take (length words - 1) (drop 1 words))) ≡ settings_with s (map string_bytes words)
one_flag s [] word long first is = absurd (omega (arith, long))
one_flag s (w ∷ words) word long first is =
    ap (λ rest. settings_with (with_flag s (string_bytes word)) (map string_bytes rest)) (take_rest (w ∷ words) 1)
    ∙ ap (λ x. settings_with (with_flag s (string_bytes x)) (map string_bytes words)) first
    ∙ flag_first s w words (ap (λ x. is_flag (string_bytes x)) (sym first) ∙ is)

-- an option with its value, and then the words after that
option_first : (s changed : FormatSettings) (w v : String Global) (words : List (String Global)) → is_flag (string_bytes w) ≡ false
    → with_option s (string_bytes w) (string_bytes v) ≡ Some changed
    → settings_with changed (map string_bytes words) ≡ settings_with s (map string_bytes (w ∷ v ∷ words))
option_first s changed w v words is changes =
    sym (ap (λ b. cond b (settings_with (with_flag s (string_bytes w)) (map string_bytes (v ∷ words)))
    (option_and_then (λ changed. settings_with changed (map string_bytes words)) (with_option s (string_bytes w) (string_bytes v)))) is
    ∙ ap (λ o. option_and_then (λ changed. settings_with changed (map string_bytes words)) o) changes)

pub one_option : (s changed : FormatSettings) (words after : List (String Global)) (word value : String Global) → after ≡ drop 1 words
    → 1 ≤ length after → word ≡ get_or words 0 word → value ≡ get_or after 0 value → is_flag (string_bytes word) ≡ false
    → with_option s (string_bytes word) (string_bytes value) ≡ Some changed
    → settings_with changed (map string_bytes (take (length after - 1) (drop 1 after))) ≡ settings_with s (map string_bytes words)
one_option s changed [] after word value rest long first second is changes = absurd (omega (arith, long, ap length rest))
one_option s changed (w ∷ []) after word value rest long first second is changes = absurd (omega (arith, long, ap length rest))
one_option s changed (w ∷ v ∷ words) after word value rest long first second is changes =
    let value_is : value ≡ v = second ∙ ap (λ xs. get_or xs 0 value) rest in
    ap (λ xs. settings_with changed (map string_bytes xs)) (take_rest after 1 ∙ ap (λ xs. drop 1 xs) rest)
    ∙ option_first s changed w v words
    (ap (λ x. is_flag (string_bytes x)) (sym first) ∙ is)
    (ap₂ (λ x y. with_option s (string_bytes x) (string_bytes y)) (sym first) (sym value_is) ∙ changes)
