-- The words of a command line (docs/reference/programs.md, "Arguments").
use Rattle.std.specs.Prelude.{ℕ, ◌==◌, ◌&&◌, ◌++◌, Bool, true, false, bytes_eq, codes, if◌then◌else◌, is_some, length, nat_lt, not, List, [], ◌∷◌, Option, Some, None}
use Rattle.std.specs.List.{after_first, before_first, list_any, position_or_len}
use Rattle.std.specs.Option.{option_map_or}
use Rattle.promql_text.specs.Texts.{Text}

-- a word that begins with `-`, and is more than that
abbrev pub is_option : Text → Bool
is_option (first ∷ b ∷ bytes) = first == 45
is_option word = false

-- an option without a value
abbrev pub is_flag : Text → Bool
is_flag word =
    list_any (bytes_eq word) (codes "--check" ∷ codes "--keep-spelling" ∷ codes "--sort-matchers" ∷ codes "--help" ∷ codes "--version" ∷ codes "-h" ∷ [])

abbrev pub is_long : Text → Bool
is_long (first ∷ second ∷ bytes) = first == 45 && second == 45
is_long word = false

abbrev pub is_equals : ℕ → Bool
is_equals b = b == 61

-- an option and its value, where a word is both with `=` between them
abbrev pub option_parts : Text → Option (Text × Text)
option_parts word =
    if is_long word && nat_lt (position_or_len is_equals word) (length word) && not (is_flag (before_first is_equals word)) then Some (before_first is_equals word, after_first is_equals word)
    else None

abbrev pub one : Text → List Text
one word = word ∷ []

abbrev pub option_words : Text → List Text
option_words word = option_map_or (λ parts. parts.0 ∷ parts.1 ∷ []) (option_parts word) (one word)

-- the value of the option is the next word
abbrev pub wants_value : Text → Bool
wants_value word = not (is_flag word) && not (is_some (option_parts word))

-- no word after this one is an option
abbrev pub ends_options : Text → Bool
ends_options word = bytes_eq word (codes "--")

abbrev pub with_options : List Text → List Text × List Text → List Text × List Text
with_options words parts = (words ++ parts.0, parts.1)

abbrev pub with_operands : List Text → List Text × List Text → List Text × List Text
with_operands words parts = (parts.0, words ++ parts.1)

-- options with their values, a word each, and the other words, as the first word may be the value of the option before it
abbrev pub split : Bool → List Text → List Text × List Text
split is_value [] = ([], [])
split true (value ∷ words) = with_options (one value) (split false words)
split false (word ∷ words) =
    if ends_options word then ([], words)
    else if is_option word then with_options (option_words word) (split (wants_value word) words)
    else with_operands (one word) (split false words)
