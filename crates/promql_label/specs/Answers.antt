-- What `regex` may return for a pattern: docs/reference/matchers.md, "Patterns".
use Rattle.std.specs.Prelude.{◌≡◌, Bool, true, false, not, ◌&&◌, ◌||◌, if◌then◌else◌, ◌++◌, is_some, option_map, unwrap_or, codes, chars, nat_le}
use Rattle.regex.specs.Patterns.{default_config, find_str}
use Rattle.regex_syntax.specs.Grammar.{read}
use Rattle.promql_text.specs.Texts.{Text}
use Rattle.promql_label.specs.PatternMeasure.{measure}
use Rattle.promql_label.specs.Repeats.{escaped_repeats}

-- "Anchoring": the text that is built of a pattern
abbrev pub anchor : Text → Text
anchor u = codes "^(?:" ++ (u ++ codes ")$")

-- the grammar of `regex` reads the text, which is nested no deeper than it allows
abbrev pub is_read : Text → Bool
is_read w = unwrap_or (option_map (λ p. nat_le p.0.depth default_config.nest_limit) (read default_config (chars w))) false

-- a form of a pattern is read by itself and anchored
abbrev pub is_read_pair : Text → Bool
is_read_pair u = is_read u && is_read (anchor u)

-- "Small patterns": the grammar reads the form, which measures little
abbrev pub is_small : Text → Bool
is_small u = nat_le (measure u) 16000 && is_read_pair u

-- what is returned for a pattern: the built text, or that it is rejected
pub data Answer : Type 0 where
  built : Text → Answer
  rejected : Answer

-- "Answers": this result is allowed for a pattern. A form that is not small may be rejected, of which then nothing is said
pub data Allows : Text → Answer → Type 0 where
  as_it_is : (v : Text) → is_read_pair v ≡ true → Allows v (built (anchor v))
  by_escaping : (v : Text) → is_small v ≡ false → is_read_pair (escaped_repeats v) ≡ true → Allows v (built (anchor (escaped_repeats v)))
  neither : (v : Text) → is_small v ≡ false → is_small (escaped_repeats v) ≡ false → Allows v rejected

-- "Answers": the answer that is computed
abbrev pub pattern_answer : Text → Answer
pattern_answer v =
    if is_read_pair v then built (anchor v)
    else (if is_read_pair (escaped_repeats v) then built (anchor (escaped_repeats v)) else rejected)

-- "Answers": it is the only one. Each form that is tried is small, or not read
abbrev pub has_one_answer : Text → Bool
has_one_answer v = is_small v || not (is_read_pair v) && (is_small (escaped_repeats v) || not (is_read_pair (escaped_repeats v)))

-- "Matching by a pattern": whether `regex` finds the pattern of a built text in a text
abbrev pub finds : Text → Text → Bool
finds w z = unwrap_or (option_map (λ p. is_some (find_str p.0.value z 0)) (read default_config (chars w))) false
