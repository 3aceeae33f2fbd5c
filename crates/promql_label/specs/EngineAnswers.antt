-- What is returned for a pattern, by what tells whether `regex` takes a text (private: nothing rests on believing it).
use Rattle.std.specs.Prelude.{◌≡◌, ◌⊎◌, true, false, IfSome, Option, Some, None}
use Rattle.regex.specs.Strings.{regex_source, regex_config, IsReadFromSource}
use Rattle.regex.specs.Patterns.{default_config}
use Rattle.regex.specs.declared.string.regex.Regex.{Regex}
use Rattle.promql_text.specs.Texts.{Text}
use Rattle.promql_label.specs.Answers.{anchor, Answer, built, is_read, is_read_pair, is_small, rejected}
use Rattle.promql_label.specs.Repeats.{escaped_repeats}
use Rattle.promql_label.specs.PatternRejections.{rejected_value}
use Rattle.promql_label.specs.declared.pattern.PatternFault.{PatternFault}

abbrev pub IsRead : Text → Type 0
IsRead w = is_read w ≡ true

-- what is compiled is the text
abbrev pub IsCompiledFrom : Text → Regex → Type 0
IsCompiledFrom w r = (regex_source r ≡ w) × (regex_config r ≡ default_config) × IsReadFromSource r

-- a form of a pattern is read by itself and anchored
abbrev pub IsReadPair : Text → Type 0
IsReadPair u = IsRead u × IsRead (anchor u)

-- the fault hands back the text, and its rejection is allowed; of memory nothing is said
abbrev pub IsRejected : Text → Type 0 → PatternFault → Type 0
IsRejected text Allowed fault = IfSome (rejected_value fault) (λ s. (s ≡ text) × Allowed)

module _ (Rejects : Text → Type 0) where
  -- a form may be rejected, of which this text is built: it is not small, and the grammar does not read it both by itself and anchored, or
  -- `regex` was asked for the text and rejected it
  abbrev pub MayRejectBy : Text → Text → Type 0
  MayRejectBy u w = (is_small u ≡ false) × ((is_read_pair u ≡ false) ⊎ Rejects w)

  -- what becomes of a form that is tried: its anchored text, or nothing
  abbrev pub IsTriedBy : Text → Option Text → Type 0
  IsTriedBy u (Some w) = (w ≡ anchor u) × IsReadPair u
  IsTriedBy u None = MayRejectBy u (anchor u)

-- the result for a pattern
pub data AllowsBy (Rejects : Text → Type 0) : Text → Answer → Type 0 where
  by_itself : (v : Text) → IsReadPair v → AllowsBy Rejects v (built (anchor v))
  by_its_escaped : (v : Text) → MayRejectBy Rejects v (anchor v) → IsReadPair (escaped_repeats v) → AllowsBy Rejects v (built (anchor (escaped_repeats v)))
  by_none : (v : Text) → MayRejectBy Rejects v (anchor v) → MayRejectBy Rejects (escaped_repeats v) (anchor (escaped_repeats v)) → AllowsBy Rejects v rejected

-- nothing is said of what `regex` rejects
abbrev pub Anything : Text → Type 0
Anything w = Unit {0}
