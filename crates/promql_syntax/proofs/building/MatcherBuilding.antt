-- What the tokens of one matcher are parsed as, and build.
use Rattle.std.proofs.Common.{◌≡◌, refl, true, false, List, [], ◌∷◌, Some, None}
use Rattle.std.specs.Prelude.{Result, Ok, Err}
use Rattle.promql_text.specs.Texts.{Text}
use Rattle.promql_grammar.specs.GrammarParts.{MatchOperator, equal, not_equal, equal_regex, not_equal_regex, Item, Separator}
use Rattle.promql_grammar.specs.declared.matcher_tokens.MatchOperator.TheVariants as operators
use Rattle.promql_grammar.specs.MatcherTokens.{operator_of_part, is_or}
use Rattle.promql_label.specs.Answers.{Answer, Allows, built, rejected}
use Rattle.promql_label.specs.PlainMatchers as plain
use Rattle.promql_syntax.specs.Asking.{Asking, gives, Asked, AreAllowed, Ends}
use Rattle.promql_syntax.specs.BuildErrors.{BuildError, pattern}
use Rattle.promql_syntax.specs.MatcherItems.{AddsItem}
use Rattle.promql_syntax.specs.PartBuilding.{operator_value, item_value, append_matcher}
use Rattle.promql_syntax.proofs.building.Asked.{ends_map, ends_err}

-- ---- building

-- the end of building, with the answers to its questions
pub record BuildingEnds {A : Type 0} (m : Asking A) (end : Result A BuildError) : Type 0 where
  pub answers : List Asked
  pub allowed : AreAllowed answers
  pub ends : Ends m answers end

-- one question, and its answer
one_asked : Text → Answer → List Asked
one_asked value answer = record { about = value; answer = answer } ∷ []

pub matches_ends : (s : MatchOperator) (value w : Text) → operators.EqualRegex ≡ operator_of_part s → Allows value (built w) → BuildingEnds (operator_value s value) (Ok (plain.matches w))
unfolding one_asked
matches_ends equal value w is allowed = cc
matches_ends (not_equal t) value w is allowed = cc
matches_ends equal_regex value w is allowed = record { answers = one_asked value (built w); allowed = (allowed, tt); ends = (refl, refl) }
matches_ends not_equal_regex value w is allowed = cc

pub matches_not_ends : (s : MatchOperator) (value w : Text) → operators.NotEqualRegex ≡ operator_of_part s → Allows value (built w) → BuildingEnds (operator_value s value) (Ok (plain.matches_not w))
unfolding one_asked
matches_not_ends equal value w is allowed = cc
matches_not_ends (not_equal t) value w is allowed = cc
matches_not_ends equal_regex value w is allowed = cc
matches_not_ends not_equal_regex value w is allowed = record { answers = one_asked value (built w); allowed = (allowed, tt); ends = (refl, refl) }

pub matches_fails : (s : MatchOperator) (value : Text) → operators.EqualRegex ≡ operator_of_part s → Allows value rejected → BuildingEnds (operator_value s value) (Err (pattern value))
unfolding one_asked
matches_fails equal value is allowed = cc
matches_fails (not_equal t) value is allowed = cc
matches_fails equal_regex value is allowed = record { answers = one_asked value rejected; allowed = (allowed, tt); ends = (refl, refl) }
matches_fails not_equal_regex value is allowed = cc

pub matches_not_fails : (s : MatchOperator) (value : Text) → operators.NotEqualRegex ≡ operator_of_part s → Allows value rejected → BuildingEnds (operator_value s value) (Err (pattern value))
unfolding one_asked
matches_not_fails equal value is allowed = cc
matches_not_fails (not_equal t) value is allowed = cc
matches_not_fails equal_regex value is allowed = cc
matches_not_fails not_equal_regex value is allowed = record { answers = one_asked value rejected; allowed = (allowed, tt); ends = (refl, refl) }

-- a matcher that was built is appended to those before it
pub joins_item : (cs : plain.PlainMatchers) (s : Separator) (i : Item) (c : plain.PlainMatcher) (answers : List Asked) → AreAllowed answers → Ends (item_value i) answers (Ok c) → AddsItem (Ok cs) s i (Ok (append_matcher s cs c))
joins_item cs s i c answers allowed ends = record { answers = answers; allowed = allowed; ends = ends_map (item_value i) (append_matcher s cs) answers c ends }

pub joins_none : (cs : plain.PlainMatchers) (s : Separator) (i : Item) (fault : BuildError) (answers : List Asked) → AreAllowed answers → Ends (item_value i) answers (Err fault) → AddsItem (Ok cs) s i (Err fault)
joins_none cs s i fault answers allowed ends = record { answers = answers; allowed = allowed; ends = ends_err (item_value i) (λ c. gives (append_matcher s cs c)) answers fault ends }

pub joined_or : (s : Separator) (cs : plain.PlainMatchers) (c : plain.PlainMatcher) → true ≡ is_or s → append_matcher s cs c ≡ plain.appended_or cs c
joined_or None cs c same = cc
joined_or (Some t) cs c same = refl

pub joined_comma : (s : Separator) (cs : plain.PlainMatchers) (c : plain.PlainMatcher) → false ≡ is_or s → append_matcher s cs c ≡ plain.append_plain cs c
joined_comma None cs c same = refl
joined_comma (Some t) cs c same = cc
