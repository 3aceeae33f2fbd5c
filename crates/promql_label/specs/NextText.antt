-- How the printer goes through texts in byte order (private: nothing rests on believing it).
use Rattle.std.specs.Prelude.{ℕ, zero, suc, ◌≡◌, ◌&&◌, Bool, true, false, not, List, [], ◌∷◌, ◌++◌, Option, Some, None, map, option_map, codes}
use Rattle.std.specs.Ordering.{is_lt, is_gt}
use Rattle.std.proofs.Common.{Bor}
use Rattle.promql_label.specs.PlainMatchers.{matcher_text}
use Rattle.promql_label.specs.SortedTexts.{text_order}
use Rattle.promql_label.specs.MatcherViews.{plain_matcher_of}
use Rattle.promql_label.specs.declared.matcher.Matcher.{Matcher}
use Rattle.promql_text.specs.Texts.{Text}

-- the printed text of a matcher, of one that there may be, and of each in a row
abbrev pub text_of : Matcher → Text
text_of m = matcher_text (plain_matcher_of m)

abbrev pub text_of_some : Option (Bor Matcher) → Option Text
text_of_some = option_map (λ m. text_of m.now)

abbrev pub row_texts : List (Bor Matcher) → List Text
row_texts = map (λ m. text_of m.now)

-- s is less than t
abbrev pub is_less : Text → Text → Bool
is_less s t = is_lt (text_order s t)

-- u is greater than the text that came last, or less than it
abbrev pub is_above : Option Text → Text → Bool
is_above None u = true
is_above (Some t) u = is_gt (text_order u t)

abbrev pub is_below : Option Text → Text → Bool
is_below None u = false
is_below (Some t) u = is_less u t

-- no text is less than the one before it
abbrev pub is_rising : Option Text → List Text → Bool
is_rising last [] = true
is_rising last (t ∷ ts) = not (is_below last t) && is_rising (Some t) ts

-- P holds of each text
abbrev pub Each : (Text → Type 0) → List Text → Type 0
Each P [] = Unit {0}
Each P (t ∷ ts) = P t × Each P ts

-- no text of the list is less than that before it
abbrev pub Follows : Option Text → List Text → Type 0
Follows None us = Unit {0}
Follows (Some t) us = Each (λ u. is_less u t ≡ false) us

-- no text is less than one before it
abbrev pub Rises : List Text → Type 0
Rises [] = Unit {0}
Rises (t ∷ ts) = Follows (Some t) ts × Rises ts

-- the last text of the list; another one if the list is empty
abbrev pub last_of : List Text → Option Text → Option Text
last_of [] other = other
last_of (t ∷ ts) other = last_of ts (Some t)

-- what comes before a text: a comma, if a text was printed before
abbrev pub comma_after : Bool → Text
comma_after true = codes ","
comma_after false = []

-- the texts, with a comma before each, but not before the first of all
abbrev pub texts_after : Bool → List Text → Text
texts_after started [] = []
texts_after started (t ∷ ts) = (comma_after started ++ t) ++ texts_after true ts

-- t, n times
abbrev pub times : ℕ → Text → List Text
times zero t = []
times (suc n) t = t ∷ times n t

-- the text that there may be, n times
abbrev pub again : ℕ → Option Text → List Text
again n None = []
again n (Some t) = times n t
