-- Operators are written with certain bytes, so a text without one of these has no such token.
use Rattle.std.proofs.Common.{◌≡◌, ℕ, zero, suc, refl, sym, ◌∙◌, ap, Bool, true, false, true≢false, ◌&&◌, ◌||◌, List, [], ◌∷◌, ◌++◌, inl, inr}
use Rattle.std.specs.Prelude.{◌==◌, not}
use Rattle.std.specs.List.{list_all, list_any}
use Rattle.std.proofs.lemmas.Bool.{and_parts}
use Rattle.promql_text.specs.Texts.{Text}
use Rattle.promql_token.specs.Begins.{IsOneOf, MayBegin, punctuators}
use Rattle.promql_token.specs.declared.ids.TheConstants.{T_DURATION, T_EOF, T_NUMBER, T_STRING}
use Rattle.promql_token.specs.declared.state.Bracket.TheVariants as bracket
use Rattle.promql_token.specs.declared.state.Mode.{Mode}
use Rattle.promql_token.specs.declared.state.Mode.TheVariants as mode
use Rattle.promql_token.specs.Vocabulary.{braces_id, word_id}
use Rattle.promql_span.specs.QueryMarks.{has}
use Rattle.promql_span.proofs.TokensWithout.{NeedsText}
use Rattle.promql_span.proofs.WordIds.{OfNoWord, name_in_braces_is_none, word_is_none}

implied : (a b : Bool) → not a || b ≡ true → a ≡ true → b ≡ true
implied true b is hit = is
implied false b is hit = absurd (true≢false (sym hit))

pub or_left : (a b : Bool) → a || b ≡ false → a ≡ false
or_left true b miss = absurd (true≢false miss)
or_left false b miss = refl

pub or_right : (a b : Bool) → a || b ≡ false → b ≡ false
or_right true b miss = absurd (true≢false miss)
or_right false b miss = miss

-- what comes after it is of no account
pub in_front : (p : ℕ → Bool) (w r : Text) → list_any p w ≡ true → list_any p (w ++ r) ≡ true
in_front p [] r is = absurd (true≢false (sym is))
in_front p (b ∷ w) r is = go (p b) is (in_front p w r)
  where
    go : (a : Bool) → a || list_any p w ≡ true → (list_any p w ≡ true → list_any p (w ++ r) ≡ true) → a || list_any p (w ++ r) ≡ true
    go true is rest = refl
    go false is rest = rest is

pub without_more : (c b : ℕ) (z : Text) → has c (b ∷ z) ≡ false → has c z ≡ false
without_more c b z miss = or_right (b == c) (has c z) miss

-- a row of the punctuators that has the byte where it is such an operator
abbrev pub is_written : (ℕ → Bool) → ℕ → Text × ℕ × Text → Bool
is_written is_such c s = not (is_such s.1) || has c s.0

-- ids of punctuators that have a byte
pub record OfPunctuators (is_such : ℕ → Bool) (c : ℕ) : Type 0 where
  pub outside : list_all (is_written is_such c) (punctuators mode.Outside 1) ≡ true
  pub braces : list_all (is_written is_such c) (punctuators mode.Braces 0) ≡ true
  pub brackets : list_all (is_written is_such c) (punctuators (mode.Brackets bracket.Something) 0) ≡ true
  pub word : OfNoWord is_such
  pub other : list_any is_such (T_EOF ∷ T_NUMBER ∷ T_DURATION ∷ T_STRING ∷ []) ≡ false

module _ (is_such : ℕ → Bool) (c : ℕ) (these : OfPunctuators is_such c) where
  abbrev Written : ℕ → Text → Type 0
  Written id z = is_such id ≡ true → has c z ≡ true

  one_of : (ss : List (Text × ℕ × Text)) (id : ℕ) (w r : Text) → list_all (is_written is_such c) ss ≡ true → IsOneOf ss id w r → Written id (w ++ r)
  one_of [] id w r all one is = absurd one
  one_of (s ∷ ss) id w r all (inl (text, same, rest)) is =
      in_front (λ b. b == c) w r (ap (has c) text ∙ implied (is_such s.1) (has c s.0) (and_parts (is_written is_such c s) _ all).0 (ap is_such (sym same) ∙ is))
  one_of (s ∷ ss) id w r all (inr one) is = one_of ss id w r (and_parts (is_written is_such c s) _ all).1 one is

  quiet : (id other : ℕ) (z : Text) → id ≡ other → is_such other ≡ false → Written id z
  quiet id other z same miss is = absurd (true≢false (sym is ∙ ap is_such same ∙ miss))

  no_end : is_such T_EOF ≡ false
  no_end = or_left (is_such T_EOF) _ these.other

  no_number : is_such T_NUMBER ≡ false
  no_number = or_left (is_such T_NUMBER) _ (or_right (is_such T_EOF) _ these.other)

  no_duration : is_such T_DURATION ≡ false
  no_duration = or_left (is_such T_DURATION) _ (or_right (is_such T_NUMBER) _ (or_right (is_such T_EOF) _ these.other))

  no_string : is_such T_STRING ≡ false
  no_string = or_left (is_such T_STRING) false (or_right (is_such T_DURATION) _ (or_right (is_such T_NUMBER) _ (or_right (is_such T_EOF) _ these.other)))

  rows_outside : (depth : ℕ) → list_all (is_written is_such c) (punctuators mode.Outside depth) ≡ true
  rows_outside zero = (and_parts _ _ these.outside).1
  rows_outside (suc depth) = these.outside

  closing_row : list_all (is_written is_such c) (punctuators (mode.Brackets bracket.Nothing) 0) ≡ true
  closing_row = ap (λ a. a && true) (and_parts _ _ these.brackets).0

  written : (m : Mode) (depth id : ℕ) (w r : Text) → MayBegin m depth id w r → Written id (w ++ r)
  written mode.Outside depth id w r (inl one) = one_of (punctuators mode.Outside depth) id w r (rows_outside depth) one
  written mode.Outside depth id w r (inr (inl word)) = quiet id (word_id w r) (w ++ r) word.2 (word_is_none is_such these.word w r)
  written mode.Outside depth id w r (inr (inr (inl (ends, inl number)))) = quiet id _ (w ++ r) number.0 no_number
  written mode.Outside depth id w r (inr (inr (inl (ends, inr duration)))) = quiet id _ (w ++ r) duration.0 no_duration
  written mode.Outside depth id w r (inr (inr (inr string))) = quiet id _ (w ++ r) string.0 no_string
  written mode.Braces depth id w r (inl one) = one_of (punctuators mode.Braces depth) id w r these.braces one
  written mode.Braces depth id w r (inr (inl name)) = quiet id (braces_id w r) (w ++ r) name.2 (name_in_braces_is_none is_such these.word w r)
  written mode.Braces depth id w r (inr (inr string)) = quiet id _ (w ++ r) string.0 no_string
  written (mode.Brackets bracket.Something) depth id w r (inl one) = one_of (punctuators (mode.Brackets bracket.Something) depth) id w r these.brackets one
  written (mode.Brackets bracket.Colon) depth id w r (inl one) = one_of (punctuators (mode.Brackets bracket.Colon) depth) id w r closing_row one
  written (mode.Brackets bracket.Nothing) depth id w r (inl one) = one_of (punctuators (mode.Brackets bracket.Nothing) depth) id w r closing_row one
  written (mode.Brackets inside) depth id w r (inr (digit, (ends, inl number))) = quiet id _ (w ++ r) number.0 no_number
  written (mode.Brackets inside) depth id w r (inr (digit, (ends, inr duration))) = quiet id _ (w ++ r) duration.0 no_duration

  pub needs_byte : NeedsText (λ t. is_such t.0) (has c)
  needs_byte = record { more = without_more c; ends = λ w. no_end; begins = written }
