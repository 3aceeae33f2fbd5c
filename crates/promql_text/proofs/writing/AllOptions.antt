-- What is written whatever options the formatter has.
use Rattle.std.proofs.Common.{◌≡◌, List, [], ◌∷◌, ◌++◌, Option, None, Some, Result, sym, ap, subst, ◌∙◌}
use Rattle.std.specs.Borrow.{MutBor}
use Rattle.std.specs.Option.{IfSome}
use Rattle.std.specs.Fmt.{HasWritten, HasWrittenStyled, IsDefaultSpec, IsFlush, IsPlainFormatter, WritesInCalls, WritesOnOk, WritesStyledOnOk, DisplaysStyledOnOk}
use Rattle.std.specs.List.{FoldsTo, concat}
use Rattle.std.specs.declared.fmt.Error.{Error}
use Rattle.std.specs.declared.fmt.Formatter.{Formatter}
use Rattle.std.proofs.Output.{has_written_styled_nil, has_written_styled_append, has_written_styled_of_eq}
use Rattle.promql_text.specs.Texts.{Text}

-- what follows of each text follows of one that may be known
pub if_known : (o : Option Text) (P Q : Text → Type 0) → ((bs : Text) → P bs → Q bs) → IfSome o P → IfSome o Q
if_known None P Q k x = tt
if_known (Some bs) P Q k x = k bs x

module _ {W : Type 0} (took : W → Text → W → Type 0) where
  -- what holds under all options holds of a formatter without any
  pub written_at_plain : (f g : Formatter W) (bs : Text) → IsPlainFormatter f → HasWrittenStyled took f bs g → HasWritten took f bs g
  written_at_plain f g bs plain w =
      record { wrote = w.wrote; plain = record { bare = subst IsDefaultSpec (sym w.spec) plain.bare; flush = w.flush } }

  -- the same of a call
  pub writes_at_plain : (f g : Formatter W) (r : Result (Unit {0}) Error) (bs : Text) → WritesStyledOnOk took f r bs g → WritesOnOk took f r bs g
  writes_at_plain f g r bs writes = λ (plain : IsPlainFormatter f) ok. written_at_plain f g bs plain (writes plain.flush ok)

  -- what a value displays is its text, where its output is known
  pub writes_what_it_styles : (f g : Formatter W) (r : Result (Unit {0}) Error) (o : Option Text) (text : Text) → o ≡ Some text
      → DisplaysStyledOnOk took f r o g → WritesStyledOnOk took f r text g
  writes_what_it_styles f g r o text is writes = subst (λ p. DisplaysStyledOnOk took f r p g) is writes

  -- two to five writes in a row
  pub styled_two : (f g h : Formatter W) (a b all : Text) → HasWrittenStyled took f a g → HasWrittenStyled took g b h → a ++ b ≡ all → HasWrittenStyled took f all h
  styled_two f g h a b all one two is = has_written_styled_of_eq took _ _ all _ is (has_written_styled_append took _ _ _ _ _ one two)

  pub styled_three : (f g h i : Formatter W) (a b c all : Text) → HasWrittenStyled took f a g → HasWrittenStyled took g b h → HasWrittenStyled took h c i
      → a ++ (b ++ c) ≡ all → HasWrittenStyled took f all i
  styled_three f g h i a b c all one two three is =
      has_written_styled_of_eq took _ _ all _ is (has_written_styled_append took _ _ _ _ _ one (has_written_styled_append took _ _ _ _ _ two three))

  pub styled_four : (f g h i j : Formatter W) (a b c d all : Text) → HasWrittenStyled took f a g → HasWrittenStyled took g b h → HasWrittenStyled took h c i → HasWrittenStyled took i d j
      → a ++ (b ++ (c ++ d)) ≡ all → HasWrittenStyled took f all j
  styled_four f g h i j a b c d all one two three four is =
      has_written_styled_of_eq took _ _ all _ is (has_written_styled_append took _ _ _ _ _ one (has_written_styled_append took _ _ _ _ _ two (has_written_styled_append took _ _ _ _ _ three four)))

  pub styled_five : (f g h i j k : Formatter W) (a b c d e all : Text) → HasWrittenStyled took f a g → HasWrittenStyled took g b h → HasWrittenStyled took h c i → HasWrittenStyled took i d j → HasWrittenStyled took j e k
      → a ++ (b ++ (c ++ (d ++ e))) ≡ all → HasWrittenStyled took f all k
  styled_five f g h i j k a b c d e all one two three four five is =
      has_written_styled_of_eq took _ _ all _ is (has_written_styled_append took _ _ _ _ _ one (has_written_styled_append took _ _ _ _ _ two (has_written_styled_append took _ _ _ _ _ three (has_written_styled_append took _ _ _ _ _ four five))))

  -- a writer that hands all texts to a formatter
  module _ {P : Type 0} (inner : P → MutBor (Formatter W)) where
    -- one call of it
    abbrev pub HandsOn : P → Text → P → Type 0
    HandsOn s bs t = ((inner t).ghost_name ≡ (inner s).ghost_name)
        × (IsFlush (inner s).now → HasWrittenStyled took (inner s).now bs (inner t).now)

    handed_on : (s : P) (xs : List Text) (t : P) → FoldsTo HandsOn s xs t → HandsOn s (concat xs) t
    handed_on s [] t p = (
      ap (λ (x : P). (inner x).ghost_name) (sym p),
      λ flush. subst (λ (x : P). HasWrittenStyled took (inner s).now [] (inner x).now) p (has_written_styled_nil took (inner s).now flush),
    )
    handed_on s (x ∷ xs) t p =
        let rest = handed_on p.0 xs t p.2 in (
          rest.0 ∙ p.1.0,
          λ flush. let now = p.1.1 flush in has_written_styled_append took _ _ _ _ _ now (rest.1 now.flush),
        )

    -- all its calls are one
    pub hands_on : (s : P) (bs : Text) (t : P) → WritesInCalls HandsOn s bs t → HandsOn s bs t
    hands_on s bs t p = subst (λ (l : Text). HandsOn s l t) p.whole (handed_on s p.parts t p.calls)

pub ruleset styled = (styled_two, styled_three, styled_four, styled_five)
