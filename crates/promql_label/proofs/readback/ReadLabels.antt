-- Printed labels and names of matchers mean the labels.
use Rattle.std.proofs.Common.{◌≡◌, refl, ap, Bool, true, false, cond, not, ◌&&◌, Option, Some}
use Rattle.promql_text.specs.Quoting.{quoted_text, unquoted_text}
use Rattle.promql_text.specs.Texts.{Text}
use Rattle.promql_text.proofs.quoting.Quotes.{unquoted_text-quoted}
use Rattle.promql_token.specs.Classes.{is_label}
use Rattle.promql_label.specs.Labels.{is_number_word, label_text}
use Rattle.promql_label.specs.PlainMatchers.{name_text}

-- the label that a printed text means: a bare label is itself, and any other text is unquoted
abbrev label_of : Text → Option Text
label_of s = cond (is_label s) (Some s) (unquoted_text s)

bare : (l : Text) → is_label l ≡ true → label_of l ≡ Some l
bare l is = ap (λ b. cond b (Some l) (unquoted_text l)) is

-- what is quoted begins with a quote, so it is no bare label
label_of_quoted : (l : Text) → label_of (quoted_text l) ≡ Some l
label_of_quoted l = unquoted_text-quoted l

pub label_again : (l : Text) → label_of (label_text l) ≡ Some l
label_again l = go (is_label l) (is_number_word l) refl
  where
    go : (a b : Bool) → is_label l ≡ a → label_of (cond (a && not b) l (quoted_text l)) ≡ Some l
    go true false is = bare l is
    go true true is = label_of_quoted l
    go false b is = label_of_quoted l

pub name_again : (name : Text) → label_of (name_text name) ≡ Some name
name_again name = go (is_label name) refl
  where
    go : (b : Bool) → is_label name ≡ b → label_of (cond b name (quoted_text name)) ≡ Some name
    go true is = bare name is
    go false is = label_of_quoted name

pub no_number : (l : Text) → is_number_word (label_text l) ≡ false
no_number l = go (is_label l) (is_number_word l) refl
  where
    go : (a b : Bool) → is_number_word l ≡ b → is_number_word (cond (a && not b) l (quoted_text l)) ≡ false
    go true false is = is
    go true true is = refl
    go false b is = refl
