-- The words of labels are kinds that may be labels.
use Rattle.std.proofs.Common.{◌≡◌, ◌↔◌, zero, suc, refl, subst, arith, true, List, [], ◌∷◌}
use Rattle.std.specs.Prelude.{Contains}
use Rattle.std.proofs.lemmas.List.Elements.{Contains-append_right}
use Rattle.promql_text.specs.Texts.{Text}
use Rattle.promql_grammar.specs.declared.token_kinds.TokenKind.{TokenKind}
use Rattle.promql_grammar.specs.declared.token_kinds.TokenKind.TheVariants as kind
use Rattle.promql_grammar.specs.GrammarParts.{IsLabels, Labels, last, next, no_label, yield_names}
use Rattle.promql_grammar.specs.Symbols.{Symbol, may_be_label, punct, word}

-- a word among symbols is the first one, or among the others
first_or_later : (j : TokenKind) (t : Text) (ts : List Symbol) (k : TokenKind) (text : Text) → may_be_label j ≡ true
    → (Contains ts (word k text) → may_be_label k ≡ true) → Contains (word j t ∷ ts) (word k text) → may_be_label k ≡ true
first_or_later j t ts k text first others (zero, less, is) = let same : j ≡ k = cc in subst (λ x. may_be_label x ≡ true) same first
first_or_later j t ts k text first others (suc i, less, is) = others (i, omega arith, is)

after_punctuation : (j : TokenKind) (ts : List Symbol) (k : TokenKind) (text : Text) → (Contains ts (word k text) → may_be_label k ≡ true)
    → Contains (punct j ∷ ts) (word k text) → may_be_label k ≡ true
after_punctuation j ts k text others (zero, less, is) = cc
after_punctuation j ts k text others (suc i, less, is) = others (i, omega arith, is)

none : (k : TokenKind) (text : Text) → Contains [] (word k text) → may_be_label k ≡ true
none k text (i, less, is) = absurd (omega arith)

words_are_labels : (ls : Labels) → IsLabels ls → (k : TokenKind) (text : Text) → Contains (yield_names ls) (word k text) → may_be_label k ≡ true
words_are_labels no_label h k text = after_punctuation kind.RightParen [] k text (none k text)
words_are_labels (last j t) h k text = first_or_later j t (punct kind.RightParen ∷ []) k text h (after_punctuation kind.RightParen [] k text (none k text))
words_are_labels (next j t ls) h k text =
    first_or_later j t (punct kind.Comma ∷ yield_names ls) k text h.0 (after_punctuation kind.Comma (yield_names ls) k text (words_are_labels ls h.1 k text))

labels_of_words : (ls : Labels) → ((k : TokenKind) (text : Text) → Contains (yield_names ls) (word k text) → may_be_label k ≡ true) → IsLabels ls
labels_of_words no_label h = tt
labels_of_words (last j t) h = h j t (0, omega arith, refl)
labels_of_words (next j t ls) h = (
  h j t (0, omega arith, refl),
  labels_of_words ls (λ k text c. h k text (Contains-append_right (word j t ∷ punct kind.Comma ∷ []) (yield_names ls) (word k text) c)),
)

pub labels_are_words : (ls : Labels) → IsLabels ls ↔ ((k : TokenKind) (text : Text) → Contains (yield_names ls) (word k text) → may_be_label k ≡ true)
labels_are_words ls = (words_are_labels ls, labels_of_words ls)
