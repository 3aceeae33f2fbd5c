-- What is known of the values in a tree that is built: each is one that its printed text gives, operators are operators, and no function is a fill word.
use Rattle.std.proofs.Common.{◌≡◌, true, false, Option, Some, None}
use Rattle.std.specs.Prelude.{Ok}
use Rattle.std.specs.Int.{is_negative}
use Rattle.promql_text.specs.Texts.{Text}
use Rattle.promql_text.specs.Values.{IsNumber}
use Rattle.promql_token.specs.Ids.{is_aggregator}
use Rattle.promql_token.specs.Laws.{is_word}
use Rattle.promql_grammar.specs.declared.token_kinds.TokenKind.TheVariants as kind
use Rattle.promql_grammar.specs.Symbols.{token_kind}
use Rattle.promql_label.specs.Answers.{Answer}
use Rattle.promql_label.specs.PlainMatchers.{PlainMatchers}
use Rattle.promql_kind.specs.Functions.{name_of}
use Rattle.promql_ast.specs.Selectors.{Selector, selector}
use Rattle.promql_ast.specs.Shifts.{Shift, back, ahead, Moment, at_start, at_end, at_time}
use Rattle.promql_ast.specs.Tree.{Tree, aggregate, unary, binary, paren, subquery, number, string, vector, matrix, call, extension, MaybeTree, absent, present, Trees, no_trees, first_tree}
use Rattle.promql_syntax.specs.PartBuilding.{moment_value}
use Rattle.promql_syntax.proofs.printed.PrintedParts.{seconds_text, sign}
use Rattle.promql_syntax.proofs.lexed.LexedWords.{is_fill_word}
use Rattle.promql_syntax.proofs.printed.PrintedMatcherLists.{AreAnyMatchers, AreMatchers}
use Rattle.promql_syntax.proofs.printed.PrintedModifiers.{IsMatched}
use Rattle.promql_syntax.proofs.printed.PrintedTimesAndLabels.{IsStep, IsTime}

abbrev pub IsShift : Option Shift → Type 0
IsShift None = Unit {0}
IsShift (Some (back n)) = IsTime n
IsShift (Some (ahead n)) = IsTime n

abbrev pub IsMoment : Moment → Type 0
IsMoment at_start = Unit {0}
IsMoment at_end = Unit {0}
IsMoment (at_time t) = moment_value (sign (is_negative t)) (seconds_text t) ≡ Ok (at_time t)

abbrev pub IsAnyMoment : Option Moment → Type 0
IsAnyMoment None = Unit {0}
IsAnyMoment (Some m) = IsMoment m

module _ (g : Text → Answer) where
  -- there is a name, or a matcher
  abbrev pub IsSelecting : Option Text → PlainMatchers → Type 0
  IsSelecting (Some name) cs = (is_word name ≡ true) × AreAnyMatchers g cs
  IsSelecting None cs = AreMatchers g cs

  abbrev pub PrintableSelector : Selector → Type 0
  PrintableSelector (selector name matchers offset at) = IsSelecting name matchers × IsShift offset × IsAnyMoment at

  abbrev mutual
    pub Printable : Tree → Type 0
    Printable (aggregate op e p m) = (is_aggregator op ≡ true) × Printable e × MaybePrintable p
    Printable (unary e) = Printable e
    Printable (binary op l r m) = IsMatched m × Printable l × Printable r × (token_kind op ≡ kind.Operator op)
    Printable (paren e) = Printable e
    Printable (subquery e offset at range step) = Printable e × IsTime range × IsStep step × IsShift offset × IsAnyMoment at
    Printable (number n) = IsNumber n
    Printable (string s) = Unit {0}
    Printable (vector s) = PrintableSelector s
    Printable (matrix s range mode) = PrintableSelector s × IsTime range
    Printable (call f ts) = (is_word (name_of f) ≡ true) × AllPrintable ts × (is_fill_word (name_of f) ≡ false)
    Printable (extension name gives ts) = ⊥

    pub MaybePrintable : MaybeTree → Type 0
    MaybePrintable absent = Unit {0}
    MaybePrintable (present e) = Printable e

    pub AllPrintable : Trees → Type 0
    AllPrintable no_trees = Unit {0}
    AllPrintable (first_tree t ts) = Printable t × AllPrintable ts
