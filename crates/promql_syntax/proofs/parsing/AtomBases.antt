-- Bases without expressions in them.
use Rattle.std.proofs.Common.{◌≡◌, ℕ, Bool, true, false, cond, refl, sym, subst, ◌∙◌, ap, List, [], ◌∷◌, length, Some, None}
use Rattle.std.specs.Prelude.{Result, Ok, Err}
use Rattle.std.proofs.lemmas.Bool.{cond-true, cond-false}
use Rattle.std.proofs.lemmas.List.Elements.{All-nil}
use Rattle.std.specs.declared.alloc.Global.{Global}
use Rattle.std.specs.declared.boxed.Box.{Box}
use Rattle.promql_text.specs.Texts.{Text}
use Rattle.promql_grammar.specs.declared.token_kinds.TokenKind.{TokenKind}
use Rattle.promql_grammar.specs.declared.token_kinds.TokenKind.TheVariants as kind
use Rattle.promql_grammar.specs.declared.read_error.ReadError.TheVariants.{Syntax}
use Rattle.promql_grammar.specs.Results.{◌then◌}
use Rattle.promql_grammar.specs.Symbols.{Symbol, punct, word, symbol, may_be_name}
use Rattle.promql_grammar.specs.Grammar as grammar
use Rattle.promql_grammar.specs.GrammarParts.{Braces}
use Rattle.promql_grammar.specs.Parsing.{parse_optional_braces, parse_braces, parse_selector, parse_postfixes, misfit}
use Rattle.promql_grammar.specs.Eating.{HasNo}
use Rattle.promql_grammar.specs.Failures.{Fails, Failure}
use Rattle.promql_label.specs.MatcherViews.{plain_matchers_of}
use Rattle.promql_label.specs.declared.matchers.Matchers.{Matchers}
use Rattle.promql_syntax.specs.declared.grammar.build_error.BuildError as code
use Rattle.promql_syntax.specs.declared.grammar.parsed.ParsedExpr.{ParsedExpr}
use Rattle.promql_syntax.specs.ParsesPart.{ParsesAskedPart, IsBuiltBy}
use Rattle.promql_syntax.specs.Asking.{EndsIn}
use Rattle.promql_syntax.specs.Building.{build}
use Rattle.promql_syntax.specs.FaultTokens.{Builds, subexpressions}
use Rattle.promql_syntax.specs.ParsesExpr.{IsExprOf, IsPlaced, ParsesBase, FailsBase, tree_result}
use Rattle.promql_syntax.proofs.answer.FaultPlacing.{IsWhole, whole_placed}
use Rattle.promql_syntax.specs.PartBuilding.{braces_value}
use Rattle.promql_syntax.specs.Atoms.{parse_atom, parse_named, parse_selector_braces}
use Rattle.promql_syntax.proofs.parsing.ReadErrorSteps.{fails_first}
use Rattle.promql_syntax.proofs.parsing.ResultSteps.{then_then}

no_braces : (ts : List Symbol) → HasNo kind.LeftBrace ts → parse_optional_braces ts ≡ Ok (None, ts)
no_braces (punct kind.LeftBrace ∷ ts) none = absurd (none refl)
no_braces ts none = refl

-- a form that holds no expression, and whose faults are about tokens of their own
atom_of : (builds : Bool) (n k : ℕ) (parsed : ParsedExpr) (d : grammar.Derivation) → IsWhole d → subexpressions k d ≡ (k, d) ∷ [] → parsed.height ≡ grammar.height d → (builds ≡ true → EndsIn (build d) (tree_result parsed)) → IsExprOf builds n k parsed d
atom_of builds n k parsed d whole alone tall ends = record {
  tall = tall;
  built = ends;
  placed = λ on fits. subst (λ l. IsPlaced n l parsed.value) (sym alone) (whole_placed n k d [] parsed.value whole (All-nil Builds) (ends on));
}

module _ (w : TokenKind) (text : Text) (ts : List Symbol) where
  pub number_base : {builds : Bool} (n : ℕ) (parsed : ParsedExpr) → w ≡ kind.Number → EndsIn (build (grammar.number text)) (tree_result parsed) → parsed.height ≡ 1 → ParsesBase builds n parsed ts (λ k h. parse_atom k h w text ts)
  number_base {builds} n parsed is ends low = record {
    derivation = grammar.number text;
    is = λ k h. ap (λ v. parse_atom k h v text ts) is;
    built = atom_of builds n (length ts) parsed (grammar.number text) tt refl low (λ on. ends);
  }

  pub duration_base : {builds : Bool} (n : ℕ) (parsed : ParsedExpr) → w ≡ kind.Duration → EndsIn (build (grammar.duration text)) (tree_result parsed) → parsed.height ≡ 1 → ParsesBase builds n parsed ts (λ k h. parse_atom k h w text ts)
  duration_base {builds} n parsed is ends low = record {
    derivation = grammar.duration text;
    is = λ k h. ap (λ v. parse_atom k h v text ts) is;
    built = atom_of builds n (length ts) parsed (grammar.duration text) tt refl low (λ on. ends);
  }

  pub string_base : {builds : Bool} (n : ℕ) (parsed : ParsedExpr) → w ≡ kind.String → EndsIn (build (grammar.string text)) (tree_result parsed) → parsed.height ≡ 1 → ParsesBase builds n parsed ts (λ k h. parse_atom k h w text ts)
  string_base {builds} n parsed is ends low = record {
    derivation = grammar.string text;
    is = λ k h. ap (λ v. parse_atom k h v text ts) is;
    built = atom_of builds n (length ts) parsed (grammar.string text) tt refl low (λ on. ends);
  }

  pub nameless_fails : (e : Failure) → w ≡ kind.LeftBrace → Fails e (parse_braces ts) → FailsBase e (λ k n. parse_atom k n w text ts)
  nameless_fails e is fails = λ k n. fails_first e (parse_braces ts) (λ b. parse_postfixes k n (grammar.nameless b.0) b.1) _ (ap (λ v. parse_atom k n v text ts) is) fails

  pub nameless_base : {builds : Bool} (n : ℕ) (matchers : Result Matchers (Box code.BuildError Global)) (us : List Symbol) (parsed : ParsedExpr) → w ≡ kind.LeftBrace → ParsesAskedPart builds plain_matchers_of braces_value matchers us (parse_braces ts)
      → ((b : Braces) → IsBuiltBy plain_matchers_of matchers (braces_value b) → EndsIn (build (grammar.nameless b)) (tree_result parsed)) → parsed.height ≡ 1 → ParsesBase builds n parsed us (λ k h. parse_atom k h w text ts)
  nameless_base {builds} n matchers us parsed is read built low = record {
    derivation = grammar.nameless read.part;
    is = λ k h. ap (λ v. parse_atom k h v text ts) is ∙ ap (λ o. o then λ b. parse_postfixes k h (grammar.nameless b.0) b.1) read.is;
    built = atom_of builds n (length us) parsed (grammar.nameless read.part) tt refl low (λ on. built read.part (read.built on));
  }

  named_read : (k n : ℕ) → may_be_name w ≡ true → parse_selector k n w text ts ≡ (parse_optional_braces ts then λ x. parse_postfixes k n (grammar.selector w text x.0) x.1)
  named_read k n may = ap (λ b. cond b (parse_optional_braces ts then λ x. parse_postfixes k n (grammar.selector w text x.0) x.1) (Err (misfit (word w text ∷ ts)))) may

  -- a name without braces
  pub bare_base : {builds : Bool} (n : ℕ) (parsed : ParsedExpr) → may_be_name w ≡ true → HasNo kind.LeftBrace ts → ((v : TokenKind) → EndsIn (build (grammar.selector v text None)) (tree_result parsed)) → parsed.height ≡ 1 → ParsesBase builds n parsed ts (λ k h. parse_selector k h w text ts)
  bare_base {builds} n parsed may none built low = record {
    derivation = grammar.selector w text None;
    is = λ k h. named_read k h may ∙ ap (λ o. o then λ x. parse_postfixes k h (grammar.selector w text x.0) x.1) (no_braces ts none);
    built = atom_of builds n (length ts) parsed (grammar.selector w text None) tt refl low (λ on. built w);
  }

  pub selected_fails : (e : Failure) → Fails e (parse_braces ts) → FailsBase e (λ k n. parse_selector_braces k n w text ts)
  selected_fails e fails = λ k n. fails_first e (parse_braces ts) (λ b. parse_postfixes k n (grammar.selector w text (Some b.0)) b.1) _ refl fails

  pub selected_base : {builds : Bool} (n : ℕ) (matchers : Result Matchers (Box code.BuildError Global)) (us : List Symbol) (parsed : ParsedExpr) → ParsesAskedPart builds plain_matchers_of braces_value matchers us (parse_braces ts)
      → ((v : TokenKind) (b : Braces) → IsBuiltBy plain_matchers_of matchers (braces_value b) → EndsIn (build (grammar.selector v text (Some b))) (tree_result parsed)) → parsed.height ≡ 1 → ParsesBase builds n parsed us (λ k h. parse_selector_braces k h w text ts)
  selected_base {builds} n matchers us parsed read built low = record {
    derivation = grammar.selector w text (Some read.part);
    is = λ k h. ap (λ o. o then λ b. parse_postfixes k h (grammar.selector w text (Some b.0)) b.1) read.is;
    built = atom_of builds n (length us) parsed (grammar.selector w text (Some read.part)) tt refl low (λ on. built w read.part (read.built on));
  }

-- a token that is no name, and one that is
pub not_named : (w : TokenKind) (text : Text) (all ts : List Symbol) → may_be_name w ≡ false → all ≡ symbol w text ∷ ts → FailsBase (Syntax, all) (λ k n. parse_named k n w text ts)
not_named w text all ts other front = λ k n. cond-false (may_be_name w) _ _ other ∙ ap (λ l. Err (misfit l)) (sym front)

pub named_selector : (w : TokenKind) (text : Text) (ts us : List Symbol) (k n : ℕ) → may_be_name w ≡ true → us ≡ ts → parse_named k n w text ts ≡ parse_selector k n w text us
named_selector w text ts us k n may same = cond-true (may_be_name w) _ _ may ∙ ap (parse_selector k n w text) (sym same)

-- a name before an opening brace
pub named_selected : (k n : ℕ) (w : TokenKind) (text : Text) (ts us : List Symbol) → may_be_name w ≡ true → ts ≡ punct kind.LeftBrace ∷ us → parse_selector k n w text ts ≡ parse_selector_braces k n w text us
named_selected k n w text ts us may front =
    named_read w text ts k n may ∙ ap (λ l. parse_optional_braces l then λ x. parse_postfixes k n (grammar.selector w text x.0) x.1) front
    ∙ then_then (parse_braces us) (λ b. Ok (Some b.0, b.1)) (λ x. parse_postfixes k n (grammar.selector w text x.0) x.1)

pub leaf_named : (k n : ℕ) (w : TokenKind) (text : Text) (ts : List Symbol) → ¬ (w ≡ kind.Number) → ¬ (w ≡ kind.Duration) → ¬ (w ≡ kind.String) → ¬ (w ≡ kind.LeftBrace) → parse_atom k n w text ts ≡ parse_named k n w text ts
leaf_named k n kind.Number text ts number duration str brace = absurd (number refl)
leaf_named k n kind.Duration text ts number duration str brace = absurd (duration refl)
leaf_named k n kind.String text ts number duration str brace = absurd (str refl)
leaf_named k n kind.LeftBrace text ts number duration str brace = absurd (brace refl)
leaf_named k n w text ts number duration str brace = refl
