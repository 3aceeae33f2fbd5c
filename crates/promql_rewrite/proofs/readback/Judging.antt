-- A tree whose line has its normal form is printable, so reading the line again decides it.
use Rattle.std.proofs.Common.{◌≡◌, ◌≢◌, refl, subst, true, false, List, Result, Ok, Err}
use Rattle.promql_text.specs.Texts.{Text}
use Rattle.promql_label.specs.Answers.{Answer, pattern_answer}
use Rattle.promql_ast.specs.Normal.{normal}
use Rattle.promql_ast.specs.Text.{text}
use Rattle.promql_ast.specs.Tree.{Tree}
use Rattle.promql_syntax.specs.Asking.{Asked, AreAnswersOf}
use Rattle.promql_syntax.specs.ParseAnswers.{HasTree, IsAnswerTo, IsServed, PlainParseError, memory, plain_error_of}
use Rattle.promql_syntax.specs.TreePatterns.{HasSmallPatterns}
use Rattle.promql_syntax.specs.declared.parser.ParseError.{ParseError}
use Rattle.promql_syntax.specs.declared.parser.ParseError.TheVariants as errors
use Rattle.promql_syntax.proofs.building.BuiltTyped.{CheckedTyped}
use Rattle.promql_rewrite.specs.Faithful.{Means, MeansOther}
use Rattle.promql_rewrite.specs.Judged.{IsJudged}
use Rattle.promql_rewrite.specs.PrintableTrees.{IsPrintable}
use Rattle.promql_rewrite.proofs.readback.NormalPrintable.{printable_of_normal}
use Rattle.promql_rewrite.proofs.readback.ParsedPrintable.{parsed_printable}
use Rattle.promql_rewrite.proofs.readback.PrintableByNodes.{printable_apart, printable_joined}
use Rattle.promql_rewrite.proofs.readback.PrintableTexts.{printable_line}

pub printed_line : (g : Text → Answer) (t : Tree) → IsPrintable g t → HasTree g (text t) (normal t)
printed_line g t h = printable_line g t (printable_joined g t h)

pub read_back_printable : CheckedTyped → (g : Text → Answer) (t : Tree) → HasTree g (text t) (normal t) → IsPrintable g t
read_back_printable typed g t h = printable_apart g t (printable_of_normal g t (parsed_printable g typed (text t) (normal t) h))

no_memory : (e : ParseError) → plain_error_of e ≡ memory → e ≡ errors.Memory
no_memory errors.Memory e = refl
no_memory other e = cc

is_no : false ≡ true → ⊥
is_no e = cc

module _ (typed : CheckedTyped)
    (has : (g : Text → Answer) (source : Text) (answers : List Asked) (t : Tree) → IsServed source answers (Ok t) → AreAnswersOf g answers → HasTree g source t)
    (is : (g : Text → Answer) (source : Text) (answers : List Asked) (answer : Result Tree PlainParseError) (t : Tree) → IsServed source answers answer → AreAnswersOf g answers → HasTree g source t → answer ≡ Ok t)
    (small_has : (source : Text) (answers : List Asked) (t : Tree) → IsServed source answers (Ok t) → HasSmallPatterns t → HasTree pattern_answer source t)
    (small_is : (source : Text) (answers : List Asked) (answer : Result Tree PlainParseError) (t : Tree) → IsServed source answers answer → HasTree pattern_answer source t → HasSmallPatterns t → answer ≡ Ok t)
    (small_normal : (t : Tree) → HasSmallPatterns t → HasSmallPatterns (normal t)) where
  pub judged_yes : (t : Tree) (line : Text) → line ≡ text t → Means line t → IsJudged true t
  judged_yes t line same m =
      let served = subst (λ z. IsServed z m.answers (Ok (normal t))) same m.served in
      record {
        answers = m.answers;
        answer = Ok (normal t);
        served = served;
        says = (λ yes. refl, λ e. refl);
        decides = λ g agree. (λ yes. read_back_printable typed g t (has g (text t) m.answers (normal t) served agree), λ h. refl);
        small = λ few. (λ yes. read_back_printable typed pattern_answer t (small_has (text t) m.answers (normal t) served (small_normal t few)), λ h. refl);
      }

  judged_no : (t : Tree) (answer : Result Tree PlainParseError) → answer ≢ Ok (normal t) → (answers : List Asked) → IsServed (text t) answers answer → IsJudged false t
  judged_no t answer other answers served = record {
    answers = answers;
    answer = answer;
    served = served;
    says = (λ yes. absurd (is_no yes), λ e. absurd (other e));
    decides = λ g agree. (λ yes. absurd (is_no yes), λ h. absurd (other (is g (text t) answers answer (normal t) served agree (printed_line g t h))));
    small = λ few. (λ yes. absurd (is_no yes), λ h. absurd (other (small_is (text t) answers answer (normal t) served (printed_line pattern_answer t h) (small_normal t few))));
  }

  pub judged_rejected : (t : Tree) (e : ParseError) → IsAnswerTo (text t) (Err (plain_error_of e)) × (e ≢ errors.Memory) → IsJudged false t
  judged_rejected t e h =
      let a = h.0.served (λ same. h.1 (no_memory e cc)) in
      judged_no t (Err (plain_error_of e)) (λ same. cc) a.0 a.1

  pub judged_other : (t : Tree) → MeansOther (text t) t → IsJudged false t
  judged_other t m =
      let a = m.1.served (λ same. cc) in
      judged_no t (Ok m.0) (λ same. m.2 cc) a.0 a.1
