-- `==` of errors holds exactly of one kind with the same data.
use Rattle.std.proofs.Common.{◌≡◌, ℕ, eqb, IsTrue, false, refl, ap, rules, string_bytes}
use Rattle.std.specs.Prelude.{◌↔◌}
use Rattle.std.specs.Bool.{Decides}
use Rattle.std.proofs.lemmas.Bool.{eq-eqb}
use Rattle.std.proofs.lemmas.Bool.Decides.{Decides-like}
use Rattle.std.proofs.lemmas.Slice.Eq.{bytes_eq-Decides}
use denote.Enum.Bare.{sameb, same_true, true_same}
use Rattle.promql_text.specs.Equalities.{IsSameBy}
use Rattle.promql_text.specs.declared.number.NumberFault.{NumberFault}
use Rattle.promql_text.specs.declared.duration.DurationFault.{DurationFault}
use Rattle.promql_text.specs.contracts.number.NumberFault.{the_type as number_type}
use Rattle.promql_text.specs.contracts.duration.DurationFault.{the_type as duration_type}
use Rattle.promql_token.specs.contracts.fault.LexFaultPartialEq.TheImpl as lex_faults
use Rattle.promql_ast.proofs.equality.SameFaults.{fault_Decides, at_Decides}
use Rattle.promql_syntax.specs.ParseAnswers.{PlainParseError, plain_error_of, memory, lexical, empty, syntax, too_deep, fault}
use Rattle.promql_syntax.specs.BuildErrors.{number, quoted, duration, at, pattern, unknown_function, check}
use Rattle.promql_syntax.specs.declared.parser.ParseError.{ParseError}
use Rattle.promql_syntax.specs.declared.parser.ParseError.TheVariants.{Memory, Lex, Empty, Syntax, TooDeep, Number, Quoted, Duration, At, Pattern, UnknownFunction, Check}
use Rattle.promql_syntax.specs.contracts.parser.ParseErrorPartialEq.TheImpl as errors

number_Decides : (a b : NumberFault) → Decides (sameb number_type a b) (a ≡ b)
number_Decides a b = (same_true number_type (search rules) a b, true_same number_type a b)

duration_Decides : (a b : DurationFault) → Decides (sameb duration_type a b) (a ≡ b)
duration_Decides a b = (same_true duration_type (search rules) a b, true_same duration_type a b)

-- the number of the variant, by which other variants are told apart at once
rank : PlainParseError → ℕ
rank memory = 0
rank (lexical a) = 1
rank empty = 2
rank syntax = 3
rank too_deep = 4
rank (fault (number a)) = 5
rank (fault quoted) = 6
rank (fault (duration a)) = 7
rank (fault (at a)) = 8
rank (fault (pattern a)) = 9
rank (fault (unknown_function a)) = 10
rank (fault (check a)) = 11

error_apart : (a b : ParseError) → eqb (rank (plain_error_of a)) (rank (plain_error_of b)) ≡ false → errors.ghosts.eq a b ≡ false
unfolding rank
error_apart Memory Memory apart = cc
error_apart (Lex a) (Lex b) apart = cc
error_apart Empty Empty apart = cc
error_apart Syntax Syntax apart = cc
error_apart TooDeep TooDeep apart = cc
error_apart (Number a) (Number b) apart = cc
error_apart Quoted Quoted apart = cc
error_apart (Duration a) (Duration b) apart = cc
error_apart (At a) (At b) apart = cc
error_apart (Pattern a) (Pattern b) apart = cc
error_apart (UnknownFunction a) (UnknownFunction b) apart = cc
error_apart (Check a) (Check b) apart = cc
error_apart _ _ apart = refl

apart_Decides : (a b : ParseError) → eqb (rank (plain_error_of a)) (rank (plain_error_of b)) ≡ false → IsTrue (errors.ghosts.eq a b) ↔ (plain_error_of a ≡ plain_error_of b)
apart_Decides a b apart = (
  λ yes. let no = error_apart a b apart in cc,
  λ same. let one = eq-eqb (rank (plain_error_of a)) (rank (plain_error_of b)) (ap rank same) in cc,
)

pub error_Decides : IsSameBy (λ f. f) lex_faults.ghosts.eq → IsSameBy plain_error_of errors.ghosts.eq
unfolding rank
error_Decides lex Memory Memory = ((λ _. refl), (λ _. refl))
error_Decides lex (Lex a) (Lex b) = Decides-like _ (λ e. ap lexical e) (λ e. cc) (lex a b)
error_Decides lex Empty Empty = ((λ _. refl), (λ _. refl))
error_Decides lex Syntax Syntax = ((λ _. refl), (λ _. refl))
error_Decides lex TooDeep TooDeep = ((λ _. refl), (λ _. refl))
error_Decides lex (Number a) (Number b) = Decides-like _ (λ e. ap (λ f. fault (number f)) e) (λ e. cc) (number_Decides a b)
error_Decides lex Quoted Quoted = ((λ _. refl), (λ _. refl))
error_Decides lex (Duration a) (Duration b) = Decides-like _ (λ e. ap (λ f. fault (duration f)) e) (λ e. cc) (duration_Decides a b)
error_Decides lex (At a) (At b) = Decides-like _ (λ e. ap (λ f. fault (at f)) e) (λ e. cc) (at_Decides a b)
error_Decides lex (Pattern a) (Pattern b) = Decides-like _ (λ e. ap (λ v. fault (pattern v)) e) (λ e. cc) (bytes_eq-Decides (string_bytes a) (string_bytes b))
error_Decides lex (UnknownFunction a) (UnknownFunction b) = Decides-like _ (λ e. ap (λ v. fault (unknown_function v)) e) (λ e. cc) (bytes_eq-Decides (string_bytes a) (string_bytes b))
error_Decides lex (Check a) (Check b) = Decides-like _ (λ e. ap (λ f. fault (check f)) e) (λ e. cc) (fault_Decides a b)
error_Decides lex a b = apart_Decides a b refl
