-- Tokens, lexemes and faults are equal exactly if their plain data are.
use Rattle.std.proofs.Common.{◌≡◌, ℕ, Option, Some, None, refl, ap, rules, string_bytes}
use Rattle.std.proofs.Math.Dec.{eqb}
use Rattle.std.specs.Bool.{Decides}
use Rattle.std.specs.Option.{option_eq}
use Rattle.std.proofs.lemmas.Bool.Decides.{Decides-and, Decides-eqb, Decides-like}
use Rattle.std.proofs.lemmas.Slice.Eq.{bytes_eq-Decides}
use denote.Enum.Bare.{sameb, same_true, true_same}
use Rattle.promql_text.specs.Equalities.{IsSameBy}
use Rattle.promql_text.specs.Texts.{Text}
use Rattle.promql_token.specs.declared.fault.LexError.TheVariants.{Memory, Fault}
use Rattle.promql_token.specs.declared.fault.LexFault.{LexFault}
use Rattle.promql_token.specs.declared.fault.LexFaultKind.{LexFaultKind}
use Rattle.promql_token.specs.declared.lexeme.Lexeme.{Lexeme}
use Rattle.promql_token.specs.contracts.fault.LexFaultKind.{the_type}
use Rattle.promql_token.specs.contracts.fault.LexFaultKindPartialEq.TheImpl as kinds
use Rattle.promql_token.specs.contracts.fault.LexFaultPartialEq.TheImpl as faults
use Rattle.promql_token.specs.contracts.fault.LexErrorPartialEq.TheImpl as errors
use Rattle.promql_token.specs.contracts.lexeme.LexemePartialEq.TheImpl as lexemes
use Rattle.promql_token.specs.contracts.token.TokenTypePartialEq.TheImpl as token_types
use Rattle.promql_token.specs.contracts.token.TokenPartialEq.TheImpl as tokens

bare_Decides : (a b : LexFaultKind) → Decides (sameb the_type a b) (a ≡ b)
bare_Decides a b = (same_true the_type (search rules) a b, true_same the_type a b)

option_Decides : (a b : Option ℕ) → Decides (option_eq eqb a b) (a ≡ b)
option_Decides None None = ((λ _. refl), (λ _. refl))
option_Decides (Some a) (Some b) = Decides-like _ (λ e. ap Some e) (λ e. cc) (Decides-eqb a b)
option_Decides _ _ = ((λ h. cc), (λ h. cc))

pub kind_Decides : IsSameBy (λ k. k) kinds.ghosts.eq
kind_Decides = bare_Decides

pub fault_Decides : IsSameBy (λ f. f) faults.ghosts.eq
fault_Decides a b =
    Decides-like _
    (λ same i. record { kind = same.0 i; at = same.1.0 i; ch = same.1.1 i })
    (λ same. (ap (λ (f : LexFault). f.kind) same, (ap (λ (f : LexFault). f.at) same, ap (λ (f : LexFault). f.ch) same)))
    (Decides-and _ _ (bare_Decides a.kind b.kind)
    (Decides-and _ _ (Decides-eqb a.at b.at) (option_Decides a.ch b.ch)))

pub error_Decides : IsSameBy (λ e. e) errors.ghosts.eq
error_Decides Memory Memory = ((λ _. refl), (λ _. refl))
error_Decides (Fault a) (Fault b) = Decides-like _ (λ e. ap Fault e) (λ e. cc) (fault_Decides a b)
error_Decides _ _ = ((λ h. cc), (λ h. cc))

pub lexeme_Decides : IsSameBy (λ x. x) lexemes.ghosts.eq
lexeme_Decides a b =
    Decides-like _
    (λ same i. record { id = same.0 i; start = same.1.0 i; len = same.1.1 i })
    (λ same. (ap (λ (x : Lexeme). x.id) same, (ap (λ (x : Lexeme). x.start) same, ap (λ (x : Lexeme). x.len) same)))
    (Decides-and _ _ (Decides-eqb a.id b.id) (Decides-and _ _ (Decides-eqb a.start b.start) (Decides-eqb a.len b.len)))

pub token_type_Decides : IsSameBy (λ id. id) token_types.ghosts.eq
token_type_Decides a b = Decides-eqb a b

pub token_Decides : IsSameBy {Y = ℕ × Text} (λ t. (t.id, string_bytes t.val)) tokens.ghosts.eq
token_Decides a b =
    Decides-like _
    (λ same i. (same.0 i, same.1 i))
    (λ same. (ap (λ (t : ℕ × Text). t.0) same, ap (λ (t : ℕ × Text). t.1) same))
    (Decides-and _ _ (Decides-eqb a.id b.id) (bytes_eq-Decides (string_bytes a.val) (string_bytes b.val)))
