-- An error of the parser that is passed on as a rejection is that error, and not of memory.
use Rattle.std.proofs.Common.{◌≡◌, refl, sym, ◌∙◌, subst}
use Rattle.std.specs.Prelude.{◌≢◌}
use Rattle.promql_syntax.specs.declared.parser.ParseError.{ParseError}
use Rattle.promql_syntax.specs.declared.parser.ParseError.TheVariants as parse_errors
use Rattle.promql_rewrite.specs.EnforceErrors.{IsOfEnforced, IsPassedOn, IsUnfaithful}
use Rattle.promql_rewrite.specs.FaithfulErrors.{IsRaised}
use Rattle.promql_rewrite.specs.declared.enforcing.EnforceError.{EnforceError}
use Rattle.promql_rewrite.specs.declared.enforcing.EnforceError.TheVariants as enforcing
use Rattle.promql_rewrite.specs.declared.faithful.NotFaithful.{NotFaithful}
use Rattle.promql_rewrite.specs.declared.faithful.NotFaithful.TheVariants.{IndentTooWide, Memory, OtherTree, Rejected}

pub raised_own : (f : ParseError) (r : NotFaithful) → IsRaised f r → (e : ParseError) → r ≡ Rejected e → (f ≡ e) × (e ≢ parse_errors.Memory)
raised_own parse_errors.Memory r raised e is = let both : Rejected e ≡ Memory = sym is ∙ raised in cc
raised_own f r raised e is =
    let both : Rejected f ≡ Rejected e = sym raised ∙ is in
    let own : f ≡ e = cc in
    (own, λ memory. let same : f ≡ parse_errors.Memory = own ∙ memory in cc)

pub passed_own : (f : ParseError) (r : EnforceError) → IsPassedOn f r → (e : ParseError) → r ≡ enforcing.Parse e → (f ≡ e) × (e ≢ parse_errors.Memory)
passed_own parse_errors.Memory r raised e is = let both : enforcing.Parse e ≡ enforcing.Memory = sym is ∙ raised in cc
passed_own f r raised e is =
    let both : enforcing.Parse f ≡ enforcing.Parse e = sym raised ∙ is in
    let own : f ≡ e = cc in
    (own, λ memory. let same : f ≡ parse_errors.Memory = own ∙ memory in cc)

-- an error of a line
pub of_enforced : (f : NotFaithful) (r : EnforceError) → IsUnfaithful f r → ¬ (f ≡ IndentTooWide) → ((e : ParseError) → f ≡ Rejected e → e ≢ parse_errors.Memory) → IsOfEnforced r
of_enforced Memory r passed flat own = subst IsOfEnforced (sym passed) tt
of_enforced IndentTooWide r passed flat own = absurd (flat refl)
of_enforced (Rejected e) r passed flat own = subst IsOfEnforced (sym passed) (own e refl)
of_enforced OtherTree r passed flat own = subst IsOfEnforced (sym passed) tt
