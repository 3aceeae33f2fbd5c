-- How errors are passed on where a matcher is enforced. Private: nothing rests on believing it.
use Rattle.std.specs.Prelude.{◌≡◌, ◌≢◌}
use Rattle.promql_syntax.specs.declared.parser.ParseError.{ParseError}
use Rattle.promql_syntax.specs.declared.parser.ParseError.TheVariants as parse
use Rattle.promql_rewrite.specs.declared.enforcing.EnforceError.{EnforceError}
use Rattle.promql_rewrite.specs.declared.enforcing.EnforceError.TheVariants as error
use Rattle.promql_rewrite.specs.declared.faithful.NotFaithful.{NotFaithful}
use Rattle.promql_rewrite.specs.declared.faithful.NotFaithful.TheVariants as faithful

abbrev pub IsPassedOn : ParseError → EnforceError → Type 0
IsPassedOn parse.Memory e = e ≡ error.Memory
IsPassedOn other e = e ≡ error.Parse other

abbrev pub IsUnfaithful : NotFaithful → EnforceError → Type 0
IsUnfaithful faithful.Memory e = e ≡ error.Memory
IsUnfaithful other e = e ≡ error.Unfaithful other

-- why a line is not faithful: no allocation is a reason, and no line is indented
abbrev pub IsOfLine : NotFaithful → Type 0
IsOfLine (faithful.Rejected e) = e ≢ parse.Memory
IsOfLine faithful.OtherTree = Unit {0}
IsOfLine _ = ⊥

-- an error of the line of an enforced tree
abbrev pub IsOfEnforced : EnforceError → Type 0
IsOfEnforced error.Memory = Unit {0}
IsOfEnforced (error.Unfaithful f) = IsOfLine f
IsOfEnforced _ = ⊥
