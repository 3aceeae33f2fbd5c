-- These rules reject nothing.
use Rattle.std.proofs.Common.{◌≡◌, ℕ, ◌+◌, [], ◌∷◌, ◌++◌, refl, ap, ◌∙◌}
use Rattle.std.specs.Prelude.{Option, Some, None, map, option_map, option_to_list, slice_get}
use Rattle.promql_text.specs.Texts.{Text}
use Rattle.promql_token.specs.Cursor.{tokens_up_to_fault}
use Rattle.promql_span.specs.Differences.{Tokens}
use Rattle.promql_span.specs.declared.differences.Printed.{Printed}
use Rattle.promql_span.specs.declared.differences.Printed.TheVariants.{Layout, Nothing, SortedLayout, Tree}
use Rattle.promql_span.specs.declared.limits.Limits.{Limits}
use Rattle.promql_span.specs.declared.target.Target.TheVariants.{Rules}
use Rattle.promql_target.specs.Areas.{after, start}
use Rattle.promql_target.specs.Refusals.{checked_by, counted, first_refusal, kind_at, kinds, refusal, refusal_at}
use Rattle.promql_target.specs.declared.area.Place.{Place}
use Rattle.promql_target.specs.declared.refusal.RefusalKind.{RefusalKind}

none_counted : (o : Option RefusalKind) → counted Rules o ≡ None
none_counted None = refl
none_counted (Some k) = refl

no_kinds : (n : ℕ) (place : Place) (ts : Tokens) → kinds Rules n place ts ≡ []
no_kinds n place [] = refl
no_kinds n place (t ∷ ts) =
    ap (λ o. option_to_list (option_map (λ k. (n, k)) o) ++ kinds Rules (n + 1) (after place t.0) ts) (none_counted (kind_at place t ts)) ∙ no_kinds (n + 1) (after place t.0) ts

pub no_refusal : (s : Text) → first_refusal Rules s ≡ None
no_refusal s = ap (λ ks. slice_get (map (refusal_at s) ks) 0) (no_kinds 0 start (tokens_up_to_fault s))

not_checked : (printed : Printed) → checked_by printed Rules ≡ Rules
not_checked Tree = refl
not_checked Layout = refl
not_checked SortedLayout = refl
not_checked Nothing = refl

pub nothing_refused : (limits : Limits) → limits.target ≡ Rules → (s : Text) → refusal limits s ≡ None
nothing_refused limits rules s =
    ap (λ target. first_refusal (checked_by limits.printed target) s) rules ∙ ap (λ target. first_refusal target s) (not_checked limits.printed) ∙ no_refusal s
