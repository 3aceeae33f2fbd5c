-- These rules read nothing otherwise.
use Rattle.std.proofs.Common.{◌≡◌, ℕ, ◌+◌, cond, [], ◌∷◌, ◌++◌, refl, ap, ◌∙◌}
use Rattle.std.specs.Prelude.{Option, Some, None, option_and_then, option_map, option_to_list, slice_get}
use Rattle.promql_text.specs.Texts.{Text}
use Rattle.promql_token.specs.Cursor.{tokens_up_to_fault}
use Rattle.promql_token.specs.declared.ids.TheConstants.{T_LEFT_PAREN}
use Rattle.promql_span.specs.Differences.{Tokens, counted, difference, difference_at, is_of, kind_at, kinds, stands_for}
use Rattle.promql_span.specs.declared.differences.DifferenceKind.{DifferenceKind}
use Rattle.promql_span.specs.declared.limits.Limits.{Limits}
use Rattle.promql_span.specs.declared.target.Target.TheVariants.{Rules}

module _ (limits : Limits) (rules : limits.target ≡ Rules) where
  none_counted : (o : Option DifferenceKind) → counted limits o ≡ None
  none_counted None = refl
  none_counted (Some k) = ap (λ target. cond (is_of target limits.printed k) (Some k) None) rules

  no_kinds : (n before : ℕ) (ts : Tokens) → kinds limits n before ts ≡ []
  no_kinds n before [] = refl
  no_kinds n before (t ∷ ts) =
      ap (λ o. option_to_list (option_map (λ k. (n, k)) o) ++ kinds limits (n + 1) (stands_for before t.0) ts) (none_counted (kind_at before t ts))
      ∙ no_kinds (n + 1) (stands_for before t.0) ts

  pub no_difference : (s : Text) → difference limits s ≡ None
  no_difference s = ap (λ ks. option_and_then (difference_at s) (slice_get ks 0)) (no_kinds 0 T_LEFT_PAREN (tokens_up_to_fault s))
