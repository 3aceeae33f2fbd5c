-- The normal form of a tree is the tree with the normal forms of its parts.
use Rattle.std.proofs.Common.{◌≡◌, Bool, true, false, [], ◌∷◌, Option, Some, None, refl, ap}
use Rattle.std.specs.Prelude.{if◌then◌else◌, option_and_then}
use Rattle.promql_kind.specs.Modifiers.{including, excluding, Matching, matching, is_grouping}
use Rattle.promql_ast.specs.Mapped.{mapped}
use Rattle.promql_ast.specs.Normal.{normal, normal_clause, normal_matched, normal_matching, normal_selector, unless_default}
use Rattle.promql_ast.specs.NormalParts.{without_empty}
use Rattle.promql_ast.specs.Tree.{Tree}

none_kept : (b : Bool) → normal_matched b None ≡ None
none_kept true = refl
none_kept false = refl

including_kept : (b : Bool) (ls : _) → normal_matched b (Some (including ls)) ≡ Some (including ls)
including_kept true ls = refl
including_kept false ls = refl

excluding_kept : (b : Bool) (l : _) (ls : _) → normal_matched b (Some (excluding (l ∷ ls))) ≡ Some (excluding (l ∷ ls))
excluding_kept true l ls = refl
excluding_kept false l ls = refl

empty_dropped : (b : Bool) → normal_matched b (Some (excluding [])) ≡ (if b then Some (excluding []) else None)
empty_dropped true = refl
empty_dropped false = refl

matching_normal : (m : Option Matching) → normal_matching m ≡ option_and_then (λ m. unless_default (without_empty m)) m
matching_normal None = refl
matching_normal (Some (matching card None return_bool values)) =
    ap (λ c. unless_default (matching card c return_bool values)) (none_kept (is_grouping card))
matching_normal (Some (matching card (Some (including ls)) return_bool values)) =
    ap (λ c. unless_default (matching card c return_bool values)) (including_kept (is_grouping card) ls)
matching_normal (Some (matching card (Some (excluding [])) return_bool values)) =
    ap (λ c. unless_default (matching card c return_bool values)) (empty_dropped (is_grouping card))
matching_normal (Some (matching card (Some (excluding (l ∷ ls))) return_bool values)) =
    ap (λ c. unless_default (matching card c return_bool values)) (excluding_kept (is_grouping card) l ls)

pub normal_parts : (t : Tree)
    → normal t ≡ mapped normal_selector normal_clause (option_and_then (λ m. unless_default (without_empty m))) t
normal_parts t = λ i. mapped normal_selector normal_clause (λ m. matching_normal m i) t
