-- Aggregations with another number of arguments than their operator takes.
use Rattle.std.proofs.Common.{◌≡◌, ◌∙◌, ℕ, ◌+◌, true, false, Option, Err, refl, sym, ap, arith}
use Rattle.std.specs.Prelude.{if◌then◌else◌}
use Rattle.promql_token.specs.Ids.{is_aggregator_with_param}
use Rattle.promql_kind.specs.Modifiers.{Clause}
use Rattle.promql_ast.specs.Arguments.{count}
use Rattle.promql_ast.specs.Builds.{aggregate_args, aggregated_alone, aggregated_with}
use Rattle.promql_ast.specs.Faults.{Gives, rejected, node}
use Rattle.promql_ast.specs.Tree.{Trees, no_trees, first_tree}
use Rattle.promql_ast.specs.View.{tree_of}
use Rattle.promql_ast.specs.declared.fault.CheckError.{CheckError}
use Rattle.promql_ast.specs.declared.fault.CheckError.TheVariants.{Check}
use Rattle.promql_ast.specs.declared.fault.CheckFault.TheVariants.{Node}
use Rattle.promql_ast.specs.declared.fault.NodeFault.TheVariants.{ArgumentCount}
use Rattle.promql_ast.proofs.checking.Fallbacks.{rejects}

wrong_alone : (op : ℕ) (m : Option Clause) (ts : Trees) (n : ℕ) → count ts ≡ n + 1 → (count ts ≡ 1 → ⊥)
    → aggregated_alone op m ts ≡ rejected (node (ArgumentCount 1 (count ts)))
wrong_alone op m no_trees n some not = absurd (omega arith)
wrong_alone op m (first_tree e no_trees) n some not = absurd (not refl)
wrong_alone op m (first_tree e (first_tree f ts)) n some not = refl

wrong_with : (op : ℕ) (m : Option Clause) (ts : Trees) (n : ℕ) → count ts ≡ n + 1 → (count ts ≡ 2 → ⊥)
    → aggregated_with op m ts ≡ rejected (node (ArgumentCount 2 (count ts)))
wrong_with op m no_trees n some not = absurd (omega arith)
wrong_with op m (first_tree p no_trees) n some not = refl
wrong_with op m (first_tree p (first_tree e no_trees)) n some not = absurd (not refl)
wrong_with op m (first_tree p (first_tree e (first_tree f ts))) n some not = refl

pub miscounted_with : (op : ℕ) (m : Option Clause) (ts : Trees) (n expected found : ℕ) (e : CheckError) → is_aggregator_with_param op ≡ true
    → expected ≡ 2 → found ≡ count ts → found ≡ n + 1 → (found ≡ expected → ⊥) → e ≡ Check (Node (ArgumentCount expected found))
    → Gives ⊥ tree_of (Err e) (aggregate_args op m ts)
miscounted_with op m ts n expected found e with two same some not is =
    rejects e (ArgumentCount expected found) _ is
    (ap (λ b. if b then aggregated_with op m ts else aggregated_alone op m ts) with
    ∙ wrong_with op m ts n (sym same ∙ some) (λ is2. not (same ∙ is2 ∙ sym two))
    ∙ ap (λ k. rejected (node (ArgumentCount k (count ts)))) (sym two) ∙ ap (λ k. rejected (node (ArgumentCount expected k))) (sym same))

pub miscounted_alone : (op : ℕ) (m : Option Clause) (ts : Trees) (n expected found : ℕ) (e : CheckError) → is_aggregator_with_param op ≡ false
    → expected ≡ 1 → found ≡ count ts → found ≡ n + 1 → (found ≡ expected → ⊥) → e ≡ Check (Node (ArgumentCount expected found))
    → Gives ⊥ tree_of (Err e) (aggregate_args op m ts)
miscounted_alone op m ts n expected found e alone one same some not is =
    rejects e (ArgumentCount expected found) _ is
    (ap (λ b. if b then aggregated_with op m ts else aggregated_alone op m ts) alone
    ∙ wrong_alone op m ts n (sym same ∙ some) (λ is1. not (same ∙ is1 ∙ sym one))
    ∙ ap (λ k. rejected (node (ArgumentCount k (count ts)))) (sym one) ∙ ap (λ k. rejected (node (ArgumentCount expected k))) (sym same))
