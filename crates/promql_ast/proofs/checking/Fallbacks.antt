-- What builders make of expressions of the kinds that they do not take.
use Rattle.std.proofs.Common.{◌≡◌, None, Err, refl, sym, subst, ℕ}
use Rattle.promql_ast.specs.Builds.{at_given, minus, mode_given, negate_tree, offset_given, with_range, scalar_value}
use Rattle.promql_ast.specs.Faults.{Gives, Verdict, passes, rejected, node}
use Rattle.promql_ast.specs.Shifts.{Moment, Shift}
use Rattle.promql_ast.specs.View.{tree_of}
use Rattle.promql_ast.specs.declared.expr.Expr.{Expr, Subquery, Subquery', NumberLiteral, StringLiteral, VectorSelector, MatrixSelector}
use Rattle.promql_ast.specs.declared.fault.CheckError.{CheckError}
use Rattle.promql_ast.specs.declared.fault.CheckError.TheVariants.{Check}
use Rattle.promql_ast.specs.declared.fault.CheckFault.TheVariants.{Node}
use Rattle.promql_ast.specs.declared.fault.NodeFault.{NodeFault}
use Rattle.promql_ast.specs.declared.fault.NodeFault.TheVariants.{RangeBase, AtBase, OffsetBase, ModeBase}
use Rattle.promql_ast.specs.declared.range_mode.RangeMode.{RangeMode}

pub rejects : (e : CheckError) (f : NodeFault) (v : Verdict) → e ≡ Check (Node f) → v ≡ rejected (node f) → Gives ⊥ tree_of (Err e) v
rejects e f v is same = subst (λ x. Gives ⊥ tree_of (Err x) v) (sym is) same

pub no_scalar : (e : Expr) → ((x : _) → e ≡ NumberLiteral x → ⊥) → None ≡ scalar_value (tree_of e)
no_scalar (NumberLiteral x) h = absurd (h x refl)
no_scalar _ h = refl

pub minus_other : (e : Expr) → ((x : _) → e ≡ StringLiteral x → ⊥) → ((x : _) → e ≡ MatrixSelector x → ⊥)
    → minus (tree_of e) ≡ passes (negate_tree (tree_of e))
minus_other (StringLiteral x) s m = absurd (s x refl)
minus_other (MatrixSelector x) s m = absurd (m x refl)
minus_other _ s m = refl

pub ranged_other : (e : Expr) (n : ℕ) → ((x : _) → e ≡ VectorSelector x → ⊥) → with_range (tree_of e) n ≡ rejected (node RangeBase)
ranged_other (VectorSelector x) n v = absurd (v x refl)
ranged_other _ n v = refl

pub mode_other : (e : Expr) (mode : RangeMode) → ((x : _) → e ≡ MatrixSelector x → ⊥) → mode_given (tree_of e) mode ≡ rejected (node ModeBase)
mode_other (MatrixSelector x) mode m = absurd (m x refl)
mode_other _ mode m = refl

pub at_other : (e : Expr) (at : Moment) → ((x : _) → e ≡ VectorSelector x → ⊥) → ((x : _) → e ≡ MatrixSelector x → ⊥)
    → ((x : _) → e ≡ Subquery x → ⊥) → at_given (tree_of e) at ≡ rejected (node AtBase)
at_other (VectorSelector x) at v m s = absurd (v x refl)
at_other (MatrixSelector x) at v m s = absurd (m x refl)
at_other (Subquery' p x y z r w) at v m s =
    absurd (s (record { expr = record { ptr = p.ptr; alloc = p.alloc; value = x }; offset = y; at = z; range = r; step = w }) refl)
at_other _ at v m s = refl

pub offset_other : (e : Expr) (offset : Shift) → ((x : _) → e ≡ VectorSelector x → ⊥) → ((x : _) → e ≡ MatrixSelector x → ⊥)
    → ((x : _) → e ≡ Subquery x → ⊥) → offset_given (tree_of e) offset ≡ rejected (node OffsetBase)
offset_other (VectorSelector x) offset v m s = absurd (v x refl)
offset_other (MatrixSelector x) offset v m s = absurd (m x refl)
offset_other (Subquery' p x y z r w) offset v m s =
    absurd (s (record { expr = record { ptr = p.ptr; alloc = p.alloc; value = x }; offset = y; at = z; range = r; step = w }) refl)
offset_other _ offset v m s = refl
