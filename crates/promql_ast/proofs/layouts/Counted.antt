-- What a writer that counts has counted.
use Rattle.std.proofs.Common.{◌≡◌, ◌+◌, ◌≤◌, List, [], ◌∷◌, length, ap, arith, Option, Some, None, length-append}
use Rattle.std.specs.List.{FoldsTo, concat}
use Rattle.std.specs.Option.{IfSome}
use Rattle.std.specs.Fmt.{WritesInCalls}
use Rattle.promql_text.specs.Texts.{Text}
use Rattle.promql_text.specs.PrintedLen.{cap_usize, usize_max}
use Rattle.promql_ast.specs.declared.layout.display_len.Count.{Count}

abbrev counts : Count → Text → Count → Type 0
counts s bs t = t.bytes ≡ cap_usize (s.bytes + length bs)

bytes_add_up : (w : Count) (parts : List Text) (v : Count) → w.bytes ≤ usize_max → FoldsTo counts w parts v → v.bytes ≡ cap_usize (w.bytes + length (concat parts))
bytes_add_up w [] v fits p = omega (arith, ap (λ (s : Count). s.bytes) p)
bytes_add_up w (x ∷ xs) v fits p =
    omega (arith, p.1, bytes_add_up p.0 xs v (omega (arith, p.1)) p.2, length-append x (concat xs))

pub counted_text : (w v : Count) (bs : Text) → w.bytes ≡ 0 → WritesInCalls counts w bs v → v.bytes ≡ cap_usize (length bs)
counted_text w v bs fresh p = omega (arith, fresh, ap length p.whole, bytes_add_up w p.parts v (omega (arith, fresh)) p.calls)

pub some_weaker : {X : Type 0} (o : Option X) (P Q : X → Type 0) → ((x : X) → P x → Q x) → IfSome o P → IfSome o Q
some_weaker None P Q f h = tt
some_weaker (Some x) P Q f h = f x h
