use Rattle.std.proofs.Common.{◌≡◌, ◌≢◌, ◌∙◌, ◌⊎◌, Err, Ok, Result, inl, inr, refl, sym}
use Rattle.std.specs.Prelude.{IfErr, IfOk}
use Rattle.promql_ast.specs.Tree.{Tree}
use Rattle.promql_ast.specs.View.{tree_of}
use Rattle.promql_ast.specs.declared.expr.Expr.{Expr}
use Rattle.serde_json.specs.Data.{Data}
use Rattle.promql_json.specs.Json.{json}
use Rattle.promql_from_json.specs.Readable.{IsNoForm, IsReadable}
use Rattle.promql_from_json.specs.declared.from_error.FromJsonError.{FromJsonError}
use Rattle.promql_from_json.specs.declared.from_error.FromJsonError.TheVariants.{Memory, Misfit, NotJson}
use Rattle.promql_from_json.proofs.laws.forms_read_back.Goals as goal

read_back : (t : Tree) (d : Data) (read : Result Expr FromJsonError) → IsReadable t → json t ≡ Ok d
    → IfOk read (λ e. json (tree_of e) ≡ Ok d) → IfErr read (λ e. e ≢ Memory → IsNoForm d)
    → (read ≡ Err Memory) ⊎ ((e : Expr) × (read ≡ Ok e) × (json (tree_of e) ≡ json t))
read_back t d (Ok e) fine has ok err = inr (e, refl, ok ∙ sym has)
read_back t d (Err Memory) fine has ok err = inl refl
read_back t d (Err NotJson) fine has ok err = absurd (err (λ h. cc) t fine has)
read_back t d (Err (Misfit m)) fine has ok err = absurd (err (λ h. cc) t fine has)

pub returns : goal.returns
returns c = read_back
