-- What a walk for windows leaves. Private: nothing rests on believing it.
use Rattle.std.specs.Prelude.{◌≡◌, true, false, List, ◌++◌, Option, Some, None, Result, Ok, Err}
use Rattle.promql_ast.specs.Tree.{Tree}
use Rattle.promql_when.specs.Found.{IsErrorAt}
use Rattle.promql_when.specs.Windows.{is_fitting}
use Rattle.promql_when.specs.declared.overflow.WindowsError.{WindowsError}
use Rattle.promql_when.specs.declared.times.Window.{Window}

-- after the ones before it these, all of which 64 bits hold, or the first node of which they do not
abbrev pub Walks : {A : Type 0} → Result (Unit {0}) WindowsError → List A → List A → List A → Option Tree → Type 0
Walks (Ok x) before after ws overflow = (after ≡ before ++ ws) × (overflow ≡ None)
Walks (Err e) before after ws overflow = IsErrorAt overflow e

-- a window, where 64 bits hold it
abbrev pub Fits : Option Window → Window → Type 0
Fits (Some w) v = (w ≡ v) × (is_fitting v ≡ true)
Fits None v = is_fitting v ≡ false
