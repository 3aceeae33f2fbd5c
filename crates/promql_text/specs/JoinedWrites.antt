-- What the calls of a list's printer write (private: nothing rests on believing it).
use Rattle.std.specs.Prelude.{Result}
use Rattle.std.specs.Borrow.{Bor, MutBor}
use Rattle.std.specs.declared.fmt.Error.{Error}
use Rattle.std.specs.declared.fmt.Formatter.{Formatter}
use Rattle.promql_text.specs.Texts.{Text}

-- each of these calls writes the text of its item, as `Writes` says of a call
abbrev pub WritesBy : {T W : Type 0} → (Formatter W → Result (Unit {0}) Error → Text → Formatter W → Type 0)
    → (Bor T → MutBor (Formatter W) → Result (Unit {0}) Error → MutBor (Formatter W) → Type 0) → (T → Text) → Type 0
WritesBy Writes called text = (item : _) (before : _) (r : _) (after : _) → called item before r after → Writes before.now r (text item.now) after.now
