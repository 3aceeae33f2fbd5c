-- Rows of the table of functions, by the first letter of their names (private: nothing rests on believing it).
use Rattle.std.specs.Prelude.{ℕ, Bool, not, ◌==◌}
use Rattle.promql_text.specs.DecimalForm.{front}
use Rattle.promql_kind.specs.Functions.{Row}

-- the row's name begins with another letter
abbrev pub begins_otherwise : ℕ → Row → Bool
begins_otherwise letter (name, args, variadic, gives, experimental) = not (front name.now == letter)
