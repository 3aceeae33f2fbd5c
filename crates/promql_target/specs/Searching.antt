-- What a pass over the first tokens of a query found. Private: nothing rests on believing it.
use Rattle.std.specs.Prelude.{◌≡◌, ◌+◌, ◌≤◌, length, map, slice_get}
use Rattle.std.specs.Option.{option_or}
use Rattle.promql_text.specs.Texts.{Text}
use Rattle.promql_span.specs.Differences.{Tokens}
use Rattle.promql_span.specs.declared.target.Target.{Target}
use Rattle.promql_target.specs.Refusals.{first_refusal, kinds, refusal_at}
use Rattle.promql_target.specs.declared.refusal.FoundRefusal.{FoundRefusal}

-- these tokens are left
pub record IsSearched (target : Target) (s : Text) (left : Tokens) (f : FoundRefusal) : Type 0 where
  pub fits : f.index + length left ≤ length s
  pub first : first_refusal target s ≡ option_or f.first (slice_get (map (refusal_at s) (kinds target f.index f.place left)) 0)
