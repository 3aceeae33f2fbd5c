use Rattle.std.proofs.Common.{◌≡◌, take, false}
use Rattle.std.specs.List.{list_any}
use Rattle.std.specs.Str.{bytes_eq}
use Rattle.promql_token.specs.Ids.{text_of}
use Rattle.promql_from_json.proofs.read_values.id_of_text.Given as goal

abbrev pub invariant-loop-id : goal.invariant-loop-id
invariant-loop-id l = list_any (λ k. bytes_eq (text_of k) l.text) (take l.id-index l.ids) ≡ false
