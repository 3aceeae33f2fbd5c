-- The answer to a line for which an allocation failed.
use Rattle.std.proofs.Common.{◌≡◌, None, codes, false, inr, refl}
use Rattle.std.specs.Fmt.{digits}
use Rattle.serde_json.proofs.OnLiterals.{serde_json_on_literals}
use Rattle.serde_json.specs.Written.{compact_text}
use Rattle.promql_text.specs.Texts.{Text}
use Rattle.promql_query.specs.declared.settings.Settings.{Settings}
use Rattle.promql_query.specs.Batch.{IsLineAnswer, error_value}

abbrev pub memory_answer : Text
memory_answer = codes "{\"code\":1,\"error\":\"out of memory\"}"

memory_text : memory_answer ≡ compact_text (error_value 1 (codes "out of memory") None)
unfolding digits serde_json_on_literals
memory_text = refl

pub memory_is_answered : (settings : Settings) (line : Text) → IsLineAnswer settings line memory_answer false
memory_is_answered settings line = inr (refl, (codes "out of memory", memory_text))
