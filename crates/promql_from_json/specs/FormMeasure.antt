-- How large the patterns of a form are together, by its objects alone (docs/reference/json.md, "The patterns of a form").
use Rattle.std.specs.Prelude.{ℕ, ◌+◌, ◌-◌, ◌^◌, min, ◌||◌, Option, Some, option_and_then, if◌then◌else◌, codes}
use Rattle.std.specs.Str.{bytes_eq}
use Rattle.serde_json.specs.Data.{Data, array, object, Items, no_items, item, Members, no_members, member}
use Rattle.serde_json.specs.Find.{as_str, get_member}
use Rattle.promql_text.specs.Texts.{Text}
use Rattle.promql_label.specs.PatternMeasure.{measure}

-- of a matcher with this operator and this value
abbrev pub pattern_size : Option Text → Option Text → ℕ
pattern_size (Some op) (Some value) = if bytes_eq op (codes "=~") || bytes_eq op (codes "!~") then measure value else 0
pattern_size _ _ = 0

-- of an object by itself, whatever it has beside `type` and `value`
abbrev pub own_size : Members → ℕ
own_size ms = pattern_size (option_and_then as_str (get_member (codes "type") ms)) (option_and_then as_str (get_member (codes "value") ms))

-- of a value, with all that is in it
abbrev mutual
  pub form_size : Data → ℕ
  form_size (array ds) = items_size ds
  form_size (object ms) = members_size ms + own_size ms
  form_size _ = 0

  pub items_size : Items → ℕ
  items_size no_items = 0
  items_size (item d ds) = form_size d + items_size ds

  pub members_size : Members → ℕ
  members_size no_members = 0
  members_size (member name d ms) = form_size d + members_size ms

-- at most the greatest number
abbrev pub patterns_size : Data → ℕ
patterns_size d = min (form_size d) (2 ^ 64 - 1)
