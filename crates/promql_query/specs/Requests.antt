-- What a line of a batch asks for (docs/reference/programs.md, "Requests").
use Rattle.std.specs.Prelude.{ℕ, ℤ, ◌-◌, ◌^◌, Bool, true, false, [], ◌∷◌, Option, Some, None, ◌&&◌, if◌then◌else◌, option_and_then, option_map, is_none, is_some, bytes_eq, codes, nat_le}
use Rattle.std.specs.List.{list_any}
use Rattle.std.specs.Option.{option_map_or}
use Rattle.serde_json.specs.Data.{Data, string, object, Members, no_members, member}
use Rattle.serde_json.specs.Read.{read}
use Rattle.serde_json.specs.Find.{as_bool, as_i64, as_number, as_str, as_u64, get}
use Rattle.promql_text.specs.Texts.{Text}
use Rattle.promql_when.specs.declared.times.Times.{Times}
use Rattle.promql_query.specs.declared.mode.Mode.{Mode}
use Rattle.promql_query.specs.declared.mode.Mode.TheVariants as mode
use Rattle.promql_query.specs.declared.mode.Wanted.{Wanted}
use Rattle.promql_query.specs.declared.mode.Wanted.TheVariants as wanted
use Rattle.promql_query.specs.declared.request.Names.{Names}
use Rattle.promql_query.specs.declared.request.Names.TheVariants as names
use Rattle.promql_query.specs.declared.request_fault.RequestFault.{RequestFault}
use Rattle.promql_query.specs.declared.request_fault.RequestFault.TheVariants as fault
use Rattle.promql_run.specs.declared.format.Format.{Format}
use Rattle.promql_run.specs.declared.format.Format.TheVariants as format
use Rattle.promql_run.specs.Running.{format_named}

abbrev pub is_member_name : Text → Bool
is_member_name key =
    list_any (bytes_eq key)
    (codes "query" ∷ codes "mode" ∷ codes "level" ∷ codes "width" ∷ codes "enforce" ∷ codes "places" ∷ codes "times" ∷ codes "id" ∷ [])

abbrev pub is_time_name : Text → Bool
is_time_name key =
    list_any (bytes_eq key)
    (codes "start" ∷ codes "end" ∷ codes "time" ∷ codes "step" ∷ codes "lookback" ∷ codes "default_step" ∷ codes "left_open" ∷ [])

abbrev pub is_known : Names → Text → Bool
is_known names.OfRequest = is_member_name
is_known names.OfTimes = is_time_name

-- the first member with another name
abbrev pub unknown_name : Names → Members → Option Text
unknown_name known no_members = None
unknown_name known (member key d ms) = if is_known known key then unknown_name known ms else Some key

-- the first member that no request has
abbrev pub unknown_in : Data → Option Text
unknown_in (object ms) = unknown_name names.OfRequest ms
unknown_in _ = None

-- the query
abbrev pub query_in : Data → Option Text
query_in (string query) = Some query
query_in d = option_and_then as_str (get (codes "query") d)

-- the text of the matcher to enforce, if there is one
abbrev pub matcher_in : Data → Option Text
matcher_in d = option_and_then as_str (get (codes "enforce") d)

-- the format of the member `mode`, or of the command
abbrev pub named_in : Format → Option Data → Option Format
named_in asked d = option_map_or (λ d. option_and_then format_named (as_str d)) d (Some asked)

-- a whole number of at most `most`, or the default
abbrev pub number_in : ℕ → ℕ → Option Data → Option ℕ
number_in default most d =
    option_map_or (λ d. option_and_then (λ n. if nat_le n most then Some n else None) (option_and_then as_u64 (as_number d))) d (Some default)

-- the level and the width of a layout, which no other format has
abbrev pub format_with : Option Data → Option Data → Format → Option Format
format_with level width (format.Pretty layout) =
    option_and_then (λ l. option_and_then (λ w. Some (format.Pretty (record { level = l; width = w })))
    (number_in layout.width (2 ^ 64 - 1) width)) (number_in layout.level 512 level)
format_with None None other = Some other
format_with level width other = None

-- the matcher to enforce is a text, if there is one
abbrev pub has_matcher_text : Data → Bool
has_matcher_text d = option_map_or (λ matcher. is_some (as_str matcher)) (get (codes "enforce") d) true

-- how the query is printed, where the command asks for this format
abbrev pub format_in : Format → Data → Option Format
format_in asked d =
    if is_none (unknown_in d) && has_matcher_text d
    then option_and_then (format_with (get (codes "level") d) (get (codes "width") d)) (named_in asked (get (codes "mode") d))
    else None

-- a form alone has places, of the query as it is
abbrev pub mode_with : Option Bool → Option Text → Format → Option Mode
mode_with (Some false) matcher format = Some (mode.Plain format)
mode_with (Some true) None format.Json = Some mode.Placed
mode_with places matcher format = None

-- whether places are asked for
abbrev pub places_in : Data → Option Bool
places_in d = option_map_or as_bool (get (codes "places") d) (Some false)

-- the mode in which it is printed
abbrev pub mode_in : Format → Data → Option Mode
mode_in asked d = option_and_then (mode_with (places_in d) (matcher_in d)) (format_in asked d)

-- ---- times

-- no other mode is asked for
abbrev pub has_no_mode : Data → Bool
has_no_mode d = is_none (get (codes "mode") d) && (is_none (get (codes "level") d) && (is_none (get (codes "width") d) && is_none (get (codes "places") d)))

-- an object whose members all have names of times
abbrev pub has_time_names : Data → Bool
has_time_names (object ms) = is_none (unknown_name names.OfTimes ms)
has_time_names d = false

-- a time of 64 bits
abbrev pub time_at : Data → Option ℤ
time_at d = option_and_then as_i64 (as_number d)

-- a length of 64 bits, or the default
abbrev pub length_in : ℕ → Option Data → Option ℕ
length_in default d = number_in default (2 ^ 64 - 1) d

-- an instant has neither a start, an end nor a step
abbrev pub has_no_grid : Data → Bool
has_no_grid d = is_none (get (codes "start") d) && (is_none (get (codes "end") d) && is_none (get (codes "step") d))

-- the first time and the last, which an instant is both
abbrev pub ends_of : Option Data → Option Data → Option (ℤ × ℤ)
ends_of start end =
    option_and_then (λ s. option_and_then (λ e. Some (s, e)) (option_and_then time_at end)) (option_and_then time_at start)

abbrev pub ends_in : Data → Option (ℤ × ℤ)
ends_in d =
    option_map_or (λ t. if has_no_grid d then option_map (λ x. (x, x)) (time_at t) else None) (get (codes "time") d)
    (ends_of (get (codes "start") d) (get (codes "end") d))

abbrev pub flag_in : Bool → Option Data → Option Bool
flag_in default d = option_map_or as_bool d (Some default)

-- five minutes and a minute, unless the request says otherwise
abbrev pub times_with : Data → ℤ × ℤ → Option Times
times_with d (start, end) =
    option_and_then (λ step. option_and_then (λ lookback. option_and_then (λ default_step. option_and_then (λ is_left_open.
    Some (record { start = start; end = end; step = step; lookback = lookback; default_step = default_step; is_left_open = is_left_open }))
    (flag_in true (get (codes "left_open") d))) (length_in 60000 (get (codes "default_step") d)))
    (length_in 300000 (get (codes "lookback") d))) (length_in 0 (get (codes "step") d))

abbrev pub times_in : Data → Option Times
times_in d = if has_time_names d then option_and_then (times_with d) (ends_in d) else None

-- the times of the query are asked about, and nothing else
abbrev pub timed_in : Data → Data → Option Wanted
timed_in d times =
    if is_none (unknown_in d) && (has_matcher_text d && has_no_mode d) then option_map (λ ts. wanted.Times ts) (times_in times) else None

abbrev pub wanted_in : Format → Data → Option Wanted
wanted_in asked d = option_map_or (timed_in d) (get (codes "times") d) (option_map (λ m. wanted.Print m) (mode_in asked d))

-- what a line asks for: a query, a matcher to enforce if there is one, and what is wanted of it
abbrev pub requested : Format → Text → Option (Text × Option Text × Wanted)
requested asked line =
    option_and_then (λ d. option_and_then (λ query. option_map (λ w. (query, matcher_in d, w)) (wanted_in asked d)) (query_in d)) (read line)

-- ---- what is wrong with a line that asks for nothing, the first of these

abbrev pub layout_fault : Option Data → Format → RequestFault
layout_fault level (format.Pretty layout) = if is_none (number_in layout.level 512 level) then fault.Level else fault.Width
layout_fault level other = fault.NoLayout

abbrev pub places_fault : Data → RequestFault
places_fault d = if is_none (places_in d) then fault.Places else fault.NoPlaces

-- the format is told, or its level and its width are at fault
abbrev pub format_fault : Data → Format → RequestFault
format_fault d named =
    let level = get (codes "level") d in
    if is_none (format_with level (get (codes "width") d) named) then layout_fault level named else places_fault d

abbrev pub print_fault : Format → Data → RequestFault
print_fault asked d = option_map_or (format_fault d) (named_in asked (get (codes "mode") d)) fault.Mode

abbrev pub lengths_fault : Data → RequestFault
lengths_fault d =
    if is_none (length_in 0 (get (codes "step") d)) then fault.Step
    else (if is_none (length_in 300000 (get (codes "lookback") d)) then fault.Lookback
    else (if is_none (length_in 60000 (get (codes "default_step") d)) then fault.DefaultStep else fault.LeftOpen))

-- of an instant, and of a first and a last time
abbrev pub instant_fault : Data → Data → RequestFault
instant_fault d t = if has_no_grid d then (if is_none (time_at t) then fault.Time else lengths_fault d) else fault.TimeBeside

abbrev pub grid_fault : Data → RequestFault
grid_fault d =
    if is_none (option_and_then time_at (get (codes "start") d)) then fault.Start
    else (if is_none (option_and_then time_at (get (codes "end") d)) then fault.End else lengths_fault d)

abbrev pub ends_fault : Data → RequestFault
ends_fault d = option_map_or (instant_fault d) (get (codes "time") d) (grid_fault d)

abbrev pub names_fault : Data → RequestFault
names_fault (object ms) = if is_none (unknown_name names.OfTimes ms) then ends_fault (object ms) else fault.TimesMember
names_fault d = fault.Times

abbrev pub times_fault : Data → Data → RequestFault
times_fault d times = if has_no_mode d then names_fault times else fault.TimesAlone

abbrev pub member_fault : Format → Data → RequestFault
member_fault asked d =
    if has_matcher_text d then option_map_or (times_fault d) (get (codes "times") d) (print_fault asked d) else fault.Enforce

abbrev pub value_fault : Format → Data → RequestFault
value_fault asked d = if is_none (query_in d) then fault.NoQuery else member_fault asked d

abbrev pub request_fault : Format → Text → RequestFault
request_fault asked line = option_map_or (value_fault asked) (read line) fault.NotJson

-- the first member of a line that no request has, if there is one
abbrev pub unknown_member : Text → Option Text
unknown_member line = option_and_then unknown_in (read line)

-- the id of a line, which its answer has, too
abbrev pub id_in : Text → Option Data
id_in line = option_and_then (get (codes "id")) (read line)
