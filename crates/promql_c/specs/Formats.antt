-- In which formats a call prints a query, and what it renames (docs/guide/bindings.md, "Calls").
use Rattle.std.specs.Prelude.{ℕ, ◌==◌, ◌||◌, nat_le, not, if◌then◌else◌, Option, Some, None, option_map}
use Rattle.promql_c.specs.declared.calls.TheConstants.{SORTED_MATCHERS}
use Rattle.promql_formatter.specs.declared.options.FormatOptions.{FormatOptions}
use Rattle.promql_query.specs.declared.mode.Mode.{Mode}
use Rattle.promql_query.specs.declared.mode.Mode.TheVariants.{Plain, Placed}
use Rattle.promql_query.specs.declared.renamed_line.Named.{Named}
use Rattle.promql_query.specs.declared.renamed_line.Named.TheVariants as named
use Rattle.promql_run.specs.declared.format.Format.{Format}
use Rattle.promql_run.specs.declared.format.Format.TheVariants.{Pretty, Line, Json}
use Rattle.promql_span.specs.declared.limits.Limits.{Limits}

-- the format of a mode's number, with the level and the width of a layout
abbrev pub format_numbered : ℕ → ℕ → ℕ → Option Format
format_numbered mode level width =
    if mode == 0 then Some Line
    else (if mode == 1 then (if nat_le level 512 then Some (Pretty (record { level = level; width = width })) else None)
    else (if mode == 2 then Some Json else None))

-- the mode of a number: a format, or the JSON form with places
abbrev pub mode_numbered : ℕ → ℕ → ℕ → Option Mode
mode_numbered mode level width = if mode == 3 then Some Placed else option_map (λ format. Plain format) (format_numbered mode level width)

-- what is renamed, by its number
abbrev pub named_numbered : ℕ → Option Named
named_numbered kind = if kind == 0 then Some named.Metric else (if kind == 1 then Some named.Label else None)

-- how a query is laid out for people: as it is written, or with sorted matchers, or neither
abbrev pub format_options : Limits → ℕ → ℕ → ℕ → FormatOptions
format_options limits width indent_width spelling = record {
  width = width;
  indent_width = indent_width;
  keep_spelling = not (spelling == 0 || spelling == SORTED_MATCHERS);
  sort_matchers = spelling == SORTED_MATCHERS;
  max_output = limits.max_output;
}
