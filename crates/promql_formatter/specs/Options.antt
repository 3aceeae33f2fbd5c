-- The options of a layout (docs/reference/formatting.md, "Options").
use Rattle.std.specs.Prelude.{◌≡◌, ◌<◌, ◌≤◌}
use Rattle.promql_span.specs.declared.limits.LongOutput.{LongOutput}
use Rattle.promql_formatter.specs.declared.format_error.FormatError.{FormatError}
use Rattle.promql_formatter.specs.declared.format_error.FormatError.TheVariants as error
use Rattle.promql_formatter.specs.declared.options.FormatOptions.{FormatOptions}
use Rattle.promql_formatter.specs.declared.options.WideOption.{WideOption}
use Rattle.promql_formatter.specs.declared.options.WideOption.TheVariants as wide

-- no line and no indentation is wider than it may be
abbrev pub AreWithin : FormatOptions → Type 0
AreWithin options = (options.width ≤ 65535) × (options.indent_width ≤ 16)

-- this one is wider, the lines before the indentations
abbrev pub IsTooWide : FormatOptions → WideOption → Type 0
IsTooWide options (wide.Lines width most) = (width ≡ options.width) × (most ≡ 65535) × (most < width)
IsTooWide options (wide.Indentations indent_width most) =
    (options.width ≤ 65535) × (indent_width ≡ options.indent_width) × (most ≡ 16) × (most < indent_width)

-- a layout would have so many bytes, which are more than it may have
abbrev pub IsTooLong : FormatOptions → LongOutput → Type 0
IsTooLong options long = (long.most ≡ options.max_output) × (long.most < long.len)

-- why a query has no layout: it would be too long, or an allocation failed; for private contracts
abbrev pub HasNoLayout : FormatOptions → FormatError → Type 0
HasNoLayout options (error.TooLong long) = IsTooLong options long
HasNoLayout options e = e ≡ error.Memory
