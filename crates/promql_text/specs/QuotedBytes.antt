-- What an iterator over a quoted text has left (docs/reference/texts.md, "Escaping").
use Rattle.std.specs.Prelude.{◌++◌}
use Rattle.std.specs.Str.Iter.{bytes_rest}
use Rattle.promql_text.specs.declared.quoted.QuotedBytes.{QuotedBytes}
use Rattle.promql_text.specs.Quoting.{escaped_text}
use Rattle.promql_text.specs.Texts.{Text}

abbrev pub bytes_left : QuotedBytes → Text
bytes_left s = bytes_rest s.pending ++ (escaped_text (bytes_rest s.rest) ++ bytes_rest s.close)
