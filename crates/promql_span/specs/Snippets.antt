-- The line of a place, with a mark below it (docs/reference/grammar.md, "Places of errors"). A text is its characters
-- here.
use Rattle.std.specs.Prelude.{ℕ, ◌+◌, ◌-◌, ◌==◌, if◌then◌else◌, min, ◌∷◌, ◌++◌, drop, length, map, replicate, take}
use Rattle.std.specs.List.{after_last, before_first}
use Rattle.promql_span.specs.Locations.{characters_before, is_line_feed}
use Rattle.promql_span.specs.Visible.{visible}
use Rattle.promql_text.specs.Texts.{Text, code}
use Rattle.promql_span.specs.declared.span.Span.{Span}

-- below a character that is before the mark
abbrev pub blank : ℕ → ℕ
blank c = if c == 9 then 9 else code " "

-- of a line, what is before the mark and what is after it: 100 characters, 50 of them before it where both sides have more,
-- as they are shown
abbrev pub snippet_of : Text → Text → ℕ → Text
snippet_of left right marked =
    let before = drop (min (length left - 50) (length left + length right - 100)) left in
    let after = take (100 - length before) right in
    visible before ++ (visible after ++ code "\n" ∷ (map blank (visible before) ++ code "^" ∷ replicate (length (visible (take marked after)) - 1) (code "~")))

-- the mark begins at the start of the span, and is as long as the span and the line allow
abbrev pub snippet_text : Text → Span → Text
snippet_text cs span =
    let front = characters_before cs span.start in
    let rest = before_first is_line_feed (drop (length front) cs) in
    snippet_of (after_last is_line_feed front) (before_first (λ c. c == code "\r") rest) (length (characters_before cs span.end) - length front)
