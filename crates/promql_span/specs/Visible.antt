-- Texts as people are shown them (docs/reference/texts.md, "Visible texts"). A text is its characters here.
use Rattle.std.specs.Prelude.{ℕ, Bool, not, ◌&&◌, ◌||◌, if◌then◌else◌, nat_lt, [], ◌∷◌, flat_map}
use Rattle.std.specs.Char.Escape.{escape_unicode, hex_digit_at}
use Rattle.promql_text.specs.Texts.{Text, code}
use Rattle.promql_token.specs.Ids.{is_one_of}
use Rattle.ucd_category.specs.GeneralCategory.{general_category}
use Rattle.ucd_category.specs.GeneralCategoryGroup.{in_group}
use Rattle.ucd_category.specs.declared.GeneralCategoryGroup.TheVariants.{Other, Separator}

-- a control character, a mark of writing direction, or another one that has no picture of its own
abbrev pub is_hidden : ℕ → Bool
is_hidden c = not (is_one_of (code " " ∷ 9 ∷ code "\n" ∷ []) c) && (in_group Separator (general_category c) || in_group Other (general_category c))

-- such a character as `\x1b`, or as `\u{202e}` from 256 on
abbrev pub visible_char : ℕ → Text
visible_char c =
    if not (is_hidden c) then c ∷ []
    else if nat_lt c 0x100 then code "\\" ∷ 120 ∷ hex_digit_at 0x10 c ∷ hex_digit_at 1 c ∷ []
    else escape_unicode c

abbrev pub visible : Text → Text
visible = flat_map visible_char
