-- The items of a printed line, without white space, are the tokens of its derivation.
use Rattle.std.proofs.Common.{◌≡◌, ℕ, zero, suc, ◌+◌, refl, sym, ◌∙◌, ap, Bool, true, false, cond, not, Option, Some, None, List, [], ◌∷◌, ◌++◌, append-nil, append_assoc}
use Rattle.std.specs.Prelude.{if◌then◌else◌}
use Rattle.promql_text.specs.Texts.{Text}
use Rattle.promql_ast.specs.Lines.{is_longer}
use Rattle.promql_grammar.specs.declared.token_kinds.TokenKind.TheVariants as kind
use Rattle.promql_grammar.specs.Grammar as grammar
use Rattle.promql_grammar.specs.Grammar.{Derivation, Arguments, yield, yield_arguments}
use Rattle.promql_grammar.specs.GrammarParts as part
use Rattle.promql_grammar.specs.PartTokens.{yield_flag, yield_step, yield_rest, yield_any_braces}
use Rattle.promql_grammar.specs.Symbols.{Symbol, punct, word}
use Rattle.promql_syntax.proofs.printed.PrintedItems.{Item, token, blank, newline, strip, Spacing, close, wide, spacing, after_line, any_braces_line, arguments_line, before_line, braces_line, fills_line, flag_line, group_line, grouping_line, item_line, items_line, labels_line, line, matching_line, modifier_line, names_line, postfix_line, rest_line, separator_line, side_line, signed_line, step_line, time_line, value_line, arguments_lines, choose_items, closing_line, indent_items, lines, render, rest_lines, trim_items}

pub strip_append : (is js : List Item) → strip (is ++ js) ≡ strip is ++ strip js
strip_append [] js = refl
strip_append (token s ∷ is) js = ap (λ ts. s ∷ ts) (strip_append is js)
strip_append (blank ∷ is) js = strip_append is js
strip_append (newline ∷ is) js = strip_append is js

-- two parts that are known without their white space
pub both : (is js : List Item) (ts us : List Symbol) → strip is ≡ ts → strip js ≡ us → strip (is ++ js) ≡ ts ++ us
both is js ts us e f = strip_append is js ∙ (λ i. e i ++ f i)

time_tokens : (t : part.Time) → strip (time_line t) ≡ part.yield_time t
time_tokens (part.seconds text) = refl
time_tokens (part.duration text) = refl

signed_tokens : (s : part.Signed) → strip (signed_line s) ≡ part.yield_signed s
signed_tokens None = refl
signed_tokens (Some (minus, text)) = refl

names_tokens : (n : part.Labels) → strip (names_line n) ≡ part.yield_names n
names_tokens part.no_label = refl
names_tokens (part.last k text) = refl
names_tokens (part.next k text ls) = ap (λ ts. word k text ∷ punct kind.Comma ∷ ts) (names_tokens ls)

labels_tokens : (ls : part.Labels) → strip (labels_line ls) ≡ part.yield_labels ls
labels_tokens ls = ap (λ ts. punct kind.LeftParen ∷ ts) (names_tokens ls)

spaced_labels : (ls : part.Labels) → strip (labels_line ls ++ blank ∷ []) ≡ part.yield_labels ls
spaced_labels ls = both (labels_line ls) (blank ∷ []) _ [] (labels_tokens ls) refl ∙ append-nil (part.yield_labels ls)

grouping_tokens : (g : part.Grouping) → strip (grouping_line g) ≡ part.yield_grouping g
grouping_tokens (by, text, ls) = ap (λ ts. word (if by then kind.By else kind.Without) text ∷ ts) (spaced_labels ls)

before_tokens : (c : part.Clause) → strip (before_line c) ≡ part.yield_before c
before_tokens None = refl
before_tokens (Some (true, g)) = grouping_tokens g
before_tokens (Some (false, g)) = refl

after_tokens : (c : part.Clause) → strip (after_line c) ≡ part.yield_after c
after_tokens None = refl
after_tokens (Some (true, g)) = refl
after_tokens (Some (false, g)) = grouping_tokens g

group_tokens : (g : part.Group) → strip (group_line g) ≡ part.yield_group g
group_tokens None = refl
group_tokens (Some (left, text, None)) = refl
group_tokens (Some (left, text, Some ls)) = ap (λ ts. word (if left then kind.GroupLeft else kind.GroupRight) text ∷ ts) (labels_tokens ls)

matching_tokens : (m : part.Matching) → strip (matching_line m) ≡ part.yield_matching m
matching_tokens None = refl
matching_tokens (Some (on, text, ls, g)) = ap (λ ts. word (if on then kind.On else kind.Ignoring) text ∷ ts) (both (labels_line ls) (group_line g) _ _ (labels_tokens ls) (group_tokens g))

value_tokens : (v : part.FillValue) → strip (value_line v) ≡ part.yield_value v
value_tokens v = ap (λ ts. punct kind.LeftParen ∷ ts) (both (signed_line v.0) (token (word kind.Number v.1) ∷ token (punct kind.RightParen) ∷ []) _ _ (signed_tokens v.0) refl)

side_tokens : (left : Bool) (text : Text) (v : part.FillValue) → strip (side_line left text v) ≡ part.yield_side left text v
side_tokens left text v = ap (λ ts. word (if left then kind.FillLeft else kind.FillRight) text ∷ ts) (value_tokens v)

fills_tokens : (f : part.Fills) → strip (fills_line f) ≡ part.yield_fills f
fills_tokens part.no_fill = refl
fills_tokens (part.both text v) = ap (λ ts. word kind.Fill text ∷ ts) (value_tokens v)
fills_tokens (part.one left text v) = side_tokens left text v
fills_tokens (part.two left text v text' w) = both (side_line left text v) (side_line (not left) text' w) _ _ (side_tokens left text v) (side_tokens (not left) text' w)

flag_tokens : (f : Option Text) → strip (flag_line f) ≡ yield_flag f
flag_tokens None = refl
flag_tokens (Some text) = refl

pub modifier_tokens : (m : part.Modifier) → strip (modifier_line m) ≡ part.yield_modifier m
modifier_tokens m =
    both (flag_line m.0) (matching_line m.1 ++ fills_line m.2) _ _ (flag_tokens m.0)
    (both (matching_line m.1) (fills_line m.2) _ _ (matching_tokens m.1) (fills_tokens m.2))

item_tokens : (i : part.Item) → strip (item_line i) ≡ part.yield_item i
item_tokens (part.matcher quoted text s value) = refl
item_tokens (part.lone text) = refl

separator_tokens : (s : Spacing) (t : part.Separator) → strip (separator_line s t) ≡ part.yield_separator t ∷ []
separator_tokens close None = refl
separator_tokens wide None = refl
separator_tokens close (Some text) = refl
separator_tokens wide (Some text) = refl

items_tokens : (s : Spacing) (is : part.Items) → strip (items_line s is) ≡ part.yield_items is
items_tokens s (part.last_item i false) = both (item_line i) (token (punct kind.RightBrace) ∷ []) _ _ (item_tokens i) refl
items_tokens s (part.last_item i true) = both (item_line i) (token (punct kind.Comma) ∷ token (punct kind.RightBrace) ∷ []) _ _ (item_tokens i) refl
items_tokens s (part.next_item i t is) =
    both (item_line i) (separator_line s t ++ items_line s is) _ _ (item_tokens i) (both (separator_line s t) (items_line s is) _ _ (separator_tokens s t) (items_tokens s is))

braces_tokens : (b : part.Braces) → strip (braces_line b) ≡ part.yield_braces b
braces_tokens None = refl
braces_tokens (Some is) = ap (λ ts. punct kind.LeftBrace ∷ ts) (items_tokens (spacing is) is)

any_braces_tokens : (b : Option part.Braces) → strip (any_braces_line b) ≡ yield_any_braces b
any_braces_tokens None = refl
any_braces_tokens (Some b) = braces_tokens b

step_tokens : (s : Option part.Time) → strip (step_line s) ≡ yield_step s
step_tokens None = refl
step_tokens (Some t) = time_tokens t

pub postfix_tokens : (p : part.Postfix) → strip (postfix_line p) ≡ part.yield_postfix p
postfix_tokens (part.range t) = ap (λ ts. punct kind.LeftBracket ∷ ts) (both (time_line t) (token (punct kind.RightBracket) ∷ []) _ _ (time_tokens t) refl)
postfix_tokens (part.subquery t s) =
    ap (λ ts. punct kind.LeftBracket ∷ ts) (both (time_line t) (token (punct kind.Colon) ∷ (step_line s ++ token (punct kind.RightBracket) ∷ [])) _ _ (time_tokens t)
    (ap (λ ts. punct kind.Colon ∷ ts) (both (step_line s) (token (punct kind.RightBracket) ∷ []) _ _ (step_tokens s) refl)))
postfix_tokens (part.at_number s text) = ap (λ ts. punct kind.At ∷ ts) (both (signed_line s) (token (word kind.Number text) ∷ []) _ _ (signed_tokens s) refl)
postfix_tokens (part.at_bound start text) = refl
postfix_tokens (part.offset text s t) = ap (λ ts. word kind.Offset text ∷ ts) (both (signed_line s) (time_line t) _ _ (signed_tokens s) (time_tokens t))
postfix_tokens (part.mode smoothed text) = refl

mutual
  pub line_tokens : (d : Derivation) → strip (line d) ≡ yield d
  line_tokens (grammar.number text) = refl
  line_tokens (grammar.duration text) = refl
  line_tokens (grammar.string text) = refl
  line_tokens (grammar.selector k text b) = ap (λ ts. word k text ∷ ts) (any_braces_tokens b)
  line_tokens (grammar.nameless b) = braces_tokens b
  line_tokens (grammar.paren d) = ap (λ ts. punct kind.LeftParen ∷ ts) (both (line d) (token (punct kind.RightParen) ∷ []) _ _ (line_tokens d) refl)
  line_tokens (grammar.call k text ds) = ap (λ ts. word k text ∷ punct kind.LeftParen ∷ ts) (arguments_tokens ds)
  line_tokens (grammar.aggregate op text c ds) =
      ap (λ ts. word (kind.Aggregator op) text ∷ ts) (both (before_line c) (token (punct kind.LeftParen) ∷ (arguments_line ds ++ after_line c)) _ _ (before_tokens c)
      (ap (λ ts. punct kind.LeftParen ∷ ts) (both (arguments_line ds) (after_line c) _ _ (arguments_tokens ds) (after_tokens c))))
  line_tokens (grammar.postfixed d p) = both (line d) (postfix_line p) _ _ (line_tokens d) (postfix_tokens p)
  line_tokens (grammar.unary op text d) = ap (λ ts. word (kind.Operator op) text ∷ ts) (line_tokens d)
  line_tokens (grammar.binary op text m l r) =
      both (line l) (blank ∷ token (word (kind.Operator op) text) ∷ (modifier_line m ++ blank ∷ line r)) _ _ (line_tokens l)
      (ap (λ ts. word (kind.Operator op) text ∷ ts) (both (modifier_line m) (blank ∷ line r) _ _ (modifier_tokens m) (line_tokens r)))

  arguments_tokens : (ds : Arguments) → strip (arguments_line ds) ≡ yield_arguments [] ds
  arguments_tokens grammar.none = refl
  arguments_tokens (grammar.more d ds) = both (line d) (rest_line ds) _ _ (line_tokens d) (rest_tokens ds)

  rest_tokens : (ds : Arguments) → strip (rest_line ds) ≡ yield_rest ds
  rest_tokens grammar.none = refl
  rest_tokens (grammar.more d ds) = ap (λ ts. punct kind.Comma ∷ ts) (both (line d) (rest_line ds) _ _ (line_tokens d) (rest_tokens ds))

-- ---- over several lines

indented_tokens : (n : ℕ) (is : List Item) → strip (indent_items n is) ≡ strip is
indented_tokens zero is = refl
indented_tokens (suc n) is = indented_tokens n is

trimmed_tokens : (is : List Item) → strip (trim_items is) ≡ strip is
trimmed_tokens [] = refl
trimmed_tokens (blank ∷ is) = trimmed_tokens is
trimmed_tokens (token s ∷ is) = refl
trimmed_tokens (newline ∷ is) = refl

chosen_tokens : (one many : List Item) (level most : ℕ) (ts : List Symbol) → strip one ≡ ts → strip many ≡ ts → strip (choose_items one many level most) ≡ ts
chosen_tokens one many level most ts e f = go (is_longer most (render one))
  where
    go : (b : Bool) → strip (cond b many (indent_items level one)) ≡ ts
    go true = f
    go false = indented_tokens level one ∙ e

closing_tokens : (level : ℕ) (after : List Item) (us : List Symbol) → strip after ≡ us → strip (closing_line level after) ≡ punct kind.RightParen ∷ us
closing_tokens level after us e = indented_tokens level (token (punct kind.RightParen) ∷ after) ∙ ap (λ ts. punct kind.RightParen ∷ ts) e

mutual
  pub lines_tokens : (d : Derivation) (level most : ℕ) → strip (lines d level most) ≡ yield d
  lines_tokens (grammar.number text) level most = indented_tokens level (line (grammar.number text)) ∙ line_tokens (grammar.number text)
  lines_tokens (grammar.duration text) level most = indented_tokens level (line (grammar.duration text)) ∙ line_tokens (grammar.duration text)
  lines_tokens (grammar.string text) level most = indented_tokens level (line (grammar.string text)) ∙ line_tokens (grammar.string text)
  lines_tokens (grammar.selector k text b) level most = indented_tokens level (line (grammar.selector k text b)) ∙ line_tokens (grammar.selector k text b)
  lines_tokens (grammar.nameless b) level most = indented_tokens level (line (grammar.nameless b)) ∙ line_tokens (grammar.nameless b)
  lines_tokens (grammar.paren d) level most =
      let many = token (punct kind.LeftParen) ∷ newline ∷ (lines d (level + 1) most ++ closing_line level []) in
      chosen_tokens (line (grammar.paren d)) (indent_items level many) level most _ (line_tokens (grammar.paren d))
      (indented_tokens level many ∙ ap (λ ts. punct kind.LeftParen ∷ ts) (both (lines d (level + 1) most) (closing_line level []) _ _ (lines_tokens d (level + 1) most) (closing_tokens level [] [] refl)))
  lines_tokens (grammar.call k text ds) level most =
      let many = token (word k text) ∷ token (punct kind.LeftParen) ∷ newline ∷ arguments_lines ds (level + 1) most (closing_line level []) in
      chosen_tokens (line (grammar.call k text ds)) (indent_items level many) level most _ (line_tokens (grammar.call k text ds))
      (indented_tokens level many ∙ ap (λ ts. word k text ∷ punct kind.LeftParen ∷ ts) (arguments_lines_tokens ds (level + 1) most (closing_line level []) [] (closing_tokens level [] [] refl) ∙ append-nil (yield_arguments [] ds)))
  lines_tokens (grammar.aggregate op text c ds) level most =
      let rest = token (punct kind.LeftParen) ∷ newline ∷ arguments_lines ds (level + 1) most (closing_line level (after_line c)) in
      let many = token (word (kind.Aggregator op) text) ∷ (before_line c ++ rest) in
      chosen_tokens (line (grammar.aggregate op text c ds)) (indent_items level many) level most _ (line_tokens (grammar.aggregate op text c ds))
      (indented_tokens level many ∙ ap (λ ts. word (kind.Aggregator op) text ∷ ts) (both (before_line c) rest _ _ (before_tokens c)
      (ap (λ ts. punct kind.LeftParen ∷ ts) (arguments_lines_tokens ds (level + 1) most (closing_line level (after_line c)) (part.yield_after c) (closing_tokens level (after_line c) (part.yield_after c) (after_tokens c))))))
  lines_tokens (grammar.postfixed d p) level most = both (lines d level most) (postfix_line p) _ _ (lines_tokens d level most) (postfix_tokens p)
  lines_tokens (grammar.unary op text d) level most =
      indented_tokens level (token (word (kind.Operator op) text) ∷ trim_items (lines d level most))
      ∙ ap (λ ts. word (kind.Operator op) text ∷ ts) (trimmed_tokens (lines d level most) ∙ lines_tokens d level most)
  lines_tokens (grammar.binary op text m l r) level most =
      let right = modifier_line m ++ newline ∷ lines r (level + 1) most in
      chosen_tokens (line (grammar.binary op text m l r)) (lines l (level + 1) most ++ newline ∷ indent_items level (token (word (kind.Operator op) text) ∷ right)) level most _ (line_tokens (grammar.binary op text m l r))
      (both (lines l (level + 1) most) (newline ∷ indent_items level (token (word (kind.Operator op) text) ∷ right)) _ _ (lines_tokens l (level + 1) most)
      (indented_tokens level (token (word (kind.Operator op) text) ∷ right)
      ∙ ap (λ ts. word (kind.Operator op) text ∷ ts) (both (modifier_line m) (newline ∷ lines r (level + 1) most) _ _ (modifier_tokens m) (lines_tokens r (level + 1) most))))

  arguments_lines_tokens : (ds : Arguments) (level most : ℕ) (after : List Item) (us : List Symbol) → strip after ≡ punct kind.RightParen ∷ us → strip (arguments_lines ds level most after) ≡ yield_arguments [] ds ++ us
  arguments_lines_tokens grammar.none level most after us e = e
  arguments_lines_tokens (grammar.more d ds) level most after us e =
      both (lines d level most) (rest_lines ds level most after) _ _ (lines_tokens d level most) (rest_lines_tokens ds level most after us e)
      ∙ sym (append_assoc (yield d) (yield_rest ds) us)

  rest_lines_tokens : (ds : Arguments) (level most : ℕ) (after : List Item) (us : List Symbol) → strip after ≡ punct kind.RightParen ∷ us → strip (rest_lines ds level most after) ≡ yield_rest ds ++ us
  rest_lines_tokens grammar.none level most after us e = e
  rest_lines_tokens (grammar.more d ds) level most after us e =
      ap (λ ts. punct kind.Comma ∷ ts)
      (both (lines d level most) (rest_lines ds level most after) _ _ (lines_tokens d level most) (rest_lines_tokens ds level most after us e)
      ∙ sym (append_assoc (yield d) (yield_rest ds) us))
