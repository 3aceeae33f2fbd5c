-- The bytes of a laid-out tree's items are its layout.
use Rattle.std.proofs.Common.{◌≡◌, ℕ, zero, suc, ◌+◌, ◌<◌, refl, sym, ◌∙◌, ap, subst, arith, Bool, true, false, cond, Option, Some, None, List, [], ◌∷◌, ◌++◌, append-nil, append_assoc, codes, replicate, true≢false, not}
use Rattle.std.specs.Prelude.{◌==◌, ◌/◌, ◌%◌, ◌^◌, option_map, unwrap_or}
use Rattle.std.proofs.Math.Nat.{div-le_self}
use Rattle.std.specs.Char.{is_ascii_digit}
use Rattle.std.specs.Fmt.{decimal}
use Rattle.std.specs.List.{flat_map}
use Rattle.std.proofs.lemmas.Bool.Decides.{nat_tests}
use Rattle.std.proofs.lemmas.Fmt.{decimal_is_IsNumeral_wide}
use Rattle.promql_text.specs.DecimalForm.{front}
use Rattle.promql_text.specs.DurationText.{duration_text}
use Rattle.promql_text.specs.NumberDigits.{magnitude_text, pad_zeros}
use Rattle.promql_text.specs.NumberText.{number_text}
use Rattle.promql_text.specs.Numbers.{Exact, IsExact}
use Rattle.promql_text.specs.Quoting.{quoted_text}
use Rattle.promql_text.specs.Texts.{Text, joined_text}
use Rattle.promql_text.specs.Values.{IsNumber, is_below_zero, neg}
use Rattle.promql_text.specs.declared.number.Number.{Number}
use Rattle.promql_text.specs.declared.number.Number.TheVariants.{Finite, Inf, NegInf, NaN}
use Rattle.promql_text.proofs.numerals.Runs.{front_digit}
use Rattle.promql_token.specs.Ids.{is_aggregator, text_of}
use Rattle.promql_token.specs.Laws.{is_word}
use Rattle.promql_token.specs.declared.ids.TheConstants.{T_SUB}
use Rattle.promql_grammar.specs.declared.token_kinds.TokenKind.TheVariants as kind
use Rattle.promql_grammar.specs.Grammar as grammar
use Rattle.promql_grammar.specs.Grammar.{Derivation}
use Rattle.promql_grammar.specs.GrammarParts as part
use Rattle.promql_grammar.specs.Symbols.{Symbol, punct, word}
use Rattle.promql_label.specs.Answers.{Answer}
use Rattle.promql_label.specs.PlainMatchers.{PlainMatchers, matchers_text}
use Rattle.promql_kind.specs.Functions.{name_of}
use Rattle.promql_ast.specs.Layout as layout
use Rattle.promql_ast.specs.Layout.{layout_of, layouts_of, maybe_layout_of}
use Rattle.promql_ast.specs.Lines.{indent, is_longer}
use Rattle.promql_ast.specs.Selectors.{Selector, selector}
use Rattle.promql_ast.specs.Shifts.{Shift, Moment, at_text, offset_text}
use Rattle.promql_ast.specs.Text.{text}
use Rattle.promql_ast.specs.Tree.{Tree, aggregate, unary, binary, paren, subquery, number, string, vector, matrix, call, extension, MaybeTree, absent, present, Trees, no_trees, first_tree}
use Rattle.promql_ast.specs.declared.range_mode.RangeMode.{RangeMode}
use Rattle.promql_ast.specs.declared.range_mode.RangeMode.TheVariants.{Plain, Smoothed, Anchored}
use Rattle.promql_ast.specs.node.Aggregate.{clause_text}
use Rattle.promql_ast.specs.node.Binary.{matching_text}
use Rattle.promql_ast.specs.node.Matrix.{mode_text}
use Rattle.promql_ast.specs.node.Subquery.{range_text}
use Rattle.promql_ast.specs.node.Vector.{with_braces}
use Rattle.promql_syntax.proofs.readback.Derive.{derive, derive_after, derive_all, derive_base, derive_number, with_at, with_mode, with_suffix}
use Rattle.promql_syntax.proofs.printed.PrintedItems.{Item, token, blank, newline, render, spell, after_line, arguments_lines, before_line, choose_items, closing_line, indent_items, line, lines, modifier_line, postfix_line, rest_lines, signed_line, time_line, trim_items}
use Rattle.promql_syntax.proofs.printed.PrintedParts.{braces, clause, modifier, moment, shift, time, word_kind}
use Rattle.promql_syntax.proofs.printed.PrintedParts as printed
use Rattle.promql_syntax.proofs.parsing.Booleans.{not_true}
use Rattle.promql_syntax.proofs.lexed.LexedWords.{test_of_aggregators}
use Rattle.promql_syntax.proofs.readback.Printable.{AllPrintable, IsSelecting, MaybePrintable, Printable, PrintableSelector}
use Rattle.promql_syntax.proofs.printed.PrintedBytes.{clause_bytes, render_both, modifier_bytes, moment_bytes, number_split, shift_bytes, time_bytes}
use Rattle.promql_syntax.proofs.printed.PrintedLines.{base_bytes, line_bytes, nothing_after, range_bytes}

-- ---- what the first token is, so that trimming stops there

abbrev IsFront : Text → Type 0
IsFront [] = ⊥
IsFront (b ∷ t) = (b == 32) ≡ false

front_append : (t u : Text) → IsFront t → IsFront (t ++ u)
front_append [] u h = absurd h
front_append (b ∷ t) u h = h

abbrev HasFront : List Item → Type 0
HasFront [] = ⊥
HasFront (token s ∷ is) = IsFront (spell s)
HasFront (blank ∷ is) = HasFront is
HasFront (newline ∷ is) = ⊥

has_front_append : (is js : List Item) → HasFront is → HasFront (is ++ js)
has_front_append [] js h = absurd h
has_front_append (token s ∷ is) js h = h
has_front_append (blank ∷ is) js h = has_front_append is js h
has_front_append (newline ∷ is) js h = absurd h

fronted_indented : (n : ℕ) (is : List Item) → HasFront is → HasFront (indent_items n is)
fronted_indented zero is h = h
fronted_indented (suc n) is h = fronted_indented n is h

fronted_line_or_lines : (one many : List Item) (level most : ℕ) → HasFront one → HasFront many → HasFront (choose_items one many level most)
fronted_line_or_lines one many level most h k = go (is_longer most (render one))
  where
    go : (b : Bool) → HasFront (cond b many (indent_items level one))
    go true = k
    go false = fronted_indented level one h

kept_front : (t u : Text) → IsFront t → layout.without_indent (t ++ u) ≡ t ++ u
kept_front [] u h = absurd h
kept_front (b ∷ t) u h = ap (λ x. cond x (layout.without_indent (t ++ u)) (b ∷ (t ++ u))) h

trimmed_bytes : (is : List Item) → HasFront is → render (trim_items is) ≡ layout.without_indent (render is)
trimmed_bytes [] h = absurd h
trimmed_bytes (token s ∷ is) h = sym (kept_front (spell s) (render is) h)
trimmed_bytes (blank ∷ is) h = trimmed_bytes is h
trimmed_bytes (newline ∷ is) h = absurd h

abbrev begins_unblank : Text → Bool
begins_unblank [] = false
begins_unblank (b ∷ t) = not (b == 32)

unblank_front : (t : Text) → begins_unblank t ≡ true → IsFront t
unblank_front [] is = absurd (true≢false (sym is))
unblank_front (b ∷ t) is = not_true _ is

text_front : (op : ℕ) → is_aggregator op ≡ true → IsFront (text_of op)
text_front op is = unblank_front (text_of op) (test_of_aggregators (λ id. begins_unblank (text_of id)) refl op is)

word_front : (w : Text) → is_word w ≡ true → IsFront w
word_front [] is = cc
word_front (b ∷ w) is = go (b == 32) refl
  where
    go : (x : Bool) → (b == 32) ≡ x → x ≡ false
    go true e = let same : b ≡ 32 = grind (arith, nat_tests) in let no : is_word (32 ∷ w) ≡ true = subst (λ y. is_word (y ∷ w) ≡ true) same is in cc
    go false e = refl

digit_front : (t : Text) → is_ascii_digit (front t) ≡ true → IsFront t
digit_front [] is = cc
digit_front (b ∷ t) is = go (b == 32) refl
  where
    go : (x : Bool) → (b == 32) ≡ x → x ≡ false
    go true e = let same : b ≡ 32 = grind (arith, nat_tests) in let no : is_ascii_digit 32 ≡ true = subst (λ y. is_ascii_digit y ≡ true) same is in cc
    go false e = refl

decimal_front : (n : ℕ) (r : Text) → n < 10 ^ 38 → IsFront (decimal n ++ r)
decimal_front n r low = let own = (decimal_is_IsNumeral_wide n (omega arith)).0 in digit_front (decimal n ++ r) (front_digit (decimal n) r own.0 own.1)

magnitude_front : (d : Exact) → IsExact d → IsFront (magnitude_text d)
magnitude_front d is = go (d.places == 0)
  where
    go : (b : Bool) → IsFront (cond b (decimal d.digits ++ replicate d.zeros 48) (decimal (d.digits / 10 ^ d.places) ++ (46 ∷ pad_zeros d.places (d.digits % 10 ^ d.places))))
    go true = decimal_front d.digits _ is.short
    go false = decimal_front (d.digits / 10 ^ d.places) _ (let h = div-le_self d.digits (10 ^ d.places) in let s = is.short in omega (arith, h, s))

number_front : (n : Number) → IsNumber n → is_below_zero n ≡ false → IsFront (number_text n)
number_front (Finite d) is plus = subst (λ b. IsFront (cond b (45 ∷ []) [] ++ magnitude_text d)) (sym plus) (magnitude_front d is)
number_front Inf is plus = refl
number_front NegInf is plus = cc
number_front NaN is plus = refl

-- ---- parts over several lines

indented_bytes : (n : ℕ) (is : List Item) → render (indent_items n is) ≡ indent n ++ render is
indented_bytes zero is = refl
indented_bytes (suc n) is = ap (λ t. 32 ∷ 32 ∷ t) (indented_bytes n is)

indented_is : (n : ℕ) (is : List Item) (t : Text) → render is ≡ t → render (indent_items n is) ≡ indent n ++ t
indented_is n is t e = indented_bytes n is ∙ ap (λ x. indent n ++ x) e

chosen_bytes : (one many : List Item) (level most : ℕ) (s t : Text) → render one ≡ s → render many ≡ t → render (choose_items one many level most) ≡ layout.line_or_lines s t level most
chosen_bytes one many level most s t e f = ap (λ x. render (cond (is_longer most x) many (indent_items level one))) e ∙ go (is_longer most s)
  where
    go : (b : Bool) → render (cond b many (indent_items level one)) ≡ cond b t (indent level ++ s)
    go true = f
    go false = indented_is level one s e

closing_bytes : (level : ℕ) (after : List Item) → after ≡ [] → render (closing_line level after) ≡ codes "\n" ++ (indent level ++ codes ")")
closing_bytes level after e = ap (λ is. render (closing_line level is)) e ∙ ap (λ t. codes "\n" ++ t) (indented_bytes level (token (punct kind.RightParen) ∷ []))

without_indent_indented : (n : ℕ) (s : Symbol) (is : List Item) → trim_items (indent_items n (token s ∷ is)) ≡ token s ∷ is
without_indent_indented zero s is = refl
without_indent_indented (suc n) s is = without_indent_indented n s is

module _ (level most : ℕ) where
  at_lines : (a : Option Moment) (d : Derivation) (t : Text) → render (lines d level most) ≡ t → render (lines (with_at a d) level most) ≡ t ++ at_text a
  at_lines None d t e = e ∙ sym (append-nil t)
  at_lines (Some m) d t e = render_both (lines d level most) (postfix_line (moment m)) t _ e (moment_bytes m)

  suffix_lines : (o : Option Shift) (a : Option Moment) (d : Derivation) (t : Text) → render (lines d level most) ≡ t → render (lines (with_suffix o a d) level most) ≡ t ++ (at_text a ++ offset_text o)
  suffix_lines None a d t e = at_lines a d t e ∙ ap (λ x. t ++ x) (sym (append-nil (at_text a)))
  suffix_lines (Some s) a d t e =
      render_both (lines (with_at a d) level most) (postfix_line (shift s)) (t ++ at_text a) _ (at_lines a d t e) (shift_bytes s)
      ∙ append_assoc t (at_text a) (offset_text (Some s))

  at_fronted : (a : Option Moment) (d : Derivation) → HasFront (lines d level most) → HasFront (lines (with_at a d) level most)
  at_fronted None d h = h
  at_fronted (Some m) d h = has_front_append (lines d level most) (postfix_line (moment m)) h

  suffix_fronted : (o : Option Shift) (a : Option Moment) (d : Derivation) → HasFront (lines d level most) → HasFront (lines (with_suffix o a d) level most)
  suffix_fronted None a d h = at_fronted a d h
  suffix_fronted (Some s) a d h = has_front_append (lines (with_at a d) level most) (postfix_line (shift s)) (at_fronted a d h)

  mode_lines : (m : RangeMode) (d : Derivation) (t : Text) → render (lines d level most) ≡ t → render (lines (with_mode m d) level most) ≡ t ++ mode_text m
  mode_lines Plain d t e = e ∙ sym (append-nil t)
  mode_lines Smoothed d t e = render_both (lines d level most) (postfix_line (part.mode true (codes "smoothed"))) t _ e refl
  mode_lines Anchored d t e = render_both (lines d level most) (postfix_line (part.mode false (codes "anchored"))) t _ e refl

  mode_fronted : (m : RangeMode) (d : Derivation) → HasFront (lines d level most) → HasFront (lines (with_mode m d) level most)
  mode_fronted Plain d h = h
  mode_fronted Smoothed d h = has_front_append (lines d level most) (postfix_line (part.mode true (codes "smoothed"))) h
  mode_fronted Anchored d h = has_front_append (lines d level most) (postfix_line (part.mode false (codes "anchored"))) h

  base_lines : (name : Option Text) (b : Option part.Braces) → lines (derive_base name b) level most ≡ indent_items level (line (derive_base name b))
  base_lines (Some name) b = refl
  base_lines None (Some b) = refl
  base_lines None None = refl

  number_lines : (n : Number) → render (lines (derive_number n) level most) ≡ indent level ++ number_text n
  number_lines n = go (is_below_zero n) ∙ ap (λ t. indent level ++ t) (number_split n [] ∙ append-nil (number_text n))
    where
      go : (b : Bool) → render (lines (cond b (grammar.unary T_SUB (codes "-") (grammar.number (number_text (neg n)))) (grammar.number (number_text n))) level most)
          ≡ indent level ++ (render (signed_line (printed.sign b)) ++ (number_text (cond b (neg n) n) ++ []))
      go true =
          ap (λ is. render (indent_items level (token (word (kind.Operator T_SUB) (codes "-")) ∷ is))) (without_indent_indented level (word kind.Number (number_text (neg n))) [])
          ∙ indented_bytes level (token (word (kind.Operator T_SUB) (codes "-")) ∷ token (word kind.Number (number_text (neg n))) ∷ [])
      go false = indented_bytes level (token (word kind.Number (number_text n)) ∷ [])

-- on one line
at_front : (a : Option Moment) (d : Derivation) → HasFront (line d) → HasFront (line (with_at a d))
at_front None d h = h
at_front (Some m) d h = has_front_append (line d) (postfix_line (moment m)) h

suffix_front : (o : Option Shift) (a : Option Moment) (d : Derivation) → HasFront (line d) → HasFront (line (with_suffix o a d))
suffix_front None a d h = at_front a d h
suffix_front (Some s) a d h = has_front_append (line (with_at a d)) (postfix_line (shift s)) (at_front a d h)

mode_front : (m : RangeMode) (d : Derivation) → HasFront (line d) → HasFront (line (with_mode m d))
mode_front Plain d h = h
mode_front Smoothed d h = has_front_append (line d) (postfix_line (part.mode true (codes "smoothed"))) h
mode_front Anchored d h = has_front_append (line d) (postfix_line (part.mode false (codes "anchored"))) h

nameless_front : (b : Option part.Braces) → HasFront (line (derive_base None b))
nameless_front None = refl
nameless_front (Some None) = refl
nameless_front (Some (Some is)) = refl

number_line_front : (n : Number) → IsNumber n → HasFront (line (derive_number n))
number_line_front n is = go (is_below_zero n) refl
  where
    go : (b : Bool) → is_below_zero n ≡ b → HasFront (line (cond b (grammar.unary T_SUB (codes "-") (grammar.number (number_text (neg n)))) (grammar.number (number_text n))))
    go true e = refl
    go false e = number_front n is e

number_lines_front : (n : Number) (level most : ℕ) → IsNumber n → HasFront (lines (derive_number n) level most)
number_lines_front n level most is = go (is_below_zero n) refl
  where
    go : (b : Bool) → is_below_zero n ≡ b → HasFront (lines (cond b (grammar.unary T_SUB (codes "-") (grammar.number (number_text (neg n)))) (grammar.number (number_text n))) level most)
    go true e = fronted_indented level (token (word (kind.Operator T_SUB) (codes "-")) ∷ trim_items (indent_items level (token (word kind.Number (number_text (neg n))) ∷ []))) refl
    go false e = fronted_indented level (token (word kind.Number (number_text n)) ∷ []) (number_front n is e)

module _ (g : Text → Answer) where
  base_front : (name : Option Text) (cs : PlainMatchers) → IsSelecting g name cs → HasFront (line (derive_base name (braces cs)))
  base_front (Some name) cs h = word_front name h.0
  base_front None cs h = nameless_front (braces cs)

  base_fronted : (name : Option Text) (cs : PlainMatchers) (level most : ℕ) → IsSelecting g name cs → HasFront (lines (derive_base name (braces cs)) level most)
  base_fronted name cs level most h =
      subst HasFront (sym (base_lines level most name (braces cs))) (fronted_indented level (line (derive_base name (braces cs))) (base_front name cs h))

  line_front : (t : Tree) → Printable g t → HasFront (line (derive t))
  line_front (aggregate op e p m) h = text_front op h.0
  line_front (unary e) h = refl
  line_front (binary op l r m) h = has_front_append (line (derive l)) _ (line_front l h.1)
  line_front (paren e) h = refl
  line_front (subquery e o a range step) h =
      let below = part.subquery (time range) (option_map time step) in
      suffix_front o a (grammar.postfixed (derive e) below) (has_front_append (line (derive e)) (postfix_line below) (line_front e h.0))
  line_front (number n) h = number_line_front n h
  line_front (string s) h = refl
  line_front (vector (selector name cs o a)) h = suffix_front o a (derive_base name (braces cs)) (base_front name cs h.0)
  line_front (matrix (selector name cs o a) range mode) h =
      let base = derive_base name (braces cs) in
      let below = grammar.postfixed base (part.range (time range)) in
      suffix_front o a (with_mode mode below) (mode_front mode below (has_front_append (line base) (postfix_line (part.range (time range))) (base_front name cs h.0.0)))
  line_front (call f ts) h = word_front (name_of f) h.0
  line_front (extension name gives ts) h = absurd h

  lines_front : (t : Tree) (level most : ℕ) → Printable g t → HasFront (lines (derive t) level most)
  lines_front (aggregate op e p m) level most h =
      fronted_line_or_lines (line (derive (aggregate op e p m))) _ level most (line_front (aggregate op e p m) h) (fronted_indented level _ (text_front op h.0))
  lines_front (unary e) level most h = fronted_indented level (token (word (kind.Operator T_SUB) (codes "-")) ∷ trim_items (lines (derive e) level most)) refl
  lines_front (binary op l r m) level most h =
      fronted_line_or_lines (line (derive (binary op l r m))) _ level most (line_front (binary op l r m) h) (has_front_append (lines (derive l) (level + 1) most) _ (lines_front l (level + 1) most h.1))
  lines_front (paren e) level most h = fronted_line_or_lines (line (derive (paren e))) _ level most refl (fronted_indented level _ refl)
  lines_front (subquery e o a range step) level most h =
      let below = part.subquery (time range) (option_map time step) in
      suffix_fronted level most o a (grammar.postfixed (derive e) below) (has_front_append (lines (derive e) level most) (postfix_line below) (lines_front e level most h.0))
  lines_front (number n) level most h = number_lines_front n level most h
  lines_front (string s) level most h = fronted_indented level (line (derive (string s))) refl
  lines_front (vector (selector name cs o a)) level most h = suffix_fronted level most o a (derive_base name (braces cs)) (base_fronted name cs level most h.0)
  lines_front (matrix (selector name cs o a) range mode) level most h =
      let base = derive_base name (braces cs) in
      let below = grammar.postfixed base (part.range (time range)) in
      suffix_fronted level most o a (with_mode mode below)
      (mode_fronted level most mode below (has_front_append (lines base level most) (postfix_line (part.range (time range))) (base_fronted name cs level most h.0.0)))
  lines_front (call f ts) level most h =
      fronted_line_or_lines (line (derive (call f ts))) _ level most (word_front (name_of f) h.0) (fronted_indented level _ (word_front (name_of f) h.0))
  lines_front (extension name gives ts) level most h = absurd h

  -- ---- the layout

  base_laid : (level most : ℕ) (name : Option Text) (cs : PlainMatchers) → IsSelecting g name cs → render (lines (derive_base name (braces cs)) level most) ≡ indent level ++ (unwrap_or name [] ++ with_braces (matchers_text cs))
  base_laid level most name cs h = ap render (base_lines level most name (braces cs)) ∙ indented_is level (line (derive_base name (braces cs))) _ (base_bytes g name cs h)

  vector_laid : (level most : ℕ) (s : Selector) → PrintableSelector g s → render (lines (derive (vector s)) level most) ≡ layout_of (vector s) level most
  vector_laid level most (selector name cs o a) h =
      suffix_lines level most o a (derive_base name (braces cs)) _ (base_laid level most name cs h.0)
      ∙ append_assoc (indent level) (unwrap_or name [] ++ with_braces (matchers_text cs)) (at_text a ++ offset_text o)

  matrix_laid : (level most : ℕ) (s : Selector) (range : ℕ) (mode : RangeMode) → PrintableSelector g s → render (lines (derive (matrix s range mode)) level most) ≡ layout_of (matrix s range mode) level most
  matrix_laid level most (selector name cs o a) range mode h =
      let base = derive_base name (braces cs) in
      let below = grammar.postfixed base (part.range (time range)) in
      let b = unwrap_or name [] ++ with_braces (matchers_text cs) in
      let r = codes "[" ++ (duration_text range ++ codes "]") in
      let m = mode_text mode in
      let x = at_text a ++ offset_text o in
      let is : render (lines below level most) ≡ (indent level ++ b) ++ r = render_both (lines base level most) (postfix_line (part.range (time range))) (indent level ++ b) r (base_laid level most name cs h.0)
      (ap (λ t. codes "[" ++ t) (render_both (time_line (time range)) (token (punct kind.RightBracket) ∷ []) (duration_text range) (codes "]") (time_bytes range) refl)) in
      suffix_lines level most o a (with_mode mode below) (((indent level ++ b) ++ r) ++ m) (mode_lines level most mode below ((indent level ++ b) ++ r) is)
      ∙ ap (λ t. t ++ x) (append_assoc (indent level ++ b) r m ∙ append_assoc (indent level) b (r ++ m))
      ∙ append_assoc (indent level) (b ++ (r ++ m)) x
      ∙ ap (λ t. indent level ++ t) (append_assoc b (r ++ m) x ∙ ap (λ t. b ++ ((codes "[" ++ t) ++ x)) (append_assoc (duration_text range) (codes "]") m))

  mutual
    pub lines_bytes : (t : Tree) (level most : ℕ) → Printable g t → render (lines (derive t) level most) ≡ layout_of t level most
    lines_bytes (aggregate op e p m) level most h =
        let after = closing_line level (after_line (clause m)) in
        let rest = token (punct kind.LeftParen) ∷ newline ∷ arguments_lines (derive_after p (grammar.more (derive e) grammar.none)) (level + 1) most after in
        let close = codes "\n" ++ (indent level ++ codes ")") in
        let inner = layout.param_lines (maybe_layout_of p (level + 1) most) ++ (layout_of e (level + 1) most ++ close) in
        chosen_bytes (line (derive (aggregate op e p m))) (indent_items level (token (word (kind.Aggregator op) (text_of op)) ∷ (before_line (clause m) ++ rest))) level most (text (aggregate op e p m)) _
        (line_bytes g (aggregate op e p m) h)
        (indented_is level _ (text_of op ++ (clause_text m ++ (codes "(\n" ++ inner)))
        (ap (λ t. text_of op ++ t) (render_both (before_line (clause m)) rest (clause_text m) (codes "(\n" ++ inner) (clause_bytes m)
        (ap (λ t. codes "(\n" ++ t) (param_laid p e (level + 1) most after close h.2 (lines_bytes e (level + 1) most h.1) (closing_bytes level (after_line (clause m)) (nothing_after m))))))
        ∙ ap (λ t. indent level ++ t) (sym (append_assoc (text_of op) (clause_text m) (codes "(\n" ++ inner))))
    lines_bytes (unary e) level most h =
        indented_is level _ (codes "-" ++ layout.without_indent (layout_of e level most))
        (ap (λ t. codes "-" ++ t) (trimmed_bytes (lines (derive e) level most) (lines_front e level most h) ∙ ap layout.without_indent (lines_bytes e level most h)))
    lines_bytes (binary op l r m) level most h =
        let right = modifier_line (modifier m) ++ newline ∷ lines (derive r) (level + 1) most in
        chosen_bytes (line (derive (binary op l r m))) (lines (derive l) (level + 1) most ++ newline ∷ indent_items level (token (word (kind.Operator op) (text_of op)) ∷ right)) level most (text (binary op l r m)) _
        (line_bytes g (binary op l r m) h)
        (render_both (lines (derive l) (level + 1) most) (newline ∷ indent_items level (token (word (kind.Operator op) (text_of op)) ∷ right)) (layout_of l (level + 1) most) _ (lines_bytes l (level + 1) most h.1)
        (ap (λ t. codes "\n" ++ t) (indented_is level _ (text_of op ++ (matching_text m ++ (codes "\n" ++ layout_of r (level + 1) most)))
        (ap (λ t. text_of op ++ t) (render_both (modifier_line (modifier m)) (newline ∷ lines (derive r) (level + 1) most) (matching_text m) (codes "\n" ++ layout_of r (level + 1) most) (modifier_bytes m h.0) (ap (λ t. codes "\n" ++ t) (lines_bytes r (level + 1) most h.2)))))))
    lines_bytes (paren e) level most h =
        let many = token (punct kind.LeftParen) ∷ newline ∷ (lines (derive e) (level + 1) most ++ closing_line level []) in
        chosen_bytes (line (derive (paren e))) (indent_items level many) level most (text (paren e)) _ (line_bytes g (paren e) h)
        (indented_is level many (codes "(\n" ++ (layout_of e (level + 1) most ++ (codes "\n" ++ (indent level ++ codes ")"))))
        (ap (λ t. codes "(\n" ++ t) (render_both (lines (derive e) (level + 1) most) (closing_line level []) (layout_of e (level + 1) most) _ (lines_bytes e (level + 1) most h) (closing_bytes level [] refl))))
    lines_bytes (subquery e o a range step) level most h =
        let below = part.subquery (time range) (option_map time step) in
        suffix_lines level most o a (grammar.postfixed (derive e) below) (layout_of e level most ++ range_text range step)
        (render_both (lines (derive e) level most) (postfix_line below) (layout_of e level most) (range_text range step) (lines_bytes e level most h.0) (range_bytes range step))
        ∙ append_assoc (layout_of e level most) (range_text range step) (at_text a ++ offset_text o)
    lines_bytes (number n) level most h = number_lines level most n
    lines_bytes (string s) level most h = indented_is level (line (derive (string s))) (quoted_text s) (append-nil (quoted_text s))
    lines_bytes (vector s) level most h = vector_laid level most s h
    lines_bytes (matrix s range mode) level most h = matrix_laid level most s range mode h.0
    lines_bytes (call f ts) level most h =
        let close = codes "\n" ++ (indent level ++ codes ")") in
        let many = token (word (word_kind (name_of f)) (name_of f)) ∷ token (punct kind.LeftParen) ∷ newline ∷ arguments_lines (derive_all ts) (level + 1) most (closing_line level []) in
        chosen_bytes (line (derive (call f ts))) (indent_items level many) level most (text (call f ts)) _ (line_bytes g (call f ts) h)
        (indented_is level many (name_of f ++ (codes "(\n" ++ (joined_text (codes ",\n") (layouts_of ts (level + 1) most) ++ close)))
        (ap (λ t. name_of f ++ (codes "(\n" ++ t)) (arguments_laid ts (level + 1) most (closing_line level []) close h.1 (closing_bytes level [] refl))))
    lines_bytes (extension name gives ts) level most h = absurd h

    param_laid : (p : MaybeTree) (e : Tree) (level most : ℕ) (after : List Item) (close : Text) → MaybePrintable g p → render (lines (derive e) level most) ≡ layout_of e level most → render after ≡ close
        → render (arguments_lines (derive_after p (grammar.more (derive e) grammar.none)) level most after) ≡ layout.param_lines (maybe_layout_of p level most) ++ (layout_of e level most ++ close)
    param_laid absent e level most after close k h c = render_both (lines (derive e) level most) after (layout_of e level most) close h c
    param_laid (present p) e level most after close k h c =
        render_both (lines (derive p) level most) (token (punct kind.Comma) ∷ newline ∷ (lines (derive e) level most ++ after)) (layout_of p level most) (codes ",\n" ++ (layout_of e level most ++ close)) (lines_bytes p level most k)
        (ap (λ t. codes ",\n" ++ t) (render_both (lines (derive e) level most) after (layout_of e level most) close h c))
        ∙ sym (append_assoc (layout_of p level most) (codes ",\n") (layout_of e level most ++ close))

    arguments_laid : (ts : Trees) (level most : ℕ) (after : List Item) (close : Text) → AllPrintable g ts → render after ≡ close → render (arguments_lines (derive_all ts) level most after) ≡ joined_text (codes ",\n") (layouts_of ts level most) ++ close
    arguments_laid no_trees level most after close h c = c
    arguments_laid (first_tree t ts) level most after close h c =
        render_both (lines (derive t) level most) (rest_lines (derive_all ts) level most after) (layout_of t level most) _ (lines_bytes t level most h.0) (rest_laid ts level most after close h.1 c)
        ∙ sym (append_assoc (layout_of t level most) (flat_map (λ y. codes ",\n" ++ y) (layouts_of ts level most)) close)

    rest_laid : (ts : Trees) (level most : ℕ) (after : List Item) (close : Text) → AllPrintable g ts → render after ≡ close → render (rest_lines (derive_all ts) level most after) ≡ flat_map (λ y. codes ",\n" ++ y) (layouts_of ts level most) ++ close
    rest_laid no_trees level most after close h c = c
    rest_laid (first_tree t ts) level most after close h c =
        ap (λ x. codes ",\n" ++ x)
        (render_both (lines (derive t) level most) (rest_lines (derive_all ts) level most after) (layout_of t level most) _ (lines_bytes t level most h.0) (rest_laid ts level most after close h.1 c)
        ∙ sym (append_assoc (layout_of t level most) (flat_map (λ y. codes ",\n" ++ y) (layouts_of ts level most)) close))
