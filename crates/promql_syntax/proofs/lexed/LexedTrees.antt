-- The lexer reads a printed tree as its tokens, on one line and laid out.
use Rattle.std.proofs.Common.{◌≡◌, ℕ, zero, suc, ◌+◌, refl, sym, ◌∙◌, subst, true, false, Bool, Option, Some, None, option_map, List, [], ◌∷◌, ◌++◌, codes}
use Rattle.std.proofs.lemmas.Bool.{cond_both}
use Rattle.promql_text.specs.NumberText.{number_text}
use Rattle.promql_text.specs.Quoting.{quoted_text}
use Rattle.promql_text.specs.Texts.{Text}
use Rattle.promql_text.specs.Values.{IsNumber, is_below_zero, neg}
use Rattle.promql_text.specs.declared.number.Number.{Number}
use Rattle.promql_text.proofs.numbers.OneForm.{negated_in_form}
use Rattle.promql_token.specs.Ids.{is_aggregator, text_of}
use Rattle.promql_token.specs.declared.ids.TheConstants.{T_SUB}
use Rattle.promql_token.specs.declared.state.State.{State}
use Rattle.promql_token.proofs.one_reading.Steps.{pieces_run}
use Rattle.promql_grammar.specs.declared.token_kinds.TokenKind.{TokenKind}
use Rattle.promql_grammar.specs.declared.token_kinds.TokenKind.TheVariants as kind
use Rattle.promql_grammar.specs.Grammar as grammar
use Rattle.promql_grammar.specs.Grammar.{Arguments, Derivation}
use Rattle.promql_grammar.specs.GrammarParts as part
use Rattle.promql_grammar.specs.Symbols.{token_kind, punct, word}
use Rattle.promql_label.specs.Answers.{Answer}
use Rattle.promql_label.specs.PlainMatchers.{PlainMatchers}
use Rattle.promql_kind.specs.Functions.{name_of}
use Rattle.promql_kind.specs.Modifiers.{Clause, including, excluding, Matching}
use Rattle.promql_ast.specs.Lines.{is_longer}
use Rattle.promql_ast.specs.Selectors.{selector}
use Rattle.promql_ast.specs.Shifts.{Shift, Moment}
use Rattle.promql_ast.specs.Tree.{Tree, aggregate, unary, binary, paren, subquery, number, string, vector, matrix, call, extension, MaybeTree, absent, present, Trees, no_trees, first_tree}
use Rattle.promql_ast.specs.declared.range_mode.RangeMode.{RangeMode}
use Rattle.promql_ast.specs.declared.range_mode.RangeMode.TheVariants.{Plain, Smoothed, Anchored}
use Rattle.promql_syntax.proofs.readback.Derive.{derive, derive_after, derive_all, derive_base, with_at, with_mode, with_suffix}
use Rattle.promql_syntax.proofs.lexed.Lexes.{Lexes, LexesBefore, at_depth, ends_word, is_clear}
use Rattle.promql_syntax.proofs.printed.PrintedItems.{Item, token, blank, newline, after_line, any_braces_line, arguments_line, arguments_lines, before_line, braces_line, choose_items, closing_line, indent_items, line, lines, modifier_line, postfix_line, render, rest_line, rest_lines, trim_items}
use Rattle.promql_syntax.proofs.printed.PrintedParts.{braces, clause, modifier, moment, shift, time, word_kind}
use Rattle.promql_syntax.proofs.lexed.LexedBraces.{braces_lex, no_item_lex}
use Rattle.promql_syntax.proofs.lexed.LexedStarts.{IsClear, braces_end, clause_ends, closing_clear, moment_clear, operator_clear, operator_line_clear, rest_clear, rest_lines_clear, shift_clear}
use Rattle.promql_syntax.proofs.lexed.LexedItems.{Reads, append_before, append_lex, before_any, blank_before, blank_then, close_reads, comma_reads, newline_before, newline_then, nothing, open_reads, token_before, token_then}
use Rattle.promql_syntax.proofs.lexed.LexedLabels.{clause_lex, string_reads}
use Rattle.promql_syntax.proofs.lexed.LexedModifiers.{after_operator, modifier_lex}
use Rattle.promql_syntax.proofs.lexed.LexedMoments.{moment_lex, shift_lex}
use Rattle.promql_syntax.proofs.lexed.LexedPostfixes.{anchored_lex, number_lex, range_lex, smoothed_lex, subquery_lex}
use Rattle.promql_syntax.proofs.lexed.LexedValues.{minus_reads, negated_above}
use Rattle.promql_syntax.proofs.lexed.LexedWords.{aggregator_reads, called_reads, name_reads, operator_reads}
use Rattle.promql_syntax.proofs.readback.Printable.{AllPrintable, IsAnyMoment, IsSelecting, IsShift, MaybePrintable, Printable}
use Rattle.promql_syntax.proofs.printed.PrintedModifiers.{IsMatched}
use Rattle.promql_syntax.proofs.printed.PrintedTimesAndLabels.{IsTime}

-- ---- an expression, and arguments with the parenthesis after them

abbrev LexesExpression : ℕ → List Item → Type 0
LexesExpression depth is = LexesBefore is_clear (at_depth depth) (at_depth depth) is

-- what closes a parenthesis
abbrev LexesClosing : ℕ → List Item → Type 0
LexesClosing depth is = Lexes (at_depth (suc depth)) (at_depth depth) is

pub record LexesDerivation (d : Derivation) : Type 0 where
  pub one : (depth : ℕ) → LexesExpression depth (line d)
  pub many : (depth level most : ℕ) → LexesExpression depth (lines d level most)

-- as the first ones, and as what follows an argument
record LexesArguments (ds : Arguments) : Type 0 where
  one_first : (depth : ℕ) → LexesClosing depth (arguments_line ds)
  one_rest : (depth : ℕ) → LexesClosing depth (rest_line ds)
  many_first : (depth level most : ℕ) (after : List Item) → IsClear after → LexesClosing depth after → LexesClosing depth (arguments_lines ds level most after)
  many_rest : (depth level most : ℕ) (after : List Item) → IsClear after → LexesClosing depth after → LexesClosing depth (rest_lines ds level most after)

-- ---- what follows an expression

then_before : (late : Text → Bool) (depth : ℕ) (c : State) (is js : List Item) → IsClear js → LexesExpression depth is → LexesBefore late (at_depth depth) c js → LexesBefore late (at_depth depth) c (is ++ js)
then_before late depth c is js clear first more = append_before is_clear late (at_depth depth) (at_depth depth) c is js (λ r passes. clear r) first more

then_any : (depth : ℕ) (c : State) (is js : List Item) → IsClear js → LexesExpression depth is → Lexes (at_depth depth) c js → Lexes (at_depth depth) c (is ++ js)
then_any depth c is js clear first more r = then_before (λ r. true) depth c is js clear first (before_any (λ r. true) (at_depth depth) c js more) r refl

of_any : (depth : ℕ) (is : List Item) → Lexes (at_depth depth) (at_depth depth) is → LexesExpression depth is
of_any depth is more = before_any is_clear (at_depth depth) (at_depth depth) is more

-- ---- white space

indented_before : (depth level : ℕ) (c : State) (is : List Item) → LexesBefore is_clear (at_depth depth) c is → LexesBefore is_clear (at_depth depth) c (indent_items level is)
indented_before depth zero c is more = more
indented_before depth (suc level) c is more = blank_before is_clear depth c (blank ∷ indent_items level is) (blank_before is_clear depth c (indent_items level is) (indented_before depth level c is more))

indented_then : (depth level : ℕ) (c : State) (is : List Item) → Lexes (at_depth depth) c is → Lexes (at_depth depth) c (indent_items level is)
indented_then depth zero c is more = more
indented_then depth (suc level) c is more = blank_then depth c (blank ∷ indent_items level is) (blank_then depth c (indent_items level is) (indented_then depth level c is more))

without_blank : (depth : ℕ) (c : State) (is : List Item) → LexesBefore is_clear (at_depth depth) c (blank ∷ is) → LexesBefore is_clear (at_depth depth) c is
without_blank depth c is more r passes = let m = more r passes in (m.0, m.1, sym (pieces_run (at_depth depth) (32 ∷ []) (render is ++ r) refl refl) ∙ m.2)

without_indent_before : (depth : ℕ) (c : State) (is : List Item) → LexesBefore is_clear (at_depth depth) c is → LexesBefore is_clear (at_depth depth) c (trim_items is)
without_indent_before depth c [] more = more
without_indent_before depth c (blank ∷ is) more = without_indent_before depth c is (without_blank depth c is more)
without_indent_before depth c (token s ∷ is) more = more
without_indent_before depth c (newline ∷ is) more = more

chosen_before : (depth level most : ℕ) (one many : List Item) → LexesExpression depth one → LexesExpression depth many → LexesExpression depth (choose_items one many level most)
chosen_before depth level most one many first second =
    cond_both (is_longer most (render one)) many (indent_items level one) (LexesExpression depth) (λ _. second) (λ _. indented_before depth level (at_depth depth) one first)

-- ---- arguments

abbrev close_items : List Item
close_items = token (punct kind.RightParen) ∷ []

close_then : (depth : ℕ) (is : List Item) → Lexes (at_depth depth) (at_depth depth) is → LexesClosing depth (token (punct kind.RightParen) ∷ is)
close_then depth is more = token_then (at_depth (suc depth)) (at_depth depth) (at_depth depth) (punct kind.RightParen) is (λ r. close_reads depth (render is ++ r)) more

open_then : (depth : ℕ) (is : List Item) → LexesClosing depth is → Lexes (at_depth depth) (at_depth depth) (token (punct kind.LeftParen) ∷ is)
open_then depth is more = token_then (at_depth depth) (at_depth (suc depth)) (at_depth depth) (punct kind.LeftParen) is (λ r. open_reads depth (render is ++ r)) more

comma_then : (depth : ℕ) (is : List Item) → LexesClosing depth is → LexesClosing depth (token (punct kind.Comma) ∷ is)
comma_then depth is more = token_then (at_depth (suc depth)) (at_depth (suc depth)) (at_depth depth) (punct kind.Comma) is (λ r. comma_reads (suc depth) (render is ++ r)) more

-- on a line of its own
closing_then : (depth level : ℕ) (after : List Item) → Lexes (at_depth depth) (at_depth depth) after → LexesClosing depth (closing_line level after)
closing_then depth level after more =
    let items = token (punct kind.RightParen) ∷ after in
    newline_then (suc depth) (at_depth depth) (indent_items level items) (indented_then (suc depth) level (at_depth depth) items (close_then depth after more))

none_lexed : LexesArguments grammar.none
none_lexed = record {
  one_first = λ depth. close_then depth [] (nothing (at_depth depth));
  one_rest = λ depth. close_then depth [] (nothing (at_depth depth));
  many_first = λ depth level most after clear more. more;
  many_rest = λ depth level most after clear more. more;
}

more_lexed : (d : Derivation) (ds : Arguments) → LexesDerivation d → LexesArguments ds → LexesArguments (grammar.more d ds)
more_lexed d ds h hs =
    let one = λ (depth : ℕ). then_any (suc depth) (at_depth depth) (line d) (rest_line ds) (rest_clear ds) (h.one (suc depth)) (hs.one_rest depth) in
    let many = λ (depth level most : ℕ) (after : List Item) (clear : IsClear after) (more : LexesClosing depth after).
    then_any (suc depth) (at_depth depth) (lines d level most) (rest_lines ds level most after) (rest_lines_clear ds level most after clear) (h.many (suc depth) level most)
    (hs.many_rest depth level most after clear more) in
    record {
      one_first = one;
      one_rest = λ depth. comma_then depth (blank ∷ (line d ++ rest_line ds)) (blank_then (suc depth) (at_depth depth) (line d ++ rest_line ds) (one depth));
      many_first = many;
      many_rest = λ depth level most after clear more.
          comma_then depth (newline ∷ (lines d level most ++ rest_lines ds level most after))
          (newline_then (suc depth) (at_depth depth) (lines d level most ++ rest_lines ds level most after) (many depth level most after clear more));
    }

-- ---- nodes

-- without expressions in it, it is not broken into lines
leaf_lexed : (d : Derivation) → ((level most : ℕ) → lines d level most ≡ indent_items level (line d)) → ((depth : ℕ) → LexesExpression depth (line d)) → LexesDerivation d
leaf_lexed d layout_of one = record {
  one = one;
  many = λ depth level most. subst (LexesExpression depth) (sym (layout_of level most)) (indented_before depth level (at_depth depth) (line d) (one depth));
}

paren_lexed : (d : Derivation) → LexesDerivation d → LexesDerivation (grammar.paren d)
paren_lexed d h =
    let one = λ (depth : ℕ).
    of_any depth (line (grammar.paren d)) (open_then depth (line d ++ close_items) (then_any (suc depth) (at_depth depth) (line d) close_items (λ r. refl) (h.one (suc depth)) (close_then depth [] (nothing (at_depth depth))))) in
    record {
      one = one;
      many = λ depth level most.
          let o = at_depth depth in
          let inside = lines d (level + 1) most ++ closing_line level [] in
          let many = token (punct kind.LeftParen) ∷ newline ∷ inside in
          chosen_before depth level most (line (grammar.paren d)) (indent_items level many) (one depth)
          (of_any depth (indent_items level many) (indented_then depth level o many (open_then depth (newline ∷ inside) (newline_then (suc depth) o inside
          (then_any (suc depth) o (lines d (level + 1) most) (closing_line level []) (closing_clear level []) (h.many (suc depth) (level + 1) most) (closing_then depth level [] (nothing o)))))));
    }

call_lexed : (k : TokenKind) (name : Text) (ds : Arguments) → ((depth : ℕ) (r : Text) → Reads (at_depth depth) (at_depth depth) (word k name) (40 ∷ r)) → LexesArguments ds → LexesDerivation (grammar.call k name ds)
call_lexed k name ds reads hs =
    let name_then = λ (depth : ℕ) (is : List Item) (more : LexesClosing depth is).
    token_then (at_depth depth) (at_depth depth) (at_depth depth) (word k name) (token (punct kind.LeftParen) ∷ is) (λ r. reads depth (render is ++ r)) (open_then depth is more) in
    let one = λ (depth : ℕ). of_any depth (line (grammar.call k name ds)) (name_then depth (arguments_line ds) (hs.one_first depth)) in
    record {
      one = one;
      many = λ depth level most.
          let o = at_depth depth in
          let inside = arguments_lines ds (level + 1) most (closing_line level []) in
          let many = token (word k name) ∷ token (punct kind.LeftParen) ∷ newline ∷ inside in
          chosen_before depth level most (line (grammar.call k name ds)) (indent_items level many) (one depth)
          (of_any depth (indent_items level many) (indented_then depth level o many (name_then depth (newline ∷ inside) (newline_then (suc depth) o inside
          (hs.many_first depth (level + 1) most (closing_line level []) (closing_clear level []) (closing_then depth level [] (nothing o)))))));
    }

-- a grouping is printed before the arguments
after_clause : (depth : ℕ) (m : Option Clause) → Lexes (at_depth depth) (at_depth depth) (after_line (clause m))
after_clause depth None = nothing (at_depth depth)
after_clause depth (Some (including [])) = nothing (at_depth depth)
after_clause depth (Some (including (l ∷ ls))) = nothing (at_depth depth)
after_clause depth (Some (excluding ls)) = nothing (at_depth depth)

aggregate_lexed : (op : ℕ) (m : Option Clause) (ds : Arguments) → is_aggregator op ≡ true → LexesArguments ds → LexesDerivation (grammar.aggregate op (text_of op) (clause m) ds)
aggregate_lexed op m ds is hs =
    let c = clause m in
    let d = grammar.aggregate op (text_of op) c ds in
    let w = word (kind.Aggregator op) (text_of op) in
    let name_then = λ (depth : ℕ) (items : List Item) (more : Lexes (at_depth (suc depth)) (at_depth depth) items).
    let o = at_depth depth in
    let rest = token (punct kind.LeftParen) ∷ items in
    token_then o o o w (before_line c ++ rest) (λ r. aggregator_reads depth op (render (before_line c ++ rest) ++ r) is (clause_ends m items r))
    (append_lex o o o (before_line c) rest (clause_lex depth m) (open_then depth items more)) in
    let one = λ (depth : ℕ).
    let o = at_depth depth in
    of_any depth (line d) (name_then depth (arguments_line ds ++ after_line c) (append_lex (at_depth (suc depth)) o o (arguments_line ds) (after_line c) (hs.one_first depth) (after_clause depth m))) in
    record {
      one = one;
      many = λ depth level most.
          let o = at_depth depth in
          let after = closing_line level (after_line c) in
          let inside = arguments_lines ds (level + 1) most after in
          let many = token w ∷ (before_line c ++ token (punct kind.LeftParen) ∷ newline ∷ inside) in
          chosen_before depth level most (line d) (indent_items level many) (one depth)
          (of_any depth (indent_items level many) (indented_then depth level o many (name_then depth (newline ∷ inside) (newline_then (suc depth) o inside
          (hs.many_first depth (level + 1) most after (closing_clear level (after_line c)) (closing_then depth level (after_line c) (after_clause depth m)))))));
    }

postfixed_lexed : (d : Derivation) (p : part.Postfix) → IsClear (postfix_line p) → ((depth : ℕ) → LexesExpression depth (postfix_line p)) → LexesDerivation d → LexesDerivation (grammar.postfixed d p)
postfixed_lexed d p clear last h = record {
  one = λ depth. then_before is_clear depth (at_depth depth) (line d) (postfix_line p) clear (h.one depth) (last depth);
  many = λ depth level most. then_before is_clear depth (at_depth depth) (lines d level most) (postfix_line p) clear (h.many depth level most) (last depth);
}

minus_lexed : (d : Derivation) → LexesDerivation d → LexesDerivation (grammar.unary T_SUB (codes "-") d)
minus_lexed d h =
    let minus = word (kind.Operator T_SUB) (codes "-") in
    let sign_then = λ (depth : ℕ) (is : List Item) (more : LexesExpression depth is).
    let o = at_depth depth in
    token_before is_clear o o o minus is (λ r passes. minus_reads depth (render is ++ r)) more in
    record {
      one = λ depth. sign_then depth (line d) (h.one depth);
      many = λ depth level most.
          let rest = trim_items (lines d level most) in
          indented_before depth level (at_depth depth) (token minus ∷ rest) (sign_then depth rest (without_indent_before depth (at_depth depth) (lines d level most) (h.many depth level most)));
    }

binary_lexed : (op : ℕ) (m : Option Matching) (l r : Derivation) → token_kind op ≡ kind.Operator op → IsMatched m → LexesDerivation l → LexesDerivation r → LexesDerivation (grammar.binary op (text_of op) (modifier m) l r)
binary_lexed op m l r known matched hl hr =
    let d = grammar.binary op (text_of op) (modifier m) l r in
    let w = word (kind.Operator op) (text_of op) in
    let modified = modifier_line (modifier m) in
    let one = λ (depth : ℕ).
    let o = at_depth depth in
    let right = blank ∷ line r in
    let rest = token w ∷ (modified ++ right) in
    then_before is_clear depth o (line l) (blank ∷ rest) (operator_clear op (modified ++ right) known) (hl.one depth)
    (blank_before is_clear depth o rest
    (token_before is_clear o o o w (modified ++ right) (λ z passes. operator_reads depth op (render (modified ++ right) ++ z) known (after_operator m right z refl))
    (append_before ends_word is_clear o o o modified right (λ z passes. refl) (modifier_lex depth m matched) (blank_before is_clear depth o (line r) (hr.one depth))))) in
    record {
      one = one;
      many = λ depth level most.
          let o = at_depth depth in
          let right = newline ∷ lines r (level + 1) most in
          let rest = token w ∷ (modified ++ right) in
          chosen_before depth level most (line d) (lines l (level + 1) most ++ newline ∷ indent_items level rest) (one depth)
          (then_before is_clear depth o (lines l (level + 1) most) (newline ∷ indent_items level rest) (operator_line_clear level op (modified ++ right) known) (hl.many depth (level + 1) most)
          (newline_before is_clear depth o (indent_items level rest) (indented_before depth level o rest
          (token_before is_clear o o o w (modified ++ right) (λ z passes. operator_reads depth op (render (modified ++ right) ++ z) known (after_operator m right z refl))
          (append_before ends_word is_clear o o o modified right (λ z passes. refl) (modifier_lex depth m matched)
          (newline_before is_clear depth o (lines r (level + 1) most) (hr.many depth (level + 1) most)))))));
    }

-- ---- trees

module _ (g : Text → Answer) where
  unsigned_lexed : (v : Number) → IsNumber v → is_below_zero v ≡ false → LexesDerivation (grammar.number (number_text v))
  unsigned_lexed v is above = leaf_lexed (grammar.number (number_text v)) (λ level most. refl) (λ depth. number_lex depth v is above)

  number_lexed : (n : Number) → IsNumber n → LexesDerivation (derive (number n))
  number_lexed n is =
      cond_both (is_below_zero n) (grammar.unary T_SUB (codes "-") (grammar.number (number_text (neg n)))) (grammar.number (number_text n)) LexesDerivation
      (λ below. minus_lexed (grammar.number (number_text (neg n))) (unsigned_lexed (neg n) (negated_in_form n is) (negated_above n below)))
      (λ above. unsigned_lexed n is above)

  -- ---- selectors

  named_lexed : (name : Text) (cs : PlainMatchers) → IsSelecting g (Some name) cs → LexesDerivation (derive_base (Some name) (braces cs))
  named_lexed name cs h =
      leaf_lexed (derive_base (Some name) (braces cs)) (λ level most. refl) (λ depth.
      let o = at_depth depth in
      let items = any_braces_line (braces cs) in
      token_before is_clear o o o (word (word_kind name) name) items
      (λ r passes. let after = braces_end (braces cs) r passes in name_reads depth name (render items ++ r) h.0 after.0 after.1) (of_any depth items (braces_lex depth cs)))

  nameless_lexed : (b : Option part.Braces) → ((depth : ℕ) → Lexes (at_depth depth) (at_depth depth) (any_braces_line b)) → LexesDerivation (derive_base None b)
  nameless_lexed None more = leaf_lexed (grammar.nameless None) (λ level most. refl) (λ depth. of_any depth (braces_line None) (no_item_lex depth))
  nameless_lexed (Some b) more = leaf_lexed (grammar.nameless b) (λ level most. refl) (λ depth. of_any depth (braces_line b) (more depth))

  base_lexed : (name : Option Text) (cs : PlainMatchers) → IsSelecting g name cs → LexesDerivation (derive_base name (braces cs))
  base_lexed (Some name) cs h = named_lexed name cs h
  base_lexed None cs h = nameless_lexed (braces cs) (λ depth. braces_lex depth cs)

  mode_lexed : (mode : RangeMode) (d : Derivation) → LexesDerivation d → LexesDerivation (with_mode mode d)
  mode_lexed Plain d h = h
  mode_lexed Smoothed d h = postfixed_lexed d (part.mode true (codes "smoothed")) (λ r. refl) smoothed_lex h
  mode_lexed Anchored d h = postfixed_lexed d (part.mode false (codes "anchored")) (λ r. refl) anchored_lex h

  at_lexed : (a : Option Moment) (d : Derivation) → IsAnyMoment a → LexesDerivation d → LexesDerivation (with_at a d)
  at_lexed None d is h = h
  at_lexed (Some m) d is h = postfixed_lexed d (moment m) (moment_clear m) (λ depth. moment_lex depth m is) h

  suffix_lexed : (o : Option Shift) (a : Option Moment) (d : Derivation) → IsShift o → IsAnyMoment a → LexesDerivation d → LexesDerivation (with_suffix o a d)
  suffix_lexed None a d shifted is h = at_lexed a d is h
  suffix_lexed (Some s) a d shifted is h = postfixed_lexed (with_at a d) (shift s) (shift_clear s) (λ depth. shift_lex depth s shifted) (at_lexed a d is h)

  range_lexed : (d : Derivation) (range : ℕ) → IsTime range → LexesDerivation d → LexesDerivation (grammar.postfixed d (part.range (time range)))
  range_lexed d range is h = postfixed_lexed d (part.range (time range)) (λ r. refl) (λ depth. of_any depth (postfix_line (part.range (time range))) (range_lex depth range is)) h

  -- ---- any tree

  mutual
    pub tree_lexed : (t : Tree) → Printable g t → LexesDerivation (derive t)
    tree_lexed (aggregate op e p m) h =
        aggregate_lexed op m (derive_after p (grammar.more (derive e) grammar.none)) h.0 (param_lexed p (grammar.more (derive e) grammar.none) h.2 (more_lexed (derive e) grammar.none (tree_lexed e h.1) none_lexed))
    tree_lexed (unary e) h = minus_lexed (derive e) (tree_lexed e h)
    tree_lexed (binary op l r m) h = binary_lexed op m (derive l) (derive r) h.3 h.0 (tree_lexed l h.1) (tree_lexed r h.2)
    tree_lexed (paren e) h = paren_lexed (derive e) (tree_lexed e h)
    tree_lexed (subquery e o a range step) h =
        let p = part.subquery (time range) (option_map time step) in
        suffix_lexed o a (grammar.postfixed (derive e) p) h.3 h.4 (postfixed_lexed (derive e) p (λ r. refl) (λ depth. of_any depth (postfix_line p) (subquery_lex depth range step h.1 h.2)) (tree_lexed e h.0))
    tree_lexed (number n) h = number_lexed n h
    tree_lexed (string s) h = leaf_lexed (grammar.string (quoted_text s)) (λ level most. refl) (λ depth. of_any depth (line (grammar.string (quoted_text s))) (token_then (at_depth depth) (at_depth depth) (at_depth depth) (word kind.String (quoted_text s)) [] (λ r. string_reads depth s r) (nothing (at_depth depth))))
    tree_lexed (vector (selector name cs o a)) h = suffix_lexed o a (derive_base name (braces cs)) h.1 h.2 (base_lexed name cs h.0)
    tree_lexed (matrix (selector name cs o a) range mode) h =
        let base = derive_base name (braces cs) in
        let below = grammar.postfixed base (part.range (time range)) in
        suffix_lexed o a (with_mode mode below) h.0.1 h.0.2 (mode_lexed mode below (range_lexed base range h.1 (base_lexed name cs h.0.0)))
    tree_lexed (call f ts) h =
        call_lexed (word_kind (name_of f)) (name_of f) (derive_all ts) (λ depth r. called_reads depth (name_of f) (40 ∷ r) h.0 h.2 refl) (all_lexed ts h.1)
    tree_lexed (extension name gives ts) h = absurd h

    param_lexed : (p : MaybeTree) (ds : Arguments) → MaybePrintable g p → LexesArguments ds → LexesArguments (derive_after p ds)
    param_lexed absent ds h hs = hs
    param_lexed (present e) ds h hs = more_lexed (derive e) ds (tree_lexed e h) hs

    all_lexed : (ts : Trees) → AllPrintable g ts → LexesArguments (derive_all ts)
    all_lexed no_trees h = none_lexed
    all_lexed (first_tree t ts) h = more_lexed (derive t) (derive_all ts) (tree_lexed t h.0) (all_lexed ts h.1)
