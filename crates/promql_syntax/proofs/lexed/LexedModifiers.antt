-- The lexer reads printed modifiers as their tokens, before what ends a word.
use Rattle.std.proofs.Common.{◌≡◌, ℕ, refl, ◌∙◌, ap, Bool, true, false, Option, Some, None, List, [], ◌∷◌, ◌++◌, append_assoc, codes}
use Rattle.std.proofs.lemmas.Bool.{cond_both}
use Rattle.promql_text.specs.Texts.{Text}
use Rattle.promql_token.specs.Ids.{keyword_in_any_case}
use Rattle.promql_token.specs.TokenScanning.{word_id}
use Rattle.promql_grammar.specs.declared.token_kinds.TokenKind.TheVariants as kind
use Rattle.promql_grammar.specs.GrammarParts as part
use Rattle.promql_grammar.specs.Symbols.{word}
use Rattle.promql_kind.specs.Modifiers.{Clause, including, excluding, Cardinality, Fills, fills, Matching, matching, is_grouping, number_eq}
use Rattle.promql_ast.specs.Normal.{normal_matched}
use Rattle.promql_syntax.proofs.parsing.Booleans.{not_true}
use Rattle.promql_syntax.proofs.lexed.Lexes.{Lexes, LexesBefore, at_depth, ends_operator, ends_word}
use Rattle.promql_syntax.proofs.printed.PrintedItems.{Item, token, fills_line, flag_line, matching_line, modifier_line, render}
use Rattle.promql_syntax.proofs.printed.PrintedParts.{fill_words, flag, group, matching_of_clause, modifier, value}
use Rattle.promql_syntax.proofs.lexed.LexedItems.{append_before, append_lex, before_any, blank_before, known_reads, last_before, nothing}
use Rattle.promql_syntax.proofs.lexed.LexedLabels.{matching_lex}
use Rattle.promql_syntax.proofs.lexed.LexedValues.{fills_lex}
use Rattle.promql_syntax.proofs.printed.PrintedBytes.{render_append}
use Rattle.promql_syntax.proofs.printed.PrintedModifiers.{AreFills, IsMatched}
use Rattle.promql_token.specs.declared.ids.TheConstants.{T_BOOL}

bool_id : (r : Text) → word_id (codes "bool") r ≡ T_BOOL
unfolding keyword_in_any_case
bool_id r = refl

flag_lex : (depth : ℕ) (b : Bool) → LexesBefore ends_word (at_depth depth) (at_depth depth) (flag_line (flag b))
flag_lex depth false = before_any ends_word (at_depth depth) (at_depth depth) [] (nothing (at_depth depth))
flag_lex depth true =
    let o = at_depth depth in
    blank_before ends_word depth o (token (word kind.Bool (codes "bool")) ∷ [])
    (last_before ends_word o o (word kind.Bool (codes "bool")) (λ r ends. known_reads depth (codes "bool") r T_BOOL kind.Bool refl (bool_id r) refl (not_true _ ends)))

values_lex : (depth : ℕ) (f : Fills) → AreFills f → Lexes (at_depth depth) (at_depth depth) (fills_line (fill_words f))
values_lex depth (fills None None) are = fills_lex depth None None tt tt
values_lex depth (fills (Some r) None) are = fills_lex depth (Some r) None are.0 tt
values_lex depth (fills None (Some l)) are = fills_lex depth None (Some l) tt are.1
values_lex depth (fills (Some r) (Some l)) are = fills_lex depth (Some r) (Some l) are.0 are.1

-- what begins with a space, or is empty, ends a word where what follows it does
module _ (test : Text → Bool) (space : (z : Text) → test (32 ∷ z) ≡ true) where
  fills_end : (f : Fills) (r : Text) → test r ≡ true → test (render (fills_line (fill_words f)) ++ r) ≡ true
  fills_end (fills None None) r ends = ends
  fills_end (fills (Some v) None) r ends = space _
  fills_end (fills None (Some w)) r ends = space _
  fills_end (fills (Some v) (Some w)) r ends =
      cond_both (number_eq w v) (part.both (codes "fill") (value w)) (part.two true (codes "fill_left") (value w) (codes "fill_right") (value v))
      (λ p. test (render (fills_line p) ++ r) ≡ true) (λ _. space _) (λ _. space _)

  parts_end : (c : Option Clause) (card : Cardinality) (f : Fills) (r : Text) → test r ≡ true → test (render (matching_line (matching_of_clause c (group card)) ++ fills_line (fill_words f)) ++ r) ≡ true
  parts_end None card f r ends = fills_end f r ends
  parts_end (Some (including ls)) card f r ends = space _
  parts_end (Some (excluding ls)) card f r ends = space _

  modifier_end : (m : Option Matching) (r : Text) → test r ≡ true → test (render (modifier_line (modifier m)) ++ r) ≡ true
  modifier_end None r ends = ends
  modifier_end (Some (matching card c true f)) r ends = space _
  modifier_end (Some (matching card c false f)) r ends = parts_end (normal_matched (is_grouping card) c) card f r ends

pub modifier_lex : (depth : ℕ) (m : Option Matching) → IsMatched m → LexesBefore ends_word (at_depth depth) (at_depth depth) (modifier_line (modifier m))
modifier_lex depth None is = before_any ends_word (at_depth depth) (at_depth depth) [] (nothing (at_depth depth))
modifier_lex depth (Some (matching card c b f)) is =
    let o = at_depth depth in
    let clause = normal_matched (is_grouping card) c in
    let rest = matching_line (matching_of_clause clause (group card)) ++ fills_line (fill_words f) in
    append_before ends_word ends_word o o o (flag_line (flag b)) rest (parts_end ends_word (λ z. refl) clause card f) (flag_lex depth b)
    (before_any ends_word o o rest (append_lex o o o (matching_line (matching_of_clause clause (group card))) (fills_line (fill_words f)) (matching_lex depth clause card) (values_lex depth f is.1)))

-- a modifier, or what follows it, may follow an operator
pub after_operator : (m : Option Matching) (is : List Item) (r : Text) → ends_operator (render is ++ r) ≡ true → ends_operator (render (modifier_line (modifier m) ++ is) ++ r) ≡ true
after_operator m is r ends =
    let line = modifier_line (modifier m) in
    ap (λ z. ends_operator (z ++ r)) (render_append line is) ∙ ap ends_operator (append_assoc (render line) (render is) r) ∙ modifier_end ends_operator (λ z. refl) m (render is ++ r) ends
