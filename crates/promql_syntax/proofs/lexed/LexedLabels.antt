-- The lexer reads printed labels, groupings and matchings as their tokens.
use Rattle.std.proofs.Common.{◌≡◌, ℕ, suc, ◌+◌, refl, ap, arith, Bool, true, false, cond, not, ◌&&◌, ◌||◌, Option, Some, None, List, [], ◌∷◌, ◌++◌, length, codes, eqb-true}
use Rattle.std.specs.Prelude.{◌==◌, slice_index}
use Rattle.std.specs.List.{prefix_len}
use Rattle.std.proofs.lemmas.Bool.{eq-eqb}
use Rattle.promql_text.specs.Quoting.{quoted_text}
use Rattle.promql_text.specs.Texts.{Text}
use Rattle.promql_token.specs.Classes.{is_in, is_label, is_letter, end_of_run}
use Rattle.promql_token.specs.WordRanks.{is_name_byte}
use Rattle.promql_token.specs.Ids.{keyword_in_any_case}
use Rattle.promql_token.specs.Laws.{is_word}
use Rattle.promql_token.specs.TokenScanning.{after, opens, word_id}
use Rattle.promql_token.specs.declared.class.Class.TheVariants as class
use Rattle.promql_token.specs.declared.ids.TheConstants.{T_STRING, T_BY, T_GROUP_LEFT, T_GROUP_RIGHT, T_IGNORING, T_ON, T_WITHOUT}
use Rattle.promql_token.proofs.printed.ValueTokens.{joins_quoted}
use Rattle.promql_grammar.specs.declared.token_kinds.TokenKind.{TokenKind}
use Rattle.promql_grammar.specs.declared.token_kinds.TokenKind.TheVariants as kind
use Rattle.promql_grammar.specs.Symbols.{punct, symbol, symbol_of, word}
use Rattle.promql_label.specs.Labels.{is_number_word, label_text}
use Rattle.promql_kind.specs.Modifiers.{Clause, including, excluding, Cardinality, one_to_one, many_to_one, one_to_many, many_to_many}
use Rattle.promql_syntax.proofs.parsing.Booleans.{and_both, and_cases}
use Rattle.promql_syntax.proofs.lexed.Lexes.{Lexes, at_depth, ends_word}
use Rattle.promql_syntax.proofs.printed.PrintedItems.{Item, token, blank, before_line, group_line, labels_line, matching_line, names_line, render}
use Rattle.promql_syntax.proofs.printed.PrintedParts.{clause, group, label_kind, labels, matching_of_clause, names, word_kind}
use Rattle.promql_syntax.proofs.lexed.LexedItems.{Reads, append_lex, blank_then, close_reads, comma_reads, known_reads, nothing, open_reads, token_then}
use Rattle.promql_syntax.proofs.lexed.LexedWords.{name_reads}

-- ---- words

in_name : (n p : Bool) (b c : ℕ) → cond n (1 + b) 0 ≡ suc c → cond (n || p) (1 + b) 0 ≡ suc c
in_name true p b c e = e
in_name false p b c e = absurd (omega arith)

later_word : (n : Bool) (a b c : ℕ) → cond n (1 + a) 0 ≡ suc c → (a ≡ c → b ≡ c) → cond n (1 + b) 0 ≡ suc c
later_word true a b c e later = let same = later (omega arith) in omega (arith, same)
later_word false a b c e later = absurd (omega arith)

all_word : (z : Text) → prefix_len (is_in class.Name) z ≡ length z → prefix_len (is_in class.Word) z ≡ length z
all_word [] e = refl
all_word (b ∷ z) e =
    in_name (is_name_byte b) (b == 58) (prefix_len (is_in class.Word) z) (length z)
    (later_word (is_name_byte b) (prefix_len (is_in class.Name) z) (prefix_len (is_in class.Word) z) (length z) e (λ h. all_word z h))

label_is_word : (l : Text) → is_label l ≡ true → is_word l ≡ true
label_is_word l is =
    let h = and_cases (is_letter (slice_index l 0)) (end_of_run class.Name l 0 == length l) is in
    let all = eqb-true _ _ h.1 in
    let names : prefix_len (is_in class.Name) l ≡ length l = omega (arith, all) in
    let word = all_word l names in
    let whole : end_of_run class.Word l 0 ≡ length l = omega (arith, word) in
    and_both _ _ (ap (λ b. b || (slice_index l 0 == 58)) h.0) (eq-eqb _ _ whole)

pub string_reads : (depth : ℕ) (s r : Text) → Reads (at_depth depth) (at_depth depth) (word kind.String (quoted_text s)) r
unfolding after
string_reads depth s r = record { id = T_STRING; is = refl; reads = joins_quoted (at_depth depth) s r refl }

-- ---- labels

label_reads : (depth : ℕ) (l r : Text) → ends_word r ≡ true → opens r ≡ false → Reads (at_depth depth) (at_depth depth) (word (label_kind l) (label_text l)) r
label_reads depth l r ends shut = go (is_label l) (is_number_word l) refl
  where
    go : (a b : Bool) → is_label l ≡ a → Reads (at_depth depth) (at_depth depth) (word (cond (a && not b) (word_kind l) kind.String) (cond (a && not b) l (quoted_text l))) r
    go true false is = name_reads depth l r (label_is_word l is) ends shut
    go true true is = string_reads depth l r
    go false b is = string_reads depth l r

names_lex : (depth : ℕ) (l : Text) (ls : List Text) → Lexes (at_depth (suc depth)) (at_depth depth) (names_line (names l ls))
names_lex depth l [] =
    let inner = at_depth (suc depth) in
    token_then inner inner (at_depth depth) (word (label_kind l) (label_text l)) (token (punct kind.RightParen) ∷ []) (λ r. label_reads (suc depth) l (41 ∷ r) refl refl)
    (token_then inner (at_depth depth) (at_depth depth) (punct kind.RightParen) [] (λ r. close_reads depth r) (nothing (at_depth depth)))
names_lex depth l (k ∷ ls) =
    let inner = at_depth (suc depth) in
    let rest = names_line (names k ls) in
    token_then inner inner (at_depth depth) (word (label_kind l) (label_text l)) (token (punct kind.Comma) ∷ blank ∷ rest) (λ r. label_reads (suc depth) l (44 ∷ 32 ∷ (render rest ++ r)) refl refl)
    (token_then inner inner (at_depth depth) (punct kind.Comma) (blank ∷ rest) (λ r. comma_reads (suc depth) (32 ∷ (render rest ++ r)))
    (blank_then (suc depth) (at_depth depth) rest (names_lex depth k ls)))

pub labels_lex : (depth : ℕ) (ls : List Text) → Lexes (at_depth depth) (at_depth depth) (labels_line (labels ls))
labels_lex depth [] =
    let inner = at_depth (suc depth) in
    token_then (at_depth depth) inner (at_depth depth) (punct kind.LeftParen) (token (punct kind.RightParen) ∷ []) (λ r. open_reads depth (41 ∷ r))
    (token_then inner (at_depth depth) (at_depth depth) (punct kind.RightParen) [] (λ r. close_reads depth r) (nothing (at_depth depth)))
labels_lex depth (l ∷ ls) =
    let inner = at_depth (suc depth) in
    let rest = names_line (names l ls) in
    token_then (at_depth depth) inner (at_depth depth) (punct kind.LeftParen) rest (λ r. open_reads depth (render rest ++ r)) (names_lex depth l ls)

-- ---- groupings

by_id : (r : Text) → word_id (codes "by") r ≡ T_BY
unfolding keyword_in_any_case
by_id r = refl

without_id : (r : Text) → word_id (codes "without") r ≡ T_WITHOUT
unfolding keyword_in_any_case
without_id r = refl

-- a word between spaces, and what follows it
spaced_word : (depth id : ℕ) (k : TokenKind) (w : Text) (is : List Item) → is_word w ≡ true → ((r : Text) → word_id w r ≡ id) → symbol_of (id, w) ≡ word k w
    → Lexes (at_depth depth) (at_depth depth) is → Lexes (at_depth depth) (at_depth depth) (blank ∷ token (word k w) ∷ blank ∷ is)
spaced_word depth id k w is letters known symbol more =
    let o = at_depth depth in
    blank_then depth o (token (word k w) ∷ blank ∷ is)
    (token_then o o o (word k w) (blank ∷ is) (λ r. known_reads depth w (32 ∷ (render is ++ r)) id k letters (known (32 ∷ (render is ++ r))) symbol refl) (blank_then depth o is more))

spaced_labels : (depth : ℕ) (ls : List Text) → Lexes (at_depth depth) (at_depth depth) (labels_line (labels ls) ++ blank ∷ [])
spaced_labels depth ls = let o = at_depth depth in append_lex o o o (labels_line (labels ls)) (blank ∷ []) (labels_lex depth ls) (blank_then depth o [] (nothing o))

pub clause_lex : (depth : ℕ) (c : Option Clause) → Lexes (at_depth depth) (at_depth depth) (before_line (clause c))
clause_lex depth None = nothing (at_depth depth)
clause_lex depth (Some (including [])) = nothing (at_depth depth)
clause_lex depth (Some (including (l ∷ ls))) = spaced_word depth T_BY kind.By (codes "by") (labels_line (labels (l ∷ ls)) ++ blank ∷ []) refl by_id refl (spaced_labels depth (l ∷ ls))
clause_lex depth (Some (excluding ls)) = spaced_word depth T_WITHOUT kind.Without (codes "without") (labels_line (labels ls) ++ blank ∷ []) refl without_id refl (spaced_labels depth ls)

-- ---- matchings

on_id : (r : Text) → word_id (codes "on") r ≡ T_ON
unfolding keyword_in_any_case
on_id r = refl

ignoring_id : (r : Text) → word_id (codes "ignoring") r ≡ T_IGNORING
unfolding keyword_in_any_case
ignoring_id r = refl

group_left_id : (r : Text) → word_id (codes "group_left") r ≡ T_GROUP_LEFT
unfolding keyword_in_any_case
group_left_id r = refl

group_right_id : (r : Text) → word_id (codes "group_right") r ≡ T_GROUP_RIGHT
unfolding keyword_in_any_case
group_right_id r = refl

group_lex : (depth : ℕ) (card : Cardinality) → Lexes (at_depth depth) (at_depth depth) (group_line (group card))
group_lex depth one_to_one = nothing (at_depth depth)
group_lex depth (many_to_one ls) = spaced_word depth T_GROUP_LEFT kind.GroupLeft (codes "group_left") (labels_line (labels ls)) refl group_left_id refl (labels_lex depth ls)
group_lex depth (one_to_many ls) = spaced_word depth T_GROUP_RIGHT kind.GroupRight (codes "group_right") (labels_line (labels ls)) refl group_right_id refl (labels_lex depth ls)
group_lex depth many_to_many = nothing (at_depth depth)

pub matching_lex : (depth : ℕ) (c : Option Clause) (card : Cardinality) → Lexes (at_depth depth) (at_depth depth) (matching_line (matching_of_clause c (group card)))
matching_lex depth None card = nothing (at_depth depth)
matching_lex depth (Some (including ls)) card =
    let o = at_depth depth in
    spaced_word depth T_ON kind.On (codes "on") (labels_line (labels ls) ++ group_line (group card)) refl on_id refl
    (append_lex o o o (labels_line (labels ls)) (group_line (group card)) (labels_lex depth ls) (group_lex depth card))
matching_lex depth (Some (excluding ls)) card =
    let o = at_depth depth in
    spaced_word depth T_IGNORING kind.Ignoring (codes "ignoring") (labels_line (labels ls) ++ group_line (group card)) refl ignoring_id refl
    (append_lex o o o (labels_line (labels ls)) (group_line (group card)) (labels_lex depth ls) (group_lex depth card))
