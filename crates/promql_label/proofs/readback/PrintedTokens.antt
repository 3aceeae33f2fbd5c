-- The lexer reads printed lists of matchers as their tokens.
use Rattle.std.proofs.Common.{◌≡◌, ℕ, refl, sym, ap, ◌∙◌, ◌==◌, arith, Bool, true, false, cond, ◌&&◌, List, [], ◌∷◌, ◌++◌, map, flat_map, codes, append_assoc, append-nil, Ok, slice_index, is_gt}
use Rattle.std.specs.List.{join_by}
use Rattle.std.specs.Str.{str_eq_ignore_ascii_case}
use Rattle.std.proofs.lemmas.List.{map-append}
use Rattle.promql_text.specs.Quoting.{quoted_text}
use Rattle.promql_text.specs.Texts.{Text, joined_text}
use Rattle.promql_token.specs.Classes.{is_in, is_label}
use Rattle.promql_token.specs.Lexing.{ScannedText, pieces}
use Rattle.promql_token.specs.TokenScanning as scan
use Rattle.promql_token.specs.TokenScanning.{after, in_braces}
use Rattle.promql_token.specs.declared.class.Class.TheVariants as class
use Rattle.promql_token.specs.declared.ids.TheConstants.{T_COMMA, T_EQL, T_EQL_REGEX, T_IDENTIFIER, T_LOR, T_NEQ, T_NEQ_REGEX, T_STRING}
use Rattle.promql_token.proofs.printed.Concatenation.{joins, joins_name}
use Rattle.promql_token.proofs.printed.ValueTokens.{joins_quoted}
use Rattle.promql_token.proofs.one_reading.Steps.{pieces_run}
use Rattle.promql_label.specs.PlainMatchers.{Operator, equal, not_equal, matches, matches_not, PlainMatcher, plain_matcher, PlainMatchers, plain_matchers, group_text, matcher_text, matchers_text, name_text, operator_text}
use Rattle.promql_label.specs.SortedTexts.{insert_text, sorted_texts, text_order}
use Rattle.promql_label.specs.ReadMatchers.{insert_matcher, sorted_matchers, operator_id}
use Rattle.promql_label.proofs.readback.MatcherTokens.{Token, inside, name_token, matcher_tokens, group_tokens, matchers_tokens}

abbrev scanned_tokens : List Token → List ScannedText
scanned_tokens ts = map (λ t. Ok t) ts

-- in braces, before any text, the text is read as the tokens
abbrev Reads : ℕ → Text → List Token → Type 0
Reads depth s ts = (r : Text) → pieces (inside depth) (s ++ r) ≡ scanned_tokens ts ++ pieces (inside depth) r

append_reads : (depth : ℕ) (s z : Text) (ts us : List Token) → Reads depth s ts → Reads depth z us → Reads depth (s ++ z) (ts ++ us)
append_reads depth s z ts us first second r =
    ap (pieces (inside depth)) (append_assoc s z r) ∙ first (z ++ r) ∙ ap (λ ws. scanned_tokens ts ++ ws) (second r)
    ∙ sym (append_assoc {A = ScannedText} (scanned_tokens ts) (scanned_tokens us) (pieces (inside depth) r))
    ∙ ap (λ ws. ws ++ pieces (inside depth) r) (sym (map-append {B = ScannedText} (λ t. Ok t) ts us))

-- what is joined is read piece by piece
separated_reads : {X : Type 0} (depth : ℕ) (f : X → Text) (g : X → List Token) (s : Text) (t : Token) → Reads depth s (t ∷ []) → ((x : X) → Reads depth (f x) (g x)) → (xs : List X)
    → Reads depth (flat_map (λ z. s ++ z) (map f xs)) (flat_map (λ x. t ∷ g x) xs)
separated_reads depth f g s t between each [] r = refl
separated_reads depth f g s t between each (x ∷ xs) r =
    append_reads depth (s ++ f x) (flat_map (λ z. s ++ z) (map f xs)) (t ∷ g x) (flat_map (λ y. t ∷ g y) xs)
    (append_reads depth s (f x) (t ∷ []) (g x) between (each x)) (separated_reads depth f g s t between each xs) r

joined_reads : {X : Type 0} (depth : ℕ) (f : X → Text) (g : X → List Token) (s : Text) (t : Token) → Reads depth s (t ∷ []) → ((x : X) → Reads depth (f x) (g x)) → (xs : List X)
    → Reads depth (joined_text s (map f xs)) (join_by g (t ∷ []) xs)
joined_reads depth f g s t between each [] r = refl
joined_reads depth f g s t between each (x ∷ xs) r =
    append_reads depth (f x) (flat_map (λ z. s ++ z) (map f xs)) (g x) (flat_map (λ y. t ∷ g y) xs) (each x) (separated_reads depth f g s t between each xs) r

-- a name before a byte that is no space is no `or`
bare_reads : (depth : ℕ) (w r : Text) → is_label w ≡ true → is_in class.Name (slice_index r 0) ≡ false → (slice_index r 0 == 32) ≡ false → pieces (inside depth) (w ++ r) ≡ Ok (T_IDENTIFIER, w) ∷ pieces (inside depth) r
bare_reads depth w r label stop apart =
    joins_name depth w r label stop ∙ ap (λ id. Ok (id, w) ∷ pieces (inside depth) r) (no_or (str_eq_ignore_ascii_case w (codes "or")) (slice_index r 0 == 32) apart)
  where
    no_or : (a b : Bool) → b ≡ false → cond (a && b) T_LOR T_IDENTIFIER ≡ T_IDENTIFIER
    no_or true true e = cc
    no_or true false e = refl
    no_or false b e = refl

string_reads : (depth : ℕ) (s : Text) → Reads depth (quoted_text s) ((T_STRING, quoted_text s) ∷ [])
unfolding after
string_reads depth s r = joins_quoted (inside depth) s r refl

name_reads : (depth : ℕ) (name r : Text) → is_in class.Name (slice_index r 0) ≡ false → (slice_index r 0 == 32) ≡ false → pieces (inside depth) (name_text name ++ r) ≡ Ok (name_token name) ∷ pieces (inside depth) r
name_reads depth name r stop apart = go (is_label name) refl
  where
    go : (b : Bool) → is_label name ≡ b → pieces (inside depth) (cond b name (quoted_text name) ++ r) ≡ Ok (cond b T_IDENTIFIER T_STRING, cond b name (quoted_text name)) ∷ pieces (inside depth) r
    go true label = bare_reads depth name r label stop apart
    go false label = string_reads depth name r

-- an operator ends the name before it
name_before : (depth : ℕ) (name : Text) (op : Operator) (r : Text) → pieces (inside depth) (name_text name ++ (operator_text op ++ r)) ≡ Ok (name_token name) ∷ pieces (inside depth) (operator_text op ++ r)
name_before depth name equal r = name_reads depth name _ refl refl
name_before depth name not_equal r = name_reads depth name _ refl refl
name_before depth name (matches w) r = name_reads depth name _ refl refl
name_before depth name (matches_not w) r = name_reads depth name _ refl refl

-- an operator before a quote
operator_reads : (depth : ℕ) (op : Operator) (r : Text) → pieces (inside depth) (operator_text op ++ (34 ∷ r)) ≡ Ok (operator_id op, operator_text op) ∷ pieces (inside depth) (34 ∷ r)
unfolding scan.scan_token in_braces after
operator_reads depth equal r = joins (inside depth) (codes "=") (34 ∷ r) T_EQL (omega arith) refl refl
operator_reads depth not_equal r = joins (inside depth) (codes "!=") (34 ∷ r) T_NEQ (omega arith) refl refl
operator_reads depth (matches w) r = joins (inside depth) (codes "=~") (34 ∷ r) T_EQL_REGEX (omega arith) refl refl
operator_reads depth (matches_not w) r = joins (inside depth) (codes "!~") (34 ∷ r) T_NEQ_REGEX (omega arith) refl refl

matcher_reads : (depth : ℕ) (c : PlainMatcher) → Reads depth (matcher_text c) (matcher_tokens c)
matcher_reads depth (plain_matcher op name value) r =
    let v = quoted_text value in
    ap (pieces (inside depth)) (append_assoc (name_text name) (operator_text op ++ v) r ∙ ap (λ z. name_text name ++ z) (append_assoc (operator_text op) v r))
    ∙ name_before depth name op (v ++ r)
    ∙ ap (λ ws. Ok (name_token name) ∷ ws) (operator_reads depth op _ ∙ ap (λ ws. Ok (operator_id op, operator_text op) ∷ ws) (string_reads depth value r))

comma_reads : (depth : ℕ) → Reads depth (codes ",") ((T_COMMA, codes ",") ∷ [])
unfolding scan.scan_token in_braces after
comma_reads depth r = joins (inside depth) (codes ",") r T_COMMA (omega arith) refl refl

blank_reads : (depth : ℕ) → Reads depth (codes " ") []
blank_reads depth r = pieces_run (inside depth) (codes " ") r refl refl

spaced_comma_reads : (depth : ℕ) → Reads depth (codes ", ") ((T_COMMA, codes ",") ∷ [])
spaced_comma_reads depth = append_reads depth (codes ",") (codes " ") ((T_COMMA, codes ",") ∷ []) [] (comma_reads depth) (blank_reads depth)

or_reads : (depth : ℕ) → Reads depth (codes " or ") ((T_LOR, codes "or") ∷ [])
or_reads depth r =
    blank_reads depth (codes "or " ++ r) ∙ joins_name depth (codes "or") (32 ∷ r) refl refl ∙ ap (λ ws. Ok (T_LOR, codes "or") ∷ ws) (blank_reads depth r)

group_reads : (depth : ℕ) (cs : List PlainMatcher) → Reads depth (group_text cs) (group_tokens cs)
group_reads depth = joined_reads depth matcher_text matcher_tokens (codes ", ") (T_COMMA, codes ",") (spaced_comma_reads depth) (matcher_reads depth)

inserted_texts : (c : PlainMatcher) (ds : List PlainMatcher) → map matcher_text (insert_matcher c ds) ≡ insert_text (matcher_text c) (map matcher_text ds)
inserted_texts c [] = refl
inserted_texts c (d ∷ ds) = go (is_gt (text_order (matcher_text c) (matcher_text d))) (inserted_texts c ds)
  where
    go : (b : Bool) → map matcher_text (insert_matcher c ds) ≡ insert_text (matcher_text c) (map matcher_text ds)
        → map matcher_text (cond b (d ∷ insert_matcher c ds) (c ∷ d ∷ ds)) ≡ cond b (matcher_text d ∷ insert_text (matcher_text c) (map matcher_text ds)) (map matcher_text (c ∷ d ∷ ds))
    go true rest = ap (λ ts. matcher_text d ∷ ts) rest
    go false rest = refl

pub texts_sorted : (cs : List PlainMatcher) → map matcher_text (sorted_matchers cs) ≡ sorted_texts (map matcher_text cs)
texts_sorted [] = refl
texts_sorted (c ∷ cs) = inserted_texts c (sorted_matchers cs) ∙ ap (insert_text (matcher_text c)) (texts_sorted cs)

pub matchers_read : (depth : ℕ) (cs : PlainMatchers) → Reads depth (matchers_text cs) (matchers_tokens cs)
matchers_read depth (plain_matchers plain []) r =
    let cs = sorted_matchers plain in
    ap (λ ts. pieces (inside depth) (joined_text (codes ",") ts ++ r)) (sym (texts_sorted plain))
    ∙ joined_reads depth matcher_text matcher_tokens (codes ",") (T_COMMA, codes ",") (comma_reads depth) (matcher_reads depth) cs r
    ∙ ap (λ ts. scanned_tokens ts ++ pieces (inside depth) r) (sym (append-nil (group_tokens cs)))
matchers_read depth (plain_matchers plain (g ∷ groups)) r =
    joined_reads depth group_text group_tokens (codes " or ") (T_LOR, codes "or") (or_reads depth) (group_reads depth) (g ∷ groups) r
