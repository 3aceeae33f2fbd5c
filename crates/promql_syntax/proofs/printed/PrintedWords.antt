-- Printed labels and names of functions are words of their kinds, and labels and groupings read back.
use Rattle.std.proofs.Common.{◌≡◌, ⊎_elim, ℕ, suc, ◌+◌, refl, sym, ◌∙◌, ap, subst, arith, Bool, true, false, cond, not, ◌&&◌, ◌||◌, Option, Some, None, List, [], ◌∷◌, length, codes}
use Rattle.std.specs.Prelude.{Ok, ◌==◌, slice_index}
use Rattle.std.specs.List.{list_all, list_any, prefix_len}
use Rattle.std.specs.Option.{unwrap_or}
use Rattle.std.specs.Str.{bytes_eq, str_eq_ignore_ascii_case, str_to_ascii_lowercase}
use Rattle.std.proofs.lemmas.Bool.{cond_both}
use Rattle.std.proofs.lemmas.Bool.Decides.{nat_tests}
use Rattle.std.proofs.lemmas.Slice.Eq.{bytes_eq-Decides}
use Rattle.promql_text.specs.Quoting.{quoted_text}
use Rattle.promql_text.specs.Texts.{Text}
use Rattle.promql_token.specs.Classes.{is_in, is_label, is_letter, end_of_run}
use Rattle.promql_token.specs.WordRanks.{is_name_byte}
use Rattle.promql_token.specs.Ids.{keyword_in_any_case, keywords, lookup}
use Rattle.promql_token.specs.TokenScanning.{is_fill, name_id}
use Rattle.promql_token.specs.declared.class.Class.TheVariants as class
use Rattle.promql_token.specs.declared.ids.TheConstants.{T_IDENTIFIER, T_METRIC_IDENTIFIER}
use Rattle.promql_grammar.specs.declared.token_kinds.TokenKind.{TokenKind}
use Rattle.promql_grammar.specs.declared.token_kinds.TokenKind.TheVariants as kind
use Rattle.promql_grammar.specs.GrammarParts as part
use Rattle.promql_grammar.specs.Symbols.{token_kind, may_be_label}
use Rattle.promql_label.specs.Labels.{is_number_word, label_text}
use Rattle.promql_kind.specs.Modifiers.{Clause, including, excluding}
use Rattle.promql_ast.specs.Normal.{normal_clause}
use Rattle.promql_syntax.specs.PartBuilding.{label_value, label_values, grouping_value}
use Rattle.promql_syntax.proofs.parsing.Booleans.{and_cases, or_cases}
use Rattle.promql_syntax.proofs.printed.PrintedParts.{word_kind, label_kind, names, labels, clause}
use Rattle.promql_syntax.proofs.printed.PrintedTimesAndLabels.{string_again}
use Rattle.promql_syntax.proofs.building.SingleAnswers.{then_leads}
use Rattle.promql_syntax.specs.PartWords.{clause_value}
use Rattle.promql_grammar.specs.PartTokens.{IsClause}

-- ---- words that may be labels

-- a label that is a word and no string
abbrev is_bare : TokenKind → Bool
is_bare kind.String = false
is_bare k = may_be_label k

abbrev is_number : Text → Bool
is_number l = bytes_eq l (codes "inf") || bytes_eq l (codes "nan")

abbrev fits : Text × ℕ → Bool
fits k = (is_bare (token_kind k.1) || is_fill k.1) || is_number k.0

abbrev Fits : Option ℕ → Type 0
Fits None = Unit {0}
Fits (Some id) = (is_bare (token_kind id) || is_fill id) ≡ true

same_case_swap : (z w : Text) → str_eq_ignore_ascii_case z w ≡ true → str_eq_ignore_ascii_case w z ≡ true
same_case_swap z w h = (bytes_eq-Decides (str_to_ascii_lowercase w) (str_to_ascii_lowercase z)).1 (sym ((bytes_eq-Decides (str_to_ascii_lowercase z) (str_to_ascii_lowercase w)).0 h))

or_true : (b : Bool) → (b || true) ≡ true
or_true true = refl
or_true false = refl

same_number : (k w : Text) → is_number k ≡ true → str_eq_ignore_ascii_case k w ≡ true → is_number_word w ≡ true
same_number k w e same = ⊎_elim (λ h. inf ((bytes_eq-Decides k (codes "inf")).0 h)) (λ h. nan ((bytes_eq-Decides k (codes "nan")).0 h)) (or_cases _ _ e)
  where
    inf : k ≡ codes "inf" → is_number_word w ≡ true
    inf is = let h : str_eq_ignore_ascii_case w (codes "inf") ≡ true = same_case_swap (codes "inf") w (subst (λ z. str_eq_ignore_ascii_case z w ≡ true) is same) in ap (λ b. b || str_eq_ignore_ascii_case w (codes "nan")) h

    nan : k ≡ codes "nan" → is_number_word w ≡ true
    nan is = let h : str_eq_ignore_ascii_case w (codes "nan") ≡ true = same_case_swap (codes "nan") w (subst (λ z. str_eq_ignore_ascii_case z w ≡ true) is same) in ap (λ b. str_eq_ignore_ascii_case w (codes "inf") || b) h ∙ or_true (str_eq_ignore_ascii_case w (codes "inf"))

found_fits : (ks : List (Text × ℕ)) (w : Text) → is_number_word w ≡ false → list_all fits ks ≡ true → Fits (lookup str_eq_ignore_ascii_case ks w)
found_fits [] w other all = tt
found_fits (k ∷ ks) w other all =
    let both = and_cases (fits k) (list_all fits ks) all in
    cond_both (str_eq_ignore_ascii_case k.0 w) (Some k.1) (lookup str_eq_ignore_ascii_case ks w) Fits
    (λ same. ⊎_elim (λ h. h) (λ (h : is_number k.0 ≡ true). let yes = same_number k.0 w h same in cc) (or_cases _ _ both.0))
    (λ _. found_fits ks w other both.1)

keyword_fits : (w : Text) → is_number_word w ≡ false → Fits (keyword_in_any_case w)
unfolding keyword_in_any_case
keyword_fits w other = found_fits keywords w other refl

no_colon_in : (z : Text) → prefix_len (is_in class.Name) z ≡ length z → list_any (λ b. b == 58) z ≡ false
no_colon_in [] e = refl
no_colon_in (b ∷ z) e = go (is_name_byte b) (b == 58) refl refl e (no_colon_in z)
  where
    go : (n c : Bool) → is_name_byte b ≡ n → (b == 58) ≡ c → cond n (1 + prefix_len (is_in class.Name) z) 0 ≡ suc (length z) → (prefix_len (is_in class.Name) z ≡ length z → list_any (λ b. b == 58) z ≡ false) → (c || list_any (λ b. b == 58) z) ≡ false
    go false c is eq e later = absurd (omega arith)
    go true true is eq e later = let same : b ≡ 58 = grind (arith, nat_tests) in let no : is_name_byte 58 ≡ true = subst (λ x. is_name_byte x ≡ true) same is in cc
    go true false is eq e later = later (omega arith)

label_id : (w : Text) → is_label w ≡ true → name_id w ≡ T_IDENTIFIER
label_id w is =
    let all : prefix_len (is_in class.Name) w ≡ length w = (let h = (and_cases (is_letter (slice_index w 0)) (end_of_run class.Name w 0 == length w) is).1 in grind (arith, nat_tests)) in
    ap (λ b. cond b T_METRIC_IDENTIFIER T_IDENTIFIER) (no_colon_in w all)

word_bare : (w : Text) → is_label w ≡ true → is_number_word w ≡ false → is_bare (word_kind w) ≡ true
unfolding word_kind
word_bare w is other = go (keyword_in_any_case w) (keyword_fits w other)
  where
    named : (b : Bool) (id : ℕ) → (is_bare (token_kind id) || b) ≡ true → is_bare (token_kind (cond b T_IDENTIFIER id)) ≡ true
    named true id h = refl
    named false id h = ⊎_elim (λ k. k) (λ k. cc) (or_cases _ _ h)

    shut : (b : Bool) → (b && true) ≡ b
    shut true = refl
    shut false = refl

    go : (o : Option ℕ) → Fits o → is_bare (token_kind (let id = unwrap_or o (name_id w) in cond (is_fill id && true) T_IDENTIFIER id)) ≡ true
    go None h = ap (λ id. is_bare (token_kind (cond (is_fill id && true) T_IDENTIFIER id))) (label_id w is)
    go (Some id) h = ap (λ b. is_bare (token_kind (cond b T_IDENTIFIER id))) (shut (is_fill id)) ∙ named (is_fill id) id h

-- ---- labels

bare_label : (k : TokenKind) → is_bare k ≡ true → may_be_label k ≡ true
bare_label kind.String e = cc
bare_label (kind.Operator op) e = e
bare_label (kind.Aggregator op) e = e
bare_label k e = e

bare_value : (k : TokenKind) (l : Text) → is_bare k ≡ true → label_value k l ≡ Ok l
bare_value kind.String l e = cc
bare_value k l e = refl

pub label_may : (l : Text) → may_be_label (label_kind l) ≡ true
label_may l = go (is_label l) (is_number_word l) refl refl
  where
    go : (a b : Bool) → is_label l ≡ a → is_number_word l ≡ b → may_be_label (cond (a && not b) (word_kind l) kind.String) ≡ true
    go true false is other = bare_label (word_kind l) (word_bare l is other)
    go true true is other = refl
    go false b is other = refl

pub label_again : (l : Text) → label_value (label_kind l) (label_text l) ≡ Ok l
label_again l = go (is_label l) (is_number_word l) refl refl
  where
    go : (a b : Bool) → is_label l ≡ a → is_number_word l ≡ b → label_value (cond (a && not b) (word_kind l) kind.String) (cond (a && not b) l (quoted_text l)) ≡ Ok l
    go true false is other = bare_value (word_kind l) l (word_bare l is other)
    go true true is other = string_again l
    go false b is other = string_again l

names_again : (l : Text) (ls : List Text) → label_values (names l ls) ≡ Ok (l ∷ ls)
names_again l [] = then_leads (label_value (label_kind l) (label_text l)) _ l _ (label_again l) refl
names_again l (k ∷ ls) =
    then_leads (label_value (label_kind l) (label_text l)) _ l _ (label_again l)
    (then_leads (label_values (names k ls)) _ (k ∷ ls) _ (names_again k ls) refl)

pub labels_again : (ls : List Text) → label_values (labels ls) ≡ Ok ls
labels_again [] = refl
labels_again (l ∷ ls) = names_again l ls

names_formed : (l : Text) (ls : List Text) → part.IsLabels (names l ls)
names_formed l [] = label_may l
names_formed l (k ∷ ls) = (label_may l, names_formed k ls)

pub labels_formed : (ls : List Text) → part.IsLabels (labels ls)
labels_formed [] = tt
labels_formed (l ∷ ls) = names_formed l ls

-- ---- groupings

pub clause_again : (c : Option Clause) → clause_value (clause c) ≡ Ok (normal_clause c)
clause_again None = refl
clause_again (Some (including [])) = refl
clause_again (Some (including (l ∷ ls))) =
    then_leads (grouping_value (true, (codes "by"), (labels (l ∷ ls)))) _ (including (l ∷ ls)) _
    (then_leads (label_values (labels (l ∷ ls))) _ (l ∷ ls) _ (labels_again (l ∷ ls)) refl) refl
clause_again (Some (excluding ls)) =
    then_leads (grouping_value (false, (codes "without"), (labels ls))) _ (excluding ls) _
    (then_leads (label_values (labels ls)) _ ls _ (labels_again ls) refl) refl

pub clause_formed : (c : Option Clause) → IsClause (clause c)
clause_formed None = tt
clause_formed (Some (including [])) = tt
clause_formed (Some (including (l ∷ ls))) = labels_formed (l ∷ ls)
clause_formed (Some (excluding ls)) = labels_formed ls
