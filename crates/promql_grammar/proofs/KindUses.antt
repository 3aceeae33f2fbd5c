-- Which kinds may be what, by lists; the kind of an id, by the page's list.
use Rattle.std.proofs.Common.{◌≡◌, ℕ, zero, suc, ◌⊎◌, inl, inr, refl, sym, ap, subst, arith, eqb-true, rules, Bool, true, false, List, [], ◌∷◌, ◌++◌, map}
use Rattle.std.specs.Prelude.{◌↔◌, ◌==◌, ◌||◌, slice_get, Contains}
use Rattle.std.specs.List.{list_any, AllByRecursion}
use Rattle.std.specs.Option.{unwrap_or}
use Rattle.std.proofs.lemmas.List.Elements.{Contains-append_right}
use Rattle.promql_token.specs.declared.ids.TheConstants.{T_ADD, T_SUB, T_LAND, T_LOR, T_LUNLESS, T_ATAN2}
use Rattle.promql_grammar.specs.declared.token_kinds.TokenKind.{TokenKind}
use Rattle.promql_grammar.specs.declared.token_kinds.TokenKind.TheVariants as kind
use Rattle.promql_grammar.specs.declared.token_kinds.TheConstants.{TOKEN_KINDS}
use Rattle.promql_grammar.specs.KindLists.{label_kinds, name_words, punctuation}
use Rattle.promql_grammar.specs.KindTable.{kinds}
use Rattle.promql_grammar.specs.Symbols.{is_plus_or_minus, is_punct, is_word_operator, kind_in, may_be_called, may_be_label, may_be_name, may_begin, token_kind}

-- what holds of each of a list, holds of what the list contains
passes : (test : TokenKind → Bool) (ks : List TokenKind) (k : TokenKind) → AllByRecursion (λ j. test j ≡ true) ks → Contains ks k → test k ≡ true
passes test [] k all (i, less, is) = absurd (omega arith)
passes test (j ∷ ks) k all (zero, less, is) = subst (λ x. test x ≡ true) is all.0
passes test (j ∷ ks) k all (suc i, less, is) = passes test ks k all.1 (i, omega arith, is)

later : (j : TokenKind) (ks : List TokenKind) (k : TokenKind) → Contains ks k → Contains (j ∷ ks) k
later j ks k h = Contains-append_right (j ∷ []) ks k h

-- an operator of a list is among these kinds
operator_here : (b : Bool) (first op : ℕ) (any : Bool) (ks : List TokenKind) → (op == first) ≡ b → (any ≡ true → Contains ks (kind.Operator op)) → (b || any) ≡ true → Contains (kind.Operator first ∷ ks) (kind.Operator op)
operator_here true first op any ks same rest h = (0, omega arith, ap kind.Operator (sym (eqb-true op first same)))
operator_here false first op any ks same rest h = later (kind.Operator first) ks (kind.Operator op) (rest h)

operator_listed : (ops : List ℕ) (more : List TokenKind) (op : ℕ) → list_any (λ k. op == k) ops ≡ true → Contains (map kind.Operator ops ++ more) (kind.Operator op)
operator_listed [] more op any = cc
operator_listed (k ∷ ops) more op any =
    operator_here (op == k) k op (list_any (λ k. op == k) ops) (map kind.Operator ops ++ more) refl (operator_listed ops more op) any

word_listed : (op : ℕ) → is_word_operator op ≡ true → Contains name_words (kind.Operator op)
word_listed op h = operator_listed (T_LAND ∷ T_LOR ∷ T_LUNLESS ∷ T_ATAN2 ∷ []) (kind.By ∷ kind.Without ∷ kind.Offset ∷ kind.Start ∷ kind.End ∷ kind.Smoothed ∷ kind.Anchored ∷ []) op h

abbrev names : List TokenKind
names = kind.Identifier ∷ kind.MetricIdentifier ∷ name_words

abbrev IsListed : List TokenKind → TokenKind → Type 0
IsListed ks k = Contains ks k ⊎ ((op : ℕ) × (k ≡ kind.Aggregator op))

name_listed : (k : TokenKind) → may_be_name k ≡ true → IsListed names k
name_listed kind.Identifier h = inl (0, omega arith, refl)
name_listed kind.MetricIdentifier h = inl (1, omega arith, refl)
name_listed (kind.Operator op) h = inl (Contains-append_right (kind.Identifier ∷ kind.MetricIdentifier ∷ []) name_words (kind.Operator op) (word_listed op h))
name_listed (kind.Aggregator op) h = inr (op, refl)
name_listed kind.By h = inl (6, omega arith, refl)
name_listed kind.Without h = inl (7, omega arith, refl)
name_listed kind.Offset h = inl (8, omega arith, refl)
name_listed kind.Start h = inl (9, omega arith, refl)
name_listed kind.End h = inl (10, omega arith, refl)
name_listed kind.Smoothed h = inl (11, omega arith, refl)
name_listed kind.Anchored h = inl (12, omega arith, refl)
name_listed _ h = cc

label_listed : (k : TokenKind) → may_be_label k ≡ true → IsListed label_kinds k
label_listed kind.String h = inl (0, omega arith, refl)
label_listed kind.Identifier h = inl (1, omega arith, refl)
label_listed kind.Bool h = inl (2, omega arith, refl)
label_listed kind.On h = inl (3, omega arith, refl)
label_listed kind.Ignoring h = inl (4, omega arith, refl)
label_listed kind.GroupLeft h = inl (5, omega arith, refl)
label_listed kind.GroupRight h = inl (6, omega arith, refl)
label_listed (kind.Operator op) h =
    inl (Contains-append_right (kind.String ∷ kind.Identifier ∷ kind.Bool ∷ kind.On ∷ kind.Ignoring ∷ kind.GroupLeft ∷ kind.GroupRight ∷ []) name_words (kind.Operator op) (word_listed op h))
label_listed (kind.Aggregator op) h = inr (op, refl)
label_listed kind.By h = inl (11, omega arith, refl)
label_listed kind.Without h = inl (12, omega arith, refl)
label_listed kind.Offset h = inl (13, omega arith, refl)
label_listed kind.Start h = inl (14, omega arith, refl)
label_listed kind.End h = inl (15, omega arith, refl)
label_listed kind.Smoothed h = inl (16, omega arith, refl)
label_listed kind.Anchored h = inl (17, omega arith, refl)
label_listed _ h = cc

punctuation_listed : (k : TokenKind) → is_punct k ≡ true → Contains punctuation k
punctuation_listed kind.LeftParen h = (0, omega arith, refl)
punctuation_listed kind.RightParen h = (1, omega arith, refl)
punctuation_listed kind.LeftBrace h = (2, omega arith, refl)
punctuation_listed kind.RightBrace h = (3, omega arith, refl)
punctuation_listed kind.LeftBracket h = (4, omega arith, refl)
punctuation_listed kind.RightBracket h = (5, omega arith, refl)
punctuation_listed kind.Comma h = (6, omega arith, refl)
punctuation_listed kind.Colon h = (7, omega arith, refl)
punctuation_listed kind.Equal h = (8, omega arith, refl)
punctuation_listed kind.EqualRegex h = (9, omega arith, refl)
punctuation_listed kind.NotEqualRegex h = (10, omega arith, refl)
punctuation_listed kind.At h = (11, omega arith, refl)
punctuation_listed _ h = cc

called_listed : (k : TokenKind) → may_be_called k ≡ true → Contains (kind.Identifier ∷ kind.Start ∷ kind.End ∷ []) k
called_listed kind.Identifier h = (0, omega arith, refl)
called_listed kind.Start h = (1, omega arith, refl)
called_listed kind.End h = (2, omega arith, refl)
called_listed _ h = cc

-- what an expression may begin with that is no name
abbrev starts : List TokenKind
starts = kind.Number ∷ kind.Duration ∷ kind.String ∷ kind.LeftParen ∷ kind.LeftBrace ∷ kind.Operator T_ADD ∷ kind.Operator T_SUB ∷ []

operator_begins : (op : ℕ) (plus minus : Bool) → (op == T_ADD) ≡ plus → (op == T_SUB) ≡ minus → ((plus || minus) || is_word_operator op) ≡ true → Contains starts (kind.Operator op) ⊎ (is_word_operator op ≡ true)
operator_begins op true minus same other h = inl (5, omega arith, ap kind.Operator (sym (eqb-true op T_ADD same)))
operator_begins op false true other same h = inl (6, omega arith, ap kind.Operator (sym (eqb-true op T_SUB same)))
operator_begins op false false other another h = inr h

begins_listed : (k : TokenKind) → may_begin k ≡ true → Contains starts k ⊎ (may_be_name k ≡ true)
begins_listed kind.Number h = inl (0, omega arith, refl)
begins_listed kind.Duration h = inl (1, omega arith, refl)
begins_listed kind.String h = inl (2, omega arith, refl)
begins_listed kind.LeftParen h = inl (3, omega arith, refl)
begins_listed kind.LeftBrace h = inl (4, omega arith, refl)
begins_listed (kind.Operator op) h = operator_begins op (op == T_ADD) (op == T_SUB) refl refl h
begins_listed _ h = inr h

or_true : (a b : Bool) → b ≡ true → (a || b) ≡ true
or_true true b h = refl
or_true false b h = h

names_begin : (k : TokenKind) → may_be_name k ≡ true → may_begin k ≡ true
names_begin (kind.Operator op) h = or_true (is_plus_or_minus op) (is_word_operator op) h
names_begin _ h = cc

listed_begin : (k : TokenKind) → Contains starts k ⊎ (may_be_name k ≡ true) → may_begin k ≡ true
listed_begin k (inl h) = passes may_begin starts k (search rules) h
listed_begin k (inr h) = names_begin k h

pub beginnings_are_listed : (k : TokenKind) → (may_begin k ≡ true) ↔ (Contains starts k ⊎ (may_be_name k ≡ true))
beginnings_are_listed k = (begins_listed k, listed_begin k)

-- a test that holds of each of a list, and of aggregators
listed_passes : (test : TokenKind → Bool) (ks : List TokenKind) (k : TokenKind) → AllByRecursion (λ j. test j ≡ true) ks → ((op : ℕ) → test (kind.Aggregator op) ≡ true) → IsListed ks k → test k ≡ true
listed_passes test ks k all aggregator (inl h) = passes test ks k all h
listed_passes test ks k all aggregator (inr (op, is)) = subst (λ x. test x ≡ true) (sym is) (aggregator op)

pub names_are_listed : (k : TokenKind) → (may_be_name k ≡ true) ↔ IsListed names k
names_are_listed k = (name_listed k, listed_passes may_be_name names k (search rules) (λ op. refl))

pub labels_are_listed : (k : TokenKind) → (may_be_label k ≡ true) ↔ IsListed label_kinds k
labels_are_listed k = (label_listed k, listed_passes may_be_label label_kinds k (search rules) (λ op. refl))

pub punctuation_is_listed : (k : TokenKind) → (is_punct k ≡ true) ↔ Contains punctuation k
punctuation_is_listed k = (punctuation_listed k, passes is_punct punctuation k (search rules))

pub called_are_listed : (k : TokenKind) → (may_be_called k ≡ true) ↔ Contains (kind.Identifier ∷ kind.Start ∷ kind.End ∷ []) k
called_are_listed k = (called_listed k, passes may_be_called (kind.Identifier ∷ kind.Start ∷ kind.End ∷ []) k (search rules))

-- the kinds of a table's rows are those of its ids
by_rows : (table : List (ℕ × TokenKind)) (ks : List TokenKind) → map (λ row. row.1) table ≡ ks → (id : ℕ) → kind_in table id ≡ unwrap_or (slice_get ks id) kind.Other
by_rows [] ks same id = subst (λ l. kind.Other ≡ unwrap_or (slice_get l id) kind.Other) same refl
by_rows (row ∷ table) ks same zero = subst (λ l. row.1 ≡ unwrap_or (slice_get l zero) kind.Other) same refl
by_rows (row ∷ table) ks same (suc id) =
    subst (λ l. kind_in table id ≡ unwrap_or (slice_get l (suc id)) kind.Other) same (by_rows table (map (λ row. row.1) table) refl id)

pub kind_by_list : (id : ℕ) → token_kind id ≡ unwrap_or (slice_get kinds id) kind.Other
kind_by_list id = by_rows TOKEN_KINDS kinds refl id
