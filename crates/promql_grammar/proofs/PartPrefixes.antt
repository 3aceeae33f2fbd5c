-- Parts of lists that begin alike are parsed alike.
use Rattle.std.proofs.Common.{◌≡◌, ℕ, suc, refl, ◌∙◌, arith, List, [], ◌∷◌, length, Bool, true, false, Option, Some, None}
use Rattle.std.specs.Prelude.{◌==◌, if◌then◌else◌, Ok, Err}
use Rattle.std.proofs.lemmas.Bool.{cond-true, cond-false}
use Rattle.promql_text.specs.Texts.{Text}
use Rattle.promql_token.specs.declared.ids.TheConstants.{T_NEQ, T_LOR, T_ADD, T_SUB}
use Rattle.promql_grammar.specs.declared.token_kinds.TokenKind.{TokenKind}
use Rattle.promql_grammar.specs.declared.token_kinds.TokenKind.TheVariants as kind
use Rattle.promql_grammar.specs.Results.{◌then◌}
use Rattle.promql_grammar.specs.Symbols.{Symbol, punct, word, may_be_label}
use Rattle.promql_grammar.specs.GrammarParts.{Time, seconds, duration, Signed, Labels, no_label, last, next, FillValue, no_fill, both, one, two, MatchOperator, equal, not_equal, equal_regex, not_equal_regex, Item, matcher, lone, Items, last_item, next_item, Braces, Postfix, range, subquery, at_number, at_bound, offset}
use Rattle.promql_grammar.specs.Parsing.{Read, misfit, parse_time, eat_sign, parse_number, parse_string, parse_label_list, parse_labels, parse_grouping, parse_group_labels, parse_group, parse_matching_after, parse_matching, parse_fill_value_end, parse_fill_value, parse_fill_right, parse_fill_left, parse_fills, parse_flag, with_fills, with_matching, parse_modifier, parse_match_operator, parse_matcher_value, parse_after_name, parse_after_string, parse_item, parse_after_item, parse_items, parse_braces, parse_optional_braces, parse_step_end, parse_step, parse_range_end, parse_at_bound, parse_at_modifier, parse_offset_postfix}
use Rattle.promql_grammar.proofs.Prefixes.{Ends, whole_end, Local, local_ok, local_misfit, local_then, Step, takes, stays, local_by_first, local_bounded, local_by_length}

-- a label list after a label
after_label : TokenKind → Text → List Symbol → Read Labels
after_label k t (punct kind.RightParen ∷ ts) = Ok (last k t, ts)
after_label k t (punct kind.Comma ∷ ts) = parse_label_list ts then λ y. Ok (next k t y.0, y.1)
after_label k t ts = Err (misfit ts)

label_on : (k : TokenKind) (t : Text) (ts : List Symbol) → may_be_label k ≡ true → parse_label_list (word k t ∷ ts) ≡ after_label k t ts
unfolding after_label
label_on k t (punct kind.RightParen ∷ ts) may = cond-true (may_be_label k) _ _ may
label_on k t (punct kind.Comma ∷ ts) may = cond-true (may_be_label k) _ _ may
label_on k t ts may = cond-true (may_be_label k) _ _ may

label_bad : (k : TokenKind) (t : Text) (ts : List Symbol) → may_be_label k ≡ false → parse_label_list (word k t ∷ ts) ≡ Err (misfit (word k t ∷ ts))
label_bad k t (punct kind.RightParen ∷ ts) none = cond-false (may_be_label k) _ _ none
label_bad k t (punct kind.Comma ∷ ts) none = cond-false (may_be_label k) _ _ none
label_bad k t ts none = cond-false (may_be_label k) _ _ none

-- matchers after a comma
after_item_comma : (List Symbol → Read Items) → Item → List Symbol → Read Items
after_item_comma r i (punct kind.RightBrace ∷ ts) = Ok (last_item i true, ts)
after_item_comma r i ts = r ts then λ y. Ok (next_item i None y.0, y.1)

item_comma : (r : List Symbol → Read Items) (i : Item) (ts : List Symbol) → parse_after_item r i (punct kind.Comma ∷ ts) ≡ after_item_comma r i ts
unfolding after_item_comma
item_comma r i (punct kind.RightBrace ∷ ts) = refl
item_comma r i ts = refl

-- `start` or `end` after its parenthesis
bound_end : Bool → Text → List Symbol → Read (Option Postfix)
bound_end start t (punct kind.RightParen ∷ ts) = Ok (Some (at_bound start t), ts)
bound_end start t ts = Err (misfit ts)

bound_open : (start : Bool) (t : Text) (ts : List Symbol) → parse_at_bound start t (punct kind.LeftParen ∷ ts) ≡ bound_end start t ts
unfolding bound_end
bound_open start t (punct kind.RightParen ∷ ts) = refl
bound_open start t ts = refl

module _ (x : Symbol) (rest other : List Symbol) where
  -- a reader that goes by the first token
  abbrev pub First : {A : Type 0} → (List Symbol → Read A) → ℕ → ℕ → Symbol → Type 0
  First f m n t = Step x rest other m n m n f f t

  pub first : {A : Type 0} (m n : ℕ) (f : List Symbol → Read A) → Ends [] (f []) → ((t : Symbol) → First f m n t) → Local x rest other m n f f
  first m n f e step = local_by_first x rest other m n m n f f (omega arith) (omega arith) e step

  -- it takes the token, and that is all; or it goes on
  done : {A : Type 0} (m n : ℕ) (f : List Symbol → Read A) (t : Symbol) (a : A) → ((ts : List Symbol) → f (t ∷ ts) ≡ Ok (a, ts)) → First f m n t
  done m n f t a e = takes (λ ts. Ok (a, ts)) (λ ts. Ok (a, ts)) (local_ok x rest other a m n) e e

  pub on : {A : Type 0} (m n : ℕ) (f : List Symbol → Read A) (t : Symbol) (h : List Symbol → Read A) → Local x rest other m n h h → ((ts : List Symbol) → f (t ∷ ts) ≡ h ts) → First f m n t
  on m n f t h l e = takes h h l e e

  -- it takes no token; or it goes on at it; or the token does not fit
  pub none : {A : Type 0} (m n : ℕ) (f : List Symbol → Read A) (t : Symbol) (a : A) → ((ts : List Symbol) → f (t ∷ ts) ≡ Ok (a, t ∷ ts)) → First f m n t
  none m n f t a e = stays (λ ts. Ok (a, ts)) (λ ts. Ok (a, ts)) (local_ok x rest other a m n) e e

  pub at : {A : Type 0} (m n : ℕ) (f : List Symbol → Read A) (t : Symbol) (h : List Symbol → Read A) → Local x rest other m n h h → ((ts : List Symbol) → f (t ∷ ts) ≡ h (t ∷ ts)) → First f m n t
  at m n f t h l e = stays h h l e e

  pub bad : {A : Type 0} (m n : ℕ) (f : List Symbol → Read A) (t : Symbol) → ((ts : List Symbol) → f (t ∷ ts) ≡ Err (misfit (t ∷ ts))) → First f m n t
  bad m n f t e = stays (λ ts. Err (misfit ts)) (λ ts. Err (misfit ts)) (local_misfit x rest other m n) e e

  -- what is read, made into something else
  made : {A B : Type 0} (m n : ℕ) (p : List Symbol → Read A) (f : A → B) → Local x rest other m n p p → Local x rest other m n (λ ts. p ts then λ y. Ok (f y.0, y.1)) (λ ts. p ts then λ y. Ok (f y.0, y.1))
  made m n p f l = local_then x rest other m n p p (λ a us. Ok (f a, us)) (λ a us. Ok (f a, us)) l (λ a. local_ok x rest other (f a) m n)

  -- one after another
  seq : {A B : Type 0} (m n : ℕ) (p : List Symbol → Read A) (f : A → List Symbol → Read B) → Local x rest other m n p p → ((a : A) → Local x rest other m n (f a) (f a)) → Local x rest other m n (λ ts. p ts then λ y. f y.0 y.1) (λ ts. p ts then λ y. f y.0 y.1)
  seq m n p f l h = local_then x rest other m n p p f f l h

  -- ---- times, numbers, strings

  time_local : (m n : ℕ) → Local x rest other m n parse_time parse_time
  time_local m n = first m n parse_time (whole_end []) step
    where
      step : (t : Symbol) → First parse_time m n t
      step (word kind.Number t) = done m n parse_time (word kind.Number t) (seconds t) (λ ts. refl)
      step (word kind.Duration t) = done m n parse_time (word kind.Duration t) (duration t) (λ ts. refl)
      step t = bad m n parse_time t (λ ts. refl)

  number_local : (m n : ℕ) → Local x rest other m n parse_number parse_number
  number_local m n = first m n parse_number (whole_end []) step
    where
      step : (t : Symbol) → First parse_number m n t
      step (word kind.Number t) = done m n parse_number (word kind.Number t) t (λ ts. refl)
      step t = bad m n parse_number t (λ ts. refl)

  string_local : (m n : ℕ) → Local x rest other m n parse_string parse_string
  string_local m n = first m n parse_string (whole_end []) step
    where
      step : (t : Symbol) → First parse_string m n t
      step (word kind.String t) = done m n parse_string (word kind.String t) t (λ ts. refl)
      step t = bad m n parse_string t (λ ts. refl)

  sign_local : (m n : ℕ) → Local x rest other m n eat_sign eat_sign
  sign_local m n = first m n eat_sign (whole_end []) step
    where
      operator : (op : ℕ) (t : Text) (plus minus : Bool) → (op == T_ADD) ≡ plus → (op == T_SUB) ≡ minus → First eat_sign m n (word (kind.Operator op) t)
      operator op t true minus e f = done m n eat_sign (word (kind.Operator op) t) (Some (false, t)) (λ ts. cond-true (op == T_ADD) _ _ e)
      operator op t false true e f = done m n eat_sign (word (kind.Operator op) t) (Some (true, t)) (λ ts. cond-false (op == T_ADD) _ _ e ∙ cond-true (op == T_SUB) _ _ f)
      operator op t false false e f = none m n eat_sign (word (kind.Operator op) t) None (λ ts. cond-false (op == T_ADD) _ _ e ∙ cond-false (op == T_SUB) _ _ f)

      step : (t : Symbol) → First eat_sign m n t
      step (word (kind.Operator op) t) = operator op t (op == T_ADD) (op == T_SUB) refl refl
      step t = none m n eat_sign t None (λ ts. refl)

  -- ---- labels

  label_local : (m n : ℕ) (k : TokenKind) (t : Text) → Local x rest other m n parse_label_list parse_label_list → Local x rest other m n (after_label k t) (after_label k t)
  unfolding after_label
  label_local m n k t l = first m n (after_label k t) (whole_end []) step
    where
      step : (u : Symbol) → First (after_label k t) m n u
      step (punct kind.RightParen) = done m n (after_label k t) (punct kind.RightParen) (last k t) (λ ts. refl)
      step (punct kind.Comma) = on m n (after_label k t) (punct kind.Comma) (λ ts. parse_label_list ts then λ y. Ok (next k t y.0, y.1)) (made m n parse_label_list (next k t) l) (λ ts. refl)
      step u = bad m n (after_label k t) u (λ ts. refl)

  labels_next : (m n : ℕ) → Local x rest other m n parse_label_list parse_label_list → Local x rest other (suc m) (suc n) parse_label_list parse_label_list
  labels_next m n l = local_by_first x rest other (suc m) (suc n) m n parse_label_list parse_label_list (omega arith) (omega arith) (whole_end []) step
    where
      named : (k : TokenKind) (t : Text) (b : Bool) → may_be_label k ≡ b → Step x rest other (suc m) (suc n) m n parse_label_list parse_label_list (word k t)
      named k t true e = takes (after_label k t) (after_label k t) (label_local m n k t l) (λ ts. label_on k t ts e) (λ ts. label_on k t ts e)
      named k t false e = stays (λ ts. Err (misfit ts)) (λ ts. Err (misfit ts)) (local_misfit x rest other (suc m) (suc n)) (λ ts. label_bad k t ts e) (λ ts. label_bad k t ts e)

      step : (t : Symbol) → Step x rest other (suc m) (suc n) m n parse_label_list parse_label_list t
      step (word k t) = named k t (may_be_label k) refl
      step (punct kind.RightParen) = takes (λ ts. Ok (no_label, ts)) (λ ts. Ok (no_label, ts)) (local_ok x rest other no_label m n) (λ ts. refl) (λ ts. refl)
      step t = stays (λ ts. Err (misfit ts)) (λ ts. Err (misfit ts)) (local_misfit x rest other (suc m) (suc n)) (λ ts. refl) (λ ts. refl)

  label_list_local : (m n : ℕ) → Local x rest other m n parse_label_list parse_label_list
  label_list_local m n =
      let p : ℕ → Unit {0} → List Symbol → Read Labels = λ k d. parse_label_list in
      local_bounded x rest other p (λ d. whole_end []) (λ k j ih d. labels_next k j (ih tt)) m n tt

  pub labels_local : (m n : ℕ) → Local x rest other m n parse_labels parse_labels
  labels_local m n = first m n parse_labels (whole_end []) step
    where
      step : (t : Symbol) → First parse_labels m n t
      step (punct kind.LeftParen) = on m n parse_labels (punct kind.LeftParen) parse_label_list (label_list_local m n) (λ ts. refl)
      step t = bad m n parse_labels t (λ ts. refl)

  pub grouping_local : (m n : ℕ) → Local x rest other m n parse_grouping parse_grouping
  grouping_local m n = first m n parse_grouping (whole_end []) step
    where
      step : (t : Symbol) → First parse_grouping m n t
      step (word kind.By t) = on m n parse_grouping (word kind.By t) (λ ts. parse_labels ts then λ l. Ok (Some (false, (true, t, l.0)), l.1)) (made m n parse_labels (λ l. Some (false, (true, t, l))) (labels_local m n)) (λ ts. refl)
      step (word kind.Without t) = on m n parse_grouping (word kind.Without t) (λ ts. parse_labels ts then λ l. Ok (Some (false, (false, t, l.0)), l.1)) (made m n parse_labels (λ l. Some (false, (false, t, l))) (labels_local m n)) (λ ts. refl)
      step t = none m n parse_grouping t None (λ ts. refl)

  -- ---- modifiers

  group_labels_local : (m n : ℕ) (b : Bool) (t : Text) → Local x rest other m n (parse_group_labels b t) (parse_group_labels b t)
  group_labels_local m n b t = first m n (parse_group_labels b t) (whole_end []) step
    where
      step : (u : Symbol) → First (parse_group_labels b t) m n u
      step (punct kind.LeftParen) = on m n (parse_group_labels b t) (punct kind.LeftParen) (λ ts. parse_label_list ts then λ l. Ok (Some (b, t, Some l.0), l.1)) (made m n parse_label_list (λ l. Some (b, t, Some l)) (label_list_local m n)) (λ ts. refl)
      step u = none m n (parse_group_labels b t) u (Some (b, t, None)) (λ ts. refl)

  group_local : (m n : ℕ) → Local x rest other m n parse_group parse_group
  group_local m n = first m n parse_group (whole_end []) step
    where
      step : (t : Symbol) → First parse_group m n t
      step (word kind.GroupLeft t) = on m n parse_group (word kind.GroupLeft t) (parse_group_labels true t) (group_labels_local m n true t) (λ ts. refl)
      step (word kind.GroupRight t) = on m n parse_group (word kind.GroupRight t) (parse_group_labels false t) (group_labels_local m n false t) (λ ts. refl)
      step t = none m n parse_group t None (λ ts. refl)

  matching_after_local : (m n : ℕ) (b : Bool) (t : Text) → Local x rest other m n (parse_matching_after b t) (parse_matching_after b t)
  matching_after_local m n b t = seq m n parse_labels (λ l us. parse_group us then λ g. Ok (Some (b, t, l, g.0), g.1)) (labels_local m n) (λ l. made m n parse_group (λ g. Some (b, t, l, g)) (group_local m n))

  matching_local : (m n : ℕ) → Local x rest other m n parse_matching parse_matching
  matching_local m n = first m n parse_matching (whole_end []) step
    where
      step : (t : Symbol) → First parse_matching m n t
      step (word kind.On t) = on m n parse_matching (word kind.On t) (parse_matching_after true t) (matching_after_local m n true t) (λ ts. refl)
      step (word kind.Ignoring t) = on m n parse_matching (word kind.Ignoring t) (parse_matching_after false t) (matching_after_local m n false t) (λ ts. refl)
      step t = none m n parse_matching t None (λ ts. refl)

  value_end_local : (m n : ℕ) (s : Signed) (v : Text) → Local x rest other m n (parse_fill_value_end s v) (parse_fill_value_end s v)
  value_end_local m n s v = first m n (parse_fill_value_end s v) (whole_end []) step
    where
      step : (t : Symbol) → First (parse_fill_value_end s v) m n t
      step (punct kind.RightParen) = done m n (parse_fill_value_end s v) (punct kind.RightParen) ((s, v)) (λ ts. refl)
      step t = bad m n (parse_fill_value_end s v) t (λ ts. refl)

  fill_value_local : (m n : ℕ) → Local x rest other m n parse_fill_value parse_fill_value
  fill_value_local m n = first m n parse_fill_value (whole_end []) step
    where
      step : (t : Symbol) → First parse_fill_value m n t
      step (punct kind.LeftParen) =
          on m n parse_fill_value (punct kind.LeftParen) (λ ts. eat_sign ts then λ s. parse_number s.1 then λ v. parse_fill_value_end s.0 v.0 v.1)
          (seq m n eat_sign (λ s us. parse_number us then λ v. parse_fill_value_end s v.0 v.1) (sign_local m n) (λ s. seq m n parse_number (parse_fill_value_end s) (number_local m n) (value_end_local m n s))) (λ ts. refl)
      step t = bad m n parse_fill_value t (λ ts. refl)

  fill_right_local : (m n : ℕ) (t : Text) (v : FillValue) → Local x rest other m n (parse_fill_right t v) (parse_fill_right t v)
  fill_right_local m n t v = first m n (parse_fill_right t v) (whole_end []) step
    where
      step : (u : Symbol) → First (parse_fill_right t v) m n u
      step (word kind.FillRight u) = on m n (parse_fill_right t v) (word kind.FillRight u) (λ ts. parse_fill_value ts then λ w. Ok (two true t v u w.0, w.1)) (made m n parse_fill_value (two true t v u) (fill_value_local m n)) (λ ts. refl)
      step u = none m n (parse_fill_right t v) u (one true t v) (λ ts. refl)

  fill_left_local : (m n : ℕ) (t : Text) (v : FillValue) → Local x rest other m n (parse_fill_left t v) (parse_fill_left t v)
  fill_left_local m n t v = first m n (parse_fill_left t v) (whole_end []) step
    where
      step : (u : Symbol) → First (parse_fill_left t v) m n u
      step (word kind.FillLeft u) = on m n (parse_fill_left t v) (word kind.FillLeft u) (λ ts. parse_fill_value ts then λ w. Ok (two false t v u w.0, w.1)) (made m n parse_fill_value (two false t v u) (fill_value_local m n)) (λ ts. refl)
      step u = none m n (parse_fill_left t v) u (one false t v) (λ ts. refl)

  fills_local : (m n : ℕ) → Local x rest other m n parse_fills parse_fills
  fills_local m n = first m n parse_fills (whole_end []) step
    where
      step : (t : Symbol) → First parse_fills m n t
      step (word kind.Fill t) = on m n parse_fills (word kind.Fill t) (λ ts. parse_fill_value ts then λ v. Ok (both t v.0, v.1)) (made m n parse_fill_value (both t) (fill_value_local m n)) (λ ts. refl)
      step (word kind.FillLeft t) = on m n parse_fills (word kind.FillLeft t) (λ ts. parse_fill_value ts then λ v. parse_fill_right t v.0 v.1) (seq m n parse_fill_value (parse_fill_right t) (fill_value_local m n) (fill_right_local m n t)) (λ ts. refl)
      step (word kind.FillRight t) = on m n parse_fills (word kind.FillRight t) (λ ts. parse_fill_value ts then λ v. parse_fill_left t v.0 v.1) (seq m n parse_fill_value (parse_fill_left t) (fill_value_local m n) (fill_left_local m n t)) (λ ts. refl)
      step t = none m n parse_fills t no_fill (λ ts. refl)

  flag_local : (m n : ℕ) → Local x rest other m n parse_flag parse_flag
  flag_local m n = first m n parse_flag (whole_end []) step
    where
      step : (t : Symbol) → First parse_flag m n t
      step (word kind.Bool t) = done m n parse_flag (word kind.Bool t) (Some t) (λ ts. refl)
      step t = none m n parse_flag t None (λ ts. refl)

  pub modifier_local : (m n : ℕ) → Local x rest other m n parse_modifier parse_modifier
  modifier_local m n =
      seq m n parse_flag (λ b us. parse_matching us then with_matching b) (flag_local m n)
      (λ b. seq m n parse_matching (λ p us. parse_fills us then with_fills b p) (matching_local m n) (λ p. made m n parse_fills (λ f. (b, p, f)) (fills_local m n)))

  -- ---- matchers

  match_operator_local : (m n : ℕ) → Local x rest other m n parse_match_operator parse_match_operator
  match_operator_local m n = first m n parse_match_operator (whole_end []) step
    where
      operator : (op : ℕ) (t : Text) (b : Bool) → (op == T_NEQ) ≡ b → First parse_match_operator m n (word (kind.Operator op) t)
      operator op t true e = done m n parse_match_operator (word (kind.Operator op) t) (Some (not_equal t)) (λ ts. cond-true (op == T_NEQ) _ _ e)
      operator op t false e = none m n parse_match_operator (word (kind.Operator op) t) None (λ ts. cond-false (op == T_NEQ) _ _ e)

      step : (t : Symbol) → First parse_match_operator m n t
      step (punct kind.Equal) = done m n parse_match_operator (punct kind.Equal) (Some equal) (λ ts. refl)
      step (punct kind.EqualRegex) = done m n parse_match_operator (punct kind.EqualRegex) (Some equal_regex) (λ ts. refl)
      step (punct kind.NotEqualRegex) = done m n parse_match_operator (punct kind.NotEqualRegex) (Some not_equal_regex) (λ ts. refl)
      step (word (kind.Operator op) t) = operator op t (op == T_NEQ) refl
      step t = none m n parse_match_operator t None (λ ts. refl)

  matcher_value_local : (m n : ℕ) (b : Bool) (t : Text) (s : MatchOperator) → Local x rest other m n (parse_matcher_value b t s) (parse_matcher_value b t s)
  matcher_value_local m n b t s = made m n parse_string (λ v. matcher b t s v) (string_local m n)

  after_name_local : (m n : ℕ) (t : Text) (s : Option MatchOperator) → Local x rest other m n (λ us. parse_after_name t (s, us)) (λ us. parse_after_name t (s, us))
  after_name_local m n t (Some s) = matcher_value_local m n false t s
  after_name_local m n t None = local_misfit x rest other m n

  after_string_local : (m n : ℕ) (t : Text) (s : Option MatchOperator) → Local x rest other m n (λ us. parse_after_string t (s, us)) (λ us. parse_after_string t (s, us))
  after_string_local m n t (Some s) = matcher_value_local m n true t s
  after_string_local m n t None = local_ok x rest other (lone t) m n

  item_local : (m n : ℕ) → Local x rest other m n parse_item parse_item
  item_local m n = first m n parse_item (whole_end []) step
    where
      step : (t : Symbol) → First parse_item m n t
      step (word kind.Identifier t) = on m n parse_item (word kind.Identifier t) (λ ts. parse_match_operator ts then parse_after_name t) (seq m n parse_match_operator (λ s us. parse_after_name t (s, us)) (match_operator_local m n) (after_name_local m n t)) (λ ts. refl)
      step (word kind.String t) = on m n parse_item (word kind.String t) (λ ts. parse_match_operator ts then parse_after_string t) (seq m n parse_match_operator (λ s us. parse_after_string t (s, us)) (match_operator_local m n) (after_string_local m n t)) (λ ts. refl)
      step t = bad m n parse_item t (λ ts. refl)

  module _ (m n : ℕ) (r s : List Symbol → Read Items) (l : Local x rest other m n r s) (i : Item) where
    items_on : (p : Items → Items) → Local x rest other m n (λ ts. r ts then λ y. Ok (p y.0, y.1)) (λ ts. s ts then λ y. Ok (p y.0, y.1))
    items_on p = local_then x rest other m n r s (λ y us. Ok (p y, us)) (λ y us. Ok (p y, us)) l (λ y. local_ok x rest other (p y) m n)

    item_comma_local : Local x rest other m n (after_item_comma r i) (after_item_comma s i)
    unfolding after_item_comma
    item_comma_local = local_by_first x rest other m n m n (after_item_comma r i) (after_item_comma s i) (omega arith) (omega arith) ((items_on (next_item i None)).ends [] (omega arith)) step
      where
        step : (t : Symbol) → Step x rest other m n m n (after_item_comma r i) (after_item_comma s i) t
        step (punct kind.RightBrace) = takes (λ ts. Ok (last_item i true, ts)) (λ ts. Ok (last_item i true, ts)) (local_ok x rest other (last_item i true) m n) (λ ts. refl) (λ ts. refl)
        step t = stays (λ ts. r ts then λ y. Ok (next_item i None y.0, y.1)) (λ ts. s ts then λ y. Ok (next_item i None y.0, y.1)) (items_on (next_item i None)) (λ ts. refl) (λ ts. refl)

    abbrev AfterItem : Symbol → Type 0
    AfterItem t = Step x rest other (suc m) (suc n) m n (parse_after_item r i) (parse_after_item s i) t

    after_item_local : Local x rest other (suc m) (suc n) (parse_after_item r i) (parse_after_item s i)
    after_item_local = local_by_first x rest other (suc m) (suc n) m n (parse_after_item r i) (parse_after_item s i) (omega arith) (omega arith) (whole_end []) step
      where
        wrong : (t : Symbol) → ((ts : List Symbol) → parse_after_item r i (t ∷ ts) ≡ Err (misfit (t ∷ ts))) → ((ts : List Symbol) → parse_after_item s i (t ∷ ts) ≡ Err (misfit (t ∷ ts))) → AfterItem t
        wrong t e e' = stays (λ ts. Err (misfit ts)) (λ ts. Err (misfit ts)) (local_misfit x rest other (suc m) (suc n)) e e'

        operator : (op : ℕ) (t : Text) (b : Bool) → (op == T_LOR) ≡ b → AfterItem (word (kind.Operator op) t)
        operator op t true e = takes (λ ts. r ts then λ y. Ok (next_item i (Some t) y.0, y.1)) (λ ts. s ts then λ y. Ok (next_item i (Some t) y.0, y.1)) (items_on (next_item i (Some t))) (λ ts. cond-true (op == T_LOR) _ _ e) (λ ts. cond-true (op == T_LOR) _ _ e)
        operator op t false e = wrong (word (kind.Operator op) t) (λ ts. cond-false (op == T_LOR) _ _ e) (λ ts. cond-false (op == T_LOR) _ _ e)

        step : (t : Symbol) → AfterItem t
        step (punct kind.RightBrace) = takes (λ ts. Ok (last_item i false, ts)) (λ ts. Ok (last_item i false, ts)) (local_ok x rest other (last_item i false) m n) (λ ts. refl) (λ ts. refl)
        step (punct kind.Comma) = takes (after_item_comma r i) (after_item_comma s i) item_comma_local (item_comma r i) (item_comma s i)
        step (word (kind.Operator op) t) = operator op t (op == T_LOR) refl
        step t = wrong t (λ ts. refl) (λ ts. refl)

  items_local : (m n : ℕ) → Local x rest other m n (parse_items m) (parse_items n)
  items_local m n =
      let p : ℕ → Unit {0} → List Symbol → Read Items = λ k d. parse_items k in
      local_bounded x rest other p (λ d. whole_end [])
      (λ k j ih d. local_then x rest other (suc k) (suc j) parse_item parse_item (parse_after_item (parse_items k)) (parse_after_item (parse_items j)) (item_local (suc k) (suc j)) (after_item_local k j (parse_items k) (parse_items j) (ih tt))) m n tt

  abbrev some_items : ℕ → List Symbol → Read Braces
  some_items k ts = parse_items k ts then λ y. Ok (Some y.0, y.1)

  some_items_local : (k j : ℕ) → Local x rest other k j (some_items k) (some_items j)
  some_items_local k j = local_then x rest other k j (parse_items k) (parse_items j) (λ y us. Ok (Some y, us)) (λ y us. Ok (Some y, us)) (items_local k j) (λ y. local_ok x rest other (Some y) k j)

  pub braces_local : (m n : ℕ) → Local x rest other m n parse_braces parse_braces
  braces_local m n = first m n parse_braces (whole_end []) step
    where
      step : (t : Symbol) → First parse_braces m n t
      step (punct kind.RightBrace) = done m n parse_braces (punct kind.RightBrace) None (λ ts. refl)
      step t = at m n parse_braces t (λ ts. some_items (length ts) ts) (local_by_length x rest other m n some_items some_items_local) (λ ts. refl)

  pub optional_braces_local : (m n : ℕ) → Local x rest other m n parse_optional_braces parse_optional_braces
  optional_braces_local m n = first m n parse_optional_braces (whole_end []) step
    where
      step : (t : Symbol) → First parse_optional_braces m n t
      step (punct kind.LeftBrace) = on m n parse_optional_braces (punct kind.LeftBrace) (λ ts. parse_braces ts then λ b. Ok (Some b.0, b.1)) (made m n parse_braces Some (braces_local m n)) (λ ts. refl)
      step t = none m n parse_optional_braces t None (λ ts. refl)

  -- ---- postfixes

  step_end_local : (m n : ℕ) (t s : Time) → Local x rest other m n (parse_step_end t s) (parse_step_end t s)
  step_end_local m n t s = first m n (parse_step_end t s) (whole_end []) step
    where
      step : (u : Symbol) → First (parse_step_end t s) m n u
      step (punct kind.RightBracket) = done m n (parse_step_end t s) (punct kind.RightBracket) (Some (subquery t (Some s))) (λ ts. refl)
      step u = bad m n (parse_step_end t s) u (λ ts. refl)

  step_local : (m n : ℕ) (t : Time) → Local x rest other m n (parse_step t) (parse_step t)
  step_local m n t = first m n (parse_step t) (whole_end []) step
    where
      step : (u : Symbol) → First (parse_step t) m n u
      step (punct kind.RightBracket) = done m n (parse_step t) (punct kind.RightBracket) (Some (subquery t None)) (λ ts. refl)
      step u = at m n (parse_step t) u (λ ts. parse_time ts then λ s. parse_step_end t s.0 s.1) (seq m n parse_time (parse_step_end t) (time_local m n) (step_end_local m n t)) (λ ts. refl)

  range_end_local : (m n : ℕ) (t : Time) → Local x rest other m n (parse_range_end t) (parse_range_end t)
  range_end_local m n t = first m n (parse_range_end t) (whole_end []) step
    where
      step : (u : Symbol) → First (parse_range_end t) m n u
      step (punct kind.RightBracket) = done m n (parse_range_end t) (punct kind.RightBracket) (Some (range t)) (λ ts. refl)
      step (punct kind.Colon) = on m n (parse_range_end t) (punct kind.Colon) (parse_step t) (step_local m n t) (λ ts. refl)
      step u = bad m n (parse_range_end t) u (λ ts. refl)

  pub range_local : (m n : ℕ) → Local x rest other m n (λ ts. parse_time ts then λ t. parse_range_end t.0 t.1) (λ ts. parse_time ts then λ t. parse_range_end t.0 t.1)
  range_local m n = seq m n parse_time parse_range_end (time_local m n) (range_end_local m n)

  bound_end_local : (m n : ℕ) (start : Bool) (t : Text) → Local x rest other m n (bound_end start t) (bound_end start t)
  unfolding bound_end
  bound_end_local m n start t = first m n (bound_end start t) (whole_end []) step
    where
      step : (u : Symbol) → First (bound_end start t) m n u
      step (punct kind.RightParen) = done m n (bound_end start t) (punct kind.RightParen) (Some (at_bound start t)) (λ ts. refl)
      step u = bad m n (bound_end start t) u (λ ts. refl)

  bound_local : (m n : ℕ) (start : Bool) (t : Text) → Local x rest other m n (parse_at_bound start t) (parse_at_bound start t)
  bound_local m n start t = first m n (parse_at_bound start t) (whole_end []) step
    where
      step : (u : Symbol) → First (parse_at_bound start t) m n u
      step (punct kind.LeftParen) = on m n (parse_at_bound start t) (punct kind.LeftParen) (bound_end start t) (bound_end_local m n start t) (bound_open start t)
      step u = bad m n (parse_at_bound start t) u (λ ts. refl)

  pub at_modifier_local : (m n : ℕ) → Local x rest other m n parse_at_modifier parse_at_modifier
  at_modifier_local m n = first m n parse_at_modifier (whole_end []) step
    where
      step : (u : Symbol) → First parse_at_modifier m n u
      step (word kind.Start t) = on m n parse_at_modifier (word kind.Start t) (parse_at_bound true t) (bound_local m n true t) (λ ts. refl)
      step (word kind.End t) = on m n parse_at_modifier (word kind.End t) (parse_at_bound false t) (bound_local m n false t) (λ ts. refl)
      step u = at m n parse_at_modifier u (λ ts. eat_sign ts then λ s. parse_number s.1 then λ v. Ok (Some (at_number s.0 v.0), v.1)) (seq m n eat_sign (λ s us. parse_number us then λ v. Ok (Some (at_number s v.0), v.1)) (sign_local m n) (λ s. made m n parse_number (λ v. Some (at_number s v)) (number_local m n))) (λ ts. refl)

  pub offset_local : (m n : ℕ) (t : Text) → Local x rest other m n (parse_offset_postfix t) (parse_offset_postfix t)
  offset_local m n t = seq m n eat_sign (λ s us. parse_time us then λ u. Ok (Some (offset t s u.0), u.1)) (sign_local m n) (λ s. made m n parse_time (λ u. Some (offset t s u)) (time_local m n))
