-- What later tokens are not, where no token is of a kind.
use Rattle.std.proofs.Common.{◌≡◌, ℕ, refl, ◌∙◌, ap, Bool, true, false, true≢false, ◌&&◌, ◌||◌, List, [], ◌∷◌, drop}
use Rattle.std.specs.Prelude.{◌==◌, not}
use Rattle.std.specs.List.{list_any}
use Rattle.std.proofs.lemmas.Bool.{cond_both}
use Rattle.promql_text.specs.NumberText.{read_number}
use Rattle.promql_text.specs.Texts.{Text}
use Rattle.promql_token.specs.declared.ids.TheConstants.{T_EQL, T_EQL_REGEX, T_LEFT_BRACE, T_LEFT_PAREN, T_NEQ, T_NEQ_REGEX, T_NUMBER, T_POW, T_RIGHT_BRACE}
use Rattle.promql_grammar.specs.Symbols.{is_plus_or_minus}
use Rattle.promql_span.specs.Differences.{Tokens, after_brace, after_signs, begins_with_fine, begins_with_zero, clash, clashes, comes_first, in_parens, is_fine, matched_labels, may_be_same, reads_zero}
use Rattle.promql_span.proofs.OperatorTokens.{or_left, or_right}

abbrev pub is_zero_number : ℕ × Text → Bool
is_zero_number t = t.0 == T_NUMBER && reads_zero (read_number t.1)

abbrev pub is_fine_number : ℕ × Text → Bool
is_fine_number t = t.0 == T_NUMBER && is_fine t.1

and_more : (a b c : Bool) → a && b ≡ false → a && (b && c) ≡ false
and_more false b c miss = refl
and_more true false c miss = refl
and_more true true c miss = absurd (true≢false miss)

-- ---- after signs, and after parentheses

pub no_zero_after_signs : (ts : Tokens) → list_any is_zero_number ts ≡ false → begins_with_zero (after_signs ts) ≡ false
no_zero_after_signs [] none = refl
no_zero_after_signs (t ∷ ts) none =
    cond_both (is_plus_or_minus t.0) _ _ (λ z. begins_with_zero z ≡ false) (λ _. no_zero_after_signs ts (or_right (is_zero_number t) _ none))
    (λ _. and_more (t.0 == T_NUMBER) (reads_zero (read_number t.1)) (not (comes_first T_POW ts)) (or_left (is_zero_number t) (list_any is_zero_number ts) none))

pub no_fine_after_signs : (ts : Tokens) → list_any is_fine_number ts ≡ false → begins_with_fine (after_signs ts) ≡ false
no_fine_after_signs [] none = refl
no_fine_after_signs (t ∷ ts) none =
    cond_both (is_plus_or_minus t.0) _ _ (λ z. begins_with_fine z ≡ false) (λ _. no_fine_after_signs ts (or_right (is_fine_number t) _ none))
    (λ _. or_left (is_fine_number t) (list_any is_fine_number ts) none)

module _ (id : ℕ) where
  abbrev pub has_token : Tokens → Bool
  has_token = list_any (λ t. t.0 == id)

  pub none_first : (ts : Tokens) → has_token ts ≡ false → comes_first id ts ≡ false
  none_first [] none = refl
  none_first (t ∷ ts) none = or_left (t.0 == id) (has_token ts) none

  none_dropped : (ts : Tokens) → has_token ts ≡ false → has_token (drop 1 ts) ≡ false
  none_dropped [] none = refl
  none_dropped (t ∷ ts) none = or_right (t.0 == id) (has_token ts) none

  pub none_in_parens : (ts : Tokens) → has_token ts ≡ false → has_token (in_parens ts) ≡ false
  none_in_parens [] none = refl
  none_in_parens (t ∷ ts) none =
      cond_both (t.0 == T_LEFT_PAREN) _ _ (λ z. has_token z ≡ false) (λ _. none_in_parens ts (or_right (t.0 == id) (has_token ts) none)) (λ _. none)

  none_after_brace : (ts : Tokens) → has_token ts ≡ false → has_token (after_brace ts) ≡ false
  none_after_brace [] none = refl
  none_after_brace (t ∷ ts) none =
      let later = or_right (t.0 == id) (has_token ts) none in
      cond_both (t.0 == T_LEFT_BRACE) _ _ (λ z. has_token z ≡ false) (λ _. later)
      (λ _. cond_both (comes_first T_LEFT_BRACE ts) _ _ (λ z. has_token z ≡ false) (λ _. none_dropped ts later) (λ _. refl))

-- ---- matchers of which none is an equality

abbrev has_equality : List (Text × Bool) → Bool
has_equality = list_any (λ m. m.1)

no_equality : (before : Text) (ts : Tokens) → has_token T_EQL ts ≡ false → has_equality (matched_labels before ts) ≡ false
no_equality before [] none = refl
no_equality before (t ∷ ts) none =
    let later = no_equality t.1 ts (or_right (t.0 == T_EQL) (has_token T_EQL ts) none) in
    cond_both (t.0 == T_RIGHT_BRACE) _ _ (λ ms. has_equality ms ≡ false) (λ _. refl)
    (λ _. cond_both (list_any (λ k. t.0 == k) (T_EQL ∷ T_NEQ ∷ T_EQL_REGEX ∷ T_NEQ_REGEX ∷ [])) _ _ (λ ms. has_equality ms ≡ false)
    (λ _. ap (λ a. a || has_equality (matched_labels t.1 ts)) (or_left (t.0 == T_EQL) (has_token T_EQL ts) none) ∙ later) (λ _. later))

no_clash_with : (m : Text × Bool) (ms : List (Text × Bool)) → m.1 ≡ false → has_equality ms ≡ false → list_any (clash m) ms ≡ false
no_clash_with m [] none all = refl
no_clash_with m (n ∷ ms) none all =
    (λ i. (may_be_same m.0 n.0 && (none i || or_left n.1 (has_equality ms) all i)) || list_any (clash m) ms)
    ∙ and_false (may_be_same m.0 n.0) ∙ no_clash_with m ms none (or_right n.1 (has_equality ms) all)
  where
    and_false : (a : Bool) → (a && false) || list_any (clash m) ms ≡ list_any (clash m) ms
    and_false true = refl
    and_false false = refl

no_clashes : (ms : List (Text × Bool)) → has_equality ms ≡ false → clashes ms ≡ false
no_clashes [] none = refl
no_clashes (m ∷ ms) none =
    ap (λ a. a || clashes ms) (no_clash_with m ms (or_left m.1 (has_equality ms) none) (or_right m.1 (has_equality ms) none))
    ∙ no_clashes ms (or_right m.1 (has_equality ms) none)

pub no_repeated_label : (ts : Tokens) → has_token T_EQL ts ≡ false → clashes (matched_labels [] (after_brace (in_parens ts))) ≡ false
no_repeated_label ts none =
    no_clashes (matched_labels [] (after_brace (in_parens ts)))
    (no_equality [] (after_brace (in_parens ts)) (none_after_brace T_EQL (in_parens ts) (none_in_parens T_EQL ts none)))
