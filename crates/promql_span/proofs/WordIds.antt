-- Which ids words have: a keyword's, or that of a name.
use Rattle.std.proofs.Common.{◌≡◌, ℕ, refl, sym, Bool, true, false, ◌&&◌, List, [], ◌∷◌}
use Rattle.std.specs.Prelude.{◌==◌, codes, not, slice_index, unwrap_or}
use Rattle.std.specs.Str.{str_eq_ignore_ascii_case}
use Rattle.std.specs.List.{list_all, list_any}
use Rattle.std.proofs.lemmas.Bool.{and_parts, cond_both}
use Rattle.promql_text.specs.Texts.{Text, lookup}
use Rattle.promql_token.specs.Ids.{keyword_in_any_case, keywords}
use Rattle.promql_token.specs.Vocabulary.{braces_id, is_fill, name_id, opens, word_id}
use Rattle.promql_token.specs.declared.ids.TheConstants.{T_IDENTIFIER, T_LOR, T_METRIC_IDENTIFIER}

is_no : (a : Bool) → not a ≡ true → a ≡ false
is_no true is = sym is
is_no false is = refl

-- ids that no word has
pub record OfNoWord (is_such : ℕ → Bool) : Type 0 where
  pub keyword : list_all (λ (k : Text × ℕ). not (is_such k.1)) keywords ≡ true
  pub name : is_such T_IDENTIFIER ≡ false
  pub metric : is_such T_METRIC_IDENTIFIER ≡ false
  pub alternative : is_such T_LOR ≡ false

module _ (is_such : ℕ → Bool) (none : OfNoWord is_such) where
  looked_up : (same : Text → Text → Bool) (ks : List (Text × ℕ)) (w : Text) (d : ℕ) → list_all (λ (k : Text × ℕ). not (is_such k.1)) ks ≡ true
      → is_such d ≡ false → is_such (unwrap_or (lookup same ks w) d) ≡ false
  looked_up same [] w d all other = other
  looked_up same (k ∷ ks) w d all other =
      cond_both (same k.0 w) _ _ (λ o. is_such (unwrap_or o d) ≡ false) (λ _. is_no (is_such k.1) (and_parts (not (is_such k.1)) _ all).0)
      (λ _. looked_up same ks w d (and_parts (not (is_such k.1)) _ all).1 other)

  name_is_none : (w : Text) → is_such (name_id w) ≡ false
  name_is_none w = cond_both (list_any (λ b. b == 58) w) _ _ (λ id. is_such id ≡ false) (λ _. none.metric) (λ _. none.name)

  pub word_is_none : (w r : Text) → is_such (word_id w r) ≡ false
  unfolding keyword_in_any_case
  word_is_none w r =
      let id = unwrap_or (keyword_in_any_case w) (name_id w) in
      cond_both (is_fill id && not (opens r)) _ _ (λ id. is_such id ≡ false) (λ _. none.name)
      (λ _. looked_up str_eq_ignore_ascii_case keywords w (name_id w) none.keyword (name_is_none w))

  pub name_in_braces_is_none : (w r : Text) → is_such (braces_id w r) ≡ false
  name_in_braces_is_none w r =
      cond_both (str_eq_ignore_ascii_case w (codes "or") && slice_index r 0 == 32) _ _ (λ id. is_such id ≡ false) (λ _. none.alternative) (λ _. none.name)
