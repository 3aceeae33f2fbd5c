-- Quoted texts in which each byte is for itself.
use Rattle.std.proofs.Common.{◌≡◌, ℕ, ◌+◌, ◌-◌, Bool, true, false, [], ◌∷◌, ◌++◌, length, take, drop, get_or, Some, None, Option, refl, sym, ap, ◌∙◌, subst, Bor}
use Rattle.std.specs.Prelude.{◌||◌, ◌==◌, ◌≤◌, option_and_then, option_map, IfSome, MatchOption, slice_range}
use Rattle.std.specs.List.{list_all}
use Rattle.std.proofs.lemmas.Bool.{cond-true, cond-false, cond_both, eq-eqb, not-true}
use Rattle.promql_text.specs.Texts.{Text}
use Rattle.promql_text.specs.Quoting.{is_quote, inside, spelling, unquoted_text}
use Rattle.promql_text.specs.QuoteReaders.{is_plain_byte}
use Rattle.promql_text.proofs.worked.Ends.{between_ends}
use Rattle.promql_text.proofs.numerals.SpelledNumerals.{both}

neither : (x y : Bool) → (x || y) ≡ false → (x ≡ false) × (y ≡ false)
neither true y h = absurd cc
neither false y h = (refl, h)

plain_spelling : (q b : ℕ) (z : Text) → (b == 10) ≡ false → (b == 92) ≡ false → spelling q b z ≡ Some (b ∷ [], 1)
plain_spelling q b z feed backslash =
    cond_both (q == 96) _ _ (λ r. r ≡ Some (b ∷ [], 1)) (λ raw. refl) (λ quoted. cond-false (b == 10) _ _ feed ∙ cond-false (b == 92) _ _ backslash)

plain_inside : (q : ℕ) (body : Text) → list_all (is_plain_byte q) body ≡ true → inside q 0 (body ++ q ∷ []) ≡ Some body
plain_inside q [] plain = cond-true (q == q) _ _ (eq-eqb q q refl)
plain_inside q (b ∷ body) plain =
    let here = both (is_plain_byte q b) (list_all (is_plain_byte q) body) plain in
    let other = neither (b == q) (b == 92 || b == 10) (not-true (b == q || (b == 92 || b == 10)) here.0) in
    let own = neither (b == 92) (b == 10) other.1 in
    cond-false (b == q) _ _ other.0
    ∙ ap (option_and_then (λ s. option_map (λ more. s.0 ++ more) (inside q (s.1 - 1) (body ++ q ∷ [])))) (plain_spelling q b (body ++ q ∷ []) own.1 own.0)
    ∙ ap (option_map (λ more. b ∷ more)) (plain_inside q body here.1)

-- what stands between the quotes
plain_body : (q : ℕ) (body : Text) → is_quote q ≡ true → list_all (is_plain_byte q) body ≡ true → unquoted_text (q ∷ (body ++ q ∷ [])) ≡ Some body
unfolding unquoted_text
plain_body q body quote plain = cond-true (is_quote q) _ _ quote ∙ plain_inside q body plain

-- the same of a text by its ends
pub unquoted_between : (s : Text) → 2 ≤ length s → get_or s (length s - 1) 0 ≡ get_or s 0 0 → is_quote (get_or s 0 0) ≡ true
    → list_all (is_plain_byte (get_or s 0 0)) (take (length s - 1 - 1) (drop 1 s)) ≡ true → unquoted_text s ≡ Some (take (length s - 1 - 1) (drop 1 s))
unquoted_between s two same quote plain =
    let body : Text = take (length s - 1 - 1) (drop 1 s) in
    let whole : get_or s 0 0 ∷ (body ++ get_or s 0 0 ∷ []) ≡ s = ap (λ b. get_or s 0 0 ∷ (body ++ b ∷ [])) (sym same) ∙ between_ends s two in
    subst (λ t. unquoted_text t ≡ Some body) whole (plain_body (get_or s 0 0) body quote plain)

-- what is cut out of a text is what was found there
pub cut_out : (N : Type 0) (s body : Text) (i j : ℕ) (o : Option (Bor Text)) → unquoted_text s ≡ Some body → slice_range s i j ≡ body
    → MatchOption o N (λ x. (x.now ≡ slice_range s i j) × (length x.now + i ≡ j) × (j ≤ length s)) → IfSome o (λ x. unquoted_text s ≡ Some x.now)
cut_out N s body i j None said is gets = tt
cut_out N s body i j (Some x) said is gets = said ∙ ap Some (sym (gets.0 ∙ is))
