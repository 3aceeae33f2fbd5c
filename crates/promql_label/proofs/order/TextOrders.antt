-- The order of texts that begin alike, or with names that differ.
use Rattle.std.proofs.Common.{◌≡◌, ◌&&◌, Bool, true, false, cond, [], ◌∷◌, ◌++◌, length, take, refl, sym, ap, ◌∙◌, true≢false}
use Rattle.std.specs.Cmp.Lexicographic.{pointwise}
use Rattle.std.specs.Ordering.{nat_cmp, ordering_then}
use Rattle.std.specs.Prelude.{nat_eq}
use Rattle.std.specs.declared.cmp.Ordering.{Ordering}
use Rattle.std.specs.declared.cmp.Ordering.TheVariants.{Less, Equal, Greater}
use Rattle.std.proofs.lemmas.Cmp.{nat_cmp_total, nat_eq_equiv, ranked, tied_itself}
use Rattle.promql_text.specs.Texts.{Text}
use Rattle.promql_text.specs.Quoting.{quoted_text}
use Rattle.promql_token.specs.Classes.{is_label}
use Rattle.promql_label.specs.PlainMatchers.{name_text}
use Rattle.promql_label.specs.SortedTexts.{text_order}

-- texts that begin alike are in the order of what comes after
pub after_same : (p s t : Text) → text_order (p ++ s) (p ++ t) ≡ text_order s t
after_same [] s t = refl
after_same (b ∷ p) s t = ap (λ o. ordering_then o (text_order (p ++ s) (p ++ t))) (tied_itself nat_cmp_total b) ∙ after_same p s t

abbrev pub begins : Text → Text → Bool
begins x y = pointwise nat_eq y (take (length y) x)

-- texts of which neither begins with the other stay in order, whatever comes after
pub apart_stay : (x y s t : Text) → begins x y ≡ false → begins y x ≡ false → text_order (x ++ s) (y ++ t) ≡ text_order x y
apart_stay [] y s t a b = absurd (true≢false b)
apart_stay (c ∷ x) [] s t a b = absurd (true≢false a)
apart_stay (c ∷ x) (d ∷ y) s t a b = step (nat_cmp c d) refl (apart_stay x y s t)
  where
    Stays : Type 0
    Stays = begins x y ≡ false → begins y x ≡ false → text_order (x ++ s) (y ++ t) ≡ text_order x y

    step : (o : Ordering) → nat_cmp c d ≡ o → Stays → ordering_then o (text_order (x ++ s) (y ++ t)) ≡ ordering_then o (text_order x y)
    step Less e more = refl
    step Equal e more =
        let is : c ≡ d = ranked c d Equal (sym e) in
        let forth : nat_eq d c ≡ true = ap (nat_eq d) is ∙ nat_eq_equiv.refl d in
        let back : nat_eq c d ≡ true = ap (nat_eq c) (sym is) ∙ nat_eq_equiv.refl c in
        more (sym (ap (λ q. q && begins x y) forth) ∙ a) (sym (ap (λ q. q && begins y x) back) ∙ b)
    step Greater e more = refl

-- a name that is a label prints as it is
pub bare_name : (n : Text) → is_label n ≡ true → name_text n ≡ n
bare_name n h = ap (λ b. cond b n (quoted_text n)) h
