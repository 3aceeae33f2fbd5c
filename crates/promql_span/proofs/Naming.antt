-- Kinds by their names, and how names are written.
use Rattle.std.proofs.Common.{◌≡◌, ◌⊎◌, ℕ, ◌+◌, ◌<◌, ◌≤◌, Bool, true, false, ◌||◌, List, [], ◌∷◌, ◌++◌, Contains, Decides, append_assoc, append-nil, ap, ◌∙◌, arith, bytes_eq, codes, get_or, length, map, refl, subst, sym, take}
use mathlib.Core.Logic.{inl, inr, ⊎_elim}
use Rattle.std.specs.List.{flat_map, list_any}
use Rattle.std.specs.Set.{is_member}
use Rattle.std.specs.Borrow.{Bor}
use Rattle.std.specs.Prelude.{◌==◌}
use Rattle.std.proofs.lemmas.List.{take_more, take_all}
use Rattle.std.proofs.lemmas.List.Elements as elements
use Rattle.std.proofs.lemmas.Map.Made.{is_member-Decides}
use Rattle.std.proofs.lemmas.Map.Views.{Contains-from_any}
use Rattle.std.proofs.lemmas.Slice.Eq.{bytes_eq-Decides}
use Rattle.promql_text.specs.Texts.{Text, joined_text}
use Rattle.promql_grammar.proofs.SameTokenKinds.{kind_Decides}
use Rattle.promql_grammar.specs.contracts.token_kinds.TokenKindPartialEq.TheImpl as same_kinds
use Rattle.promql_grammar.specs.declared.token_kinds.TokenKind.{TokenKind}
use Rattle.promql_span.specs.KindNames.{name_among}
use Rattle.promql_span.specs.Unexpected.{AreNames, either_text, expected_text}

-- ---- a list of names

any_named : (p : Text → Bool) (names : List (Bor Text)) → list_any p (map (λ n. n.now) names) ≡ list_any (λ n. p n.now) names
any_named p [] = refl
any_named p (n ∷ names) = ap (λ b. p n.now || b) (any_named p names)

-- a name that is found in the list is one of it
pub contains_name : (names : List (Bor Text)) (name : Text) → list_any (λ n. bytes_eq n.now name) names ≡ true → Contains (map (λ n. n.now) names) name
contains_name names name is =
    Contains-from_any {eq = λ a b. bytes_eq b a} (λ a b same. sym ((bytes_eq-Decides b a).0 same)) name (map (λ n. n.now) names)
    (any_named (λ t. bytes_eq t name) names ∙ is)

-- ---- kinds among others

abbrev pub has_in : List TokenKind → TokenKind → Bool
has_in = is_member same_kinds.ghosts.eq

pub has_in_is : (ks : List TokenKind) (k : TokenKind) → Decides (has_in ks k) (Contains ks k)
has_in_is = is_member-Decides kind_Decides

-- ---- the names of the first kinds

pub record AreNamed (has : TokenKind → Bool) (kinds : List TokenKind) (names : List Text) : Type 0 where
  pub all : (k : TokenKind) → Contains kinds k → Contains names (name_among has k)
  pub only : (n : Text) → Contains names n → (k : TokenKind) × Contains kinds k × (n ≡ name_among has k)

pub none_named : (has : TokenKind → Bool) → AreNamed has [] []
none_named has = record { all = λ k at. absurd (omega (arith, at.1)); only = λ n at. absurd (omega (arith, at.1)) }

-- with the name of one more kind, which may have been there
one_more_kind : (has : TokenKind → Bool) (ks : List TokenKind) (i : ℕ) (d : TokenKind) (name : Text) (old new : List Text) → i < length ks → name ≡ name_among has (get_or ks i d)
    → AreNamed has (take i ks) old → Contains new name → ((n : Text) → Contains old n → Contains new n)
    → ((n : Text) → Contains new n → Contains old n ⊎ (n ≡ name)) → AreNamed has (take (i + 1) ks) new
one_more_kind has ks i d name old new less is named here keeps only =
    let k = get_or ks i d in
    subst (λ front. AreNamed has front new) (sym (take_more ks i d less)) (record {
      all = λ x at.
          ⊎_elim (λ before. keeps (name_among has x) (named.all x before)) (λ same. subst (Contains new) (is ∙ ap (name_among has) same) here)
          (elements.Contains-push_cases (take i ks) k x at);
      only = λ n at.
          ⊎_elim (λ before. let found = named.only n before in (found.0, elements.Contains-append_left (take i ks) (k ∷ []) found.0 found.1, found.2))
          (λ same. (k, elements.Contains-push (take i ks) k, same ∙ is)) (only n at);
    })

pub one_more_named : (has : TokenKind → Bool) (xs ks : List TokenKind) (i : ℕ) (d : TokenKind) (name : Text) (old new : List Text) → xs ≡ ks → i < length xs
    → name ≡ name_among has (get_or xs i d) → AreNamed has (take i ks) old → Contains new name → ((n : Text) → Contains old n → Contains new n)
    → ((n : Text) → Contains new n → Contains old n ⊎ (n ≡ name)) → AreNamed has (take (i + 1) ks) new
one_more_named has xs ks i d name old new same less is named here keeps only =
    subst (λ ys. AreNamed has (take (i + 1) ys) new) same
    (one_more_kind has xs i d name old new less is (subst (λ ys. AreNamed has (take i ys) old) (sym same) named) here keeps only)

-- names of all kinds, and of the end where a text may end
pub named_without_end : (ks : List TokenKind) (names : List Text) → AreNamed (has_in ks) ks names → AreNames ks false names
named_without_end ks names named = λ n.
    ((λ at. inl (named.only n at)), (λ either. ⊎_elim (λ of. subst (Contains names) (sym of.2) (named.all of.0 of.1)) (λ end. let never : true ≡ false = sym end.0 in cc) either))

pub named_with_end : (ks : List TokenKind) (names : List Text) → AreNamed (has_in ks) ks names → AreNames ks true (names ++ codes "end of query" ∷ [])
named_with_end ks names named = λ n.
    let all = names ++ codes "end of query" ∷ [] in (
      (λ at. ⊎_elim (λ before. inl (named.only n before)) (λ same. inr (refl, sym same)) (elements.Contains-push_cases names (codes "end of query") n at)),
      (λ either. ⊎_elim
          (λ of. subst (Contains all) (sym of.2) (elements.Contains-append_left names (codes "end of query" ∷ []) (name_among (has_in ks) of.0) (named.all of.0 of.1)))
          (λ end. subst (Contains all) (sym end.1) (elements.Contains-push names (codes "end of query"))) either),
    )

-- so many kinds are all
pub all_named : (has : TokenKind → Bool) (xs ks : List TokenKind) (i : ℕ) (names : List Text) → xs ≡ ks → length xs ≤ i → AreNamed has (take i ks) names → AreNamed has ks names
all_named has xs ks i names same done named = subst (λ ys. AreNamed has ys names) (take_all i ks (subst (λ ys. length ys ≤ i) same done)) named

push_now : (names : List (Bor Text)) (last : Bor Text) → map (λ n. n.now) (names ++ last ∷ []) ≡ map (λ n. n.now) names ++ last.now ∷ []
push_now [] last = refl
push_now (n ∷ names) last = ap (λ ns. n.now ∷ ns) (push_now names last)

pub ends_are_named : (ks : List TokenKind) (ends : Bool) (before after : List (Bor Text)) (last : Bor Text) → ends ≡ true → last.now ≡ codes "end of query" → after ≡ before ++ last ∷ []
    → AreNamed (has_in ks) ks (map (λ n. n.now) before) → AreNames ks ends (map (λ n. n.now) after)
ends_are_named ks ends before after last is end pushed named =
    let names = map (λ n. n.now) before in
    let written : map (λ n. n.now) after ≡ names ++ codes "end of query" ∷ [] =
    ap (map (λ n. n.now)) pushed ∙ push_now before last ∙ ap (λ e. names ++ e ∷ []) end in
    subst (λ b. AreNames ks b (map (λ n. n.now) after)) (sym is) (subst (AreNames ks true) (sym written) (named_with_end ks names named))

pub no_ends_are_named : (ks : List TokenKind) (ends : Bool) (before after : List (Bor Text)) → ends ≡ false → after ≡ before
    → AreNamed (has_in ks) ks (map (λ n. n.now) before) → AreNames ks ends (map (λ n. n.now) after)
no_ends_are_named ks ends before after is same named =
    subst (λ b. AreNames ks b (map (λ n. n.now) after)) (sym is) (subst (λ ns. AreNames ks false (map (λ n. n.now) ns)) (sym same) (named_without_end ks (map (λ n. n.now) before) named))

-- ---- written names

join_shape : (f s g t r : Text) → f ++ (s ++ ((g ++ t) ++ r)) ≡ (f ++ ((s ++ g) ++ t)) ++ r
join_shape f s g t r =
    ap (λ x. f ++ (s ++ x)) (append_assoc g t r)
    ∙ ap (λ x. f ++ x) (sym (append_assoc s g (t ++ r)))
    ∙ ap (λ x. f ++ x) (sym (append_assoc (s ++ g) t r))
    ∙ sym (append_assoc f ((s ++ g) ++ t) r)

either_last : (f : Bor Text) (fs : List (Bor Text)) (last : Bor Text)
    → either_text f.now (map (λ n. n.now) (fs ++ last ∷ [])) ≡ joined_text (codes ", ") (map (λ n. n.now) (f ∷ fs)) ++ (codes " or " ++ last.now)
either_last f [] last = ap (λ t. t ++ (codes " or " ++ last.now)) (sym (append-nil f.now))
either_last f (g ∷ []) last =
    ap (λ t. f.now ++ (codes ", " ++ t)) (either_last g [] last) ∙ join_shape f.now (codes ", ") g.now [] (codes " or " ++ last.now)
either_last f (g ∷ h ∷ hs) last =
    ap (λ t. f.now ++ (codes ", " ++ t)) (either_last g (h ∷ hs) last)
    ∙ join_shape f.now (codes ", ") g.now (flat_map (λ y. codes ", " ++ y) (map (λ n. n.now) (h ∷ hs))) (codes " or " ++ last.now)

pub expected_last : (names firsts : List (Bor Text)) (last : Bor Text) → names ≡ firsts ++ last ∷ [] → (length firsts == 0) ≡ false
    → codes ", expected " ++ (joined_text (codes ", ") (map (λ n. n.now) firsts) ++ (codes " or " ++ last.now)) ≡ expected_text (map (λ n. n.now) names)
expected_last names [] last is some = let no : true ≡ false = some in cc
expected_last names (f ∷ fs) last is some =
    ap (λ t. codes ", expected " ++ t) (sym (either_last f fs last)) ∙ ap (λ ns. expected_text (map (λ n. n.now) ns)) (sym is)
