-- The grammar of `regex` reads the classes of plain patterns.
use Rattle.std.proofs.Common.{◌≡◌, ◌⊎◌, ℕ, zero, suc, ◌+◌, ◌*◌, ◌<◌, ◌≤◌, Bool, true, false, not, ◌&&◌, ◌==◌, if◌then◌else◌, List, [], ◌∷◌, ◌++◌, map, length, length-append, drop, is_some, Option, Some, None, IsSomeAnd, nat_le, nat_lt, refl, sym, ap, subst, inl, inr, ⊎_elim, arith, true≢false}
use Rattle.std.proofs.lemmas.Bool.{and_parts, eqb-true, not-true}
use Rattle.std.specs.Int.{is_in_range}
use Rattle.regex_syntax.proofs.Written.{grammar}
use Rattle.regex_syntax.specs.Brackets.{Nested, after_hyphen, bracket_start, deepest, flat, item_or, member, operations, operator, posix, set_item, set_items, single, union, unite}
use Rattle.regex_syntax.specs.Escapes.{Piece, escape, one_letter}
use Rattle.regex_syntax.specs.Grammar.{atom}
use Rattle.regex_syntax.specs.Reading.{◌>>=◌, first, is_at, is_empty, skip}
use Rattle.regex_syntax.specs.Sets.{Set, case_fold, negate_if, one_of}
use Rattle.regex.specs.Patterns.{Re, default_config}
use Rattle.promql_text.specs.Texts.{Text}
use Rattle.promql_label.specs.declared.plain.After.TheVariants as after
use Rattle.promql_label.specs.PlainPatterns.{first_in_class, in_class, is_escaped, is_member, member as member_or_escape, next}
use Rattle.promql_label.proofs.plain_patterns.PlainAtoms.{AtomRead, ReadAlone, not_empty, read_alone}
use Rattle.promql_label.proofs.plain_patterns.PlainScans.{IsMember, Plain, by_next, class_escape_next, member_next, member_tests, never, turned}

pub at_most_one : (p : Bool) → (if p then 1 else 0) ≤ 1
at_most_one true = omega arith
at_most_one false = omega arith

-- ---- an item of a class

single_is_read : (b e : ℕ) (t : Text) → IsMember b → (e == 45) ≡ false → (set : Set) × (set_item default_config (b ∷ e ∷ t) ≡ Some (set, e ∷ t))
unfolding grammar
single_is_read b e t one no_hyphen = (λ d. d == b, rw (one.escapes, not_empty e t, no_hyphen) refl)

single_before_last : (b : ℕ) (t : Text) → IsMember b → (set : Set) × (set_item default_config (b ∷ 45 ∷ 93 ∷ t) ≡ Some (set, 45 ∷ 93 ∷ t))
unfolding grammar
single_before_last b t one = (λ d. d == b, rw (one.escapes, not_empty 45 (93 ∷ t)) refl)

range_is_read : (low high : ℕ) (t : Text) → IsMember low → IsMember high → nat_le low high ≡ true
    → (set : Set) × (set_item default_config (low ∷ 45 ∷ high ∷ t) ≡ Some (set, t))
unfolding grammar
range_is_read low high t bottom top rising =
    (is_in_range low high, rw (bottom.escapes, not_empty 45 (high ∷ t), top.closes, top.hyphen, top.escapes, rising) refl)

hyphen_is_read : (t : Text) → (set : Set) × (set_item default_config (45 ∷ 93 ∷ t) ≡ Some (set, 93 ∷ t))
unfolding grammar
hyphen_is_read t = (λ d. d == 45, rw (not_empty 93 t) refl)

-- a text that begins no range after an escape: there is more, and a hyphen comes before a bracket or a hyphen alone
abbrev begins_no_range : Text → Bool
begins_no_range t = not (is_empty t) && not (is_at "-" t && not (is_at "]-" (drop 1 t)))

escape_is_read : (e : ℕ) (t : Text) → is_escaped e ≡ true → begins_no_range t ≡ true → (set : Set) × (set_item default_config (92 ∷ e ∷ t) ≡ Some (set, t))
unfolding set_item member escape first skip after_hyphen
escape_is_read e t escaped no_range = by_letter (one_letter default_config e) refl (read_alone e escaped).in_class
  where
    tests : ReadAlone e
    tests = read_alone e escaped

    more : is_empty t ≡ false
    more = not-true (is_empty t) (and_parts (not (is_empty t)) _ no_range).0

    no_hyphen : (is_at "-" t && not (is_at "]-" (drop 1 t))) ≡ false
    no_hyphen = not-true _ (and_parts (not (is_empty t)) _ no_range).1

    by_set : (piece : Piece) → one_letter default_config e ≡ Some piece → (made : Option Set) → single default_config piece ≡ made → is_some made ≡ true
        → (set : Set) × (set_item default_config (92 ∷ e ∷ t) ≡ Some (set, t))
    by_set piece letter None is h = absurd (true≢false (sym h))
    by_set piece letter (Some set) is h = (set, rw (tests.hex, tests.short, tests.long, tests.property, tests.boundary, letter, more, no_hyphen, is) refl)

    by_letter : (o : Option Piece) → one_letter default_config e ≡ o → is_some (o >>= single default_config) ≡ true
        → (set : Set) × (set_item default_config (92 ∷ e ∷ t) ≡ Some (set, t))
    by_letter None letter h = absurd (true≢false (sym h))
    by_letter (Some piece) letter h = by_set piece letter (single default_config piece) refl h

-- ---- the items

module _ (r : Text) (o c k : ℕ) where
  -- what the items are read up to: the bracket that closes the class
  record AtClose (most : ℕ) (t : Text) : Type 0 where
    rest : Text
    is : t ≡ 93 ∷ (rest ++ r)
    plain : Plain o c k after.Item rest
    short : length rest < most

  Items : ℕ → List (Nested Set) × Text → Type 0
  Items most read = (deepest read.0 ≤ 0) × AtClose most read.1

  longer : (most more : ℕ) (found : Option (List (Nested Set) × Text)) → most ≤ more → IsSomeAnd found (Items most) → IsSomeAnd found (Items more)
  unfolding Items
  longer most more None le h = absurd h
  longer most more (Some read) le h = (h.0, record { rest = h.1.rest; is = h.1.is; plain = h.1.plain; short = omega (arith, le, h.1.short) })

  with_flat : (set : Set) (most : ℕ) (found : Option (List (Nested Set) × Text)) → IsSomeAnd found (Items most)
      → IsSomeAnd (found >>= λ (parts, rest). Some (flat set ∷ parts, rest)) (Items most)
  unfolding Items
  with_flat set most None h = absurd h
  with_flat set most (Some read) h = (omega (arith, h.0), h.1)

  -- a member that an item begins with
  member_then : (n most : ℕ) (b : ℕ) (t next : Text) (set : Set) → IsMember b → set_item default_config (b ∷ t) ≡ Some (set, next)
      → IsSomeAnd (set_items default_config n next) (Items most) → IsSomeAnd (set_items default_config (suc n) (b ∷ t)) (Items most)
  unfolding set_items operator posix item_or first skip
  member_then n most b t next set one item more =
      rw (one.closes, turned b 38 one.both, turned b 45 one.hyphen, turned b 126 one.either, turned b 91 one.opens, one.opens, item)
      (with_flat set most (set_items default_config n next) more)

  hyphen_then : (n most : ℕ) (t : Text) → IsSomeAnd (set_items default_config n (93 ∷ t)) (Items most) → IsSomeAnd (set_items default_config (suc n) (45 ∷ 93 ∷ t)) (Items most)
  unfolding set_items operator posix item_or first skip
  hyphen_then n most t more = let (set, item) = hyphen_is_read t in rw item (with_flat set most (set_items default_config n (93 ∷ t)) more)

  escape_then : (n most e : ℕ) (t : Text) → is_escaped e ≡ true → begins_no_range t ≡ true
      → IsSomeAnd (set_items default_config n t) (Items most) → IsSomeAnd (set_items default_config (suc n) (92 ∷ e ∷ t)) (Items most)
  unfolding set_items operator posix item_or first skip
  escape_then n most e t escaped no_range more = let (set, item) = escape_is_read e t escaped no_range in rw item (with_flat set most (set_items default_config n t) more)

  ItemsAreRead : ℕ → Text → Type 0
  ItemsAreRead n u = IsSomeAnd (set_items default_config n (u ++ r)) (Items (length u))

  closed : (n : ℕ) (z : Text) → Plain o c k after.Item z → ItemsAreRead (suc n) (93 ∷ z)
  unfolding grammar Items ItemsAreRead
  closed n z plain = (omega arith, record { rest = z; is = refl; plain = plain; short = omega arith })

  -- what comes after a member of a class
  data MemberNext (b : ℕ) : Text → Type 0 where
    alone : (e : ℕ) (y : Text) → (e == 45) ≡ false → Plain o c k after.Range (e ∷ y) → MemberNext b (e ∷ y)
    last : (x : Text) → Plain o c k after.Item x → MemberNext b (45 ∷ 93 ∷ x)
    to_high : (high : ℕ) (x : Text) → IsMember high → nat_le b high ≡ true → Plain o c k after.Range x → MemberNext b (45 ∷ high ∷ x)

  ranged : (e : ℕ) (y : Text) → (e == 45) ≡ false → Plain o c k (in_class e) y → Plain o c k after.Range (e ∷ y)
  unfolding next
  ranged e y no_hyphen plain = subst (λ hyphen. Plain o c k (if hyphen then after.LastHyphen else in_class e) y) (sym no_hyphen) plain

  after_hyphen_next : (b : ℕ) (y : Text) → Plain o c k (after.Hyphen b) y → MemberNext b (45 ∷ y)
  unfolding next
  after_hyphen_next b [] plain = absurd (true≢false (sym plain.0))
  after_hyphen_next b (f ∷ x) plain = ⊎_elim
      (λ shut. subst (λ f. MemberNext b (45 ∷ f ∷ x)) (sym (eqb-true f 93 shut.0)) (last x shut.1))
      (λ opens. ⊎_elim
      (λ rising. let (one, above) = and_parts (is_member f) (nat_le b f) rising.0 in to_high f x (member_tests f one) above rising.1)
      (λ none. never o c k x none.1)
      (by_next o c k x (is_member f && nat_le b f) after.Range after.Foreign opens.1))
      (by_next o c k x (f == 93) after.Item _ plain)

  member_goes_on : (b : ℕ) (z : Text) → Plain o c k (after.Member b) z → MemberNext b z
  unfolding next
  member_goes_on b [] plain = absurd (true≢false (sym plain.0))
  member_goes_on b (e ∷ y) plain = ⊎_elim
      (λ hyphen. subst (λ e. MemberNext b (e ∷ y)) (sym (eqb-true e 45 hyphen.0)) (after_hyphen_next b y hyphen.1))
      (λ other. alone e y other.0 (ranged e y other.0 other.1))
      (by_next o c k y (e == 45) (after.Hyphen b) (in_class e) plain)

  -- an item that a member begins
  member_item : (n b : ℕ) (z : Text) → IsMember b → MemberNext b z → ((u : Text) → length u ≤ length z → Plain o c k after.Range u → ItemsAreRead n u) → ItemsAreRead (suc n) (b ∷ z)
  unfolding ItemsAreRead next
  member_item n b z one (alone e y no_hyphen plain) more =
      let (set, item) = single_is_read b e (y ++ r) one no_hyphen in
      member_then n (length (b ∷ e ∷ y)) b (e ∷ (y ++ r)) (e ∷ (y ++ r)) set one item
      (longer (length (e ∷ y)) (length (b ∷ e ∷ y)) (set_items default_config n (e ∷ (y ++ r))) (omega arith) (more (e ∷ y) (omega arith) plain))
  member_item n b z one (last x plain) more =
      let (set, item) = single_before_last b (x ++ r) one in
      member_then n (length (b ∷ 45 ∷ 93 ∷ x)) b (45 ∷ 93 ∷ (x ++ r)) (45 ∷ 93 ∷ (x ++ r)) set one item
      (longer (length (45 ∷ 93 ∷ x)) (length (b ∷ 45 ∷ 93 ∷ x)) (set_items default_config n (45 ∷ 93 ∷ (x ++ r))) (omega arith) (more (45 ∷ 93 ∷ x) (omega arith) plain))
  member_item n b z one (to_high high x top rising plain) more =
      let (set, item) = range_is_read b high (x ++ r) one top rising in
      member_then n (length (b ∷ 45 ∷ high ∷ x)) b (45 ∷ high ∷ (x ++ r)) (x ++ r) set one item
      (longer (length x) (length (b ∷ 45 ∷ high ∷ x)) (set_items default_config n (x ++ r)) (omega arith) (more x (omega arith) plain))

  -- after an escape or a range no range begins
  range_front : (y : Text) → Plain o c k after.Range y → begins_no_range (y ++ r) ≡ true
  unfolding next first
  range_front [] plain = absurd (true≢false (sym plain.0))
  range_front (f ∷ x) plain = ⊎_elim
      (λ hyphen. subst (λ f. begins_no_range (f ∷ (x ++ r)) ≡ true) (sym (eqb-true f 45 hyphen.0)) (hyphen_front x hyphen.1))
      (λ other. rw (not_empty f (x ++ r), other.0) refl)
      (by_next o c k x (f == 45) after.LastHyphen (in_class f) plain)
    where
      hyphen_front : (x : Text) → Plain o c k after.LastHyphen x → begins_no_range (45 ∷ (x ++ r)) ≡ true
      hyphen_front [] plain = absurd (true≢false (sym plain.0))
      hyphen_front (g ∷ w) plain = ⊎_elim
          (λ shut. subst (λ g. begins_no_range (45 ∷ g ∷ (w ++ r)) ≡ true) (sym (eqb-true g 93 shut.0)) (rw (not_empty 45 (93 ∷ (w ++ r))) refl))
          (λ none. never o c k w none.1)
          (by_next o c k w (g == 93) after.Item after.Foreign plain)

  escape_item : (n : ℕ) (z : Text) → Plain o c k after.ClassBackslash z → ((u : Text) → length u ≤ length z → Plain o c k after.Range u → ItemsAreRead n u) → ItemsAreRead (suc n) (92 ∷ z)
  unfolding ItemsAreRead
  escape_item n [] plain more = absurd (true≢false (sym plain.0))
  escape_item n (e ∷ y) plain more =
      let (escaped, rest) = class_escape_next o c k e y plain in
      escape_then n (length (92 ∷ e ∷ y)) e (y ++ r) escaped (range_front y rest)
      (longer (length y) (length (92 ∷ e ∷ y)) (set_items default_config n (y ++ r)) (omega arith) (more y (omega arith) rest))

  items_are_read : (n : ℕ) (u : Text) → length u < n → Plain o c k after.Range u → ItemsAreRead n u
  unfolding next ItemsAreRead
  items_are_read zero u short plain = absurd (omega (arith, short))
  items_are_read (suc n) [] short plain = absurd (true≢false (sym plain.0))
  items_are_read (suc n) (b ∷ z) short plain = ⊎_elim
      (λ hyphen. subst (λ b. ItemsAreRead (suc n) (b ∷ z)) (sym (eqb-true b 45 hyphen.0)) (hyphen_next z (λ u le more. items_are_read n u (omega (arith, short, le)) more) hyphen.1))
      (λ other. ⊎_elim
      (λ shut. subst (λ b. ItemsAreRead (suc n) (b ∷ z)) (sym (eqb-true b 93 shut.0)) (closed n z shut.1))
      (λ opens. ⊎_elim
      (λ one. member_item n b z one.0 (member_goes_on b z one.1) (λ u le more. items_are_read n u (omega (arith, short, le)) more))
      (λ slash. subst (λ b. ItemsAreRead (suc n) (b ∷ z)) (sym slash.0) (escape_item n z slash.1 (λ u le more. items_are_read n u (omega (arith, short, le)) more)))
      (member_next o c k b z opens.1))
      (by_next o c k z (b == 93) after.Item (member_or_escape b) other.1))
      (by_next o c k z (b == 45) after.LastHyphen (in_class b) plain)
    where
      hyphen_next : (z : Text) → ((u : Text) → length u ≤ length z → Plain o c k after.Range u → ItemsAreRead n u) → Plain o c k after.LastHyphen z → ItemsAreRead (suc n) (45 ∷ z)
      hyphen_next [] more plain = absurd (true≢false (sym plain.0))
      hyphen_next (e ∷ y) more plain = ⊎_elim
          (λ shut. subst (λ e. ItemsAreRead (suc n) (45 ∷ e ∷ y)) (sym (eqb-true e 93 shut.0))
          (hyphen_then n (length (45 ∷ 93 ∷ y)) (y ++ r)
          (longer (length (93 ∷ y)) (length (45 ∷ 93 ∷ y)) (set_items default_config n (93 ∷ (y ++ r))) (omega arith) (more (93 ∷ y) (omega arith) shut.1))))
          (λ none. never o c k y none.1)
          (by_next o c k y (e == 93) after.Item after.Foreign plain)

  -- ---- the front of a class

  -- a caret is read, and a hyphen that is a member
  record Front (z : Text) : Type 0 where
    negated : Bool
    leading : Text
    inside : Text
    is : bracket_start default_config (z ++ r) ≡ (negated, leading, inside ++ r)
    leads : (leading ≡ []) ⊎ (leading ≡ 45 ∷ [])
    plain : Plain o c k after.Range inside
    short : length inside ≤ length z

  -- a byte that an item begins with
  record BeginsItem (b : ℕ) : Type 0 where
    negates : (b == 94) ≡ false
    hyphen : (b == 45) ≡ false
    closes : (b == 93) ≡ false

  begins_item : (b : ℕ) (x : Text) → Plain o c k (member_or_escape b) x → BeginsItem b
  begins_item b x plain = ⊎_elim
      (λ one. record { negates = one.0.negates; hyphen = one.0.hyphen; closes = one.0.closes })
      (λ slash. subst BeginsItem (sym slash.0) (record { negates = refl; hyphen = refl; closes = refl }))
      (member_next o c k b x plain)

  -- what comes after the caret, if there is one
  data FirstItem : Text → Type 0 where
    by_member : (b : ℕ) (x : Text) → BeginsItem b → Plain o c k after.Range (b ∷ x) → FirstItem (b ∷ x)
    by_hyphen : (e : ℕ) (x : Text) → (e == 45) ≡ false → Plain o c k after.Range (e ∷ x) → FirstItem (45 ∷ e ∷ x)

  no_hyphen_in : (e : ℕ) (x : Text) → Plain o c k (in_class e) x → (e == 45) ≡ false
  no_hyphen_in e x plain = ⊎_elim
      (λ shut. ap (λ e. e == 45) (eqb-true e 93 shut.0))
      (λ opens. (begins_item e x opens.1).hyphen)
      (by_next o c k x (e == 93) after.Item (member_or_escape e) plain)

  first_hyphen : (y : Text) → Plain o c k after.FirstHyphen y → FirstItem (45 ∷ y)
  unfolding next
  first_hyphen [] plain = absurd (true≢false (sym plain.0))
  first_hyphen (e ∷ x) plain = let no_hyphen = no_hyphen_in e x plain in by_hyphen e x no_hyphen (ranged e x no_hyphen plain)

  first_item : (b : ℕ) (x : Text) → Plain o c k (first_in_class b) x → FirstItem (b ∷ x)
  unfolding next
  first_item b x plain = ⊎_elim
      (λ hyphen. subst (λ b. FirstItem (b ∷ x)) (sym (eqb-true b 45 hyphen.0)) (first_hyphen x hyphen.1))
      (λ other. let one = begins_item b x other.1 in by_member b x one (ranged b x one.hyphen (subst (λ shut. Plain o c k (if shut then after.Item else member_or_escape b) x) (sym one.closes) other.1)))
      (by_next o c k x (b == 45) after.FirstHyphen (member_or_escape b) plain)

  front : (y : Text) → FirstItem y → Front y
  unfolding grammar
  front y (by_member b x one plain) = record {
    negated = false;
    leading = [];
    inside = b ∷ x;
    is = rw (one.negates, one.hyphen, one.closes) refl;
    leads = inl refl;
    plain = plain;
    short = omega arith;
  }
  front y (by_hyphen e x other plain) = record {
    negated = false;
    leading = 45 ∷ [];
    inside = e ∷ x;
    is = rw other refl;
    leads = inr refl;
    plain = plain;
    short = omega arith;
  }

  negated_front : (y : Text) → FirstItem y → Front (94 ∷ y)
  unfolding grammar
  negated_front y (by_member b x one plain) = record {
    negated = true;
    leading = [];
    inside = b ∷ x;
    is = rw (one.hyphen, one.closes) refl;
    leads = inl refl;
    plain = plain;
    short = omega arith;
  }
  negated_front y (by_hyphen e x other plain) = record {
    negated = true;
    leading = 45 ∷ [];
    inside = e ∷ x;
    is = rw other refl;
    leads = inr refl;
    plain = plain;
    short = omega arith;
  }

  class_front : (z : Text) → Plain o c k after.Bracket z → Front z
  unfolding next
  class_front [] plain = absurd (true≢false (sym plain.0))
  class_front (b ∷ y) plain = ⊎_elim
      (λ caret. subst (λ b. Front (b ∷ y)) (sym (eqb-true b 94 caret.0)) (after_caret y caret.1))
      (λ other. front (b ∷ y) (first_item b y other.1))
      (by_next o c k y (b == 94) after.Caret (first_in_class b) plain)
    where
      after_caret : (y : Text) → Plain o c k after.Caret y → Front (94 ∷ y)
      after_caret [] plain = absurd (true≢false (sym plain.0))
      after_caret (b ∷ x) plain = negated_front (b ∷ x) (first_item b x plain)

  -- ---- a class

  leading_parts : Text → List (Nested Set)
  leading_parts leading = map (λ b. flat (λ d. d == b)) leading

  united : (leading : Text) (parts : List (Nested Set)) → (leading ≡ []) ⊎ (leading ≡ 45 ∷ []) → deepest parts ≤ 0 → (union (leading_parts leading ++ parts)).depth ≤ 1
  unfolding leading_parts
  united leading parts leads shallow = ⊎_elim
      (λ none. subst (λ leading. (union (leading_parts leading ++ parts)).depth ≤ 1) (sym none) (omega (arith, shallow, at_most_one (nat_lt 1 (length parts)))))
      (λ one. subst (λ leading. (union (leading_parts leading ++ parts)).depth ≤ 1) (sym one) (omega (arith, shallow, at_most_one (nat_lt 1 (suc (length parts))))))
      leads

  -- what becomes of the parts of a class
  abbrev closed_class : Bool → Nested Set × Text → Option (Nested Set × Text)
  closed_class negated read = negate_if default_config negated (case_fold default_config read.0.value) >>= λ set. Some (record { value = set; depth = read.0.depth + 1 }, read.1)

  abbrev class_atom : Nested Set × Text → Option (Nested Re × Text)
  class_atom read = Some (record { value = one_of default_config read.0.value; depth = read.0.depth }, read.1)

  class_of : (m most : ℕ) (negated : Bool) (leading : Text) (found : Option (List (Nested Set) × Text)) → (leading ≡ []) ⊎ (leading ≡ 45 ∷ []) → IsSomeAnd found (Items most)
      → IsSomeAnd ((unite (leading_parts leading) found >>= λ (left, more). operations default_config (suc m) left more >>= closed_class negated) >>= class_atom) (AtomRead r o c k most)
  unfolding grammar Items
  class_of m most negated leading None leads h = absurd h
  class_of m most negated leading (Some (parts, t)) leads h = rw h.1.is (record {
    shallow = omega (arith, united leading parts leads h.0);
    light = refl;
    rest = h.1.rest;
    is = refl;
    plain = h.1.plain;
    short = omega (arith, h.1.short);
  })

  enough : (n : ℕ) → 2 * suc n + 1 ≡ suc (suc (suc (2 * n)))
  enough n = omega arith

  pub class_is_read : (z : Text) → Plain o c k after.Bracket z → IsSomeAnd (atom default_config (91 ∷ (z ++ r))) (AtomRead r o c k (length z))
  unfolding grammar leading_parts ItemsAreRead
  class_is_read z plain =
      let start = class_front z plain in
      let size = 2 * length (z ++ r) in
      rw (enough (length (z ++ r)), start.is)
      (class_of (suc size) (length z) start.negated start.leading (set_items default_config (suc (suc size)) (start.inside ++ r)) start.leads
      (longer (length start.inside) (length z) (set_items default_config (suc (suc size)) (start.inside ++ r)) start.short
      (items_are_read (suc (suc size)) start.inside (omega (arith, start.short, length-append z r)) start.plain)))
