-- The grammar of `regex` reads plain patterns, by themselves and anchored.
use Rattle.std.proofs.Common.{◌≡◌, ℕ, zero, suc, ◌+◌, ◌-◌, ◌*◌, ◌^◌, ◌<◌, ◌≤◌, Bool, true, false, not, ◌||◌, ◌==◌, if◌then◌else◌, List, [], ◌∷◌, ◌++◌, length, drop, Option, Some, None, IsSomeAnd, chars, codes, refl, sym, ap, ◌∙◌, append-nil, length-append, le-mul_of_pos_right, map, mul-le-mul_right, subst, ⊎_elim, arith, nat_lt, true≢false}
use Rattle.std.proofs.lemmas.Bool.{eqb-true, lt-ltb, or_cases, or_right}
use Rattle.std.proofs.lemmas.List.{length_push}
use Rattle.std.proofs.lemmas.Str.{chars-IsAscii, IsAscii-append}
use Rattle.std.proofs.lemmas.Str.Ascii.{IsAscii-cons, IsAscii-nil}
use Rattle.std.specs.Str.{IsAscii}
use Rattle.regex_syntax.proofs.Written.{grammar}
use Rattle.regex_syntax.specs.Brackets.{Nested, deepest}
use Rattle.regex_syntax.specs.Grammar.{Place, Names, atom, branches, item, items, join_parts, read, repetitions, with_repetitions}
use Rattle.regex_syntax.specs.Reading.{◌>>=◌, ◌>>◌, ◌∈◌, first, is_at, is_empty, skip}
use Rattle.regex.specs.Patterns.{Re, alt_all, cat_all, default_config, group as in_group}
use Rattle.promql_text.specs.Texts.{Text}
use Rattle.promql_label.specs.Answers.{anchor, is_read}
use Rattle.promql_label.specs.EngineAnswers.{IsReadPair}
use Rattle.promql_label.specs.declared.plain.After.TheVariants as after
use Rattle.promql_label.specs.PatternSize.{repeats_from, size, weight}
use Rattle.promql_label.specs.PlainPatterns.{is_plain, next, start}
use Rattle.promql_label.proofs.pattern_weight.PatternSizes.{some_repeats}
use Rattle.promql_label.proofs.pattern_weight.PatternWeights.{Within, alt_weighs, cat_weighs, total, within_more, within_nothing, within_one, within_repeated, within_then}
use Rattle.promql_label.proofs.regex_answers.Reading.{read_within_limit}
use Rattle.promql_label.proofs.plain_patterns.PlainAtoms.{AtomRead, atom_up_to, byte_is_read, escape_is_read, not_empty}
use Rattle.promql_label.proofs.plain_patterns.PlainClasses.{at_most_one, class_is_read}
use Rattle.promql_label.proofs.plain_patterns.PlainRepetitions.{AfterItem, end_of_pattern, ends_pattern, repetition_is_read}
use Rattle.promql_label.proofs.plain_patterns.PlainScans.{Begins, group, close, branch, class, escape, byte, Plain, scan_at, close_next, colon_next, escaped_next, group_goes_on, plain_ascii, start_begins, turned}

then_some : {A B : Type 0} (o : Option A) (P : A → Type 0) (f : A → Option B) (Q : B → Type 0)
    → IsSomeAnd o P → ((a : A) → P a → IsSomeAnd (f a) Q) → IsSomeAnd (o >>= f) Q
then_some None P f Q h next = absurd h
then_some (Some a) P f Q h next = next a h

abbrev place : Names → Text → Place
place names t = record { config = default_config; names = names; text = t }

-- this text is left
abbrev IsLeft : Text → Place → Type 0
IsLeft t p = (names : Names) × (p ≡ place names t)

-- ---- counts of groups

-- each group that is closed was opened, there are few of them, and no more names
record Counted (opened closed : ℕ) (names : Names) : Type 0 where
  balanced : closed ≤ opened
  few : opened ≤ 50
  named : length names ≤ opened + 1

-- how deep the items are nested from a place on, after so many groups: each more makes four levels
abbrev depth_after : ℕ → ℕ
depth_after opened = 4 * (50 - opened) + 3

-- ---- places

-- a place before the rest of a plain pattern and r: what weighs w was read with some of all bytes
record Goes (r : Text) (stops : Text → Bool) (opened closed f most all w : ℕ) (p : Place) : Type 0 where
  now_opened : ℕ
  now_closed : ℕ
  left : ℕ
  used : ℕ
  names : Names
  rest : Text
  is : p ≡ place names (rest ++ r)
  counted : Counted now_opened now_closed names
  grows : opened ≤ now_opened
  balance : now_opened + closed ≡ opened + now_closed
  plain : Plain now_opened now_closed left after.Start rest
  short : length rest ≤ most
  spent : used + length rest ≤ all
  weighs : Within w used f left
  stop : stops rest ≡ true

abbrev anywhere : Text → Bool
anywhere t = true

-- what comes after a branch: the end, `|` or `)`
abbrev ends_branch : Text → Bool
ends_branch r = is_empty r || is_at "|)" r

-- the same of what begins with something else, which was read before it
moved : (r : Text) (stops : Text → Bool) (o c o' c' f g most more all n used v w : ℕ) (p : Place) → o ≤ o' → o' + c ≡ o + c' → most ≤ more → used + all ≤ n → Within v used f g
    → Goes r stops o' c' g most all w p → Goes r stops o c f more n (v + w) p
moved r stops o c o' c' f g most more all n used v w p grows balance le enough before h = record {
  now_opened = h.now_opened;
  now_closed = h.now_closed;
  left = h.left;
  used = used + h.used;
  names = h.names;
  rest = h.rest;
  is = h.is;
  counted = h.counted;
  grows = omega (arith, grows, h.grows);
  balance = omega (arith, balance, h.balance);
  plain = h.plain;
  short = omega (arith, le, h.short);
  spent = omega (arith, enough, h.spent);
  weighs = within_then v used w h.used f g h.left before h.weighs;
  stop = h.stop;
}

weighs_as : (r : Text) (stops : Text → Bool) (o c f most all v w : ℕ) (p : Place) → v ≡ w → Goes r stops o c f most all v p → Goes r stops o c f most all w p
weighs_as r stops o c f most all v w p is h = subst (λ w. Goes r stops o c f most all w p) is h

-- ---- items

-- an item, and the items after it
item_then : (n : ℕ) (names : Names) (b depth : ℕ) (t : Text) (P Q : ℕ → Place → Type 0) → (b ∈ "|)") ≡ false
    → IsSomeAnd (item (λ inside. join_parts alt_all (branches n inside)) (place names (b ∷ t))) (λ (part, after). (part.depth ≤ depth) × P (weight part.value) after)
    → ((w : ℕ) (after : Place) → P w after → IsSomeAnd (items n after) (λ (parts, rest). (deepest parts ≤ depth) × Q (w + total parts) rest))
    → IsSomeAnd (items (suc n) (place names (b ∷ t))) (λ (parts, rest). (deepest parts ≤ depth) × Q (total parts) rest)
unfolding grammar total
item_then n names b depth t P Q goes_on one more = rw (goes_on, not_empty b t)
    (then_some (item (λ inside. join_parts alt_all (branches n inside)) (place names (b ∷ t))) _ _ (λ (parts, rest). (deepest parts ≤ depth) × Q (total parts) rest) one
    (λ (part, after) h.
    then_some (items n after) (λ (parts, rest). (deepest parts ≤ depth) × Q (weight part.value + total parts) rest) _ (λ (parts, rest). (deepest parts ≤ depth) × Q (total parts) rest) (more (weight part.value) after h.1)
    (λ (parts, rest) h'. (omega (arith, h.0, h'.0), h'.1))))

pattern_end_no_bar : (r : Text) → ends_pattern r ≡ true → is_at "|" r ≡ false
unfolding grammar
pattern_end_no_bar = end_of_pattern (λ r. is_at "|" r ≡ false) refl (λ z. refl)

pattern_end_ends_branch : (r : Text) → ends_pattern r ≡ true → ends_branch r ≡ true
unfolding grammar
pattern_end_ends_branch = end_of_pattern (λ r. ends_branch r ≡ true) refl (λ z. or_right (is_empty (41 ∷ z)) true refl)

one_more : (n : ℕ) → n + 1 ≡ suc n
one_more n = omega arith

-- parts that are joined are nested one deeper at most, and weigh as much
joined : (f : List Re → Re) (g : ℕ → ℕ) → ((parts : List (Nested Re)) → weight (f (map (λ part. part.value) parts)) ≡ g (total parts))
    → (o : Option (List (Nested Re) × Place)) (depth : ℕ) (Q R : ℕ → Place → Type 0) → ((w : ℕ) (p : Place) → Q w p → R (g w) p)
    → IsSomeAnd o (λ (parts, rest). (deepest parts ≤ depth) × Q (total parts) rest)
    → IsSomeAnd (join_parts f o) (λ (whole, rest). (whole.depth ≤ depth + 1) × R (weight whole.value) rest)
unfolding join_parts
joined f g same None depth Q R step h = absurd h
joined f g same (Some (parts, rest)) depth Q R step h = (
  omega (arith, h.0, at_most_one (nat_lt 1 (length parts))),
  subst (λ w. R w rest) (sym (same parts)) (step (total parts) rest h.1),
)

module _ (r : Text) (ends : ends_pattern r ≡ true) where
  -- an item is read, nested no deeper than so, before a shorter text
  abbrev ItemRead : ℕ → ℕ → ℕ → ℕ → Nested Re × Place → Type 0
  ItemRead o c f most read = (read.0.depth ≤ depth_after o) × Goes r anywhere o c f most (suc most) (weight read.0.value) read.1

  -- branches that are joined: the end of them weighs 1
  Inside : ℕ → ℕ → ℕ → ℕ → ℕ → Place → Type 0
  Inside o c f most weighs p = (w : ℕ) × (weighs ≡ w + 1) × Goes r ends_pattern o c f most most w p

  -- the rest of an item that is read up to this text, with so many bytes
  repeated_item : (o c f g most used : ℕ) (names : Names) (sub : Nested Re) (y : Text) → Counted o c names → Plain o c g after.Item y → length y ≤ most → used + length y ≤ suc most
      → Within (weight sub.value) used f g
      → IsSomeAnd (with_repetitions sub (place names (y ++ r))) (λ (whole, p). (whole.depth ≤ sub.depth + 1) × Goes r anywhere o c f most (suc most) (weight whole.value) p)
  unfolding grammar
  repeated_item o c f g most used names sub y counted plain short spent before = rw (one_more (length (y ++ r)))
      (then_some (repetitions default_config (suc (length (y ++ r))) sub (y ++ r)) (λ (whole, t). (whole.depth ≤ sub.depth + 1) × AfterItem r ends o c g (length y) sub.value whole.value t) _
      (λ (whole, p). (whole.depth ≤ sub.depth + 1) × Goes r anywhere o c f most (suc most) (weight whole.value) p)
      (repetition_is_read r ends o c g sub y plain)
      (λ (whole, t) h. (
        h.0,
        record {
          now_opened = o;
          now_closed = c;
          left = h.1.left;
          used = used;
          names = names;
          rest = h.1.rest;
          is = ap (place names) h.1.is;
          counted = counted;
          grows = omega arith;
          balance = omega arith;
          plain = h.1.plain;
          short = omega (arith, short, h.1.short);
          spent = omega (arith, spent, h.1.short);
          weighs = within_repeated (weight sub.value) (weight whole.value) used f g h.1.left before h.1.weighs h.1.falls;
          stop = refl;
        },
      )))

  deep_enough : (o c f most : ℕ) (sub : Nested Re) → sub.depth ≤ 2 → (made : Option (Nested Re × Place))
      → IsSomeAnd made (λ (whole, p). (whole.depth ≤ sub.depth + 1) × Goes r anywhere o c f most (suc most) (weight whole.value) p) → IsSomeAnd made (ItemRead o c f most)
  deep_enough o c f most sub shallow None h = absurd h
  deep_enough o c f most sub shallow (Some (whole, p)) h = (omega (arith, shallow, h.0), h.1)

  -- an item that is no group
  atom_item : (inner : Place → Option (Nested Re × Place)) (o c f most : ℕ) (names : Names) (b : ℕ) (t : Text) → Counted o c names → (b == 40) ≡ false
      → IsSomeAnd (atom default_config (b ∷ t)) (AtomRead r o c f most) → IsSomeAnd (item inner (place names (b ∷ t))) (ItemRead o c f most)
  unfolding item first
  atom_item inner o c f most names b t counted no_group read = rw no_group
      (then_some (atom default_config (b ∷ t)) (AtomRead r o c f most) _ (ItemRead o c f most) read
      (λ (sub, rest) h. rw h.is
      (deep_enough o c f most sub h.shallow (with_repetitions sub (place names (h.rest ++ r)))
      (repeated_item o c f f most 1 names sub h.rest counted h.plain h.short (omega (arith, h.short)) (within_one (weight sub.value) f h.light)))))

  -- ---- groups

  -- a group that is closed before this text, under its repetition
  closed_group : (o c o' c' f g most used : ℕ) (names : Names) (whole : Nested Re) (y : Text) → o < 50 → o + 1 ≤ o' → o' + c ≡ o + 1 + c' → c' < o' → Counted o' c' names
      → whole.depth ≤ depth_after (o + 1) + 3 → Plain o' (c' + 1) g after.Item y → length y ≤ most → used + length y ≤ suc most → Within (weight whole.value) used f g
      → IsSomeAnd (with_repetitions whole (place names (y ++ r))) (ItemRead o c f most)
  closed_group o c o' c' f g most used names whole y few grows balance some counted shallow plain short spent before =
      go (with_repetitions whole (place names (y ++ r)))
      (repeated_item o' (c' + 1) f g most used names whole y (record { balanced = omega (arith, some); few = counted.few; named = counted.named }) plain short spent before)
    where
      go : (made : Option (Nested Re × Place)) → IsSomeAnd made (λ (all, p). (all.depth ≤ whole.depth + 1) × Goes r anywhere o' (c' + 1) f most (suc most) (weight all.value) p) → IsSomeAnd made (ItemRead o c f most)
      go None h = absurd h
      go (Some (all, p)) h = (
        omega (arith, few, shallow, h.0),
        weighs_as r anywhere o c f most (suc most) (0 + weight all.value) (weight all.value) p (omega arith)
            (moved r anywhere o c o' (c' + 1) f f most most (suc most) (suc most) 0 0 (weight all.value) p (omega (arith, grows)) (omega (arith, balance)) (omega arith) (omega arith) (within_nothing f) h.1),
      )

  -- a group after what is inside it
  after_inside : (o c f most : ℕ) (make : Re → Re) (sub : Nested Re) (p : Place) → ((re : Re) → weight (make re) ≡ weight re) → o < 50 → c ≤ o → sub.depth ≤ depth_after (o + 1) + 1 + 1
      → Inside (o + 1) c f most (weight sub.value) p
      → IsSomeAnd (is_at ")" p.text >> with_repetitions (record { value = make sub.value; depth = sub.depth + 1 }) (record p { config = default_config; text = drop 1 p.text })) (ItemRead o c f most)
  unfolding first Inside
  after_inside o c f most make sub p alike few balanced shallow (w, weighs, h) = rw h.is (end_of_pattern AtEnd unclosed closes h.rest h.stop h.plain h.short h.spent)
    where
      whole : Nested Re
      whole = record { value = make sub.value; depth = sub.depth + 1 }

      AtEnd : Text → Type 0
      AtEnd rest = Plain h.now_opened h.now_closed h.left after.Start rest → length rest ≤ most → h.used + length rest ≤ most
          → IsSomeAnd (is_at ")" (rest ++ r) >> with_repetitions whole (place h.names (drop 1 (rest ++ r)))) (ItemRead o c f most)

      unclosed : AtEnd []
      unclosed plain short spent = absurd (omega (arith, eqb-true h.now_opened h.now_closed plain.0, h.balance, balanced))

      closes : (y : Text) → AtEnd (41 ∷ y)
      closes y plain short spent =
          let (some, rest) = close_next h.now_opened h.now_closed h.left y plain in
          closed_group o c h.now_opened h.now_closed f h.left most (h.used + 1) h.names whole y few h.grows h.balance some h.counted (omega (arith, shallow)) rest (omega (arith, short)) (omega (arith, spent))
          (subst (λ v. Within v (h.used + 1) f h.left) (sym (alike sub.value ∙ weighs)) (within_more w h.used f h.left h.weighs))

  -- what a group has inside is read
  InnerReads : (Place → Option (Nested Re × Place)) → ℕ → Type 0
  InnerReads inner most = (o c f : ℕ) (names : Names) (u : Text) → Counted o c names → Plain o c f after.Start u → length u ≤ most
      → IsSomeAnd (inner (place names (u ++ r))) (λ (whole, p). (whole.depth ≤ depth_after o + 1 + 1) × Inside o c f most (weight whole.value) p)

  inside_group : (inner : Place → Option (Nested Re × Place)) (o c f most : ℕ) (names : Names) (make : Re → Re) (u : Text) → ((re : Re) → weight (make re) ≡ weight re) → InnerReads inner most → o < 50 → c ≤ o → Counted (o + 1) c names
      → Plain (o + 1) c f after.Start u → length u ≤ most
      → IsSomeAnd (inner (place names (u ++ r)) >>= λ (sub, end). is_at ")" end.text >> with_repetitions (record { value = make sub.value; depth = sub.depth + 1 }) (record end { config = default_config; text = drop 1 end.text })) (ItemRead o c f most)
  unfolding InnerReads
  inside_group inner o c f most names make u alike reads few balanced counted plain short =
      then_some (inner (place names (u ++ r))) (λ (whole, p). (whole.depth ≤ depth_after (o + 1) + 1 + 1) × Inside (o + 1) c f most (weight whole.value) p) _ (ItemRead o c f most)
      (reads (o + 1) c f names u counted plain short)
      (λ (sub, end) h. after_inside o c f most make sub end alike few balanced h.0 h.1)

  flag_group : (inner : Place → Option (Nested Re × Place)) (o c f : ℕ) (names : Names) (y : Text) → InnerReads inner (length (63 ∷ y)) → Counted o c names → o < 50 → Plain (o + 1) c f after.Question y
      → IsSomeAnd (item inner (place names (40 ∷ 63 ∷ (y ++ r)))) (ItemRead o c f (length (63 ∷ y)))
  unfolding grammar
  flag_group inner o c f names [] reads counted few plain = absurd (true≢false (sym plain.0))
  flag_group inner o c f names (d ∷ x) reads counted few plain =
      let (colon, inside) = colon_next (o + 1) c f d x plain in
      subst (λ d. IsSomeAnd (item inner (place names (40 ∷ 63 ∷ d ∷ (x ++ r)))) (ItemRead o c f (length (63 ∷ d ∷ x)))) (sym colon)
      (inside_group inner o c f (length (63 ∷ 58 ∷ x)) names (λ re. re) x (λ re. refl) reads few counted.balanced
      (record { balanced = omega (arith, counted.balanced); few = omega (arith, few); named = omega (arith, counted.named) }) inside (omega arith))

  capture_group : (inner : Place → Option (Nested Re × Place)) (o c f : ℕ) (names : Names) (e : ℕ) (y : Text) → InnerReads inner (length (e ∷ y)) → Counted o c names → o < 50 → (e == 63) ≡ false
      → Plain (o + 1) c f after.Start (e ∷ y) → IsSomeAnd (item inner (place names (40 ∷ e ∷ (y ++ r)))) (ItemRead o c f (length (e ∷ y)))
  unfolding grammar
  capture_group inner o c f names e y reads counted few no_flags plain =
      let small : nat_lt (length names) (2 ^ 32) ≡ true = lt-ltb (length names) (2 ^ 32) (omega (arith, counted.named, few)) in
      rw (turned e 63 no_flags, no_flags, small)
      (inside_group inner o c f (length (e ∷ y)) (names ++ None ∷ []) (in_group (length names)) (e ∷ y) (λ re. refl) reads few counted.balanced
      (record { balanced = omega (arith, counted.balanced); few = omega (arith, few); named = omega (arith, counted.named, length_push names None) }) plain (omega arith))

  group_item : (inner : Place → Option (Nested Re × Place)) (o c f : ℕ) (names : Names) (z : Text) → InnerReads inner (length z) → Counted o c names → o < 50 → Plain (o + 1) c f after.Paren z
      → IsSomeAnd (item inner (place names (40 ∷ (z ++ r)))) (ItemRead o c f (length z))
  group_item inner o c f names [] reads counted few plain = absurd (true≢false (sym plain.0))
  group_item inner o c f names (e ∷ y) reads counted few plain =
      let read : Group e = ⊎_elim
      (λ flags. subst Group (sym flags.0) (λ reads. flag_group inner o c f names y reads counted few flags.1))
      (λ none. λ reads. capture_group inner o c f names e y reads counted few none.0 none.1)
      (group_goes_on (o + 1) c f e y plain) in
      read reads
    where
      Group : ℕ → Type 0
      Group e = InnerReads inner (length (e ∷ y)) → IsSomeAnd (item inner (place names (40 ∷ e ∷ (y ++ r)))) (ItemRead o c f (length (e ∷ y)))

  -- ---- items and branches

  abbrev ItemsAreRead : ℕ → Type 0
  ItemsAreRead n = (o c f : ℕ) (names : Names) (u : Text) → Counted o c names → Plain o c f after.Start u → 2 * length u < n
      → IsSomeAnd (items n (place names (u ++ r))) (λ (parts, p). (deepest parts ≤ depth_after o) × Goes r ends_branch o c f (length u) (length u) (total parts) p)

  abbrev BranchesAreRead : ℕ → Type 0
  BranchesAreRead n = (o c f : ℕ) (names : Names) (u : Text) → Counted o c names → Plain o c f after.Start u → 2 * length u + 1 < n
      → IsSomeAnd (branches n (place names (u ++ r))) (λ (parts, p). (deepest parts ≤ depth_after o + 1) × Goes r ends_pattern o c f (length u) (length u) (total parts) p)

  -- parts that are read later, after what weighs v
  later : (stops : Text → Bool) (o c o' c' f g most more all n used v deep deeper : ℕ) → o ≤ o' → o' + c ≡ o + c' → most ≤ more → used + all ≤ n → Within v used f g → deep ≤ deeper
      → (made : Option (List (Nested Re) × Place))
      → IsSomeAnd made (λ (parts, p). (deepest parts ≤ deep) × Goes r stops o' c' g most all (total parts) p) → IsSomeAnd made (λ (parts, p). (deepest parts ≤ deeper) × Goes r stops o c f more n (v + total parts) p)
  later stops o c o' c' f g most more all n used v deep deeper grows balance le enough before less None h = absurd h
  later stops o c o' c' f g most more all n used v deep deeper grows balance le enough before less (Some (parts, p)) h =
      (omega (arith, less, h.0), moved r stops o c o' c' f g most more all n used v (total parts) p grows balance le enough before h.1)

  here : (stops : Text → Bool) (o c f : ℕ) (names : Names) (u : Text) → Counted o c names → Plain o c f after.Start u → stops u ≡ true → Goes r stops o c f (length u) (length u) 0 (place names (u ++ r))
  here stops o c f names u counted plain stop = record {
    now_opened = o;
    now_closed = c;
    left = f;
    used = 0;
    names = names;
    rest = u;
    is = refl;
    counted = counted;
    grows = omega arith;
    balance = refl;
    plain = plain;
    short = omega arith;
    spent = omega arith;
    weighs = within_nothing f;
    stop = stop;
  }

  items_end : (n o c f : ℕ) (names : Names) → Counted o c names → Plain o c f after.Start []
      → IsSomeAnd (items (suc n) (place names r)) (λ (parts, p). (deepest parts ≤ depth_after o) × Goes r ends_branch o c f 0 0 (total parts) p)
  unfolding items skip first total
  items_end n o c f names counted plain = rw (pattern_end_ends_branch r ends) (omega arith, here ends_branch o c f names [] counted plain refl)

  items_stop : (n o c f : ℕ) (names : Names) (b : ℕ) (z : Text) → Counted o c names → Plain o c f after.Start (b ∷ z) → (b ∈ "|)") ≡ true
      → IsSomeAnd (items (suc n) (place names (b ∷ (z ++ r)))) (λ (parts, p). (deepest parts ≤ depth_after o) × Goes r ends_branch o c f (length (b ∷ z)) (length (b ∷ z)) (total parts) p)
  unfolding items skip first total
  items_stop n o c f names b z counted plain stop =
      rw (not_empty b (z ++ r), stop) (omega arith, here ends_branch o c f names (b ∷ z) counted plain (or_right (is_empty (b ∷ z)) (b ∈ "|)") stop))

  item_and_more : (n o c f : ℕ) (names : Names) (b : ℕ) (z : Text) → (b ∈ "|)") ≡ false → 2 * length (b ∷ z) < suc n → ItemsAreRead n
      → IsSomeAnd (item (λ inside. join_parts alt_all (branches n inside)) (place names (b ∷ (z ++ r)))) (ItemRead o c f (length z))
      → IsSomeAnd (items (suc n) (place names (b ∷ (z ++ r)))) (λ (parts, p). (deepest parts ≤ depth_after o) × Goes r ends_branch o c f (length (b ∷ z)) (length (b ∷ z)) (total parts) p)
  item_and_more n o c f names b z goes_on short read one =
      item_then n names b (depth_after o) (z ++ r) (λ w p. Goes r anywhere o c f (length z) (suc (length z)) w p) (λ w p. Goes r ends_branch o c f (length (b ∷ z)) (length (b ∷ z)) w p) goes_on one
      (λ w after h. rw h.is
      (later ends_branch o c h.now_opened h.now_closed f h.left (length h.rest) (length (b ∷ z)) (length h.rest) (length (b ∷ z)) h.used w (depth_after h.now_opened) (depth_after o) h.grows h.balance
      (omega (arith, h.short)) (omega (arith, h.spent)) h.weighs (omega (arith, h.grows)) (items n (place h.names (h.rest ++ r)))
      (read h.now_opened h.now_closed h.left h.names h.rest h.counted h.plain (omega (arith, short, h.short)))))

  inside_of : (o c f most n w : ℕ) (p : Place) → n ≤ most → Goes r ends_pattern o c f n n w p → Inside o c f most (w + 1) p
  unfolding Inside
  inside_of o c f most n w p le h = (
    0 + w,
    omega arith,
    moved r ends_pattern o c o c f f n most n most 0 0 w p (omega arith) (omega arith) le (omega (arith, le)) (within_nothing f) h,
  )

  inner_reads : (n most : ℕ) → 2 * most + 1 < n → BranchesAreRead n → InnerReads (λ inside. join_parts alt_all (branches n inside)) most
  unfolding InnerReads
  inner_reads n most enough read o c f names u counted plain short =
      joined alt_all (λ w. w + 1) alt_weighs (branches n (place names (u ++ r))) (depth_after o + 1) (λ w p. Goes r ends_pattern o c f (length u) (length u) w p) (λ w p. Inside o c f most w p)
      (λ w p h. inside_of o c f most (length u) w p short h)
      (read o c f names u counted plain (omega (arith, enough, short)))

  after_backslash : (o c f : ℕ) (z : Text) → Plain o c f after.Backslash z → IsSomeAnd (atom default_config (92 ∷ (z ++ r))) (AtomRead r o c f (length z))
  after_backslash o c f [] plain = absurd (true≢false (sym plain.0))
  after_backslash o c f (e ∷ y) plain =
      let (one, rest) = escaped_next o c f e y plain in
      atom_up_to r o c f (length (e ∷ y)) y (atom default_config (92 ∷ e ∷ (y ++ r))) rest (omega arith) (escape_is_read e (y ++ r) one)

  items_from : (n : ℕ) → ItemsAreRead n → BranchesAreRead n → ItemsAreRead (suc n)
  items_from n read_items read_branches o c f names [] counted plain short = items_end n o c f names counted plain
  items_from n read_items read_branches o c f names (b ∷ z) counted plain short = by_begin (start_begins o c f b z plain)
    where
      Read : ℕ → Type 0
      Read b = IsSomeAnd (items (suc n) (place names (b ∷ (z ++ r)))) (λ (parts, p). (deepest parts ≤ depth_after o) × Goes r ends_branch o c f (length (b ∷ z)) (length (b ∷ z)) (total parts) p)

      more : (b : ℕ) → (b ∈ "|)") ≡ false → IsSomeAnd (item (λ inside. join_parts alt_all (branches n inside)) (place names (b ∷ (z ++ r)))) (ItemRead o c f (length z)) → Read b
      more b goes_on one = item_and_more n o c f names b z goes_on (omega (arith, short)) read_items one

      inner : InnerReads (λ inside. join_parts alt_all (branches n inside)) (length z)
      inner = inner_reads n (length z) (omega (arith, short)) read_branches

      by_begin : Begins o c f b z → Read b
      by_begin (group is few h) = subst Read (sym is) (more 40 refl (group_item (λ inside. join_parts alt_all (branches n inside)) o c f names z inner counted few h))
      by_begin (close is _ _) = items_stop n o c f names b z counted plain (ap (λ b. b ∈ "|)") is)
      by_begin (branch is _) = items_stop n o c f names b z counted plain (ap (λ b. b ∈ "|)") is)
      by_begin (class is h) = subst Read (sym is) (more 91 refl (atom_item (λ inside. join_parts alt_all (branches n inside)) o c f (length z) names 91 (z ++ r) counted refl (class_is_read r o c f z h)))
      by_begin (escape is h) = subst Read (sym is) (more 92 refl (atom_item (λ inside. join_parts alt_all (branches n inside)) o c f (length z) names 92 (z ++ r) counted refl (after_backslash o c f z h)))
      by_begin (byte one h) = more b one.ends (atom_item (λ inside. join_parts alt_all (branches n inside)) o c f (length z) names b (z ++ r) counted one.opens
          (atom_up_to r o c f (length z) z (atom default_config (b ∷ (z ++ r))) h (omega arith) (byte_is_read b (z ++ r) one)))

  -- what comes after a branch, where this text is left
  AfterBranch : ℕ → ℕ → ℕ → ℕ → ℕ → Names → Nested Re → Text → Type 0
  AfterBranch n o c f most names part t = IsSomeAnd
      (if not (is_at "|" t) then Some (part ∷ [], place names t)
      else (branches n (place names (drop 1 t)) >>= λ (others, rest). Some (part ∷ others, rest)))
      (λ (parts, p). (deepest parts ≤ depth_after o + 1) × Goes r ends_pattern o c f most most (total parts) p)

  last_branch : (n o c f most : ℕ) (names : Names) (part : Nested Re) (t : Text) → part.depth ≤ depth_after o + 1 → is_at "|" t ≡ false → Goes r ends_pattern o c f most most (weight part.value + 0) (place names t)
      → AfterBranch n o c f most names part t
  unfolding AfterBranch total
  last_branch n o c f most names part t shallow no_bar goes = rw no_bar (omega (arith, shallow), goes)

  one_more_branch : (n o c f most : ℕ) (names : Names) (part : Nested Re) (t : Text) → part.depth ≤ depth_after o + 1
      → IsSomeAnd (branches n (place names t)) (λ (parts, p). (deepest parts ≤ depth_after o + 1) × Goes r ends_pattern o c f most most (weight part.value + total parts) p) → AfterBranch n o c f most names part (124 ∷ t)
  unfolding AfterBranch first total
  one_more_branch n o c f most names part t shallow more =
      then_some (branches n (place names t)) (λ (parts, p). (deepest parts ≤ depth_after o + 1) × Goes r ends_pattern o c f most most (weight part.value + total parts) p) _
      (λ (parts, p). (deepest parts ≤ depth_after o + 1) × Goes r ends_pattern o c f most most (total parts) p) more
      (λ (others, rest) read. (omega (arith, shallow, read.0), read.1))

  bar_next : (o c f : ℕ) (z : Text) → Plain o c f after.Start (124 ∷ z) → Plain o c f after.Start z
  unfolding next
  bar_next o c f z h = h

  after_bar : (n o c f most : ℕ) (part : Nested Re) (p : Place) (y : Text) (h : Goes r ends_branch o c f most most (weight part.value) p) → 2 * most < n → part.depth ≤ depth_after o + 1 → BranchesAreRead n
      → length (124 ∷ y) ≤ most → h.used + length (124 ∷ y) ≤ most → Plain h.now_opened h.now_closed h.left after.Start y → AfterBranch n o c f most h.names part (124 ∷ (y ++ r))
  after_bar n o c f most part p y h enough shallow read short spent plain =
      one_more_branch n o c f most h.names part (y ++ r) shallow
      (later ends_pattern o c h.now_opened h.now_closed f h.left (length y) most (length y) most h.used (weight part.value) (depth_after h.now_opened + 1) (depth_after o + 1) h.grows h.balance
      (omega (arith, short)) (omega (arith, spent)) h.weighs (omega (arith, h.grows))
      (branches n (place h.names (y ++ r))) (read h.now_opened h.now_closed h.left h.names y h.counted plain (omega (arith, enough, short))))

  -- the last branch is left by what ends a pattern
  before_end : (n o c f most : ℕ) (part : Nested Re) (p : Place) (rest : Text) (h : Goes r ends_branch o c f most most (weight part.value) p) → part.depth ≤ depth_after o + 1 → is_at "|" (rest ++ r) ≡ false
      → length rest ≤ most → h.used + length rest ≤ most → Plain h.now_opened h.now_closed h.left after.Start rest → ends_pattern rest ≡ true → AfterBranch n o c f most h.names part (rest ++ r)
  before_end n o c f most part p rest h shallow no_bar short spent plain stop =
      last_branch n o c f most h.names part (rest ++ r) shallow no_bar
      (moved r ends_pattern o c h.now_opened h.now_closed f h.left (length rest) most (length rest) most h.used (weight part.value) 0 (place h.names (rest ++ r)) h.grows h.balance short spent h.weighs
      (here ends_pattern h.now_opened h.now_closed h.left h.names rest h.counted plain stop))

  other_branches : (n o c f most : ℕ) (part : Nested Re) (p : Place) → 2 * most < n → part.depth ≤ depth_after o + 1 → BranchesAreRead n → (h : Goes r ends_branch o c f most most (weight part.value) p)
      → AfterBranch n o c f most h.names part (h.rest ++ r)
  unfolding first
  other_branches n o c f most part p enough shallow read h = go h.rest h.plain h.short h.spent h.stop
    where
      Left : Text → ℕ → Type 0
      Left y b = Plain h.now_opened h.now_closed h.left after.Start (b ∷ y) → AfterBranch n o c f most h.names part (b ∷ (y ++ r))

      go : (rest : Text) → Plain h.now_opened h.now_closed h.left after.Start rest → length rest ≤ most → h.used + length rest ≤ most → ends_branch rest ≡ true → AfterBranch n o c f most h.names part (rest ++ r)
      go [] plain short spent stop = before_end n o c f most part p [] h shallow (pattern_end_no_bar r ends) short spent plain refl
      go (b ∷ y) plain short spent stop =
          let left : Left y b = ⊎_elim
          (λ bar. subst (Left y) (sym (eqb-true b 124 bar)) (λ plain. after_bar n o c f most part p y h enough shallow read short spent (bar_next h.now_opened h.now_closed h.left y plain)))
          (λ shut. subst (Left y) (sym (eqb-true b 41 shut)) (λ plain. before_end n o c f most part p (41 ∷ y) h shallow refl short spent plain (or_right (is_empty (41 ∷ y)) true refl)))
          (or_cases (b == 124) (b == 41) (subst (λ none. (none || b ∈ "|)") ≡ true) (not_empty b y) stop)) in
          left plain

  branches_from : (n : ℕ) → ItemsAreRead n → BranchesAreRead n → BranchesAreRead (suc n)
  unfolding branches AfterBranch
  branches_from n read_items read_branches o c f names u counted plain short =
      then_some (join_parts cat_all (items n (place names (u ++ r)))) (λ (part, p). (part.depth ≤ depth_after o + 1) × Goes r ends_branch o c f (length u) (length u) (weight part.value) p) _
      (λ (parts, p). (deepest parts ≤ depth_after o + 1) × Goes r ends_pattern o c f (length u) (length u) (total parts) p)
      (joined cat_all (λ w. w) cat_weighs (items n (place names (u ++ r))) (depth_after o) (λ w p. Goes r ends_branch o c f (length u) (length u) w p) (λ w p. Goes r ends_branch o c f (length u) (length u) w p) (λ w p h. h)
      (read_items o c f names u counted plain (omega (arith, short))))
      (λ (part, p) h. rw h.1.is (other_branches n o c f (length u) part p (omega (arith, short)) h.0 read_branches h.1))

  all_read : (n : ℕ) → ItemsAreRead n × BranchesAreRead n
  all_read zero = (λ o c f names u counted plain short. absurd (omega (arith, short)), λ o c f names u counted plain short. absurd (omega (arith, short)))
  all_read (suc n) = let before = all_read n in (items_from n before.0 before.1, branches_from n before.0 before.1)

  -- where a whole pattern ends, r is left
  whole_left : (f most all w : ℕ) (p : Place) → Goes r ends_pattern 0 0 f most all w p → IsLeft r p
  whole_left f most all w p h = (
    h.names,
    h.is ∙ ap (λ rest. place h.names (rest ++ r)) (end_of_pattern (λ rest. Plain h.now_opened h.now_closed h.left after.Start rest → rest ≡ []) (λ plain. refl)
        (λ y plain. absurd (omega (arith, (close_next h.now_opened h.now_closed h.left y plain).0, h.balance))) h.rest h.stop h.plain),
  )

  -- a whole pattern weighs as much as its bytes, so often
  whole_weighs : (f most weighs : ℕ) (p : Place) → Inside 0 0 f most weighs p → weighs ≤ (most + 1) * f
  unfolding Inside
  whole_weighs f most weighs p (w, is, h) =
      let some : 1 ≤ h.left = subst (λ n. 1 ≤ n) h.plain.1 (some_repeats (scan_at h.now_opened h.now_closed after.Start) h.rest) in
      let few : h.used ≤ most = omega (arith, h.spent) in
      omega (arith, is, some, h.weighs.bound, h.weighs.falls, le-mul_of_pos_right w some, mul-le-mul_right f few)

  pattern_is_read : (n : ℕ) (names : Names) (v : Text) → length names ≤ 1 → is_plain v ≡ true → 2 * length v + 1 < n
      → IsSomeAnd (join_parts alt_all (branches n (place names (v ++ r)))) (λ (whole, p). (whole.depth ≤ 205) × (weight whole.value ≤ (length v + 1) * repeats_from start v) × IsLeft r p)
  unfolding Inside
  pattern_is_read n names v named plain enough = ends_whole (join_parts alt_all (branches n (place names (v ++ r))))
      (joined alt_all (λ w. w + 1) alt_weighs (branches n (place names (v ++ r))) 204 (λ w p. Goes r ends_pattern 0 0 (repeats_from start v) (length v) (length v) w p) (λ w p. Inside 0 0 (repeats_from start v) (length v) w p)
      (λ w p h. inside_of 0 0 (repeats_from start v) (length v) (length v) w p (omega arith) h)
      ((all_read n).1 0 0 (repeats_from start v) names v (record { balanced = omega arith; few = omega arith; named = omega (arith, named) }) (plain, refl) enough))
    where
      ends_whole : (made : Option (Nested Re × Place)) → IsSomeAnd made (λ (whole, p). (whole.depth ≤ 205) × Inside 0 0 (repeats_from start v) (length v) (weight whole.value) p)
          → IsSomeAnd made (λ (whole, p). (whole.depth ≤ 205) × (weight whole.value ≤ (length v + 1) * repeats_from start v) × IsLeft r p)
      ends_whole None h = absurd h
      ends_whole (Some (whole, p)) (shallow, inside) = (
        shallow,
        whole_weighs (repeats_from start v) (length v) (weight whole.value) p inside,
        whole_left (repeats_from start v) (length v) (length v) inside.0 p inside.2,
      )

-- ---- a pattern by itself

-- a text is read, nested no deeper and no heavier than so
abbrev pub ReadWithin : ℕ → ℕ → Text → Type 0
ReadWithin depth heavy t = IsSomeAnd (read default_config (chars t)) (λ p. (p.0.depth ≤ depth) × (weight p.0.value ≤ heavy))

-- the same of its branches, which are read whole
AreReadWhole : ℕ → ℕ → Text → Type 0
AreReadWhole depth heavy t = IsSomeAnd (join_parts alt_all (branches (2 * length t + 2) (place (None ∷ []) t))) (λ (whole, p). (whole.depth ≤ depth) × ((weight whole.value ≤ heavy) × (p.text ≡ [])))

whole_is_read : (depth heavy : ℕ) (v : Text) → IsAscii v → AreReadWhole depth heavy v → ReadWithin depth heavy v
unfolding grammar AreReadWhole
whole_is_read depth heavy v ascii h =
    rw (chars-IsAscii v ascii)
    (then_some (join_parts alt_all (branches (2 * length v + 2) (place (None ∷ []) v))) (λ (whole, p). (whole.depth ≤ depth) × ((weight whole.value ≤ heavy) × (p.text ≡ []))) _ (λ p. (p.0.depth ≤ depth) × (weight p.0.value ≤ heavy)) h
    (λ (whole, end) read. rw read.1.1 (read.0, read.1.0)))

is_read_within : (depth heavy : ℕ) (v : Text) → depth ≤ default_config.nest_limit → ReadWithin depth heavy v → is_read v ≡ true
is_read_within depth heavy v shallow h = read_within_limit v (λ p. (p.0.depth ≤ depth) × (weight p.0.value ≤ heavy)) (λ p less. omega (arith, shallow, less.0)) h

text_left : (depth heavy : ℕ) (r : Text) (made : Option (Nested Re × Place)) → IsSomeAnd made (λ (whole, p). (whole.depth ≤ depth) × (weight whole.value ≤ heavy) × IsLeft r p)
    → IsSomeAnd made (λ (whole, p). (whole.depth ≤ depth) × ((weight whole.value ≤ heavy) × (p.text ≡ r)))
text_left depth heavy r None h = absurd h
text_left depth heavy r (Some (whole, p)) h = (h.0, (h.1, ap (λ (p : Place). p.text) h.2.1))

-- what a plain pattern weighs
abbrev heaviest : Text → ℕ
heaviest v = (length v + 1) * repeats_from start v

plain_within : (v : Text) → is_plain v ≡ true → ReadWithin 205 (heaviest v) v
unfolding AreReadWhole
plain_within v plain = whole_is_read 205 (heaviest v) v (plain_ascii _ v plain)
    (subst (λ t. IsSomeAnd (join_parts alt_all (branches (2 * length v + 2) (place (None ∷ []) t))) (λ (whole, p). (whole.depth ≤ 205) × ((weight whole.value ≤ heaviest v) × (p.text ≡ [])))) (append-nil v)
    (text_left 205 (heaviest v) [] (join_parts alt_all (branches (2 * length v + 2) (place (None ∷ []) (v ++ []))))
    (pattern_is_read [] refl (2 * length v + 2) (None ∷ []) v (omega arith) plain (omega arith))))

-- ---- an anchored pattern

-- the group of an anchored pattern
anchored_group : (inner : Place → Option (Nested Re × Place)) (names : Names) (v : Text) (heavy : ℕ)
    → IsSomeAnd (inner (place names (v ++ codes ")$"))) (λ (whole, p). (whole.depth ≤ 205) × (weight whole.value ≤ heavy) × IsLeft (codes ")$") p)
    → IsSomeAnd (item inner (place names (codes "(?:" ++ (v ++ codes ")$")))) (λ (part, after). (part.depth ≤ 206) × ((weight part.value ≤ heavy) × IsLeft (codes "$") after))
unfolding grammar
anchored_group inner names v heavy h =
    then_some (inner (place names (v ++ codes ")$"))) (λ (whole, p). (whole.depth ≤ 205) × (weight whole.value ≤ heavy) × IsLeft (codes ")$") p) _ (λ (part, after). (part.depth ≤ 206) × ((weight part.value ≤ heavy) × IsLeft (codes "$") after)) h
    (λ (whole, end) read. rw read.2.1 (omega (arith, read.0), (read.1, (read.2.0, refl))))

start_item : (inner : Place → Option (Nested Re × Place)) (names : Names) (t : Text)
    → IsSomeAnd (item inner (place names (codes "^(" ++ t))) (λ (part, after). (part.depth ≤ 206) × ((weight part.value ≤ 1) × (after ≡ place names (40 ∷ t))))
unfolding grammar
start_item inner names t = rw (one_more (suc (length t))) (omega arith, (omega arith, refl))

end_items : (n w heavy : ℕ) (names : Names) → w ≤ heavy → IsSomeAnd (items (suc (suc n)) (place names (codes "$"))) (λ (parts, p). (deepest parts ≤ 206) × ((w + total parts ≤ heavy + 1) × (p.text ≡ [])))
unfolding grammar total
end_items n w heavy names less = (omega arith, (omega (arith, less), refl))

-- items after what weighs no more than 1
one_before : (w heavy more : ℕ) (made : Option (List (Nested Re) × Place)) → heavy + 1 ≤ more → w ≤ 1 → IsSomeAnd made (λ (parts, p). (deepest parts ≤ 206) × ((total parts ≤ heavy) × (p.text ≡ [])))
    → IsSomeAnd made (λ (parts, p). (deepest parts ≤ 206) × ((w + total parts ≤ more) × (p.text ≡ [])))
one_before w heavy more None less light h = absurd h
one_before w heavy more (Some (parts, p)) less light h = (h.0, (omega (arith, less, light, h.1.0), h.1.1))

one_branch : (part : Nested Re) (heavy : ℕ) → weight part.value ≤ heavy → total (part ∷ []) ≤ heavy
unfolding total
one_branch part heavy less = omega (arith, less)

anchored_is_read : (n : ℕ) (v : Text) → is_plain v ≡ true → 2 * length v ≤ n
    → IsSomeAnd (join_parts alt_all (branches (suc (suc (suc (suc (suc n))))) (place (None ∷ []) (anchor v)))) (λ (whole, p). (whole.depth ≤ 208) × ((weight whole.value ≤ heaviest v + 3) × (p.text ≡ [])))
unfolding branches first
anchored_is_read n v plain enough =
    joined alt_all (λ w. w + 1) alt_weighs (branches (suc (suc (suc (suc (suc n))))) (place (None ∷ []) (anchor v))) 207 (λ w p. (w ≤ heaviest v + 2) × (p.text ≡ [])) (λ w p. (w ≤ heaviest v + 3) × (p.text ≡ []))
    (λ w p h. (omega (arith, h.0), h.1))
    (then_some (join_parts cat_all (items (suc (suc (suc (suc n)))) (place (None ∷ []) (anchor v)))) (λ (part, p). (part.depth ≤ 207) × ((weight part.value ≤ heaviest v + 2) × (p.text ≡ []))) _
    (λ (parts, p). (deepest parts ≤ 207) × ((total parts ≤ heaviest v + 2) × (p.text ≡ [])))
    (joined cat_all (λ w. w) cat_weighs (items (suc (suc (suc (suc n)))) (place (None ∷ []) (anchor v))) 206 (λ w p. (w ≤ heaviest v + 2) × (p.text ≡ [])) (λ w p. (w ≤ heaviest v + 2) × (p.text ≡ [])) (λ w p h. h) all_items)
    (λ (part, p) h. rw h.1.1 (omega (arith, h.0), (one_branch part (heaviest v + 2) h.1.0, refl))))
  where
    inside : Text
    inside = codes "?:" ++ (v ++ codes ")$")

    from_group : IsSomeAnd (items (suc (suc (suc n))) (place (None ∷ []) (40 ∷ inside))) (λ (parts, p). (deepest parts ≤ 206) × ((total parts ≤ heaviest v + 1) × (p.text ≡ [])))
    from_group = item_then (suc (suc n)) (None ∷ []) 40 206 inside (λ w after. (w ≤ heaviest v) × IsLeft (codes "$") after) (λ w p. (w ≤ heaviest v + 1) × (p.text ≡ [])) refl
        (anchored_group (λ inside. join_parts alt_all (branches (suc (suc n)) inside)) (None ∷ []) v (heaviest v)
        (pattern_is_read (codes ")$") refl (suc (suc n)) (None ∷ []) v (omega arith) plain (omega (arith, enough))))
        (λ w after (less, (left, is)). rw is (end_items n w (heaviest v) left less))

    all_items : IsSomeAnd (items (suc (suc (suc (suc n)))) (place (None ∷ []) (anchor v))) (λ (parts, p). (deepest parts ≤ 206) × ((total parts ≤ heaviest v + 2) × (p.text ≡ [])))
    all_items = item_then (suc (suc (suc n))) (None ∷ []) 94 206 (40 ∷ inside) (λ w after. (w ≤ 1) × (after ≡ place (None ∷ []) (40 ∷ inside))) (λ w p. (w ≤ heaviest v + 2) × (p.text ≡ [])) refl
        (start_item (λ inside. join_parts alt_all (branches (suc (suc (suc n))) inside)) (None ∷ []) inside)
        (λ w after (light, is). rw is (one_before w (heaviest v + 1) (heaviest v + 2) (items (suc (suc (suc n))) (place (None ∷ []) (40 ∷ inside))) (omega arith) light from_group))

anchored_ascii : (v : Text) → is_plain v ≡ true → IsAscii (anchor v)
anchored_ascii v plain = IsAscii-append (codes "^(?:") (v ++ codes ")$") ascii_front (IsAscii-append v (codes ")$") (plain_ascii _ v plain) ascii_end)
  where
    ascii_end : IsAscii (codes ")$")
    ascii_end = IsAscii-cons 41 (36 ∷ []) (omega arith) (IsAscii-cons 36 [] (omega arith) IsAscii-nil)

    ascii_front : IsAscii (codes "^(?:")
    ascii_front = IsAscii-cons 94 (codes "(?:") (omega arith) (IsAscii-cons 40 (codes "?:") (omega arith) (IsAscii-cons 63 (codes ":") (omega arith) (IsAscii-cons 58 [] (omega arith) IsAscii-nil)))

plain_within_anchored : (v : Text) → is_plain v ≡ true → ReadWithin 208 (heaviest v + 3) (anchor v)
unfolding AreReadWhole
plain_within_anchored v plain = whole_is_read 208 (heaviest v + 3) (anchor v) (anchored_ascii v plain)
    (subst (λ n. IsSomeAnd (join_parts alt_all (branches n (place (None ∷ []) (anchor v)))) (λ (whole, p). (whole.depth ≤ 208) × ((weight whole.value ≤ heaviest v + 3) × (p.text ≡ [])))) enough
    (anchored_is_read (2 * length v + 9) v plain (omega arith)))
  where
    longer : length (anchor v) ≡ length v + 6
    longer = omega (arith, length-append v (codes ")$"))

    enough : suc (suc (suc (suc (suc (2 * length v + 9))))) ≡ 2 * length (anchor v) + 2
    enough = omega (arith, longer)

pub plain_pair_is_read : (v : Text) → is_plain v ≡ true → IsReadPair v
plain_pair_is_read v plain = (
  is_read_within 205 (heaviest v) v (omega arith) (plain_within v plain),
  is_read_within 208 (heaviest v + 3) (anchor v) (omega arith) (plain_within_anchored v plain),
)

-- ---- sizes

lighter : (depth heavy n : ℕ) (t : Text) → heavy ≤ n → ReadWithin depth heavy t → IsSomeAnd (read default_config (chars t)) (λ p. weight p.0.value ≤ n)
lighter depth heavy n t less h = go (read default_config (chars t)) h
  where
    go : (o : Option (Nested Re × Names)) → IsSomeAnd o (λ p. (p.0.depth ≤ depth) × (weight p.0.value ≤ heavy)) → IsSomeAnd o (λ p. weight p.0.value ≤ n)
    go None h = absurd h
    go (Some p) h = omega (arith, less, h.1)

-- a plain pattern weighs no more than its size, by itself and anchored
pub plain_weighs : (v : Text) → is_plain v ≡ true → IsSomeAnd (read default_config (chars v)) (λ p. weight p.0.value ≤ size v)
plain_weighs v plain = lighter 205 (heaviest v) (size v) v (omega arith) (plain_within v plain)

pub plain_weighs_anchored : (v : Text) → is_plain v ≡ true → IsSomeAnd (read default_config (chars (anchor v))) (λ p. weight p.0.value ≤ size v)
plain_weighs_anchored v plain = lighter 208 (heaviest v + 3) (size v) (anchor v) (omega (arith, some_repeats start v)) (plain_within_anchored v plain)
