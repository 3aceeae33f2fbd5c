-- How many bytes the line of an enforced tree has: those of the tree's line, and what the matcher adds to each selector.
use Rattle.std.proofs.Common.{◌≡◌, ℕ, ◌+◌, refl, sym, ap, ◌∙◌, arith, Bool, true, false, Option, List, [], ◌∷◌, ◌++◌, length, length-append, map, codes}
use Rattle.std.specs.Prelude.{if◌then◌else◌, unwrap_or}
use Rattle.std.specs.List.{flat_map, list_any, sum_by}
use Rattle.std.proofs.lemmas.List.Sums.{sum_by-append, sum_by-cons}
use Rattle.promql_text.specs.PrintedLen.{cap_usize}
use Rattle.promql_text.specs.Texts.{Text, joined_text}
use Rattle.promql_label.specs.MatcherViews.{plain_matcher_of}
use Rattle.promql_label.specs.PlainMatchers.{PlainMatcher, PlainMatchers, plain_matchers, group_text, matcher_text, matchers_text}
use Rattle.promql_label.proofs.label_lists.LabelPrintedLen.{sorted_length}
use Rattle.promql_kind.specs.Functions.{name_of}
use Rattle.promql_kind.specs.Modifiers.{Clause, Matching}
use Rattle.promql_ast.specs.BlankMatchers.{is_blank}
use Rattle.promql_ast.specs.Same.{matcher_eq}
use Rattle.promql_ast.specs.Selectors.{Selector, selector}
use Rattle.promql_ast.specs.Shifts.{at_text, offset_text}
use Rattle.promql_ast.specs.Text.{text, maybe_text, texts}
use Rattle.promql_ast.specs.Tree.{Tree, aggregate, unary, binary, paren, subquery, number, string, vector, matrix, call, extension, MaybeTree, absent, present, Trees, no_trees, first_tree}
use Rattle.promql_ast.specs.node.Aggregate.{aggregate_text, head_text, param_text}
use Rattle.promql_ast.specs.node.Binary.{binary_text, operator_text}
use Rattle.promql_ast.specs.node.Call.{call_text}
use Rattle.promql_ast.specs.node.Matrix.{matrix_range_text}
use Rattle.promql_ast.specs.node.Subquery.{range_text}
use Rattle.promql_ast.specs.node.Vector.{base_text, with_braces}
use Rattle.promql_ast.proofs.normal_form.Blank.{braced_text}
use Rattle.promql_rewrite.specs.AddedBytes.{added_to_list, added_to_matchers, added_to_selector, adds_bytes, placed_bytes}
use Rattle.promql_rewrite.specs.Enforcing.{all_enforced, enforced, enforced_matchers, enforced_selector, maybe_enforced, with_matcher}
use Rattle.promql_rewrite.specs.MappedSelectors.{MapsAll, arg_selectors, kind_after, param_selectors, selectors_in}
use Rattle.promql_rewrite.specs.Mapping.{KindedSelector}
use Rattle.promql_rewrite.specs.declared.enforced_len.AddedBytes.{AddedBytes}
use Rattle.promql_rewrite.specs.declared.mapping.SelectorKind.{SelectorKind}
use Rattle.promql_rewrite.specs.declared.mapping.SelectorKind.TheVariants.{Series}

-- ---- sums, and texts of which parts are known

pub sum_mapped : {X Y : Type 0} (f : Y → ℕ) (h : X → Y) (xs : List X) → sum_by (λ x. f (h x)) xs ≡ sum_by f (map h xs)
sum_mapped f h [] = refl
sum_mapped f h (x ∷ xs) = sum_by-cons (λ y. f (h y)) x xs ∙ ap (λ n. f (h x) + n) (sum_mapped f h xs) ∙ sym (sum_by-cons f (h x) (map h xs))

abbrev after_each : Text → List Text → Text
after_each sep ts = flat_map (λ t. sep ++ t) ts

joined_bytes : (sep t : Text) (ts : List Text) → length (joined_text sep (t ∷ ts)) ≡ length t + length (after_each sep ts)
joined_bytes sep t ts = length-append t (after_each sep ts)

after_bytes : (sep t : Text) (ts : List Text) → length (after_each sep (t ∷ ts)) ≡ length sep + length t + length (after_each sep ts)
after_bytes sep t ts = omega (arith, length-append (sep ++ t) (after_each sep ts), length-append sep t)

aggregate_bytes : (op : ℕ) (e : Text) (p : Option Text) (m : Option Clause) → length (aggregate_text op e p m) ≡ length (head_text op m) + length (param_text p) + length e + 2
aggregate_bytes op e p m =
    omega (arith, length-append (head_text op m) (codes "(" ++ (param_text p ++ (e ++ codes ")"))), length-append (param_text p) (e ++ codes ")"), length-append e (codes ")"))

binary_bytes : (op : ℕ) (l r : Text) (m : Option Matching) → length (binary_text op l r m) ≡ length l + length (operator_text op m) + length r
binary_bytes op l r m = omega (arith, length-append l (operator_text op m ++ r), length-append (operator_text op m) r)

call_bytes : (name : Text) (ts : List Text) → length (call_text name ts) ≡ length name + length (joined_text (codes ", ") ts) + 2
call_bytes name ts =
    omega (arith, length-append name (codes "(" ++ (joined_text (codes ", ") ts ++ codes ")")), length-append (joined_text (codes ", ") ts) (codes ")"))

braced_bytes : (ms : PlainMatchers) → is_blank ms ≡ false → length (with_braces (matchers_text ms)) ≡ length (matchers_text ms) + 2
braced_bytes ms filled = omega (arith, ap length (braced_text ms filled), length-append (matchers_text ms) (codes "}"))

-- a matcher of so many bytes, to selectors
abbrev added : ℕ → PlainMatcher → List KindedSelector → ℕ
added bytes c = sum_by (λ (x : KindedSelector). added_to_selector bytes c x.1)

module _ (c : PlainMatcher) where
  abbrev len : ℕ
  len = length (matcher_text c)

  -- ---- one list

  after_more : (sep : Text) (ds : List PlainMatcher)
      → length (after_each sep (map matcher_text (ds ++ c ∷ []))) ≡ length (after_each sep (map matcher_text ds)) + length sep + len
  after_more sep [] = omega (arith, after_bytes sep (matcher_text c) [])
  after_more sep (d ∷ ds) =
      omega (arith, after_bytes sep (matcher_text d) (map matcher_text (ds ++ c ∷ [])), after_bytes sep (matcher_text d) (map matcher_text ds), after_more sep ds)

  joined_more : (sep : Text) (cs : List PlainMatcher)
      → length (joined_text sep (map matcher_text (cs ++ c ∷ []))) ≡ length (joined_text sep (map matcher_text cs)) + placed_bytes 0 (length sep) len cs
  joined_more sep [] = omega (arith, joined_bytes sep (matcher_text c) [])
  joined_more sep (d ∷ ds) =
      omega (arith, joined_bytes sep (matcher_text d) (map matcher_text (ds ++ c ∷ [])), joined_bytes sep (matcher_text d) (map matcher_text ds), after_more sep ds)

  -- what holds where it is added, and where an equal one is there
  listed : (bytes : List PlainMatcher → ℕ) (first after : ℕ) (cs : List PlainMatcher) → bytes (cs ++ c ∷ []) ≡ bytes cs + placed_bytes first after len cs
      → bytes (with_matcher c cs) ≡ bytes cs + added_to_list first after len c cs
  listed bytes first after cs more = go (list_any (matcher_eq c) cs)
    where
      go : (b : Bool) → bytes (if b then cs else cs ++ c ∷ []) ≡ bytes cs + (if b then 0 else placed_bytes first after len cs)
      go true = omega arith
      go false = more

  -- ---- lists in braces

  abbrev braced : PlainMatchers → ℕ
  braced ms = length (with_braces (matchers_text ms))

  plain_more : (cs : List PlainMatcher) → braced (plain_matchers (cs ++ c ∷ []) []) ≡ braced (plain_matchers cs []) + placed_bytes 2 1 len cs
  plain_more [] = omega (arith, braced_bytes (plain_matchers (c ∷ []) []) refl, joined_bytes (codes ",") (matcher_text c) [])
  plain_more (d ∷ ds) =
      omega (
        arith,
        braced_bytes (plain_matchers (d ∷ (ds ++ c ∷ [])) []) refl,
        braced_bytes (plain_matchers (d ∷ ds) []) refl,
        sorted_length (codes ",") (map matcher_text (d ∷ (ds ++ c ∷ []))),
        sorted_length (codes ",") (map matcher_text (d ∷ ds)),
        joined_more (codes ",") (d ∷ ds),
      )

  one_more : (cs g : List PlainMatcher) → braced (plain_matchers cs ((g ++ c ∷ []) ∷ [])) ≡ braced (plain_matchers cs (g ∷ [])) + placed_bytes 2 2 len g
  one_more cs [] =
      omega (arith, braced_bytes (plain_matchers cs ((c ∷ []) ∷ [])) refl, joined_bytes (codes " or ") (group_text (c ∷ [])) [], joined_bytes (codes ", ") (matcher_text c) [])
  one_more cs (d ∷ ds) =
      omega (
        arith,
        braced_bytes (plain_matchers cs ((d ∷ (ds ++ c ∷ [])) ∷ [])) refl,
        braced_bytes (plain_matchers cs ((d ∷ ds) ∷ [])) refl,
        joined_bytes (codes " or ") (group_text (d ∷ (ds ++ c ∷ []))) [],
        joined_bytes (codes " or ") (group_text (d ∷ ds)) [],
        joined_more (codes ", ") (d ∷ ds),
      )

  group_more : (g : List PlainMatcher) → length (group_text (with_matcher c g)) ≡ length (group_text g) + added_to_list 0 2 len c g
  group_more g = listed (λ g. length (group_text g)) 0 2 g (joined_more (codes ", ") g)

  groups_more : (gs : List (List PlainMatcher))
      → length (after_each (codes " or ") (map group_text (map (with_matcher c) gs))) ≡ length (after_each (codes " or ") (map group_text gs)) + sum_by (added_to_list 0 2 len c) gs
  groups_more [] = refl
  groups_more (g ∷ gs) =
      omega (
        arith,
        after_bytes (codes " or ") (group_text (with_matcher c g)) (map group_text (map (with_matcher c) gs)),
        after_bytes (codes " or ") (group_text g) (map group_text gs),
        group_more g,
        groups_more gs,
        sum_by-cons (added_to_list 0 2 len c) g gs,
      )

  braced_more : (ms : PlainMatchers) → braced (enforced_matchers c ms) ≡ braced ms + added_to_matchers len c ms
  braced_more (plain_matchers cs []) = listed (λ ds. braced (plain_matchers ds [])) 2 1 cs (plain_more cs)
  braced_more (plain_matchers cs (g ∷ [])) = listed (λ ds. braced (plain_matchers cs (ds ∷ []))) 2 2 g (one_more cs g)
  braced_more (plain_matchers cs (g ∷ h ∷ gs)) =
      omega (
        arith,
        braced_bytes (enforced_matchers c (plain_matchers cs (g ∷ h ∷ gs))) refl,
        braced_bytes (plain_matchers cs (g ∷ h ∷ gs)) refl,
        joined_bytes (codes " or ") (group_text (with_matcher c g)) (map group_text (map (with_matcher c) (h ∷ gs))),
        joined_bytes (codes " or ") (group_text g) (map group_text (h ∷ gs)),
        group_more g,
        groups_more (h ∷ gs),
        sum_by-cons (added_to_list 0 2 len c) g (h ∷ gs),
      )

  -- ---- trees

  base_more : (s : Selector) (rest : Text) → length (base_text (enforced_selector c s) ++ rest) ≡ length (base_text s ++ rest) + added_to_selector len c s
  base_more (selector name ms offset at) rest =
      omega (
        arith,
        braced_more ms,
        length-append (unwrap_or name [] ++ with_braces (matchers_text (enforced_matchers c ms))) rest,
        length-append (unwrap_or name [] ++ with_braces (matchers_text ms)) rest,
        length-append (unwrap_or name []) (with_braces (matchers_text (enforced_matchers c ms))),
        length-append (unwrap_or name []) (with_braces (matchers_text ms)),
      )

  mutual
    pub line_more : (k : SelectorKind) (t : Tree) → length (text (enforced c t)) ≡ length (text t) + added len c (selectors_in k t)
    line_more k (aggregate op e p m) =
        omega (
          arith,
          aggregate_bytes op (text (enforced c e)) (maybe_text (maybe_enforced c p)) m,
          aggregate_bytes op (text e) (maybe_text p) m,
          param_more k p,
          line_more k e,
          sum_by-append (λ (x : KindedSelector). added_to_selector len c x.1) (param_selectors k p) (selectors_in k e),
        )
    line_more k (unary e) = omega (arith, line_more k e)
    line_more k (binary op l r m) =
        omega (
          arith,
          binary_bytes op (text (enforced c l)) (text (enforced c r)) m,
          binary_bytes op (text l) (text r) m,
          line_more k l,
          line_more k r,
          sum_by-append (λ (x : KindedSelector). added_to_selector len c x.1) (selectors_in k l) (selectors_in k r),
        )
    line_more k (paren e) = omega (arith, length-append (text (enforced c e)) (codes ")"), length-append (text e) (codes ")"), line_more k e)
    line_more k (subquery e offset at range step) =
        omega (
          arith,
          length-append (text (enforced c e)) (range_text range step ++ (at_text at ++ offset_text offset)),
          length-append (text e) (range_text range step ++ (at_text at ++ offset_text offset)),
          line_more k e,
        )
    line_more k (number n) = omega arith
    line_more k (string s) = omega arith
    line_more k (vector (selector name ms offset at)) =
        omega (arith, base_more (selector name ms offset at) (at_text at ++ offset_text offset))
    line_more k (matrix (selector name ms offset at) range mode) =
        omega (arith, base_more (selector name ms offset at) (matrix_range_text range mode ++ (at_text at ++ offset_text offset)))
    line_more k (call f args) =
        omega (arith, call_bytes (name_of f) (texts (all_enforced c args)), call_bytes (name_of f) (texts args), args_more k (kind_after f k) args)
    line_more k (extension name gives es) =
        omega (arith, call_bytes name (texts (all_enforced c es)), call_bytes name (texts es), args_more k k es)

    param_more : (k : SelectorKind) (p : MaybeTree)
        → length (param_text (maybe_text (maybe_enforced c p))) ≡ length (param_text (maybe_text p)) + added len c (param_selectors k p)
    param_more k absent = refl
    param_more k (present e) = omega (arith, length-append (text (enforced c e)) (codes ", "), length-append (text e) (codes ", "), line_more k e)

    args_more : (k others : SelectorKind) (ts : Trees)
        → length (joined_text (codes ", ") (texts (all_enforced c ts))) ≡ length (joined_text (codes ", ") (texts ts)) + added len c (arg_selectors k others ts)
    args_more k others no_trees = refl
    args_more k others (first_tree e es) =
        omega (
          arith,
          joined_bytes (codes ", ") (text (enforced c e)) (texts (all_enforced c es)),
          joined_bytes (codes ", ") (text e) (texts es),
          line_more k e,
          rest_more others es,
          sum_by-append (λ (x : KindedSelector). added_to_selector len c x.1) (selectors_in k e) (arg_selectors others others es),
        )

    rest_more : (k : SelectorKind) (ts : Trees)
        → length (after_each (codes ", ") (texts (all_enforced c ts))) ≡ length (after_each (codes ", ") (texts ts)) + added len c (arg_selectors k k ts)
    rest_more k no_trees = refl
    rest_more k (first_tree e es) =
        omega (
          arith,
          after_bytes (codes ", ") (text (enforced c e)) (texts (all_enforced c es)),
          after_bytes (codes ", ") (text e) (texts es),
          line_more k e,
          rest_more k es,
          sum_by-append (λ (x : KindedSelector). added_to_selector len c x.1) (selectors_in k e) (arg_selectors k k es),
        )

-- ---- what is added up

-- the selectors stay as they are
pub added_up : (xs ys : List KindedSelector) (s t : AddedBytes) → MapsAll adds_bytes xs ys s t
    → (ys ≡ xs) × (cap_usize t.total ≡ cap_usize (s.total + added s.len (plain_matcher_of s.matcher.now) xs))
added_up [] [] s t same = (refl, omega (arith, ap (λ (a : AddedBytes). a.total) same))
added_up [] (y ∷ ys) s t h = absurd h
added_up (x ∷ xs) [] s t h = absurd h
added_up (x ∷ xs) (y ∷ ys) s t (same, (u, (step, more))) =
    let rest = added_up xs ys u t more in
    let alike : added u.len (plain_matcher_of u.matcher.now) xs ≡ added s.len (plain_matcher_of s.matcher.now) xs =
    (λ i. added (step.2 i) (plain_matcher_of (step.1 i).now) xs) in (
      (λ i. (same i, step.0 i) ∷ rest.0 i),
      omega (arith, rest.1, alike, step.3, sum_by-cons (λ (x : KindedSelector). added_to_selector s.len (plain_matcher_of s.matcher.now) x.1) x xs),
    )

-- the bytes of the line, from those of the line without the matcher and the sum
pub enforced_bytes : (c : PlainMatcher) (t u : Tree) (bytes own total all : ℕ) → bytes ≡ length (matcher_text c) → own ≡ length (text u) → u ≡ t
    → cap_usize total ≡ cap_usize (0 + added bytes c (selectors_in Series t))
    → all ≡ cap_usize (own + total) → all ≡ cap_usize (length (text (enforced c t)))
enforced_bytes c t u bytes own total all p q same r s =
    omega (arith, p, q, r, s, ap (λ v. length (text v)) same, line_more c Series t, ap (λ n. added n c (selectors_in Series t)) p)
