-- The parts of an expression lie within it, one after the other.
use Rattle.std.proofs.Common.{◌≡◌, inl, inr, ℕ, ◌+◌, ◌<◌, ◌≤◌, Bool, true, false, cond, Option, Some, None, List, [], ◌∷◌, ◌++◌, append-nil, arith, length, length-append, refl, subst}
use Rattle.std.specs.List.{AllByRecursion}
use Rattle.std.specs.Option.{option_map_or}
use Rattle.promql_grammar.specs.declared.token_kinds.TokenKind.TheVariants as kind
use Rattle.promql_grammar.specs.Grammar as grammar
use Rattle.promql_grammar.specs.Grammar.{Derivation, yield, yield_arguments}
use Rattle.promql_grammar.specs.GrammarParts as part
use Rattle.promql_grammar.specs.GrammarParts.{yield_after, yield_before, yield_braces, yield_fills, yield_group, yield_grouping, yield_item, yield_items, yield_labels, yield_matching, yield_modifier, yield_names, yield_postfix}
use Rattle.promql_grammar.specs.PartTokens.{yield_flag, yield_any_braces}
use Rattle.promql_grammar.specs.Symbols.{punct, word}
use Rattle.promql_places.specs.NodeParts.{PartTokens, clause_parts, group_parts, item_parts, label_parts, matcher_parts, matching_parts, parts}
use Rattle.promql_places.specs.Pieces.{piece, postfix_kind}
use Rattle.promql_places.specs.NodePlaces.{LieWithin, has_node}
use Rattle.promql_places.proofs.Lying.{Follows}
use Rattle.promql_places.proofs.Pairs.{InOrder}
use Rattle.promql_places.specs.declared.parts.PartKind.{PartKind}
use Rattle.promql_places.specs.declared.parts.PartKind.TheVariants as sort
use Rattle.promql_places.proofs.BuiltNodes.{some_tokens}

abbrev pub LiesBetween : ℕ → ℕ → PartTokens → Type 0
LiesBetween k n p = LieWithin k n p.1 p.2

abbrev pub AreOrdered : List PartTokens → Type 0
AreOrdered = InOrder Follows

abbrev AllLie : ℕ → ℕ → List PartTokens → Type 0
AllLie k n = AllByRecursion (LiesBetween k n)

-- they lie in these tokens, in order
pub record Fit (k n : ℕ) (ps : List PartTokens) : Type 0 where
  pub lie : AllLie k n ps
  pub ordered : AreOrdered ps

none_fit : (k n : ℕ) → Fit k n []
none_fit k n = record { lie = tt; ordered = tt }

wider_lie : (k n j m : ℕ) (ps : List PartTokens) → j ≤ k → n ≤ m → AllLie k n ps → AllLie j m ps
wider_lie k n j m [] h i all = tt
wider_lie k n j m (p ∷ ps) h i all =
    let first = all.0 in
    let ends = first.1 in
    let begins = first.2 in
    ((first.0, omega arith, omega arith), wider_lie k n j m ps h i all.1)

wider : (k n j m : ℕ) (ps : List PartTokens) → j ≤ k → n ≤ m → Fit k n ps → Fit j m ps
wider k n j m ps h i fit = record { lie = wider_lie k n j m ps h i fit.lie; ordered = fit.ordered }

all_follow : (p : PartTokens) (k n : ℕ) (ps : List PartTokens) → n ≤ p.2 → AllLie k n ps → AllByRecursion (Follows p) ps
all_follow p k n [] h all = tt
all_follow p k n (q ∷ qs) h all = let first = all.0 in let begins = first.2 in (inl (omega arith), all_follow p k n qs h all.1)

more_fit : (k n m : ℕ) (p : PartTokens) (ps : List PartTokens) → 0 < p.1 → k ≤ p.2 → p.1 + p.2 ≤ n → m ≤ p.2 → Fit k m ps → Fit k n (p ∷ ps)
more_fit k n m p ps some ends begins rest fit = record {
  lie = ((some, ends, begins), wider_lie k m k n ps (omega arith) (omega arith) fit.lie);
  ordered = (all_follow p k m ps rest fit.lie, fit.ordered);
}

all_joined : (P : PartTokens → Type 0) (ps qs : List PartTokens) → AllByRecursion P ps → AllByRecursion P qs → AllByRecursion P (ps ++ qs)
all_joined P [] qs h k = k
all_joined P (p ∷ ps) qs h k = (h.0, all_joined P ps qs h.1 k)

ordered_joined : (ps qs : List PartTokens) (j n k m : ℕ) → m ≤ j → AllLie j n ps → AllLie k m qs → AreOrdered ps → AreOrdered qs → AreOrdered (ps ++ qs)
ordered_joined [] qs j n k m h x y a b = b
ordered_joined (p ∷ ps) qs j n k m h x y a b =
    let first = x.0 in
    let ends = first.1 in
    (all_joined (Follows p) ps qs a.0 (all_follow p k m qs (omega arith) y), ordered_joined ps qs j n k m h x.1 y a.1 b)

both_fit : (ps qs : List PartTokens) (j n k m : ℕ) → m ≤ j → k ≤ j → m ≤ n → Fit j n ps → Fit k m qs → Fit k n (ps ++ qs)
both_fit ps qs j n k m h i l x y = record {
  lie = all_joined (LiesBetween k n) ps qs (wider_lie j n k n ps i (omega arith) x.lie) (wider_lie k m k n qs (omega arith) l y.lie);
  ordered = ordered_joined ps qs j n k m h x.lie y.lie x.ordered y.ordered;
}

one_fits : (p : PartKind) (c a : ℕ) → 0 < c → Fit a (c + a) (piece p c a ∷ [])
one_fits p c a some = more_fit a (c + a) a (piece p c a) [] some (omega arith) (omega arith) (omega arith) (none_fit a a)

-- a part that has all of these
whole_follows : (w : PartTokens) (k n : ℕ) (ps : List PartTokens) → w.2 ≤ k → n ≤ w.1 + w.2 → AllLie k n ps → AreOrdered ps → AreOrdered (ps ++ w ∷ [])
whole_follows w k n [] h i lie ordered = (tt, tt)
whole_follows w k n (p ∷ ps) h i lie ordered =
    let first = lie.0 in
    let ends = first.1 in
    let begins = first.2 in
    (all_joined (Follows p) ps (w ∷ []) ordered.0 (inr (omega arith, omega arith), tt), whole_follows w k n ps h i lie.1 ordered.1)

whole_fits : (w : PartTokens) (k n : ℕ) (ps : List PartTokens) → 0 < w.1 → w.2 ≡ k → n ≡ w.1 + w.2 → Fit k n ps → Fit k n (ps ++ w ∷ [])
whole_fits w k n ps some a c fit = record {
  lie = all_joined (LiesBetween k n) ps (w ∷ []) fit.lie ((some, omega arith, omega arith), tt);
  ordered = whole_follows w k n ps (omega arith) (omega arith) fit.lie fit.ordered;
}

-- ---- lists

names_fit : (p : PartKind) (k : ℕ) (ls : part.Labels) → Fit k (length (yield_names ls) + k) (label_parts p k ls)
names_fit p k part.no_label = none_fit k _
names_fit p k (part.last w t) = wider (1 + k) _ k _ _ (omega arith) (omega arith) (one_fits p 1 (1 + k) (omega arith))
names_fit p k (part.next w t ls) =
    more_fit k (length (yield_names (part.next w t ls)) + k) (length (yield_names ls) + k) (piece p 1 (1 + (length (yield_names ls) + k))) (label_parts p k ls) (omega arith) (omega arith) (omega arith) (omega arith) (names_fit p k ls)

labels_fit : (p : PartKind) (k : ℕ) (ls : part.Labels) → Fit k (length (yield_labels ls) + k) (label_parts p k ls)
labels_fit p k ls = wider k (length (yield_names ls) + k) k _ (label_parts p k ls) (omega arith) (omega arith) (names_fit p k ls)

grouping_fit : (k : ℕ) (by : Bool) (t : _) (ls : part.Labels) → Fit k (length (yield_grouping (by, t, ls)) + k) (label_parts sort.Label k ls)
grouping_fit k by t ls = wider k (length (yield_labels ls) + k) k _ (label_parts sort.Label k ls) (omega arith) (omega arith) (labels_fit sort.Label k ls)

-- the clause before the arguments, and that after them
abbrev pub before_parts : ℕ → part.Clause → List PartTokens
before_parts k (Some (true, (by, t, ls))) = label_parts sort.Label k ls
before_parts k c = []

abbrev pub after_parts : ℕ → part.Clause → List PartTokens
after_parts k (Some (false, (by, t, ls))) = label_parts sort.Label k ls
after_parts k c = []

pub clause_is : (n k : ℕ) (c : part.Clause) → before_parts n c ++ after_parts k c ≡ clause_parts n k c
clause_is n k None = refl
clause_is n k (Some (true, (by, t, ls))) = append-nil (label_parts sort.Label n ls)
clause_is n k (Some (false, (by, t, ls))) = refl

before_fit : (k : ℕ) (c : part.Clause) → Fit k (length (yield_before c) + k) (before_parts k c)
before_fit k None = none_fit k _
before_fit k (Some (true, (by, t, ls))) = grouping_fit k by t ls
before_fit k (Some (false, g)) = none_fit k _

after_fit : (k : ℕ) (c : part.Clause) → Fit k (length (yield_after c) + k) (after_parts k c)
after_fit k None = none_fit k _
after_fit k (Some (true, g)) = none_fit k _
after_fit k (Some (false, (by, t, ls))) = grouping_fit k by t ls

group_fit : (k : ℕ) (g : part.Group) → Fit k (length (yield_group g) + k) (group_parts k g)
group_fit k None = none_fit k _
group_fit k (Some (w, t, None)) = none_fit k _
group_fit k (Some (w, t, Some ls)) = wider k (length (yield_labels ls) + k) k _ (label_parts sort.GroupLabel k ls) (omega arith) (omega arith) (labels_fit sort.GroupLabel k ls)

matching_fit : (k : ℕ) (m : part.Matching) → Fit k (length (yield_matching m) + k) (matching_parts k m)
matching_fit k None = none_fit k _
matching_fit k (Some (w, t, ls, g)) =
    let joined = length-append (yield_labels ls) (yield_group g) in
    let j = length (yield_group g) + k in
    both_fit (label_parts sort.Label j ls) (group_parts k g) j (length (yield_matching (Some (w, t, ls, g))) + k) k j (omega arith) (omega arith) (omega arith)
    (wider j (length (yield_labels ls) + j) j _ (label_parts sort.Label j ls) (omega arith) (omega arith) (labels_fit sort.Label j ls)) (group_fit k g)

some_item : (i : part.Item) → 0 < length (yield_item i)
some_item (part.matcher w t s v) = omega arith
some_item (part.lone t) = omega arith

items_fit : (k : ℕ) (is : part.Items) → Fit k (length (yield_items is) + k) (item_parts k is)
items_fit k (part.last_item i false) =
    let joined = length-append (yield_item i) (punct kind.RightBrace ∷ []) in
    wider (1 + k) (length (yield_item i) + (1 + k)) k _ _ (omega arith) (omega arith) (one_fits sort.Matcher (length (yield_item i)) (1 + k) (some_item i))
items_fit k (part.last_item i true) =
    let joined = length-append (yield_item i) (punct kind.Comma ∷ punct kind.RightBrace ∷ []) in
    wider (2 + k) (length (yield_item i) + (2 + k)) k _ _ (omega arith) (omega arith) (one_fits sort.Matcher (length (yield_item i)) (2 + k) (some_item i))
items_fit k (part.next_item i s is) =
    let joined = length-append (yield_item i) (part.yield_separator s ∷ yield_items is) in
    more_fit k (length (yield_items (part.next_item i s is)) + k) (length (yield_items is) + k) (piece sort.Matcher (length (yield_item i)) (1 + (length (yield_items is) + k))) (item_parts k is) (some_item i) (omega arith) (omega arith) (omega arith) (items_fit k is)

braces_fit : (k : ℕ) (b : part.Braces) → Fit k (length (yield_braces b) + k) (matcher_parts k b)
braces_fit k None = none_fit k _
braces_fit k (Some is) = wider k (length (yield_items is) + k) k _ (item_parts k is) (omega arith) (omega arith) (items_fit k is)

any_braces_fit : (k : ℕ) (b : Option part.Braces) → Fit k (length (yield_any_braces b) + k) (option_map_or (matcher_parts k) b [])
any_braces_fit k None = none_fit k _
any_braces_fit k (Some b) = braces_fit k b

-- ---- expressions

some_postfix : (p : part.Postfix) → 0 < length (yield_postfix p)
some_postfix (part.range t) = omega arith
some_postfix (part.subquery t s) = omega arith
some_postfix (part.at_number s t) = omega arith
some_postfix (part.at_bound w t) = omega arith
some_postfix (part.offset t s u) = omega arith
some_postfix (part.mode w t) = omega arith

postfix_fits : (d : Derivation) (p : part.Postfix) (k : ℕ) (ps : List PartTokens) → Fit (length (yield_postfix p) + k) (length (yield d) + (length (yield_postfix p) + k)) ps
    → Fit k (length (yield d ++ yield_postfix p) + k) (ps ++ piece (postfix_kind p) (length (yield_postfix p)) k ∷ [])
postfix_fits d p k ps fit =
    let joined = length-append (yield d) (yield_postfix p) in
    let c = length (yield_postfix p) in
    both_fit ps (piece (postfix_kind p) c k ∷ []) (c + k) (length (yield d ++ yield_postfix p) + k) k (c + k) (omega arith) (omega arith) (omega arith)
    (wider (c + k) (length (yield d) + (c + k)) (c + k) _ ps (omega arith) (omega arith) fit) (one_fits (postfix_kind p) c k (some_postfix p))

chosen_fit : (b : Bool) (k n : ℕ) (d : Derivation) → 1 + (length (yield d) + k) ≤ n → Fit k (length (yield d) + k) (parts k d) → Fit k n (cond b (piece sort.Operator 1 (length (yield d) + k) ∷ []) (parts k d))
chosen_fit true k n d h fit = wider (length (yield d) + k) (1 + (length (yield d) + k)) k n _ (omega arith) h (one_fits sort.Operator 1 (length (yield d) + k) (omega arith))
chosen_fit false k n d h fit = wider k (length (yield d) + k) k n (parts k d) (omega arith) (omega arith) fit

pub parts_fit : (d : Derivation) (k : ℕ) → Fit k (length (yield d) + k) (parts k d)
parts_fit (grammar.number t) k = none_fit k _
parts_fit (grammar.duration t) k = none_fit k _
parts_fit (grammar.string t) k = none_fit k _
parts_fit (grammar.selector w t b) k =
    more_fit k (length (yield (grammar.selector w t b)) + k) (length (yield_any_braces b) + k) (piece sort.Name 1 (length (yield_any_braces b) + k)) _ (omega arith) (omega arith) (omega arith) (omega arith) (any_braces_fit k b)
parts_fit (grammar.nameless b) k = braces_fit k b
parts_fit (grammar.paren d) k = none_fit k _
parts_fit (grammar.call w t ds) k =
    wider (1 + (length (yield_arguments [] ds) + k)) _ k _ _ (omega arith) (omega arith) (one_fits sort.Name 1 (1 + (length (yield_arguments [] ds) + k)) (omega arith))
parts_fit (grammar.aggregate op t c ds) k =
    let inner = 1 + (length (yield_arguments [] ds) + (length (yield_after c) + k)) in
    let one = length-append (yield_before c) (punct kind.LeftParen ∷ (yield_arguments [] ds ++ yield_after c)) in
    let two = length-append (yield_arguments [] ds) (yield_after c) in
    more_fit k (length (yield (grammar.aggregate op t c ds)) + k) (length (yield_before c) + inner) (piece sort.Operator 1 (length (yield_before c) + inner)) _ (omega arith) (omega arith) (omega arith) (omega arith)
    (subst (Fit k (length (yield_before c) + inner)) (clause_is inner k c)
    (both_fit (before_parts inner c) (after_parts k c) inner (length (yield_before c) + inner) k (length (yield_after c) + k) (omega arith) (omega arith) (omega arith) (before_fit inner c) (after_fit k c)))
parts_fit (grammar.postfixed d (part.range r)) k =
    let n = length (yield_postfix (part.range r)) + k in
    postfix_fits d (part.range r) k _ (whole_fits (piece sort.Selector (length (yield d)) n) n (length (yield d) + n) (parts n d) (some_tokens d) (omega arith) (omega arith) (parts_fit d n))
parts_fit (grammar.postfixed d (part.subquery r e)) k = postfix_fits d (part.subquery r e) k [] (none_fit _ _)
parts_fit (grammar.postfixed d (part.at_number s t)) k = postfix_fits d (part.at_number s t) k _ (parts_fit d (length (yield_postfix (part.at_number s t)) + k))
parts_fit (grammar.postfixed d (part.at_bound w t)) k = postfix_fits d (part.at_bound w t) k _ (parts_fit d (length (yield_postfix (part.at_bound w t)) + k))
parts_fit (grammar.postfixed d (part.offset t s r)) k = postfix_fits d (part.offset t s r) k _ (parts_fit d (length (yield_postfix (part.offset t s r)) + k))
parts_fit (grammar.postfixed d (part.mode w t)) k = postfix_fits d (part.mode w t) k _ (parts_fit d (length (yield_postfix (part.mode w t)) + k))
parts_fit (grammar.unary op t d) k = chosen_fit (has_node op d) k (length (yield (grammar.unary op t d)) + k) d (omega arith) (parts_fit d k)
parts_fit (grammar.binary op t m l r) k =
    let after = length (yield r) + k in
    let one = length-append (yield l) (word (kind.Operator op) t ∷ (yield_modifier m ++ yield r)) in
    let two = length-append (yield_modifier m) (yield r) in
    let three = length-append (yield_flag m.0) (yield_matching m.1 ++ yield_fills m.2) in
    let four = length-append (yield_matching m.1) (yield_fills m.2) in
    more_fit k (length (yield (grammar.binary op t m l r)) + k) (length (yield_modifier m) + after) (piece sort.Operator 1 (length (yield_modifier m) + after)) _ (omega arith) (omega arith) (omega arith) (omega arith)
    (wider (length (yield_fills m.2) + after) (length (yield_matching m.1) + (length (yield_fills m.2) + after)) k _ _ (omega arith) (omega arith) (matching_fit (length (yield_fills m.2) + after) m.1))
