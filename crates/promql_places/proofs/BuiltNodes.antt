-- The expressions that are nodes build the nodes of the tree, and lie within the tokens of their parent.
use Rattle.std.proofs.Common.{◌≡◌, inl, inr, ℕ, ◌+◌, ◌<◌, ◌≤◌, Bool, true, false, cond, not, List, [], ◌∷◌, ◌++◌, refl, sym, ap, subst, ◌∙◌, arith, append-nil, length, length-append}
use Rattle.std.specs.Prelude.{◌==◌, ◌&&◌}
use Rattle.std.specs.List.{AllByRecursion}
use Rattle.promql_text.specs.Texts.{Text}
use Rattle.promql_token.specs.declared.ids.TheConstants.{T_SUB}
use Rattle.promql_grammar.specs.declared.token_kinds.TokenKind.TheVariants as kind
use Rattle.promql_grammar.specs.Grammar as grammar
use Rattle.promql_grammar.specs.Grammar.{Derivation, Arguments, yield, yield_arguments}
use Rattle.promql_grammar.specs.GrammarParts as part
use Rattle.promql_grammar.specs.GrammarParts.{yield_after, yield_before, yield_modifier, yield_postfix}
use Rattle.promql_grammar.specs.Symbols.{punct, word}
use Rattle.promql_grammar.proofs.Complete.{tall}
use Rattle.promql_grammar.proofs.Sound.{height_yield}
use Rattle.promql_grammar.specs.PartTokens.{yield_rest}
use Rattle.promql_ast.specs.Fold.{all_within}
use Rattle.promql_ast.specs.Tree.{Tree, aggregate, unary, binary, paren, subquery, number, string, vector, matrix, call, MaybeTree, absent, present, Trees}
use Rattle.promql_syntax.specs.Building.{build, build_all}
use Rattle.promql_syntax.specs.FaultTokens.{Subexpression, rest_count}
use Rattle.promql_syntax.proofs.readback.CheckedAgain.{arguments}
use Rattle.promql_places.proofs.Pairs.{InOrder}
use Rattle.promql_places.specs.NodePlaces.{BuildEach, argument_nodes, has_node, is_number, nodes, nodes_below, tree_nodes}
use Rattle.promql_places.proofs.Lying.{IsNested, LiesWithin}
use Rattle.promql_places.specs.PlacedFormSteps.{nodes_within}
use Rattle.promql_places.proofs.BuiltTrees.{Alike, Gives, MinusOf, PostfixOf, Sort, UnaryOf, more_arguments, no_arguments, others, queries, shape, sort_of}
use Rattle.promql_places.proofs.SignedTrees.{is_number_tree, number_is}

-- ---- each builds its node

both_build : (xs ys : List Subexpression) (ts us : List Tree) → BuildEach xs ts → BuildEach ys us → BuildEach (xs ++ ys) (ts ++ us)
both_build [] ys [] us h k = k
both_build [] ys (t ∷ ts) us h k = absurd h
both_build (x ∷ xs) ys [] us h k = absurd h
both_build (x ∷ xs) ys (t ∷ ts) us h k = (h.0, both_build xs ys ts us h.1 k)

abbrev arguments_within : Trees → List Tree
arguments_within = all_within [] ◌++◌ ◌∷◌

abbrev BuildsBelow : Derivation → Tree → Type 0
BuildsBelow d t = (k : ℕ) → BuildEach (nodes_below k d) (nodes_within t)

abbrev BuildsAll : Arguments → Trees → Type 0
BuildsAll ds ts = (k : ℕ) → BuildEach (argument_nodes k ds) (arguments_within ts)

as_tree : (d : Derivation) (t u : Tree) → t ≡ u → BuildsBelow d u → BuildsBelow d t
as_tree d t u same = subst (BuildsBelow d) (sym same)

-- by sort
within_sort : Sort → List Tree
within_sort (queries e) = tree_nodes e
within_sort s = []

is_within_sort : (t : Tree) → ¬ (sort_of t ≡ others) → nodes_within t ≡ within_sort (sort_of t)
unfolding within_sort
is_within_sort (vector v) h = refl
is_within_sort (matrix v n m) h = refl
is_within_sort (subquery e o at r k) h = refl
is_within_sort t h = absurd (h refl)

alike_within : (s t : Tree) → Alike s t → nodes_within s ≡ nodes_within t
alike_within s t a = is_within_sort s a.takes ∙ ap within_sort a.same ∙ sym (is_within_sort t (λ h. a.takes (a.same ∙ h)))

postfix_builds : (d : Derivation) (p : part.Postfix) (s t : Tree) → Gives (build d) s → PostfixOf p s t → BuildsBelow d s → BuildsBelow (grammar.postfixed d p) t
postfix_builds d (part.range r) s t g of below = as_tree (grammar.postfixed d (part.range r)) t (matrix of.chosen of.range of.mode) of.after (λ k. subst (BuildsBelow d) of.before below (length (yield_postfix (part.range r)) + k))
postfix_builds d (part.subquery r e) s t g of below = as_tree (grammar.postfixed d (part.subquery r e)) t (subquery s _ _ of.range of.step) of.is (λ k. (g, below (length (yield_postfix (part.subquery r e)) + k)))
postfix_builds d (part.at_number e u) s t g of below = λ k. subst (BuildEach (nodes_below (length (yield_postfix (part.at_number e u)) + k) d)) (alike_within s t of) (below (length (yield_postfix (part.at_number e u)) + k))
postfix_builds d (part.at_bound w u) s t g of below = λ k. subst (BuildEach (nodes_below (length (yield_postfix (part.at_bound w u)) + k) d)) (alike_within s t of) (below (length (yield_postfix (part.at_bound w u)) + k))
postfix_builds d (part.offset u e r) s t g of below = λ k. subst (BuildEach (nodes_below (length (yield_postfix (part.offset u e r)) + k) d)) (alike_within s t of) (below (length (yield_postfix (part.offset u e r)) + k))
postfix_builds d (part.mode w u) s t g of below = λ k. subst (BuildEach (nodes_below (length (yield_postfix (part.mode w u)) + k) d)) (alike_within s t of) (below (length (yield_postfix (part.mode w u)) + k))

-- a sign with a node, and one without
chosen : (b : Bool) (k : ℕ) (d : Derivation) (ts : List Tree) (c : Bool) → b ≡ c → BuildEach (cond c (nodes k d) (nodes_below k d)) ts → BuildEach (cond b (nodes k d) (nodes_below k d)) ts
chosen b k d ts c same = subst (λ a. BuildEach (cond a (nodes k d) (nodes_below k d)) ts) (sym same)

minus_builds : (op : ℕ) (text : Text) (d : Derivation) (s t : Tree) → (op == T_SUB) ≡ true → is_number_tree s ≡ is_number d → Gives (build d) s → MinusOf s t → BuildsBelow d s → BuildsBelow (grammar.unary op text d) t
minus_builds op text d (number n) t minus same g (m, is) below =
    as_tree (grammar.unary op text d) t (number m) is (λ k. chosen (has_node op d) k d [] false (λ i. minus i && not (sym same i)) (below k))
minus_builds op text d s t minus same g is below =
    as_tree (grammar.unary op text d) t (unary s) is (λ k. chosen (has_node op d) k d (tree_nodes s) true (λ i. minus i && not (sym same i)) (g, below k))

unary_builds : (op : ℕ) (text : Text) (d : Derivation) (s t : Tree) → is_number_tree s ≡ is_number d → Gives (build d) s → UnaryOf op s t → BuildsBelow d s → BuildsBelow (grammar.unary op text d) t
unary_builds op text d s t same g (inl minus) below = minus_builds op text d s t minus.0 same g minus.1 below
unary_builds op text d s t same g (inr plus) below =
    as_tree (grammar.unary op text d) t s plus.1 (λ k. chosen (has_node op d) k d (nodes_within s) false (λ i. plus.0 i && not (is_number d)) (below k))

aggregate_within : (op : ℕ) (e : Tree) (p : MaybeTree) (m : _) → arguments_within (arguments p e) ≡ nodes_within (aggregate op e p m)
aggregate_within op e absent m = append-nil (tree_nodes e)
aggregate_within op e (present p) m = ap (λ l. tree_nodes p ++ l) (append-nil (tree_nodes e))

mutual
  pub builds_below : (d : Derivation) (t : Tree) → Gives (build d) t → BuildsBelow d t
  builds_below (grammar.number text) t g = let s = shape (grammar.number text) t g in as_tree (grammar.number text) t (number s.0) s.1 (λ k. tt)
  builds_below (grammar.duration text) t g = let s = shape (grammar.duration text) t g in as_tree (grammar.duration text) t (number s.0) s.1 (λ k. tt)
  builds_below (grammar.string text) t g = let s = shape (grammar.string text) t g in as_tree (grammar.string text) t (string s.0) s.1 (λ k. tt)
  builds_below (grammar.selector w text b) t g = let s = shape (grammar.selector w text b) t g in as_tree (grammar.selector w text b) t (vector s.0) s.1 (λ k. tt)
  builds_below (grammar.nameless b) t g = let s = shape (grammar.nameless b) t g in as_tree (grammar.nameless b) t (vector s.0) s.1 (λ k. tt)
  builds_below (grammar.paren d) t g =
      let s = shape (grammar.paren d) t g in
      let below = builds_below d s.inner s.first in
      as_tree (grammar.paren d) t (paren s.inner) s.is (λ k. (s.first, below (1 + k)))
  builds_below (grammar.call w text ds) t g =
      let s = shape (grammar.call w text ds) t g in
      let all = builds_all ds s.trees s.arguments in
      as_tree (grammar.call w text ds) t (call s.called s.trees) s.is (λ k. all (1 + k))
  builds_below (grammar.aggregate op text c ds) t g =
      let s = shape (grammar.aggregate op text c ds) t g in
      let all = builds_all ds (arguments s.param s.tree) s.arguments in
      as_tree (grammar.aggregate op text c ds) t (aggregate op s.tree s.param s.clause) s.is
      (λ k. subst (BuildEach (argument_nodes (1 + (length (yield_after c) + k)) ds)) (aggregate_within op s.tree s.param s.clause) (all (1 + (length (yield_after c) + k))))
  builds_below (grammar.postfixed d p) t g =
      let s = shape (grammar.postfixed d p) t g in postfix_builds d p s.base t s.first s.is (builds_below d s.base s.first)
  builds_below (grammar.unary op text d) t g =
      let s = shape (grammar.unary op text d) t g in
      unary_builds op text d s.operand t (number_is d s.operand s.first) s.first s.is (builds_below d s.operand s.first)
  builds_below (grammar.binary op text m l r) t g =
      let s = shape (grammar.binary op text m l r) t g in
      let left = builds_below l s.left s.first in
      let right = builds_below r s.right s.second in
      as_tree (grammar.binary op text m l r) t (binary op s.left s.right s.matching) s.is
      (λ k. both_build (nodes (1 + (length (yield_modifier m) + (length (yield r) + k))) l) (nodes k r) (tree_nodes s.left) (tree_nodes s.right) (s.first, left (1 + (length (yield_modifier m) + (length (yield r) + k)))) (s.second, right k))

  pub builds_all : (ds : Arguments) (ts : Trees) → Gives (build_all ds) ts → BuildsAll ds ts
  builds_all grammar.none ts g = subst (BuildsAll grammar.none) (sym (no_arguments ts g)) (λ k. tt)
  builds_all (grammar.more d ds) ts g =
      let s = more_arguments d ds ts g in
      let first = builds_below d s.tree s.first in
      let more = builds_all ds s.trees s.others in
      subst (BuildsAll (grammar.more d ds)) (sym s.is)
      (λ k. both_build (nodes (rest_count ds + k) d) (argument_nodes k ds) (tree_nodes s.tree) (arguments_within s.trees) (s.first, first (rest_count ds + k)) (more k))

pub builds_nodes : (k : ℕ) (d : Derivation) (t : Tree) → Gives (build d) t → BuildEach (nodes k d) (tree_nodes t)
builds_nodes k d t g = (g, builds_below d t g k)

-- ---- each lies within

pub some_tokens : (d : Derivation) → 0 < length (yield d)
some_tokens d = let a = tall d in let b = height_yield d in omega arith

all_joined : (P : Subexpression → Type 0) (xs ys : List Subexpression) → AllByRecursion P xs → AllByRecursion P ys → AllByRecursion P (xs ++ ys)
all_joined P [] ys h k = k
all_joined P (x ∷ xs) ys h k = (h.0, all_joined P xs ys h.1 k)

abbrev AllLie : ℕ → ℕ → List Subexpression → Type 0
AllLie k n = AllByRecursion (LiesWithin k n)

wider : (k n j m : ℕ) (xs : List Subexpression) → j ≤ k → n ≤ m → AllLie k n xs → AllLie j m xs
wider k n j m [] h i all = tt
wider k n j m (x ∷ xs) h i all =
    let first = all.0 in
    let ends = first.1 in
    let begins = first.2 in
    ((first.0, omega arith, omega arith), wider k n j m xs h i all.1)

lies_here : (k : ℕ) (d : Derivation) → LiesWithin k (length (yield d) + k) (k, d)
lies_here k d = (some_tokens d, omega arith, omega arith)

rest_fits : (ds : Arguments) → rest_count ds ≤ length (yield_arguments [] ds)
rest_fits grammar.none = omega arith
rest_fits (grammar.more d ds) = let more = length_rest ds in let joined = length-append (yield d) (yield_rest ds) in omega arith
  where
    length_rest : (ds : Arguments) → length (yield_rest ds) ≡ rest_count ds + 1
    length_rest grammar.none = omega arith
    length_rest (grammar.more d ds) = let more = length_rest ds in let joined = length-append (yield d) (yield_rest ds) in omega arith

-- from one sum of lengths to another
sums : (a b : ℕ) (k : ℕ) (xs : List Subexpression) → a ≤ b → AllLie k a xs → AllLie k b xs
sums a b k xs h all = wider k a k b xs (omega arith) h all

chosen_lies : (b : Bool) (k n : ℕ) (d : Derivation) → AllLie k n (nodes k d) → AllLie k n (cond b (nodes k d) (nodes_below k d))
chosen_lies true k n d all = all
chosen_lies false k n d all = all.1

postfix_lies : (d : Derivation) (p : part.Postfix) (k : ℕ) (xs : List Subexpression) → AllLie (length (yield_postfix p) + k) (length (yield d) + (length (yield_postfix p) + k)) xs → AllLie k (length (yield d ++ yield_postfix p) + k) xs
postfix_lies d p k xs all = let joined = length-append (yield d) (yield_postfix p) in wider _ _ k _ xs (omega arith) (omega arith) all

mutual
  pub lie_below : (d : Derivation) (k : ℕ) → AllLie k (length (yield d) + k) (nodes_below k d)
  lie_below (grammar.number t) k = tt
  lie_below (grammar.duration t) k = tt
  lie_below (grammar.string t) k = tt
  lie_below (grammar.selector w t b) k = tt
  lie_below (grammar.nameless b) k = tt
  lie_below (grammar.paren d) k =
      let joined = length-append (yield d) (punct kind.RightParen ∷ []) in
      wider (1 + k) (length (yield d) + (1 + k)) k (length (yield (grammar.paren d)) + k) (nodes (1 + k) d) (omega arith) (omega arith) (lies_here (1 + k) d, lie_below d (1 + k))
  lie_below (grammar.call w t ds) k =
      let fits = rest_fits ds in
      wider (1 + k) (rest_count ds + (1 + k)) k (length (yield (grammar.call w t ds)) + k) (argument_nodes (1 + k) ds) (omega arith) (omega arith) (lie_all ds (1 + k))
  lie_below (grammar.aggregate op t c ds) k =
      let fits = rest_fits ds in
      let j = 1 + (length (yield_after c) + k) in
      let one = length-append (yield_before c) (punct kind.LeftParen ∷ (yield_arguments [] ds ++ yield_after c)) in
      let two = length-append (yield_arguments [] ds) (yield_after c) in
      wider j (rest_count ds + j) k (length (yield (grammar.aggregate op t c ds)) + k) (argument_nodes j ds) (omega arith) (omega arith) (lie_all ds j)
  lie_below (grammar.postfixed d (part.subquery r e)) k =
      let p = part.subquery r e in
      postfix_lies d p k (nodes (length (yield_postfix p) + k) d) (lies_here (length (yield_postfix p) + k) d, lie_below d (length (yield_postfix p) + k))
  lie_below (grammar.postfixed d (part.range r)) k = postfix_lies d (part.range r) k _ (lie_below d (length (yield_postfix (part.range r)) + k))
  lie_below (grammar.postfixed d (part.at_number s t)) k = postfix_lies d (part.at_number s t) k _ (lie_below d (length (yield_postfix (part.at_number s t)) + k))
  lie_below (grammar.postfixed d (part.at_bound w t)) k = postfix_lies d (part.at_bound w t) k _ (lie_below d (length (yield_postfix (part.at_bound w t)) + k))
  lie_below (grammar.postfixed d (part.offset t s r)) k = postfix_lies d (part.offset t s r) k _ (lie_below d (length (yield_postfix (part.offset t s r)) + k))
  lie_below (grammar.postfixed d (part.mode w t)) k = postfix_lies d (part.mode w t) k _ (lie_below d (length (yield_postfix (part.mode w t)) + k))
  lie_below (grammar.unary op t d) k =
      chosen_lies (has_node op d) k (length (yield (grammar.unary op t d)) + k) d
      (sums (length (yield d) + k) (length (yield (grammar.unary op t d)) + k) k (nodes k d) (omega arith) (lies_here k d, lie_below d k))
  lie_below (grammar.binary op t m l r) k =
      let j = 1 + (length (yield_modifier m) + (length (yield r) + k)) in
      let one = length-append (yield l) (word (kind.Operator op) t ∷ (yield_modifier m ++ yield r)) in
      let two = length-append (yield_modifier m) (yield r) in
      let n = length (yield (grammar.binary op t m l r)) + k in
      all_joined (LiesWithin k n) (nodes j l) (nodes k r)
      (wider j (length (yield l) + j) k n (nodes j l) (omega arith) (omega arith) (lies_here j l, lie_below l j))
      (sums (length (yield r) + k) n k (nodes k r) (omega arith) (lies_here k r, lie_below r k))

  pub lie_all : (ds : Arguments) (k : ℕ) → AllLie k (rest_count ds + k) (argument_nodes k ds)
  lie_all grammar.none k = tt
  lie_all (grammar.more d ds) k =
      let j = rest_count ds + k in
      let n = rest_count (grammar.more d ds) + k in
      all_joined (LiesWithin k n) (nodes j d) (argument_nodes k ds)
      (wider j (length (yield d) + j) k n (nodes j d) (omega arith) (omega arith) (lies_here j d, lie_below d j))
      (sums (rest_count ds + k) n k (argument_nodes k ds) (omega arith) (lie_all ds k))

pub nodes_lie : (d : Derivation) (k : ℕ) → AllLie k (length (yield d) + k) (nodes k d)
nodes_lie d k = (lies_here k d, lie_below d k)

-- ---- each lies within an earlier one, or after it

nested_in : (a : Subexpression) (xs : List Subexpression) → AllLie a.0 (length (yield a.1) + a.0) xs → AllByRecursion (IsNested a) xs
nested_in a [] all = tt
nested_in a (x ∷ xs) all = (inl all.0, nested_in a xs all.1)

nested_after : (a : Subexpression) (j m : ℕ) (xs : List Subexpression) → m ≤ a.0 → AllLie j m xs → AllByRecursion (IsNested a) xs
nested_after a j m [] h all = tt
nested_after a j m (x ∷ xs) h all = let first = all.0 in let begins = first.2 in (inr (omega arith), nested_after a j m xs h all.1)

abbrev pub AreNested : List Subexpression → Type 0
AreNested = InOrder IsNested

nested_joined : (xs ys : List Subexpression) (j n k m : ℕ) → m ≤ j → AllLie j n xs → AllLie k m ys → AreNested xs → AreNested ys → AreNested (xs ++ ys)
nested_joined [] ys j n k m h lx ly nx ny = ny
nested_joined (x ∷ xs) ys j n k m h lx ly nx ny =
    let first = lx.0 in
    let ends = first.1 in
    (all_joined (IsNested x) xs ys nx.0 (nested_after x k m ys (omega arith) ly), nested_joined xs ys j n k m h lx.1 ly nx.1 ny)

chosen_nested : (b : Bool) (k : ℕ) (d : Derivation) → AreNested (nodes k d) → AreNested (cond b (nodes k d) (nodes_below k d))
chosen_nested true k d all = all
chosen_nested false k d all = all.1

mutual
  pub nested_below : (d : Derivation) (k : ℕ) → AreNested (nodes_below k d)
  nested_below (grammar.number t) k = tt
  nested_below (grammar.duration t) k = tt
  nested_below (grammar.string t) k = tt
  nested_below (grammar.selector w t b) k = tt
  nested_below (grammar.nameless b) k = tt
  nested_below (grammar.paren d) k = (nested_in ((1 + k), d) _ (lie_below d (1 + k)), nested_below d (1 + k))
  nested_below (grammar.call w t ds) k = nested_all ds (1 + k)
  nested_below (grammar.aggregate op t c ds) k = nested_all ds (1 + (length (yield_after c) + k))
  nested_below (grammar.postfixed d (part.subquery r e)) k =
      let j = length (yield_postfix (part.subquery r e)) + k in
      (nested_in (j, d) (nodes_below j d) (lie_below d j), nested_below d j)
  nested_below (grammar.postfixed d (part.range r)) k = nested_below d (length (yield_postfix (part.range r)) + k)
  nested_below (grammar.postfixed d (part.at_number s t)) k = nested_below d (length (yield_postfix (part.at_number s t)) + k)
  nested_below (grammar.postfixed d (part.at_bound w t)) k = nested_below d (length (yield_postfix (part.at_bound w t)) + k)
  nested_below (grammar.postfixed d (part.offset t s r)) k = nested_below d (length (yield_postfix (part.offset t s r)) + k)
  nested_below (grammar.postfixed d (part.mode w t)) k = nested_below d (length (yield_postfix (part.mode w t)) + k)
  nested_below (grammar.unary op t d) k = chosen_nested (has_node op d) k d (nested_in (k, d) (nodes_below k d) (lie_below d k), nested_below d k)
  nested_below (grammar.binary op t m l r) k =
      let j = 1 + (length (yield_modifier m) + (length (yield r) + k)) in
      nested_joined (nodes j l) (nodes k r) j (length (yield l) + j) k (length (yield r) + k) (omega arith) (nodes_lie l j) (nodes_lie r k)
      (nested_in (j, l) (nodes_below j l) (lie_below l j), nested_below l j)
      (nested_in (k, r) (nodes_below k r) (lie_below r k), nested_below r k)

  pub nested_all : (ds : Arguments) (k : ℕ) → AreNested (argument_nodes k ds)
  nested_all grammar.none k = tt
  nested_all (grammar.more d ds) k =
      let j = rest_count ds + k in
      nested_joined (nodes j d) (argument_nodes k ds) j (length (yield d) + j) k (rest_count ds + k) (omega arith) (nodes_lie d j) (lie_all ds k)
      (nested_in (j, d) (nodes_below j d) (lie_below d j), nested_below d j) (nested_all ds k)

pub nodes_nested : (k : ℕ) (d : Derivation) → AreNested (nodes k d)
nodes_nested k d = (nested_in (k, d) (nodes_below k d) (lie_below d k), nested_below d k)
