-- Labels that are not `__name__` are named by a node where they are listed by it.
use Rattle.std.proofs.Common.{◌≡◌, ◌≢◌, ◌∙◌, ap, refl, sym, Bool, true, false, cond, not, ◌&&◌, ◌||◌, List, [], ◌∷◌, codes, filter, map}
use Rattle.std.specs.List.{list_any}
use Rattle.std.specs.Str.{bytes_eq}
use Rattle.std.proofs.lemmas.Slice.Eq.{bytes_eq-Decides}
use Rattle.promql_text.specs.Texts.{Text}
use Rattle.promql_label.specs.Labels.{is_among}
use Rattle.promql_label.specs.PlainMatchers.{PlainMatcher, every, name_of}
use Rattle.promql_ast.specs.Selectors.{selector}
use Rattle.promql_ast.specs.Tree.{Tree, aggregate, unary, binary, paren, subquery, number, string, vector, matrix, call, extension}
use Rattle.promql_rewrite.specs.Collecting.{is_label_matcher, nodes_of, own_labels}
use Rattle.promql_rewrite.specs.Renaming.{clashes, is_metric_label, listed_clashes, listed_labels, lists_both}

module _ (l : Text) (other : bytes_eq l (codes "__name__") ≡ false) where
  -- a matcher of `__name__` is of another label
  another : (c : PlainMatcher) → is_label_matcher c ≡ false → bytes_eq l (name_of c) ≡ false
  another c is = go (bytes_eq (name_of c) (codes "__name__")) refl is
    where
      go : (b : Bool) → bytes_eq (name_of c) (codes "__name__") ≡ b → not b ≡ false → bytes_eq l (name_of c) ≡ false
      go true same h = ap (bytes_eq l) ((bytes_eq-Decides (name_of c) (codes "__name__")).0 same) ∙ other
      go false same h = cc

  kept : (cs : List PlainMatcher) → is_among (map name_of (filter is_label_matcher cs)) l ≡ is_among (map name_of cs) l
  kept [] = refl
  kept (c ∷ cs) = go (is_label_matcher c) refl (kept cs)
    where
      go : (b : Bool) → is_label_matcher c ≡ b → is_among (map name_of (filter is_label_matcher cs)) l ≡ is_among (map name_of cs) l
          → is_among (map name_of (cond b (c ∷ filter is_label_matcher cs) (filter is_label_matcher cs))) l ≡ is_among (map name_of (c ∷ cs)) l
      go true is rest = ap (λ b. bytes_eq l (name_of c) || b) rest
      go false is rest = rest ∙ ap (λ b. b || is_among (map name_of cs) l) (sym (another c is))

  named : (t : Tree) → is_among (own_labels t) l ≡ is_among (listed_labels t) l
  named (vector (selector name cs offset at)) = kept (every cs)
  named (matrix (selector name cs offset at) range mode) = kept (every cs)
  named (aggregate op e p m) = refl
  named (unary e) = refl
  named (binary op x y m) = refl
  named (paren e) = refl
  named (subquery e offset at range step) = refl
  named (number n) = refl
  named (string s) = refl
  named (call f args) = refl
  named (extension name gives es) = refl

module _ (from to : Text) (old : bytes_eq from (codes "__name__") ≡ false) (new : bytes_eq to (codes "__name__") ≡ false) where
  listed : (ts : List Tree) → list_any (λ n. is_among (own_labels n) from && is_among (own_labels n) to) ts ≡ list_any (lists_both from to) ts
  listed [] = refl
  listed (t ∷ ts) = λ i. (named from old t i && named to new t i) || listed ts i

  clashes_listed : (t : Tree) → clashes from to t ≡ listed_clashes from to t
  clashes_listed t = ap (λ b. not (bytes_eq from to) && b) (listed (nodes_of t))

neither : (a b : Bool) → a || b ≡ false → (a ≡ false) × (b ≡ false)
neither true b h = cc
neither false b h = (refl, h)

pub clash_is : (from to : Text) (t : Tree) → is_metric_label from || is_metric_label to ≡ false → clashes from to t ≡ listed_clashes from to t
clash_is from to t plain =
    let both = neither (is_metric_label from) (is_metric_label to) plain in clashes_listed from to both.0 both.1 t

no_name : (l : Text) → l ≢ codes "__name__" → bytes_eq l (codes "__name__") ≡ false
no_name l other = go (bytes_eq l (codes "__name__")) refl
  where
    go : (b : Bool) → bytes_eq l (codes "__name__") ≡ b → b ≡ false
    go true is = absurd (other ((bytes_eq-Decides l (codes "__name__")).0 is))
    go false is = refl

pub apart_listed : (from to : Text) (t : Tree) → from ≢ codes "__name__" → to ≢ codes "__name__" → clashes from to t ≡ false → listed_clashes from to t ≡ false
apart_listed from to t old new apart = sym (clashes_listed from to (no_name from old) (no_name to new) t) ∙ apart
