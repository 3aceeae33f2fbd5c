-- Names that are appended part by part.
use Rattle.std.proofs.Common.{◌≡◌, ℕ, ◌+◌, ◌<◌, ◌≤◌, List, [], ◌∷◌, ◌++◌, append_assoc, append-nil, drop, get_or, length, sym, ap, ◌∙◌}
use Rattle.std.proofs.lemmas.List.{drop_all, drop_more}
use Rattle.std.proofs.lemmas.List.Concat.{flat_map-append}
use Rattle.promql_ast.specs.Tree.{Tree}
use Rattle.promql_rewrite.specs.Collecting.{own_functions, own_labels, own_metrics, own_selectors}
use Rattle.promql_rewrite.specs.CollectedNames.{Names, joined, names_in}

-- ---- names of four kinds

-- no names
abbrev pub none : Names
none = record { metrics = []; labels = []; functions = []; selectors = [] }

joined_assoc : (a b c : Names) → joined (joined a b) c ≡ joined a (joined b c)
joined_assoc a b c = λ i. record {
  metrics = append_assoc a.metrics b.metrics c.metrics i;
  labels = append_assoc a.labels b.labels c.labels i;
  functions = append_assoc a.functions b.functions c.functions i;
  selectors = append_assoc a.selectors b.selectors c.selectors i;
}

pub joined_none : (a : Names) → joined a none ≡ a
joined_none a = λ i. record {
  metrics = append-nil a.metrics i;
  labels = append-nil a.labels i;
  functions = append-nil a.functions i;
  selectors = append-nil a.selectors i;
}

-- what the nodes of two lists name
names_append : (ts us : List Tree) → names_in (ts ++ us) ≡ joined (names_in ts) (names_in us)
names_append ts us = λ i. record {
  metrics = flat_map-append own_metrics ts us i;
  labels = flat_map-append own_labels ts us i;
  functions = flat_map-append own_functions ts us i;
  selectors = flat_map-append own_selectors ts us i;
}

-- ---- by one call, and by two

module _ (old : Names) where
  pub joined_as : (new a own : Names) → a ≡ own → new ≡ joined old a → new ≡ joined old own
  joined_as new a own same appended = appended ∙ ap (joined old) same

  pub joined_both : (mid new own more : Names) → mid ≡ joined old own → new ≡ joined mid more → new ≡ joined old (joined own more)
  joined_both mid new own more first second = second ∙ ap (λ n. joined n more) first ∙ joined_assoc old own more

  -- on two lists of nodes
  pub joined_nodes : (mid new : Names) (ts us : List Tree) → mid ≡ joined old (names_in ts) → new ≡ joined mid (names_in us) → new ≡ joined old (names_in (ts ++ us))
  joined_nodes mid new ts us first second =
      joined_both mid new (names_in ts) (names_in us) first second ∙ ap (joined old) (sym (names_append ts us))

-- ---- of a list, item by item: F gives the nodes of those that are left

module _ {X : Type 0} (F : List X → List Tree) (xs : List X) (i : ℕ) (before all : Names) where
  -- one more item has appended its own
  pub joined_more : (y : X) (own : List Tree) (after : Names) → i < length xs → y ≡ get_or xs i y → F (y ∷ drop (i + 1) xs) ≡ own ++ F (drop (i + 1) xs)
      → after ≡ joined before (names_in own) → joined before (names_in (F (drop i xs))) ≡ all → joined after (names_in (F (drop (i + 1) xs))) ≡ all
  joined_more y own after within same first more left =
      let rest = F (drop (i + 1) xs) in
      let next : F (drop i xs) ≡ own ++ rest = ap F (drop_more xs i y within ∙ ap (λ z. z ∷ drop (i + 1) xs) (sym same)) ∙ first in
      ap (λ n. joined n (names_in rest)) more
      ∙ joined_assoc before (names_in own) (names_in rest)
      ∙ ap (joined before) (sym (names_append own rest))
      ∙ ap (λ ts. joined before (names_in ts)) (sym next)
      ∙ left

  -- all have
  pub joined_all : F [] ≡ [] → length xs ≤ i → joined before (names_in (F (drop i xs))) ≡ all → before ≡ all
  joined_all nothing end left =
      sym (joined_none before) ∙ ap (λ ts. joined before (names_in ts)) (sym (ap F (drop_all i xs end) ∙ nothing)) ∙ left

-- ---- list by list

pub unchanged : {X : Type 0} (xs : List X) → xs ≡ xs ++ []
unchanged xs = sym (append-nil xs)

module _ (old new own : Names) where
  pub names_more : new.metrics ≡ old.metrics ++ own.metrics → new.labels ≡ old.labels ++ own.labels → new.functions ≡ old.functions ++ own.functions
      → new.selectors ≡ old.selectors ++ own.selectors → new ≡ joined old own
  names_more metrics labels functions selectors = λ i. record {
    metrics = metrics i;
    labels = labels i;
    functions = functions i;
    selectors = selectors i;
  }
