-- The layout by the decisions for a width is that for the width.
use Rattle.std.proofs.Common.{◌≡◌, ℕ, ◌+◌, max, Bool, true, false, if◌then◌else◌, List, [], ◌∷◌, ◌++◌, Some, codes, refl, sym, ap, ◌∙◌, append_assoc, append-nil}
use Rattle.promql_text.specs.Texts.{joined_text}
use Rattle.promql_kind.specs.Functions.{name_of}
use Rattle.promql_ast.specs.Layout.{aggregate_lines, paren_lines, unary_line, binary_lines, call_lines, layout_of, maybe_layout_of, layouts_of, lines, deepest, maybe_deepest, deepests, lines_deepest}
use Rattle.promql_ast.specs.Lines.{is_longer, indent}
use Rattle.promql_ast.specs.Decisions.{can_split, lines_by, lines_deepest_by, node_decisions, decisions, maybe_decisions, all_decisions, operand_decisions, decision, later, rest, maybe_rest, all_rest, layout_by, maybe_layout_by, layouts_by, deepest_by, maybe_deepest_by, all_deepest_by}
use Rattle.promql_ast.specs.Text.{text}
use Rattle.promql_ast.specs.Tree.{Tree, aggregate, unary, binary, paren, subquery, number, string, vector, matrix, call, extension, MaybeTree, absent, present, Trees, no_trees, first_tree}
use Rattle.promql_ast.specs.node.Subquery.{subquery_text}

-- a node on one line by `one`, and over several by `many`, for each of the two decisions
split : {X : Type 0} (b : Bool) (parts bs : List Bool) (many : List Bool → X) (done one : X) → many (parts ++ bs) ≡ done
    → (if decision (node_decisions b parts ++ bs) then many (later (node_decisions b parts ++ bs)) else one) ≡ (if b then done else one)
split true parts bs many done one e = e
split false parts bs many done one e = refl

rest_after_parts : (b : Bool) (parts bs : List Bool) (many : List Bool → List Bool) → many (parts ++ bs) ≡ bs
    → (if decision (node_decisions b parts ++ bs) then many (later (node_decisions b parts ++ bs)) else later (node_decisions b parts ++ bs)) ≡ bs
rest_after_parts true parts bs many e = e
rest_after_parts false parts bs many e = refl

mutual
  rest_is : (t : Tree) (most : ℕ) (bs : List Bool) → rest t (decisions t most ++ bs) ≡ bs
  rest_is (aggregate op e p m) most bs = rest_after_parts _ (maybe_decisions p most ++ decisions e most) bs (λ cs. rest e (maybe_rest p cs))
      (ap (rest e) (ap (maybe_rest p) (append_assoc (maybe_decisions p most) (decisions e most) bs) ∙ maybe_rest_is p most (decisions e most ++ bs)) ∙ rest_is e most bs)
  rest_is (unary e) most bs = rest_is e most bs
  rest_is (binary op l r m) most bs = rest_after_parts _ (decisions l most ++ decisions r most) bs (λ cs. rest r (rest l cs))
      (ap (rest r) (ap (rest l) (append_assoc (decisions l most) (decisions r most) bs) ∙ rest_is l most (decisions r most ++ bs)) ∙ rest_is r most bs)
  rest_is (paren e) most bs = rest_after_parts _ (decisions e most) bs (rest e) (rest_is e most bs)
  rest_is (subquery e offset at range step) most bs = rest_is e most bs
  rest_is (number n) most bs = refl
  rest_is (string s) most bs = refl
  rest_is (vector s) most bs = refl
  rest_is (matrix s range mode) most bs = refl
  rest_is (call f args) most bs = rest_after_parts _ (all_decisions args most) bs (all_rest args) (all_rest_is args most bs)
  rest_is (extension name gives es) most bs = refl

  maybe_rest_is : (p : MaybeTree) (most : ℕ) (bs : List Bool) → maybe_rest p (maybe_decisions p most ++ bs) ≡ bs
  maybe_rest_is absent most bs = refl
  maybe_rest_is (present e) most bs = rest_is e most bs

  all_rest_is : (ts : Trees) (most : ℕ) (bs : List Bool) → all_rest ts (all_decisions ts most ++ bs) ≡ bs
  all_rest_is no_trees most bs = refl
  all_rest_is (first_tree e es) most bs =
      ap (all_rest es) (ap (rest e) (append_assoc (decisions e most) (all_decisions es most) bs) ∙ rest_is e most (all_decisions es most ++ bs)) ∙ all_rest_is es most bs

-- what is left after l, where other decisions come after l's
rest_after : (l : Tree) (most : ℕ) (cs bs : List Bool) → rest l ((decisions l most ++ cs) ++ bs) ≡ cs ++ bs
rest_after l most cs bs = ap (rest l) (append_assoc (decisions l most) cs bs) ∙ rest_is l most (cs ++ bs)

rest_after_param : (p : MaybeTree) (most : ℕ) (cs bs : List Bool) → maybe_rest p ((maybe_decisions p most ++ cs) ++ bs) ≡ cs ++ bs
rest_after_param p most cs bs = ap (maybe_rest p) (append_assoc (maybe_decisions p most) cs bs) ∙ maybe_rest_is p most (cs ++ bs)

mutual
  pub layout_by_is : (t : Tree) (level most : ℕ) (bs : List Bool) → layout_by t level (decisions t most ++ bs) ≡ layout_of t level most
  layout_by_is (aggregate op e p m) level most bs =
      split (is_longer most (text (aggregate op e p m))) (maybe_decisions p most ++ decisions e most) bs
      (λ cs. aggregate_lines op m (maybe_layout_by p (level + 1) cs) (layout_by e (level + 1) (maybe_rest p cs)) level) _ (indent level ++ text (aggregate op e p m)) (let q = ap (maybe_layout_by p (level + 1)) (append_assoc (maybe_decisions p most) (decisions e most) bs) ∙ maybe_layout_by_is p (level + 1) most (decisions e most ++ bs) in
      let r = ap (layout_by e (level + 1)) (rest_after_param p most (decisions e most) bs) ∙ layout_by_is e (level + 1) most bs in
      λ i. aggregate_lines op m (q i) (r i) level)
  layout_by_is (unary e) level most bs = ap (λ x. unary_line x level) (layout_by_is e level most bs)
  layout_by_is (binary op l r m) level most bs =
      split (is_longer most (text (binary op l r m))) (decisions l most ++ decisions r most) bs
      (λ cs. binary_lines op m (layout_by l (level + 1) cs) (layout_by r (level + 1) (rest l cs)) level) _ (indent level ++ text (binary op l r m)) (let p = ap (layout_by l (level + 1)) (append_assoc (decisions l most) (decisions r most) bs) ∙ layout_by_is l (level + 1) most (decisions r most ++ bs) in
      let q = ap (layout_by r (level + 1)) (rest_after l most (decisions r most) bs) ∙ layout_by_is r (level + 1) most bs in
      λ i. binary_lines op m (p i) (q i) level)
  layout_by_is (paren e) level most bs =
      split (is_longer most (text (paren e))) (decisions e most) bs (λ cs. paren_lines (layout_by e (level + 1) cs) level) _ (indent level ++ text (paren e)) (ap (λ x. paren_lines x level) (layout_by_is e (level + 1) most bs))
  layout_by_is (subquery e offset at range step) level most bs = ap (λ x. subquery_text x offset at range step) (layout_by_is e level most bs)
  layout_by_is (number n) level most bs = refl
  layout_by_is (string s) level most bs = refl
  layout_by_is (vector s) level most bs = refl
  layout_by_is (matrix s range mode) level most bs = refl
  layout_by_is (call f args) level most bs =
      split (is_longer most (text (call f args))) (all_decisions args most) bs
      (λ cs. call_lines (name_of f) (joined_text (codes ",\n") (layouts_by args (level + 1) cs)) level) _ (indent level ++ text (call f args))
      (ap (λ x. call_lines (name_of f) (joined_text (codes ",\n") x) level) (layouts_by_are args (level + 1) most bs))
  layout_by_is (extension name gives es) level most bs = refl

  maybe_layout_by_is : (p : MaybeTree) (level most : ℕ) (bs : List Bool) → maybe_layout_by p level (maybe_decisions p most ++ bs) ≡ maybe_layout_of p level most
  maybe_layout_by_is absent level most bs = refl
  maybe_layout_by_is (present e) level most bs = ap Some (layout_by_is e level most bs)

  pub layouts_by_are : (ts : Trees) (level most : ℕ) (bs : List Bool) → layouts_by ts level (all_decisions ts most ++ bs) ≡ layouts_of ts level most
  layouts_by_are no_trees level most bs = refl
  layouts_by_are (first_tree e es) level most bs =
      let p = ap (layout_by e level) (append_assoc (decisions e most) (all_decisions es most) bs) ∙ layout_by_is e level most (all_decisions es most ++ bs) in
      let q = ap (layouts_by es level) (rest_after e most (all_decisions es most) bs) ∙ layouts_by_are es level most bs in
      λ i. p i ∷ q i

mutual
  pub deepest_is : (t : Tree) (level most : ℕ) (bs : List Bool) → deepest_by t level (decisions t most ++ bs) ≡ deepest t level most
  deepest_is (aggregate op e p m) level most bs =
      split (is_longer most (text (aggregate op e p m))) (maybe_decisions p most ++ decisions e most) bs
      (λ cs. max level (max (maybe_deepest_by p (level + 1) cs) (deepest_by e (level + 1) (maybe_rest p cs)))) _ level (let q = ap (maybe_deepest_by p (level + 1)) (append_assoc (maybe_decisions p most) (decisions e most) bs) ∙ maybe_deepest_is p (level + 1) most (decisions e most ++ bs) in
      let r = ap (deepest_by e (level + 1)) (rest_after_param p most (decisions e most) bs) ∙ deepest_is e (level + 1) most bs in
      λ i. max level (max (q i) (r i)))
  deepest_is (unary e) level most bs = ap (max level) (deepest_is e level most bs)
  deepest_is (binary op l r m) level most bs =
      split (is_longer most (text (binary op l r m))) (decisions l most ++ decisions r most) bs
      (λ cs. max level (max (deepest_by l (level + 1) cs) (deepest_by r (level + 1) (rest l cs)))) _ level (let p = ap (deepest_by l (level + 1)) (append_assoc (decisions l most) (decisions r most) bs) ∙ deepest_is l (level + 1) most (decisions r most ++ bs) in
      let q = ap (deepest_by r (level + 1)) (rest_after l most (decisions r most) bs) ∙ deepest_is r (level + 1) most bs in
      λ i. max level (max (p i) (q i)))
  deepest_is (paren e) level most bs =
      split (is_longer most (text (paren e))) (decisions e most) bs (λ cs. max level (deepest_by e (level + 1) cs)) _ level (ap (max level) (deepest_is e (level + 1) most bs))
  deepest_is (subquery e offset at range step) level most bs = deepest_is e level most bs
  deepest_is (number n) level most bs = refl
  deepest_is (string s) level most bs = refl
  deepest_is (vector s) level most bs = refl
  deepest_is (matrix s range mode) level most bs = refl
  deepest_is (call f args) level most bs =
      split (is_longer most (text (call f args))) (all_decisions args most) bs (λ cs. max level (all_deepest_by args (level + 1) cs)) _ level (ap (max level) (all_deepest_is args (level + 1) most bs))
  deepest_is (extension name gives es) level most bs = refl

  maybe_deepest_is : (p : MaybeTree) (level most : ℕ) (bs : List Bool) → maybe_deepest_by p level (maybe_decisions p most ++ bs) ≡ maybe_deepest p level most
  maybe_deepest_is absent level most bs = refl
  maybe_deepest_is (present e) level most bs = deepest_is e level most bs

  pub all_deepest_is : (ts : Trees) (level most : ℕ) (bs : List Bool) → all_deepest_by ts level (all_decisions ts most ++ bs) ≡ deepests ts level most
  all_deepest_is no_trees level most bs = refl
  all_deepest_is (first_tree e es) level most bs =
      let p = ap (deepest_by e level) (append_assoc (decisions e most) (all_decisions es most) bs) ∙ deepest_is e level most (all_decisions es most ++ bs) in
      let q = ap (all_deepest_by es level) (rest_after e most (all_decisions es most) bs) ∙ all_deepest_is es level most bs in
      λ i. max (p i) (q i)

-- ---- of a node that is split

aggregate_lines_by : (op : ℕ) (e : Tree) (p : MaybeTree) (m : _) (level most : ℕ) (bs : List Bool)
    → aggregate_lines op m (maybe_layout_by p (level + 1) ((maybe_decisions p most ++ decisions e most) ++ bs)) (layout_by e (level + 1) (maybe_rest p ((maybe_decisions p most ++ decisions e most) ++ bs))) level
    ≡ aggregate_lines op m (maybe_layout_of p (level + 1) most) (layout_of e (level + 1) most) level
aggregate_lines_by op e p m level most bs =
    let q = ap (maybe_layout_by p (level + 1)) (append_assoc (maybe_decisions p most) (decisions e most) bs) ∙ maybe_layout_by_is p (level + 1) most (decisions e most ++ bs) in
    let r = ap (layout_by e (level + 1)) (rest_after_param p most (decisions e most) bs) ∙ layout_by_is e (level + 1) most bs in
    λ i. aggregate_lines op m (q i) (r i) level

binary_lines_by : (op : ℕ) (l r : Tree) (m : _) (level most : ℕ) (bs : List Bool)
    → binary_lines op m (layout_by l (level + 1) ((decisions l most ++ decisions r most) ++ bs)) (layout_by r (level + 1) (rest l ((decisions l most ++ decisions r most) ++ bs))) level
    ≡ binary_lines op m (layout_of l (level + 1) most) (layout_of r (level + 1) most) level
binary_lines_by op l r m level most bs =
    let p = ap (layout_by l (level + 1)) (append_assoc (decisions l most) (decisions r most) bs) ∙ layout_by_is l (level + 1) most (decisions r most ++ bs) in
    let q = ap (layout_by r (level + 1)) (rest_after l most (decisions r most) bs) ∙ layout_by_is r (level + 1) most bs in
    λ i. binary_lines op m (p i) (q i) level

aggregate_deepest : (e : Tree) (p : MaybeTree) (level most : ℕ) (bs : List Bool)
    → max (maybe_deepest_by p (level + 1) ((maybe_decisions p most ++ decisions e most) ++ bs)) (deepest_by e (level + 1) (maybe_rest p ((maybe_decisions p most ++ decisions e most) ++ bs)))
    ≡ max (maybe_deepest p (level + 1) most) (deepest e (level + 1) most)
aggregate_deepest e p level most bs =
    let q = ap (maybe_deepest_by p (level + 1)) (append_assoc (maybe_decisions p most) (decisions e most) bs) ∙ maybe_deepest_is p (level + 1) most (decisions e most ++ bs) in
    let r = ap (deepest_by e (level + 1)) (rest_after_param p most (decisions e most) bs) ∙ deepest_is e (level + 1) most bs in
    λ i. max (q i) (r i)

binary_deepest : (l r : Tree) (level most : ℕ) (bs : List Bool)
    → max (deepest_by l (level + 1) ((decisions l most ++ decisions r most) ++ bs)) (deepest_by r (level + 1) (rest l ((decisions l most ++ decisions r most) ++ bs)))
    ≡ max (deepest l (level + 1) most) (deepest r (level + 1) most)
binary_deepest l r level most bs =
    let p = ap (deepest_by l (level + 1)) (append_assoc (decisions l most) (decisions r most) bs) ∙ deepest_is l (level + 1) most (decisions r most ++ bs) in
    let q = ap (deepest_by r (level + 1)) (rest_after l most (decisions r most) bs) ∙ deepest_is r (level + 1) most bs in
    λ i. max (p i) (q i)

-- ---- of a whole list of decisions

pub laid_by : (t : Tree) (level most : ℕ) (bs : List Bool) → bs ≡ decisions t most → layout_by t level bs ≡ layout_of t level most
laid_by t level most bs e = ap (layout_by t level) (e ∙ sym (append-nil (decisions t most))) ∙ layout_by_is t level most []

pub deepest_all : (t : Tree) (level most : ℕ) (bs : List Bool) → bs ≡ decisions t most → deepest_by t level bs ≡ deepest t level most
deepest_all t level most bs e = ap (deepest_by t level) (e ∙ sym (append-nil (decisions t most))) ∙ deepest_is t level most []

pub args_laid_by : (ts : Trees) (level most : ℕ) (bs : List Bool) → bs ≡ all_decisions ts most → joined_text (codes ",\n") (layouts_by ts level bs) ≡ joined_text (codes ",\n") (layouts_of ts level most)
args_laid_by ts level most bs e = ap (λ cs. joined_text (codes ",\n") (layouts_by ts level cs)) (e ∙ sym (append-nil (all_decisions ts most))) ∙ ap (joined_text (codes ",\n")) (layouts_by_are ts level most [])

pub args_deepest_all : (ts : Trees) (level most : ℕ) (bs : List Bool) → bs ≡ all_decisions ts most → all_deepest_by ts level bs ≡ deepests ts level most
args_deepest_all ts level most bs e = ap (all_deepest_by ts level) (e ∙ sym (append-nil (all_decisions ts most))) ∙ all_deepest_is ts level most []

-- ---- over several lines, by the decisions of a node's operands

lines_by_is : (t : Tree) (level most : ℕ) (bs : List Bool) → lines_by t level (operand_decisions t most ++ bs) ≡ lines t level most
lines_by_is (aggregate op e p m) level most bs = aggregate_lines_by op e p m level most bs
lines_by_is (unary e) level most bs = refl
lines_by_is (binary op l r m) level most bs = binary_lines_by op l r m level most bs
lines_by_is (paren e) level most bs = ap (λ x. paren_lines x level) (layout_by_is e (level + 1) most bs)
lines_by_is (subquery e offset at range step) level most bs = refl
lines_by_is (number n) level most bs = refl
lines_by_is (string s) level most bs = refl
lines_by_is (vector s) level most bs = refl
lines_by_is (matrix s range mode) level most bs = refl
lines_by_is (call f args) level most bs = ap (λ x. call_lines (name_of f) (joined_text (codes ",\n") x) level) (layouts_by_are args (level + 1) most bs)
lines_by_is (extension name gives es) level most bs = refl

lines_deepest_is : (t : Tree) (level most : ℕ) (bs : List Bool) → lines_deepest_by t level (operand_decisions t most ++ bs) ≡ lines_deepest t level most
lines_deepest_is (aggregate op e p m) level most bs = ap (max level) (aggregate_deepest e p level most bs)
lines_deepest_is (unary e) level most bs = refl
lines_deepest_is (binary op l r m) level most bs = ap (max level) (binary_deepest l r level most bs)
lines_deepest_is (paren e) level most bs = ap (max level) (deepest_is e (level + 1) most bs)
lines_deepest_is (subquery e offset at range step) level most bs = refl
lines_deepest_is (number n) level most bs = refl
lines_deepest_is (string s) level most bs = refl
lines_deepest_is (vector s) level most bs = refl
lines_deepest_is (matrix s range mode) level most bs = refl
lines_deepest_is (call f args) level most bs = ap (max level) (all_deepest_is args (level + 1) most bs)
lines_deepest_is (extension name gives es) level most bs = refl

pub lines_laid_by : (t : Tree) (level most : ℕ) (bs : List Bool) → bs ≡ operand_decisions t most → lines_by t level bs ≡ lines t level most
lines_laid_by t level most bs e = ap (lines_by t level) (e ∙ sym (append-nil (operand_decisions t most))) ∙ lines_by_is t level most []

pub lines_deepest_all : (t : Tree) (level most : ℕ) (bs : List Bool) → bs ≡ operand_decisions t most → lines_deepest_by t level bs ≡ lines_deepest t level most
lines_deepest_all t level most bs e = ap (lines_deepest_by t level) (e ∙ sym (append-nil (operand_decisions t most))) ∙ lines_deepest_is t level most []

-- ---- a node's decisions, from those of its operands

pub split_decisions : (t : Tree) (most : ℕ) → can_split t ≡ true → decisions t most ≡ node_decisions (is_longer most (text t)) (operand_decisions t most)
split_decisions (aggregate op e p m) most is = refl
split_decisions (binary op l r m) most is = refl
split_decisions (paren e) most is = refl
split_decisions (call f args) most is = refl
split_decisions (unary e) most is = cc
split_decisions (subquery e offset at range step) most is = cc
split_decisions (number n) most is = cc
split_decisions (string s) most is = cc
split_decisions (vector s) most is = cc
split_decisions (matrix s range mode) most is = cc
split_decisions (extension name gives es) most is = cc

pub whole_decisions : (t : Tree) (most : ℕ) → can_split t ≡ false → decisions t most ≡ operand_decisions t most
whole_decisions (aggregate op e p m) most is = cc
whole_decisions (binary op l r m) most is = cc
whole_decisions (paren e) most is = cc
whole_decisions (call f args) most is = cc
whole_decisions (unary e) most is = refl
whole_decisions (subquery e offset at range step) most is = refl
whole_decisions (number n) most is = refl
whole_decisions (string s) most is = refl
whole_decisions (vector s) most is = refl
whole_decisions (matrix s range mode) most is = refl
whole_decisions (extension name gives es) most is = refl
