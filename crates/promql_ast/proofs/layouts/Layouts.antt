-- A layout shows what the one line shows.
use Rattle.std.proofs.Common.{◌≡◌, ℕ, ◌+◌, ◌==◌, if◌then◌else◌, subst, Bool, true, false, List, [], ◌∷◌, ◌++◌, Option, Some, Result, IfOk, String, string_bytes, codes, refl, sym, ap, ◌∙◌, append_assoc}
use Rattle.std.specs.List.{flat_map}
use Rattle.std.proofs.lemmas.Bool.{eqb-true}
use Rattle.std.proofs.lemmas.List.Elements.{filter-append}
use Rattle.std.proofs.lemmas.Result.{IfOk-weaker}
use Rattle.std.specs.declared.alloc.Global.{Global}
use Rattle.promql_text.specs.Texts.{Text, joined_text}
use Rattle.promql_token.specs.Ids.{text_of}
use Rattle.promql_kind.specs.Functions.{name_of}
use Rattle.promql_ast.specs.Layout.{without_indent, line_or_lines, param_lines, aggregate_lines, paren_lines, unary_line, binary_lines, call_lines, layout_of, maybe_layout_of, layouts_of, lines}
use Rattle.promql_ast.specs.Lines.{is_longer, squeeze, indent, Keeps}
use Rattle.promql_ast.specs.Shifts.{at_text, offset_text}
use Rattle.promql_ast.specs.Text.{text, maybe_text, texts}
use Rattle.promql_ast.specs.Tree.{Tree, aggregate, unary, binary, paren, subquery, number, string, vector, matrix, call, extension, MaybeTree, absent, present, Trees, no_trees, first_tree}
use Rattle.promql_ast.specs.node.Aggregate.{head_text, param_text, aggregate_text}
use Rattle.promql_ast.specs.node.Binary.{matching_text, operator_text, binary_text}
use Rattle.promql_ast.specs.node.Call.{call_text}
use Rattle.promql_ast.specs.node.Paren.{paren_text}
use Rattle.promql_ast.specs.node.Subquery.{range_text}
use Rattle.promql_ast.specs.node.Unary.{unary_text}
use Rattle.promql_ast.proofs.layouts.Indents.{squeeze_indent}

-- both show the same
pub record Alike (a b : Text) : Type 0 where
  pub shown : squeeze a ≡ squeeze b

same : (a : Text) → Alike a a
same a = record { shown = refl }

together : (a b c d : Text) → Alike a b → Alike c d → Alike (a ++ c) (b ++ d)
together a b c d p q = record { shown = filter-append _ a c ∙ (λ i. p.shown i ++ q.shown i) ∙ sym (filter-append _ b d) }

after : (a c d : Text) → Alike c d → Alike (a ++ c) (a ++ d)
after a c d q = together a a c d (same a) q

indent_alike : (n : ℕ) (a b : Text) → Alike a b → Alike (indent n ++ a) b
indent_alike n a b p = record { shown = squeeze_indent n a ∙ p.shown }

then_line : (a b : Text) → Alike a b → Alike (10 ∷ a) b
then_line a b p = record { shown = p.shown }

before_space : (a b : Text) → Alike a b → Alike a (32 ∷ b)
before_space a b p = record { shown = p.shown }

next : (x : ℕ) (a b : Text) → Alike a b → Alike (x ∷ a) (x ∷ b)
next x a b p = after (x ∷ []) a b p

without_indent_case : (b : Bool) (x : ℕ) (xs : Text) → (x == 32) ≡ b → Alike (without_indent xs) xs → Alike (if b then without_indent xs else x ∷ xs) (x ∷ xs)
without_indent_case true x xs e p = subst (λ y. Alike (without_indent xs) (y ∷ xs)) (sym (eqb-true x 32 e)) (before_space _ _ p)
without_indent_case false x xs e p = same (x ∷ xs)

without_indent_alike : (a : Text) → Alike (without_indent a) a
without_indent_alike [] = same []
without_indent_alike (x ∷ xs) = without_indent_case (x == 32) x xs refl (without_indent_alike xs)

line_or_lines_alike : (line many : Text) (level most : ℕ) → Alike many line → Alike (line_or_lines line many level most) line
line_or_lines_alike line many level most p = elim (is_longer most line) as (λ b. Alike (if b then many else indent level ++ line) line) [ true ↦ p | false ↦ indent_alike level line line (same line) ]

param_alike : (p q : Option Text) (a b : Text) → Alike a b → Alike (param_lines p) (param_text q) → Alike (param_lines p ++ a) (param_text q ++ b)
param_alike p q a b e h = together (param_lines p) (param_text q) a b h e

close_alike : (level : ℕ) → Alike (codes "\n" ++ (indent level ++ codes ")")) (codes ")")
close_alike level = then_line _ _ (indent_alike level _ _ (same (codes ")")))

paren_alike : (e t : Text) (level : ℕ) → Alike e t → Alike (paren_lines e level) (paren_text t)
paren_alike e t level p = indent_alike level _ _ (next 40 _ _ (then_line _ _ (together e t _ _ p (close_alike level))))

aggregate_alike : (op : ℕ) (m : _) (p q : Option Text) (e t : Text) (level : ℕ) → Alike (param_lines p) (param_text q) → Alike e t → Alike (aggregate_lines op m p e level) (aggregate_text op t q m)
aggregate_alike op m p q e t level h k =
    indent_alike level _ _ (after (head_text op m) _ _ (next 40 _ _ (then_line _ _ (together (param_lines p) (param_text q) _ _ h (together e t _ _ k (close_alike level))))))

unary_alike : (e t : Text) (level : ℕ) → Alike e t → Alike (unary_line e level) (unary_text t)
unary_alike e t level p = indent_alike level _ _ (next 45 _ _ (record { shown = (without_indent_alike e).shown ∙ p.shown }))

operator_alike : (op : ℕ) (m : _) (r t : Text) (level : ℕ) → Alike r t → Alike (codes "\n" ++ (indent level ++ (text_of op ++ (matching_text m ++ (codes "\n" ++ r))))) (operator_text op m ++ t)
operator_alike op m r t level q =
    subst (λ x. Alike (codes "\n" ++ (indent level ++ (text_of op ++ (matching_text m ++ (codes "\n" ++ r))))) (32 ∷ x))
    (sym (append_assoc (text_of op) (matching_text m ++ codes " ") t ∙ ap (λ y. text_of op ++ y) (append_assoc (matching_text m) (codes " ") t)))
    (then_line _ _ (before_space _ _ (indent_alike level _ _ (after (text_of op) _ _ (after (matching_text m) _ _ (then_line _ _ (before_space _ _ q)))))))

binary_alike : (op : ℕ) (m : _) (l r s t : Text) (level : ℕ) → Alike l s → Alike r t → Alike (binary_lines op m l r level) (binary_text op s t m)
binary_alike op m l r s t level p q = together l s _ _ p (operator_alike op m r t level q)

call_alike : (f args : Text) (ts : List Text) (level : ℕ) → Alike args (joined_text (codes ", ") ts) → Alike (call_lines f args level) (call_text f ts)
call_alike f args ts level p = indent_alike level _ _ (after f _ _ (next 40 _ _ (then_line _ _ (together args _ _ _ p (close_alike level)))))

mutual
  pub laid_alike : (t : Tree) (level most : ℕ) → Alike (layout_of t level most) (text t)
  laid_alike (aggregate op e p m) level most = line_or_lines_alike _ _ level most (aggregate_alike op m _ _ _ _ level (param_laid_alike p (level + 1) most) (laid_alike e (level + 1) most))
  laid_alike (unary e) level most = unary_alike _ _ level (laid_alike e level most)
  laid_alike (binary op l r m) level most = line_or_lines_alike _ _ level most (binary_alike op m _ _ _ _ level (laid_alike l (level + 1) most) (laid_alike r (level + 1) most))
  laid_alike (paren e) level most = line_or_lines_alike _ _ level most (paren_alike _ _ level (laid_alike e (level + 1) most))
  laid_alike (subquery e offset at range step) level most = together _ _ _ _ (laid_alike e level most) (same (range_text range step ++ (at_text at ++ offset_text offset)))
  laid_alike (number n) level most = indent_alike level _ _ (same (text (number n)))
  laid_alike (string s) level most = indent_alike level _ _ (same (text (string s)))
  laid_alike (vector s) level most = indent_alike level _ _ (same (text (vector s)))
  laid_alike (matrix s range mode) level most = indent_alike level _ _ (same (text (matrix s range mode)))
  laid_alike (call f args) level most = line_or_lines_alike _ _ level most (call_alike (name_of f) _ (texts args) level (args_alike args (level + 1) most))
  laid_alike (extension name gives es) level most = same (text (extension name gives es))

  param_laid_alike : (p : MaybeTree) (level most : ℕ) → Alike (param_lines (maybe_layout_of p level most)) (param_text (maybe_text p))
  param_laid_alike absent level most = same []
  param_laid_alike (present e) level most = together _ _ _ _ (laid_alike e level most) (next 44 _ _ (then_line _ _ (before_space _ _ (same []))))

  pub args_alike : (ts : Trees) (level most : ℕ) → Alike (joined_text (codes ",\n") (layouts_of ts level most)) (joined_text (codes ", ") (texts ts))
  args_alike no_trees level most = same []
  args_alike (first_tree t ts) level most = together _ _ _ _ (laid_alike t level most) (rest_alike ts level most)

  rest_alike : (ts : Trees) (level most : ℕ) → Alike (flat_map (λ t. codes ",\n" ++ t) (layouts_of ts level most)) (flat_map (λ t. codes ", " ++ t) (texts ts))
  rest_alike no_trees level most = same []
  rest_alike (first_tree t ts) level most = together _ _ _ _ (next 44 _ _ (then_line _ _ (before_space _ _ (laid_alike t level most)))) (rest_alike ts level most)

pub lines_alike : (t : Tree) (level most : ℕ) → Alike (lines t level most) (text t)
lines_alike (aggregate op e p m) level most = aggregate_alike op m _ _ _ _ level (param_laid_alike p (level + 1) most) (laid_alike e (level + 1) most)
lines_alike (unary e) level most = indent_alike level _ _ (same (text (unary e)))
lines_alike (binary op l r m) level most = binary_alike op m _ _ _ _ level (laid_alike l (level + 1) most) (laid_alike r (level + 1) most)
lines_alike (paren e) level most = paren_alike _ _ level (laid_alike e (level + 1) most)
lines_alike (subquery e offset at range step) level most = indent_alike level _ _ (same (text (subquery e offset at range step)))
lines_alike (number n) level most = indent_alike level _ _ (same (text (number n)))
lines_alike (string s) level most = indent_alike level _ _ (same (text (string s)))
lines_alike (vector s) level most = indent_alike level _ _ (same (text (vector s)))
lines_alike (matrix s range mode) level most = indent_alike level _ _ (same (text (matrix s range mode)))
lines_alike (call f args) level most = call_alike (name_of f) _ (texts args) level (args_alike args (level + 1) most)
lines_alike (extension name gives es) level most = indent_alike level _ _ (same (text (extension name gives es)))

-- a result whose bytes show what the line shows keeps it
pub keeps_alike : {E : Type 0} (bs line : Text) (r : Result (String Global) E) → Alike bs line → IfOk r (λ s. string_bytes s ≡ bs) → Keeps (Some line) r
keeps_alike bs line r p h = IfOk-weaker r _ _ (λ s e. ap squeeze e ∙ p.shown) h

pub keeps_laid : {E : Type 0} (t u : Tree) (level most : ℕ) (line : Option Text) (r : Result (String Global) E) → t ≡ u → line ≡ Some (text u) → IfOk r (λ s. string_bytes s ≡ layout_of t level most) → Keeps line r
keeps_laid t u level most line r is shows h = subst (λ o. Keeps o r) (sym (shows ∙ ap (λ v. Some (text v)) (sym is))) (keeps_alike (layout_of t level most) (text t) r (laid_alike t level most) h)

pub keeps_lines : {E : Type 0} (t u : Tree) (level most : ℕ) (line : Option Text) (r : Result (String Global) E) → t ≡ u → line ≡ Some (text u) → IfOk r (λ s. string_bytes s ≡ lines t level most) → Keeps line r
keeps_lines t u level most line r is shows h = subst (λ o. Keeps o r) (sym (shows ∙ ap (λ v. Some (text v)) (sym is))) (keeps_alike (lines t level most) (text t) r (lines_alike t level most) h)
