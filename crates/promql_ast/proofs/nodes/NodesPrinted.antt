-- The text of a tree is that of its root, by the texts of its children.
use Rattle.std.proofs.Common.{◌≡◌, ◌∙◌, List, [], ◌∷◌, ◌++◌, codes, refl, sym, ap, append_assoc, append-nil}
use Rattle.std.specs.Option.{unwrap_or}
use Rattle.promql_text.specs.Texts.{Text, joined_text}
use Rattle.promql_token.specs.Ids.{text_of}
use Rattle.promql_label.specs.PlainMatchers.{matchers_text}
use Rattle.promql_kind.specs.Functions.{name_of}
use Rattle.promql_ast.specs.Fold.{all_within}
use Rattle.promql_ast.specs.NodeTexts.{node_text}
use Rattle.promql_ast.specs.Selectors.{selector}
use Rattle.promql_ast.specs.Shifts.{at_text, offset_text}
use Rattle.promql_ast.specs.Text.{text, texts}
use Rattle.promql_ast.specs.Tree.{Tree, aggregate, unary, binary, paren, subquery, number, string, vector, matrix, call, extension, absent, present, Trees, no_trees, first_tree}
use Rattle.promql_ast.specs.node.Aggregate.{clause_text}
use Rattle.promql_ast.specs.node.Binary.{matching_text}
use Rattle.promql_ast.specs.node.Vector.{with_braces}

texts_within : (ts : Trees) → texts ts ≡ all_within [] ◌++◌ (λ e below. text e ∷ []) ts
texts_within no_trees = refl
texts_within (first_tree e es) = ap (λ xs. text e ∷ xs) (texts_within es)

in_parentheses : (name : Text) (a b : List Text) → a ≡ b
    → name ++ (codes "(" ++ (joined_text (codes ", ") a ++ codes ")")) ≡ name ++ (codes "(" ++ (joined_text (codes ", ") b ++ codes ")"))
in_parentheses name a b e = ap (λ xs. name ++ (codes "(" ++ (joined_text (codes ", ") xs ++ codes ")"))) e

alone : (name e : Text) → name ++ (codes "(" ++ (e ++ codes ")")) ≡ name ++ (codes "(" ++ ((e ++ []) ++ codes ")"))
alone name e = ap (λ x. name ++ (codes "(" ++ (x ++ codes ")"))) (sym (append-nil e))

after_param : (name p e : Text)
    → name ++ (codes "(" ++ ((p ++ codes ", ") ++ (e ++ codes ")"))) ≡ name ++ (codes "(" ++ ((p ++ ((codes ", " ++ e) ++ [])) ++ codes ")"))
after_param name p e = simp (append_assoc, append-nil)

pub text_is : (t : Tree) → text t ≡ node_text t
text_is (aggregate op e absent m) = alone (text_of op ++ clause_text m) (text e)
text_is (aggregate op e (present p) m) = after_param (text_of op ++ clause_text m) (text p) (text e)
text_is (unary e) = refl
text_is (binary op l r m) = ap (λ x. text l ++ (codes " " ++ x)) (append_assoc (text_of op) (matching_text m ++ codes " ") (text r)
    ∙ ap (λ x. text_of op ++ x) (append_assoc (matching_text m) (codes " ") (text r)))
text_is (paren e) = refl
text_is (subquery e offset at range step) = refl
text_is (number n) = refl
text_is (string s) = refl
text_is (vector (selector name matchers offset at)) = append_assoc (unwrap_or name []) (with_braces (matchers_text matchers)) (at_text at ++ offset_text offset)
text_is (matrix (selector name matchers offset at) range mode) = simp append_assoc
text_is (call f args) = in_parentheses (name_of f) _ _ (texts_within args)
text_is (extension name gives es) = in_parentheses name _ _ (texts_within es)
