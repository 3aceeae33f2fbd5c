-- What is measured, and then laid out on an empty text.
use Rattle.std.proofs.Common.{◌≡◌, ℕ, ◌*◌, ◌<◌, ◌≤◌, List, [], ◌++◌, Bool, codes, ap, ◌∙◌, subst}
use Rattle.promql_text.specs.Texts.{Text, joined_text}
use Rattle.promql_text.specs.PrintedLen.{usize_max}
use Rattle.promql_ast.specs.Decisions.{all_decisions, layouts_by, all_deepest_by, decisions, operand_decisions, layout_by, lines_by, deepest_by, lines_deepest_by}
use Rattle.promql_ast.specs.Layout.{deepest, deepests, layout_of, layouts_of, lines, lines_deepest}
use Rattle.promql_ast.specs.Lines.{squeeze}
use Rattle.promql_ast.specs.Text.{texts}
use Rattle.promql_ast.specs.Tree.{Tree, Trees}
use Rattle.promql_ast.proofs.layouts.Layouts.{args_alike}
use Rattle.promql_ast.proofs.layouts.LayoutsBy.{args_deepest_all, args_laid_by, deepest_all, laid_by, lines_deepest_all, lines_laid_by}

-- pushed onto nothing
fresh : (start all more : Text) → start ≡ [] → all ≡ start ++ more → all ≡ more
fresh start all more e p = p ∙ ap (λ s. s ++ more) e

pub node_text : (t : Tree) (level most : ℕ) (start all : Text) (bs : List Bool) → start ≡ [] → bs ≡ decisions t most → all ≡ start ++ layout_by t level bs → all ≡ layout_of t level most
node_text t level most start all bs e is p = fresh start all (layout_by t level bs) e p ∙ laid_by t level most bs is

pub node_wide : (t : Tree) (level most : ℕ) (bs : List Bool) → bs ≡ decisions t most → usize_max < 2 * deepest_by t level bs → usize_max < 2 * deepest t level most
node_wide t level most bs is h = subst (λ n. usize_max < 2 * n) (deepest_all t level most bs is) h

pub node_fits : (t : Tree) (level most : ℕ) (bs : List Bool) → bs ≡ decisions t most → 2 * deepest_by t level bs ≤ usize_max → 2 * deepest t level most ≤ usize_max
node_fits t level most bs is h = subst (λ n. 2 * n ≤ usize_max) (deepest_all t level most bs is) h

-- over several lines

pub lines_text : (t : Tree) (level most : ℕ) (start all : Text) (bs : List Bool) → start ≡ [] → bs ≡ operand_decisions t most → all ≡ start ++ lines_by t level bs → all ≡ lines t level most
lines_text t level most start all bs e is p = fresh start all (lines_by t level bs) e p ∙ lines_laid_by t level most bs is

pub lines_wide : (t : Tree) (level most : ℕ) (bs : List Bool) → bs ≡ operand_decisions t most → usize_max < 2 * lines_deepest_by t level bs → usize_max < 2 * lines_deepest t level most
lines_wide t level most bs is h = subst (λ n. usize_max < 2 * n) (lines_deepest_all t level most bs is) h

pub lines_fits : (t : Tree) (level most : ℕ) (bs : List Bool) → bs ≡ operand_decisions t most → 2 * lines_deepest_by t level bs ≤ usize_max → 2 * lines_deepest t level most ≤ usize_max
lines_fits t level most bs is h = subst (λ n. 2 * n ≤ usize_max) (lines_deepest_all t level most bs is) h

-- arguments

pub args_text : (ts : Trees) (level most : ℕ) (start all : Text) (bs : List Bool) → start ≡ [] → bs ≡ all_decisions ts most → all ≡ start ++ joined_text (codes ",\n") (layouts_by ts level bs) → all ≡ joined_text (codes ",\n") (layouts_of ts level most)
args_text ts level most start all bs e is p = fresh start all (joined_text (codes ",\n") (layouts_by ts level bs)) e p ∙ args_laid_by ts level most bs is

pub args_squeezed : (ts : Trees) (level most : ℕ) (start all : Text) (bs : List Bool) → start ≡ [] → bs ≡ all_decisions ts most → all ≡ start ++ joined_text (codes ",\n") (layouts_by ts level bs) → squeeze all ≡ squeeze (joined_text (codes ", ") (texts ts))
args_squeezed ts level most start all bs e is p = ap squeeze (args_text ts level most start all bs e is p) ∙ (args_alike ts level most).shown

pub args_wide : (ts : Trees) (level most : ℕ) (bs : List Bool) → bs ≡ all_decisions ts most → usize_max < 2 * all_deepest_by ts level bs → usize_max < 2 * deepests ts level most
args_wide ts level most bs is h = subst (λ n. usize_max < 2 * n) (args_deepest_all ts level most bs is) h

pub args_fit : (ts : Trees) (level most : ℕ) (bs : List Bool) → bs ≡ all_decisions ts most → 2 * all_deepest_by ts level bs ≤ usize_max → 2 * deepests ts level most ≤ usize_max
args_fit ts level most bs is h = subst (λ n. 2 * n ≤ usize_max) (args_deepest_all ts level most bs is) h
