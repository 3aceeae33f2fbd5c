-- What a walk does to a node's children. Private: nothing rests on believing it.
use Rattle.std.specs.Prelude.{◌≡◌, Bool, Result}
use Rattle.promql_ast.specs.Tree.{Tree, aggregate, unary, binary, paren, subquery, call, extension, absent, present, Trees, no_trees, first_tree}
use Rattle.promql_walk.specs.Changes.{ChangesEach, Edit}
use Rattle.promql_walk.specs.Children.{with_children}

-- the children of a node, by its kind
abbrev pub own_children : Tree → Trees
own_children (aggregate op e absent m) = first_tree e no_trees
own_children (aggregate op e (present p) m) = first_tree p (first_tree e no_trees)
own_children (unary e) = first_tree e no_trees
own_children (binary op l r m) = first_tree l (first_tree r no_trees)
own_children (paren e) = first_tree e no_trees
own_children (subquery e offset at range step) = first_tree e no_trees
own_children (call f args) = args
own_children (extension name gives es) = es
own_children t = no_trees

-- a visitor that was s walks the children of a node that was t
abbrev pub ChangesBelow : {S E : Type 0} → Edit S E → Edit S E → S → Tree → Result Bool E → S → Tree → Type 0
ChangesBelow pre post s t a u x =
    (ys : Trees) × (ChangesEach pre post s (own_children t) a u ys × (x ≡ with_children t ys))
