-- Trees that differ in parentheses alone, by the kind of each node. Private: nothing rests on believing it.
use Rattle.std.specs.Prelude.{ℕ, Option}
use Rattle.promql_text.specs.Texts.{Text}
use Rattle.promql_kind.specs.Functions.{Signature}
use Rattle.promql_kind.specs.Modifiers.{Clause, Matching}
use Rattle.promql_kind.specs.declared.value.ValueType.{ValueType}
use Rattle.promql_ast.specs.Shifts.{Shift, Moment}
use Rattle.promql_ast.specs.Tree.{Tree, aggregate, unary, binary, paren, subquery, call, extension, MaybeTree, absent, present, Trees, no_trees, first_tree}

mutual
  -- the second tree has the parentheses of the first, and maybe more: without those it is the first
  pub data AddsByNode : Tree → Tree → Type 0 where
    same : {t : Tree} → AddsByNode t t
    added : {t u : Tree} → AddsByNode t u → AddsByNode t (paren u)
    in_aggregate : {op : ℕ} {e f : Tree} {p q : MaybeTree} {m : Option Clause}
        → AddsByNode e f → MaybeAddsByNode p q → AddsByNode (aggregate op e p m) (aggregate op f q m)
    in_unary : {e f : Tree} → AddsByNode e f → AddsByNode (unary e) (unary f)
    in_binary : {op : ℕ} {l r k s : Tree} {m : Option Matching}
        → AddsByNode l k → AddsByNode r s → AddsByNode (binary op l r m) (binary op k s m)
    in_paren : {e f : Tree} → AddsByNode e f → AddsByNode (paren e) (paren f)
    in_subquery : {e f : Tree} {offset : Option Shift} {at : Option Moment} {range : ℕ} {step : Option ℕ}
        → AddsByNode e f → AddsByNode (subquery e offset at range step) (subquery f offset at range step)
    in_call : {f : Signature} {ts us : Trees} → AllAddByNode ts us → AddsByNode (call f ts) (call f us)
    in_extension : {name : Text} {gives : ValueType} {ts us : Trees}
        → AllAddByNode ts us → AddsByNode (extension name gives ts) (extension name gives us)

  pub data MaybeAddsByNode : MaybeTree → MaybeTree → Type 0 where
    neither : MaybeAddsByNode absent absent
    both : {e f : Tree} → AddsByNode e f → MaybeAddsByNode (present e) (present f)

  pub data AllAddByNode : Trees → Trees → Type 0 where
    no_more : AllAddByNode no_trees no_trees
    one_more : {t u : Tree} {ts us : Trees} → AddsByNode t u → AllAddByNode ts us → AllAddByNode (first_tree t ts) (first_tree u us)
