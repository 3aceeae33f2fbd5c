use Rattle.std.proofs.Common.{[], ◌∷◌, ◌∙◌, ap, codes, option_map, refl, rules, sym}
use Rattle.std.proofs.lemmas.Result.{IfOk-equal}
use Rattle.json.specs.Token as token
use Rattle.serde_json.specs.Data.{boolean, string}
use Rattle.promql_kind.specs.ModifierViews.{matching_of}
use Rattle.promql_ast.specs.OptionalModifiers.{returns_bool}
use Rattle.promql_ast.specs.View.{tree_of}
use Rattle.promql_ast.specs.declared.expr.Expr.{the_lemmas}
use Rattle.promql_ast.proofs.nodes.NodeParts.{tree_of_call}
use Rattle.promql_json.specs.JsonFaults.{json_fault}
use Rattle.promql_json.specs.JsonParts.{matching_json, or_null}
use Rattle.promql_json.specs.FormNames.{token_json}
use Rattle.promql_json.specs.JsonTokens.{member, tree_tokens}
use Rattle.promql_json.proofs.JsonTokens.{ok_after}
use Rattle.promql_json.proofs.nodes.+text.Goals as goal

pub write_paren-returns : goal.write_paren-returns
write_paren-returns t c =
    let r = c.end_node.result in
    let inner = rw c.deref.ensures at c.in_ok-write_expr.ensures in
    IfOk-equal r _ _ _
    (ok_after r c.args.out.now _ _ (token.begin_object ∷ token.key (codes "expr") ∷ []) _ c.in_ok-begin_with.ensures
    (ok_after r c.begin_with.new.self _ _ (tree_tokens (tree_of c.args.node.now.expr.value)) _ inner c.end_node.ensures)) refl

pub write_unary-returns : goal.write_unary-returns
write_unary-returns t c =
    let r = c.end_node.result in
    let inner = rw c.deref.ensures at c.in_ok-write_expr.ensures in
    IfOk-equal r _ _ _
    (ok_after r c.args.out.now _ _ (token.begin_object ∷ token.key (codes "expr") ∷ []) _ c.in_ok-begin_with.ensures
    (ok_after r c.begin_with.new.self _ _ (tree_tokens (tree_of c.args.node.now.expr.value)) _ inner
    (ok_after r c.write_expr.new.out _ _ (member (codes "op") (string (codes "-"))) _ c.in_ok-string_member.ensures c.end_node.ensures))) refl

pub write_binary-returns : goal.write_binary-returns
write_binary-returns t c =
    let r = c.end_node.result in
    let node = c.args.node.now in
    let bool = rw c.return_bool.ensures at c.in_ok-bool_member.ensures in
    let left = rw c.deref.ensures at c.in_ok-write_expr.ensures in
    let right = rw c.deref-2.ensures at c.in_ok-write_expr-2.ensures in
    IfOk-equal r _ _ _
    (ok_after r c.args.out.now _ _ (token.begin_object ∷ []) _ c.in_ok-begin_object.ensures
    (ok_after r c.begin_object.new.self _ _ (member (codes "bool") (boolean (returns_bool (option_map matching_of node.modifier)))) _ bool
    (ok_after r c.bool_member.new.self _ _ (token.key (codes "lhs") ∷ []) _ c.in_ok-key.ensures
    (ok_after r c.key.new.self _ _ (tree_tokens (tree_of node.lhs.value)) _ left
    (ok_after r c.write_expr.new.out _ _ (member (codes "matching") (or_null matching_json (option_map matching_of node.modifier))) _ c.in_ok-write_matching.ensures
    (ok_after r c.write_matching.new.out _ _ (member (codes "op") (token_json node.op)) _ c.in_ok-write_op.ensures
    (ok_after r c.write_op.new.out _ _ (token.key (codes "rhs") ∷ []) _ c.in_ok-key-2.ensures
    (ok_after r c.key-2.new.self _ _ (tree_tokens (tree_of node.rhs.value)) _ right c.end_node.ensures)))))))) refl

pub write_expr-write_call-requires : goal.write_expr-write_call-requires
write_expr-write_call-requires t c = (search (rules, the_lemmas), sym (ap json_fault (ap tree_of c.in-Call.is ∙ tree_of_call c.in-Call.e)) ∙ c.requires)
