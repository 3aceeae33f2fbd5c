use Rattle.promql_ast.proofs.laws.arguments_are_lists.Goals as goal
use Rattle.promql_ast.proofs.nodes.ArgumentLists.{appended, counted, each_is_list, first_is, layouts_are, texts_are}

pub returns : goal.returns
returns c = record { all = each_is_list; append = appended; count = counted; first = first_is; texts = texts_are; layouts = layouts_are }
