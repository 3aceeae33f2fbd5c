use Rattle.promql_ast.proofs.at_modifier.+digits_len.Given as goal

abbrev pub decreases-digits_len : goal.decreases-digits_len
decreases-digits_len a = a.n
