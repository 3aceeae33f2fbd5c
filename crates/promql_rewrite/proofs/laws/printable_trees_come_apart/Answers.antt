use Rattle.promql_rewrite.proofs.laws.printable_trees_come_apart.Goals as goal

pub returns : goal.returns
returns c = λ g t. (λ h. h, λ h. h)
