use Rattle.promql_span.proofs.unexpected.write_firsts.Goals as goal

pub returns : goal.returns
returns g c = c.write_joined_by.ensures.styled (λ name. name.now) (λ _ _ _ _ writes. writes)
