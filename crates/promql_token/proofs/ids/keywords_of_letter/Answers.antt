use Rattle.std.proofs.Common.{◌-◌, ◌∙◌, ap, sym, take}
use Rattle.std.proofs.lemmas.List.{drop-map, take-map}
use Rattle.promql_token.proofs.ids.keywords_of_letter.Goals as goal

pub returns : goal.returns
returns c =
    let start = c.range_of_letter-start.result.0 in
    let many = c.range_of_letter-start.result.1 - start in
    sym (take-map _ many _) ∙ ap (take many) (sym (drop-map _ start _)) ∙ c.range_of_letter-start.ensures.keywords
