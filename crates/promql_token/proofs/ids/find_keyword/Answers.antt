use Rattle.std.proofs.Common.{◌∙◌, ap, filter, get_or}
use Rattle.std.specs.Prelude.{◌==◌}
use Rattle.std.specs.Char.{to_ascii_lowercase}
use Rattle.promql_token.specs.Ids.{keywords, lookup}
use Rattle.promql_token.specs.WordCases.{same_word}
use Rattle.promql_token.proofs.words.Keywords.{among_letter}
use Rattle.promql_token.proofs.ids.find_keyword.Goals as goal

pub returns : goal.returns
returns c =
    let case = c.args.case in
    let word = c.args.word.now in
    c.lookup.ensures
    ∙ ap (λ ks. lookup (same_word case) ks word) c.keywords_of_letter.ensures
    ∙ ap (λ b. lookup (same_word case) (filter (λ k. get_or k.0 0 0 == to_ascii_lowercase b) keywords) word) c.byte.ensures.value
    ∙ among_letter case word
