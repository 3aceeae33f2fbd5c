use Rattle.std.proofs.Common.{◌∙◌, ap, sym}
use Rattle.promql_meaning.specs.SeenAt.{seen_at}
use Rattle.promql_meaning.proofs.SeenLast.{is_up_to_last, known_up_to_last}
use Rattle.promql_meaning.proofs.SeenOnly.{seen_only}
use Rattle.promql_meaning.proofs.laws.answers_are_final.Goals as goal

pub returns : goal.returns
returns c = λ ts r s t x same.
    sym (seen_only (is_up_to_last ts t x) ts r t x (known_up_to_last ts t x))
    ∙ ap (λ k. seen_at ts k t x) same
    ∙ seen_only (is_up_to_last ts t x) ts s t x (known_up_to_last ts t x)
