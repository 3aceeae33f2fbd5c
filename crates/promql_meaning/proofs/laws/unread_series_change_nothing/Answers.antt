use Rattle.std.proofs.Common.{ap, sym, ◌∙◌}
use Rattle.promql_when.specs.MayRead.{may_read}
use Rattle.promql_meaning.specs.Seen.{seen}
use Rattle.promql_meaning.proofs.SeenReadable.{seen_among}
use Rattle.promql_meaning.proofs.laws.unread_series_change_nothing.Goals as goal

pub returns : goal.returns
returns c = record {
  kept = λ s t. seen_among (λ x. may_read x.labels t) s t (λ x is. is);
  apart = λ r s t same.
      seen_among (λ x. may_read x.labels t) r t (λ x is. is) ∙ ap (λ k. seen k t) same ∙ sym (seen_among (λ x. may_read x.labels t) s t (λ x is. is));
}
