use Rattle.std.proofs.Common.{ap, sym, ◌∙◌}
use Rattle.promql_rewrite.specs.Enforcing.{enforced}
use Rattle.promql_meaning.specs.Seen.{seen}
use Rattle.promql_meaning.proofs.SeenEnforced.{seen_again}
use Rattle.promql_meaning.proofs.laws.enforced_queries_see_only_what_is_allowed.Goals as goal

pub returns : goal.returns
returns c = record {
  kept = λ s c t h. seen_again c s t h;
  apart = λ r s c t h same. seen_again c r t h ∙ ap (λ k. seen k (enforced c t)) same ∙ sym (seen_again c s t h);
}
