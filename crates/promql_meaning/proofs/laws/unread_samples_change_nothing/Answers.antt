use Rattle.std.proofs.Common.{◌∙◌, ap, sym}
use Rattle.promql_rewrite.specs.Selecting.{selects}
use Rattle.promql_when.specs.Reads.{is_read, lies_within, reads, windows}
use Rattle.promql_when.specs.Windows.{asked}
use Rattle.promql_when.proofs.AskedTimes.{asked_above, asked_below, asked_is, whole}
use Rattle.promql_when.proofs.WithinWindows.{inside_windows}
use Rattle.promql_meaning.specs.SeenAt.{seen_at}
use Rattle.promql_meaning.proofs.SeenOnly.{seen_only}
use Rattle.promql_meaning.proofs.laws.unread_samples_change_nothing.Goals as goal

pub returns : goal.returns
returns c = record {
  read = λ ts s t x. seen_only (λ labels y. is_read (λ s. selects s labels) y (reads ts t x)) ts s t x (λ labels y is. is);
  apart = λ ts r s t x same.
      sym (seen_only (λ labels y. is_read (λ s. selects s labels) y (reads ts t x)) ts r t x (λ labels y is. is))
      ∙ ap (λ k. seen_at ts k t x) same
      ∙ seen_only (λ labels y. is_read (λ s. selects s labels) y (reads ts t x)) ts s t x (λ labels y is. is);
  windows = λ ts s t x asks. seen_only (λ labels y. lies_within (λ s. selects s labels) y (windows ts t (asked ts))) ts s t x
      (λ labels y read. ap (λ w. lies_within (λ s. selects s labels) y (windows ts t w)) (asked_is ts x asks)
      ∙ inside_windows (λ s. selects s labels) y ts t (whole ts) x (asked_above ts x asks) (asked_below ts x asks) read);
}
