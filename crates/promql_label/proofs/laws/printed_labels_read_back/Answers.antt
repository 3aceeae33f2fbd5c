use Rattle.promql_label.proofs.readback.ReadLabels.{label_again, name_again, no_number}
use Rattle.promql_label.proofs.laws.printed_labels_read_back.Goals as goal

pub returns : goal.returns
returns c = record { labels = label_again; no_numbers = no_number; names = name_again }
