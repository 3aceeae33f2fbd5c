use Rattle.std.proofs.Common.{sym}
use Rattle.promql_label.proofs.order.OneSorting.{one_sorting}
use Rattle.promql_label.proofs.readback.PrintedTokens.{texts_sorted}
use Rattle.promql_label.proofs.laws.sorted_matchers_are_one_list.Goals as goal

pub returns : goal.returns
returns c = record { one = one_sorting; texts = λ cs. sym (texts_sorted cs) }
