use Rattle.std.proofs.Common.{◌∙◌, sym}
use Rattle.promql_label.proofs.regex_answers.EmptyText.{holds_nowhere, holds_otherwise, no_word_beside}
use Rattle.promql_label.proofs.empty_text.holds.Goals as goal

pub returns-in-WordAscii : goal.returns-in-WordAscii
returns-in-WordAscii c = no_word_beside c.args.look c.in-WordAscii.is ∙ sym (holds_nowhere c.args.look)

pub returns-in_default : goal.returns-in_default
returns-in_default c =
    let w = c.in_default in
    holds_otherwise c.args.look w.not-WordAscii w.not-WordUnicode w.not-WordStartAscii w.not-WordEndAscii w.not-WordStartUnicode w.not-WordEndUnicode ∙ sym (holds_nowhere c.args.look)
