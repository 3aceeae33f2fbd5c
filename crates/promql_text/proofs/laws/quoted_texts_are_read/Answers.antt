use Rattle.promql_text.proofs.quoting.QuotedTexts.{quoted_text_is_read}
use Rattle.promql_text.proofs.laws.quoted_texts_are_read.Goals as goal

pub returns : goal.returns
returns c = quoted_text_is_read
