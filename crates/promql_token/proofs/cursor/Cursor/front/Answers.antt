use Rattle.std.proofs.lemmas.Str.{IsCharBoundary-start}
use Rattle.promql_token.proofs.cursor.Cursor.front.Goals as goal

pub invariant_of-result-clause-place : goal.invariant_of-result-clause-place
invariant_of-result-clause-place c = IsCharBoundary-start _ c.utf8.text
