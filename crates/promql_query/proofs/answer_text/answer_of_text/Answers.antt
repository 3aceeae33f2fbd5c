use Rattle.std.proofs.Common.{◌≡◌, ◌++◌, [], ◌∷◌, ap, ◌∙◌, codes, string_bytes, rules}
use Rattle.json.specs.Print.{print}
use Rattle.json.specs.Token as token
use Rattle.serde_json.proofs.Texts.{print-outline}
use Rattle.serde_json.specs.Data.{string}
use Rattle.promql_query.proofs.JsonTexts.{ok_object, ok_text}
use Rattle.promql_query.proofs.answer_text.answer_of_text.Goals as goal

pub returns : goal.returns
returns c =
    let written : c.end_object.new.self.tokens ≡ token.begin_object ∷ token.key (codes "ok") ∷ token.string c.args.value.now ∷ token.end_object ∷ []
    = rw (c.in_ok-end_object.ensures.ok, c.in_ok-string.ensures.ok, c.in_ok-key.ensures.ok, c.in_ok-begin_object.ensures.ok, c.new-answer.ensures.tokens) in
    let before : c.end_object.new.self.before ≡ []
    = rw (c.in_ok-end_object.ensures.room.0, c.in_ok-string.ensures.room.0, c.in_ok-key.ensures.room.0, c.in_ok-begin_object.ensures.room.0, c.new-answer.ensures.before, c.in_ok-with_capacity.ensures.items) in
    let bytes : string_bytes c.in-Ok.text ≡ c.into_inner.result.items = search rules in
    bytes ∙ c.into_inner.ensures.items ∙ ap (λ b. b ++ print c.end_object.new.self.tokens) before ∙ ap print written ∙ print-outline (ok_object (string c.args.value.now)) ∙ ok_text (string c.args.value.now)
