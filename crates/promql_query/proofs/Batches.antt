-- Lines that are read and answered, one more each time.
use Rattle.std.proofs.Common.{◌≡◌, ℕ, List, [], ◌∷◌, ◌++◌, None, Some, inl, inr, refl, sym, ap, ◌∙◌, append_assoc, append-nil, subst}
use Rattle.std.specs.Prelude.{◌&&◌, ◌≢◌, Bool, true, false, Option, map}
use Rattle.std.specs.Io.KnownBytes.{Appends, Consumes, Keeps}
use Rattle.std.specs.List.{AllByRecursion, list_all}
use Rattle.std.proofs.lemmas.List.Elements.{All-head, All-tail}
use Rattle.promql_text.specs.Texts.{Text}
use Rattle.promql_run.proofs.KnownBytes.{appends_keeps, appends_more, appends_none, consumes_more, consumes_none, whole_begun}
use Rattle.promql_query.specs.declared.settings.Settings.{Settings}
use Rattle.promql_query.specs.Batch.{Answer, AnswersBefore, AnswersLines, AreAnswered, AreLines, IsCutShort, IsLineAnswer, IsOpen, ended_lines}
use Rattle.promql_query.specs.BatchSteps.{HasNoFeed, HaveNoFeed, IsAll, IsAnswered, IsLineRead, IsPartRead, IsPartlyAnswered}
use Rattle.promql_query.specs.declared.batch.LineEnd.{LineEnd}
use Rattle.promql_query.specs.declared.batch.LineEnd.TheVariants.{Feed, Input}

-- ---- lists

ended_more : (lines : List Text) (line : Text) → ended_lines (lines ++ line ∷ []) ≡ ended_lines lines ++ (line ++ 10 ∷ [])
ended_more [] line = refl
ended_more (first ∷ lines) line =
    ap (λ rest. first ++ 10 ∷ rest) (ended_more lines line) ∙ sym (append_assoc first (10 ∷ ended_lines lines) (line ++ 10 ∷ []))

none_more : (lines : List Text) (line : Text) → HaveNoFeed lines → HasNoFeed line → HaveNoFeed (lines ++ line ∷ [])
none_more [] line all last = (last, tt)
none_more (first ∷ lines) line all last = (all.0, none_more lines line all.1 last)

each_more : (settings : Settings) (answers : List Answer) (answer : Answer) → AllByRecursion (λ a. IsLineAnswer settings a.line a.text a.is_ok) answers → IsLineAnswer settings answer.line answer.text answer.is_ok → AllByRecursion (λ a. IsLineAnswer settings a.line a.text a.is_ok) (answers ++ answer ∷ [])
each_more settings [] answer each is = (is, tt)
each_more settings (a ∷ answers) answer each is = (each.0, each_more settings answers answer each.1 is)

and_assoc : (a b c : Bool) → (a && (b && c)) ≡ ((a && b) && c)
and_assoc true b c = refl
and_assoc false b c = refl

and_true : (a : Bool) → (a && true) ≡ a
and_true true = refl
and_true false = refl

ok_more : (answers : List Answer) (answer : Answer) → list_all (λ a. a.is_ok) (answers ++ answer ∷ []) ≡ (list_all (λ a. a.is_ok) answers && answer.is_ok)
ok_more [] answer = and_true answer.is_ok
ok_more (a ∷ answers) answer = ap (λ b. a.is_ok && b) (ok_more answers answer) ∙ and_assoc a.is_ok (list_all (λ a. a.is_ok) answers) answer.is_ok

parts_more : (f : Answer → Text) (answers : List Answer) (answer : Answer) → map f answers ++ f answer ∷ [] ≡ map f (answers ++ answer ∷ [])
parts_more f [] answer = refl
parts_more f (a ∷ answers) answer = ap (λ rest. f a ∷ rest) (parts_more f answers answer)

abbrev lines_of : List Answer → List Text
lines_of = map (λ a. a.line)

-- ---- the answers that were written

abbrev texts_of : List Answer → List Text
texts_of = map (λ a. a.text)

-- one more answer was written
written_more : (answers : List Answer) (answer : Answer) (held held_now held_after : Option (List ℕ)) → Appends held held_now (ended_lines (texts_of answers)) → Appends held_now held_after (answer.text ++ 10 ∷ []) → Appends held held_after (ended_lines (texts_of (answers ++ answer ∷ [])))
written_more answers answer held held_now held_after so_far written =
    let texts = texts_of answers in
    let all : ended_lines texts ++ (answer.text ++ 10 ∷ []) ≡ ended_lines (texts_of (answers ++ answer ∷ [])) =
    sym (ended_more texts answer.text) ∙ ap ended_lines (parts_more (λ a. a.text) answers answer) in
    subst (Appends held held_after) all (appends_more held held_now held_after (ended_lines texts) (answer.text ++ 10 ∷ []) so_far written)

-- ---- a batch so far

-- these lines were read and answered, and nothing else
pub record Progress (settings : Settings) (left left_now held held_now : Option (List ℕ)) (all_ok : Bool) : Type 0 where
  pub answers : List Answer
  pub answered : AreAnswered settings left left_now held held_now (ended_lines (lines_of answers)) answers
  pub ok : all_ok ≡ list_all (λ a. a.is_ok) answers

pub nothing_yet : (settings : Settings) (left held : Option (List ℕ)) → Progress settings left left held held true
nothing_yet settings left held = record {
  answers = [];
  answered = record { each = tt; lines = record { single = tt; whole = inl refl }; read = consumes_none left; written = appends_none held };
  ok = refl;
}

-- one more line with its answer
abbrev answer_to : Text → Text → Bool → Answer
answer_to line text is_ok = record { line = line; text = text; is_ok = is_ok }

ok_with : (answers : List Answer) (answer : Answer) (all_ok both : Bool) → all_ok ≡ list_all (λ a. a.is_ok) answers → both ≡ (all_ok && answer.is_ok) → both ≡ list_all (λ a. a.is_ok) (answers ++ answer ∷ [])
ok_with answers answer all_ok both so_far is = is ∙ ap (λ b. b && answer.is_ok) so_far ∙ sym (ok_more answers answer)

pub line_more : (settings : Settings) (left left_now left_after held held_now held_after : Option (List ℕ)) (line : Text) (all_ok is_ok both : Bool) → both ≡ (all_ok && is_ok) → Progress settings left left_now held held_now all_ok → IsLineRead left_now left_after line (Some Feed) → IsAnswered settings line held_now held_after is_ok → Progress settings left left_after held held_after both
line_more settings left left_now left_after held held_now held_after line all_ok is_ok both is so_far read answered =
    let answer = answer_to line answered.0 is_ok in
    let lines = lines_of so_far.answers in
    let more = parts_more (λ a. a.line) so_far.answers answer in
    record {
      answers = so_far.answers ++ answer ∷ [];
      answered = record {
        each = each_more settings so_far.answers answer so_far.answered.each answered.1;
        lines = record { single = subst HaveNoFeed more (none_more lines line so_far.answered.lines.single read.1); whole = inl refl };
        read = subst (Consumes left left_after) (sym (ended_more lines line) ∙ ap ended_lines more) (consumes_more left left_now left_after (ended_lines lines) (line ++ 10 ∷ []) so_far.answered.read read.0);
        written = written_more so_far.answers answer held held_now held_after so_far.answered.written answered.2;
      };
      ok = ok_with so_far.answers answer all_ok both so_far.ok is;
    }

-- what was written stays where it is flushed
pub answered_kept : (settings : Settings) (line : Text) (held held_mid held_after : Option (List ℕ)) (is_ok : Bool) → IsAnswered settings line held held_mid is_ok → Keeps held_mid held_after → IsAnswered settings line held held_after is_ok
answered_kept settings line held held_mid held_after is_ok (answer, is, appends) same = (answer, is, appends_keeps held held_mid held_after (answer ++ 10 ∷ []) appends same)

-- the whole answer is a beginning of it
pub answered_partly : (settings : Settings) (line : Text) (held held_mid held_after : Option (List ℕ)) (is_ok : Bool) → IsAnswered settings line held held_mid is_ok → Keeps held_mid held_after → IsPartlyAnswered settings line held held_after
answered_partly settings line held held_mid held_after is_ok (answer, is, appends) same =
    let text = answer ++ 10 ∷ [] in
    (answer, is_ok, is, whole_begun held held_mid held_after text appends same)

-- ---- how a batch ends

all_read : (left left_now : Option (List ℕ)) (front back : Text) → Consumes left left_now front → IsAll left_now back → IsAll left (front ++ back)
all_read None left_now front back first all = tt
all_read (Some xs) None front back first all = absurd first
all_read (Some xs) (Some ys) front back first all = first ∙ ap (λ rest. front ++ rest) all

pub input_ends : (settings : Settings) (left left_now left_after held held_now held_after : Option (List ℕ)) (line : Text) (all_ok : Bool) → Progress settings left left_now held held_now all_ok → IsLineRead left_now left_after line None → Keeps held_now held_after → AnswersLines settings left left_after held held_after all_ok
input_ends settings left left_now left_after held held_now held_after line all_ok so_far read same =
    let whole = ended_lines (lines_of so_far.answers) in (
      whole,
      so_far.answers,
      record {
        each = so_far.answered.each;
        lines = so_far.answered.lines;
        read = subst (Consumes left left_after) (append-nil whole) (consumes_more left left_now left_after whole [] so_far.answered.read read.0);
        written = appends_keeps held held_now held_after (ended_lines (texts_of so_far.answers)) so_far.answered.written same;
      },
      subst (IsAll left) (append-nil whole) (all_read left left_now whole [] so_far.answered.read read.1),
      so_far.ok,
    )

-- the last byte of a line is none but a line feed
open_line : (front line : Text) → HasNoFeed line → line ≢ [] → IsOpen (front ++ line)
open_line front [] none some = absurd (some refl)
open_line front (b ∷ []) none some = (front, b, refl, All-head (λ x. x ≢ 10) b [] none)
open_line front (b ∷ c ∷ line) none some =
    let rest = open_line (front ++ b ∷ []) (c ∷ line) (All-tail (λ x. x ≢ 10) b (c ∷ line) none) (λ is. cc) in
    subst IsOpen (append_assoc front (b ∷ []) (c ∷ line)) rest

last_lines : (lines : List Text) (line : Text) → HaveNoFeed lines → HasNoFeed line → line ≢ [] → AreLines (ended_lines lines ++ line) (lines ++ line ∷ [])
last_lines lines line single none some = record {
  single = none_more lines line single none;
  whole = inr (open_line (ended_lines lines) line none some, ended_more lines line ∙ sym (append_assoc (ended_lines lines) line (10 ∷ [])));
}

pub last_line_ends : (settings : Settings) (left left_now left_after held held_now held_mid held_after : Option (List ℕ)) (line : Text) (all_ok is_ok both : Bool) → both ≡ (all_ok && is_ok) → Progress settings left left_now held held_now all_ok → IsLineRead left_now left_after line (Some Input) → IsAnswered settings line held_now held_mid is_ok → Keeps held_mid held_after → AnswersLines settings left left_after held held_after both
last_line_ends settings left left_now left_after held held_now held_mid held_after line all_ok is_ok both is so_far read answered same =
    let answer = answer_to line answered.0 is_ok in
    let lines = lines_of so_far.answers in
    let answers = so_far.answers ++ answer ∷ [] in (
      ended_lines lines ++ line,
      answers,
      record {
        each = each_more settings so_far.answers answer so_far.answered.each answered.1;
        lines = subst (AreLines (ended_lines lines ++ line)) (parts_more (λ a. a.line) so_far.answers answer) (last_lines lines line so_far.answered.lines.single read.1 read.3);
        read = consumes_more left left_now left_after (ended_lines lines) line so_far.answered.read read.0;
        written = appends_keeps held held_mid held_after (ended_lines (texts_of answers)) (written_more so_far.answers answer held held_now held_mid so_far.answered.written answered.2) same;
      },
      all_read left left_now (ended_lines lines) line so_far.answered.read read.2,
      ok_with so_far.answers answer all_ok both so_far.ok is,
    )

pub reading_fails : (settings : Settings) (left left_now left_after held held_now : Option (List ℕ)) (all_ok : Bool) → Progress settings left left_now held held_now all_ok → IsPartRead left_now left_after → AnswersBefore settings left left_after held held_now
reading_fails settings left left_now left_after held held_now all_ok so_far part = (left_now, (so_far.answers, so_far.answered), part)

-- a beginning of the answer to the line that was read last was written
begins : (settings : Settings) (left left_now left_after held held_now held_after : Option (List ℕ)) (line input : Text) (all_ok : Bool) → Progress settings left left_now held held_now all_ok → AreLines input (line ∷ []) → Consumes left_now left_after input → IsPartlyAnswered settings line held_now held_after → IsCutShort settings left left_after held held_after
begins settings left left_now left_after held held_now held_after line input all_ok so_far are read part =
    inl (left_now, held_now, (so_far.answers, so_far.answered), (answer_to line part.0 part.1, part.2, (input, are, read, part.3)))

pub writing_fails : (settings : Settings) (left left_now left_after held held_now held_after : Option (List ℕ)) (line : Text) (end : LineEnd) (all_ok : Bool) → Progress settings left left_now held held_now all_ok → IsLineRead left_now left_after line (Some end) → IsPartlyAnswered settings line held_now held_after → IsCutShort settings left left_after held held_after
writing_fails settings left left_now left_after held held_now held_after line Feed all_ok so_far read part =
    begins settings left left_now left_after held held_now held_after line (line ++ 10 ∷ []) all_ok so_far (record { single = (read.1, tt); whole = inl refl }) read.0 part
writing_fails settings left left_now left_after held held_now held_after line Input all_ok so_far read part =
    begins settings left left_now left_after held held_now held_after line line all_ok so_far (last_lines [] line tt read.1 read.3) read.0 part
