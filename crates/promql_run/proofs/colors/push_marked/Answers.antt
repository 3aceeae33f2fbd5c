use Rattle.std.proofs.Common.{◌++◌, ◌∙◌, ap, append_assoc, arith, drop, string_bytes, sym, take}
use Rattle.std.specs.Prelude.{None, Some}
use Rattle.std.proofs.lemmas.Result.{on_ok_weaker}
use Rattle.std.proofs.lemmas.Str.Pattern.{rfind_char}
use Rattle.promql_run.specs.Colors.{painted}
use Rattle.promql_run.proofs.Marks.{marked_at, on_pushed, unmarked}
use Rattle.promql_run.proofs.colors.push_marked.Goals as goal

pub returns-in_ok-push_str-in-Some-clause-painted :
    goal.returns-in_ok-push_str-in-Some-clause-painted
returns-in_ok-push_str-in-Some-clause-painted c =
    let text = c.args.text.now in
    let found = rfind_char 94 text (Some c.in-Some.at) c.in-Some.ensures.cases (omega arith) in
    let line = c.in_ok-push_str-in-Some.ensures.bytes ∙ ap (λ l. string_bytes c.args.out.now ++ l) c.split_at.ensures.front in
    let mark = ap (painted c.args.colors c.args.color.now) c.split_at.ensures.back in
    on_ok_weaker c.push_painted.result
    (λ written.
    written ∙ ap (λ l. string_bytes c.push_str.new.self ++ l) mark ∙ ap (λ l. l ++ painted c.args.colors c.args.color.now (drop c.in-Some.at text)) line
    ∙ append_assoc (string_bytes c.args.out.now) (take c.in-Some.at text) (painted c.args.colors c.args.color.now (drop c.in-Some.at text))
    ∙ ap (λ l. string_bytes c.args.out.now ++ l) (sym (marked_at c.args.colors c.args.color.now text c.in-Some.at found.0 found.1 found.2)))
    c.push_painted.ensures

pub returns-in-None-clause-painted : goal.returns-in-None-clause-painted
returns-in-None-clause-painted c =
    let none = rfind_char 94 c.args.text.now None c.in-None.ensures.cases (omega arith) in
    on_pushed c.push_str-in-None.result (string_bytes c.args.out.now) (string_bytes c.push_str-in-None.new.self) c.args.text.now _ c.push_str-in-None.ensures.bytes
    (sym (unmarked c.args.colors c.args.color.now c.args.text.now none))
