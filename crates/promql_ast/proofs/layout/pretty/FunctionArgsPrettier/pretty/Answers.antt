use Rattle.std.proofs.Common.{◌≡◌, ◌∙◌, ◌++◌, ◌*◌, ◌<◌, ◌≤◌, Err, ap, subst, sym, codes, string_bytes}
use Rattle.std.proofs.lemmas.Result.{err_from_is_err_and}
use Rattle.promql_text.specs.Texts.{joined_text}
use Rattle.promql_text.specs.PrintedLen.{usize_max}
use Rattle.promql_ast.specs.Decisions.{all_decisions}
use Rattle.promql_ast.specs.Layout.{deepests, layouts_of}
use Rattle.promql_ast.specs.Lines.{squeeze}
use Rattle.promql_ast.specs.Text.{texts}
use Rattle.promql_ast.specs.View.{trees_of}
use Rattle.promql_ast.specs.declared.layout.prettier.PrettyError.TheVariants.{IndentTooWide}
use Rattle.promql_ast.proofs.layouts.FromEmpty.{args_fit, args_squeezed, args_text, args_wide}
use Rattle.promql_ast.proofs.layout.pretty.FunctionArgsPrettier.pretty.Goals as goal

pub returns-in_err-write_args-clause-wide : goal.returns-in_err-write_args-clause-wide
returns-in_err-write_args-clause-wide c = λ e.
    let same = err_from_is_err_and c.from_residual-in_err-write_args.result c.from_residual-in_err-write_args.ensures.1 in
    let raised : Err same.0 ≡ Err IndentTooWide = sym same.1 ∙ e in
    let own : same.0 ≡ IndentTooWide = cc in
    subst (λ xs. usize_max < 2 * deepests (trees_of xs) c.args.level c.args.max) c.as_slice-args.ensures.value
    (args_wide (trees_of c.as_slice-args.result.now) c.args.level c.args.max _ (c.new-writer.ensures.decisions ∙ c.deref.ensures.value ∙ c.in_ok-measure_args.ensures.decisions ∙ ap (λ s. s ++ all_decisions (trees_of c.as_slice-args.result.now) c.args.max) c.new-measurer.ensures.decisions) (c.in_err-write_args.ensures.wide (ap Err (sym same.2 ∙ own))))

pub returns-clause-text : goal.returns-clause-text
returns-clause-text c =
    args_text (trees_of c.as_slice-args.result.now) c.args.level c.args.max _ (string_bytes c.write_args.new.self.out) _ c.new-writer.ensures.out (c.new-writer.ensures.decisions ∙ c.deref.ensures.value ∙ c.in_ok-measure_args.ensures.decisions ∙ ap (λ s. s ++ all_decisions (trees_of c.as_slice-args.result.now) c.args.max) c.new-measurer.ensures.decisions) c.in_ok-write_args.ensures.text
    ∙ ap (λ xs. joined_text (codes ",\n") (layouts_of (trees_of xs) c.args.level c.args.max)) c.as_slice-args.ensures.value

pub returns-clause-keeps : goal.returns-clause-keeps
returns-clause-keeps c =
    args_squeezed (trees_of c.as_slice-args.result.now) c.args.level c.args.max _ (string_bytes c.write_args.new.self.out) _ c.new-writer.ensures.out (c.new-writer.ensures.decisions ∙ c.deref.ensures.value ∙ c.in_ok-measure_args.ensures.decisions ∙ ap (λ s. s ++ all_decisions (trees_of c.as_slice-args.result.now) c.args.max) c.new-measurer.ensures.decisions) c.in_ok-write_args.ensures.text
    ∙ ap (λ xs. squeeze (joined_text (codes ", ") (texts (trees_of xs)))) c.as_slice-args.ensures.value

pub returns-clause-fits : goal.returns-clause-fits
returns-clause-fits c = subst (λ xs. 2 * deepests (trees_of xs) c.args.level c.args.max ≤ usize_max) c.as_slice-args.ensures.value
    (args_fit (trees_of c.as_slice-args.result.now) c.args.level c.args.max _ (c.new-writer.ensures.decisions ∙ c.deref.ensures.value ∙ c.in_ok-measure_args.ensures.decisions ∙ ap (λ s. s ++ all_decisions (trees_of c.as_slice-args.result.now) c.args.max) c.new-measurer.ensures.decisions) c.in_ok-write_args.ensures.fits)
