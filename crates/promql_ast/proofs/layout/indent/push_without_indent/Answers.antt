use Rattle.std.proofs.Common.{◌++◌, string_bytes, ap, ◌∙◌}
use Rattle.promql_ast.proofs.layouts.Pushes.{without_indent_matches}
use Rattle.promql_ast.proofs.layout.indent.push_without_indent.Goals as goal

pub returns : goal.returns
returns c = c.in_ok-push_str.ensures.bytes ∙ ap (λ t. string_bytes c.args.out.now ++ t) (without_indent_matches c.args.text.now _ c.trim_start_matches.ensures.matches)
