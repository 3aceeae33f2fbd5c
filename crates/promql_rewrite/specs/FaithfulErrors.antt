-- How errors of the parser and of layout are passed on. Private: nothing rests on believing it.
use Rattle.std.specs.Prelude.{◌≡◌}
use Rattle.promql_ast.specs.declared.layout.prettier.PrettyError.{PrettyError}
use Rattle.promql_ast.specs.declared.layout.prettier.PrettyError.TheVariants as layout
use Rattle.promql_syntax.specs.declared.parser.ParseError.{ParseError}
use Rattle.promql_syntax.specs.declared.parser.ParseError.TheVariants as parse
use Rattle.promql_rewrite.specs.declared.faithful.NotFaithful.{NotFaithful}
use Rattle.promql_rewrite.specs.declared.faithful.NotFaithful.TheVariants as faithful

abbrev pub error_of_layout : PrettyError → NotFaithful
error_of_layout layout.Memory = faithful.Memory
error_of_layout layout.IndentTooWide = faithful.IndentTooWide

abbrev pub IsRaised : ParseError → NotFaithful → Type 0
IsRaised parse.Memory e = e ≡ faithful.Memory
IsRaised other e = e ≡ faithful.Rejected other
