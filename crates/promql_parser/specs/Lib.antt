pub use Rattle.promql_syntax.specs.ParseAnswers
pub use Rattle.promql_syntax.specs.Asking
pub use Rattle.promql_syntax.specs.Building
pub use Rattle.promql_syntax.specs.BuildErrors
pub use Rattle.promql_syntax.specs.ParseErrors
pub use Rattle.promql_grammar.specs.SourceTokens
pub use Rattle.promql_syntax.specs.PartBuilding
