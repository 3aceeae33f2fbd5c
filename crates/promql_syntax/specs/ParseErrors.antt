-- The errors of the parser as errors of a text. Private: nothing rests on believing it.
use Rattle.std.specs.Prelude.{Bool, true, false, Result, Ok, Err}
use Rattle.promql_token.specs.declared.fault.LexFault.{LexFault}
use Rattle.promql_grammar.specs.declared.read_error.ReadError.{ReadError}
use Rattle.promql_grammar.specs.declared.read_error.ReadError.TheVariants as read_errors
use Rattle.promql_syntax.specs.declared.grammar.build_error.BuildError.{BuildError}
use Rattle.promql_syntax.specs.declared.grammar.build_error.BuildFault.{BuildFault}
use Rattle.promql_syntax.specs.declared.grammar.build_error.BuildFault.TheVariants as build_faults
use Rattle.promql_syntax.specs.declared.parser.ParseError.{ParseError}
use Rattle.promql_syntax.specs.declared.parser.ParseError.TheVariants.{Memory, Lex, Empty, Syntax, TooDeep, Number, Quoted, Duration, At, Pattern, UnknownFunction, Check}

abbrev pub error_of : ReadError → ParseError
error_of read_errors.Memory = Memory
error_of read_errors.Syntax = Syntax
error_of read_errors.TooDeep = TooDeep

-- a fault of building
abbrev pub error_of_fault : BuildFault → ParseError
error_of_fault (build_faults.Number f) = Number f
error_of_fault build_faults.Quoted = Quoted
error_of_fault (build_faults.Duration f) = Duration f
error_of_fault (build_faults.At f) = At f
error_of_fault (build_faults.Pattern value) = Pattern value
error_of_fault (build_faults.UnknownFunction name) = UnknownFunction name
error_of_fault (build_faults.Check f) = Check f

abbrev pub error_of_build : BuildError → ParseError
error_of_build e = error_of_fault e.fault

-- a lexical fault comes first, then that there is no token, then what was found
abbrev pub first_error : Result Bool LexFault → ParseError → ParseError
first_error (Ok true) found = found
first_error (Ok false) found = Empty
first_error (Err f) found = Lex f
