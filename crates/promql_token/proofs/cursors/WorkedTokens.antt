-- The worked texts, by computing.
use Rattle.std.proofs.Common.{◌≡◌, refl, List}
use Rattle.std.specs.Prelude.{Result}
use Rattle.std.specs.Str.{chars}
use Rattle.promql_token.specs.Ids.{keyword_in_any_case}
use Rattle.promql_token.specs.LexicalFaults.{has_char}
use Rattle.promql_token.specs.Lexing.{lex, cut, found}
use Rattle.promql_token.specs.TokenScanning.{trivia_len, word, word_in_braces, number_end, units, numeral, string, punctuator, outside, in_braces, in_brackets, scan_token, after_trivia, after}
use Rattle.promql_token.specs.TokenRows.{ExampleTokens, ExampleFaults}
use Rattle.promql_token.specs.TokenLists.{IsLexed}
use Rattle.promql_token.specs.declared.fault.LexFault.{LexFault}
use Rattle.promql_token.specs.declared.lexeme.Lexeme.{Lexeme}
use Rattle.promql_text.specs.Texts.{Text}
use Rattle.promql_token.proofs.one_reading.OneReading.{only_tokens}

pub worked_tokens : ExampleTokens (λ s r. lex s ≡ r)
unfolding lex cut found trivia_len keyword_in_any_case word word_in_braces number_end units numeral string punctuator outside in_braces in_brackets scan_token after_trivia after
worked_tokens = record { fill_word = refl; fill_name = refl; or_words = refl; duration = refl; hexadecimal = refl; bare_exponent = refl; comment = refl; raw_string = refl; spaced_colon = refl }

pub worked_faults : ExampleFaults (λ s r. lex s ≡ r)
unfolding lex cut found trivia_len keyword_in_any_case word word_in_braces number_end units numeral string punctuator outside in_braces in_brackets scan_token after_trivia after chars has_char
worked_faults = record { unclosed_paren = refl; after_equal = refl; after_bang = refl; bang_at_end = refl; bang_at_end_in_braces = refl; after_dot = refl; dot_at_end = refl; right_paren = refl; right_brace = refl; right_bracket = refl; character = refl; numeral = refl; numeral_in_brackets = refl; escape = refl; wide_escape = refl; escape_at_end = refl; open_string = refl; after_bang_in_braces = refl; brace_in_braces = refl; in_braces = refl; end_in_braces = refl; second_colon = refl; first_colon = refl; bracket_in_brackets = refl; in_brackets = refl; no_comment = refl; end_in_brackets = refl }

-- ---- the same by the relations

read_by_law : (s : Text) (r : Result (List Lexeme) LexFault) → lex s ≡ r → IsLexed s r
read_by_law s r e = (only_tokens s r).0 e

pub read_tokens : ExampleTokens IsLexed
read_tokens = let w = worked_tokens in record {
  fill_word = read_by_law _ _ w.fill_word;
  fill_name = read_by_law _ _ w.fill_name;
  or_words = read_by_law _ _ w.or_words;
  duration = read_by_law _ _ w.duration;
  hexadecimal = read_by_law _ _ w.hexadecimal;
  bare_exponent = read_by_law _ _ w.bare_exponent;
  comment = read_by_law _ _ w.comment;
  raw_string = read_by_law _ _ w.raw_string;
  spaced_colon = read_by_law _ _ w.spaced_colon;
}

pub read_faults : ExampleFaults IsLexed
read_faults = let w = worked_faults in record {
  unclosed_paren = read_by_law _ _ w.unclosed_paren;
  after_equal = read_by_law _ _ w.after_equal;
  after_bang = read_by_law _ _ w.after_bang;
  bang_at_end = read_by_law _ _ w.bang_at_end;
  bang_at_end_in_braces = read_by_law _ _ w.bang_at_end_in_braces;
  after_dot = read_by_law _ _ w.after_dot;
  dot_at_end = read_by_law _ _ w.dot_at_end;
  right_paren = read_by_law _ _ w.right_paren;
  right_brace = read_by_law _ _ w.right_brace;
  right_bracket = read_by_law _ _ w.right_bracket;
  character = read_by_law _ _ w.character;
  numeral = read_by_law _ _ w.numeral;
  numeral_in_brackets = read_by_law _ _ w.numeral_in_brackets;
  escape = read_by_law _ _ w.escape;
  wide_escape = read_by_law _ _ w.wide_escape;
  escape_at_end = read_by_law _ _ w.escape_at_end;
  open_string = read_by_law _ _ w.open_string;
  after_bang_in_braces = read_by_law _ _ w.after_bang_in_braces;
  brace_in_braces = read_by_law _ _ w.brace_in_braces;
  in_braces = read_by_law _ _ w.in_braces;
  end_in_braces = read_by_law _ _ w.end_in_braces;
  second_colon = read_by_law _ _ w.second_colon;
  first_colon = read_by_law _ _ w.first_colon;
  bracket_in_brackets = read_by_law _ _ w.bracket_in_brackets;
  in_brackets = read_by_law _ _ w.in_brackets;
  no_comment = read_by_law _ _ w.no_comment;
  end_in_brackets = read_by_law _ _ w.end_in_brackets;
}
