-- From what a token list gives to the answer to its text.
use Rattle.std.proofs.Common.{◌≡◌, ◌≢◌, ℕ, ◌<◌, ◌≤◌, ⊎_elim, true, false, Bool, List, [], ◌∷◌, ◌++◌, length, map, None, refl, sym, ap, ◌∙◌, subst, arith}
use Rattle.std.specs.Prelude.{Result, Ok, Err, not}
use Rattle.std.proofs.lemmas.Bool.{cases_lt}
use Rattle.std.proofs.lemmas.List.{length-map}
use Rattle.promql_text.specs.Texts.{Text}
use Rattle.promql_token.specs.declared.fault.LexFault.{LexFault}
use Rattle.promql_grammar.specs.declared.token_kinds.TokenKind.{TokenKind}
use Rattle.promql_grammar.specs.declared.token_kinds.TokenKind.TheVariants as kind
use Rattle.promql_grammar.specs.declared.read_error.ReadError.{ReadError}
use Rattle.promql_grammar.specs.declared.read_error.ReadError.TheVariants as read_errors
use Rattle.promql_grammar.specs.Results.{on_result}
use Rattle.promql_grammar.specs.Symbols.{Symbol, symbol, symbol_of, token_kind, punct, word, begins, may_begin, is_plus_or_minus, is_word_operator}
use Rattle.promql_grammar.specs.Grammar.{Derivation, number, duration, string, selector, nameless, paren, postfixed, unary, yield, height, IsWellFormed}
use Rattle.promql_grammar.specs.SymbolsLeft.{fault_symbol}
use Rattle.promql_grammar.specs.SourceTokens.{Token, tokens, has_any}
use Rattle.promql_grammar.proofs.KnownKinds.{last_is_known}
use Rattle.promql_grammar.proofs.NoneFit.{none_spells}
use Rattle.promql_grammar.proofs.Unique.{one_derivation}
use Rattle.promql_grammar.proofs.Sound.{height_yield}
use Rattle.promql_ast.specs.Height.{height as tree_height}
use Rattle.promql_ast.specs.Tree.{Tree}
use Rattle.promql_ast.specs.Typed.{Typed}
use Rattle.promql_syntax.specs.ParseAnswers.{PlainParseError, memory, lexical, empty, syntax, too_deep, fault, plain_error_of, Derives, IsServed, IsAnswerTo}
use Rattle.promql_syntax.specs.Asking.{Ends}
use Rattle.promql_syntax.specs.PartBuilding.{on_error}
use Rattle.promql_syntax.specs.Building.{build}
use Rattle.promql_syntax.specs.BuildErrors.{BuildError, build_error_of, build_fault_of}
use Rattle.promql_syntax.specs.ParseErrors.{error_of, error_of_build, error_of_fault, first_error}
use Rattle.promql_syntax.specs.declared.parser.ParseError.{ParseError}
use Rattle.promql_syntax.specs.declared.grammar.build_error.BuildError as code
use Rattle.promql_syntax.specs.declared.grammar.build_error.BuildFault.{BuildFault}
use Rattle.promql_syntax.specs.declared.grammar.build_error.BuildFault.TheVariants as variant
use Rattle.promql_syntax.specs.ParsesQuery.{ParsesQuery, IsQueryValue}
use Rattle.promql_grammar.proofs.Listing.{some_zero}
use Rattle.promql_syntax.proofs.readback.CanonicalTexts.{text_reads_back}
use Rattle.promql_syntax.proofs.building.Ending.{ends_under}
use Rattle.promql_syntax.proofs.building.BuiltTyped.{CheckedTyped, IsGood, all_ends, build_good}

-- a text with a lexical fault derives nothing, nor does one with no token
abbrev IsFault : {A : Type 0} → Result A LexFault → Type 0
IsFault (Ok x) = ⊥
IsFault (Err e) = Unit {0}

fault_none : (text : Text) (f : LexFault) → tokens text ≡ Err f → (d : Derivation) → ¬ (Derives text d)
fault_none text f is d derives = subst IsFault (sym (ap (on_result (map symbol_of)) is) ∙ derives.spells) tt

some_height : (d : Derivation) → 0 < height d
some_height (postfixed d p) = omega (arith, some_height d)
some_height d = omega arith

empty_none : (text : Text) → tokens text ≡ Ok [] → (d : Derivation) → ¬ (Derives text d)
empty_none text is d derives =
    let both : Ok [] ≡ Ok (yield d) = sym (ap (on_result (map symbol_of)) is) ∙ derives.spells in
    let none : [] ≡ yield d = cc in
    absurd (omega (arith, ap length none, some_height d, height_yield d))

-- ---- answers without parsing

-- an error is the answer where nothing can be derived, it isn't one of building, and the tokens agree
none_answer : (text : Text) (e : PlainParseError) → ((d : Derivation) → ¬ (Derives text d)) → ((f : BuildError) → e ≢ fault f) → e ≢ syntax → e ≢ too_deep → e ≢ memory
    → ((e ≡ empty → tokens text ≡ Ok []) × (tokens text ≡ Ok [] → e ≡ empty))
    → ((f : LexFault) → (e ≡ lexical f → tokens text ≡ Err f) × (tokens text ≡ Err f → e ≡ lexical f)) → IsAnswerTo text (Err e)
none_answer text e none build_errors no_syntax no_deep no_memory is_empty is_lexical = record {
  served = λ own. (
    [],
    record {
      allowed = tt;
      built = none_built build_errors;
      only = λ d derives low. absurd (none d derives);
      reads_back = λ g single t same. cc;
    },
  );
  syntax = λ is d derives. none d derives;
  too_deep = λ is. absurd (no_deep (cc));
  empty = (λ is. is_empty.0 (cc), λ is. ap Err (is_empty.1 is));
  lexical = λ f. (λ is. (is_lexical f).0 (cc), λ is. ap Err ((is_lexical f).1 is));
  early = λ token rest is none same. no_memory (cc);
  typed = λ t is. cc;
  low = λ t is. cc;
}
  where
    none_built : ((f : BuildError) → e ≢ fault f) → (result : Result Tree BuildError) → Err e ≡ on_error fault result → (d : Derivation) × Derives text d × (height d ≤ 512) × Ends (build d) [] result
    none_built build_errors (Ok t) is = cc
    none_built build_errors (Err f) is = let same : e ≡ fault f = cc in absurd (build_errors f same)

pub empty_answer : (text : Text) → tokens text ≡ Ok [] → IsAnswerTo text (Err empty)
empty_answer text none =
    none_answer text empty (empty_none text none) (λ f is. cc) (λ is. cc) (λ is. cc) (λ is. cc)
    (λ _. none, λ _. refl) (λ f. (λ is. cc, λ is. cc))

pub fault_answer : (text : Text) (f : LexFault) → tokens text ≡ Err f → IsAnswerTo text (Err (lexical f))
fault_answer text f is =
    none_answer text (lexical f) (fault_none text f is) (λ other e. cc) (λ e. cc) (λ e. cc) (λ e. cc)
    (λ e. cc, λ e. cc) (λ other. (λ e. let same : f ≡ other = cc in is ∙ ap Err same, λ e. let same : f ≡ other = cc in ap lexical same))

-- ---- answers of parsing

-- where an expression may begin with a token, a derivation does
Lookahead : Symbol → Type 0
Lookahead t = (d : Derivation) × (others : List Symbol) × IsWellFormed d × (yield d ≡ t ∷ others)

operator_front : (op : ℕ) (text : Text) (signed named : Bool) → is_plus_or_minus op ≡ signed → is_word_operator op ≡ named → may_begin (kind.Operator op) ≡ true → Lookahead (word (kind.Operator op) text)
unfolding Lookahead
operator_front op text true named is_punct is_name may = (unary op text (number []), word kind.Number [] ∷ [], (is_punct, tt, tt), refl)
operator_front op text false true is_punct is_name may = (selector (kind.Operator op) text None, [], is_name, refl)
operator_front op text false false is_punct is_name may = cc

front_derivation : (k : TokenKind) (text : Text) (us : List Symbol) → begins (symbol k text ∷ us) ≡ true → Lookahead (symbol k text)
unfolding Lookahead
front_derivation kind.Number text us may = (number text, [], tt, refl)
front_derivation kind.Duration text us may = (duration text, [], tt, refl)
front_derivation kind.String text us may = (string text, [], tt, refl)
front_derivation (kind.Operator op) text us may = operator_front op text (is_plus_or_minus op) (is_word_operator op) refl refl may
front_derivation kind.LeftParen text us may = (paren (number []), word kind.Number [] ∷ punct kind.RightParen ∷ [], tt, refl)
front_derivation kind.LeftBrace text us may = (nameless None, punct kind.RightBrace ∷ [], tt, refl)
front_derivation kind.Identifier text us may = (selector kind.Identifier text None, [], refl, refl)
front_derivation kind.MetricIdentifier text us may = (selector kind.MetricIdentifier text None, [], refl, refl)
front_derivation (kind.Aggregator op) text us may = (selector (kind.Aggregator op) text None, [], refl, refl)
front_derivation kind.By text us may = (selector kind.By text None, [], refl, refl)
front_derivation kind.Without text us may = (selector kind.Without text None, [], refl, refl)
front_derivation kind.Offset text us may = (selector kind.Offset text None, [], refl, refl)
front_derivation kind.Start text us may = (selector kind.Start text None, [], refl, refl)
front_derivation kind.End text us may = (selector kind.End text None, [], refl, refl)
front_derivation kind.Smoothed text us may = (selector kind.Smoothed text None, [], refl, refl)
front_derivation kind.Anchored text us may = (selector kind.Anchored text None, [], refl, refl)
front_derivation k text us may = cc

-- what was built tells its result
same_result : (r s : Result Tree BuildError) → on_error fault r ≡ on_error fault s → r ≡ s
same_result (Ok t) (Ok u) same = cc
same_result (Err e) (Err f) same = cc
same_result (Ok t) (Err f) same = cc
same_result (Err e) (Ok u) same = cc

-- for a text whose tokens are of these kinds
module _ (text : Text) (list : List Token) (is : tokens text ≡ Ok list) (some : 0 < length list) (ts : List Symbol) (kinds : ts ≡ map symbol_of list) where
  yield_is : (d : Derivation) → Derives text d → yield d ≡ ts
  yield_is d derives =
      let both : Ok (yield d) ≡ Ok (map symbol_of list) = sym derives.spells ∙ ap (on_result (map symbol_of)) is in
      let same : yield d ≡ map symbol_of list = cc in
      same ∙ sym kinds

  derives_of : (d : Derivation) → IsWellFormed d → yield d ≡ ts → Derives text d
  derives_of d formed spells = record {
    formed = formed;
    spells = ap (on_result (map symbol_of)) is ∙ ap Ok (sym (spells ∙ kinds));
  }

  not_empty : ¬ (tokens text ≡ Ok [])
  not_empty none = let same : list ≡ [] = cc in omega (arith, ap length same)

  no_fault : (f : LexFault) → ¬ (tokens text ≡ Err f)
  no_fault f faulty = cc

  no_memory : begins ts ≡ true → (token : Token) (rest : List Token) → tokens text ≡ Ok (token ∷ rest)
      → ¬ ((d : Derivation) (others : List Symbol) → IsWellFormed d → yield d ≢ symbol_of token ∷ others)
  unfolding Lookahead
  no_memory may token rest first none =
      let same : list ≡ token ∷ rest = let both : Ok list ≡ Ok (token ∷ rest) = sym is ∙ first in cc in
      let front = front_derivation (token_kind token.0) token.1 (map symbol_of rest) (sym (ap begins (kinds ∙ ap (map symbol_of) same)) ∙ may) in
      none front.0 front.1 front.2 front.3

  built_of_whole : (r : Result Tree BuildError) (whole : IsQueryValue 512 ts r) → IsServed text whole.answers (on_error fault r)
  built_of_whole r whole = record {
    allowed = whole.allowed;
    built = λ result same. (
      whole.derivation,
      derives_of whole.derivation whole.formed whole.spells,
      whole.low,
      subst (Ends (build whole.derivation) whole.answers) (same_result r result same) whole.is,
    );
    only = λ d derives low. (
      r,
      subst (λ e. Ends (build e) whole.answers r) (one_derivation whole.derivation d whole.formed derives.formed (whole.spells ∙ sym (yield_is d derives))) whole.is,
      refl,
    );
    reads_back = λ g single t same. text_reads_back g text t (
      whole.derivation,
      derives_of whole.derivation whole.formed whole.spells,
      whole.low,
      sym (ends_under g (build whole.derivation) whole.answers r whole.is single) ∙ same_result r (Ok t) same,
    );
  }

  whole_good : CheckedTyped → (t : Tree) (whole : IsQueryValue 512 ts (Ok t)) → IsGood (height whole.derivation) t
  whole_good law t whole = all_ends (IsGood (height whole.derivation)) (build whole.derivation) whole.answers t (build_good law whole.derivation) whole.is

  pub tree_answer : CheckedTyped → (t : Tree) → IsQueryValue 512 ts (Ok t) → IsAnswerTo text (Ok t)
  tree_answer law t whole = record {
    served = λ own. (whole.answers, built_of_whole (Ok t) whole);
    syntax = λ same. cc;
    too_deep = λ same. cc;
    empty = (λ same. cc, λ none. absurd (not_empty none));
    lexical = λ f. (λ same. cc, λ faulty. absurd (no_fault f faulty));
    early = λ token rest is none same. cc;
    typed = λ u same. let good = whole_good law t whole in let one : t ≡ u = cc in subst Typed one good.typed;
    low = λ u same.
        let good = whole_good law t whole in
        let low = good.low in
        let bound = whole.low in
        let one : t ≡ u = cc in
        omega (arith, ap tree_height one);
  }

  pub building_answer : (f : BuildError) → IsQueryValue 512 ts (Err f) → IsAnswerTo text (Err (fault f))
  building_answer f whole = record {
    served = λ own. (whole.answers, built_of_whole (Err f) whole);
    syntax = λ same. cc;
    too_deep = λ same. cc;
    empty = (λ same. cc, λ none. absurd (not_empty none));
    lexical = λ e. (λ same. cc, λ faulty. absurd (no_fault e faulty));
    early = λ token rest is none same. cc;
    typed = λ t same. cc;
    low = λ t same. cc;
  }

  -- the same, as an error of the parser
  build_fault_answer : (f : BuildFault) → IsQueryValue 512 ts (Err (build_fault_of f)) → IsAnswerTo text (Err (plain_error_of (error_of_fault f)))
  build_fault_answer (variant.Number f) whole = building_answer _ whole
  build_fault_answer variant.Quoted whole = building_answer _ whole
  build_fault_answer (variant.Duration f) whole = building_answer _ whole
  build_fault_answer (variant.At f) whole = building_answer _ whole
  build_fault_answer (variant.Pattern value) whole = building_answer _ whole
  build_fault_answer (variant.UnknownFunction name) whole = building_answer _ whole
  build_fault_answer (variant.Check f) whole = building_answer _ whole

  pub build_error_answer : (f : code.BuildError) → IsQueryValue 512 ts (Err (build_error_of f)) → IsAnswerTo text (Err (plain_error_of (error_of_build f)))
  build_error_answer f whole = build_fault_answer f.fault whole

  -- nothing that is low enough has the tokens
  none_served : (e : PlainParseError) → ((f : BuildError) → e ≢ fault f) → ((d : Derivation) → IsWellFormed d → height d ≤ 512 → ¬ (yield d ≡ ts)) → IsServed text [] (Err e)
  none_served e build_errors none = record {
    allowed = tt;
    built = none_built e build_errors;
    only = λ d derives low. absurd (none d derives.formed low (yield_is d derives));
    reads_back = λ g single t same. cc;
  }
    where
      none_built : (e : PlainParseError) → ((f : BuildError) → e ≢ fault f) → (result : Result Tree BuildError) → Err e ≡ on_error fault result → (d : Derivation) × Derives text d × (height d ≤ 512) × Ends (build d) [] result
      none_built e build_errors (Ok t) same = cc
      none_built e build_errors (Err f) same = let one : e ≡ fault f = cc in absurd (build_errors f one)

  pub read_error_answer : (rest : List Symbol) (error : ReadError) → ParsesQuery 512 ts rest (Err error) → (error ≡ read_errors.Memory → begins ts ≡ true) → IsAnswerTo text (Err (plain_error_of (error_of error)))
  read_error_answer rest read_errors.Memory whole begun = record {
    served = λ own. absurd (own refl);
    syntax = λ same. cc;
    too_deep = λ same. cc;
    empty = (λ same. cc, λ none. absurd (not_empty none));
    lexical = λ f. (λ same. cc, λ faulty. absurd (no_fault f faulty));
    early = λ token rest first none same. no_memory (begun refl) token rest first none;
    typed = λ t same. cc;
    low = λ t same. cc;
  }
  read_error_answer rest read_errors.Syntax whole begun = record {
    served = λ own. ([], none_served syntax (λ f same. cc) (λ d formed low. none_spells ts rest whole d formed));
    syntax = λ same d derives. none_spells ts rest whole d derives.formed (yield_is d derives);
    too_deep = λ same. cc;
    empty = (λ same. cc, λ none. absurd (not_empty none));
    lexical = λ f. (λ same. cc, λ faulty. absurd (no_fault f faulty));
    early = λ token rest first none same. cc;
    typed = λ t same. cc;
    low = λ t same. cc;
  }
  read_error_answer rest read_errors.TooDeep whole begun = record {
    served = λ own. ([], none_served too_deep (λ f same. cc) whole.1);
    syntax = λ same. cc;
    too_deep = λ same. (
      (list, is, let many = whole.0 in let count = ap length kinds ∙ length-map list symbol_of in omega arith),
      λ d derives. ⊎_elim (λ high. high) (λ low. absurd (whole.1 d derives.formed low (yield_is d derives))) (cases_lt 512 (height d)),
    );
    empty = (λ same. cc, λ none. absurd (not_empty none));
    lexical = λ f. (λ same. cc, λ faulty. absurd (no_fault f faulty));
    early = λ token rest first none same. cc;
    typed = λ t same. cc;
    low = λ t same. cc;
  }

-- ---- answers to any text

-- an error of parsing, where the text has tokens and no lexical fault
pub rejection_answer : (text : Text) (e : ParseError) → ((list : List Token) → tokens text ≡ Ok list → 0 < length list → IsAnswerTo text (Err (plain_error_of e)))
    → IsAnswerTo text (Err (plain_error_of (first_error (has_any (tokens text)) e)))
rejection_answer text e listed = by_tokens (tokens text) refl
  where
    by_tokens : (r : Result (List Token) LexFault) → tokens text ≡ r → IsAnswerTo text (Err (plain_error_of (first_error (has_any r) e)))
    by_tokens (Ok []) is = empty_answer text is
    by_tokens (Ok (t ∷ ts)) is = subst (λ b. IsAnswerTo text (Err (plain_error_of (first_error (Ok b) e)))) (sym (ap not (some_zero (length ts)))) (listed (t ∷ ts) is (omega arith))
    by_tokens (Err f) is = fault_answer text f is

-- a tree of all symbols of the text, of which none is a lexical fault then
pub drawn_answer : CheckedTyped → (text : Text) (ts : List Symbol) → ((list : List Token) → tokens text ≡ Ok list → ts ≡ map symbol_of list)
    → ((f : LexFault) → tokens text ≡ Err f → (before : List Symbol) × (ts ≡ before ++ fault_symbol ∷ []))
    → (t : Tree) → IsQueryValue 512 ts (Ok t) → IsAnswerTo text (Ok t)
drawn_answer law text ts whole faulty t value = by_tokens (tokens text) refl
  where
    by_tokens : (r : Result (List Token) LexFault) → tokens text ≡ r → IsAnswerTo text (Ok t)
    by_tokens (Ok []) is =
        let none : yield value.derivation ≡ [] = value.spells ∙ whole [] is in
        absurd (omega (arith, ap length none, some_height value.derivation, height_yield value.derivation))
    by_tokens (Ok (u ∷ us)) is = tree_answer text (u ∷ us) is (omega arith) ts (whole (u ∷ us) is) law t value
    by_tokens (Err f) is = let mark = faulty f is in absurd (last_is_known value.derivation mark.0 [] value.formed (value.spells ∙ mark.1))
