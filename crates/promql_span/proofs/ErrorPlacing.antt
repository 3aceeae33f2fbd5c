-- From what parsing finds to the place of an error.
use Rattle.std.proofs.Common.{◌≡◌, ◌≢◌, ℕ, ◌<◌, ◌≤◌, ◌-◌, ◌^◌, inl, inr, ◌⊎◌, ⊎_elim, List, [], ◌∷◌, length, map, drop, refl, sym, ap, ◌∙◌, subst, arith}
use Rattle.std.specs.Prelude.{Result, Ok, Err, Some, not}
use Rattle.std.proofs.lemmas.Bool.{cases_lt}
use Rattle.std.proofs.lemmas.List.{drop-map, drop_all, length-map, length-append}
use Rattle.std.proofs.Math.Seq.{drop-append_seam}
use Rattle.promql_text.specs.Texts.{Text}
use Rattle.promql_token.specs.declared.fault.LexFault.{LexFault}
use Rattle.promql_token.specs.declared.fault.LexFaultKind.{LexFaultKind}
use Rattle.promql_token.specs.declared.fault.LexFaultKind.TheVariants.{UnclosedParen}
use Rattle.promql_token.specs.Lexing as lexing
use Rattle.promql_token.specs.Lexing.{slice_texts}
use Rattle.promql_grammar.specs.declared.read_error.ReadError.{ReadError}
use Rattle.promql_grammar.specs.declared.read_error.ReadError.TheVariants as read_errors
use Rattle.promql_grammar.specs.Misfits.{AreMisfits}
use Rattle.promql_grammar.specs.Symbols.{Symbol, symbol_of}
use Rattle.promql_grammar.specs.SourceTokens.{Token, tokens, has_any}
use Rattle.promql_span.specs.PlacedTokens.{end_of, first_span, last_tokens, placed_tokens, symbols_at}
use Rattle.promql_span.specs.TokensPlaced.{TokensArePlaced}
use Rattle.promql_span.specs.TokenSpans.{IsAtTokens, span_over}
use Rattle.promql_span.specs.SpanSteps.{in_range}
use Rattle.promql_span.specs.declared.span.Span.{Span}
use Rattle.promql_span.specs.declared.diagnosis.Finding.{Finding}
use Rattle.promql_span.specs.declared.diagnosis.Finding.TheVariants.{Misfit, Fault}
use Rattle.promql_syntax.specs.declared.grammar.build_error.BuildFault.{BuildFault}
use Rattle.promql_syntax.specs.declared.grammar.build_error.BuildFault.TheVariants as faults
use Rattle.promql_syntax.specs.declared.grammar.place.Place.{Place}
use Rattle.promql_syntax.specs.declared.grammar.place.Place.TheVariants.{Tokens}
use Rattle.promql_syntax.specs.declared.grammar.place.TokenRange.{TokenRange}
use Rattle.promql_syntax.specs.declared.parser.ParseError.{ParseError}
use Rattle.promql_syntax.specs.declared.parser.ParseError.TheVariants as errors
use Rattle.promql_span.proofs.TokenRanges.{span_at}
use Rattle.promql_span.specs.ErrorPlaces.{IsAtBuildFault, IsAtError, IsAtFault, IsPlaceOf}
use Rattle.promql_span.specs.CharSpans.{IsCharAt}
use Rattle.promql_span.specs.Findings.{HasFault, IsFindingOf, IsFound, IsFoundAt, IsMisfit, IsPlacedError, IsPlacedFault}
use Rattle.promql_grammar.specs.Results.{on_result}
use Rattle.promql_syntax.specs.BuildErrors.{BuildError, build_error_of, build_fault_of}
use Rattle.promql_syntax.specs.ParsesQuery.{HasPlace}
use Rattle.promql_syntax.specs.Placing.{AreTokens}
use Rattle.promql_syntax.specs.declared.grammar.build_error.BuildError as code
use Rattle.promql_syntax.specs.FaultTokens.{fault_tokens}
use Rattle.promql_syntax.specs.ParseAnswers as plain
use Rattle.promql_syntax.specs.ParseAnswers.{PlainParseError, plain_error_of}
use Rattle.promql_syntax.specs.ParseErrors.{error_of, error_of_fault, first_error}
use Rattle.promql_grammar.proofs.Listing.{some_zero, whole_list}

-- ---- the tokens of a text with their places

module _ (law : TokensArePlaced) (s : Text) (list : List Token) (is : tokens s ≡ Ok list) where
  placed_symbols : symbols_at s (placed_tokens s) ≡ map symbol_of list
  placed_symbols =
      let whole = whole_list (lexing.tokens s) list is in
      ap (map symbol_of) (sym (law s whole.0 whole.1) ∙ whole.2)

  placed_length : length (placed_tokens s) ≡ length list
  placed_length =
      sym (length-map (slice_texts s (placed_tokens s)) symbol_of ∙ length-map (placed_tokens s) _) ∙ ap length placed_symbols ∙ length-map list symbol_of

  pub placed_some : 0 < length list → 0 < length (placed_tokens s)
  placed_some some = let same = placed_length in omega arith

-- tokens that do not fit are the last ones
dropped_rest : (ts rest : List Symbol) → AreMisfits ts rest → drop (length ts - length rest) ts ≡ rest
dropped_rest ts rest misfits =
    let lengths = ap length misfits.1 ∙ length-append misfits.0 rest in
    let front : length ts - length rest ≡ length misfits.0 = omega arith in
    ap (λ k. drop k ts) front ∙ ap (drop (length misfits.0)) misfits.1 ∙ drop-append_seam misfits.0 rest

dropped_symbols : (s : Text) (k : ℕ) → symbols_at s (drop k (placed_tokens s)) ≡ drop k (symbols_at s (placed_tokens s))
dropped_symbols s k = sym (ap (map symbol_of) (drop-map _ k (placed_tokens s))) ∙ sym (drop-map symbol_of k (slice_texts s (placed_tokens s)))

module _ (law : TokensArePlaced) (s : Text) (list : List Token) (is : tokens s ≡ Ok list) (rest : List Symbol) (misfits : AreMisfits (map symbol_of list) rest) where
  left_symbols : symbols_at s (last_tokens (length rest) (placed_tokens s)) ≡ rest
  left_symbols =
      let many : length (placed_tokens s) ≡ length (map symbol_of list) = placed_length law s list is ∙ sym (length-map list symbol_of) in
      ap (λ n. symbols_at s (drop (n - length rest) (placed_tokens s))) many
      ∙ dropped_symbols s (length (map symbol_of list) - length rest)
      ∙ ap (drop (length (map symbol_of list) - length rest)) (placed_symbols law s list is)
      ∙ dropped_rest (map symbol_of list) rest misfits

  -- no more are left than there are
  pub rest_short : length rest ≤ length (placed_tokens s)
  rest_short =
      let lengths = ap length misfits.1 ∙ length-append misfits.0 rest in
      let many = placed_length law s list is ∙ sym (length-map list symbol_of) in
      omega arith

  pub misfit_found : (left : ℕ) → left ≡ length rest → IsMisfit s (Misfit left)
  misfit_found left is_left =
      let symbols = ap (λ n. symbols_at s (last_tokens n (placed_tokens s))) is_left ∙ left_symbols in
      subst (λ ts. AreMisfits ts (symbols_at s (last_tokens left (placed_tokens s)))) (sym (placed_symbols law s list is)) (subst (AreMisfits (map symbol_of list)) (sym symbols) misfits)

-- ---- what was found tells the place

fault_found : (s : Text) (f : BuildFault) (place : Place) → 0 < length (placed_tokens s) → IsPlacedFault s (build_fault_of f) place → IsFound s (error_of_fault f) (Fault place)
fault_found s (faults.Number f) place some placed = (some, placed)
fault_found s faults.Quoted place some placed = (some, placed)
fault_found s (faults.Duration f) place some placed = (some, placed)
fault_found s (faults.At f) place some placed = (some, placed)
fault_found s (faults.Pattern value) place some placed = (some, placed)
fault_found s (faults.UnknownFunction name) place some placed = (some, placed)
fault_found s (faults.Check f) place some placed = (some, placed)

pub building_found : TokensArePlaced → (s : Text) (f : BuildFault) (place : Place) → ((list : List Token) → tokens s ≡ Ok list → IsPlacedFault s (build_fault_of f) place) → IsFound s (first_error (has_any (tokens s)) (error_of_fault f)) (Fault place)
building_found law s f place placed = by_tokens (tokens s) refl
  where
    by_tokens : (r : Result (List Token) LexFault) → tokens s ≡ r → IsFound s (first_error (has_any r) (error_of_fault f)) (Fault place)
    by_tokens (Ok []) is = tt
    by_tokens (Ok (t ∷ ts)) is =
        subst (λ b. IsFound s (first_error (Ok b) (error_of_fault f)) (Fault place)) (sym (ap not (some_zero (length ts))))
        (fault_found s f place (placed_some law s (t ∷ ts) is (omega arith)) (placed (t ∷ ts) is))
    by_tokens (Err e) is = tt

error_found : (s : Text) (e : ReadError) (found : Finding) → IsFindingOf s e found → IsFound s (error_of e) found
error_found s read_errors.Memory found finding = tt
error_found s read_errors.Syntax found finding = finding
error_found s read_errors.TooDeep found finding = finding

pub reading_found : (s : Text) (e : ReadError) (found : Finding) → ((list : List Token) → tokens s ≡ Ok list → 0 < length list → IsFindingOf s e found)
    → IsFound s (first_error (has_any (tokens s)) (error_of e)) found
reading_found s e found finding = by_tokens (tokens s) refl
  where
    by_tokens : (r : Result (List Token) LexFault) → tokens s ≡ r → IsFound s (first_error (has_any r) (error_of e)) found
    by_tokens (Ok []) is = tt
    by_tokens (Ok (t ∷ ts)) is =
        subst (λ b. IsFound s (first_error (Ok b) (error_of e)) found) (sym (ap not (some_zero (length ts)))) (error_found s e found (finding (t ∷ ts) is (omega arith)))
    by_tokens (Err f) is = tt

fault_place : (s : Text) (e : ParseError) (found : Finding) (span : Span) → HasFault s (plain_error_of e) found → IsFoundAt s e found span → IsAtError s e span
fault_place s e (Misfit left) span has at = absurd has
fault_place s e (Fault place) span has at = at has

pub found_place : (s : Text) (e : ParseError) (found : Finding) (span : Span) → e ≢ errors.Memory → ((f : LexFault) → e ≢ errors.Lex f) → e ≢ errors.Empty
    → IsFound s e found → IsFoundAt s e found span → IsPlaceOf s e (Some span)
found_place s errors.Memory found span memory lexical empty is at = absurd (memory refl)
found_place s (errors.Lex f) found span memory lexical empty is at = absurd (lexical f refl)
found_place s errors.Empty found span memory lexical empty is at = absurd (empty refl)
found_place s errors.Syntax (Misfit left) span memory lexical empty is at = (left, (is, at))
found_place s errors.Syntax (Fault place) span memory lexical empty is at = absurd is
found_place s errors.TooDeep found span memory lexical empty is at = fault_place s errors.TooDeep found span is at
found_place s (errors.Number f) found span memory lexical empty is at = fault_place s (errors.Number f) found span is at
found_place s errors.Quoted found span memory lexical empty is at = fault_place s errors.Quoted found span is at
found_place s (errors.Duration f) found span memory lexical empty is at = fault_place s (errors.Duration f) found span is at
found_place s (errors.At f) found span memory lexical empty is at = fault_place s (errors.At f) found span is at
found_place s (errors.Pattern value) found span memory lexical empty is at = fault_place s (errors.Pattern value) found span is at
found_place s (errors.UnknownFunction name) found span memory lexical empty is at = fault_place s (errors.UnknownFunction name) found span is at
found_place s (errors.Check f) found span memory lexical empty is at = fault_place s (errors.Check f) found span is at

-- ---- the tokens of a fault

pub placed_fault : TokensArePlaced → (s : Text) (list : List Token) → tokens s ≡ Ok list → length (placed_tokens s) < 2 ^ 64 → (n : ℕ) (ts : List Symbol) → ts ≡ map symbol_of list → n ≡ length ts → (e : code.BuildError) → (n < 2 ^ 64 → HasPlace n ts e)
    → IsPlacedFault s (build_error_of e) e.place
placed_fault law s list is few n ts symbols count e placed =
    let many : n ≡ length (placed_tokens s) = count ∙ ap length symbols ∙ length-map list symbol_of ∙ sym (placed_length law s list is) in
    let there = placed (omega arith) in
    let fault = there.fault in
    record {
      derivation = there.derivation;
      derives = record { formed = there.formed; spells = ap (on_result (map symbol_of)) is ∙ ap Ok (sym symbols ∙ sym there.spells) };
      sub = fault.sub;
      first = fault.first;
      there = subst (λ k. AreTokens k (fault_tokens (build_error_of e) fault.sub.0 fault.sub.1) e.place) many fault.place;
    }

fault_at : (s : Text) (e : BuildError) (place : Place) (span : Span) → IsPlacedFault s e place → IsAtTokens s span
    → ((range : TokenRange) → place ≡ Tokens range → 0 < length (in_range range 0 (placed_tokens s)) → span ≡ span_over s (in_range range 0 (placed_tokens s))) → IsAtBuildFault s e span
fault_at s e place span placed at is =
    (placed.derivation, placed.derives, placed.sub, placed.first, span_at s (fault_tokens e placed.sub.0 placed.sub.1) place span placed.there is)

same_fault : (e f : BuildError) → plain.fault e ≡ plain.fault f → e ≡ f
same_fault e f same = cc

pub placed_at : (s : Text) (e : PlainParseError) (place : Place) (span : Span) → (0 < length (placed_tokens s)) × IsPlacedError s e place → (0 < length (placed_tokens s) → IsAtTokens s span)
    → ((range : TokenRange) → place ≡ Tokens range → 0 < length (in_range range 0 (placed_tokens s)) → span ≡ span_over s (in_range range 0 (placed_tokens s)))
    → IsAtTokens s span × ((f : BuildError) → e ≡ plain.fault f → IsAtBuildFault s f span)
placed_at s (plain.fault e) place span has at is = (at has.0, λ f same. subst (λ f. IsAtBuildFault s f span) (same_fault e f same) (fault_at s e place span has.1 (at has.0) is))
placed_at s plain.memory place span has at is = (at has.0, λ f same. cc)
placed_at s (plain.lexical f) place span has at is = (at has.0, λ f same. cc)
placed_at s plain.empty place span has at is = (at has.0, λ f same. cc)
placed_at s plain.syntax place span has at is = (at has.0, λ f same. cc)
placed_at s plain.too_deep place span has at is = (at has.0, λ f same. cc)

-- a misfit is no fault
pub found_misfit : (s : Text) (e : ParseError) (left : ℕ) (span : Span) → span ≡ first_span s (last_tokens left (placed_tokens s)) → IsFoundAt s e (Misfit left) span
found_misfit s e left span is = is

-- ---- lexical faults

pub char_fault : (s : Text) (at : ℕ) (kind : LexFaultKind) (span : Span) → kind ≢ UnclosedParen → (at < length s → IsCharAt s at span) × (length s ≤ at → span ≡ end_of s) → IsAtFault s at kind span
char_fault s at UnclosedParen span other is = absurd (other refl)
char_fault s at kind span other is = is

-- the first of the last tokens, or the end
pub token_or_end : (s : Text) (left : ℕ) (span : Span) → span ≡ first_span s (last_tokens left (placed_tokens s)) → (0 < left → 0 < length (placed_tokens s) → IsAtTokens s span)
    → IsAtTokens s span ⊎ (span ≡ end_of s)
token_or_end s left span is at =
    ⊎_elim
    (λ some. ⊎_elim (λ has. inl (at some has)) (λ none. inr (is ∙ ap (first_span s) (drop_all (length (placed_tokens s) - left) (placed_tokens s) (omega arith)))) (cases_lt 0 (length (placed_tokens s))))
    (λ none. inr (is ∙ ap (first_span s) (drop_all (length (placed_tokens s) - left) (placed_tokens s) (omega arith))))
    (cases_lt 0 left)
