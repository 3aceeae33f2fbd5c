-- The pass over the tokens of a derivation, guided by the tree that it builds, finds its nodes.
use Rattle.std.proofs.Common.{◌≡◌, inl, inr, ℕ, ◌+◌, ◌≤◌, Bool, true, false, cond, not, List, [], ◌∷◌, ◌++◌, Option, None, refl, sym, ap, subst, ◌∙◌, arith, append_assoc, append-nil, drop, length, length-append, map, min, Some}
use Rattle.std.specs.Prelude.{◌==◌, ◌&&◌, ◌||◌}
use Rattle.std.proofs.lemmas.Bool.{eqb-true}
use Rattle.std.proofs.lemmas.Bool.Decides.{nat_tests}
use Rattle.promql_text.specs.Texts.{Text}
use Rattle.promql_token.specs.declared.ids.TheConstants.{T_ADD, T_POW, T_SUB}
use Rattle.promql_grammar.specs.declared.token_kinds.TokenKind.{TokenKind}
use Rattle.promql_grammar.specs.declared.token_kinds.TokenKind.TheVariants as kind
use Rattle.promql_grammar.specs.Grammar as grammar
use Rattle.promql_grammar.specs.Grammar.{Derivation, Arguments, yield, yield_arguments, precedence, openness, FitsLeft, FitsMatching, IsBase, IsWellFormed, AreWellFormed, OpensNoParen}
use Rattle.promql_grammar.specs.GrammarParts as part
use Rattle.promql_grammar.specs.GrammarParts.{Braces, Clause, Matching, Fills, no_fill, IsMatching, yield_after, yield_before, yield_fills, yield_modifier, yield_postfix}
use Rattle.promql_grammar.specs.Symbols.{Symbol, punct, word, begins, is_plus_or_minus, is_word_operator, may_be_called, may_be_name}
use Rattle.promql_grammar.proofs.Complete.{begins_here}
use Rattle.promql_grammar.proofs.GrammarChoices.{if_false}
use Rattle.promql_grammar.proofs.Precedences.{is_power}
use Rattle.promql_grammar.specs.PartTokens.{yield_rest, IsClause, yield_any_braces}
use Rattle.promql_ast.specs.Tree.{Tree, aggregate, unary, binary, paren, subquery, number, string, vector, matrix, call, MaybeTree, absent, present, Trees, first_tree}
use Rattle.promql_kind.specs.Modifiers.{Clause as TreeClause}
use Rattle.promql_syntax.specs.Building.{build, build_all}
use Rattle.promql_syntax.specs.FaultTokens.{Subexpression, rest_count}
use Rattle.promql_syntax.proofs.readback.CheckedAgain.{arguments}
use Rattle.promql_places.specs.NodeParts.{PartTokens, clause_parts, matching_parts, parts}
use Rattle.promql_places.specs.Pieces.{piece, postfix_kind}
use Rattle.promql_places.proofs.LyingParts.{after_parts, before_parts, clause_is}
use Rattle.promql_places.specs.NodePlaces.{argument_nodes, has_node, is_number, nodes, nodes_below}
use Rattle.promql_places.specs.PartSteps as step
use Rattle.promql_places.specs.PartSteps.{PartSpan, Step, Taken, also, and_then}
use Rattle.promql_places.specs.Passing.{NodeSpan, Passed, around, begin, inside, pass, pass_all, skip_empty, then_pass, then_skip, then_take}
use Rattle.promql_places.specs.Skipping.{front, is_grouping_word, is_left_brace, is_shift, is_sign, kinds, skip_power_signs, skip_signs, when}
use Rattle.promql_places.specs.declared.parts.PartKind.TheVariants as sort
use Rattle.promql_places.proofs.BuiltTrees.{Alike, Gives, MinusOf, PostfixOf, Queried, Ranged, Sort, UnaryOf, more_arguments, no_arguments, others, queries, ranges, selects, shape, sort_of}
use Rattle.promql_places.proofs.SignedTrees.{IsSigned, is_number_tree, number_is, plus_first, sign_skipped, signed}
use Rattle.promql_places.proofs.TakeSteps.{no_shift}
use Rattle.promql_places.proofs.TakenParts.{HasNoParenWord, IsShift, any_braces_taken, braces_taken, first_is, grouping_taken, kinds_count, kinds_length, operator_taken, postfix_is, range_skipped, shift_taken, span_is, span_of, spans, spans_joined, subquery_skipped}

-- ---- places by counts

abbrev pub count_of : Subexpression → NodeSpan
count_of sub = ((length (yield sub.1) + sub.0, sub.0), spans (parts sub.0 sub.1))

abbrev pub counts : List Subexpression → List NodeSpan
counts subs = map count_of subs

counts_joined : (xs ys : List Subexpression) → counts (xs ++ ys) ≡ counts xs ++ counts ys
counts_joined [] ys = refl
counts_joined (x ∷ xs) ys = ap (λ l. count_of x ∷ l) (counts_joined xs ys)

-- ---- what comes after an expression

-- tokens that go on with none of an expression's forms, but maybe with a shift
pub record Free (ks : List TokenKind) : Type 0 where
  pub brace : is_left_brace (front ks) ≡ false
  pub clause : is_grouping_word (front ks) ≡ false

abbrev pub IsStill : List TokenKind → Type 0
IsStill ks = is_shift (front ks) ≡ false

-- a selector and a subquery take shifts
abbrev after_sort : Sort → Step
after_sort selects ks = step.shifts ks
after_sort ranges ks = step.shifts ks
after_sort (queries e) ks = step.shifts ks
after_sort others ks = ([], ks)

abbrev StillAfter : Sort → List TokenKind → Type 0
StillAfter others ks = IsStill ks
StillAfter s ks = Unit {0}

after_still : (s : Sort) (ks : List TokenKind) → IsStill ks → after_sort s ks ≡ ([], ks)
after_still selects ks h = no_shift ks h
after_still ranges ks h = no_shift ks h
after_still (queries e) ks h = no_shift ks h
after_still others ks h = refl

still_after : (s : Sort) (ks : List TokenKind) → IsStill ks → StillAfter s ks
still_after selects ks h = tt
still_after ranges ks h = tt
still_after (queries e) ks h = tt
still_after others ks h = h

-- ---- signs

name_no_sign : (k : TokenKind) → may_be_name k ≡ true → is_sign k ≡ false
name_no_sign (kind.Operator op) h = word_no_sign op h
  where
    word_no_sign : (op : ℕ) → is_word_operator op ≡ true → is_plus_or_minus op ≡ false
    word_no_sign op h = grind (arith, nat_tests)
name_no_sign k h = refl

name_no_brace : (k : TokenKind) → may_be_name k ≡ true → is_left_brace k ≡ false
name_no_brace kind.LeftBrace h = cc
name_no_brace k h = refl

called_no_sign : (k : TokenKind) → may_be_called k ≡ true → is_sign k ≡ false
called_no_sign (kind.Operator op) h = cc
called_no_sign k h = refl

-- a base begins with no sign
base_no_sign : (d : Derivation) (rest : List Symbol) → IsWellFormed d → IsBase d → skip_signs (kinds (yield d ++ rest)) ≡ kinds (yield d ++ rest)
base_no_sign (grammar.number t) rest h b = refl
base_no_sign (grammar.duration t) rest h b = refl
base_no_sign (grammar.string t) rest h b = refl
base_no_sign (grammar.selector k t o) rest h b = if_false _ _ _ (name_no_sign k h)
base_no_sign (grammar.nameless None) rest h b = refl
base_no_sign (grammar.nameless (Some is)) rest h b = refl
base_no_sign (grammar.paren d) rest h b = refl
base_no_sign (grammar.call k t ds) rest h b = if_false _ _ _ (called_no_sign k h.0)
base_no_sign (grammar.aggregate op t c ds) rest h b = refl
base_no_sign (grammar.postfixed d p) rest h b =
    ap (λ ts. skip_signs (kinds ts)) (append_assoc (yield d) (yield_postfix p) rest)
    ∙ base_no_sign d (yield_postfix p ++ rest) h.0 h.1
    ∙ sym (ap kinds (append_assoc (yield d) (yield_postfix p) rest))
base_no_sign (grammar.unary op t d) rest h b = absurd b
base_no_sign (grammar.binary op t m l r) rest h b = absurd b

-- no expression begins with a parenthesis that has a text
name_no_paren : (k : TokenKind) (t : Text) (rest : List Symbol) → may_be_name k ≡ true → HasNoParenWord (word k t ∷ rest)
name_no_paren kind.LeftParen t rest h = cc
name_no_paren k t rest h = tt

called_no_paren : (k : TokenKind) (t : Text) (rest : List Symbol) → may_be_called k ≡ true → HasNoParenWord (word k t ∷ rest)
called_no_paren kind.LeftParen t rest h = cc
called_no_paren k t rest h = tt

no_paren_word : (d : Derivation) (rest : List Symbol) → IsWellFormed d → HasNoParenWord (yield d ++ rest)
no_paren_word (grammar.number t) rest h = tt
no_paren_word (grammar.duration t) rest h = tt
no_paren_word (grammar.string t) rest h = tt
no_paren_word (grammar.selector k t o) rest h = name_no_paren k t (yield_any_braces o ++ rest) h
no_paren_word (grammar.nameless None) rest h = tt
no_paren_word (grammar.nameless (Some is)) rest h = tt
no_paren_word (grammar.paren d) rest h = tt
no_paren_word (grammar.call k t ds) rest h = called_no_paren k t (punct kind.LeftParen ∷ (yield_arguments [] ds ++ rest)) h.0
no_paren_word (grammar.aggregate op t c ds) rest h = tt
no_paren_word (grammar.postfixed d p) rest h = subst HasNoParenWord (sym (append_assoc (yield d) (yield_postfix p) rest)) (no_paren_word d (yield_postfix p ++ rest) h.0)
no_paren_word (grammar.unary op t d) rest h = tt
no_paren_word (grammar.binary op t m l r) rest h =
    subst HasNoParenWord (sym (append_assoc (yield l) (word (kind.Operator op) t ∷ (yield_modifier m ++ yield r)) rest)) (no_paren_word l (word (kind.Operator op) t ∷ ((yield_modifier m ++ yield r) ++ rest)) h.0)

-- ---- what the pass finds

-- of an expression before these tokens, from which this is taken
abbrev found : Derivation → List Symbol → Taken → Passed
found d rest r = (spans (parts (length rest) d) ++ r.0, counts (nodes_below (length rest) d), r.1)

abbrev Lands : Derivation → Tree → Type 0
Lands d t = (rest : List Symbol) → Free (kinds rest) → StillAfter (sort_of t) (kinds rest)
    → inside t (kinds (yield d ++ rest)) ≡ found d rest (after_sort (sort_of t) (kinds rest))

abbrev passed_nodes : List Subexpression → List TokenKind → Passed
passed_nodes subs ks = ([], counts subs, ks)

abbrev PassesOver : Derivation → Tree → Type 0
PassesOver d t = (rest : List Symbol) → Free (kinds rest) → IsStill (kinds rest) → pass t (kinds (yield d ++ rest)) ≡ passed_nodes (nodes (length rest) d) (kinds rest)

passes_over : (d : Derivation) (t : Tree) → Lands d t → PassesOver d t
passes_over d t lands rest free still =
    let own = append-nil (spans (parts (length rest) d)) in
    ap (around (kinds (yield d ++ rest))) (lands rest free (still_after (sort_of t) (kinds rest) still) ∙ ap (found d rest) (after_still (sort_of t) (kinds rest) still))
    ∙ (λ i. ([], ((kinds_count (yield d) rest i, kinds_length rest i), own i) ∷ counts (nodes_below (length rest) d), kinds rest))

lands_as : (d : Derivation) (t u : Tree) → t ≡ u → Lands d u → Lands d t
lands_as d t u same lands = subst (Lands d) (sym same) lands

-- ---- selectors

selector_lands : (k : TokenKind) (t : Text) (b : Option Braces) (s : _) → may_be_name k ≡ true → Lands (grammar.selector k t b) (vector s)
selector_lands k t b s name rest free still =
    let own = span_is sort.Name (length (kinds (word k t ∷ (yield_any_braces b ++ rest)))) (length (kinds (yield_any_braces b ++ rest))) 1 (length (yield_any_braces b) + length rest) (omega (arith, kinds_count (yield_any_braces b) rest)) (kinds_count (yield_any_braces b) rest) in
    ap (λ ks. then_take (begin []) (λ js. and_then (step.selector ks) step.shifts)) (if_false _ _ _ (name_no_sign k name))
    ∙ ap (λ (r : Taken). then_take (begin []) (λ js. and_then (and_then r step.braces) step.shifts)) (if_false (is_left_brace k) _ _ (name_no_brace k name))
    ∙ ap (λ (r : Taken). then_take (begin []) (λ js. and_then r step.shifts)) (first_is _ _ _ _ own (any_braces_taken b rest free.brace))

nameless_lands : (b : Braces) (s : _) → Lands (grammar.nameless b) (vector s)
nameless_lands None s rest free still = refl
nameless_lands (Some is) s rest free still = ap (λ (r : Taken). then_take (begin []) (λ js. and_then r step.shifts)) (braces_taken (Some is) rest)

-- ---- the ends of parts

free_punct : (k : TokenKind) (ts : List Symbol) → is_left_brace k ≡ false → is_grouping_word k ≡ false → Free (kinds (punct k ∷ ts))
free_punct k ts h g = record { brace = h; clause = g }

free_word : (k : TokenKind) (t : Text) (ts : List Symbol) → is_left_brace k ≡ false → is_grouping_word k ≡ false → Free (kinds (word k t ∷ ts))
free_word k t ts h g = record { brace = h; clause = g }

postfix_free : (p : part.Postfix) (rest : List Symbol) → Free (kinds (yield_postfix p ++ rest))
postfix_free (part.range r) rest = record { brace = refl; clause = refl }
postfix_free (part.subquery r s) rest = record { brace = refl; clause = refl }
postfix_free (part.at_number s t) rest = record { brace = refl; clause = refl }
postfix_free (part.at_bound start t) rest = record { brace = refl; clause = refl }
postfix_free (part.offset t s u) rest = record { brace = refl; clause = refl }
postfix_free (part.mode true t) rest = record { brace = refl; clause = refl }
postfix_free (part.mode false t) rest = record { brace = refl; clause = refl }

rest_free : (ds : Arguments) (rest : List Symbol) → Free (kinds (yield_rest ds ++ rest))
rest_free grammar.none rest = record { brace = refl; clause = refl }
rest_free (grammar.more d ds) rest = record { brace = refl; clause = refl }

rest_still : (ds : Arguments) (rest : List Symbol) → IsStill (kinds (yield_rest ds ++ rest))
rest_still grammar.none rest = refl
rest_still (grammar.more d ds) rest = refl

rest_length : (ds : Arguments) (rest : List Symbol) → length (yield_rest ds ++ rest) ≡ rest_count ds + (1 + length rest)
rest_length grammar.none rest = omega arith
rest_length (grammar.more d ds) rest =
    let parts = length-append (yield d) (yield_rest ds ++ rest) in
    let joined = ap length (append_assoc (yield d) (yield_rest ds) rest) in
    let more = rest_length ds rest in
    omega arith

-- ---- postfixes

postfix_count : (p : part.Postfix) (rest : List Symbol) → length (yield_postfix p ++ rest) ≡ length (yield_postfix p) + length rest
postfix_count p rest = length-append (yield_postfix p) rest

-- trees of one sort are passed alike
sorted : Sort → List TokenKind → Passed
sorted selects = λ ks. then_take (begin ks) step.vector
sorted ranges = λ ks. then_take (then_take (begin ks) step.ranged) step.range
sorted (queries e) = λ ks. then_take (then_pass (then_skip (begin ks) skip_signs) (pass e)) step.range
sorted others = λ ks. begin ks

inside_sorted : (t : Tree) → ¬ (sort_of t ≡ others) → inside t ≡ sorted (sort_of t)
unfolding sorted
inside_sorted (vector v) h = refl
inside_sorted (matrix v n m) h = refl
inside_sorted (subquery e o at r k) h = refl
inside_sorted t h = absurd (h refl)

inside_sort : (s t : Tree) → Alike s t → inside s ≡ inside t
inside_sort s t a = inside_sorted s a.takes ∙ ap sorted a.same ∙ sym (inside_sorted t (λ h. a.takes (a.same ∙ h)))

after_alike : (s : Sort) (ks : List TokenKind) → ¬ (s ≡ others) → after_sort s ks ≡ step.shifts ks
after_alike selects ks h = refl
after_alike ranges ks h = refl
after_alike (queries e) ks h = refl
after_alike others ks h = absurd (h refl)

still_alike : (s : Sort) (ks : List TokenKind) → ¬ (s ≡ others) → StillAfter s ks
still_alike selects ks h = tt
still_alike ranges ks h = tt
still_alike (queries e) ks h = tt
still_alike others ks h = absurd (h refl)

-- a part more, after those before it
one_more : (ps : List PartTokens) (q : PartTokens) (r : Taken) → spans ps ++ (span_of q ∷ r.0) ≡ spans (ps ++ q ∷ []) ++ r.0
one_more ps q r = sym (append_assoc (spans ps) (span_of q ∷ []) r.0) ∙ ap (λ l. l ++ r.0) (sym (spans_joined ps (q ∷ [])))

-- a shift or a mode
shift_lands : (d : Derivation) (p : part.Postfix) (s t : Tree) → IsShift p → Alike s t → Lands d s
    → (rest : List Symbol) → Free (kinds rest) → inside t (kinds ((yield d ++ yield_postfix p) ++ rest))
    ≡ (spans (parts (length (yield_postfix p) + length rest) d ++ piece (postfix_kind p) (length (yield_postfix p)) (length rest) ∷ []) ++ (after_sort (sort_of t) (kinds rest)).0, counts (nodes_below (length (yield_postfix p) + length rest) d), (after_sort (sort_of t) (kinds rest)).1)
shift_lands d p s t is alike lands rest free =
    let other : ¬ (sort_of t ≡ others) = λ h. alike.takes (alike.same ∙ h) in
    let n = length (yield_postfix p) + length rest in
    ap (λ ts. inside t (kinds ts)) (append_assoc (yield d) (yield_postfix p) rest)
    ∙ sym (ap (λ f. f (kinds (yield d ++ (yield_postfix p ++ rest)))) (inside_sort s t alike))
    ∙ lands (yield_postfix p ++ rest) (postfix_free p rest) (still_alike (sort_of s) (kinds (yield_postfix p ++ rest)) alike.takes)
    ∙ ap (λ (r : Taken). found d (yield_postfix p ++ rest) r)
    (after_alike (sort_of s) (kinds (yield_postfix p ++ rest)) alike.takes ∙ shift_taken p rest is ∙ ap (also (span_of (piece (postfix_kind p) (length (yield_postfix p)) (length rest)))) (sym (after_alike (sort_of t) (kinds rest) other)))
    ∙ ap (λ m. (let q : Passed = (spans (parts m d) ++ (span_of (piece (postfix_kind p) (length (yield_postfix p)) (length rest)) ∷ (after_sort (sort_of t) (kinds rest)).0), counts (nodes_below m d), (after_sort (sort_of t) (kinds rest)).1) in q)) (postfix_count p rest)
    ∙ ap (λ l. (let q : Passed = (l, counts (nodes_below n d), (after_sort (sort_of t) (kinds rest)).1) in q)) (one_more (parts n d) (piece (postfix_kind p) (length (yield_postfix p)) (length rest)) (after_sort (sort_of t) (kinds rest)))

-- the range itself
range_taken : (r : part.Time) (rest : List Symbol) → step.range (kinds (yield_postfix (part.range r) ++ rest)) ≡ also (span_of (piece sort.Range (length (yield_postfix (part.range r))) (length rest))) (step.shifts (kinds rest))
range_taken r rest =
    ap (λ js. (let q : Taken = and_then ((sort.Range, (length (kinds (yield_postfix (part.range r) ++ rest)), length js)) ∷ [], js) step.shifts in q)) (range_skipped r rest)
    ∙ ap (λ x. also x (step.shifts (kinds rest))) (postfix_is (part.range r) rest)

-- a selector before it
ranged_taken : (d : Derivation) (r : part.Time) (s : _) (rest : List Symbol) → IsWellFormed d → IsBase d → Lands d (vector s)
    → step.ranged (kinds (yield d ++ (yield_postfix (part.range r) ++ rest))) ≡ (spans (parts (length (yield_postfix (part.range r)) + length rest) d ++ piece sort.Selector (length (yield d)) (length (yield_postfix (part.range r)) + length rest) ∷ []), kinds (yield_postfix (part.range r) ++ rest))
ranged_taken d r s rest formed base lands =
    let p = part.range r in
    let ks = kinds (yield d ++ (yield_postfix p ++ rest)) in
    let n = length (yield_postfix p) + length rest in
    let got : then_take (begin ks) step.vector ≡ found d (yield_postfix p ++ rest) ([], kinds (yield_postfix p ++ rest)) = lands (yield_postfix p ++ rest) (postfix_free p rest) tt in
    let own : spans (parts (length (yield_postfix p ++ rest)) d) ++ [] ≡ spans (parts n d) = append-nil _ ∙ ap (λ m. spans (parts m d)) (postfix_count p rest) in
    let count = kinds_count (yield d) (yield_postfix p ++ rest) in
    let more = postfix_count p rest in
    (λ i. (let x : Passed = got i in let q : Taken = (x.0 ++ (sort.Selector, (length (base_no_sign d (yield_postfix p ++ rest) formed base i), length x.2)) ∷ [], x.2) in q))
    ∙ ap (λ l. (let q : Taken = (l ++ (sort.Selector, (length ks, length (kinds (yield_postfix p ++ rest)))) ∷ [], kinds (yield_postfix p ++ rest)) in q)) own
    ∙ ap (λ (x : PartSpan). (let q : Taken = (spans (parts n d) ++ x ∷ [], kinds (yield_postfix p ++ rest)) in q)) (span_is sort.Selector _ _ (length (yield d)) n (omega arith) (omega (arith, kinds_count (yield_postfix p) rest)))
    ∙ ap (λ l. (let q : Taken = (l, kinds (yield_postfix p ++ rest)) in q)) (sym (spans_joined (parts n d) (piece sort.Selector (length (yield d)) n ∷ [])))

-- a selector has no nodes below it
no_nodes : (d : Derivation) (s : _) (rest : List Symbol) → Lands d (vector s) → Free (kinds rest) → counts (nodes_below (length rest) d) ≡ []
no_nodes d s rest lands free = sym (ap (λ (x : Passed). x.1) (lands rest free tt))

-- a range
range_lands : (d : Derivation) (r : part.Time) (s t : Tree) → IsWellFormed d → IsBase d → Ranged s t → Lands d s → Lands (grammar.postfixed d (part.range r)) t
range_lands d r s t formed base is lands = lands_as (grammar.postfixed d (part.range r)) t (matrix is.chosen is.range is.mode) is.after (λ rest free still.
    let p = part.range r in
    let n = length (yield_postfix p) + length rest in
    let chosen = subst (Lands d) is.before lands in
    let inner = parts n d ++ piece sort.Selector (length (yield d)) n ∷ [] in
    let last = piece sort.Range (length (yield_postfix p)) (length rest) in
    ap (λ ts. inside (matrix is.chosen is.range is.mode) (kinds ts)) (append_assoc (yield d) (yield_postfix p) rest)
    ∙ ap (λ (x : Taken). then_take (let q : Passed = (x.0, [], x.1) in q) step.range) (ranged_taken d r is.chosen rest formed base chosen)
    ∙ ap (λ (x : Taken). (let q : Passed = (spans inner ++ x.0, [], x.1) in q)) (range_taken r rest)
    ∙ ap (λ l. (let q : Passed = (l, [], (step.shifts (kinds rest)).1) in q)) (one_more inner last (step.shifts (kinds rest)))
    ∙ ap (λ l. (let q : Passed = (spans (inner ++ last ∷ []) ++ (step.shifts (kinds rest)).0, l, (step.shifts (kinds rest)).1) in q))
    (sym (no_nodes d is.chosen (yield_postfix p ++ rest) chosen (postfix_free p rest)) ∙ ap (λ m. counts (nodes_below m d)) (postfix_count p rest)))

-- a subquery
subquery_taken : (r : part.Time) (e : Option part.Time) (rest : List Symbol) → step.range (kinds (yield_postfix (part.subquery r e) ++ rest)) ≡ also (span_of (piece sort.Range (length (yield_postfix (part.subquery r e))) (length rest))) (step.shifts (kinds rest))
subquery_taken r e rest =
    ap (λ js. (let q : Taken = and_then ((sort.Range, (length (kinds (yield_postfix (part.subquery r e) ++ rest)), length js)) ∷ [], js) step.shifts in q)) (subquery_skipped r e rest)
    ∙ ap (λ x. also x (step.shifts (kinds rest))) (postfix_is (part.subquery r e) rest)

subquery_lands : (d : Derivation) (r : part.Time) (e : Option part.Time) (s t : Tree) → IsWellFormed d → IsBase d → Queried s t → Lands d s → Lands (grammar.postfixed d (part.subquery r e)) t
subquery_lands d r e s t formed base is lands = lands_as (grammar.postfixed d (part.subquery r e)) t (subquery s None None is.range is.step) is.is (λ rest free still.
    let p = part.subquery r e in
    ap (λ ts. inside (subquery s None None is.range is.step) (kinds ts)) (append_assoc (yield d) (yield_postfix p) rest)
    ∙ ap (λ ks. then_take (then_pass (begin ks) (pass s)) step.range) (base_no_sign d (yield_postfix p ++ rest) formed base)
    ∙ ap (λ (x : Passed). then_take (let q : Passed = ([], x.1, x.2) in q) step.range) (passes_over d s lands (yield_postfix p ++ rest) (postfix_free p rest) refl)
    ∙ ap (λ n. then_take (passed_nodes (nodes n d) (kinds (yield_postfix p ++ rest))) step.range) (postfix_count p rest)
    ∙ ap (λ (x : Taken). (let q : Passed = (x.0, counts (nodes (length (yield_postfix p) + length rest) d), x.1) in q)) (subquery_taken r e rest))

postfix_lands : (d : Derivation) (p : part.Postfix) (s t : Tree) → IsWellFormed d → IsBase d → Lands d s → PostfixOf p s t → Lands (grammar.postfixed d p) t
postfix_lands d (part.range r) s t formed base lands of = range_lands d r s t formed base of lands
postfix_lands d (part.subquery r e) s t formed base lands of = subquery_lands d r e s t formed base of lands
postfix_lands d (part.at_number e u) s t formed base lands of = λ rest free still. shift_lands d (part.at_number e u) s t tt of lands rest free
postfix_lands d (part.at_bound k u) s t formed base lands of = λ rest free still. shift_lands d (part.at_bound k u) s t tt of lands rest free
postfix_lands d (part.offset u e r) s t formed base lands of = λ rest free still. shift_lands d (part.offset u e r) s t tt of lands rest free
postfix_lands d (part.mode k u) s t formed base lands of = λ rest free still. shift_lands d (part.mode k u) s t tt of lands rest free

-- ---- parentheses, calls, aggregations

paren_lands : (d : Derivation) (s : Tree) → Lands d s → Lands (grammar.paren d) (paren s)
paren_lands d s lands rest free still =
    ap (λ ts. inside (paren s) (kinds (punct kind.LeftParen ∷ ts))) (append_assoc (yield d) (punct kind.RightParen ∷ []) rest)
    ∙ ap (λ (x : Passed). (let q : Passed = ([], x.1, drop 1 x.2) in q)) (passes_over d s lands (punct kind.RightParen ∷ rest) (free_punct kind.RightParen rest refl refl) refl)
    ∙ ap (λ n. passed_nodes (nodes n d) (kinds rest)) (one_longer rest)
  where
    one_longer : (rest : List Symbol) → length (punct kind.RightParen ∷ rest) ≡ 1 + length rest
    one_longer rest = omega arith

abbrev LandsAll : Arguments → Trees → Type 0
LandsAll ds ts = (rest : List Symbol) → pass_all ts (skip_empty ts (kinds (yield_arguments [] ds ++ rest))) ≡ passed_nodes (argument_nodes (1 + length rest) ds) (kinds rest)

-- after an argument and the token after it, the others are passed
others_begin : (ds : Arguments) (ts : Trees) → Gives (build_all ds) ts → (rest : List Symbol) → drop 1 (kinds (yield_rest ds ++ rest)) ≡ skip_empty ts (kinds (yield_arguments [] ds ++ rest))
others_begin grammar.none ts g rest = sym (ap (λ us. skip_empty us (kinds (punct kind.RightParen ∷ rest))) (no_arguments ts g))
others_begin (grammar.more d ds) ts g rest = sym (ap (λ us. skip_empty us (kinds ((yield d ++ yield_rest ds) ++ rest))) (more_arguments d ds ts g).is)

more_land : (d : Derivation) (ds : Arguments) (t : Tree) (ts : Trees) → Gives (build_all ds) ts → Lands d t → LandsAll ds ts → LandsAll (grammar.more d ds) (first_tree t ts)
more_land d ds t ts g lands more rest =
    ap (λ us. pass_all (first_tree t ts) (kinds us)) (append_assoc (yield d) (yield_rest ds) rest)
    ∙ ap (λ x. then_pass (then_skip x (drop 1)) (pass_all ts)) (passes_over d t lands (yield_rest ds ++ rest) (rest_free ds rest) (rest_still ds rest))
    ∙ ap (λ n. then_pass (then_skip (passed_nodes (nodes n d) (kinds (yield_rest ds ++ rest))) (drop 1)) (pass_all ts)) (rest_length ds rest)
    ∙ ap (λ ks. then_pass (passed_nodes (nodes (rest_count ds + (1 + length rest)) d) ks) (pass_all ts)) (others_begin ds ts g rest)
    ∙ ap (λ (x : Passed). (let q : Passed = ([], counts (nodes (rest_count ds + (1 + length rest)) d) ++ x.1, x.2) in q)) (more rest)
    ∙ ap (λ l. (let q : Passed = ([], l, kinds rest) in q)) (sym (counts_joined (nodes (rest_count ds + (1 + length rest)) d) (argument_nodes (1 + length rest) ds)))

call_lands : (k : TokenKind) (text : Text) (ds : Arguments) (f : _) (ts : Trees) → may_be_called k ≡ true → LandsAll ds ts → Lands (grammar.call k text ds) (call f ts)
call_lands k text ds f ts called more rest free still =
    let args = kinds (yield_arguments [] ds ++ rest) in
    let count = kinds_count (yield_arguments [] ds) rest in
    let own = span_is sort.Name (length (k ∷ kind.LeftParen ∷ args)) (length (kind.LeftParen ∷ args)) 1 (1 + (length (yield_arguments [] ds) + length rest)) (omega arith) (omega arith) in
    ap (λ ks. then_pass (let r = step.word sort.Name ks in let q : Passed = (r.0, [], skip_empty ts (drop 1 r.1)) in q) (pass_all ts)) (if_false _ _ _ (called_no_sign k called))
    ∙ (λ i. (let x : Passed = more rest i in let q : Passed = (own i ∷ [], x.1, x.2) in q))

-- an aggregation's parameter and expression are its arguments
aggregate_inside : (op : ℕ) (e : Tree) (p : MaybeTree) (m : Option TreeClause) (ks : List TokenKind)
    → inside (aggregate op e p m) ks ≡ then_take (then_pass (then_take (begin ks) step.aggregate) (pass_all (arguments p e))) step.clause
aggregate_inside op e absent m ks =
    let a = step.aggregate ks in
    let x = pass e a.1 in
    ap (λ l. (let q : Passed = (a.0 ++ (step.clause (drop 1 x.2)).0, l, (step.clause (drop 1 x.2)).1) in q)) (sym (append-nil x.1))
aggregate_inside op e (present p) m ks =
    let a = step.aggregate ks in
    let x = pass p a.1 in
    let y = pass e (drop 1 x.2) in
    ap (λ l. (let q : Passed = (a.0 ++ (step.clause (drop 1 y.2)).0, x.1 ++ l, (step.clause (drop 1 y.2)).1) in q)) (sym (append-nil y.1))

some_arguments : (p : MaybeTree) (e : Tree) (ks : List TokenKind) → skip_empty (arguments p e) ks ≡ ks
some_arguments absent e ks = refl
some_arguments (present q) e ks = refl

before_taken : (c : Clause) (ts : List Symbol) → IsClause c → step.clause (kinds (yield_before c ++ punct kind.LeftParen ∷ ts)) ≡ (spans (before_parts (length (punct kind.LeftParen ∷ ts)) c), kinds (punct kind.LeftParen ∷ ts))
before_taken None ts h = refl
before_taken (Some (true, (by, t, ls))) ts h = grouping_taken by t ls (punct kind.LeftParen ∷ ts) h
before_taken (Some (false, g)) ts h = refl

after_taken : (c : Clause) (rest : List Symbol) → IsClause c → Free (kinds rest) → step.clause (kinds (yield_after c ++ rest)) ≡ (spans (after_parts (length rest) c), kinds rest)
after_taken None rest h free = if_false _ _ _ free.clause
after_taken (Some (true, g)) rest h free = if_false _ _ _ free.clause
after_taken (Some (false, (by, t, ls))) rest h free = grouping_taken by t ls rest h

-- the operator, and a clause after it
aggregate_taken : (op : ℕ) (text : Text) (c : Clause) (ds : Arguments) (rest : List Symbol) → IsClause c
    → step.aggregate (kinds (yield (grammar.aggregate op text c ds) ++ rest)) ≡ (let inner = 1 + (length (yield_arguments [] ds) + (length (yield_after c) + length rest)) in let q : Taken = (spans (piece sort.Operator 1 (length (yield_before c) + inner) ∷ before_parts inner c), kinds (yield_arguments [] ds ++ (yield_after c ++ rest))) in q)
aggregate_taken op text c ds rest formed =
    let tail = yield_arguments [] ds ++ (yield_after c ++ rest) in
    let inner = 1 + (length (yield_arguments [] ds) + (length (yield_after c) + length rest)) in
    let one = length-append (yield_arguments [] ds) (yield_after c ++ rest) in
    let two = length-append (yield_after c) rest in
    let length_is : length (punct kind.LeftParen ∷ tail) ≡ inner = omega arith in
    let count = kinds_count (yield_before c) (punct kind.LeftParen ∷ tail) in
    let own = span_is sort.Operator (length (kinds (word (kind.Aggregator op) text ∷ (yield_before c ++ punct kind.LeftParen ∷ tail)))) (length (kinds (yield_before c ++ punct kind.LeftParen ∷ tail))) 1 (length (yield_before c) + inner) (omega arith) (omega arith) in
    ap (λ ts. step.aggregate (kinds (word (kind.Aggregator op) text ∷ ts))) (tokens c ds rest)
    ∙ ap (λ (r : Taken). (let q : Taken = (r.0, drop 1 r.1) in q)) (first_is _ _ _ _ own (before_taken c tail formed ∙ ap (λ n. (let q : Taken = (spans (before_parts n c), kinds (punct kind.LeftParen ∷ tail)) in q)) length_is))
  where
    tokens : (c : Clause) (ds : Arguments) (rest : List Symbol)
        → (yield_before c ++ punct kind.LeftParen ∷ (yield_arguments [] ds ++ yield_after c)) ++ rest ≡ yield_before c ++ punct kind.LeftParen ∷ (yield_arguments [] ds ++ (yield_after c ++ rest))
    tokens c ds rest = simp append_assoc

aggregate_lands : (op : ℕ) (text : Text) (c : Clause) (ds : Arguments) (e : Tree) (p : MaybeTree) (m : Option TreeClause) → IsClause c → LandsAll ds (arguments p e) → Lands (grammar.aggregate op text c ds) (aggregate op e p m)
aggregate_lands op text c ds e p m formed more rest free still =
    let tail = yield_after c ++ rest in
    let inner = 1 + (length (yield_arguments [] ds) + (length (yield_after c) + length rest)) in
    let own = piece sort.Operator 1 (length (yield_before c) + inner) in
    let ps = own ∷ before_parts inner c in
    let qs = after_parts (length rest) c in
    let subs = argument_nodes (1 + (length (yield_after c) + length rest)) ds in
    aggregate_inside op e p m (kinds (yield (grammar.aggregate op text c ds) ++ rest))
    ∙ ap (λ (r : Taken). then_take (then_pass (let q : Passed = (r.0, [], r.1) in q) (pass_all (arguments p e))) step.clause) (aggregate_taken op text c ds rest formed)
    ∙ ap (λ ks. then_take (then_pass (let q : Passed = (spans ps, [], ks) in q) (pass_all (arguments p e))) step.clause) (sym (some_arguments p e (kinds (yield_arguments [] ds ++ tail))))
    ∙ ap (λ (x : Passed). then_take (let q : Passed = (spans ps, x.1, x.2) in q) step.clause) (more tail)
    ∙ ap (λ n. then_take (let q : Passed = (spans ps, counts (argument_nodes (1 + n) ds), kinds tail) in q) step.clause) (length-append (yield_after c) rest)
    ∙ ap (λ (r : Taken). (let q : Passed = (spans ps ++ r.0, counts subs, r.1) in q)) (after_taken c rest formed free)
    ∙ ap (λ l. (let q : Passed = (l, counts subs, kinds rest) in q)) (sym (spans_joined ps qs) ∙ ap (λ l. spans (own ∷ l)) (clause_is inner (length rest) c) ∙ sym (append-nil (spans (own ∷ clause_parts inner (length rest) c))))

-- ---- unary operators

-- a sign with a node or without
abbrev own_or_folded : Bool → ℕ → Derivation → Taken → Passed
own_or_folded b n d r = (spans (cond b (piece sort.Operator 1 (length (yield d) + n) ∷ []) (parts n d)) ++ r.0, counts (cond b (nodes n d) (nodes_below n d)), r.1)

-- a minus before what is no number
minus_lands : (op : ℕ) (text : Text) (d : Derivation) (s : Tree) → (op == T_SUB) ≡ true → is_number d ≡ false → Lands d s → Lands (grammar.unary op text d) (unary s)
minus_lands op text d s minus no_number lands rest free still =
    let count = kinds_count (yield d) rest in
    let own = span_is sort.Operator (length (kind.Operator op ∷ kinds (yield d ++ rest))) (length (kinds (yield d ++ rest))) 1 (length (yield d) + length rest) (omega arith) (omega arith) in
    ap (λ ks. then_pass (let r = step.word sort.Operator ks in let q : Passed = (r.0, [], r.1) in q) (pass s)) (if_false (op == T_ADD) _ _ (no_plus op minus))
    ∙ (λ i. (let x : Passed = passes_over d s lands rest free still i in let q : Passed = (own i ∷ [], x.1, x.2) in q))
    ∙ ap (λ (b : Bool). own_or_folded b (length rest) d ([], kinds rest)) (sym (has op d minus no_number))
  where
    no_plus : (op : ℕ) → (op == T_SUB) ≡ true → (op == T_ADD) ≡ false
    no_plus op h = ap (λ o. o == T_ADD) (eqb-true op T_SUB h)

    has : (op : ℕ) (d : Derivation) → (op == T_SUB) ≡ true → is_number d ≡ false → has_node op d ≡ true
    has op d h n = λ i. h i && not (n i)

-- a sign that leaves no node
folded_lands : (op : ℕ) (text : Text) (d : Derivation) (t u : Tree) → has_node op d ≡ false → sort_of t ≡ sort_of u → ((ks : List TokenKind) → inside t (kind.Operator op ∷ ks) ≡ inside u ks) → Lands d u → Lands (grammar.unary op text d) t
folded_lands op text d t u none same first lands rest free still =
    first (kinds (yield d ++ rest))
    ∙ lands rest free (subst (λ o. StillAfter o (kinds rest)) same still)
    ∙ ap (λ o. found d rest (after_sort o (kinds rest))) (sym same)
    ∙ ap (λ (b : Bool). own_or_folded b (length rest) d (after_sort (sort_of t) (kinds rest))) (sym none)

number_first : (op : ℕ) (n m : _) (ks : List TokenKind) → is_plus_or_minus op ≡ true → inside (number m) (kind.Operator op ∷ ks) ≡ inside (number n) ks
number_first op n m ks is = ap (λ js. begin (drop 1 js)) (sign_skipped op ks is)

unary_minus : (op : ℕ) (text : Text) (d : Derivation) (s t : Tree) → is_plus_or_minus op ≡ true → (op == T_SUB) ≡ true → is_number_tree s ≡ is_number d → MinusOf s t → Lands d s → Lands (grammar.unary op text d) t
unary_minus op text d (number n) t sign minus same (m, is) lands =
    lands_as (grammar.unary op text d) t (number m) is
    (folded_lands op text d (number m) (number n) (λ i. minus i && not (sym same i)) refl (λ ks. number_first op n m ks sign) lands)
unary_minus op text d s t sign minus same is lands = lands_as (grammar.unary op text d) t (unary s) is (minus_lands op text d s minus (sym same) lands)

plus_of : (op : ℕ) → is_plus_or_minus op ≡ true → (op == T_SUB) ≡ false → op ≡ T_ADD
plus_of op sign unlike = eqb-true op T_ADD (or_first (op == T_ADD) (op == T_SUB) sign unlike)
  where
    or_first : (a b : Bool) → (a || b) ≡ true → b ≡ false → a ≡ true
    or_first true b h k = refl
    or_first false b h k = cc

unary_lands : (op : ℕ) (text : Text) (d : Derivation) (s t : Tree) → is_plus_or_minus op ≡ true → IsSigned s → is_number_tree s ≡ is_number d → UnaryOf op s t → Lands d s → Lands (grammar.unary op text d) t
unary_lands op text d s t sign signs same (inl minus) lands = unary_minus op text d s t sign minus.0 same minus.1 lands
unary_lands op text d s t sign signs same (inr plus) lands =
    lands_as (grammar.unary op text d) t s plus.1
    (folded_lands op text d s s (ap (λ b. b && not (is_number d)) plus.0) refl (λ ks. plus_first op s ks (plus_of op sign plus.0) signs) lands)

-- ---- binary operators

open_more : (ts us : List Symbol) → begins ts ≡ true → OpensNoParen ts → OpensNoParen (ts ++ us)
open_more [] us b h = cc
open_more (punct kind.LeftParen ∷ ts) us b h = absurd h
open_more (punct k ∷ ts) us b h = tt
open_more (word k t ∷ ts) us b h = tt

fits_more : (m : Matching) (f : Fills) (ts us : List Symbol) → begins ts ≡ true → FitsMatching m f ts → FitsMatching m f (ts ++ us)
fits_more (Some (on, t, ls, (Some (left, u, None)))) no_fill ts us b h = open_more ts us b h
fits_more m f ts us b h = tt

-- a left side of a power has no sign outside
power_base : (d : Derivation) → 7 ≤ openness d → IsBase d
power_base (grammar.unary op t d) h = absurd (omega arith)
power_base (grammar.binary op t m l r) h = absurd (no_binary op (openness r) h)
  where
    no_binary : (op o : ℕ) → 7 ≤ min (precedence op) o → ⊥
    no_binary op o h =
        let six : precedence op ≡ 6 = ap precedence (is_power op (omega arith)) in
        omega arith
power_base d h = tt

power_signs : (op : ℕ) (d : Derivation) (rest : List Symbol) → IsWellFormed d → FitsLeft op (openness d) → skip_power_signs op (kinds (yield d ++ rest)) ≡ kinds (yield d ++ rest)
power_signs op d rest formed fits = by (op == T_POW) refl
  where
    by : (b : Bool) → (op == T_POW) ≡ b → when b skip_signs (kinds (yield d ++ rest)) ≡ kinds (yield d ++ rest)
    by true is = base_no_sign d rest formed (power_base d (subst (λ b. (cond b 7 (precedence op)) ≤ openness d) is fits))
    by false is = refl

abbrev operator_parts : ℕ → part.Modifier → List PartTokens
operator_parts n m = piece sort.Operator 1 (length (yield_modifier m) + n) ∷ matching_parts (length (yield_fills m.2) + n) m.1

after_operator : (m : part.Modifier) (r : Derivation) (op : ℕ) (t : Text) (rest : List Symbol) → IsMatching m.1 → IsWellFormed r → FitsMatching m.1 m.2 (yield r)
    → step.operator (kinds (word (kind.Operator op) t ∷ (yield_modifier m ++ (yield r ++ rest)))) ≡ (spans (parts (length rest) (grammar.binary op t m r r)), kinds (yield r ++ rest))
after_operator m r op t rest is formed fits =
    let begun : begins (yield r) ≡ true = ap begins (sym (append-nil (yield r))) ∙ begins_here r [] formed in
    operator_taken m op t (yield r ++ rest) is (begins_here r rest formed) (no_paren_word r rest formed) (fits_more m.1 m.2 (yield r) rest begun fits)
    ∙ ap (λ n. (let q : Taken = (spans (operator_parts n m), kinds (yield r ++ rest)) in q)) (length-append (yield r) rest)

binary_lands : (op : ℕ) (t : Text) (m : part.Modifier) (l r : Derivation) (x y : Tree) (z : _) → IsWellFormed (grammar.binary op t m l r) → Lands l x → Lands r y → Lands (grammar.binary op t m l r) (binary op x y z)
binary_lands op t m l r x y z formed left right rest free still =
    let after_left = word (kind.Operator op) t ∷ (yield_modifier m ++ (yield r ++ rest)) in
    let count = 1 + (length (yield_modifier m) + (length (yield r) + length rest)) in
    let own = spans (parts (length rest) (grammar.binary op t m l r)) in
    ap (λ ts. inside (binary op x y z) (kinds ts)) (tokens op t m l r rest)
    ∙ ap (λ ks. then_pass (then_take (then_pass (begin ks) (pass x)) step.operator) (pass y)) (power_signs op l after_left formed.0 formed.3)
    ∙ ap (λ (w : Passed). then_pass (then_take (let q : Passed = ([], w.1, w.2) in q) step.operator) (pass y)) (passes_over l x left after_left (free_word (kind.Operator op) t (yield_modifier m ++ (yield r ++ rest)) refl refl) refl)
    ∙ ap (λ n. then_pass (then_take (passed_nodes (nodes n l) (kinds after_left)) step.operator) (pass y)) (after_count op t m r rest)
    ∙ ap (λ (w : Taken). then_pass (let q : Passed = (w.0, counts (nodes count l), w.1) in q) (pass y)) (after_operator m r op t rest formed.2 formed.1 formed.5)
    ∙ ap (λ (w : Passed). (let q : Passed = (own, counts (nodes count l) ++ w.1, w.2) in q)) (passes_over r y right rest free still)
    ∙ ap (λ o. (let q : Passed = (own, o, kinds rest) in q)) (sym (counts_joined (nodes count l) (nodes (length rest) r)))
    ∙ ap (λ o. (let q : Passed = (o, counts (nodes count l ++ nodes (length rest) r), kinds rest) in q)) (sym (append-nil own))
  where
    tokens : (op : ℕ) (t : Text) (m : part.Modifier) (l r : Derivation) (rest : List Symbol)
        → (yield l ++ word (kind.Operator op) t ∷ (yield_modifier m ++ yield r)) ++ rest ≡ yield l ++ word (kind.Operator op) t ∷ (yield_modifier m ++ (yield r ++ rest))
    tokens op t m l r rest = simp append_assoc

    after_count : (op : ℕ) (t : Text) (m : part.Modifier) (r : Derivation) (rest : List Symbol)
        → length (word (kind.Operator op) t ∷ (yield_modifier m ++ (yield r ++ rest))) ≡ 1 + (length (yield_modifier m) + (length (yield r) + length rest))
    after_count op t m r rest = let a = length-append (yield_modifier m) (yield r ++ rest) in let b = length-append (yield r) rest in omega arith

-- ---- any derivation

mutual
  pub lands : (d : Derivation) (t : Tree) → Gives (build d) t → IsWellFormed d → Lands d t
  lands (grammar.number text) t g formed = let s = shape (grammar.number text) t g in lands_as (grammar.number text) t (number s.0) s.1 (λ rest free still. refl)
  lands (grammar.duration text) t g formed = let s = shape (grammar.duration text) t g in lands_as (grammar.duration text) t (number s.0) s.1 (λ rest free still. refl)
  lands (grammar.string text) t g formed = let s = shape (grammar.string text) t g in lands_as (grammar.string text) t (string s.0) s.1 (λ rest free still. refl)
  lands (grammar.selector k text b) t g formed =
      let s = shape (grammar.selector k text b) t g in lands_as (grammar.selector k text b) t (vector s.0) s.1 (selector_lands k text b s.0 formed)
  lands (grammar.nameless b) t g formed = let s = shape (grammar.nameless b) t g in lands_as (grammar.nameless b) t (vector s.0) s.1 (nameless_lands b s.0)
  lands (grammar.paren d) t g formed =
      let s = shape (grammar.paren d) t g in lands_as (grammar.paren d) t (paren s.inner) s.is (paren_lands d s.inner (lands d s.inner s.first formed))
  lands (grammar.call k text ds) t g formed =
      let s = shape (grammar.call k text ds) t g in
      lands_as (grammar.call k text ds) t (call s.called s.trees) s.is (call_lands k text ds s.called s.trees formed.0 (lands_all ds s.trees s.arguments formed.1))
  lands (grammar.aggregate op text c ds) t g formed =
      let s = shape (grammar.aggregate op text c ds) t g in
      lands_as (grammar.aggregate op text c ds) t (aggregate op s.tree s.param s.clause) s.is
      (aggregate_lands op text c ds s.tree s.param s.clause formed.0 (lands_all ds (arguments s.param s.tree) s.arguments formed.1))
  lands (grammar.postfixed d p) t g formed =
      let s = shape (grammar.postfixed d p) t g in postfix_lands d p s.base t formed.0 formed.1 (lands d s.base s.first formed.0) s.is
  lands (grammar.unary op text d) t g formed =
      let s = shape (grammar.unary op text d) t g in
      unary_lands op text d s.operand t formed.0 (signed d s.operand s.first formed.1 formed.2) (number_is d s.operand s.first) s.is (lands d s.operand s.first formed.1)
  lands (grammar.binary op text m l r) t g formed =
      let s = shape (grammar.binary op text m l r) t g in
      lands_as (grammar.binary op text m l r) t (binary op s.left s.right s.matching) s.is
      (binary_lands op text m l r s.left s.right s.matching formed (lands l s.left s.first formed.0) (lands r s.right s.second formed.1))

  pub lands_all : (ds : Arguments) (ts : Trees) → Gives (build_all ds) ts → AreWellFormed ds → LandsAll ds ts
  lands_all grammar.none ts g formed = λ rest. ap (λ us. pass_all us (skip_empty us (kinds (punct kind.RightParen ∷ rest)))) (no_arguments ts g)
  lands_all (grammar.more d ds) ts g formed =
      let s = more_arguments d ds ts g in
      subst (LandsAll (grammar.more d ds)) (sym s.is) (more_land d ds s.tree s.trees s.others (lands d s.tree s.first formed.0) (lands_all ds s.trees s.others formed.1))

-- a tree that a derivation builds is passed over exactly its tokens
pub passed_whole : (d : Derivation) (t : Tree) → Gives (build d) t → IsWellFormed d → pass t (kinds (yield d)) ≡ ([], counts (nodes 0 d), [])
passed_whole d t g formed =
    ap (λ ts. pass t (kinds ts)) (sym (append-nil (yield d)))
    ∙ passes_over d t (lands d t g formed) [] (record { brace = refl; clause = refl }) refl
