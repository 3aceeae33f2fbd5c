-- The second matcher of a selector that has two.
use Rattle.std.proofs.Common.{◌≡◌, ◌≢◌, ◌<◌, ◌≤◌, ◌∙◌, ap, arith, refl, sym, Bool, cond, List, [], ◌∷◌, length, map, slice_index_or, Result, Ok, Err, codes}
use Rattle.std.proofs.lemmas.Slice.Eq.{bytes_eq-Decides}
use Rattle.std.specs.Str.{bytes_eq}
use Rattle.std.proofs.lemmas.Bool.{eqb-true}
use Rattle.std.specs.Prelude.{◌==◌, IfErr, true, false, Option, Some, None, is_some, option_map, string_bytes}
use Rattle.promql_label.specs.MatcherViews.{plain_matcher_of}
use Rattle.promql_label.specs.PlainMatchers.{PlainMatcher, plain_matchers, name_of}
use Rattle.promql_label.specs.declared.matcher.Matcher.{Matcher}
use Rattle.promql_ast.specs.Selectors.{selector}
use Rattle.promql_ast.specs.Shifts.{moment_of, shift_of}
use Rattle.promql_ast.specs.Tree.{Tree, aggregate, unary, binary, paren, subquery, number, string, vector, matrix, call, extension}
use Rattle.promql_ast.specs.View.{tree_of}
use Rattle.promql_ast.specs.declared.expr.Expr.{Expr, VectorSelector}
use Rattle.promql_ast.specs.declared.vector_selector.VectorSelector.{VectorSelector as SelectorNode}
use Rattle.promql_syntax.specs.ParseAnswers.{PlainParseError, memory, plain_error_of}
use Rattle.promql_syntax.specs.declared.parser.ParseError.{ParseError}
use Rattle.promql_syntax.specs.declared.parser.ParseError.TheVariants as parse
use Rattle.promql_rewrite.specs.MatcherTexts.{matcher_in}
use Rattle.promql_rewrite.specs.SecondMatchers.{HasMatcherAfter, IsCopyFault}
use Rattle.promql_rewrite.specs.declared.matcher_text.MatcherError.{MatcherError}
use Rattle.promql_rewrite.specs.declared.matcher_text.MatcherError.TheVariants as error

two_items : {A : Type 0} (xs : List A) (y : A) → 2 ≤ length xs → length xs < 3 → y ≡ slice_index_or xs 1 y → (x : A) × (xs ≡ x ∷ y ∷ [])
two_items [] y many few is = absurd (omega (many, arith))
two_items (a ∷ []) y many few is = absurd (omega (many, arith))
two_items (a ∷ b ∷ []) y many few is = (a, λ i. a ∷ sym is i ∷ [])
two_items (a ∷ b ∷ c ∷ xs) y many few is = absurd (omega (few, arith))

no_items : {A : Type 0} (xs : List A) → (length xs == 0) ≡ true → xs ≡ []
no_items [] is = refl
no_items (x ∷ xs) is = let none : length (x ∷ xs) ≡ 0 = eqb-true (length (x ∷ xs)) 0 is in absurd (omega (none, arith))

is_none : {A : Type 0} (o : Option A) → is_some o ≡ false → o ≡ None
is_none None is = refl
is_none (Some x) is = cc

pub has_second : (e : Expr) (s : SelectorNode) (c : Matcher) → e ≡ VectorSelector s → is_some s.offset ≡ false → is_some s.at ≡ false → (length s.matchers.or_matchers.items == 0) ≡ true
    → 2 ≤ length s.matchers.matchers.items → length s.matchers.matchers.items < 3 → c ≡ slice_index_or s.matchers.matchers.items 1 c → HasMatcherAfter (tree_of e) (plain_matcher_of c)
has_second e s c is offset at groups many few item =
    let two = two_items s.matchers.matchers.items c many few item in
    (option_map string_bytes s.name, plain_matcher_of two.0, ap tree_of is ∙ (λ i. vector (selector (option_map string_bytes s.name) (plain_matchers (map plain_matcher_of (two.1 i)) (map (λ g. map plain_matcher_of g.items) (no_items s.matchers.or_matchers.items groups i))) (option_map shift_of (is_none s.offset offset i)) (option_map moment_of (is_none s.at at i)))))

-- ---- the matcher to enforce

pub matcher_is : (t : Tree) (c : PlainMatcher) → HasMatcherAfter t c → name_of c ≢ codes "__name__" → Ok c ≡ matcher_in (Ok t)
matcher_is t c after other = go (bytes_eq (name_of c) (codes "__name__")) refl ∙ ap (λ u. matcher_in (Ok u)) (sym after.2)
  where
    go : (b : Bool) → bytes_eq (name_of c) (codes "__name__") ≡ b → Ok c ≡ matcher_in (Ok (vector (selector after.0 (plain_matchers (after.1 ∷ c ∷ []) []) None None)))
    go true is = absurd (other ((bytes_eq-Decides (name_of c) (codes "__name__")).0 is))
    go false is = λ i. cond (sym is i) (Err error.MetricName) (Ok c)

pub metric_is : (t : Tree) (c : PlainMatcher) → HasMatcherAfter t c → name_of c ≡ codes "__name__" → Err error.MetricName ≡ matcher_in (Ok t)
metric_is t c after name = (λ i. cond (sym is i) (Err error.MetricName) (Ok c)) ∙ ap (λ u. matcher_in (Ok u)) (sym after.2)
  where
    is : bytes_eq (name_of c) (codes "__name__") ≡ true
    is = (bytes_eq-Decides (name_of c) (codes "__name__")).1 name

-- a tree that is no such selector
pub none_is : (t : Tree) → ((c : PlainMatcher) → ¬ HasMatcherAfter t c) → Err error.NotAMatcher ≡ matcher_in (Ok t)
none_is (vector (selector name (plain_matchers [] gs) offset at)) none = refl
none_is (vector (selector name (plain_matchers (a ∷ []) gs) offset at)) none = refl
none_is (vector (selector name (plain_matchers (a ∷ c ∷ []) []) None None)) none = absurd (none c (name, a, refl))
none_is (vector (selector name (plain_matchers (a ∷ c ∷ []) []) None (Some at))) none = refl
none_is (vector (selector name (plain_matchers (a ∷ c ∷ []) []) (Some offset) at)) none = refl
none_is (vector (selector name (plain_matchers (a ∷ c ∷ []) (g ∷ gs)) offset at)) none = refl
none_is (vector (selector name (plain_matchers (a ∷ b ∷ c ∷ cs) gs) offset at)) none = refl
none_is (aggregate op e p m) none = refl
none_is (unary e) none = refl
none_is (binary op l r m) none = refl
none_is (paren e) none = refl
none_is (subquery e offset at range step) none = refl
none_is (number n) none = refl
none_is (string s) none = refl
none_is (matrix s range mode) none = refl
none_is (call f args) none = refl
none_is (extension name gives es) none = refl

-- why there is no copy of it
pub fault_is : (t : Tree) (e : MatcherError) → IsCopyFault t e → e ≢ error.Memory → Err e ≡ matcher_in (Ok t)
fault_is t error.Memory h other = absurd (other refl)
fault_is t error.NotAMatcher h other = none_is t h
fault_is t error.MetricName (c, after, name) other = metric_is t c after name

pub on_err : {A E : Type 0} (r : Result A E) (P Q : E → Type 0) → ((e : E) → P e → Q e) → IfErr r P → IfErr r Q
on_err (Ok x) P Q f h = tt
on_err (Err e) P Q f h = f e h

-- a rejection that is not of memory
pub not_memory : (e : ParseError) → e ≢ parse.Memory → (let r : Result Tree PlainParseError = Err (plain_error_of e) in r) ≢ Err memory
not_memory parse.Memory other is = other refl
not_memory (parse.Lex f) other is = cc
not_memory parse.Empty other is = cc
not_memory parse.Syntax other is = cc
not_memory parse.TooDeep other is = cc
not_memory (parse.Number f) other is = cc
not_memory parse.Quoted other is = cc
not_memory (parse.Duration f) other is = cc
not_memory (parse.At f) other is = cc
not_memory (parse.Pattern value) other is = cc
not_memory (parse.UnknownFunction name) other is = cc
not_memory (parse.Check f) other is = cc
