-- From what parsing gives to the answer.
use Rattle.std.proofs.Common.{◌≡◌, ℕ, Bool, ◌+◌, ◌<◌, ◌≤◌, true, false, suc, refl, sym, ◌∙◌, ap, subst, arith, List, [], ◌∷◌, ◌++◌, length, append-nil}
use Rattle.std.specs.Prelude.{◌==◌, ◌^◌, Result, Ok, Err, IfErr}
use Rattle.std.specs.declared.alloc.Global.{Global}
use Rattle.std.specs.declared.boxed.Box.{Box}
use Rattle.promql_ast.specs.declared.expr.Expr.{Expr}
use Rattle.std.proofs.lemmas.Bool.Decides.{nat_tests}
use Rattle.promql_grammar.specs.declared.read_error.ReadError.{ReadError}
use Rattle.promql_grammar.specs.declared.read_error.ReadError.TheVariants.{Memory, Syntax, TooDeep}
use Rattle.promql_grammar.specs.Symbols.{Symbol}
use Rattle.promql_grammar.specs.Grammar.{Derivation, yield, height, IsWellFormed}
use Rattle.promql_grammar.specs.Misfits.{AreMisfits}
use Rattle.promql_grammar.specs.Parsing.{Read, parse_expression, too_high}
use Rattle.promql_grammar.specs.Failures.{Fails}
use Rattle.promql_grammar.proofs.Within.{within_low}
use Rattle.promql_grammar.proofs.NoneFit.{misfits, misfits_after}
use Rattle.promql_grammar.proofs.Unique.{whole}
use Rattle.promql_grammar.proofs.Sound.{Good, expression_sound}
use Rattle.promql_syntax.specs.declared.grammar.parsed.ParsedExpr.{ParsedExpr}
use Rattle.promql_syntax.specs.FaultTokens.{subexpressions}
use Rattle.promql_syntax.specs.ParsesExpr.{IsPlaced, ParsesExpr}
use Rattle.promql_syntax.specs.ParsesQuery.{HasPlace, ParsesQuery}
use Rattle.promql_syntax.specs.declared.grammar.build_error.BuildError as code

abbrev IsOkRead : Read Derivation → Type 0
IsOkRead (Ok x) = Unit {0}
IsOkRead (Err e) = ⊥

too_deep_none : (n : ℕ) (ts : List Symbol) → parse_expression n 0 ts ≡ Err too_high → (d : Derivation) → IsWellFormed d → height d ≤ n → ¬ (yield d ≡ ts)
too_deep_none n ts deep d formed low spells =
    let read : Ok (d, []) ≡ Err too_high = sym (within_low n (height d) _ low) ∙ sym (whole n d formed) ∙ ap (parse_expression n 0) spells ∙ deep in
    subst IsOkRead read tt

too_deep_long : (n : ℕ) (ts : List Symbol) → parse_expression n 0 ts ≡ Err too_high → n < length ts + 1
too_deep_long n ts deep = let long : n ≤ length ts = subst (Good n 0 ts) deep ((expression_sound n).by 0 ts) in omega arith

pub whole_stops : (n : ℕ) (ts rest : List Symbol) (error : ReadError) → Fails (error, rest) (parse_expression n 0 ts) → ParsesQuery n ts rest (Err error)
whole_stops n ts rest Memory fails = tt
whole_stops n ts rest Syntax fails = misfits n ts rest fails
whole_stops n ts rest TooDeep fails = (too_deep_long n ts fails, too_deep_none n ts fails)

-- something is left after what was read
pub left_misfits : {builds : Bool} {total : ℕ} (n : ℕ) (ts rest : List Symbol) (parsed : ParsedExpr) → ParsesExpr builds total parsed rest (parse_expression n 0 ts) → 0 < length rest → AreMisfits ts rest
left_misfits n ts [] parsed given some = absurd (omega arith)
left_misfits n ts (x ∷ rest) parsed given some = misfits_after n ts x rest given.derivation given.is

no_rest : (d : Derivation) (ts rest : List Symbol) → length rest ≡ 0 → ts ≡ yield d ++ rest → yield d ≡ ts
no_rest d ts [] none spells = sym (append-nil (yield d)) ∙ sym spells
no_rest d ts (t ∷ rest) none spells = absurd (omega arith)

pub whole_given : {total : ℕ} (n : ℕ) (ts rest : List Symbol) (parsed : ParsedExpr) → ParsesExpr true total parsed rest (parse_expression n 0 ts) → length rest ≡ 0 → ParsesQuery n ts rest (Ok parsed.value)
whole_given n ts rest parsed given none =
    let read = subst (Good n 0 ts) given.is ((expression_sound n).by 0 ts) in
    let is_expr_of = given.built in
    let built = is_expr_of.built refl in
    record {
      derivation = given.derivation;
      formed = read.formed;
      low = read.low;
      spells = no_rest given.derivation ts rest none read.spells;
      answers = built.answers;
      allowed = built.allowed;
      is = built.ends;
    }

fault_placed : (total : ℕ) (ts : List Symbol) (d : Derivation) (value : Result (Box Expr Global) (Box code.BuildError Global)) → IsWellFormed d → yield d ≡ ts → (total < 2 ^ 64 → IsPlaced total (subexpressions 0 d) value)
    → IfErr value (λ e. total < 2 ^ 64 → HasPlace total ts e.value)
fault_placed total ts d (Ok x) formed spells placed = tt
fault_placed total ts d (Err e) formed spells placed = λ fits. record { derivation = d; formed = formed; spells = spells; fault = placed fits }

pub whole_placed : (total n : ℕ) (ts rest : List Symbol) (parsed : ParsedExpr) → ParsesExpr true total parsed rest (parse_expression n 0 ts) → length rest ≡ 0 → IfErr parsed.value (λ e. total < 2 ^ 64 → HasPlace total ts e.value)
whole_placed total n ts rest parsed given none =
    let read = subst (Good n 0 ts) given.is ((expression_sound n).by 0 ts) in
    let built = given.built in
    fault_placed total ts given.derivation parsed.value read.formed (no_rest given.derivation ts rest none read.spells)
    (λ fits. subst (λ k. IsPlaced total (subexpressions k given.derivation) parsed.value) none (built.placed refl fits))

-- whether tokens are left
pub some_left : (ts : List Symbol) → false ≡ (length ts == 0) → 0 < length ts
some_left [] empty = cc
some_left (t ∷ ts) empty = omega arith

pub none_left : (ts : List Symbol) → true ≡ (length ts == 0) → length ts ≡ 0
none_left [] empty = refl
none_left (t ∷ ts) empty = let none : suc (length ts) ≡ 0 = grind (arith, nat_tests) in absurd (omega arith)
