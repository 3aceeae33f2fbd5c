-- How tightly operators bind, by lists; what bases and signed operands are, by their openness and their levels.
use Rattle.std.proofs.Common.{◌≡◌, ℕ, ◌+◌, ◌≤◌, inl, refl, ap, subst, arith, Bool, true, false, cond, not, List, ◌∷◌, Some, None}
use Rattle.std.specs.Prelude.{◌↔◌, ◌≢◌, ◌==◌, if◌then◌else◌}
use Rattle.std.specs.List.{position_or_len}
use Rattle.promql_text.specs.Texts.{Text}
use Rattle.promql_token.specs.Ids.{is_one_of}
use Rattle.promql_token.specs.declared.ids.TheConstants.{T_MUL, T_POW}
use Rattle.promql_grammar.specs.declared.token_kinds.TokenKind.TheVariants as kind
use Rattle.promql_grammar.specs.Grammar.{Derivation, unary, binary, precedence, openness, IsBase, FitsRight, FitsUnary, FitsMatching, OpensNoParen}
use Rattle.promql_grammar.specs.GrammarParts.{Fills, Labels, Matching, no_fill}
use Rattle.promql_grammar.specs.Symbols.{Symbol, punct}
use Rattle.promql_grammar.specs.KindLists.{low_levels}
use Rattle.promql_grammar.proofs.Precedences.{band, is_power, open_base}

first_of_four : (p a b c d : Bool)
    → cond p 6 (cond a 1 (cond b 2 (cond c 3 (cond d 4 5))))
    ≡ cond p 6 (1 + cond (not a) (1 + cond (not b) (1 + cond (not c) (1 + cond (not d) (1 + 0) 0) 0) 0) 0)
first_of_four true a b c d = refl
first_of_four false true b c d = refl
first_of_four false false true c d = refl
first_of_four false false false true d = refl
first_of_four false false false false true = refl
first_of_four false false false false false = refl

pub level_by_lists : (op : ℕ) → precedence op ≡ (if op == T_POW then 6 else 1 + position_or_len (λ ops. is_one_of ops op) low_levels)
level_by_lists op = first_of_four _ _ _ _ _

level_most : (op : ℕ) → precedence op ≤ 6
level_most op = let b = band op in omega arith

open_is_base : (d : Derivation) → openness d ≡ 7 → IsBase d
open_is_base (binary op text m l r) e = let h = level_most op in absurd (omega arith)
open_is_base (unary op text d) e = absurd (omega arith)
open_is_base d e = tt

pub bases_are_open : (d : Derivation) → IsBase d ↔ (openness d ≡ 7)
bases_are_open d = (open_base d, open_is_base d)

pub signed_fit_right : (d : Derivation) → FitsUnary d ↔ FitsRight T_MUL d
signed_fit_right (binary op text m l r) = (
  λ e. inl (let p : precedence T_POW ≡ 6 = refl in let h = ap precedence e in omega arith),
  λ h. is_power op (omega arith),
)
signed_fit_right d = ((λ h. tt), (λ h. tt))

-- no parenthesis comes directly after a bare grouping word
abbrev NoParenAfterGroup : Matching → Fills → List Symbol → Type 0
NoParenAfterGroup m f ts =
    (on left : Bool) (text word : Text) (ls : Labels) (rest : List Symbol)
    → m ≡ Some (on, text, ls, Some (left, word, None)) → f ≡ no_fill → ts ≢ punct kind.LeftParen ∷ rest

no_paren : (m : Matching) (f : Fills) (ts : List Symbol) → FitsMatching m f ts → NoParenAfterGroup m f ts
no_paren m f ts fits on left text word ls rest matched unfilled paren =
    let bare : FitsMatching (Some (on, text, ls, Some (left, word, None))) f ts = subst (λ x. FitsMatching x f ts) matched fits in
    let empty : FitsMatching (Some (on, text, ls, Some (left, word, None))) no_fill ts = subst (λ x. FitsMatching (Some (on, text, ls, Some (left, word, None))) x ts) unfilled bare in
    subst OpensNoParen paren empty

opens_none : (ts : List Symbol) → ((rest : List Symbol) → ts ≢ punct kind.LeftParen ∷ rest) → OpensNoParen ts
opens_none (punct kind.LeftParen ∷ ts) h = h ts refl
opens_none ts h = tt

fits : (m : Matching) (f : Fills) (ts : List Symbol) → NoParenAfterGroup m f ts → FitsMatching m f ts
fits (Some (on, text, ls, Some (left, word, None))) no_fill ts h = opens_none ts (λ rest. h on left text word ls rest refl refl)
fits m f ts h = tt

pub groups_fit : (m : Matching) (f : Fills) (ts : List Symbol) → FitsMatching m f ts ↔ NoParenAfterGroup m f ts
groups_fit m f ts = (no_paren m f ts, fits m f ts)
