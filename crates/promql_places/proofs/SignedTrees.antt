-- Numbers and signs: which trees they leave, and that the pass goes over them.
use Rattle.std.proofs.Common.{◌≡◌, ⊎_elim, ℕ, Bool, true, false, List, ◌∷◌, refl, sym, ap, subst, ◌∙◌}
use Rattle.promql_token.specs.declared.ids.TheConstants.{T_ADD, T_POW}
use Rattle.promql_grammar.specs.declared.token_kinds.TokenKind.{TokenKind}
use Rattle.promql_grammar.specs.declared.token_kinds.TokenKind.TheVariants as kind
use Rattle.promql_grammar.specs.Grammar as grammar
use Rattle.promql_grammar.specs.Grammar.{Derivation, FitsUnary, IsWellFormed}
use Rattle.promql_grammar.specs.GrammarParts as part
use Rattle.promql_grammar.specs.Symbols.{is_plus_or_minus}
use Rattle.promql_grammar.proofs.GrammarChoices.{if_true}
use Rattle.promql_ast.specs.Tree.{Tree, aggregate, unary, binary, paren, subquery, number, string, vector, matrix, call, extension}
use Rattle.promql_syntax.specs.Building.{build}
use Rattle.promql_places.specs.NodePlaces.{is_number}
use Rattle.promql_places.specs.Passing.{inside}
use Rattle.promql_places.specs.Skipping.{skip_pluses, skip_signs}
use Rattle.promql_places.proofs.BuiltTrees.{Alike, Based, Gives, MinusOf, shape}

-- ---- numbers

abbrev pub is_number_tree : Tree → Bool
is_number_tree (number n) = true
is_number_tree t = false

alike_no_number : (s t : Tree) → Alike s t → is_number_tree t ≡ false
alike_no_number s (number n) a = absurd (a.takes a.same)
alike_no_number s t a = refl

postfix_no_number : (d : Derivation) (p : part.Postfix) (t : Tree) → Based d p t → is_number_tree t ≡ false
postfix_no_number d (part.range r) t b = ap is_number_tree b.is.after
postfix_no_number d (part.subquery r s) t b = ap is_number_tree b.is.is
postfix_no_number d (part.at_number s u) t b = alike_no_number b.base t b.is
postfix_no_number d (part.at_bound k u) t b = alike_no_number b.base t b.is
postfix_no_number d (part.offset u s r) t b = alike_no_number b.base t b.is
postfix_no_number d (part.mode k u) t b = alike_no_number b.base t b.is

pub minus_number : (s t : Tree) → MinusOf s t → is_number_tree t ≡ is_number_tree s
minus_number (number n) t (m, is) = ap is_number_tree is
minus_number s t is = ap is_number_tree is

pub number_is : (d : Derivation) (t : Tree) → Gives (build d) t → is_number_tree t ≡ is_number d
number_is (grammar.number text) t g = ap is_number_tree (shape (grammar.number text) t g).1
number_is (grammar.duration text) t g = ap is_number_tree (shape (grammar.duration text) t g).1
number_is (grammar.string text) t g = ap is_number_tree (shape (grammar.string text) t g).1
number_is (grammar.selector k text b) t g = ap is_number_tree (shape (grammar.selector k text b) t g).1
number_is (grammar.nameless b) t g = ap is_number_tree (shape (grammar.nameless b) t g).1
number_is (grammar.paren d) t g = ap is_number_tree (shape (grammar.paren d) t g).is
number_is (grammar.call k text ds) t g = ap is_number_tree (shape (grammar.call k text ds) t g).is
number_is (grammar.aggregate op text c ds) t g = ap is_number_tree (shape (grammar.aggregate op text c ds) t g).is
number_is (grammar.postfixed d p) t g = postfix_no_number d p t (shape (grammar.postfixed d p) t g)
number_is (grammar.unary op text d) t g =
    let s = shape (grammar.unary op text d) t g in
    ⊎_elim (λ minus. minus_number s.operand t minus.1 ∙ number_is d s.operand s.first) (λ plus. ap is_number_tree plus.1 ∙ number_is d s.operand s.first) s.is
number_is (grammar.binary op text m l r) t g = ap is_number_tree (shape (grammar.binary op text m l r) t g).is

-- ---- signs that leave no node

-- a plus before a binary node is before a power
abbrev pub IsSigned : Tree → Type 0
IsSigned (binary op l r m) = op ≡ T_POW
IsSigned (extension name gives es) = ⊥
IsSigned t = Unit {0}

alike_signed : (s t : Tree) → Alike s t → IsSigned t
alike_signed s (binary op l r m) a = absurd (a.takes a.same)
alike_signed s (extension name gives es) a = absurd (a.takes a.same)
alike_signed s t a = tt

postfix_signed : (d : Derivation) (p : part.Postfix) (t : Tree) → Based d p t → IsSigned t
postfix_signed d (part.range r) t b = subst IsSigned (sym b.is.after) tt
postfix_signed d (part.subquery r s) t b = subst IsSigned (sym b.is.is) tt
postfix_signed d (part.at_number s u) t b = alike_signed b.base t b.is
postfix_signed d (part.at_bound k u) t b = alike_signed b.base t b.is
postfix_signed d (part.offset u s r) t b = alike_signed b.base t b.is
postfix_signed d (part.mode k u) t b = alike_signed b.base t b.is

minus_signed : (s t : Tree) → MinusOf s t → IsSigned t
minus_signed (number n) t (m, is) = subst IsSigned (sym is) tt
minus_signed s t is = subst IsSigned (sym is) tt

pub signed : (d : Derivation) (t : Tree) → Gives (build d) t → IsWellFormed d → FitsUnary d → IsSigned t
signed (grammar.number text) t g h f = subst IsSigned (sym (shape (grammar.number text) t g).1) tt
signed (grammar.duration text) t g h f = subst IsSigned (sym (shape (grammar.duration text) t g).1) tt
signed (grammar.string text) t g h f = subst IsSigned (sym (shape (grammar.string text) t g).1) tt
signed (grammar.selector k text b) t g h f = subst IsSigned (sym (shape (grammar.selector k text b) t g).1) tt
signed (grammar.nameless b) t g h f = subst IsSigned (sym (shape (grammar.nameless b) t g).1) tt
signed (grammar.paren d) t g h f = subst IsSigned (sym (shape (grammar.paren d) t g).is) tt
signed (grammar.call k text ds) t g h f = subst IsSigned (sym (shape (grammar.call k text ds) t g).is) tt
signed (grammar.aggregate op text c ds) t g h f = subst IsSigned (sym (shape (grammar.aggregate op text c ds) t g).is) tt
signed (grammar.postfixed d p) t g h f = postfix_signed d p t (shape (grammar.postfixed d p) t g)
signed (grammar.unary op text d) t g h f =
    let s = shape (grammar.unary op text d) t g in
    ⊎_elim (λ minus. minus_signed s.operand t minus.1) (λ plus. subst IsSigned (sym plus.1) (signed d s.operand s.first h.1 h.2)) s.is
signed (grammar.binary op text m l r) t g h f = subst IsSigned (sym (shape (grammar.binary op text m l r) t g).is) f

pub plus_skipped : (op : ℕ) (ks : List TokenKind) → op ≡ T_ADD → skip_pluses (kind.Operator op ∷ ks) ≡ skip_pluses ks
plus_skipped op ks is = ap (λ o. skip_pluses (kind.Operator o ∷ ks)) is

pub sign_skipped : (op : ℕ) (ks : List TokenKind) → is_plus_or_minus op ≡ true → skip_signs (kind.Operator op ∷ ks) ≡ skip_signs ks
sign_skipped op ks is = if_true _ _ _ is

pub plus_first : (op : ℕ) (t : Tree) (ks : List TokenKind) → op ≡ T_ADD → IsSigned t → inside t (kind.Operator op ∷ ks) ≡ inside t ks
plus_first op t ks is signed = ap (λ o. inside t (kind.Operator o ∷ ks)) is ∙ by t signed
  where
    by : (t : Tree) → IsSigned t → inside t (kind.Operator T_ADD ∷ ks) ≡ inside t ks
    by (aggregate op e p m) h = refl
    by (unary e) h = refl
    by (binary op l r m) h = ap (λ o. inside (binary o l r m) (kind.Operator T_ADD ∷ ks)) h ∙ sym (ap (λ o. inside (binary o l r m) ks) h)
    by (paren e) h = refl
    by (subquery e offset at range step) h = refl
    by (number n) h = refl
    by (string s) h = refl
    by (vector s) h = refl
    by (matrix s range mode) h = refl
    by (call f ts) h = refl
    by (extension name gives es) h = absurd h
