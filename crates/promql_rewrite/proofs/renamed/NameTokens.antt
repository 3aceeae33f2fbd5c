-- Whether a text is one token that may be a name, by the tokens and the fault that are left.
use Rattle.std.proofs.Common.{◌≡◌, Bool, true, false, not, ◌&&◌, List, [], ◌∷◌, filter, refl, sym, ap, ◌∙◌}
use Rattle.std.specs.Prelude.{Result, Ok, Err}
use Rattle.promql_text.specs.Texts.{Text}
use Rattle.promql_token.specs.Cursor.{is_before_end}
use Rattle.promql_token.specs.declared.fault.LexFault.{LexFault}
use Rattle.promql_grammar.specs.Results.{on_result}
use Rattle.promql_grammar.specs.SourceTokens.{Token}
use Rattle.promql_rewrite.specs.Renaming.{is_name_in}
use Rattle.promql_rewrite.specs.Renamings.{is_name_of, is_name_token, is_nothing}

and_true : (a : Bool) → (a && true) ≡ a
and_true true = refl
and_true false = refl

and_false : (a : Bool) → (a && false) ≡ false
and_false true = refl
and_false false = refl

in_list : (z : Text) (ts : List Token) → is_name_of z ts ≡ is_name_in z (Ok ts)
in_list z [] = refl
in_list z (t ∷ []) = refl
in_list z (t ∷ u ∷ ts) = refl

module _ (z : Text) (left : List Token) (fault : Bool) where
  pub not_named : (r : Result (List Token) LexFault) → ((ts : List Token) → r ≡ Ok ts → left ≡ filter is_before_end ts) → left ≡ [] → false ≡ is_name_in z (on_result (filter is_before_end) r)
  not_named (Ok ts) whole none = ap (is_name_of z) (sym none ∙ whole ts refl) ∙ in_list z (filter is_before_end ts)
  not_named (Err f) whole none = refl

  alone : (t : Token) (rest : List Token) → (is_name_token t.0 t.1 z && (is_nothing rest && true)) ≡ is_name_of z (t ∷ rest)
  alone t [] = and_true (is_name_token t.0 t.1 z)
  alone t (u ∷ rest) = and_false (is_name_token t.0 t.1 z)

  at_fault : (a b : Bool) → (a && (b && false)) ≡ false
  at_fault a b = ap (λ c. a && c) (and_false b) ∙ and_false a

  pub named : (r : Result (List Token) LexFault) → ((ts : List Token) → r ≡ Ok ts → left ≡ filter is_before_end ts) → ((ts : List Token) → r ≡ Ok ts → fault ≡ false) → ((f : LexFault) → r ≡ Err f → fault ≡ true)
      → (t : Token) (rest : List Token) → left ≡ t ∷ rest → (is_name_token t.0 t.1 z && (is_nothing rest && not fault)) ≡ is_name_in z (on_result (filter is_before_end) r)
  named (Ok ts) whole sound faulty t rest first =
      ap (λ b. is_name_token t.0 t.1 z && (is_nothing rest && not b)) (sound ts refl) ∙ alone t rest ∙ ap (is_name_of z) (sym first ∙ whole ts refl) ∙ in_list z (filter is_before_end ts)
  named (Err f) whole sound faulty t rest first =
      ap (λ b. is_name_token t.0 t.1 z && (is_nothing rest && not b)) (faulty f refl) ∙ at_fault (is_name_token t.0 t.1 z) (is_nothing rest)
