-- Rows of the table whose names begin with another letter than a name are none of its own.
use Rattle.std.proofs.Common.{◌≡◌, ◌≢◌, ℕ, zero, suc, refl, sym, ap, ◌∙◌, Bool, true, false, not, cond, ◌==◌, ◌&&◌, Some, List, [], ◌∷◌, take, drop, map, arith}
use Rattle.std.specs.Prelude.{find}
use Rattle.std.specs.List.{list_all}
use Rattle.std.proofs.lemmas.Bool.Decides.{nat_tests}
use Rattle.std.proofs.lemmas.Slice.Eq.{bytes_eq-Decides}
use Rattle.promql_text.specs.DecimalForm.{front}
use Rattle.promql_text.specs.Texts.{Text}
use Rattle.promql_kind.specs.FunctionRows.{begins_otherwise}
use Rattle.promql_kind.specs.Functions.{Row, is_named, row_signature}

other_letters : (b c : ℕ) → not (b == c) ≡ true → b ≢ c
other_letters b c other = grind (arith, nat_tests)

named_otherwise : (name : Text) (row : Row) → begins_otherwise (front name) row ≡ true → is_named name (row_signature row) ≡ false
named_otherwise name row other = go (is_named name (row_signature row)) refl
  where
    go : (c : Bool) → is_named name (row_signature row) ≡ c → c ≡ false
    go true is = absurd (other_letters (front row.0.now) (front name) other (ap front ((bytes_eq-Decides row.0.now name).0 is)))
    go false is = refl

abbrev pub Skips : Text → ℕ → List Row → Type 0
Skips name n rows = list_all (begins_otherwise (front name)) (take n rows) ≡ true
    → find (is_named name) (drop n (map row_signature rows)) ≡ find (is_named name) (map row_signature rows)

-- the search may begin after rows whose names begin with another letter
pub skipped_rows : (name : Text) (n : ℕ) (rows : List Row) → Skips name n rows
skipped_rows name zero rows all = refl
skipped_rows name (suc n) [] all = refl
skipped_rows name (suc n) (row ∷ rows) all = go (begins_otherwise (front name) row) refl all (skipped_rows name n rows)
  where
    go : (c : Bool) → begins_otherwise (front name) row ≡ c → (c && list_all (begins_otherwise (front name)) (take n rows)) ≡ true → Skips name n rows
        → find (is_named name) (drop n (map row_signature rows)) ≡ find (is_named name) (map row_signature (row ∷ rows))
    go true is more later =
        later more ∙ sym (ap (λ c. cond c (Some (row_signature row)) (find (is_named name) (map row_signature rows))) (named_otherwise name row is))
    go false is more later = cc
