-- The rows of what a target makes of a query, one by one.
use Rattle.std.proofs.Common.{◌≡◌, ◌-◌, ◌<◌, ◌≤◌, List, [], ◌∷◌, ◌++◌, append-nil, arith, drop, get_or, length, map, take, ap, sym, ◌∙◌}
use Rattle.std.proofs.Math.Seq.{take-length}
use Rattle.std.proofs.lemmas.List.{append_assoc, map-append}
use Rattle.serde_json.specs.Data.{Data}
use Rattle.promql_text.specs.Texts.{Text}
use Rattle.promql_query.specs.declared.findings.Finding.{Finding}
use Rattle.promql_c.specs.FindingsText.{row_value}

-- each finding but those that are left has a row
abbrev pub HaveRows : List Finding → List Finding → List Data → Type 0
HaveRows all left values = (rows : List (Finding × Text)) × (map (λ row. row.0) rows ++ left ≡ all) × (values ≡ map row_value rows)

pub one_more : (all left others : List Finding) (values more : List Data) (f : Finding) (v : Data) → left ≡ f ∷ others → more ≡ values ++ v ∷ []
    → ((message : Text) × (v ≡ row_value (f, message))) → HaveRows all left values → HaveRows all others more
one_more all left others values more f v is adds told have =
    let rows = have.0 in
    let row : List (Finding × Text) = (f, told.0) ∷ [] in (
      rows ++ row,
      ap (λ l. l ++ others) (map-append (λ row. row.0) rows row) ∙ append_assoc (map (λ row. row.0) rows) (f ∷ []) others
          ∙ ap (λ l. map (λ row. row.0) rows ++ l) (sym is) ∙ have.1,
      adds ∙ ap (λ vs. vs ++ v ∷ []) have.2 ∙ ap (λ x. map row_value rows ++ x ∷ []) told.1 ∙ sym (map-append row_value rows row),
    )

-- a list that is not empty is its first element and the rest
pub front : {X : Type 0} (xs : List X) (x : X) → 1 ≤ length xs → x ≡ get_or xs 0 x → xs ≡ x ∷ take (length xs - 1) (drop 1 xs)
front [] x many is = absurd (omega (arith, many))
front (y ∷ ys) x many is =
    let all : length (y ∷ ys) - 1 ≡ length ys = omega arith in
    ap (λ h. h ∷ ys) (sym is) ∙ ap (λ zs. x ∷ zs) (sym (ap (λ n. take n ys) all ∙ take-length ys))

pub none_left : {X : Type 0} (front xs : List X) (all : List X) → length xs < 1 → front ++ xs ≡ all → front ≡ all
none_left front [] all short is = sym (append-nil front) ∙ is
none_left front (x ∷ xs) all short is = absurd (omega (arith, short))
