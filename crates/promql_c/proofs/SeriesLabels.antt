-- The labels that the members of an object are, one by one.
use Rattle.std.proofs.Common.{◌≡◌, List, [], ◌∷◌, ◌++◌, map, Some, None, string_bytes, ap, refl, sym, ◌∙◌}
use Rattle.std.specs.Prelude.{option_and_then, option_map, Option}
use Rattle.std.proofs.lemmas.List.{map-append}
use Rattle.serde_json.specs.Data.{Data, array, boolean, null, number, object, string}
use Rattle.serde_json.specs.Find.{as_str}
use Rattle.serde_json.specs.View.{members_view, view}
use Rattle.serde_json.proofs.Views.{Entry}
use Rattle.promql_text.specs.Texts.{Text}
use Rattle.promql_rewrite.specs.Selecting.{Series}
use Rattle.promql_when.specs.MayRead.{series_of}
use Rattle.promql_when.specs.declared.series.SeriesLabel.{SeriesLabel}
use Rattle.promql_c.specs.SeriesText.{series_of_members, with_label}

-- the names and the values of these
abbrev rows_of : List SeriesLabel → List (Text × Data)
rows_of = map (λ l. (l.name.now, string l.value.now))

abbrev members_of : List Entry → List (Text × Data)
members_of = map (λ e. (string_bytes e.0, view e.1))

text_of : (d : Data) (s : Text) → Some s ≡ as_str d → string s ≡ d
text_of null s is = cc
text_of (boolean b) s is = cc
text_of (number n) s is = cc
text_of (string t) s is = ap string (let same : s ≡ t = cc in same)
text_of (array ds) s is = cc
text_of (object ms) s is = cc

-- the members are these labels
abbrev pub AreLabels : List Entry → List SeriesLabel → Type 0
AreLabels es ls = rows_of ls ≡ members_of es

pub one_more : (es : List Entry) (e : Entry) (ls more : List SeriesLabel) (l : SeriesLabel) → more ≡ ls ++ l ∷ [] → l.name.now ≡ string_bytes e.0
    → Some l.value.now ≡ as_str (view e.1) → AreLabels es ls → AreLabels (es ++ e ∷ []) more
one_more es e ls more l adds named valued are =
    let row = ap (λ name. (name, string l.value.now)) named ∙ ap (λ d. (string_bytes e.0, d)) (text_of (view e.1) l.value.now valued) in
    ap rows_of adds ∙ map-append _ ls (l ∷ []) ∙ ap (λ rows. rows ++ (l.name.now, string l.value.now) ∷ []) are
    ∙ ap (λ r. members_of es ++ r ∷ []) row ∙ sym (map-append _ es (e ∷ []))

one_label : (key value : Text) (d : Data) (series : Series) (found : Option Series) → string value ≡ d → Some series ≡ found
    → Some (with_label key value series) ≡ option_and_then (λ value. option_map (with_label key value) found) (as_str d)
one_label key value d series found is same =
    ap (option_map (with_label key value)) same
    ∙ ap (λ d. option_and_then (λ value. option_map (with_label key value) found) (as_str d)) is

pub series_is : (es : List Entry) (ls : List SeriesLabel) → AreLabels es ls → Some (series_of ls) ≡ series_of_members (members_view es)
series_is [] [] are = refl
series_is [] (l ∷ ls) are = cc
series_is (e ∷ es) [] are = cc
series_is (e ∷ es) (l ∷ ls) are =
    let row : ◌≡◌ {A = Text × Data} (l.name.now, string l.value.now) (string_bytes e.0, view e.1) = cc in
    let rest : rows_of ls ≡ members_of es = cc in
    ap (λ key. Some (with_label key l.value.now (series_of ls))) (ap (λ r. r.0) row)
    ∙ one_label (string_bytes e.0) l.value.now (view e.1) (series_of ls) (series_of_members (members_view es)) (ap (λ r. r.1) row) (series_is es ls rest)

missing : (key : Text) (o : Option Text) (found : Option Series) → None ≡ found
    → None ≡ option_and_then (λ value. option_map (with_label key value) found) o
missing key None found none = refl
missing key (Some value) found none = ap (option_map (with_label key value)) none

-- a member that is no text
pub no_series : (done : List Entry) (e : Entry) (left : List Entry) → None ≡ as_str (view e.1) → None ≡ series_of_members (members_view (done ++ e ∷ left))
no_series [] e left none = ap (option_and_then _) none
no_series (x ∷ done) e left none = missing (string_bytes x.0) (as_str (view x.1)) (series_of_members (members_view (done ++ e ∷ left))) (no_series done e left none)
