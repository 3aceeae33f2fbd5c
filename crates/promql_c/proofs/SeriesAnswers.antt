-- What is answered of the labels of a series.
use Rattle.std.proofs.Common.{◌≡◌, List, Some, None, Vec, Global, String, string_bytes, ap, inr, refl, sym, ◌∙◌}
use Rattle.std.specs.Prelude.{Bool, Option, Result, Ok, Err, IfErr, IfOk, option_and_then, option_map}
use Rattle.serde_json.specs.Data.{Data, boolean}
use Rattle.serde_json.specs.Read.{read}
use Rattle.serde_json.specs.Written.{compact_text}
use Rattle.promql_text.specs.Texts.{Text}
use Rattle.promql_grammar.specs.Results.{on_result}
use Rattle.promql_ast.specs.Tree.{Tree}
use Rattle.promql_rewrite.specs.Selecting.{Series}
use Rattle.promql_query.specs.declared.query_error.QueryError.{QueryError}
use Rattle.promql_query.specs.declared.query_error.QueryError.TheVariants.{Memory}
use Rattle.promql_when.specs.MayRead.{may_read, series_of}
use Rattle.promql_when.specs.declared.series.SeriesLabel.{SeriesLabel}
use Rattle.promql_c.specs.Calls.{GivesMayRead}
use Rattle.promql_c.specs.SeriesText.{series_in}

abbrev series_with : Vec SeriesLabel Global → Series
series_with labels = series_of labels.items

after : {A B C : Type 0} (f : A → B) (g : B → C) (o : Option A) → option_map (λ a. g (f a)) o ≡ option_map g (option_map f o)
after f g None = refl
after f g (Some a) = refl

-- what is said of the labels that are found is said of their series
pub told : {A : Type 0} (f : Series → A) (found : Option (Vec SeriesLabel Global)) (labels : Vec SeriesLabel Global) (items : List SeriesLabel) (series : Option Series) (a : A)
    → option_map series_with found ≡ series → found ≡ Some labels → items ≡ labels.items → a ≡ f (series_of items) → Some a ≡ option_map f series
told f found labels items series a seen is shown made =
    ap Some made ∙ ap (λ ls. Some (f (series_of ls))) shown ∙ sym (ap (option_map (λ ls. f (series_with ls))) is) ∙ after series_with f found ∙ ap (option_map f) seen

some_of : {A B : Type 0} (f : A → B) (o : Option A) (b : B) → Some b ≡ option_map f o → (a : A) × (o ≡ Some a) × (b ≡ f a)
some_of f None b is = cc
some_of f (Some a) b is = (a, refl, cc)

-- the text of an answer about the series of a text
pub gives : (labels : Text) (t : Tree) (d : Data) (found : Option Bool) (may : Bool) (r : Result (String Global) QueryError) → read labels ≡ Some d
    → found ≡ option_map (λ series. may_read series t) (series_in d) → found ≡ Some may → IfOk r (λ s. string_bytes s ≡ compact_text (boolean may))
    → IfErr r (λ e. e ≡ Memory) → GivesMayRead labels t (on_result (λ s. string_bytes s) r)
gives labels t d found may (Ok s) is told one text fails =
    let so = some_of (λ series. may_read series t) (series_in d) may (sym one ∙ told) in
    (so.0, ap (option_and_then series_in) is ∙ so.1, text ∙ ap (λ b. compact_text (boolean b)) so.2)
gives labels t d found may (Err e) is told one text fails = inr fails
