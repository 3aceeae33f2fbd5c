-- What is collected so far (private: nothing rests on believing it).
use Rattle.std.specs.Prelude.{ℕ, List, [], ◌++◌, ◌∷◌, Option, map, string_bytes}
use Rattle.std.specs.List.{flat_map}
use Rattle.promql_text.specs.Texts.{Text}
use Rattle.promql_ast.specs.Selectors.{Selector}
use Rattle.promql_ast.specs.Tree.{Tree}
use Rattle.promql_rewrite.specs.Collecting.{Selection, selected_of, selection, own_functions, own_labels, own_metrics, own_selectors, selector_labels, selector_metrics}
use Rattle.promql_rewrite.specs.declared.collecting.Collected.{Collected}

-- the names in four lists
pub record Names : Type 0 where
  pub metrics : List Text
  pub labels : List Text
  pub functions : List Text
  pub selectors : List Selection

abbrev pub joined : Names → Names → Names
joined a b = record {
  metrics = a.metrics ++ b.metrics;
  labels = a.labels ++ b.labels;
  functions = a.functions ++ b.functions;
  selectors = a.selectors ++ b.selectors;
}

-- what was collected
abbrev pub names_of : Collected → Names
names_of c = record {
  metrics = map string_bytes c.metric_names.items;
  labels = map string_bytes c.label_names.items;
  functions = map string_bytes c.functions.items;
  selectors = map selected_of c.selectors.items;
}

-- what one node names
abbrev pub own_names : Tree → Names
own_names t = record {
  metrics = own_metrics t;
  labels = own_labels t;
  functions = own_functions t;
  selectors = own_selectors t;
}

-- what a selector with this range names
abbrev pub selector_names : Selector → Option ℕ → Names
selector_names s range = record {
  metrics = selector_metrics s;
  labels = selector_labels s;
  functions = [];
  selectors = selection s range ∷ [];
}

-- what nodes name
abbrev pub names_in : List Tree → Names
names_in ts = record {
  metrics = flat_map own_metrics ts;
  labels = flat_map own_labels ts;
  functions = flat_map own_functions ts;
  selectors = flat_map own_selectors ts;
}
