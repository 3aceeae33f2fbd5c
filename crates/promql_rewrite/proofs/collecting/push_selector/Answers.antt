use Rattle.std.proofs.Common.{◌++◌, ◌∷◌, [], ◌∙◌, ap, map, option_map}
use Rattle.std.specs.Duration.{as_nanos}
use Rattle.std.proofs.lemmas.List.{map_push}
use Rattle.promql_ast.specs.View.{selector_of}
use Rattle.promql_rewrite.specs.Collecting.{selected_of}
use Rattle.promql_rewrite.specs.CollectedNames.{names_of, selector_names}
use Rattle.promql_rewrite.proofs.names.AppendedNames.{names_more, unchanged}
use Rattle.promql_rewrite.proofs.collecting.push_selector.Goals as goal

pub returns : goal.returns
returns c =
    names_more (names_of c.args.found.now) _ (selector_names (selector_of c.args.selector.now) (option_map as_nanos c.args.range)) c.in_ok-push_metrics.ensures c.in_ok-push_selector_labels.ensures (unchanged _)
    (ap (map selected_of) c.in_ok-push.ensures.items ∙ map_push selected_of _ _ ∙ ap (λ s. map selected_of c.args.found.now.selectors.items ++ s ∷ []) c.in_ok-to_collected.ensures)
