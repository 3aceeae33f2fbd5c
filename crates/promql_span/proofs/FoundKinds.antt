-- What is found at the tokens of a text, token by token.
use Rattle.std.proofs.Common.{◌≡◌, List, ◌++◌, refl, ap, sym, ◌∙◌}
use Rattle.std.specs.Prelude.{if◌then◌else◌, Option, Some, None}
use Rattle.std.specs.List.{filter_map}
use Rattle.std.proofs.lemmas.List.{append_assoc}
use Rattle.std.proofs.lemmas.List.Elements.{filter_map-append}
use Rattle.promql_span.specs.Differences.{counted, is_of}
use Rattle.promql_span.specs.declared.differences.DifferenceKind.{DifferenceKind}
use Rattle.promql_span.specs.declared.limits.Limits.{Limits}
use Rattle.promql_span.specs.declared.target.Target.TheVariants.{Rules}

-- these rules read nothing otherwise
pub none_for_rules : (limits : Limits) (o : Option DifferenceKind) → limits.target ≡ Rules → counted limits o ≡ None
none_for_rules limits None is = refl
none_for_rules limits (Some kind) is = ap (λ t. if is_of t limits.printed kind then Some kind else None) is

-- what was found, what is found here, and what is found after it
pub pushed : {X Y : Type 0} (f : X → Option Y) (found more whole : List Y) (here rest : List X) → found ++ filter_map f (here ++ rest) ≡ whole
    → more ≡ found ++ filter_map f here → more ++ filter_map f rest ≡ whole
pushed f found more whole here rest is adds =
    ap (λ ys. ys ++ filter_map f rest) adds ∙ append_assoc found (filter_map f here) (filter_map f rest)
    ∙ ap (λ ys. found ++ ys) (sym (filter_map-append f here rest)) ∙ is
