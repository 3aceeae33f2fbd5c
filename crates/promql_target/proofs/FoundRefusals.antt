-- What is found at the tokens of a query, token by token.
use Rattle.std.proofs.Common.{◌≡◌, ◌++◌, List, ap, sym, ◌∙◌}
use Rattle.std.specs.Prelude.{map}
use Rattle.std.proofs.lemmas.List.{append_assoc, map-append}

-- what was found, what is found here, and what is found after it
pub pushed : {X Y : Type 0} (f : X → Y) (found more whole : List Y) (here rest : List X) → found ++ map f (here ++ rest) ≡ whole → more ≡ found ++ map f here
    → more ++ map f rest ≡ whole
pushed f found more whole here rest is adds =
    ap (λ ys. ys ++ map f rest) adds ∙ append_assoc found (map f here) (map f rest) ∙ ap (λ ys. found ++ ys) (sym (map-append f here rest)) ∙ is
