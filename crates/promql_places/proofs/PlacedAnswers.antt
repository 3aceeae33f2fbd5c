-- What is found of an accepted text.
use Rattle.std.proofs.Common.{◌≡◌, ◌≢◌, ◌+◌, List, [], ◌∷◌, ◌++◌, Result, Ok, Err, refl, sym, ap, subst, ◌∙◌, arith, length, map}
use Rattle.std.specs.List.{AllByRecursion}
use Rattle.std.proofs.lemmas.List.{length-map}
use Rattle.promql_text.specs.Texts.{Text}
use Rattle.promql_ast.specs.Tree.{Tree}
use Rattle.promql_grammar.specs.Grammar.{Derivation, IsWellFormed, yield}
use Rattle.promql_grammar.specs.Results.{on_result}
use Rattle.promql_grammar.specs.Symbols.{Symbol, symbol_of}
use Rattle.promql_grammar.specs.SourceTokens.{Token, tokens}
use Rattle.promql_span.specs.PlacedTokens.{placed_tokens}
use Rattle.promql_span.specs.TokensPlaced.{TokensArePlaced}
use Rattle.promql_syntax.specs.Asking.{EndsIn}
use Rattle.promql_syntax.specs.Building.{build}
use Rattle.promql_syntax.specs.ParseAnswers.{Derives, IsAnswerTo, memory}
use Rattle.promql_places.specs.CursorTokens.{kinds_left, lexeme_kind}
use Rattle.promql_places.specs.NodeParts.{parts_of}
use Rattle.promql_places.specs.NodePlaces.{AreOfNodes, nodes, place_of}
use Rattle.promql_places.proofs.Lying.{LiesWithin}
use Rattle.promql_places.specs.Passing.{IsPlacing, Passed, Passes, lists_of, parts_in, pass, place_in}
use Rattle.promql_places.specs.Skipping.{kind_of, kinds}
use Rattle.promql_places.specs.declared.placing.Placing.{Placing}
use Rattle.promql_places.proofs.BuiltNodes.{builds_nodes, nodes_lie}
use Rattle.promql_places.proofs.PassedTrees.{counts, passed_whole}
use Rattle.promql_places.proofs.PlacedNodes.{derived_kinds, lists_are, places_are}

-- the derivation of a text that was answered by a tree
record IsAnswered (s : Text) (t : Tree) : Type 0 where
  derivation : Derivation
  derives : Derives s derivation
  builds : EndsIn (build derivation) (Ok t)

answered : (s : Text) (t : Tree) → IsAnswerTo s (Ok t) → IsAnswered s t
answered s t answer =
    let served = answer.served (λ e. cc) in
    let is = served.1.built (Ok t) refl in
    record { derivation = is.0; derives = is.1; builds = record { answers = served.0; allowed = served.1.allowed; ends = is.3 } }

-- memory may run out later
begun : (s : Text) (d : Derivation) → Derives s d → (token : Token) (rest : List Token) → tokens s ≡ Ok (token ∷ rest)
    → ((e : Derivation) (others : List Symbol) → IsWellFormed e → yield e ≢ symbol_of token ∷ others) → ⊥
begun s d derives token rest first none =
    let spelled : Ok (map symbol_of (token ∷ rest)) ≡ (let r : Result (List _) _ = Ok (yield d) in r) = sym (ap (on_result (map symbol_of)) first) ∙ derives.spells in
    let same : yield d ≡ symbol_of token ∷ map symbol_of rest = cc in
    none d (map symbol_of rest) derives.formed same

pub memory_instead : (s : Text) (t : Tree) → IsAnswerTo s (Ok t) → IsAnswerTo s (Err memory)
memory_instead s t answer =
    let a = answered s t answer in
    record {
      served = λ h. absurd (h refl);
      syntax = λ e. cc;
      too_deep = λ e. cc;
      empty = (λ e. cc, λ h. let no = answer.empty.1 h in cc);
      lexical = λ f. (λ e. cc, λ h. let no = (answer.lexical f).1 h in cc);
      early = λ token rest first none. absurd (begun s a.derivation a.derives token rest first none);
      typed = λ u e. cc;
      low = λ u e. cc;
    }

-- a pass over all tokens
record IsPassed (s : Text) (t : Tree) (old new : Placing) : Type 0 where
  derivation : Derivation
  derives : Derives s derivation
  builds : EndsIn (build derivation) (Ok t)
  places : new.places.items ≡ map (place_in s) (counts (nodes 0 derivation))
  parts : lists_of new.parts.items ≡ map (parts_in s) (counts (nodes 0 derivation))
  lie : AllByRecursion (LiesWithin 0 (length (placed_tokens s))) (nodes 0 derivation)

passed : (s : Text) (t : Tree) (old new : Placing) → TokensArePlaced → IsAnswerTo s (Ok t) → IsPlacing s old → kinds_left old.tokens ≡ map lexeme_kind (placed_tokens s) → old.places.items ≡ [] → old.parts.items ≡ []
    → Passes (pass t (kinds_left old.tokens)) old new [] [] → IsPassed s t old new
passed s t old new placed answer over all none bare passes =
    let a = answered s t answer in
    let d = a.derivation in
    let same : kinds (yield d) ≡ map lexeme_kind (placed_tokens s) = derived_kinds s d placed a.derives in
    let given : pass t (kinds_left old.tokens) ≡ ([], counts (nodes 0 d), []) = ap (pass t) (all ∙ sym same) ∙ passed_whole d t a.builds a.derives.formed in
    let count : length (yield d) + 0 ≡ length (placed_tokens s) = let one = length-map (yield d) kind_of in let two = length-map (placed_tokens s) lexeme_kind in let both = ap length same in omega arith in
    record {
      derivation = d;
      derives = a.derives;
      builds = a.builds;
      places = passes.places s over ∙ ap (λ l. l ++ map (place_in s) (pass t (kinds_left old.tokens)).1) none ∙ ap (λ (r : Passed). map (place_in s) r.1) given;
      parts = passes.have s over ∙ ap (λ l. lists_of l ++ map (parts_in s) (pass t (kinds_left old.tokens)).1) bare ∙ ap (λ (r : Passed). map (parts_in s) r.1) given;
      lie = subst (λ n. AllByRecursion (LiesWithin 0 n) (nodes 0 d)) count (nodes_lie d 0);
    }

-- finds the places
pub found : (s : Text) (t : Tree) (old new : Placing) → TokensArePlaced → IsPlacing s old → kinds_left old.tokens ≡ map lexeme_kind (placed_tokens s) → old.places.items ≡ [] → old.parts.items ≡ []
    → Passes (pass t (kinds_left old.tokens)) old new [] [] → IsAnswerTo s (Ok t) → AreOfNodes (place_of s) s t new.places.items
found s t old new placed over all none bare passes answer =
    let p = passed s t old new placed answer over all none bare passes in
    (p.derivation, p.derives, builds_nodes 0 p.derivation t p.builds, p.places ∙ places_are s (nodes 0 p.derivation) p.lie)

-- and the parts
pub parts_found : (s : Text) (t : Tree) (old new : Placing) → TokensArePlaced → IsPlacing s old → kinds_left old.tokens ≡ map lexeme_kind (placed_tokens s) → old.places.items ≡ [] → old.parts.items ≡ []
    → Passes (pass t (kinds_left old.tokens)) old new [] [] → IsAnswerTo s (Ok t) → AreOfNodes (parts_of s) s t (lists_of new.parts.items)
parts_found s t old new placed over all none bare passes answer =
    let p = passed s t old new placed answer over all none bare passes in
    (p.derivation, p.derives, builds_nodes 0 p.derivation t p.builds, p.parts ∙ lists_are s (nodes 0 p.derivation) p.lie)
