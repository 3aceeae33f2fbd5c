-- Passes, one after the other.
use Rattle.std.proofs.Common.{◌≡◌, ℕ, zero, suc, ◌+◌, ◌<◌, ◌≤◌, List, [], ◌∷◌, ◌++◌, refl, sym, ap, subst, ◌∙◌, arith, append_assoc, append-nil, drop, get_or, length, length-append, map, set, Box, Global, Vec}
use Rattle.std.specs.Prelude.{◌==◌, if◌then◌else◌}
use Rattle.std.proofs.lemmas.Bool.Decides.{nat_tests}
use Rattle.std.proofs.lemmas.List.{drop_all, length-map}
use Rattle.std.proofs.Math.Seq.{set-append_seam}
use Rattle.promql_text.specs.Texts.{Text}
use Rattle.promql_grammar.specs.declared.token_kinds.TokenKind.{TokenKind}
use Rattle.promql_ast.specs.View.{tree_of, trees_of}
use Rattle.promql_ast.specs.declared.expr.Expr.{Expr}
use Rattle.promql_span.specs.declared.span.Span.{Span}
use Rattle.promql_places.specs.CursorTokens.{IsOver, Moved, first_start, kinds_left, lexemes_left, span_in}
use Rattle.promql_places.specs.PartSteps.{Step, Takes, part_in}
use Rattle.promql_places.specs.Passing.{IsPlacing, Passed, Passes, begin, lists_of, parts_in, pass, pass_all, pass_by, place_in, skip_empty, then_pass, then_skip, then_take}
use Rattle.promql_places.specs.declared.parts.Part.{Part}
use Rattle.promql_places.specs.declared.placing.Placing.{Placing}
use Rattle.promql_places.proofs.TakeSteps.{map_joined, span_between}

-- ---- a place of a list

got_seam : (before after : List Span) (place d : Span) → get_or (before ++ place ∷ after) (length before) d ≡ place
got_seam [] after place d = refl
got_seam (x ∷ before) after place d = got_seam before after place d

pub ended : (xs before after : List Span) (place found : Span) (i e : ℕ) → xs ≡ before ++ place ∷ after → i ≡ length before → found ≡ get_or xs i found
    → set xs i (record { start = found.start; end = e }) ≡ before ++ record { start = place.start; end = e } ∷ after
ended xs before after place found i e is index here =
    let same : found ≡ place = here ∙ ap (λ l. get_or l i found) is ∙ ap (λ n. get_or (before ++ place ∷ after) n found) index ∙ got_seam before after place found in
    (λ j. set (is j) (index j) (record { start = (same j).start; end = e }))
    ∙ set-append_seam before place after (record { start = place.start; end = e })

-- the same of a list of parts
pub lists_ended : (xs : List (Vec Part Global)) (before after : List (List Part)) (none : List Part) (own : Vec Part Global) (i : ℕ) → lists_of xs ≡ before ++ none ∷ after → i ≡ length before
    → lists_of (set xs i own) ≡ before ++ own.items ∷ after
lists_ended xs before after none own i is index =
    lists_set xs i own ∙ (λ j. set (is j) (index j) own.items) ∙ set-append_seam before none after own.items
  where
    lists_set : (xs : List (Vec Part Global)) (i : ℕ) (own : Vec Part Global) → lists_of (set xs i own) ≡ set (lists_of xs) i own.items
    lists_set [] i own = refl
    lists_set (x ∷ xs) zero own = refl
    lists_set (x ∷ xs) (suc i) own = ap (λ l. x.items ∷ l) (lists_set xs i own)

-- ---- passes

pub passes_none : (p : Placing) (had : List Part) → Passes (begin (kinds_left p.tokens)) p p had had
passes_none p had = record {
  to = refl;
  over = λ s over. over;
  parts = λ s over. sym (append-nil had);
  places = λ s over. sym (append-nil p.places.items);
  have = λ s over. sym (append-nil (lists_of p.parts.items));
}

-- nodes below
pub passes_then : (r : Passed) (more : List TokenKind → Passed) (a b c : Placing) (had has none : List Part) → Passes r a b had has → Passes (more (kinds_left b.tokens)) b c none none → Passes (then_pass r more) a c had has
passes_then r more a b c had has none first second =
    let next : Passes (more r.2) b c none none = subst (λ ks. Passes (more ks) b c none none) first.to second in
    record {
      to = next.to;
      over = λ s over. next.over s (first.over s over);
      parts = first.parts;
      places = λ s over.
          next.places s (first.over s over)
          ∙ ap (λ l. l ++ map (place_in s) (more r.2).1) (first.places s over)
          ∙ append_assoc a.places.items (map (place_in s) r.1) (map (place_in s) (more r.2).1)
          ∙ ap (λ l. a.places.items ++ l) (sym (map_joined (place_in s) r.1 (more r.2).1));
      have = λ s over.
          next.have s (first.over s over)
          ∙ ap (λ l. l ++ map (parts_in s) (more r.2).1) (first.have s over)
          ∙ append_assoc (lists_of a.parts.items) (map (parts_in s) r.1) (map (parts_in s) (more r.2).1)
          ∙ ap (λ l. lists_of a.parts.items ++ l) (sym (map_joined (parts_in s) r.1 (more r.2).1));
    }

-- the places and the lists of parts stay
abbrev pub Keeps : Placing → Placing → Type 0
Keeps a b = (b.places.items ≡ a.places.items) × (b.parts.items ≡ a.parts.items)

keeps_placing : (s : Text) (a b : Placing) → Keeps a b → (IsOver s a.tokens → IsOver s b.tokens) → IsPlacing s a → IsPlacing s b
keeps_placing s a b kept over is = record {
  tokens = over is.tokens;
  even = ap length kept.0 ∙ is.even ∙ sym (ap (λ l. length (lists_of l)) kept.1);
}

-- parts of the node itself
pub passes_take : (r : Passed) (step : Step) (a b c : Placing) (had mid has : List Part) → Passes r a b had mid → Takes (step (kinds_left b.tokens)) b.tokens c.tokens mid has → Keeps b c → Passes (then_take r step) a c had has
passes_take r step a b c had mid has first taken kept =
    let next : Takes (step r.2) b.tokens c.tokens mid has = subst (λ ks. Takes (step ks) b.tokens c.tokens mid has) first.to taken in
    record {
      to = next.to;
      over = λ s over. keeps_placing s b c kept (next.over s) (first.over s over);
      parts = λ s over.
          next.parts s ((first.over s over).tokens)
          ∙ ap (λ l. l ++ map (part_in s) (step r.2).0) (first.parts s over)
          ∙ append_assoc had (map (part_in s) r.0) (map (part_in s) (step r.2).0)
          ∙ ap (λ l. had ++ l) (sym (map_joined (part_in s) r.0 (step r.2).0));
      places = λ s over. kept.0 ∙ first.places s over;
      have = λ s over. ap lists_of kept.1 ∙ first.have s over;
    }

pub passes_skip : (r : Passed) (skip : List TokenKind → List TokenKind) (a b c : Placing) (had has : List Part) → Passes r a b had has → Moved (skip (kinds_left b.tokens)) b.tokens c.tokens → Keeps b c → Passes (then_skip r skip) a c had has
passes_skip r skip a b c had has first moved kept = record {
  to = moved.to ∙ ap skip first.to;
  over = λ s over. keeps_placing s b c kept (moved.over s) (first.over s over);
  parts = first.parts;
  places = λ s over. kept.0 ∙ first.places s over;
  have = λ s over. ap lists_of kept.1 ∙ first.have s over;
}

pub passes_as : (r q : Passed) (a b : Placing) (had has : List Part) → r ≡ q → Passes r a b had has → Passes q a b had has
passes_as r q a b had has same = subst (λ r. Passes r a b had has) same

-- ---- a node

-- begun, passed, and ended
pub passes_around : (inner : List TokenKind → Passed) (a b c d : Placing) (i : ℕ) (own : List Part)
    → i ≡ length a.places.items → b.tokens ≡ a.tokens
    → b.places.items ≡ a.places.items ++ record { start = first_start (lexemes_left a.tokens); end = 0 } ∷ []
    → lists_of b.parts.items ≡ lists_of a.parts.items ++ [] ∷ []
    → Passes (inner (kinds_left b.tokens)) b c [] own
    → d.tokens ≡ c.tokens
    → ((before after : List Span) (place : Span) → c.places.items ≡ before ++ place ∷ after → i ≡ length before → d.places.items ≡ before ++ record { start = place.start; end = c.tokens.end } ∷ after)
    → ((before after : List (List Part)) (none : List Part) → lists_of c.parts.items ≡ before ++ none ∷ after → i ≡ length before → lists_of d.parts.items ≡ before ++ own ∷ after)
    → Passes (pass_by inner (kinds_left a.tokens)) a d [] []
passes_around inner a b c d i own index same place list passed kept end_place end_list =
    let ks = kinds_left a.tokens in
    let r = inner ks in
    let inside : Passes r b c [] own = subst (λ t. Passes (inner (kinds_left t)) b c [] own) same passed in
    let begun : (s : Text) → IsPlacing s a → IsPlacing s b = λ s is. record {
      tokens = subst (IsOver s) (sym same) is.tokens;
      even = ap length place ∙ length-append a.places.items (record { start = first_start (lexemes_left a.tokens); end = 0 } ∷ []) ∙ ap (λ n. n + 1) is.even ∙ sym (length-append (lists_of a.parts.items) ([] ∷ [])) ∙ sym (ap length list);
    } in
    let left : length r.2 ≡ length (kinds_left c.tokens) = sym (ap length inside.to) in
    let places_is : (s : Text) → IsPlacing s a → d.places.items ≡ a.places.items ++ map (place_in s) (((length ks, length r.2), r.0) ∷ r.1) = λ s is.
    end_place a.places.items (map (place_in s) r.1) (record { start = first_start (lexemes_left a.tokens); end = 0 })
    (inside.places s (begun s is) ∙ ap (λ l. l ++ map (place_in s) r.1) place ∙ append_assoc a.places.items (record { start = first_start (lexemes_left a.tokens); end = 0 } ∷ []) (map (place_in s) r.1)) index
    ∙ ap (λ (x : Span). a.places.items ++ x ∷ map (place_in s) r.1) (span_between s a.tokens c.tokens is.tokens ((inside.over s (begun s is)).tokens) ∙ ap (λ n. span_in s (length ks, n)) (sym left)) in
    let lists_is : (s : Text) → IsPlacing s a → lists_of d.parts.items ≡ lists_of a.parts.items ++ map (parts_in s) (((length ks, length r.2), r.0) ∷ r.1) = λ s is.
    end_list (lists_of a.parts.items) (map (parts_in s) r.1) []
    (inside.have s (begun s is) ∙ ap (λ l. l ++ map (parts_in s) r.1) list ∙ append_assoc (lists_of a.parts.items) ([] ∷ []) (map (parts_in s) r.1)) (index ∙ is.even)
    ∙ ap (λ x. lists_of a.parts.items ++ x ∷ map (parts_in s) r.1) (inside.parts s (begun s is)) in
    record {
      to = ap kinds_left kept ∙ inside.to;
      over = λ s is. record {
        tokens = subst (IsOver s) (sym kept) ((inside.over s (begun s is)).tokens);
        even = ap length (places_is s is) ∙ length-append a.places.items (map (place_in s) (((length ks, length r.2), r.0) ∷ r.1)) ∙ (λ j. (is.even j) + (length-map (((length ks, length r.2), r.0) ∷ r.1) (place_in s) ∙ sym (length-map (((length ks, length r.2), r.0) ∷ r.1) (parts_in s))) j)
            ∙ sym (length-append (lists_of a.parts.items) (map (parts_in s) (((length ks, length r.2), r.0) ∷ r.1))) ∙ sym (ap length (lists_is s is));
      };
      parts = λ s is. refl;
      places = places_is;
      have = lists_is;
    }

-- ---- arguments, one after the other

pub empty_skipped : (args : List (Box Expr Global)) (ks : List TokenKind) → skip_empty (trees_of args) ks ≡ (if length args == 0 then drop 1 ks else ks)
empty_skipped [] ks = refl
empty_skipped (arg ∷ args) ks = grind (arith, nat_tests)

drop_more : {X : Type 0} (xs : List X) (i : ℕ) (y : X) → i < length xs → y ≡ get_or xs i y → drop i xs ≡ y ∷ drop (i + 1) xs
drop_more [] i y within is = absurd (omega arith)
drop_more (x ∷ xs) zero y within is = ap (λ z. z ∷ xs) (sym is)
drop_more (x ∷ xs) (suc i) y within is = let step : suc (i + 1) ≡ suc i + 1 = omega arith in drop_more xs i y (omega arith) is ∙ ap (λ n. y ∷ drop n (x ∷ xs)) step

-- where the rest of the arguments is passed, all are
abbrev pub PassesAsAll : List (Box Expr Global) → Placing → ℕ → Placing → Type 0
PassesAsAll args first i now =
    (last : Placing) → Passes (pass_all (trees_of (drop i args)) (kinds_left now.tokens)) now last [] [] → Passes (pass_all (trees_of args) (kinds_left first.tokens)) first last [] []

pub passes_one : (args : List (Box Expr Global)) (first now next after : Placing) (i : ℕ) (arg : Box Expr Global) → i < length args → arg ≡ get_or args i arg
    → Passes (pass (tree_of arg.value) (kinds_left now.tokens)) now next [] [] → Moved (drop 1 (kinds_left next.tokens)) next.tokens after.tokens → Keeps next after
    → PassesAsAll args first i now → PassesAsAll args first (i + 1) after
passes_one args first now next after i arg within is passed moved kept all = λ last rest.
    let one : Passes (then_skip (pass (tree_of arg.value) (kinds_left now.tokens)) (drop 1)) now after [] [] = passes_skip _ (drop 1) now next after [] [] passed moved kept in
    let both : Passes (pass_all (trees_of (arg ∷ drop (i + 1) args)) (kinds_left now.tokens)) now last [] [] =
    passes_then (then_skip (pass (tree_of arg.value) (kinds_left now.tokens)) (drop 1)) (pass_all (trees_of (drop (i + 1) args))) now after last [] [] [] one rest in
    all last (subst (λ l. Passes (pass_all (trees_of l) (kinds_left now.tokens)) now last [] []) (sym (drop_more args i arg within is)) both)

pub passed_all : (args : List (Box Expr Global)) (first now : Placing) (i : ℕ) → length args ≤ i → PassesAsAll args first i now → Passes (pass_all (trees_of args) (kinds_left first.tokens)) first now [] []
passed_all args first now i end all =
    all now (subst (λ l. Passes (pass_all (trees_of l) (kinds_left now.tokens)) now now [] []) (sym (drop_all i args end)) (passes_none now []))
