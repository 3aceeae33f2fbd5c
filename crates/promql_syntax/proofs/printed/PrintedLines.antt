-- The bytes of a printed line are the one-line text of the tree.
use Rattle.std.proofs.Common.{◌≡◌, ℕ, refl, sym, ◌∙◌, ap, subst, Bool, true, false, cond, Option, Some, None, List, [], ◌∷◌, ◌++◌, append-nil, append_assoc, map, codes, is_gt}
use Rattle.std.specs.Prelude.{option_map, unwrap_or}
use Rattle.std.specs.Option.{option_map_or}
use Rattle.std.specs.List.{flat_map}
use Rattle.promql_text.specs.DurationText.{duration_text}
use Rattle.promql_text.specs.NumberText.{number_text}
use Rattle.promql_text.specs.Quoting.{quoted_text}
use Rattle.promql_text.specs.Texts.{Text, joined_text}
use Rattle.promql_text.specs.Values.{is_below_zero, neg}
use Rattle.promql_text.specs.declared.number.Number.{Number}
use Rattle.promql_token.specs.Ids.{text_of}
use Rattle.promql_token.specs.declared.ids.TheConstants.{T_SUB}
use Rattle.promql_grammar.specs.declared.token_kinds.TokenKind.TheVariants as kind
use Rattle.promql_grammar.specs.Grammar as grammar
use Rattle.promql_grammar.specs.GrammarParts as part
use Rattle.promql_grammar.specs.Symbols.{punct}
use Rattle.promql_label.specs.Answers.{Answer}
use Rattle.promql_label.specs.PlainMatchers.{Operator, equal, not_equal, matches, matches_not, PlainMatcher, plain_matcher, PlainMatchers, plain_matchers, group_text, matcher_text, matchers_text, name_text, operator_text}
use Rattle.promql_label.specs.ReadMatchers.{insert_matcher, sorted_matchers}
use Rattle.promql_label.specs.SortedTexts.{text_order}
use Rattle.promql_label.proofs.readback.PrintedTokens.{texts_sorted}
use Rattle.promql_kind.specs.Functions.{name_of}
use Rattle.promql_kind.specs.Modifiers.{Clause, including, excluding}
use Rattle.promql_ast.specs.Selectors.{Selector, selector}
use Rattle.promql_ast.specs.Shifts.{at_text, offset_text}
use Rattle.promql_ast.specs.Text.{maybe_text, text, texts}
use Rattle.promql_ast.specs.Tree.{Tree, aggregate, unary, binary, paren, subquery, number, string, vector, matrix, call, extension, MaybeTree, absent, present, Trees, no_trees, first_tree}
use Rattle.promql_ast.specs.declared.range_mode.RangeMode.{RangeMode}
use Rattle.promql_ast.specs.node.Aggregate.{clause_text, param_text}
use Rattle.promql_ast.specs.node.Binary.{matching_text}
use Rattle.promql_ast.specs.node.Matrix.{mode_text}
use Rattle.promql_ast.specs.node.Subquery.{range_text}
use Rattle.promql_ast.specs.node.Vector.{with_braces}
use Rattle.promql_syntax.proofs.readback.Derive.{derive, derive_after, derive_all, derive_base, derive_number, with_mode}
use Rattle.promql_syntax.proofs.printed.PrintedItems.{Item, token, blank, render, close, wide, spacing, after_line, any_braces_line, arguments_line, before_line, item_line, items_line, line, modifier_line, postfix_line, rest_line, separator_line, signed_line, step_line, time_line}
use Rattle.promql_syntax.proofs.printed.PrintedParts.{any_items, braces, clause, group_items, item, modifier, or_items, time}
use Rattle.promql_syntax.proofs.printed.PrintedParts as printed
use Rattle.promql_syntax.proofs.readback.Printable.{AllPrintable, IsSelecting, MaybePrintable, Printable, PrintableSelector}
use Rattle.promql_syntax.proofs.printed.PrintedBytes.{clause_bytes, render_both, mode_bytes, modifier_bytes, number_split, suffix_bytes, time_bytes}
use Rattle.promql_syntax.proofs.printed.PrintedMatcherLists.{AreAnyMatchers, AreMatchers, GroupsStand, any_matchers}

-- ---- matchers

item_bytes : (c : PlainMatcher) → render (item_line (item c)) ≡ matcher_text c
item_bytes (plain_matcher equal name v) = ap (λ t. name_text name ++ (codes "=" ++ t)) (append-nil (quoted_text v))
item_bytes (plain_matcher not_equal name v) = ap (λ t. name_text name ++ (codes "!=" ++ t)) (append-nil (quoted_text v))
item_bytes (plain_matcher (matches w) name v) = ap (λ t. name_text name ++ (codes "=~" ++ t)) (append-nil (quoted_text v))
item_bytes (plain_matcher (matches_not w) name v) = ap (λ t. name_text name ++ (codes "!~" ++ t)) (append-nil (quoted_text v))

abbrev after_each : Text → List PlainMatcher → Text
after_each sep cs = flat_map (λ t. sep ++ t) (map matcher_text cs)

plain_items : (c : PlainMatcher) (ds : List PlainMatcher) → render (items_line close (group_items c ds None)) ≡ joined_text (codes ",") (map matcher_text (c ∷ ds)) ++ codes "}"
plain_items c [] = render_both (item_line (item c)) (token (punct kind.RightBrace) ∷ []) (matcher_text c) (codes "}") (item_bytes c) refl ∙ ap (λ t. t ++ codes "}") (sym (append-nil (matcher_text c)))
plain_items c (d ∷ ds) =
    render_both (item_line (item c)) (token (punct kind.Comma) ∷ items_line close (group_items d ds None)) (matcher_text c) _ (item_bytes c) (ap (λ t. codes "," ++ t) (plain_items d ds))
    ∙ sym (append_assoc (matcher_text c) (codes "," ++ (matcher_text d ++ after_each (codes ",") ds)) (codes "}"))

abbrev More : Option (part.Separator × part.Items) → Text
More None = codes "}"
More (Some (s, is)) = render (separator_line wide s ++ items_line wide is)

wide_items : (c : PlainMatcher) (ds : List PlainMatcher) (more : Option (part.Separator × part.Items)) → render (items_line wide (group_items c ds more)) ≡ group_text (c ∷ ds) ++ More more
wide_items c [] None = render_both (item_line (item c)) (token (punct kind.RightBrace) ∷ []) (matcher_text c) (codes "}") (item_bytes c) refl ∙ ap (λ t. t ++ codes "}") (sym (append-nil (matcher_text c)))
wide_items c [] (Some (s, is)) =
    render_both (item_line (item c)) (separator_line wide s ++ items_line wide is) (matcher_text c) _ (item_bytes c) refl
    ∙ ap (λ t. t ++ render (separator_line wide s ++ items_line wide is)) (sym (append-nil (matcher_text c)))
wide_items c (d ∷ ds) more =
    render_both (item_line (item c)) (token (punct kind.Comma) ∷ blank ∷ items_line wide (group_items d ds more)) (matcher_text c) _ (item_bytes c) (ap (λ t. codes ", " ++ t) (wide_items d ds more))
    ∙ sym (append_assoc (matcher_text c) (codes ", " ++ (matcher_text d ++ after_each (codes ", ") ds)) (More more))

abbrev after_or : List (List PlainMatcher) → Text
after_or gs = flat_map (λ t. codes " or " ++ t) (map group_text gs)

-- no group is empty
abbrev AreSome : List (List PlainMatcher) → Type 0
AreSome [] = Unit {0}
AreSome ([] ∷ gs) = ⊥
AreSome ((c ∷ cs) ∷ gs) = AreSome gs

or_bytes : (gs : List (List PlainMatcher)) → AreSome gs → More (or_items gs) ≡ after_or gs ++ codes "}"
or_bytes [] h = refl
or_bytes ([] ∷ gs) h = absurd h
or_bytes ((c ∷ cs) ∷ gs) h =
    ap (λ t. codes " or " ++ t) (wide_items c cs (or_items gs) ∙ ap (λ t. group_text (c ∷ cs) ++ t) (or_bytes gs h) ∙ sym (append_assoc (group_text (c ∷ cs)) (after_or gs) (codes "}")))

close_spacing : (c : PlainMatcher) (ds : List PlainMatcher) → spacing (group_items c ds None) ≡ close
close_spacing c [] = refl
close_spacing c (d ∷ ds) = close_spacing d ds

wide_spacing : (c : PlainMatcher) (ds : List PlainMatcher) (t : Text) (is : part.Items) → spacing (group_items c ds (Some (Some t, is))) ≡ wide
wide_spacing c [] t is = refl
wide_spacing c (d ∷ ds) t is = wide_spacing d ds t is

-- a text that is not empty
abbrev HasByte : Text → Type 0
HasByte [] = ⊥
HasByte (b ∷ t) = Unit {0}

has_right : (t u : Text) → HasByte u → HasByte (t ++ u)
has_right [] u h = h
has_right (b ∷ t) u h = tt

has_left : (t u : Text) → HasByte t → HasByte (t ++ u)
has_left [] u h = absurd h
has_left (b ∷ t) u h = tt

has_operator : (op : Operator) (v : Text) → HasByte (operator_text op ++ v)
has_operator equal v = tt
has_operator not_equal v = tt
has_operator (matches w) v = tt
has_operator (matches_not w) v = tt

matcher_byte : (c : PlainMatcher) → HasByte (matcher_text c)
matcher_byte (plain_matcher op name v) = has_right (name_text name) (operator_text op ++ quoted_text v) (has_operator op (quoted_text v))

joined_byte : (sep : Text) (c : PlainMatcher) (cs : List PlainMatcher) → HasByte (joined_text sep (map matcher_text (c ∷ cs)))
joined_byte sep c cs = has_left (matcher_text c) (after_each sep cs) (matcher_byte c)

braced_some : (t : Text) → HasByte t → with_braces t ≡ codes "{" ++ (t ++ codes "}")
braced_some [] h = absurd h
braced_some (b ∷ t) h = refl

braced_byte : (t : Text) → HasByte t → HasByte (with_braces t)
braced_byte [] h = absurd h
braced_byte (b ∷ t) h = tt

any_items_bytes : (cs : List PlainMatcher) → render (any_braces_line (any_items cs)) ≡ with_braces (joined_text (codes ",") (map matcher_text cs))
any_items_bytes [] = refl
any_items_bytes (c ∷ cs) =
    ap (λ s. codes "{" ++ render (items_line s (group_items c cs None))) (close_spacing c cs)
    ∙ ap (λ t. codes "{" ++ t) (plain_items c cs)
    ∙ sym (braced_some (joined_text (codes ",") (map matcher_text (c ∷ cs))) (joined_byte (codes ",") c cs))

inserted_byte : (c : PlainMatcher) (ds : List PlainMatcher) → HasByte (joined_text (codes ",") (map matcher_text (insert_matcher c ds)))
inserted_byte c [] = joined_byte (codes ",") c []
inserted_byte c (d ∷ ds) = go (is_gt (text_order (matcher_text c) (matcher_text d)))
  where
    go : (b : Bool) → HasByte (joined_text (codes ",") (map matcher_text (cond b (d ∷ insert_matcher c ds) (c ∷ d ∷ ds))))
    go true = joined_byte (codes ",") d (insert_matcher c ds)
    go false = joined_byte (codes ",") c (d ∷ ds)

pub nothing_after : (m : Option Clause) → after_line (clause m) ≡ []
nothing_after None = refl
nothing_after (Some (including [])) = refl
nothing_after (Some (including (l ∷ ls))) = refl
nothing_after (Some (excluding ls)) = refl

pub after_arguments : (m : Option Clause) (is : List Item) (t : Text) → render is ≡ t → render (is ++ after_line (clause m)) ≡ t
after_arguments m is t e = ap (λ js. render (is ++ js)) (nothing_after m) ∙ ap render (append-nil is) ∙ e

pub range_bytes : (n : ℕ) (s : Option ℕ) → render (postfix_line (part.subquery (time n) (option_map time s))) ≡ range_text n s
range_bytes n s =
    ap (λ t. codes "[" ++ t) (render_both (time_line (time n)) (token (punct kind.Colon) ∷ (step_line (option_map time s) ++ token (punct kind.RightBracket) ∷ [])) (duration_text n) _ (time_bytes n)
    (ap (λ t. codes ":" ++ t) (render_both (step_line (option_map time s)) (token (punct kind.RightBracket) ∷ []) (option_map_or duration_text s []) (codes "]") (step s) refl)))
  where
    step : (s : Option ℕ) → render (step_line (option_map time s)) ≡ option_map_or duration_text s []
    step None = refl
    step (Some n) = time_bytes n

number_bytes : (n : Number) → render (line (derive_number n)) ≡ number_text n
number_bytes n = go (is_below_zero n) ∙ number_split n [] ∙ append-nil (number_text n)
  where
    go : (b : Bool) → render (line (cond b (grammar.unary T_SUB (codes "-") (grammar.number (number_text (neg n)))) (grammar.number (number_text n)))) ≡ render (signed_line (printed.sign b)) ++ (number_text (cond b (neg n) n) ++ [])
    go true = refl
    go false = refl

binary_bytes : (l r : Text) (o m : Text) → l ++ (32 ∷ (o ++ (m ++ (32 ∷ r)))) ≡ l ++ ((codes " " ++ (o ++ (m ++ codes " "))) ++ r)
binary_bytes l r o m = ap (λ t. l ++ (32 ∷ t)) (sym (append_assoc o (m ++ codes " ") r ∙ ap (λ t. o ++ t) (append_assoc m (codes " ") r)))

module _ (g : Text → Answer) where
  groups_some : (gs : List (List PlainMatcher)) → GroupsStand g gs → AreSome gs
  groups_some [] h = tt
  groups_some ([] ∷ gs) h = absurd h
  groups_some ((c ∷ cs) ∷ gs) h = groups_some gs h.1

  braces_bytes : (cs : PlainMatchers) → AreAnyMatchers g cs → render (any_braces_line (braces cs)) ≡ with_braces (matchers_text cs)
  braces_bytes (plain_matchers [] []) h = refl
  braces_bytes (plain_matchers (c ∷ cs) []) h = any_items_bytes (sorted_matchers (c ∷ cs)) ∙ ap (λ ts. with_braces (joined_text (codes ",") ts)) (texts_sorted (c ∷ cs))
  braces_bytes (plain_matchers [] (j ∷ [])) h = absurd h
  braces_bytes (plain_matchers [] ([] ∷ k ∷ gs)) h = absurd h
  braces_bytes (plain_matchers [] ((c ∷ cs) ∷ [] ∷ gs)) h = absurd h.1
  braces_bytes (plain_matchers [] ((c ∷ cs) ∷ (d ∷ ds) ∷ gs)) h =
      ap (λ s. codes "{" ++ render (items_line s (group_items c cs (or_items ((d ∷ ds) ∷ gs))))) (wide_spacing c cs (codes "or") (group_items d ds (or_items gs)))
      ∙ ap (λ t. codes "{" ++ t)
      (wide_items c cs (or_items ((d ∷ ds) ∷ gs))
      ∙ ap (λ t. group_text (c ∷ cs) ++ t) (or_bytes ((d ∷ ds) ∷ gs) (groups_some gs h.1.1))
      ∙ sym (append_assoc (group_text (c ∷ cs)) (after_or ((d ∷ ds) ∷ gs)) (codes "}")))
      ∙ sym (braced_some (group_text (c ∷ cs) ++ after_or ((d ∷ ds) ∷ gs)) (has_left (group_text (c ∷ cs)) (after_or ((d ∷ ds) ∷ gs)) (joined_byte (codes ", ") c cs)))
  braces_bytes (plain_matchers (c ∷ cs) (k ∷ gs)) h = absurd h

  matchers_byte : (cs : PlainMatchers) → AreMatchers g cs → HasByte (with_braces (matchers_text cs))
  matchers_byte (plain_matchers [] []) h = absurd h
  matchers_byte (plain_matchers (c ∷ cs) []) h =
      braced_byte (matchers_text (plain_matchers (c ∷ cs) [])) (subst (λ ts. HasByte (joined_text (codes ",") ts)) (texts_sorted (c ∷ cs)) (inserted_byte c (sorted_matchers cs)))
  matchers_byte (plain_matchers [] (j ∷ [])) h = absurd h
  matchers_byte (plain_matchers [] ([] ∷ k ∷ gs)) h = absurd h
  matchers_byte (plain_matchers [] ((c ∷ cs) ∷ k ∷ gs)) h =
      braced_byte (group_text (c ∷ cs) ++ after_or (k ∷ gs)) (has_left (group_text (c ∷ cs)) (after_or (k ∷ gs)) (joined_byte (codes ", ") c cs))
  matchers_byte (plain_matchers (c ∷ cs) (k ∷ gs)) h = absurd h

  nameless_bytes : (b : Option part.Braces) (t : Text) → render (any_braces_line b) ≡ t → HasByte t → render (line (derive_base None b)) ≡ t
  nameless_bytes None t e h = absurd (subst HasByte (sym e) h)
  nameless_bytes (Some b) t e h = e

  pub base_bytes : (name : Option Text) (cs : PlainMatchers) → IsSelecting g name cs → render (line (derive_base name (braces cs))) ≡ unwrap_or name [] ++ with_braces (matchers_text cs)
  base_bytes (Some name) cs h = ap (λ t. name ++ t) (braces_bytes cs h.1)
  base_bytes None cs h = nameless_bytes (braces cs) _ (braces_bytes cs (any_matchers g cs h)) (matchers_byte cs h)

  matrix_bytes : (s : Selector) (range : ℕ) (mode : RangeMode) → PrintableSelector g s → render (line (derive (matrix s range mode))) ≡ text (matrix s range mode)
  matrix_bytes (selector name cs o a) range mode h =
      let base = derive_base name (braces cs) in
      let below = grammar.postfixed base (part.range (time range)) in
      let b = unwrap_or name [] ++ with_braces (matchers_text cs) in
      let r = codes "[" ++ (duration_text range ++ codes "]") in
      let is : render (line below) ≡ b ++ r = render_both (line base) (postfix_line (part.range (time range))) b r (base_bytes name cs h.0)
      (ap (λ t. codes "[" ++ t) (render_both (time_line (time range)) (token (punct kind.RightBracket) ∷ []) (duration_text range) (codes "]") (time_bytes range) refl)) in
      suffix_bytes o a (with_mode mode below) ((b ++ r) ++ mode_text mode) (mode_bytes mode below (b ++ r) is)
      ∙ ap (λ t. t ++ (at_text a ++ offset_text o)) (append_assoc b r (mode_text mode))
      ∙ append_assoc b (r ++ mode_text mode) (at_text a ++ offset_text o)
      ∙ ap (λ t. b ++ ((codes "[" ++ t) ++ (at_text a ++ offset_text o))) (append_assoc (duration_text range) (codes "]") (mode_text mode))

  vector_bytes : (s : Selector) → PrintableSelector g s → render (line (derive (vector s))) ≡ text (vector s)
  vector_bytes (selector name cs o a) h = suffix_bytes o a (derive_base name (braces cs)) _ (base_bytes name cs h.0)

  mutual
    pub line_bytes : (t : Tree) → Printable g t → render (line (derive t)) ≡ text t
    line_bytes (aggregate op e p m) h =
        ap (λ t. text_of op ++ t)
        (render_both (before_line (clause m)) _ (clause_text m) _ (clause_bytes m)
        (ap (λ t. codes "(" ++ t) (after_arguments m (arguments_line (derive_after p (grammar.more (derive e) grammar.none))) (param_text (maybe_text p) ++ (text e ++ codes ")")) (param_bytes p e h.2 (line_bytes e h.1)))))
        ∙ sym (append_assoc (text_of op) (clause_text m) (codes "(" ++ (param_text (maybe_text p) ++ (text e ++ codes ")"))))
    line_bytes (unary e) h = ap (λ t. codes "-" ++ t) (line_bytes e h)
    line_bytes (binary op l r m) h =
        render_both (line (derive l)) _ (text l) _ (line_bytes l h.1)
        (ap (λ t. 32 ∷ (text_of op ++ t)) (render_both (modifier_line (modifier m)) (blank ∷ line (derive r)) (matching_text m) (32 ∷ text r) (modifier_bytes m h.0) (ap (λ t. 32 ∷ t) (line_bytes r h.2))))
        ∙ binary_bytes (text l) (text r) (text_of op) (matching_text m)
    line_bytes (paren e) h = ap (λ t. codes "(" ++ t) (render_both (line (derive e)) (token (punct kind.RightParen) ∷ []) (text e) (codes ")") (line_bytes e h) refl)
    line_bytes (subquery e o a range step) h =
        suffix_bytes o a (grammar.postfixed (derive e) (part.subquery (time range) (option_map time step))) (text e ++ range_text range step)
        (render_both (line (derive e)) (postfix_line (part.subquery (time range) (option_map time step))) (text e) (range_text range step) (line_bytes e h.0) (range_bytes range step))
        ∙ append_assoc (text e) (range_text range step) (at_text a ++ offset_text o)
    line_bytes (number n) h = number_bytes n
    line_bytes (string s) h = append-nil (quoted_text s)
    line_bytes (vector s) h = vector_bytes s h
    line_bytes (matrix s range mode) h = matrix_bytes s range mode h.0
    line_bytes (call f ts) h = ap (λ t. name_of f ++ (codes "(" ++ t)) (arguments_bytes ts h.1)
    line_bytes (extension name gives ts) h = absurd h

    param_bytes : (p : MaybeTree) (e : Tree) → MaybePrintable g p → render (line (derive e)) ≡ text e → render (arguments_line (derive_after p (grammar.more (derive e) grammar.none))) ≡ param_text (maybe_text p) ++ (text e ++ codes ")")
    param_bytes absent e k h = render_both (line (derive e)) (token (punct kind.RightParen) ∷ []) (text e) (codes ")") h refl
    param_bytes (present p) e k h =
        render_both (line (derive p)) (token (punct kind.Comma) ∷ blank ∷ (line (derive e) ++ token (punct kind.RightParen) ∷ [])) (text p) (codes ", " ++ (text e ++ codes ")")) (line_bytes p k)
        (ap (λ t. codes ", " ++ t) (render_both (line (derive e)) (token (punct kind.RightParen) ∷ []) (text e) (codes ")") h refl))
        ∙ sym (append_assoc (text p) (codes ", ") (text e ++ codes ")"))

    arguments_bytes : (ts : Trees) → AllPrintable g ts → render (arguments_line (derive_all ts)) ≡ joined_text (codes ", ") (texts ts) ++ codes ")"
    arguments_bytes no_trees h = refl
    arguments_bytes (first_tree t ts) h =
        render_both (line (derive t)) (rest_line (derive_all ts)) (text t) _ (line_bytes t h.0) (rest_bytes ts h.1)
        ∙ sym (append_assoc (text t) (flat_map (λ y. codes ", " ++ y) (texts ts)) (codes ")"))

    rest_bytes : (ts : Trees) → AllPrintable g ts → render (rest_line (derive_all ts)) ≡ flat_map (λ y. codes ", " ++ y) (texts ts) ++ codes ")"
    rest_bytes no_trees h = refl
    rest_bytes (first_tree t ts) h =
        ap (λ x. codes ", " ++ x)
        (render_both (line (derive t)) (rest_line (derive_all ts)) (text t) _ (line_bytes t h.0) (rest_bytes ts h.1)
        ∙ sym (append_assoc (text t) (flat_map (λ y. codes ", " ++ y) (texts ts)) (codes ")")))
