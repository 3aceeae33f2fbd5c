-- Expressions of lists that begin alike are parsed alike: where a token does not fit, no derivation begins with the tokens up to and with it.
use Rattle.std.proofs.Common.{◌≡◌, ℕ, zero, suc, refl, sym, ◌∙◌, ap, subst, arith, List, [], ◌∷◌, ◌++◌, length, inl, inr, Bool, true, false, Option, Some, None}
use Rattle.std.specs.Prelude.{nat_lt, if◌then◌else◌, Ok, Err}
use Rattle.std.proofs.lemmas.Bool.{cond-true, cond-false}
use Rattle.promql_text.specs.Texts.{Text}
use Rattle.promql_grammar.specs.declared.token_kinds.TokenKind.{TokenKind}
use Rattle.promql_grammar.specs.declared.token_kinds.TokenKind.TheVariants as kind
use Rattle.promql_grammar.specs.Results.{◌then◌}
use Rattle.promql_grammar.specs.Symbols.{Symbol, punct, word, is_plus_or_minus, may_be_name}
use Rattle.promql_grammar.specs.GrammarParts.{Labels, Grouping, Postfix, mode}
use Rattle.promql_grammar.specs.Grammar.{Derivation, number, duration, string, selector, nameless, paren, call, aggregate, postfixed, unary, binary, Arguments, none, more, precedence, height}
use Rattle.promql_grammar.specs.Parsing.{Read, Reader, misfit, too_high, right_precedence, parse_time, parse_labels, parse_grouping, parse_modifier, parse_braces, parse_optional_braces, parse_range_end, parse_at_modifier, parse_offset_postfix, parse_postfix, parse_more_postfixes, parse_postfixes, parse_paren_end, parse_more_arguments, parse_arguments, parse_selector, parse_call, parse_grouped_aggregate, parse_aggregate, parse_unary, parse_operators, parse_expression}
use Rattle.promql_grammar.proofs.Prefixes.{IsEnd, Ends, whole_end, Local, two, Agrees, local_ok, local_misfit, local_high, local_then, Step, takes, stays, local_by_first, local_bounded, local_by_length}
use Rattle.promql_grammar.proofs.PartPrefixes.{First, first, on, at, labels_local, grouping_local, modifier_local, braces_local, optional_braces_local, range_local, at_modifier_local, offset_local}

module _ (x : Symbol) (rest other : List Symbol) where
  -- ---- postfixes, of which there are at most as many as tokens

  module _ (n k j : ℕ) (ih : (d : Derivation) → Local x rest other k j (parse_postfixes k n d) (parse_postfixes j n d)) (d : Derivation) where
    abbrev more_left : Option Postfix → List Symbol → Read Derivation
    more_left = parse_more_postfixes (parse_postfixes k n) n d

    abbrev more_right : Option Postfix → List Symbol → Read Derivation
    more_right = parse_more_postfixes (parse_postfixes j n) n d

    more_local : (p : Option Postfix) → Local x rest other k j (more_left p) (more_right p)
    more_local None = local_ok x rest other d k j
    more_local (Some p) = go (nat_lt n (height (postfixed d p)))
      where
        go : (b : Bool) → Local x rest other k j (λ ts. if b then Err too_high else parse_postfixes k n (postfixed d p) ts) (λ ts. if b then Err too_high else parse_postfixes j n (postfixed d p) ts)
        go true = local_high x rest other k j
        go false = ih (postfixed d p)

    abbrev At : Symbol → Type 0
    At t = Step x rest other (suc k) (suc j) k j (parse_postfixes (suc k) n d) (parse_postfixes (suc j) n d) t

    goes_on : (t : Symbol) (p : List Symbol → Read (Option Postfix)) → Local x rest other k j p p → ((ts : List Symbol) → parse_postfix (t ∷ ts) ≡ p ts) → At t
    goes_on t p l e =
        takes (λ ts. p ts then λ y. more_left y.0 y.1) (λ ts. p ts then λ y. more_right y.0 y.1) (local_then x rest other k j p p more_left more_right l more_local)
        (λ ts. ap (λ o. o then λ y. more_left y.0 y.1) (e ts)) (λ ts. ap (λ o. o then λ y. more_right y.0 y.1) (e ts))

    postfix_step : (t : Symbol) → At t
    postfix_step (punct kind.LeftBracket) = goes_on (punct kind.LeftBracket) (λ ts. parse_time ts then λ t. parse_range_end t.0 t.1) (range_local x rest other k j) (λ ts. refl)
    postfix_step (punct kind.At) = goes_on (punct kind.At) parse_at_modifier (at_modifier_local x rest other k j) (λ ts. refl)
    postfix_step (word kind.Offset t) = goes_on (word kind.Offset t) (parse_offset_postfix t) (offset_local x rest other k j t) (λ ts. refl)
    postfix_step (word kind.Smoothed t) = goes_on (word kind.Smoothed t) (λ ts. Ok (Some (mode true t), ts)) (local_ok x rest other (Some (mode true t)) k j) (λ ts. refl)
    postfix_step (word kind.Anchored t) = goes_on (word kind.Anchored t) (λ ts. Ok (Some (mode false t), ts)) (local_ok x rest other (Some (mode false t)) k j) (λ ts. refl)
    postfix_step t = stays (λ ts. Ok (d, ts)) (λ ts. Ok (d, ts)) (local_ok x rest other d (suc k) (suc j)) (λ ts. refl) (λ ts. refl)

    postfixes_next : Local x rest other (suc k) (suc j) (parse_postfixes (suc k) n d) (parse_postfixes (suc j) n d)
    postfixes_next = local_by_first x rest other (suc k) (suc j) k j (parse_postfixes (suc k) n d) (parse_postfixes (suc j) n d) (omega arith) (omega arith) (whole_end []) postfix_step

  postfixes_local : (n k j : ℕ) (d : Derivation) → Local x rest other k j (parse_postfixes k n d) (parse_postfixes j n d)
  postfixes_local n = let p : ℕ → Derivation → List Symbol → Read Derivation = λ k d. parse_postfixes k n d in local_bounded x rest other p (λ d. whole_end []) (λ k j ih d. postfixes_next n k j ih d)

  module _ (r : Reader) (r_local : (p k j : ℕ) → Local x rest other k j (r p) (r p)) where
    -- ---- arguments

    module _ (k j : ℕ) (ih : Local x rest other k j (parse_more_arguments r k) (parse_more_arguments r j)) where
      abbrev Next : Symbol → Type 0
      Next t = Step x rest other (suc k) (suc j) k j (parse_more_arguments r (suc k)) (parse_more_arguments r (suc j)) t

      after_argument : (d : Derivation) → Local x rest other k j (λ us. parse_more_arguments r k us then λ y. Ok (more d y.0, y.1)) (λ us. parse_more_arguments r j us then λ y. Ok (more d y.0, y.1))
      after_argument d = local_then x rest other k j (parse_more_arguments r k) (parse_more_arguments r j) (λ y us. Ok (more d y, us)) (λ y us. Ok (more d y, us)) ih (λ y. local_ok x rest other (more d y) k j)

      argument_step : (t : Symbol) → Next t
      argument_step (punct kind.RightParen) = takes (λ ts. Ok (none, ts)) (λ ts. Ok (none, ts)) (local_ok x rest other none k j) (λ ts. refl) (λ ts. refl)
      argument_step (punct kind.Comma) =
          takes (λ ts. r 0 ts then λ x. parse_more_arguments r k x.1 then λ y. Ok (more x.0 y.0, y.1)) (λ ts. r 0 ts then λ x. parse_more_arguments r j x.1 then λ y. Ok (more x.0 y.0, y.1))
          (local_then x rest other k j (r 0) (r 0) (λ d us. parse_more_arguments r k us then λ y. Ok (more d y.0, y.1)) (λ d us. parse_more_arguments r j us then λ y. Ok (more d y.0, y.1)) (r_local 0 k j) after_argument)
          (λ ts. refl) (λ ts. refl)
      argument_step t = stays (λ ts. Err (misfit ts)) (λ ts. Err (misfit ts)) (local_misfit x rest other (suc k) (suc j)) (λ ts. refl) (λ ts. refl)

      more_arguments_next : Local x rest other (suc k) (suc j) (parse_more_arguments r (suc k)) (parse_more_arguments r (suc j))
      more_arguments_next = local_by_first x rest other (suc k) (suc j) k j (parse_more_arguments r (suc k)) (parse_more_arguments r (suc j)) (omega arith) (omega arith) (whole_end []) argument_step

    more_arguments_local : (k j : ℕ) → Local x rest other k j (parse_more_arguments r k) (parse_more_arguments r j)
    more_arguments_local k j = let p : ℕ → Unit {0} → List Symbol → Read Arguments = λ k d. parse_more_arguments r k in local_bounded x rest other p (λ d. whole_end []) (λ k j ih d. more_arguments_next k j (ih tt)) k j tt

    abbrev some_arguments : ℕ → List Symbol → Read Arguments
    some_arguments k ts = r 0 ts then λ x. parse_more_arguments r k x.1 then λ y. Ok (more x.0 y.0, y.1)

    some_arguments_local : (k j : ℕ) → Local x rest other k j (some_arguments k) (some_arguments j)
    some_arguments_local k j =
        local_then x rest other k j (r 0) (r 0) (λ d us. parse_more_arguments r k us then λ y. Ok (more d y.0, y.1)) (λ d us. parse_more_arguments r j us then λ y. Ok (more d y.0, y.1)) (r_local 0 k j)
        (after_argument k j (more_arguments_local k j))

    arguments_local : (m n : ℕ) → Local x rest other m n (parse_arguments r) (parse_arguments r)
    arguments_local m n = first x rest other m n (parse_arguments r) ((some_arguments_local 0 0).ends [] (omega arith)) step
      where
        step : (t : Symbol) → First x rest other (parse_arguments r) m n t
        step (punct kind.RightParen) = on x rest other m n (parse_arguments r) (punct kind.RightParen) (λ ts. Ok (none, ts)) (local_ok x rest other none m n) (λ ts. refl)
        step t = at x rest other m n (parse_arguments r) t (λ ts. some_arguments (length ts) ts) (local_by_length x rest other m n some_arguments some_arguments_local) (λ ts. refl)

    -- ---- forms without a binary operator outside, with at most k postfixes, or at most j

    module _ (k j n : ℕ) where
      then_postfixes : {A : Type 0} (p : List Symbol → Read A) (f : A → Derivation) → Local x rest other k j p p → Local x rest other k j (λ ts. p ts then λ y. parse_postfixes k n (f y.0) y.1) (λ ts. p ts then λ y. parse_postfixes j n (f y.0) y.1)
      then_postfixes p f l = local_then x rest other k j p p (λ a. parse_postfixes k n (f a)) (λ a. parse_postfixes j n (f a)) l (λ a. postfixes_local n k j (f a))

      abbrev selectors : ℕ → TokenKind → Text → List Symbol → Read Derivation
      selectors i w t ts = parse_optional_braces ts then λ b. parse_postfixes i n (selector w t b.0) b.1

      abbrev Reads : (f g : List Symbol → Read Derivation) → Symbol → Type 0
      Reads f g t = Step x rest other k j k j f g t

      -- a word that is a name, or does not fit
      named_step : (f g : List Symbol → Read Derivation) (w : TokenKind) (t : Text) → ((ts : List Symbol) → f (word w t ∷ ts) ≡ parse_selector k n w t ts) → ((ts : List Symbol) → g (word w t ∷ ts) ≡ parse_selector j n w t ts) → Reads f g (word w t)
      named_step f g w t e e' = go (may_be_name w) refl
        where
          go : (b : Bool) → may_be_name w ≡ b → Reads f g (word w t)
          go true may = takes (selectors k w t) (selectors j w t) (then_postfixes parse_optional_braces (selector w t) (optional_braces_local x rest other k j)) (λ ts. e ts ∙ cond-true (may_be_name w) _ _ may) (λ ts. e' ts ∙ cond-true (may_be_name w) _ _ may)
          go false not = stays (λ ts. Err (misfit ts)) (λ ts. Err (misfit ts)) (local_misfit x rest other k j) (λ ts. e ts ∙ cond-false (may_be_name w) _ _ not) (λ ts. e' ts ∙ cond-false (may_be_name w) _ _ not)

      abbrev calls : ℕ → TokenKind → Text → List Symbol → Read Derivation
      calls i w t ts = parse_arguments r ts then λ y. parse_postfixes i n (call w t y.0) y.1

      selectors_local : (w : TokenKind) (t : Text) → Local x rest other k j (selectors k w t) (selectors j w t)
      selectors_local w t = then_postfixes parse_optional_braces (selector w t) (optional_braces_local x rest other k j)

      calls_local : (w : TokenKind) (t : Text) → Local x rest other k j (calls k w t) (calls j w t)
      calls_local w t = then_postfixes (parse_arguments r) (call w t) (arguments_local k j)

      -- a call, or a selector of that name
      call_local : (w : TokenKind) (t : Text) → may_be_name w ≡ true → Local x rest other k j (parse_call r k n w t) (parse_call r j n w t)
      call_local w t may = local_by_first x rest other k j k j (parse_call r k n w t) (parse_call r j n w t) (omega arith) (omega arith) (subst (Ends []) (sym (cond-true (may_be_name w) _ _ may)) ((selectors_local w t).ends [] (omega arith))) step
        where
          step : (u : Symbol) → Reads (parse_call r k n w t) (parse_call r j n w t) u
          step (punct kind.LeftParen) = takes (calls k w t) (calls j w t) (calls_local w t) (λ ts. refl) (λ ts. refl)
          step u = stays (selectors k w t) (selectors j w t) (selectors_local w t) (λ ts. cond-true (may_be_name w) _ _ may) (λ ts. cond-true (may_be_name w) _ _ may)

      abbrev groups : ℕ → ℕ → Text → Grouping → List Symbol → Read Derivation
      groups i op t g ts = parse_arguments r ts then λ y. parse_postfixes i n (aggregate op t (Some (true, g)) y.0) y.1

      grouped_local : (op : ℕ) (t : Text) (g : Grouping) → Local x rest other k j (parse_grouped_aggregate r k n op t g) (parse_grouped_aggregate r j n op t g)
      grouped_local op t g = local_by_first x rest other k j k j (parse_grouped_aggregate r k n op t g) (parse_grouped_aggregate r j n op t g) (omega arith) (omega arith) (whole_end []) step
        where
          step : (u : Symbol) → Reads (parse_grouped_aggregate r k n op t g) (parse_grouped_aggregate r j n op t g) u
          step (punct kind.LeftParen) = takes (groups k op t g) (groups j op t g) (then_postfixes (parse_arguments r) (aggregate op t (Some (true, g))) (arguments_local k j)) (λ ts. refl) (λ ts. refl)
          step u = stays (λ ts. Err (misfit ts)) (λ ts. Err (misfit ts)) (local_misfit x rest other k j) (λ ts. refl) (λ ts. refl)

      abbrev clauses : ℕ → ℕ → Text → List Symbol → Read Derivation
      clauses i op t ts = parse_arguments r ts then λ y. parse_grouping y.1 then λ c. parse_postfixes i n (aggregate op t c.0 y.0) c.1

      clauses_local : (op : ℕ) (t : Text) → Local x rest other k j (clauses k op t) (clauses j op t)
      clauses_local op t =
          local_then x rest other k j (parse_arguments r) (parse_arguments r) (λ ds us. parse_grouping us then λ c. parse_postfixes k n (aggregate op t c.0 ds) c.1) (λ ds us. parse_grouping us then λ c. parse_postfixes j n (aggregate op t c.0 ds) c.1) (arguments_local k j)
          (λ ds. then_postfixes parse_grouping (λ c. aggregate op t c ds) (grouping_local x rest other k j))

      abbrev grouped : ℕ → ℕ → Text → (Labels → Grouping) → List Symbol → Read Derivation
      grouped i op t g ts = parse_labels ts then λ l. parse_grouped_aggregate r i n op t (g l.0) l.1

      labelled_local : (op : ℕ) (t : Text) (g : Labels → Grouping) → Local x rest other k j (grouped k op t g) (grouped j op t g)
      labelled_local op t g = local_then x rest other k j parse_labels parse_labels (λ l. parse_grouped_aggregate r k n op t (g l)) (λ l. parse_grouped_aggregate r j n op t (g l)) (labels_local x rest other k j) (λ l. grouped_local op t (g l))

      aggregate_local : (op : ℕ) (t : Text) → Local x rest other k j (parse_aggregate r k n op t) (parse_aggregate r j n op t)
      aggregate_local op t = local_by_first x rest other k j k j (parse_aggregate r k n op t) (parse_aggregate r j n op t) (omega arith) (omega arith) ((selectors_local (kind.Aggregator op) t).ends [] (omega arith)) step
        where
          step : (u : Symbol) → Reads (parse_aggregate r k n op t) (parse_aggregate r j n op t) u
          step (punct kind.LeftParen) = takes (clauses k op t) (clauses j op t) (clauses_local op t) (λ ts. refl) (λ ts. refl)
          step (word kind.By u) = takes (grouped k op t (λ ls. (true, u, ls))) (grouped j op t (λ ls. (true, u, ls))) (labelled_local op t (λ ls. (true, u, ls))) (λ ts. refl) (λ ts. refl)
          step (word kind.Without u) = takes (grouped k op t (λ ls. (false, u, ls))) (grouped j op t (λ ls. (false, u, ls))) (labelled_local op t (λ ls. (false, u, ls))) (λ ts. refl) (λ ts. refl)
          step u = stays (selectors k (kind.Aggregator op) t) (selectors j (kind.Aggregator op) t) (selectors_local (kind.Aggregator op) t) (λ ts. refl) (λ ts. refl)

      paren_end_local : (d : Derivation) → Local x rest other k j (parse_paren_end k n d) (parse_paren_end j n d)
      paren_end_local d = local_by_first x rest other k j k j (parse_paren_end k n d) (parse_paren_end j n d) (omega arith) (omega arith) (whole_end []) step
        where
          step : (u : Symbol) → Reads (parse_paren_end k n d) (parse_paren_end j n d) u
          step (punct kind.RightParen) = takes (parse_postfixes k n (paren d)) (parse_postfixes j n (paren d)) (postfixes_local n k j (paren d)) (λ ts. refl) (λ ts. refl)
          step u = stays (λ ts. Err (misfit ts)) (λ ts. Err (misfit ts)) (local_misfit x rest other k j) (λ ts. refl) (λ ts. refl)

      abbrev Unary : Symbol → Type 0
      Unary t = Reads (parse_unary r k n) (parse_unary r j n) t

      sign_step : (op : ℕ) (t : Text) (b : Bool) → is_plus_or_minus op ≡ b → Unary (word (kind.Operator op) t)
      sign_step op t true is = takes (λ ts. r 6 ts then λ x. Ok (unary op t x.0, x.1)) (λ ts. r 6 ts then λ x. Ok (unary op t x.0, x.1)) (local_then x rest other k j (r 6) (r 6) (λ d us. Ok (unary op t d, us)) (λ d us. Ok (unary op t d, us)) (r_local 6 k j) (λ d. local_ok x rest other (unary op t d) k j)) (λ ts. cond-true (is_plus_or_minus op) _ _ is) (λ ts. cond-true (is_plus_or_minus op) _ _ is)
      sign_step op t false not = named_step (parse_unary r k n) (parse_unary r j n) (kind.Operator op) t (λ ts. cond-false (is_plus_or_minus op) _ _ not) (λ ts. cond-false (is_plus_or_minus op) _ _ not)

      unary_step : (t : Symbol) → Unary t
      unary_step (word kind.Number t) = takes (parse_postfixes k n (number t)) (parse_postfixes j n (number t)) (postfixes_local n k j (number t)) (λ ts. refl) (λ ts. refl)
      unary_step (word kind.Duration t) = takes (parse_postfixes k n (duration t)) (parse_postfixes j n (duration t)) (postfixes_local n k j (duration t)) (λ ts. refl) (λ ts. refl)
      unary_step (word kind.String t) = takes (parse_postfixes k n (string t)) (parse_postfixes j n (string t)) (postfixes_local n k j (string t)) (λ ts. refl) (λ ts. refl)
      unary_step (word (kind.Operator op) t) = sign_step op t (is_plus_or_minus op) refl
      unary_step (word (kind.Aggregator op) t) = takes (parse_aggregate r k n op t) (parse_aggregate r j n op t) (aggregate_local op t) (λ ts. refl) (λ ts. refl)
      unary_step (word kind.Identifier t) = takes (parse_call r k n kind.Identifier t) (parse_call r j n kind.Identifier t) (call_local kind.Identifier t refl) (λ ts. refl) (λ ts. refl)
      unary_step (word kind.Start t) = takes (parse_call r k n kind.Start t) (parse_call r j n kind.Start t) (call_local kind.Start t refl) (λ ts. refl) (λ ts. refl)
      unary_step (word kind.End t) = takes (parse_call r k n kind.End t) (parse_call r j n kind.End t) (call_local kind.End t refl) (λ ts. refl) (λ ts. refl)
      unary_step (word w t) = named_step (parse_unary r k n) (parse_unary r j n) w t (λ ts. refl) (λ ts. refl)
      unary_step (punct kind.LeftParen) =
          takes (λ ts. r 0 ts then λ x. parse_paren_end k n x.0 x.1) (λ ts. r 0 ts then λ x. parse_paren_end j n x.0 x.1) (local_then x rest other k j (r 0) (r 0) (parse_paren_end k n) (parse_paren_end j n) (r_local 0 k j) paren_end_local) (λ ts. refl) (λ ts. refl)
      unary_step (punct kind.LeftBrace) = takes (λ ts. parse_braces ts then λ b. parse_postfixes k n (nameless b.0) b.1) (λ ts. parse_braces ts then λ b. parse_postfixes j n (nameless b.0) b.1) (then_postfixes parse_braces nameless (braces_local x rest other k j)) (λ ts. refl) (λ ts. refl)
      unary_step t = stays (λ ts. Err (misfit ts)) (λ ts. Err (misfit ts)) (local_misfit x rest other k j) (λ ts. refl) (λ ts. refl)

      unary_local : Local x rest other k j (parse_unary r k n) (parse_unary r j n)
      unary_local = local_by_first x rest other k j k j (parse_unary r k n) (parse_unary r j n) (omega arith) (omega arith) (whole_end []) unary_step

    -- ---- operators, of which there are at most as many as tokens

    module _ (n p k j : ℕ) (ih : (d : Derivation) → Local x rest other k j (parse_operators r k n p d) (parse_operators r j n p d)) (d : Derivation) where
      abbrev Climb : Symbol → Type 0
      Climb t = Step x rest other (suc k) (suc j) k j (parse_operators r (suc k) n p d) (parse_operators r (suc j) n p d) t

      abbrev sides : ℕ → ℕ → Text → List Symbol → Read Derivation
      sides i op t ts = parse_modifier ts then λ y. r (right_precedence op) y.1 then λ x. parse_operators r i n p (binary op t y.0 d x.0) x.1

      sides_local : (op : ℕ) (t : Text) → Local x rest other k j (sides k op t) (sides j op t)
      sides_local op t =
          local_then x rest other k j parse_modifier parse_modifier (λ w us. r (right_precedence op) us then λ x. parse_operators r k n p (binary op t w d x.0) x.1) (λ w us. r (right_precedence op) us then λ x. parse_operators r j n p (binary op t w d x.0) x.1) (modifier_local x rest other k j)
          (λ w. local_then x rest other k j (r (right_precedence op)) (r (right_precedence op)) (λ e. parse_operators r k n p (binary op t w d e)) (λ e. parse_operators r j n p (binary op t w d e)) (r_local (right_precedence op) k j) (λ e. ih (binary op t w d e)))

      climb_step : (op : ℕ) (t : Text) (low high : Bool) → nat_lt (precedence op) p ≡ low → nat_lt n (height d) ≡ high → Climb (word (kind.Operator op) t)
      climb_step op t true high e f = stays (λ ts. Ok (d, ts)) (λ ts. Ok (d, ts)) (local_ok x rest other d (suc k) (suc j)) (λ ts. cond-true (nat_lt (precedence op) p) _ _ e) (λ ts. cond-true (nat_lt (precedence op) p) _ _ e)
      climb_step op t false true e f = takes (λ ts. Err too_high) (λ ts. Err too_high) (local_high x rest other k j) (λ ts. cond-false (nat_lt (precedence op) p) _ _ e ∙ cond-true (nat_lt n (height d)) _ _ f) (λ ts. cond-false (nat_lt (precedence op) p) _ _ e ∙ cond-true (nat_lt n (height d)) _ _ f)
      climb_step op t false false e f = takes (sides k op t) (sides j op t) (sides_local op t) (λ ts. cond-false (nat_lt (precedence op) p) _ _ e ∙ cond-false (nat_lt n (height d)) _ _ f) (λ ts. cond-false (nat_lt (precedence op) p) _ _ e ∙ cond-false (nat_lt n (height d)) _ _ f)

      operator_step : (t : Symbol) → Climb t
      operator_step (word (kind.Operator op) t) = climb_step op t (nat_lt (precedence op) p) (nat_lt n (height d)) refl refl
      operator_step t = stays (λ ts. Ok (d, ts)) (λ ts. Ok (d, ts)) (local_ok x rest other d (suc k) (suc j)) (λ ts. refl) (λ ts. refl)

      operators_next : Local x rest other (suc k) (suc j) (parse_operators r (suc k) n p d) (parse_operators r (suc j) n p d)
      operators_next = local_by_first x rest other (suc k) (suc j) k j (parse_operators r (suc k) n p d) (parse_operators r (suc j) n p d) (omega arith) (omega arith) (whole_end []) operator_step

    operators_local : (n p k j : ℕ) (d : Derivation) → Local x rest other k j (parse_operators r k n p d) (parse_operators r j n p d)
    operators_local n p = let q : ℕ → Derivation → List Symbol → Read Derivation = λ k d. parse_operators r k n p d in local_bounded x rest other q (λ d. whole_end []) (λ k j ih d. operators_next n p k j ih d)

    abbrev expressions : ℕ → ℕ → ℕ → List Symbol → Read Derivation
    expressions n p k ts = parse_unary r k (suc n) ts then λ x. parse_operators r k n p x.0 x.1

    expressions_local : (n p m m' : ℕ) → Local x rest other m m' (λ ts. expressions n p (length ts) ts) (λ ts. expressions n p (length ts) ts)
    expressions_local n p m m' =
        local_by_length x rest other m m' (expressions n p)
        (λ k j. local_then x rest other k j (parse_unary r k (suc n)) (parse_unary r j (suc n)) (parse_operators r k n p) (parse_operators r j n p) (unary_local k j (suc n)) (operators_local n p k j))

  expression_local : (n p m m' : ℕ) → Local x rest other m m' (parse_expression n p) (parse_expression n p)
  unfolding parse_expression
  expression_local zero p m m' = local_high x rest other m m'
  expression_local (suc n) p m m' = expressions_local (parse_expression n) (expression_local n) n p m m'

-- ---- the first token that does not fit

-- what does not fit is an end of the list
pub misfit_ends : (n : ℕ) (ts us : List Symbol) → parse_expression n 0 ts ≡ Err (misfit us) → IsEnd us ts
misfit_ends n ts us is = subst (Ends ts) is ((expression_local (punct kind.Comma) [] [] n 0 (length ts) 0).ends ts (omega arith))

-- and so is what is left
pub left_ends : (n : ℕ) (ts : List Symbol) (d : Derivation) (us : List Symbol) → parse_expression n 0 ts ≡ Ok (d, us) → IsEnd us ts
left_ends n ts d us is = subst (Ends ts) is ((expression_local (punct kind.Comma) [] [] n 0 (length ts) 0).ends ts (omega arith))

module _ (n : ℕ) (front rest other : List Symbol) (x : Symbol) where
  agrees : Agrees x rest other (parse_expression n 0 (front ++ x ∷ rest)) (parse_expression n 0 (front ++ x ∷ other))
  agrees = (expression_local x rest other n 0 (length (front ++ x ∷ rest)) (length (front ++ x ∷ other))).same front (omega arith) (omega arith)

  pub misfit_alike : parse_expression n 0 (front ++ x ∷ rest) ≡ Err (misfit (x ∷ rest)) → (us : List Symbol) × (parse_expression n 0 (front ++ x ∷ other) ≡ Err (misfit us))
  misfit_alike is = elim (subst (λ o. Agrees x rest other o (parse_expression n 0 (front ++ x ∷ other))) is agrees) [ inl past ↦ absurd (omega arith) | inr a ↦ (two x rest other a.front, a.same) ]

  pub left_alike : (d : Derivation) → parse_expression n 0 (front ++ x ∷ rest) ≡ Ok (d, x ∷ rest) → (us : List Symbol) × (parse_expression n 0 (front ++ x ∷ other) ≡ Ok (d, us ++ x ∷ other))
  left_alike d is = elim (subst (λ o. Agrees x rest other o (parse_expression n 0 (front ++ x ∷ other))) is agrees) [ inl past ↦ absurd (omega arith) | inr a ↦ (a.front, a.same) ]
