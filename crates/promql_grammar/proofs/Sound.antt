-- What is parsed is a well formed derivation of the tokens that were taken.
use Rattle.std.proofs.Common.{◌≡◌, ℕ, zero, suc, ◌+◌, ◌≤◌, ⊎_elim, refl, sym, ◌∙◌, ap, subst, arith, List, [], ◌∷◌, ◌++◌, length, append_assoc, append-nil, length-append, Bool, true, false, Option, Some, None}
use Rattle.std.specs.Prelude.{if◌then◌else◌, Ok, Err}
use Rattle.std.proofs.lemmas.Bool.{cases_lt, cond_below, cond_above}
use Rattle.promql_text.specs.Texts.{Text}
use Rattle.promql_grammar.specs.declared.token_kinds.TokenKind.{TokenKind}
use Rattle.promql_grammar.specs.declared.token_kinds.TokenKind.TheVariants as kind
use Rattle.promql_grammar.specs.Results.{◌then◌}
use Rattle.promql_grammar.specs.Symbols.{Symbol, punct, word, may_be_name, may_be_called, is_plus_or_minus}
use Rattle.promql_grammar.specs.GrammarParts.{Grouping, Clause, Matching, Fills, no_fill, Modifier, Braces, Postfix, range, subquery, at_number, at_bound, offset, mode, yield_labels, yield_grouping, yield_before, yield_after, yield_modifier, yield_braces, yield_postfix, IsLabels}
use Rattle.promql_grammar.specs.PartTokens.{IsGrouping, yield_any_braces, IsClause, yield_rest}
use Rattle.promql_grammar.specs.Grammar.{Derivation, number, duration, string, selector, nameless, paren, call, aggregate, postfixed, unary, binary, Arguments, none, more, yield, yield_arguments, precedence, openness, height, greatest_height, added_height, IsWellFormed, AreWellFormed, IsBase, OpensNoParen, FitsLeft, FitsMatching}
use Rattle.promql_grammar.specs.Parsing.{misfit, too_high, Read, Reader, right_precedence, parse_labels, parse_grouping, parse_modifier, parse_optional_braces, parse_braces, parse_postfix, parse_more_postfixes, parse_postfixes, parse_paren_end, parse_more_arguments, parse_arguments, parse_selector, parse_call, parse_grouped_aggregate, parse_aggregate, parse_unary, parse_operators, parse_expression}
use Rattle.promql_grammar.proofs.Complete.{tall}
use Rattle.promql_grammar.proofs.Precedences.{Root, Stops, After, after_right, after_sign, after_base, right_root, sign_root, root_base}
use Rattle.promql_grammar.proofs.SoundParts.{Took, Any, IsAfter, IsModifierBefore, Takes, yield_any_postfix, labels_taken, clause_taken, modifier_taken, braces_in_taken, braces_taken, postfix_taken}

added_tokens : (p : Postfix) → added_height p + 1 ≤ length (yield_postfix p) + 1
added_tokens (range t) = omega arith
added_tokens (subquery t s) = omega arith
added_tokens (at_number s t) = omega arith
added_tokens (at_bound k t) = omega arith
added_tokens (offset t s u) = omega arith
added_tokens (mode k t) = omega arith

-- no derivation is higher than its tokens are many
mutual
  pub height_yield : (d : Derivation) → height d ≤ length (yield d)
  height_yield (number t) = omega arith
  height_yield (duration t) = omega arith
  height_yield (string t) = omega arith
  height_yield (selector k t b) = omega arith
  height_yield (nameless b) = braces_tokens b
    where
      braces_tokens : (b : Braces) → 1 ≤ length (yield_braces b)
      braces_tokens None = omega arith
      braces_tokens b = omega arith
  height_yield (paren d) = omega (arith, height_yield d, length-append (yield d) (punct kind.RightParen ∷ []))
  height_yield (call k t ds) = omega (arith, height_arguments ds)
  height_yield (aggregate op t c ds) = omega (arith, height_arguments ds, length-append (yield_before c) (punct kind.LeftParen ∷ (yield_arguments [] ds ++ yield_after c)), length-append (yield_arguments [] ds) (yield_after c))
  height_yield (postfixed d p) = omega (arith, height_yield d, added_tokens p, length-append (yield d) (yield_postfix p))
  height_yield (unary op t d) = omega (arith, height_yield d)
  height_yield (binary op t m a b) = omega (arith, height_yield a, height_yield b, length-append (yield a) (word (kind.Operator op) t ∷ (yield_modifier m ++ yield b)), length-append (yield_modifier m) (yield b))

  height_arguments : (ds : Arguments) → greatest_height ds ≤ length (yield_arguments [] ds)
  height_arguments none = omega arith
  height_arguments (more d ds) = omega (arith, height_yield d, height_rest ds, length-append (yield d) (yield_rest ds))

  height_rest : (ds : Arguments) → greatest_height ds ≤ length (yield_rest ds)
  height_rest none = omega arith
  height_rest (more d ds) = omega (arith, height_yield d, height_rest ds, length-append (yield d) (yield_rest ds))

-- a derivation at the front of the tokens
pub record IsRead (n m : ℕ) (ts : List Symbol) (d : Derivation) (rest : List Symbol) : Type 0 where
  pub formed : IsWellFormed d
  pub low : height d ≤ n
  pub root : Root m d
  pub after : After (openness d) rest
  pub stops : Stops m rest
  pub spells : ts ≡ yield d ++ rest

-- what parsing returns is right: a derivation, or too high for an expression that is higher
abbrev pub Good : ℕ → ℕ → List Symbol → Read Derivation → Type 0
Good n m ts (Ok x) = IsRead n m ts x.0 x.1
Good n m ts (Err too_high) = n ≤ length ts
Good n m ts (Err (misfit bad)) = Unit {0}

pub record Sound (r : Reader) (n : ℕ) : Type 0 where
  pub by : (m : ℕ) (ts : List Symbol) → Good n m ts (r m ts)

-- a derivation that is no binary form at the front
record IsFirst (n : ℕ) (ts : List Symbol) (d : Derivation) (rest : List Symbol) : Type 0 where
  formed : IsWellFormed d
  low : height d ≤ n
  root : (m : ℕ) → Root m d
  after : After (openness d) rest
  spells : ts ≡ yield d ++ rest

abbrev Firsts : ℕ → List Symbol → Read Derivation → Type 0
Firsts n ts (Ok x) = IsFirst n ts x.0 x.1
Firsts n ts (Err too_high) = n ≤ length ts
Firsts n ts (Err (misfit bad)) = Unit {0}

record AreArguments (n : ℕ) (ts us : List Symbol) (ds : Arguments) : Type 0 where
  formed : AreWellFormed ds
  low : greatest_height ds ≤ n
  spells : ts ≡ us

abbrev ReadsArguments : (Arguments → List Symbol) → ℕ → List Symbol → Read Arguments → Type 0
ReadsArguments spells n ts (Ok y) = AreArguments n ts (spells y.0 ++ y.1) y.0
ReadsArguments spells n ts (Err too_high) = n ≤ length ts
ReadsArguments spells n ts (Err (misfit bad)) = Unit {0}

-- a shorter rest
shorter : (ts : List Symbol) (d : Derivation) (rest : List Symbol) → ts ≡ yield d ++ rest → length rest ≤ length ts
shorter ts d rest e = omega (arith, ap length e, length-append (yield d) rest)

-- a parenthesis before a part that isn't empty
open_less : (ts us : List Symbol) → 1 ≤ length ts → OpensNoParen (ts ++ us) → OpensNoParen ts
open_less [] us l h = tt
open_less (punct kind.LeftParen ∷ ts) us l h = h
open_less (t ∷ ts) us l h = tt

fits_less : (m : Matching) (f : Fills) (ts us : List Symbol) → 1 ≤ length ts → FitsMatching m f (ts ++ us) → FitsMatching m f ts
fits_less (Some (on, t, ls, (Some (left, t', None)))) no_fill ts us l h = open_less ts us l h
fits_less m f ts us l h = tt

-- after a part without expressions
first_then : {A : Type 0} (n : ℕ) (spells : A → List Symbol) (holds : A → Type 0) (ts all : List Symbol) (o : Read A) (f : A × List Symbol → Read Derivation)
    → Took spells holds ts o → ((x : A) (us : List Symbol) → ts ≡ spells x ++ us → holds x → Firsts n all (f (x, us))) → Firsts n all (o then f)
first_then n s h ts all (Ok x) f t k = k x.0 x.1 t.0 t.1
first_then n s h ts all (Err (misfit bad)) f t k = tt
first_then n s h ts all (Err too_high) f t k = absurd t

module _ (n : ℕ) where
  base_first : (d : Derivation) (ts all : List Symbol) → IsWellFormed d → IsBase d → height d ≤ suc n → all ≡ yield d ++ ts → Firsts (suc n) all (Ok (d, ts))
  base_first d ts all h b l e = record { formed = h; low = l; root = λ m. root_base m d b; after = after_base d ts b; spells = e }

  abbrev Postfixes : ℕ → Type 0
  Postfixes k = (d : Derivation) (ts all : List Symbol) → IsWellFormed d → IsBase d → height d ≤ suc n → all ≡ yield d ++ ts → Firsts (suc n) all (parse_postfixes k (suc n) d ts)

  postfix_sound : (k : ℕ) (d : Derivation) (p : Option Postfix) (ts us all : List Symbol) → Postfixes k → IsWellFormed d → IsBase d → height d ≤ suc n → all ≡ yield d ++ ts → ts ≡ yield_any_postfix p ++ us → Firsts (suc n) all (parse_more_postfixes (parse_postfixes k (suc n)) (suc n) d p us)
  postfix_sound k d None ts us all ih h b l e f = base_first d us all h b l (e ∙ ap (λ x. yield d ++ x) f)
  postfix_sound k d (Some p) ts us all ih h b l e f =
      ⊎_elim (λ lt. let q : suc n ≤ length all = omega (arith, height_yield d, added_tokens p, ap length e, ap length f, length-append (yield d) ts, length-append (yield_postfix p) us) in subst (Firsts (suc n) all) (cond_below (suc n) (height (postfixed d p)) (Err too_high) _ lt) q)
      (λ le. subst (Firsts (suc n) all) (cond_above (suc n) (height (postfixed d p)) (Err too_high) _ _ le refl) (ih (postfixed d p) us all (h, b) tt le (e ∙ ap (λ x. yield d ++ x) f ∙ sym (append_assoc (yield d) (yield_postfix p) us))))
      (cases_lt (suc n) (height (postfixed d p)))

  postfixes_sound : (k : ℕ) → Postfixes k
  postfixes_sound zero d ts all h b l e = base_first d ts all h b l e
  postfixes_sound (suc k) d ts all h b l e =
      first_then (suc n) yield_any_postfix Any ts all (parse_postfix ts) (λ p. parse_more_postfixes (parse_postfixes k (suc n)) (suc n) d p.0 p.1) (postfix_taken ts)
      (λ p us f i. postfix_sound k d p ts us all (postfixes_sound k) h b l e f)

  closing_sound : (k : ℕ) (d : Derivation) (us ts : List Symbol) → IsWellFormed d → height d ≤ n → ts ≡ yield d ++ us → Firsts (suc n) (punct kind.LeftParen ∷ ts) (parse_paren_end k (suc n) d us)
  closing_sound k d (punct kind.RightParen ∷ us) ts h l e = postfixes_sound k (paren d) us (punct kind.LeftParen ∷ ts) h tt (omega arith) (ap (λ l. punct kind.LeftParen ∷ l) (e ∙ sym (append_assoc (yield d) (punct kind.RightParen ∷ []) us)))
  closing_sound k d us ts h l e = tt

  named_sound : (k : ℕ) (w : TokenKind) (t : Text) (ts : List Symbol) → Firsts (suc n) (word w t ∷ ts) (parse_selector k (suc n) w t ts)
  named_sound k w t ts = go (may_be_name w) refl
    where
      go : (b : Bool) → may_be_name w ≡ b → Firsts (suc n) (word w t ∷ ts) (if b then (parse_optional_braces ts then λ b. parse_postfixes k (suc n) (selector w t b.0) b.1) else Err (misfit (word w t ∷ ts)))
      go true h =
          first_then (suc n) yield_any_braces Any ts (word w t ∷ ts) (parse_optional_braces ts) (λ b. parse_postfixes k (suc n) (selector w t b.0) b.1) (braces_taken ts)
          (λ b us e i. postfixes_sound k (selector w t b) us (word w t ∷ ts) h tt (omega arith) (ap (λ l. word w t ∷ l) e))
      go false h = tt

  module _ (r : Reader) (sound : Sound r n) where
    more_sound : (spells : Arguments → List Symbol) (front : List Symbol) (d : Derivation) (us ts : List Symbol) (o : Read Arguments) → ((ds : Arguments) → spells (more d ds) ≡ front ++ (yield d ++ yield_rest ds)) → IsWellFormed d → height d ≤ n → ts ≡ yield d ++ us → ReadsArguments yield_rest n us o → ReadsArguments spells n (front ++ ts) (o then λ y. Ok (more d y.0, y.1))
    more_sound spells front d us ts (Ok y) s h l e g = record { formed = (h, g.formed); low = let k = g.low in omega arith; spells = ap (λ l. front ++ l) (e ∙ ap (λ l. yield d ++ l) g.spells ∙ sym (append_assoc (yield d) (yield_rest y.0) y.1)) ∙ sym (append_assoc front (yield d ++ yield_rest y.0) y.1) ∙ ap (λ l. l ++ y.1) (sym (s y.0)) }
    more_sound spells front d us ts (Err too_high) s h l e g = omega (arith, shorter ts d us e, length-append front ts)
    more_sound spells front d us ts (Err (misfit bad)) s h l e g = tt

    rest_comma : (k : ℕ) (ts : List Symbol) (o : Read Derivation) → ((us : List Symbol) → ReadsArguments yield_rest n us (parse_more_arguments r k us)) → Good n 0 ts o → ReadsArguments yield_rest n (punct kind.Comma ∷ ts) (o then λ x. parse_more_arguments r k x.1 then λ y. Ok (more x.0 y.0, y.1))
    rest_comma k ts (Ok x) ih g = more_sound yield_rest (punct kind.Comma ∷ []) x.0 x.1 ts (parse_more_arguments r k x.1) (λ ds. refl) g.formed g.low g.spells (ih x.1)
    rest_comma k ts (Err too_high) ih g = omega arith
    rest_comma k ts (Err (misfit bad)) ih g = tt

    rest_sound : (k : ℕ) (ts : List Symbol) → ReadsArguments yield_rest n ts (parse_more_arguments r k ts)
    rest_sound zero ts = tt
    rest_sound (suc k) (punct kind.RightParen ∷ ts) = record { formed = tt; low = omega arith; spells = refl }
    rest_sound (suc k) (punct kind.Comma ∷ ts) = rest_comma k ts (r 0 ts) (rest_sound k) (sound.by 0 ts)
    rest_sound (suc k) ts = tt

    arguments_first : (ts : List Symbol) (o : Read Derivation) → Good n 0 ts o → ReadsArguments (yield_arguments []) n ts (o then λ x. parse_more_arguments r (length ts) x.1 then λ y. Ok (more x.0 y.0, y.1))
    arguments_first ts (Ok x) g = more_sound (yield_arguments []) [] x.0 x.1 ts (parse_more_arguments r (length ts) x.1) (λ ds. refl) g.formed g.low g.spells (rest_sound (length ts) x.1)
    arguments_first ts (Err too_high) g = g
    arguments_first ts (Err (misfit bad)) g = tt

    arguments_sound : (ts : List Symbol) → ReadsArguments (yield_arguments []) n ts (parse_arguments r ts)
    arguments_sound (punct kind.RightParen ∷ ts) = record { formed = tt; low = omega arith; spells = refl }
    arguments_sound ts = arguments_first ts (r 0 ts) (sound.by 0 ts)

    -- after arguments, before which there is at least one token
    first_arguments : (front ts : List Symbol) (o : Read Arguments) (f : Arguments × List Symbol → Read Derivation) → 1 ≤ length front → ReadsArguments (yield_arguments []) n ts o
        → ((ds : Arguments) (us : List Symbol) → AreWellFormed ds → greatest_height ds ≤ n → ts ≡ yield_arguments [] ds ++ us → Firsts (suc n) (front ++ ts) (f (ds, us))) → Firsts (suc n) (front ++ ts) (o then f)
    first_arguments front ts (Ok y) f l g k = k y.0 y.1 g.formed g.low g.spells
    first_arguments front ts (Err too_high) f l g k = omega (arith, length-append front ts)
    first_arguments front ts (Err (misfit bad)) f l g k = tt

    called_sound : (k : ℕ) (w : TokenKind) (t : Text) (ts : List Symbol) → may_be_called w ≡ true → Firsts (suc n) (word w t ∷ ts) (parse_call r k (suc n) w t ts)
    called_sound k w t (punct kind.LeftParen ∷ ts) h =
        first_arguments (word w t ∷ (punct kind.LeftParen ∷ [])) ts (parse_arguments r ts) (λ y. parse_postfixes k (suc n) (call w t y.0) y.1) (omega arith) (arguments_sound ts)
        (λ ds us i l e. postfixes_sound k (call w t ds) us _ (h, i) tt (omega arith) (ap (λ l. word w t ∷ (punct kind.LeftParen ∷ l)) e))
    called_sound k w t ts h = named_sound k w t ts

    is_before : (g : Grouping) → IsGrouping g → IsClause (Some (true, g))
    is_before (by, t, ls) h = h

    -- arguments after a grouping
    grouped_sound : (k op : ℕ) (t : Text) (g : Grouping) (ts us : List Symbol) → IsGrouping g → ts ≡ yield_grouping g ++ us → Firsts (suc n) (word (kind.Aggregator op) t ∷ ts) (parse_grouped_aggregate r k (suc n) op t g us)
    grouped_sound k op t g ts (punct kind.LeftParen ∷ us) h e =
        let front = word (kind.Aggregator op) t ∷ (yield_grouping g ++ punct kind.LeftParen ∷ []) in
        let same : front ++ us ≡ word (kind.Aggregator op) t ∷ ts = ap (λ l. word (kind.Aggregator op) t ∷ l) (append_assoc (yield_grouping g) (punct kind.LeftParen ∷ []) us ∙ sym e) in
        subst (λ all. Firsts (suc n) all (parse_arguments r us then λ y. parse_postfixes k (suc n) (aggregate op t (Some (true, g)) y.0) y.1)) same
        (first_arguments front us (parse_arguments r us) (λ y. parse_postfixes k (suc n) (aggregate op t (Some (true, g)) y.0) y.1) (omega arith) (arguments_sound us)
        (λ ds vs i l f. postfixes_sound k (aggregate op t (Some (true, g)) ds) vs (front ++ us) (is_before g h, i) tt (omega arith)
        (same ∙ ap (λ l. word (kind.Aggregator op) t ∷ l) (e ∙ ap (λ l. yield_grouping g ++ punct kind.LeftParen ∷ l) (f ∙ ap (λ l. l ++ vs) (sym (append-nil (yield_arguments [] ds)))) ∙ sym (append_assoc (yield_grouping g) (punct kind.LeftParen ∷ (yield_arguments [] ds ++ [])) vs)))))
    grouped_sound k op t g ts us h e = tt

    is_clause : (c : Clause) → IsAfter c → IsClause c
    is_clause None h = tt
    is_clause (Some (true, (by, t, ls))) h = h.0
    is_clause (Some (false, (by, t, ls))) h = h.0

    aggregated_sound : (k op : ℕ) (t : Text) (ts : List Symbol) → Firsts (suc n) (word (kind.Aggregator op) t ∷ ts) (parse_aggregate r k (suc n) op t ts)
    aggregated_sound k op t (punct kind.LeftParen ∷ ts) =
        let front = word (kind.Aggregator op) t ∷ (punct kind.LeftParen ∷ []) in
        first_arguments front ts (parse_arguments r ts) (λ y. parse_grouping y.1 then λ c. parse_postfixes k (suc n) (aggregate op t c.0 y.0) c.1) (omega arith) (arguments_sound ts)
        (λ ds us i l e. first_then (suc n) yield_after IsAfter us (front ++ ts) (parse_grouping us) (λ c. parse_postfixes k (suc n) (aggregate op t c.0 ds) c.1) (clause_taken us)
        (λ c vs f j. postfixes_sound k (aggregate op t c ds) vs (front ++ ts) (is_clause c j, i) tt (omega arith)
        (ap (λ x. word (kind.Aggregator op) t ∷ (punct kind.LeftParen ∷ x)) (e ∙ ap (λ x. yield_arguments [] ds ++ x) f ∙ sym (append_assoc (yield_arguments [] ds) (yield_after c) vs))
        ∙ ap (λ x. word (kind.Aggregator op) t ∷ ((x ++ punct kind.LeftParen ∷ (yield_arguments [] ds ++ yield_after c)) ++ vs)) (sym j.1))))
    aggregated_sound k op t (word kind.By u ∷ ts) =
        first_then (suc n) yield_labels IsLabels ts (word (kind.Aggregator op) t ∷ (word kind.By u ∷ ts)) (parse_labels ts) (λ l. parse_grouped_aggregate r k (suc n) op t (true, u, l.0) l.1) (labels_taken ts)
        (λ ls us e h. grouped_sound k op t (true, u, ls) (word kind.By u ∷ ts) us h (ap (λ l. word kind.By u ∷ l) e))
    aggregated_sound k op t (word kind.Without u ∷ ts) =
        first_then (suc n) yield_labels IsLabels ts (word (kind.Aggregator op) t ∷ (word kind.Without u ∷ ts)) (parse_labels ts) (λ l. parse_grouped_aggregate r k (suc n) op t (false, u, l.0) l.1) (labels_taken ts)
        (λ ls us e h. grouped_sound k op t (false, u, ls) (word kind.Without u ∷ ts) us h (ap (λ l. word kind.Without u ∷ l) e))
    aggregated_sound k op t ts = named_sound k (kind.Aggregator op) t ts

    paren_sound : (k : ℕ) (ts : List Symbol) (o : Read Derivation) → Good n 0 ts o → Firsts (suc n) (punct kind.LeftParen ∷ ts) (o then λ x. parse_paren_end k (suc n) x.0 x.1)
    paren_sound k ts (Ok x) g = closing_sound k x.0 x.1 ts g.formed g.low g.spells
    paren_sound k ts (Err too_high) g = omega arith
    paren_sound k ts (Err (misfit bad)) g = tt

    abbrev signs : ℕ → Text → Derivation × List Symbol → Read Derivation
    signs op t x = Ok (unary op t x.0, x.1)

    unary_sound : (op : ℕ) (t : Text) (ts : List Symbol) (o : Read Derivation) → is_plus_or_minus op ≡ true → Good n 6 ts o → Firsts (suc n) (word (kind.Operator op) t ∷ ts) (o then signs op t)
    unary_sound op t ts (Ok x) h g = record { formed = (h, g.formed, sign_root x.0 g.root); low = let k = g.low in omega arith; root = λ m. tt; after = after_sign (openness x.0) x.1 g.after g.stops; spells = ap (λ l. word (kind.Operator op) t ∷ l) g.spells }
    unary_sound op t ts (Err too_high) h g = omega arith
    unary_sound op t ts (Err (misfit bad)) h g = tt

    operator_sound : (k op : ℕ) (t : Text) (ts : List Symbol) (b : Bool) → is_plus_or_minus op ≡ b → Firsts (suc n) (word (kind.Operator op) t ∷ ts) (if b then (r 6 ts then signs op t) else parse_selector k (suc n) (kind.Operator op) t ts)
    operator_sound k op t ts true h = unary_sound op t ts (r 6 ts) h (sound.by 6 ts)
    operator_sound k op t ts false h = named_sound k (kind.Operator op) t ts

    first_sound : (k : ℕ) (ts : List Symbol) → Firsts (suc n) ts (parse_unary r k (suc n) ts)
    first_sound k (word kind.Number t ∷ ts) = postfixes_sound k (number t) ts _ tt tt (omega arith) refl
    first_sound k (word kind.Duration t ∷ ts) = postfixes_sound k (duration t) ts _ tt tt (omega arith) refl
    first_sound k (word kind.String t ∷ ts) = postfixes_sound k (string t) ts _ tt tt (omega arith) refl
    first_sound k (word (kind.Operator op) t ∷ ts) = operator_sound k op t ts (is_plus_or_minus op) refl
    first_sound k (word (kind.Aggregator op) t ∷ ts) = aggregated_sound k op t ts
    first_sound k (word kind.Identifier t ∷ ts) = called_sound k kind.Identifier t ts refl
    first_sound k (word kind.Start t ∷ ts) = called_sound k kind.Start t ts refl
    first_sound k (word kind.End t ∷ ts) = called_sound k kind.End t ts refl
    first_sound k (word w t ∷ ts) = named_sound k w t ts
    first_sound k (punct kind.LeftParen ∷ ts) = paren_sound k ts (r 0 ts) (sound.by 0 ts)
    first_sound k (punct kind.LeftBrace ∷ ts) =
        first_then (suc n) yield_braces Any (punct kind.LeftBrace ∷ ts) (punct kind.LeftBrace ∷ ts) (parse_braces ts) (λ b. parse_postfixes k (suc n) (nameless b.0) b.1) (braces_in_taken ts)
        (λ b us e h. postfixes_sound k (nameless b) us (punct kind.LeftBrace ∷ ts) h tt (omega arith) e)
    first_sound k ts = tt

    read_here : (m : ℕ) (d : Derivation) (ts all : List Symbol) → IsWellFormed d → height d ≤ suc n → Root m d → After (openness d) ts → Stops m ts → all ≡ yield d ++ ts → Good (suc n) m all (Ok (d, ts))
    read_here m d ts all h l t a s e = record { formed = h; low = l; root = t; after = a; stops = s; spells = e }

    abbrev Climbs : ℕ → ℕ → Type 0
    Climbs m k = (d : Derivation) (ts all : List Symbol) → IsWellFormed d → height d ≤ suc n → Root m d → After (openness d) ts → all ≡ yield d ++ ts → length ts ≤ k → Good (suc n) m all (parse_operators r k n m d ts)

    climb_on : (m k op : ℕ) (t : Text) (w : Modifier) (d : Derivation) (ts us all : List Symbol) → IsWellFormed d → height d ≤ n → m ≤ precedence op → FitsLeft op (openness d) → all ≡ yield d ++ word (kind.Operator op) t ∷ ts → ts ≡ yield_modifier w ++ us → IsModifierBefore w us → length ts ≤ k → Climbs m k → (o : Read Derivation) → Good n (right_precedence op) us o → Good (suc n) m all (o then λ x. parse_operators r k n m (binary op t w d x.0) x.1)
    climb_on m k op t w d ts us all h l le f e q fits len ih (Ok x) g =
        let low = g.low in
        let short = shorter us x.0 x.1 g.spells in
        let fits' : FitsMatching w.1 w.2 (yield x.0) = fits_less w.1 w.2 (yield x.0) x.1 (omega (arith, height_yield x.0, tall x.0)) (subst (FitsMatching w.1 w.2) g.spells fits.1) in
        ih (binary op t w d x.0) x.1 all (h, g.formed, fits.0, f, right_root op x.0 g.root, fits') (omega arith) le (after_right op (openness x.0) x.1 g.after g.stops)
        (e ∙ ap (λ l. yield d ++ word (kind.Operator op) t ∷ l) (q ∙ ap (λ l. yield_modifier w ++ l) g.spells ∙ sym (append_assoc (yield_modifier w) (yield x.0) x.1)) ∙ sym (append_assoc (yield d) (word (kind.Operator op) t ∷ (yield_modifier w ++ yield x.0)) x.1))
        (omega (arith, ap length q, length-append (yield_modifier w) us))
    climb_on m k op t w d ts us all h l le f e q fits len ih (Err too_high) g = omega (arith, ap length e, length-append (yield d) (word (kind.Operator op) t ∷ ts), ap length q, length-append (yield_modifier w) us)
    climb_on m k op t w d ts us all h l le f e q fits len ih (Err (misfit bad)) g = tt

    climb_modifier : (m k op : ℕ) (t : Text) (d : Derivation) (ts all : List Symbol) → IsWellFormed d → height d ≤ n → m ≤ precedence op → FitsLeft op (openness d) → all ≡ yield d ++ word (kind.Operator op) t ∷ ts → length ts ≤ k → Climbs m k → (o : Read Modifier) → Takes yield_modifier IsModifierBefore ts o → Good (suc n) m all (o then λ y. r (right_precedence op) y.1 then λ x. parse_operators r k n m (binary op t y.0 d x.0) x.1)
    climb_modifier m k op t d ts all h l le f e len ih (Ok y) q = climb_on m k op t y.0 d ts y.1 all h l le f e q.0 q.1 len ih (r (right_precedence op) y.1) (sound.by (right_precedence op) y.1)
    climb_modifier m k op t d ts all h l le f e len ih (Err (misfit bad)) q = tt
    climb_modifier m k op t d ts all h l le f e len ih (Err too_high) q = absurd q

    climb_sound : (m k : ℕ) → Climbs m k
    climb_sound m zero d [] all h l t a e len = read_here m d [] all h l t a tt e
    climb_sound m zero d (x ∷ ts) all h l t a e len = absurd (omega arith)
    climb_sound m (suc k) d (word (kind.Operator op) t ∷ ts) all h l w a e len =
        ⊎_elim (λ lt. subst (Good (suc n) m all) (cond_below (precedence op) m (Ok (d, word (kind.Operator op) t ∷ ts)) _ lt) (read_here m d (word (kind.Operator op) t ∷ ts) all h l w a lt e))
        (λ ge. subst (Good (suc n) m all) (cond_above (precedence op) m (Ok (d, word (kind.Operator op) t ∷ ts)) _ _ ge refl)
        (⊎_elim (λ lt. let q : suc n ≤ length all = omega (arith, height_yield d, ap length e, length-append (yield d) (word (kind.Operator op) t ∷ ts)) in subst (Good (suc n) m all) (cond_below n (height d) (Err too_high) _ lt) q)
        (λ le. subst (Good (suc n) m all) (cond_above n (height d) (Err too_high) _ _ le refl) (climb_modifier m k op t d ts all h le ge a e (omega arith) (climb_sound m k) (parse_modifier ts) (modifier_taken ts)))
        (cases_lt n (height d))))
        (cases_lt (precedence op) m)
    climb_sound m (suc k) d ts all h l t a e len = read_here m d ts all h l t a tt e

    next_sound : (m : ℕ) (ts : List Symbol) (o : Read Derivation) → Firsts (suc n) ts o → Good (suc n) m ts (o then λ x. parse_operators r (length ts) n m x.0 x.1)
    next_sound m ts (Ok x) g = climb_sound m (length ts) x.0 x.1 ts g.formed g.low (g.root m) g.after g.spells (shorter ts x.0 x.1 g.spells)
    next_sound m ts (Err too_high) g = g
    next_sound m ts (Err (misfit bad)) g = tt

pub expression_sound : (n : ℕ) → Sound (parse_expression n) n
unfolding parse_expression
expression_sound zero = record { by = λ m ts. omega arith }
expression_sound (suc n) = record { by = λ m ts. next_sound n (parse_expression n) (expression_sound n) m ts (parse_unary (parse_expression n) (length ts) (suc n) ts) (first_sound n (parse_expression n) (expression_sound n) (length ts) ts) }
