-- Each derivation is read from its tokens.
use Rattle.std.proofs.Common.{◌≡◌, ℕ, zero, suc, ◌+◌, ◌-◌, ◌<◌, ◌≤◌, max, refl, sym, ◌∙◌, ap, arith, List, [], ◌∷◌, ◌++◌, length, append_assoc, append-nil, length-append, Bool, true, false, Option, Some, None}
use Rattle.std.specs.Prelude.{◌||◌, Ok}
use Rattle.std.proofs.lemmas.Bool.{cond_below, cond_above}
use Rattle.std.proofs.lemmas.Bool.Decides.{nat_tests}
use Rattle.promql_text.specs.Texts.{Text}
use Rattle.promql_grammar.specs.declared.token_kinds.TokenKind.{TokenKind}
use Rattle.promql_grammar.specs.declared.token_kinds.TokenKind.TheVariants as kind
use Rattle.promql_grammar.specs.Results.{◌then◌}
use Rattle.promql_grammar.specs.Symbols.{Symbol, punct, word, begins, may_begin, may_be_name, may_be_called, is_plus_or_minus, is_word_operator}
use Rattle.promql_grammar.specs.GrammarParts.{Grouping, Matching, Fills, no_fill, Braces, Postfix, range, subquery, at_number, at_bound, offset, mode, yield_grouping, yield_modifier, yield_braces, yield_postfix}
use Rattle.promql_grammar.specs.PartTokens.{IsGrouping, yield_any_braces, IsClause, yield_rest}
use Rattle.promql_grammar.specs.Grammar.{Derivation, number, duration, string, selector, nameless, paren, call, aggregate, postfixed, unary, binary, Arguments, none, more, yield, yield_arguments, precedence, openness, height, greatest_height, IsWellFormed, AreWellFormed, IsBase, OpensNoParen, FitsMatching}
use Rattle.promql_grammar.specs.Parsing.{Read, Reader, right_precedence, parse_grouping, parse_modifier, parse_more_postfixes, parse_postfixes, parse_paren_end, parse_more_arguments, parse_arguments, parse_selector, parse_call, parse_grouped_aggregate, parse_aggregate, parse_unary, parse_operators, parse_expression}
use Rattle.promql_grammar.proofs.GrammarChoices.{if_true, if_false}
use Rattle.promql_grammar.proofs.Within.{within, within_low, within_high, within_then, within_suc, within_both, within_three}
use Rattle.promql_grammar.proofs.Precedences.{Root, Stops, Follows, follows_right, follows_sign, root_left, root_right, root_sign, root_zero}
use Rattle.promql_grammar.proofs.CompleteParts.{EndsWord, labels_reads, modifier_reads, braces_in_reads, any_braces_reads, postfix_reads}

-- the reader reads each derivation of height at most n, and says of a higher one that it is too deep
pub record Reads (r : Reader) (n : ℕ) : Type 0 where
  pub by : (d : Derivation) (m : ℕ) (rest : List Symbol) → IsWellFormed d → Root m d → Follows (openness d) rest → Stops m rest → r m (yield d ++ rest) ≡ within n (height d) (Ok (d, rest))

-- the operators on the way down the left sides
abbrev spine : Derivation → ℕ
spine (binary op t m a b) = suc (spine a)
spine d = 0

-- the postfixes of a base
abbrev posts : Derivation → ℕ
posts (postfixed d p) = suc (posts d)
posts d = 0

-- a word that begins an expression where it is a name
name_begins : (k : TokenKind) → may_be_name k ≡ true → may_begin k ≡ true
name_begins (kind.Operator op) h = or_true (is_plus_or_minus op) (is_word_operator op) h
  where
    or_true : (a b : Bool) → b ≡ true → (a || b) ≡ true
    or_true true b h = refl
    or_true false b h = h
name_begins kind.Identifier h = refl
name_begins kind.MetricIdentifier h = refl
name_begins (kind.Aggregator op) h = refl
name_begins kind.By h = refl
name_begins kind.Without h = refl
name_begins kind.Offset h = refl
name_begins kind.Start h = refl
name_begins kind.End h = refl
name_begins kind.Smoothed h = refl
name_begins kind.Anchored h = refl
name_begins k h = cc

called_begins : (k : TokenKind) → may_be_called k ≡ true → may_begin k ≡ true
called_begins kind.Identifier h = refl
called_begins kind.Start h = refl
called_begins kind.End h = refl
called_begins k h = cc

sign_begins : (op : ℕ) → is_plus_or_minus op ≡ true → may_begin (kind.Operator op) ≡ true
sign_begins op h = ap (λ b. b || is_word_operator op) h

pub begins_here : (d : Derivation) (rest : List Symbol) → IsWellFormed d → begins (yield d ++ rest) ≡ true
begins_here (number t) rest h = refl
begins_here (duration t) rest h = refl
begins_here (string t) rest h = refl
begins_here (selector k t b) rest h = name_begins k h
begins_here (nameless None) rest h = refl
begins_here (nameless (Some is)) rest h = refl
begins_here (paren d) rest h = refl
begins_here (call k t ds) rest h = called_begins k h.0
begins_here (aggregate op t c ds) rest h = refl
begins_here (postfixed d p) rest h = ap begins (append_assoc (yield d) (yield_postfix p) rest) ∙ begins_here d _ h.0
begins_here (unary op t d) rest h = sign_begins op h.0
begins_here (binary op t m a b) rest h = ap begins (append_assoc (yield a) (word (kind.Operator op) t ∷ (yield_modifier m ++ yield b)) rest) ∙ begins_here a _ h.0

abbrev ClosesNoParen : List Symbol → Type 0
ClosesNoParen (punct kind.RightParen ∷ ts) = ⊥
ClosesNoParen ts = Unit {0}

no_close : (ts : List Symbol) → begins ts ≡ true → ClosesNoParen ts
no_close (punct kind.RightParen ∷ ts) h = cc
no_close ts h = tt

open_more : (ts us : List Symbol) → begins ts ≡ true → OpensNoParen ts → OpensNoParen (ts ++ us)
open_more [] us b h = cc
open_more (punct kind.LeftParen ∷ ts) us b h = h
open_more (t ∷ ts) us b h = tt

fits_more : (m : Matching) (f : Fills) (ts us : List Symbol) → begins ts ≡ true → FitsMatching m f ts → FitsMatching m f (ts ++ us)
fits_more (Some (on, t, ls, (Some (left, t', None)))) no_fill ts us b h = open_more ts us b h
fits_more m f ts us b h = tt

follows_ends : (o : ℕ) (ts : List Symbol) → Follows o ts → EndsWord ts
follows_ends o [] h = tt
follows_ends o (word (kind.Operator op) t ∷ ts) h = tt
follows_ends o (punct kind.RightParen ∷ ts) h = tt
follows_ends o (punct kind.Comma ∷ ts) h = tt
follows_ends o ts h = absurd h

postfix_ends : (p : Postfix) (rest : List Symbol) → EndsWord (yield_postfix p ++ rest)
postfix_ends (range t) rest = tt
postfix_ends (subquery t s) rest = tt
postfix_ends (at_number s t) rest = tt
postfix_ends (at_bound start t) rest = tt
postfix_ends (offset t s u) rest = tt
postfix_ends (mode true t) rest = tt
postfix_ends (mode false t) rest = tt

follows_rest : (o : ℕ) (ds : Arguments) (rest : List Symbol) → Follows o (yield_rest ds ++ rest)
follows_rest o none rest = tt
follows_rest o (more d ds) rest = tt

stops_rest : (ds : Arguments) (rest : List Symbol) → Stops 0 (yield_rest ds ++ rest)
stops_rest none rest = tt
stops_rest (more d ds) rest = tt

stops : (r : Reader) (k n m : ℕ) (d : Derivation) (ts : List Symbol) → Stops m ts → parse_operators r k n m d ts ≡ Ok (d, ts)
stops r zero n m d ts h = refl
stops r (suc k) n m d (word (kind.Operator op) t ∷ ts) h = sym (cond_below (precedence op) m (Ok (d, word (kind.Operator op) t ∷ ts)) _ h)
stops r (suc k) n m d ts h = refl

no_postfix : (k n : ℕ) (d : Derivation) (o : ℕ) (ts : List Symbol) → Follows o ts → parse_postfixes k n d ts ≡ Ok (d, ts)
no_postfix zero n d o ts h = refl
no_postfix (suc k) n d o [] h = refl
no_postfix (suc k) n d o (word (kind.Operator op) t ∷ ts) h = refl
no_postfix (suc k) n d o (punct kind.RightParen ∷ ts) h = refl
no_postfix (suc k) n d o (punct kind.Comma ∷ ts) h = refl
no_postfix (suc k) n d o ts h = absurd h

no_clause_at : (ts : List Symbol) → EndsWord ts → parse_grouping ts ≡ Ok (None, ts)
no_clause_at (word kind.By t ∷ ts) h = absurd h
no_clause_at (word kind.Without t ∷ ts) h = absurd h
no_clause_at ts h = refl

is_grouping : (g : Grouping) → IsClause (Some (false, g)) → IsGrouping g
is_grouping (by, t, ls) h = h

is_first_grouping : (g : Grouping) → IsClause (Some (true, g)) → IsGrouping g
is_first_grouping (by, t, ls) h = h

module _ (r : Reader) (n : ℕ) (reads : Reads r n) where
  rest_reads : (ds : Arguments) (k : ℕ) (rest : List Symbol) → AreWellFormed ds → length (yield_rest ds) ≤ k → parse_more_arguments r k (yield_rest ds ++ rest) ≡ within n (greatest_height ds) (Ok (ds, rest))
  rest_reads none zero rest h le = absurd (omega arith)
  rest_reads none (suc k) rest h le = sym (within_low n 0 (Ok (none, rest)) (omega arith))
  rest_reads (more d ds) zero rest h le = absurd (omega arith)
  rest_reads (more d ds) (suc k) rest h le =
      ap (λ ts. r 0 ts then λ x. parse_more_arguments r k x.1 then λ y. Ok (more x.0 y.0, y.1)) (append_assoc (yield d) (yield_rest ds) rest)
      ∙ ap (λ o. o then λ x. parse_more_arguments r k x.1 then λ y. Ok (more x.0 y.0, y.1)) (reads.by d 0 (yield_rest ds ++ rest) h.0 (root_zero d) (follows_rest (openness d) ds rest) (stops_rest ds rest))
      ∙ within_then n (height d) (Ok (d, yield_rest ds ++ rest)) (λ x. parse_more_arguments r k x.1 then λ y. Ok (more x.0 y.0, y.1))
      ∙ ap (λ o. within n (height d) (o then λ y. Ok (more d y.0, y.1))) (rest_reads ds k rest h.1 (omega (arith, length-append (yield d) (yield_rest ds))))
      ∙ ap (within n (height d)) (within_then n (greatest_height ds) (Ok (ds, rest)) (λ y. Ok (more d y.0, y.1)))
      ∙ within_both n (height d) (greatest_height ds) (Ok (more d ds, rest))

  arguments_open : (ts : List Symbol) → ClosesNoParen ts → parse_arguments r ts ≡ (r 0 ts then λ x. parse_more_arguments r (length ts) x.1 then λ y. Ok (more x.0 y.0, y.1))
  arguments_open (punct kind.RightParen ∷ ts) h = absurd h
  arguments_open ts h = refl

  arguments_reads : (ds : Arguments) (rest : List Symbol) → AreWellFormed ds → parse_arguments r (yield_arguments [] ds ++ rest) ≡ within n (greatest_height ds) (Ok (ds, rest))
  arguments_reads none rest h = sym (within_low n 0 (Ok (none, rest)) (omega arith))
  arguments_reads (more d ds) rest h =
      let k = length (yield d ++ (yield_rest ds ++ rest)) in
      ap (parse_arguments r) (append_assoc (yield d) (yield_rest ds) rest)
      ∙ arguments_open (yield d ++ (yield_rest ds ++ rest)) (no_close _ (begins_here d (yield_rest ds ++ rest) h.0))
      ∙ ap (λ o. o then λ x. parse_more_arguments r k x.1 then λ y. Ok (more x.0 y.0, y.1)) (reads.by d 0 (yield_rest ds ++ rest) h.0 (root_zero d) (follows_rest (openness d) ds rest) (stops_rest ds rest))
      ∙ within_then n (height d) (Ok (d, yield_rest ds ++ rest)) (λ x. parse_more_arguments r k x.1 then λ y. Ok (more x.0 y.0, y.1))
      ∙ ap (λ o. within n (height d) (o then λ y. Ok (more d y.0, y.1))) (rest_reads ds k rest h.1 (omega (arith, length-append (yield d) (yield_rest ds ++ rest), length-append (yield_rest ds) rest)))
      ∙ ap (within n (height d)) (within_then n (greatest_height ds) (Ok (ds, rest)) (λ y. Ok (more d y.0, y.1)))
      ∙ within_both n (height d) (greatest_height ds) (Ok (more d ds, rest))

  -- a base of height 1 and what goes on with it
  leaf : (d : Derivation) (k j : ℕ) (rest : List Symbol) → k ≡ j → height d ≡ 1 → parse_postfixes k (suc n) d rest ≡ within (suc n) (height d) (parse_postfixes j (suc n) d rest)
  leaf d k j rest e h = ap (λ i. parse_postfixes i (suc n) d rest) e ∙ sym (within_low (suc n) (height d) (parse_postfixes j (suc n) d rest) (omega arith))

  named_reads : (w : TokenKind) (t : Text) (b : Option Braces) (k j : ℕ) (rest : List Symbol) → k ≡ j → may_be_name w ≡ true → EndsWord rest → parse_selector k (suc n) w t (yield_any_braces b ++ rest) ≡ within (suc n) 1 (parse_postfixes j (suc n) (selector w t b) rest)
  named_reads w t b k j rest e h o =
      if_true (may_be_name w) _ _ h
      ∙ ap (λ o. o then λ b. parse_postfixes k (suc n) (selector w t b.0) b.1) (any_braces_reads b rest o)
      ∙ leaf (selector w t b) k j rest e refl

  -- a word that is no call
  no_call : (w : TokenKind) (t : Text) (k : ℕ) (b : Option Braces) (rest : List Symbol) → EndsWord rest → parse_call r k (suc n) w t (yield_any_braces b ++ rest) ≡ parse_selector k (suc n) w t (yield_any_braces b ++ rest)
  no_call w t k (Some None) rest h = refl
  no_call w t k (Some (Some is)) rest h = refl
  no_call w t k None rest h = go rest h
    where
      go : (ts : List Symbol) → EndsWord ts → parse_call r k (suc n) w t ts ≡ parse_selector k (suc n) w t ts
      go (punct kind.LeftParen ∷ ts) h = absurd h
      go ts h = refl

  no_aggregation : (op : ℕ) (t : Text) (k : ℕ) (b : Option Braces) (rest : List Symbol) → EndsWord rest → parse_aggregate r k (suc n) op t (yield_any_braces b ++ rest) ≡ parse_selector k (suc n) (kind.Aggregator op) t (yield_any_braces b ++ rest)
  no_aggregation op t k (Some None) rest h = refl
  no_aggregation op t k (Some (Some is)) rest h = refl
  no_aggregation op t k None rest h = go rest h
    where
      go : (ts : List Symbol) → EndsWord ts → parse_aggregate r k (suc n) op t ts ≡ parse_selector k (suc n) (kind.Aggregator op) t ts
      go (punct kind.LeftParen ∷ ts) h = absurd h
      go (word kind.By u ∷ ts) h = absurd h
      go (word kind.Without u ∷ ts) h = absurd h
      go ts h = refl

  -- an operator that is a word is not unary
  word_no_sign : (op : ℕ) → is_word_operator op ≡ true → is_plus_or_minus op ≡ false
  word_no_sign op h = grind (arith, nat_tests)

  first_named : (w : TokenKind) (t : Text) (k : ℕ) (b : Option Braces) (rest : List Symbol) → may_be_name w ≡ true → EndsWord rest → parse_unary r k (suc n) (word w t ∷ (yield_any_braces b ++ rest)) ≡ parse_selector k (suc n) w t (yield_any_braces b ++ rest)
  first_named (kind.Operator op) t k b rest h o = if_false (is_plus_or_minus op) _ _ (word_no_sign op h)
  first_named (kind.Aggregator op) t k b rest h o = no_aggregation op t k b rest o
  first_named kind.Identifier t k b rest h o = no_call kind.Identifier t k b rest o
  first_named kind.Start t k b rest h o = no_call kind.Start t k b rest o
  first_named kind.End t k b rest h o = no_call kind.End t k b rest o
  first_named kind.Number t k b rest h o = cc
  first_named kind.Duration t k b rest h o = cc
  first_named kind.String t k b rest h o = cc
  first_named w t k b rest h o = refl

  first_called : (w : TokenKind) (t : Text) (k : ℕ) (ts : List Symbol) → may_be_called w ≡ true → parse_unary r k (suc n) (word w t ∷ (punct kind.LeftParen ∷ ts)) ≡ (parse_arguments r ts then λ y. parse_postfixes k (suc n) (call w t y.0) y.1)
  first_called kind.Identifier t k ts h = refl
  first_called kind.Start t k ts h = refl
  first_called kind.End t k ts h = refl
  first_called w t k ts h = cc

  -- a grouping before arguments
  first_grouped : (op : ℕ) (t : Text) (g : Grouping) (k : ℕ) (ts : List Symbol) → IsGrouping g → parse_unary r k (suc n) (word (kind.Aggregator op) t ∷ (yield_grouping g ++ punct kind.LeftParen ∷ ts)) ≡ (parse_arguments r ts then λ y. parse_postfixes k (suc n) (aggregate op t (Some (true, g)) y.0) y.1)
  first_grouped op t (true, u, ls) k ts h = ap (λ o. o then λ l. parse_grouped_aggregate r k (suc n) op t (true, u, l.0) l.1) (labels_reads ls (punct kind.LeftParen ∷ ts) h)
  first_grouped op t (false, u, ls) k ts h = ap (λ o. o then λ l. parse_grouped_aggregate r k (suc n) op t (false, u, l.0) l.1) (labels_reads ls (punct kind.LeftParen ∷ ts) h)

  clause_after : (g : Grouping) (rest : List Symbol) → IsGrouping g → parse_grouping (yield_grouping g ++ rest) ≡ Ok (Some (false, g), rest)
  clause_after (true, u, ls) rest h = ap (λ o. o then λ l. Ok (Some (false, (true, u, l.0)), l.1)) (labels_reads ls rest h)
  clause_after (false, u, ls) rest h = ap (λ o. o then λ l. Ok (Some (false, (false, u, l.0)), l.1)) (labels_reads ls rest h)

  first_nameless : (b : Braces) (k : ℕ) (rest : List Symbol) → parse_unary r k (suc n) (yield_braces b ++ rest) ≡ parse_postfixes k (suc n) (nameless b) rest
  first_nameless None k rest = refl
  first_nameless (Some is) k rest = ap (λ o. o then λ b. parse_postfixes k (suc n) (nameless b.0) b.1) (braces_in_reads (Some is) rest)

  -- the arguments of a form and what goes on with it
  arguments_then : (form : Arguments → Derivation) (ds : Arguments) (k j : ℕ) (ts rest : List Symbol) (go : Arguments → List Symbol → Read Derivation) → k ≡ j → height (form ds) ≡ 1 + greatest_height ds → AreWellFormed ds → go ds rest ≡ parse_postfixes k (suc n) (form ds) ts → (parse_arguments r (yield_arguments [] ds ++ rest) then λ y. go y.0 y.1) ≡ within (suc n) (height (form ds)) (parse_postfixes j (suc n) (form ds) ts)
  arguments_then form ds k j ts rest go e h w s =
      ap (λ o. o then λ y. go y.0 y.1) (arguments_reads ds rest w)
      ∙ within_then n (greatest_height ds) (Ok (ds, rest)) (λ y. go y.0 y.1)
      ∙ ap (within n (greatest_height ds)) (s ∙ ap (λ i. parse_postfixes i (suc n) (form ds) ts) e)
      ∙ within_suc n (greatest_height ds) (height (form ds)) (parse_postfixes j (suc n) (form ds) ts) h

  bases : (d : Derivation) (k j : ℕ) (rest : List Symbol) → k ≡ posts d + j → IsWellFormed d → IsBase d → EndsWord rest → parse_unary r k (suc n) (yield d ++ rest) ≡ within (suc n) (height d) (parse_postfixes j (suc n) d rest)
  bases (number t) k j rest e h b o = leaf (number t) k j rest (omega arith) refl
  bases (duration t) k j rest e h b o = leaf (duration t) k j rest (omega arith) refl
  bases (string t) k j rest e h b o = leaf (string t) k j rest (omega arith) refl
  bases (selector w t s) k j rest e h b o = first_named w t k s rest h o ∙ named_reads w t s k j rest (omega arith) h o
  bases (nameless s) k j rest e h b o = first_nameless s k rest ∙ leaf (nameless s) k j rest (omega arith) refl
  bases (paren d) k j rest e h b o =
      let f : k ≡ j = omega arith in
      ap (λ ts. r 0 ts then λ x. parse_paren_end k (suc n) x.0 x.1) (append_assoc (yield d) (punct kind.RightParen ∷ []) rest)
      ∙ ap (λ o. o then λ x. parse_paren_end k (suc n) x.0 x.1) (reads.by d 0 (punct kind.RightParen ∷ rest) h (root_zero d) tt tt)
      ∙ within_then n (height d) (Ok (d, punct kind.RightParen ∷ rest)) (λ x. parse_paren_end k (suc n) x.0 x.1)
      ∙ within_suc n (height d) (1 + height d) (parse_postfixes k (suc n) (paren d) rest) refl
      ∙ ap (λ i. within (suc n) (1 + height d) (parse_postfixes i (suc n) (paren d) rest)) f
  bases (call w t ds) k j rest e h b o = first_called w t k (yield_arguments [] ds ++ rest) h.0 ∙ arguments_then (call w t) ds k j rest rest (λ ds ts. parse_postfixes k (suc n) (call w t ds) ts) (omega arith) refl h.1 refl
  bases (aggregate op t None ds) k j rest e h b o =
      ap (λ ts. parse_arguments r ts then λ y. parse_grouping y.1 then λ c. parse_postfixes k (suc n) (aggregate op t c.0 y.0) c.1) (append_assoc (yield_arguments [] ds) [] rest)
      ∙ arguments_then (aggregate op t None) ds k j rest rest (λ ds ts. parse_grouping ts then λ c. parse_postfixes k (suc n) (aggregate op t c.0 ds) c.1) (omega arith) refl h.1 (ap (λ o. o then λ c. parse_postfixes k (suc n) (aggregate op t c.0 ds) c.1) (no_clause_at rest o))
  bases (aggregate op t (Some (false, g)) ds) k j rest e h b o =
      ap (λ ts. parse_arguments r ts then λ y. parse_grouping y.1 then λ c. parse_postfixes k (suc n) (aggregate op t c.0 y.0) c.1) (append_assoc (yield_arguments [] ds) (yield_grouping g) rest)
      ∙ arguments_then (aggregate op t (Some (false, g))) ds k j rest (yield_grouping g ++ rest) (λ ds ts. parse_grouping ts then λ c. parse_postfixes k (suc n) (aggregate op t c.0 ds) c.1) (omega arith) refl h.1 (ap (λ o. o then λ c. parse_postfixes k (suc n) (aggregate op t c.0 ds) c.1) (clause_after g rest (is_grouping g h.0)))
  bases (aggregate op t (Some (true, g)) ds) k j rest e h b o =
      ap (λ ts. parse_unary r k (suc n) (word (kind.Aggregator op) t ∷ ts)) (append_assoc (yield_grouping g) (punct kind.LeftParen ∷ (yield_arguments [] ds ++ [])) rest)
      ∙ first_grouped op t g k ((yield_arguments [] ds ++ []) ++ rest) (is_first_grouping g h.0)
      ∙ ap (λ ts. parse_arguments r ts then λ y. parse_postfixes k (suc n) (aggregate op t (Some (true, g)) y.0) y.1) (append_assoc (yield_arguments [] ds) [] rest)
      ∙ arguments_then (aggregate op t (Some (true, g))) ds k j rest rest (λ ds ts. parse_postfixes k (suc n) (aggregate op t (Some (true, g)) ds) ts) (omega arith) refl h.1 refl
  bases (postfixed d p) k j rest e h b o =
      let same : max (height d) (height (postfixed d p)) ≡ height (postfixed d p) = omega arith in
      ap (parse_unary r k (suc n)) (append_assoc (yield d) (yield_postfix p) rest)
      ∙ bases d k (suc j) (yield_postfix p ++ rest) (omega arith) h.0 h.1 (postfix_ends p rest)
      ∙ ap (λ o. within (suc n) (height d) (o then λ p. parse_more_postfixes (parse_postfixes j (suc n)) (suc n) d p.0 p.1)) (postfix_reads p rest)
      ∙ within_both (suc n) (height d) (height (postfixed d p)) (parse_postfixes j (suc n) (postfixed d p) rest)
      ∙ ap (λ i. within (suc n) i (parse_postfixes j (suc n) (postfixed d p) rest)) same
  bases (unary op t d) k j rest e h b o = absurd b
  bases (binary op t m x y) k j rest e h b o = absurd b

  base_climbs : (d : Derivation) (m j k l : ℕ) (rest : List Symbol) → k ≡ j → posts d ≤ l → IsWellFormed d → IsBase d → (o : ℕ) → Follows o rest → (parse_unary r l (suc n) (yield d ++ rest) then λ x. parse_operators r k n m x.0 x.1) ≡ within (suc n) (height d) (parse_operators r j n m d rest)
  base_climbs d m j k l rest e le h b o f =
      ap (λ o. o then λ x. parse_operators r k n m x.0 x.1) (bases d l (l - posts d) rest (omega arith) h b (follows_ends o rest f) ∙ ap (within (suc n) (height d)) (no_postfix (l - posts d) (suc n) d o rest f))
      ∙ within_then (suc n) (height d) (Ok (d, rest)) (λ x. parse_operators r k n m x.0 x.1)
      ∙ ap (λ i. within (suc n) (height d) (parse_operators r i n m d rest)) e

  -- the postfixes of the leftmost base
  abbrev left_posts : Derivation → ℕ
  left_posts (binary op t m a b) = left_posts a
  left_posts d = posts d

  climbs : (d : Derivation) (m j k l : ℕ) (rest : List Symbol) → k ≡ spine d + j → left_posts d ≤ l → IsWellFormed d → Root m d → Follows (openness d) rest → (parse_unary r l (suc n) (yield d ++ rest) then λ x. parse_operators r k n m x.0 x.1) ≡ within (suc n) (height d) (parse_operators r j n m d rest)
  climbs (unary op t d) m j k l rest e le h w f =
      let q = follows_sign (openness d) rest f in
      let same : k ≡ j = omega arith in
      let go : Derivation × List Symbol → Read Derivation = λ x. Ok (unary op t x.0, x.1) in
      ap (λ o. o then λ x. parse_operators r k n m x.0 x.1) (if_true (is_plus_or_minus op) _ _ h.0)
      ∙ ap (λ o. (o then go) then λ x. parse_operators r k n m x.0 x.1) (reads.by d 6 rest h.1 (root_sign d h.2) q.0 q.1)
      ∙ ap (λ o. o then λ x. parse_operators r k n m x.0 x.1) (within_then n (height d) (Ok (d, rest)) go)
      ∙ within_then n (height d) (Ok (unary op t d, rest)) (λ x. parse_operators r k n m x.0 x.1)
      ∙ ap (λ i. within n (height d) (parse_operators r i n m (unary op t d) rest)) same
      ∙ within_suc n (height d) (1 + height d) (parse_operators r j n m (unary op t d) rest) refl
  climbs (binary op t w a b) m j k l rest e le h q f =
      let g = follows_right op (openness b) rest f in
      let us = yield b ++ rest in
      ap (λ ts. parse_unary r l (suc n) ts then λ x. parse_operators r k n m x.0 x.1) (append_assoc (yield a) (word (kind.Operator op) t ∷ (yield_modifier w ++ yield b)) rest)
      ∙ climbs a m (suc j) k l (word (kind.Operator op) t ∷ ((yield_modifier w ++ yield b) ++ rest)) (omega arith) le h.0 (root_left m op a q h.3) h.3
      ∙ ap (within (suc n) (height a)) (sym (cond_above (precedence op) m (Ok (a, word (kind.Operator op) t ∷ ((yield_modifier w ++ yield b) ++ rest))) _ _ q refl)
      ∙ ap (λ ts. within n (height a) (parse_modifier ts then λ y. r (right_precedence op) y.1 then λ x. parse_operators r j n m (binary op t y.0 a x.0) x.1)) (append_assoc (yield_modifier w) (yield b) rest)
      ∙ ap (λ o. within n (height a) (o then λ y. r (right_precedence op) y.1 then λ x. parse_operators r j n m (binary op t y.0 a x.0) x.1)) (modifier_reads w us h.2 (begins_here b rest h.1) (fits_more w.1 w.2 (yield b) rest (ap begins (sym (append-nil (yield b))) ∙ begins_here b [] h.1) h.5))
      ∙ ap (λ o. within n (height a) (o then λ x. parse_operators r j n m (binary op t w a x.0) x.1)) (reads.by b (right_precedence op) rest h.1 (root_right op b h.4) g.0 g.1)
      ∙ ap (within n (height a)) (within_then n (height b) (Ok (b, rest)) (λ x. parse_operators r j n m (binary op t w a x.0) x.1)))
      ∙ within_three n (height a) (height b) (parse_operators r j n m (binary op t w a b) rest)
  climbs (number t) m j k l rest e le h w f = base_climbs (number t) m j k l rest (omega arith) le h tt 7 f
  climbs (duration t) m j k l rest e le h w f = base_climbs (duration t) m j k l rest (omega arith) le h tt 7 f
  climbs (string t) m j k l rest e le h w f = base_climbs (string t) m j k l rest (omega arith) le h tt 7 f
  climbs (selector x t s) m j k l rest e le h w f = base_climbs (selector x t s) m j k l rest (omega arith) le h tt 7 f
  climbs (nameless s) m j k l rest e le h w f = base_climbs (nameless s) m j k l rest (omega arith) le h tt 7 f
  climbs (paren d) m j k l rest e le h w f = base_climbs (paren d) m j k l rest (omega arith) le h tt 7 f
  climbs (call x t ds) m j k l rest e le h w f = base_climbs (call x t ds) m j k l rest (omega arith) le h tt 7 f
  climbs (aggregate op t c ds) m j k l rest e le h w f = base_climbs (aggregate op t c ds) m j k l rest (omega arith) le h tt 7 f
  climbs (postfixed d p) m j k l rest e le h w f = base_climbs (postfixed d p) m j k l rest (omega arith) le h tt 7 f

  spine_length : (d : Derivation) → spine d ≤ length (yield d)
  spine_length (binary op t m a b) = omega (arith, spine_length a, length-append (yield a) (word (kind.Operator op) t ∷ (yield_modifier m ++ yield b)))
  spine_length d = omega arith

  postfix_length : (p : Postfix) → 1 ≤ length (yield_postfix p)
  postfix_length (range t) = omega arith
  postfix_length (subquery t s) = omega arith
  postfix_length (at_number s t) = omega arith
  postfix_length (at_bound k t) = omega arith
  postfix_length (offset t s u) = omega arith
  postfix_length (mode k t) = omega arith

  posts_length : (d : Derivation) → posts d ≤ length (yield d)
  posts_length (postfixed d p) = omega (arith, posts_length d, postfix_length p, length-append (yield d) (yield_postfix p))
  posts_length d = omega arith

  left_posts_length : (d : Derivation) → left_posts d ≤ length (yield d)
  left_posts_length (binary op t m a b) = omega (arith, left_posts_length a, length-append (yield a) (word (kind.Operator op) t ∷ (yield_modifier m ++ yield b)))
  left_posts_length d = posts_length d

  next_reads : (d : Derivation) (m : ℕ) (rest : List Symbol) → IsWellFormed d → Root m d → Follows (openness d) rest → Stops m rest → (parse_unary r (length (yield d ++ rest)) (suc n) (yield d ++ rest) then λ x. parse_operators r (length (yield d ++ rest)) n m x.0 x.1) ≡ within (suc n) (height d) (Ok (d, rest))
  next_reads d m rest h w f s =
      let k = length (yield d ++ rest) in
      let j = k - spine d in
      climbs d m j k k rest (omega (arith, spine_length d, length-append (yield d) rest)) (omega (arith, left_posts_length d, length-append (yield d) rest)) h w f
      ∙ ap (within (suc n) (height d)) (stops r j n m d rest s)

pub tall : (d : Derivation) → 0 < height d
tall (postfixed d p) = omega (arith, tall d)
tall d = omega arith

pub expression_reads : (n : ℕ) → Reads (parse_expression n) n
unfolding parse_expression
expression_reads zero = record { by = λ d m rest h w f s. sym (within_high zero (height d) (Ok (d, rest)) (tall d)) }
expression_reads (suc n) = record { by = λ d m rest h w f s. next_reads (parse_expression n) n (expression_reads n) d m rest h w f s }
