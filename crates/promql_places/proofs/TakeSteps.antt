-- What is taken of tokens, one part after the other.
use Rattle.std.proofs.Common.{◌≡◌, ℕ, ◌-◌, ◌≤◌, ◌<◌, Bool, true, false, List, [], ◌∷◌, ◌++◌, refl, sym, ap, subst, ◌∙◌, arith, append_assoc, append-nil, drop, length, length-append, map, take}
use Rattle.std.specs.Prelude.{if◌then◌else◌}
use Rattle.std.proofs.lemmas.List.{length-map}
use Rattle.std.proofs.Math.Seq.{drop-append_seam, take-append_seam}
use Rattle.promql_text.specs.Texts.{Text}
use Rattle.promql_grammar.specs.declared.token_kinds.TokenKind.{TokenKind}
use Rattle.promql_grammar.specs.declared.token_kinds.TokenKind.TheVariants as kind
use Rattle.promql_span.specs.PlacedTokens.{last_tokens, placed_tokens}
use Rattle.promql_span.specs.declared.span.Span.{Span}
use Rattle.promql_places.specs.CursorTokens.{IsOver, Moved, first_start, kinds_left, last_end, lexeme_kind, lexemes_left, span_in}
use Rattle.promql_places.specs.PartSteps.{Step, Taken, Takes, also, and_then, in_item, item, items, part_in, shift, shift_bound, shift_kind, shift_value, shifts}
use Rattle.promql_places.specs.Skipping.{ends_list, front, is_bound_word, is_closing, is_mode, is_separator, is_shift, is_shift_word, is_sign, skip_brackets, skip_item, skip_moment, skip_separator, skip_shift, skip_signs, skip_value}
use Rattle.promql_places.specs.declared.parts.Part.{Part}
use Rattle.promql_places.specs.declared.parts.PartKind.{PartKind}
use Rattle.promql_places.specs.declared.parts.PartKind.TheVariants as part
use Rattle.promql_places.specs.declared.token_cursor.TokenCursor.{TokenCursor}

-- ---- what is skipped is not longer

choice : (b : Bool) (xs ys : List TokenKind) (n : ℕ) → length xs ≤ n → length ys ≤ n → length (if b then xs else ys) ≤ n
choice true xs ys n h k = h
choice false xs ys n h k = k

signs_shorter : (ks : List TokenKind) → length (skip_signs ks) ≤ length ks
signs_shorter [] = omega arith
signs_shorter (k ∷ ks) = let more = signs_shorter ks in choice (is_sign k) (skip_signs ks) (k ∷ ks) (length (k ∷ ks)) (omega arith) (omega arith)

brackets_shorter : (ks : List TokenKind) → length (skip_brackets ks) ≤ length ks
brackets_shorter [] = omega arith
brackets_shorter (k ∷ ks) = let more = brackets_shorter ks in choice (is_closing k) ks (skip_brackets ks) (length (k ∷ ks)) (omega arith) (omega arith)

moment_shorter : (ks : List TokenKind) → length (skip_moment ks) ≤ length ks
moment_shorter [] = omega arith
moment_shorter (k ∷ ks) = choice (is_bound_word k) (skip_brackets (k ∷ ks)) ks (length (k ∷ ks)) (brackets_shorter (k ∷ ks)) (omega arith)

value_shorter : (ks : List TokenKind) → length (skip_value ks) ≤ length ks
value_shorter ks = let a = signs_shorter ks in let b = moment_shorter (skip_signs ks) in omega arith

pub shift_shorter : (ks : List TokenKind) → is_shift (front ks) ≡ true → length (skip_shift ks) < length ks
shift_shorter [] h = cc
shift_shorter (k ∷ ks) h =
    let a = value_shorter ks in
    let b = choice (is_shift_word k) (skip_value ks) ks (length ks) (omega arith) (omega arith) in
    omega arith

item_shorter : (ks : List TokenKind) → length (skip_item ks) ≤ length ks
item_shorter [] = omega arith
item_shorter (k ∷ ks) =
    let more = item_shorter ks in
    choice (is_closing k) (k ∷ ks) (if is_separator k then k ∷ ks else skip_item ks) (length (k ∷ ks)) (omega arith) (choice (is_separator k) (k ∷ ks) (skip_item ks) (length (k ∷ ks)) (omega arith) (omega arith))

separator_shorter : (ks : List TokenKind) → length (skip_separator ks) ≤ length ks
separator_shorter [] = omega arith
separator_shorter (k ∷ ks) = choice (is_separator k) ks (k ∷ ks) (length (k ∷ ks)) (omega arith) (omega arith)

pub one_shorter : (p : PartKind) (ks : List TokenKind) → ends_list ks ≡ false → length (item p ks).1 < length ks
one_shorter p [] h = cc
one_shorter p (k ∷ ks) h = let a = item_shorter ks in let b = separator_shorter (skip_item ks) in omega arith

-- ---- the rest is taken in the same way

-- a shift that ends here
abbrev ended : PartKind → ℕ → Step
ended p n ks = also (p, (n, length ks)) (shifts ks)

closed_or_not : (b : Bool) (p : PartKind) (n : ℕ) (ks : List TokenKind) → ended p n (skip_brackets ks) ≡ shift_bound p n ks → ended p n (if b then ks else skip_brackets ks) ≡ (if b then ended p n ks else shift_bound p n ks)
closed_or_not true p n ks h = refl
closed_or_not false p n ks h = h

after_brackets : (p : PartKind) (n : ℕ) (ks : List TokenKind) → ended p n (skip_brackets ks) ≡ shift_bound p n ks
after_brackets p n [] = refl
after_brackets p n (k ∷ ks) = closed_or_not (is_closing k) p n ks (after_brackets p n ks)

bound_open : (k : TokenKind) → is_bound_word k ≡ true → is_closing k ≡ false
bound_open kind.Start h = refl
bound_open kind.End h = refl
bound_open k h = cc

after_moment : (p : PartKind) (n : ℕ) (k : TokenKind) (ks : List TokenKind) → ended p n (skip_moment (k ∷ ks)) ≡ (if is_bound_word k then shift_bound p n ks else ended p n ks)
after_moment p n k ks = by (is_bound_word k) refl
  where
    by : (b : Bool) → is_bound_word k ≡ b → ended p n (if b then skip_brackets (k ∷ ks) else ks) ≡ (if b then shift_bound p n ks else ended p n ks)
    by true h = ap (λ (c : Bool). ended p n (if c then ks else skip_brackets ks)) (bound_open k h) ∙ after_brackets p n ks
    by false h = refl

signed_or_not : (b : Bool) (p : PartKind) (n : ℕ) (k : TokenKind) (ks : List TokenKind) → ended p n (skip_value ks) ≡ shift_value p n ks
    → ended p n (skip_moment (if b then skip_signs ks else k ∷ ks)) ≡ (if b then shift_value p n ks else if is_bound_word k then shift_bound p n ks else ended p n ks)
signed_or_not true p n k ks h = h
signed_or_not false p n k ks h = after_moment p n k ks

after_value : (p : PartKind) (n : ℕ) (ks : List TokenKind) → ended p n (skip_value ks) ≡ shift_value p n ks
after_value p n [] = refl
after_value p n (k ∷ ks) = signed_or_not (is_sign k) p n k ks (after_value p n ks)

mode_kind : (k : TokenKind) → is_mode k ≡ true → shift_kind k ≡ part.Mode
mode_kind kind.Smoothed h = refl
mode_kind kind.Anchored h = refl
mode_kind k h = cc

pub shift_first : (ks : List TokenKind) → is_shift (front ks) ≡ true → shifts ks ≡ and_then (shift ks) shifts
shift_first [] h = cc
shift_first (k ∷ ks) h = by (is_shift_word k) (is_mode k) refl h
  where
    by : (b m : Bool) → is_mode k ≡ m → (if b then true else m) ≡ true → (if b then shift_value (shift_kind k) (length (k ∷ ks)) ks else if m then also (part.Mode, (length (k ∷ ks), length ks)) (shifts ks) else ([], k ∷ ks)) ≡ ended (shift_kind k) (length (k ∷ ks)) (if b then skip_value ks else ks)
    by true m e h = sym (after_value (shift_kind k) (length (k ∷ ks)) ks)
    by false true e h = ap (λ p. ended p (length (k ∷ ks)) ks) (sym (mode_kind k e))
    by false false e h = cc

pub no_shift : (ks : List TokenKind) → is_shift (front ks) ≡ false → shifts ks ≡ ([], ks)
no_shift [] h = refl
no_shift (kind.At ∷ ks) h = cc
no_shift (kind.Offset ∷ ks) h = cc
no_shift (kind.Smoothed ∷ ks) h = cc
no_shift (kind.Anchored ∷ ks) h = cc
no_shift (k ∷ ks) h = refl

closing_no_separator : (k : TokenKind) → is_closing k ≡ true → is_separator k ≡ false
closing_no_separator kind.RightParen h = refl
closing_no_separator kind.RightBrace h = refl
closing_no_separator kind.RightBracket h = refl
closing_no_separator k h = cc

-- a part of a list that ends here
abbrev listed : PartKind → ℕ → Step
listed p n ks = also (p, (n, length ks)) (items p (skip_separator ks))

in_item_first : (p : PartKind) (n : ℕ) (ks : List TokenKind) → in_item p n ks ≡ listed p n (skip_item ks)
in_item_first p n [] = refl
in_item_first p n (k ∷ ks) = by (is_closing k) (is_separator k) refl refl (in_item_first p n ks)
  where
    by : (c s : Bool) → is_closing k ≡ c → is_separator k ≡ s → in_item p n ks ≡ listed p n (skip_item ks)
        → (if c then ((p, (n, length (k ∷ ks))) ∷ [], ks) else if s then also (p, (n, length (k ∷ ks))) (items p ks) else in_item p n ks) ≡ listed p n (if c then k ∷ ks else if s then k ∷ ks else skip_item ks)
    by true s c_is s_is more =
        sym (ap (λ (b : Bool). also (p, (n, length (k ∷ ks))) (items p (if b then ks else k ∷ ks))) (closing_no_separator k c_is)
        ∙ ap (λ (b : Bool). also (p, (n, length (k ∷ ks))) (if b then ([], ks) else in_item p (length (k ∷ ks)) ks)) c_is)
    by false true c_is s_is more = sym (ap (λ (b : Bool). also (p, (n, length (k ∷ ks))) (items p (if b then ks else k ∷ ks))) s_is)
    by false false c_is s_is more = more

pub item_first : (p : PartKind) (ks : List TokenKind) → ends_list ks ≡ false → items p ks ≡ and_then (item p ks) (items p)
item_first p [] h = cc
item_first p (k ∷ ks) h = ap (λ (b : Bool). (if b then ([], ks) else in_item p (length (k ∷ ks)) ks)) h ∙ in_item_first p (length (k ∷ ks)) ks

pub no_item : (p : PartKind) (ks : List TokenKind) → ends_list ks ≡ true → items p ks ≡ ([], drop 1 ks)
no_item p [] h = refl
no_item p (k ∷ ks) h = ap (λ (b : Bool). (if b then ([], ks) else in_item p (length (k ∷ ks)) ks)) h

-- ---- places

-- from the first token before to the last one after
pub span_between : (s : Text) (old new : TokenCursor) → IsOver s old → IsOver s new → (let span : Span = record { start = first_start (lexemes_left old); end = new.end } in span) ≡ span_in s (length (kinds_left old), length (kinds_left new))
span_between s old new before after =
    let one : length (placed_tokens s) - length (kinds_left old) ≡ length before.before = omega (arith, ap length before.all, length-append before.before (lexemes_left old), length-map (lexemes_left old) lexeme_kind) in
    let two : length (placed_tokens s) - length (kinds_left new) ≡ length after.before = omega (arith, ap length after.all, length-append after.before (lexemes_left new), length-map (lexemes_left new) lexeme_kind) in
    let left : last_tokens (length (kinds_left old)) (placed_tokens s) ≡ lexemes_left old = ap (λ n. drop n (placed_tokens s)) one ∙ ap (drop (length before.before)) before.all ∙ drop-append_seam before.before (lexemes_left old) in
    let gone : take (length (placed_tokens s) - length (kinds_left new)) (placed_tokens s) ≡ after.before = ap (λ n. take n (placed_tokens s)) two ∙ ap (take (length after.before)) after.all ∙ take-append_seam after.before (lexemes_left new) in
    λ i. record { start = first_start (sym left i); end = (after.ends ∙ ap last_end (sym gone)) i }

-- ---- one after the other

pub map_joined : {A B : Type 0} (f : A → B) (xs ys : List A) → map f (xs ++ ys) ≡ map f xs ++ map f ys
map_joined f [] ys = refl
map_joined f (x ∷ xs) ys = ap (λ l. f x ∷ l) (map_joined f xs ys)

pub takes_none : (c : TokenCursor) (had : List Part) → Takes ([], kinds_left c) c c had had
takes_none c had = record { to = refl; over = λ s over. over; parts = λ s over. sym (append-nil had) }

pub takes_then : (r : Taken) (more : Step) (a b c : TokenCursor) (had mid has : List Part) → Takes r a b had mid → Takes (more (kinds_left b)) b c mid has → Takes (and_then r more) a c had has
takes_then r more a b c had mid has first second =
    let next : Takes (more r.1) b c mid has = subst (λ ks. Takes (more ks) b c mid has) first.to second in
    record {
      to = next.to;
      over = λ s over. next.over s (first.over s over);
      parts = λ s over.
          next.parts s (first.over s over)
          ∙ ap (λ l. l ++ map (part_in s) (more r.1).0) (first.parts s over)
          ∙ append_assoc had (map (part_in s) r.0) (map (part_in s) (more r.1).0)
          ∙ ap (λ l. had ++ l) (sym (map_joined (part_in s) r.0 (more r.1).0));
    }

pub takes_after : (ks : List TokenKind) (more : Step) (a b c : TokenCursor) (had has : List Part) → Moved ks a b → Takes (more (kinds_left b)) b c had has → Takes (more ks) a c had has
takes_after ks more a b c had has moved second =
    let next : Takes (more ks) b c had has = subst (λ js. Takes (more js) b c had has) moved.to second in
    record { to = next.to; over = λ s over. next.over s (moved.over s over); parts = λ s over. next.parts s (moved.over s over) }

pub takes_skip : (r : Taken) (skip : List TokenKind → List TokenKind) (a b c : TokenCursor) (had has : List Part) → Takes r a b had has → Moved (skip (kinds_left b)) b c → Takes (r.0, skip r.1) a c had has
takes_skip r skip a b c had has first moved = record {
  to = moved.to ∙ ap skip first.to;
  over = λ s over. moved.over s (first.over s over);
  parts = first.parts;
}

pub takes_part : (p : PartKind) (ks : List TokenKind) (a b : TokenCursor) (had has : List Part) → Moved ks a b
    → has ≡ had ++ record { kind = p; span = record { start = first_start (lexemes_left a); end = b.end } } ∷ [] → Takes ((p, (length (kinds_left a), length ks)) ∷ [], ks) a b had has
takes_part p ks a b had has moved added = record {
  to = moved.to;
  over = moved.over;
  parts = λ s over. added ∙ ap (λ (x : Span). had ++ record { kind = p; span = x } ∷ []) (span_between s a b over (moved.over s over) ∙ ap (λ js. span_in s (length (kinds_left a), length js)) moved.to);
}

-- a part that has those before it
pub takes_whole : (p : PartKind) (r : Taken) (a b : TokenCursor) (had mid has : List Part) → Takes r a b had mid
    → has ≡ mid ++ record { kind = p; span = record { start = first_start (lexemes_left a); end = b.end } } ∷ [] → Takes (r.0 ++ (p, (length (kinds_left a), length r.1)) ∷ [], r.1) a b had has
takes_whole p r a b had mid has taken added = record {
  to = taken.to;
  over = taken.over;
  parts = λ s over.
      added
      ∙ ap (λ (x : Span). mid ++ record { kind = p; span = x } ∷ []) (span_between s a b over (taken.over s over) ∙ ap (λ js. span_in s (length (kinds_left a), length js)) taken.to)
      ∙ ap (λ l. l ++ part_in s (p, (length (kinds_left a), length r.1)) ∷ []) (taken.parts s over)
      ∙ append_assoc had (map (part_in s) r.0) (part_in s (p, (length (kinds_left a), length r.1)) ∷ [])
      ∙ ap (λ l. had ++ l) (sym (map_joined (part_in s) r.0 ((p, (length (kinds_left a), length r.1)) ∷ [])));
}

pub moved_then : (ks : List TokenKind) (skip : List TokenKind → List TokenKind) (a b c : TokenCursor) → Moved ks a b → Moved (skip (kinds_left b)) b c → Moved (skip ks) a c
moved_then ks skip a b c first second = record { to = second.to ∙ ap skip first.to; over = λ s over. second.over s (first.over s over) }

-- one start is the other
pub added_from : (p : PartKind) (x y e : ℕ) (had has : List Part) → x ≡ y → has ≡ had ++ record { kind = p; span = record { start = x; end = e } } ∷ [] → has ≡ had ++ record { kind = p; span = record { start = y; end = e } } ∷ []
added_from p x y e had has same added = added ∙ ap (λ n. had ++ record { kind = p; span = record { start = n; end = e } } ∷ []) same

pub takes_as : (r q : Taken) (a b : TokenCursor) (had has : List Part) → r ≡ q → Takes r a b had has → Takes q a b had has
takes_as r q a b had has same = subst (λ x. Takes x a b had has) same

-- where the rest is taken, all is
abbrev pub TakesAsAll : Step → TokenCursor → TokenCursor → List Part → List Part → Type 0
TakesAsAll step first now had has = (last : TokenCursor) (all : List Part) → Takes (step (kinds_left now)) now last has all → Takes (step (kinds_left first)) first last had all

pub takes_one : (step one : Step) (first now next : TokenCursor) (had has more : List Part) → step (kinds_left now) ≡ and_then (one (kinds_left now)) step
    → Takes (one (kinds_left now)) now next has more → TakesAsAll step first now had has → TakesAsAll step first next had more
takes_one step one first now next had has more same taken all = λ last end rest.
    all last end (takes_as _ _ now last has end (sym same) (takes_then (one (kinds_left now)) step now next last has more end taken rest))
