-- The grammar of `regex` reads the counts of plain patterns.
use Rattle.std.proofs.Common.{◌≡◌, ◌⊎◌, ℕ, zero, suc, ◌+◌, ◌*◌, ◌^◌, ◌<◌, ◌≤◌, Bool, true, false, ◌==◌, [], ◌∷◌, ◌++◌, length, length-append, append_assoc, Option, Some, None, nat_lt, nat_le, fold, unwrap_or, refl, sym, ap, ◌∙◌, subst, inl, inr, ⊎_elim, arith, true≢false}
use Rattle.std.proofs.lemmas.Bool.{and_from, and_parts, le-leb, leb-true, lt-ltb}
use Rattle.std.proofs.lemmas.Bool.Decides.{nat_tests}
use Rattle.std.specs.Char.{digit_value, is_ascii_digit, is_digit, is_whitespace}
use Rattle.std.specs.List.{list_all}
use Rattle.regex_syntax.proofs.Written.{grammar}
use Rattle.regex_syntax.specs.Grammar.{counted_bounds, upper_bound}
use Rattle.regex_syntax.specs.Reading.{decimal, first, skip, take_up_to}
use Rattle.regex.specs.Patterns.{default_config}
use Rattle.promql_text.specs.Texts.{Text}
use Rattle.promql_label.specs.declared.plain.After.{After}
use Rattle.promql_label.specs.declared.plain.After.TheVariants as after
use Rattle.promql_label.specs.PlainPatterns.{digit_of}
use Rattle.promql_label.proofs.plain_patterns.PlainAtoms.{not_empty}
use Rattle.promql_label.proofs.plain_patterns.PlainScans.{CountEnds, Plain, brace_goes_on, comma_goes_on, least_goes_on, most_goes_on}

-- ---- numbers

abbrev is_decimal : ℕ → Bool
is_decimal b = is_digit b 10

-- the number that digits write after n
abbrev number_after : ℕ → Text → ℕ
number_after n ds = fold (λ n d. n * 10 + digit_value d) n ds

digit_is_decimal : (d : ℕ) → is_ascii_digit d ≡ true → is_decimal d ≡ true
digit_is_decimal d h = grind (arith, nat_tests)

digit_value_is : (d : ℕ) → is_ascii_digit d ≡ true → digit_value d ≡ digit_of d
digit_value_is d h = grind (arith, nat_tests)

digit_below_ten : (d : ℕ) → is_ascii_digit d ≡ true → digit_of d < 10
digit_below_ten d h = grind (arith, nat_tests)

digit_is_no_white : (d : ℕ) → is_ascii_digit d ≡ true → is_whitespace d ≡ false
digit_is_no_white d h = grind (arith, nat_tests)

-- a byte that ends a number
record Ends (x : ℕ) : Type 0 where
  no_digit : is_decimal x ≡ false
  no_white : is_whitespace x ≡ false

comma_ends : Ends 44
comma_ends = record { no_digit = refl; no_white = refl }

brace_ends : Ends 125
brace_ends = record { no_digit = refl; no_white = refl }

digits_are_taken : (k : ℕ) (ds : Text) (x : ℕ) (w : Text) → length ds ≤ k → list_all is_ascii_digit ds ≡ true → Ends x
    → take_up_to false k is_decimal (ds ++ x ∷ w) ≡ (ds, x ∷ w)
unfolding grammar
digits_are_taken zero [] x w le all ends = refl
digits_are_taken zero (d ∷ ds) x w le all ends = absurd (omega (arith, le))
digits_are_taken (suc k) [] x w le all ends = rw ends.no_digit refl
digits_are_taken (suc k) (d ∷ ds) x w le all ends =
    let (one, rest) = and_parts (is_ascii_digit d) (list_all is_ascii_digit ds) all in
    rw (digit_is_decimal d one, digits_are_taken k ds x w (omega (arith, le)) rest ends) refl

-- the number that these digits write is read, up to what ends it
decimal_is_read : (d : ℕ) (ds : Text) (x : ℕ) (w : Text) → is_ascii_digit d ≡ true → list_all is_ascii_digit ds ≡ true → Ends x → number_after (digit_of d) ds < 1000
    → decimal false (d ∷ (ds ++ x ∷ w)) ≡ Some (number_after (digit_of d) ds, x ∷ w)
unfolding grammar
decimal_is_read d ds x w one all ends small =
    let first_digit : 0 * 10 + digit_value d ≡ digit_of d = omega (arith, digit_value_is d one) in
    let fits : nat_lt (number_after (digit_of d) ds) (2 ^ 32) ≡ true = lt-ltb (number_after (digit_of d) ds) (2 ^ 32) (omega (arith, small)) in
    let taken : take_up_to false (length (ds ++ x ∷ w)) is_decimal (ds ++ x ∷ w) ≡ (ds, x ∷ w) = digits_are_taken (length (ds ++ x ∷ w)) ds x w (omega (arith, length-append ds (x ∷ w))) all ends in
    rw (digit_is_no_white d one, digit_is_decimal d one, taken, not_empty d ds, first_digit, fits, ends.no_white) refl

-- ---- what a scan says of a number

-- digits after n, and what ends them; `Done` holds of the number, that byte and the text after it
record Number (Done : ℕ → ℕ → Text → Type 0) (n : ℕ) (t : Text) : Type 0 where
  digits : Text
  mark : ℕ
  rest : Text
  is : t ≡ digits ++ mark ∷ rest
  all : list_all is_ascii_digit digits ≡ true
  small : number_after n digits < 1000
  ends : Ends mark
  done : Done (number_after n digits) mark rest

module _ (o c f : ℕ) (mk : ℕ → After) (Done : ℕ → ℕ → Text → Type 0)
    (step : (n b : ℕ) (z : Text) → Plain o c f (mk n) (b ∷ z)
    → (Ends b × Done n b z) ⊎ ((is_ascii_digit b ≡ true) × (n < 100) × Plain o c f (mk (10 * n + digit_of b)) z))
    (unended : (n : ℕ) → Plain o c f (mk n) [] → ⊥) where
  number_of : (n : ℕ) (t : Text) → n < 1000 → Plain o c f (mk n) t → Number Done n t
  number_of n [] small plain = absurd (unended n plain)
  number_of n (b ∷ z) small plain = ⊎_elim
      (λ end. record { digits = []; mark = b; rest = z; is = refl; all = refl; small = small; ends = end.0; done = end.1 })
      (λ more.
      let below : 10 * n + digit_of b < 1000 = omega (arith, more.1, digit_below_ten b more.0) in
      with_digit more.0 (number_of (10 * n + digit_of b) z below more.2))
      (step n b z plain)
    where
      with_digit : is_ascii_digit b ≡ true → Number Done (10 * n + digit_of b) z → Number Done n (b ∷ z)
      with_digit one number =
          let same : number_after (10 * n + digit_of b) number.digits ≡ number_after n (b ∷ number.digits) =
          ap (λ k. number_after k number.digits) {x = 10 * n + digit_of b} {y = n * 10 + digit_value b} (omega (arith, digit_value_is b one)) in
          record {
            digits = b ∷ number.digits;
            mark = number.mark;
            rest = number.rest;
            is = ap (λ t. b ∷ t) number.is;
            all = and_from (is_ascii_digit b) _ one number.all;
            small = subst (λ k. k < 1000) same number.small;
            ends = number.ends;
            done = subst (λ k. Done k number.mark number.rest) same number.done;
          }

-- ---- a count

module _ (r : Text) (o c f : ℕ) where
  -- a count is read from after its brace up to a text that goes on after a repetition
  pub record CountRead (most : ℕ) (t : Text) : Type 0 where
    pub least : ℕ
    pub greatest : Option ℕ
    pub rest : Text
    pub left : ℕ
    pub is : counted_bounds default_config t ≡ Some (least, greatest, rest ++ r)
    pub repeats : f ≡ (1 + unwrap_or greatest least) * left
    pub rising : least ≤ unwrap_or greatest least
    pub plain : Plain o c left after.Repetition rest
    pub short : length rest ≤ most

  DoneMost : ℕ → ℕ → ℕ → Text → Type 0
  DoneMost least n x z = (x ≡ 125) × (nat_le least n ≡ true) × CountEnds o c f n after.Repetition z

  DoneLeast : ℕ → ℕ → Text → Type 0
  DoneLeast n x z = ((x ≡ 125) × CountEnds o c f n after.Repetition z) ⊎ ((x ≡ 44) × Plain o c f (after.Comma n) z)

  most_number : (least n : ℕ) (t : Text) → n < 1000 → Plain o c f (after.Most least n) t → Number (DoneMost least) n t
  unfolding DoneMost
  most_number least = number_of o c f (after.Most least) (DoneMost least)
      (λ n b z plain. ⊎_elim (λ end. inl (subst Ends (sym end.0) brace_ends, (end.0, end.1, end.2))) (λ more. inr more) (most_goes_on o c f least n b z plain))
      (λ n plain. true≢false (sym plain.0))

  least_number : (n : ℕ) (t : Text) → n < 1000 → Plain o c f (after.Least n) t → Number DoneLeast n t
  unfolding DoneLeast
  least_number = number_of o c f after.Least DoneLeast
      (λ n b z plain. ⊎_elim
      (λ end. inl (subst Ends (sym end.0) brace_ends, inl (end.0, end.1)))
      (λ other. ⊎_elim
      (λ comma. inl (subst Ends (sym comma.0) comma_ends, inr (comma.0, comma.1)))
      (λ more. inr more)
      other)
      (least_goes_on o c f n b z plain))
      (λ n plain. true≢false (sym plain.0))

  -- the digits of a number and what follows, before r
  split : (digits rest t : Text) (x : ℕ) → t ≡ digits ++ x ∷ rest → t ++ r ≡ digits ++ x ∷ (rest ++ r)
  split digits rest t x is = ap (λ t. t ++ r) is ∙ append_assoc digits (x ∷ rest) r

  two_numbers : (d e : ℕ) (ds es w : Text) → is_ascii_digit d ≡ true → list_all is_ascii_digit ds ≡ true → number_after (digit_of d) ds < 1000
      → is_ascii_digit e ≡ true → list_all is_ascii_digit es ≡ true → number_after (digit_of e) es < 1000
      → (e == 125) ≡ false → nat_le (number_after (digit_of d) ds) (number_after (digit_of e) es) ≡ true
      → counted_bounds default_config (d ∷ (ds ++ 44 ∷ e ∷ (es ++ 125 ∷ w))) ≡ Some (number_after (digit_of d) ds, Some (number_after (digit_of e) es), w)
  unfolding counted_bounds upper_bound first skip
  two_numbers d e ds es w one all small next_one next_all next_small no_brace rising =
      rw (decimal_is_read d ds 44 (e ∷ (es ++ 125 ∷ w)) one all comma_ends small, no_brace, decimal_is_read e es 125 w next_one next_all brace_ends next_small, rising) refl

  least_alone : (d : ℕ) (ds w : Text) → is_ascii_digit d ≡ true → list_all is_ascii_digit ds ≡ true → number_after (digit_of d) ds < 1000
      → counted_bounds default_config (d ∷ (ds ++ 44 ∷ 125 ∷ w)) ≡ Some (number_after (digit_of d) ds, None, w)
  unfolding counted_bounds upper_bound first skip
  least_alone d ds w one all small = rw (decimal_is_read d ds 44 (125 ∷ w) one all comma_ends small) refl

  exact : (d : ℕ) (ds w : Text) → is_ascii_digit d ≡ true → list_all is_ascii_digit ds ≡ true → number_after (digit_of d) ds < 1000
      → counted_bounds default_config (d ∷ (ds ++ 125 ∷ w)) ≡ Some (number_after (digit_of d) ds, Some (number_after (digit_of d) ds), w)
  unfolding counted_bounds upper_bound first skip
  exact d ds w one all small =
      let same : nat_le (number_after (digit_of d) ds) (number_after (digit_of d) ds) ≡ true = le-leb _ _ (omega arith) in
      rw (decimal_is_read d ds 125 w one all brace_ends small, same) refl

  module _ (d : ℕ) (ds : Text) (one : is_ascii_digit d ≡ true) (all : list_all is_ascii_digit ds ≡ true) (small : number_after (digit_of d) ds < 1000) where
    least : ℕ
    least = number_after (digit_of d) ds

    after_comma_next : (y : Text) → Plain o c f (after.Comma least) y → CountRead (length y) (d ∷ (ds ++ 44 ∷ (y ++ r)))
    unfolding least DoneMost
    after_comma_next [] plain = absurd (true≢false (sym plain.0))
    after_comma_next (e ∷ y) plain = ⊎_elim
        (λ end. subst (λ e. CountRead (length (e ∷ y)) (d ∷ (ds ++ 44 ∷ e ∷ (y ++ r)))) (sym end.0)
        (record { least = least; greatest = None; rest = y; left = end.1.left; is = least_alone d ds (y ++ r) one all small; repeats = end.1.is; rising = omega arith; plain = end.1.plain; short = omega arith }))
        (λ digit.
        let number = most_number least (digit_of e) y (omega (arith, digit_below_ten e digit.1)) digit.2 in
        record {
          least = least;
          greatest = Some (number_after (digit_of e) number.digits);
          rest = number.rest;
          left = number.done.2.left;
          is = ap (λ t. counted_bounds default_config (d ∷ (ds ++ 44 ∷ e ∷ t))) (split number.digits number.rest y number.mark number.is)
              ∙ ap (λ x. counted_bounds default_config (d ∷ (ds ++ 44 ∷ e ∷ (number.digits ++ x ∷ (number.rest ++ r))))) number.done.0
              ∙ two_numbers d e ds number.digits (number.rest ++ r) one all small digit.1 number.all number.small digit.0 number.done.1;
          repeats = number.done.2.is;
          rising = leb-true least (number_after (digit_of e) number.digits) number.done.1;
          plain = number.done.2.plain;
          short = omega (arith, ap length number.is, length-append number.digits (number.mark ∷ number.rest));
        })
        (comma_goes_on o c f least e y plain)

  pub count_is_read : (y : Text) → Plain o c f after.Brace y → CountRead (length y) (y ++ r)
  unfolding DoneLeast least
  count_is_read [] plain = absurd (true≢false (sym plain.0))
  count_is_read (d ∷ y) plain =
      let (one, inside) = brace_goes_on o c f d y plain in
      from_number one (least_number (digit_of d) y (omega (arith, digit_below_ten d one)) inside)
    where
      from_number : is_ascii_digit d ≡ true → Number DoneLeast (digit_of d) y → CountRead (length (d ∷ y)) (d ∷ (y ++ r))
      from_number one number = subst (λ t. CountRead (length (d ∷ y)) (d ∷ t)) (sym (split number.digits number.rest y number.mark number.is)) (⊎_elim
          (λ end. subst (λ x. CountRead (length (d ∷ y)) (d ∷ (number.digits ++ x ∷ (number.rest ++ r)))) (sym end.0) (record {
            least = number_after (digit_of d) number.digits;
            greatest = Some (number_after (digit_of d) number.digits);
            rest = number.rest;
            left = end.1.left;
            is = exact d number.digits (number.rest ++ r) one number.all number.small;
            repeats = end.1.is;
            rising = omega arith;
            plain = end.1.plain;
            short = shorter;
          }))
          (λ comma. subst (λ x. CountRead (length (d ∷ y)) (d ∷ (number.digits ++ x ∷ (number.rest ++ r)))) (sym comma.0)
          (longer (after_comma_next d number.digits one number.all number.small number.rest comma.1)))
          number.done)
        where
          shorter : length number.rest ≤ length (d ∷ y)
          shorter = omega (arith, ap length number.is, length-append number.digits (number.mark ∷ number.rest))

          longer : {t : Text} → CountRead (length number.rest) t → CountRead (length (d ∷ y)) t
          longer read = record { least = read.least; greatest = read.greatest; rest = read.rest; left = read.left; is = read.is; repeats = read.repeats; rising = read.rising; plain = read.plain; short = omega (arith, shorter, read.short) }
