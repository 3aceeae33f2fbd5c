-- What a derivation and the derivation of its tree's text have in common, node by node.
use Rattle.std.proofs.Common.{◌≡◌, inl, inr, ℕ, ◌<◌, ◌≤◌, refl, subst, arith, Bool, true, false, cond, Option, Some, None}
use Rattle.std.specs.Prelude.{Ok, option_map}
use Rattle.std.specs.Int.{is_negative}
use Rattle.promql_text.specs.Texts.{Text}
use Rattle.promql_grammar.specs.Grammar as grammar
use Rattle.promql_grammar.specs.Grammar.{Derivation, Arguments, IsWellFormed, AreWellFormed, IsBase, height, greatest_height, openness, added_height, precedence}
use Rattle.promql_grammar.specs.GrammarParts as part
use Rattle.promql_grammar.specs.Parsing.{right_precedence}
use Rattle.promql_grammar.proofs.Precedences.{Root, band, Band, root_base}
use Rattle.promql_label.specs.Answers.{Answer}
use Rattle.promql_label.specs.PlainMatchers.{PlainMatchers}
use Rattle.promql_ast.specs.Builds.{at_given, mode_given, offset_given}
use Rattle.promql_ast.specs.Faults.{passes}
use Rattle.promql_ast.specs.Normal.{normal, all_normal, normal_matchers}
use Rattle.promql_ast.specs.Selectors.{selector}
use Rattle.promql_ast.specs.Shifts.{Shift, back, ahead, Moment, at_start, at_end, at_time}
use Rattle.promql_ast.specs.Tree.{Tree, subquery, vector, matrix, Trees}
use Rattle.promql_ast.specs.declared.range_mode.RangeMode.{RangeMode}
use Rattle.promql_ast.specs.declared.range_mode.RangeMode.TheVariants.{Plain, Smoothed, Anchored}
use Rattle.promql_syntax.specs.Asking.{under}
use Rattle.promql_syntax.specs.Building.{build, build_all, from_verdict}
use Rattle.promql_syntax.proofs.readback.Derive.{derive, derive_all, derive_base, with_at, with_mode, with_suffix, HasWords, AllHaveWords}
use Rattle.promql_syntax.specs.PartBuilding.{moment_value, shift_value, time_value}
use Rattle.promql_syntax.proofs.printed.PrintedParts.{braces, moment, seconds_text, shift, sign, time}
use Rattle.promql_syntax.proofs.readback.CheckedAgain.{same_tree}
use Rattle.promql_syntax.proofs.printed.PrintedTimesAndLabels.{IsTime, time_again}
use Rattle.promql_syntax.proofs.readback.Printable.{IsAnyMoment, IsMoment, IsShift, Printable, AllPrintable}
use Rattle.promql_syntax.proofs.building.SingleAnswers.{giving_leads, known_leads, passes_passing, then_leads}

-- ---- precedences

-- the precedence that is asked of a right side is at most 6
pub right_low : (op : ℕ) → right_precedence op ≤ 6
right_low op = go (band op)
  where
    go : {l n a : ℕ} → Band l n a → a ≤ 6
    go (inl h) = omega arith
    go (inr h) = omega arith

pub root_weaker : (m : ℕ) (d : Derivation) → m ≤ 6 → Root 6 d → Root m d
root_weaker m (grammar.binary op text w l r) e h = omega arith
root_weaker m d e h = tt

level_low : (op : ℕ) → precedence op ≤ 7
level_low op = go (band op)
  where
    go : {l n a : ℕ} → Band l n a → l ≤ 7
    go (inl h) = omega arith
    go (inr h) = omega arith

pub open_most : (d : Derivation) → openness d ≤ 7
open_most (grammar.unary op text d) = omega arith
open_most (grammar.binary op text m l r) = omega (arith, level_low op)
open_most d = omega arith

pub open_base : (d : Derivation) → IsBase d → openness d ≡ 7
open_base (grammar.binary op text m l r) h = absurd h
open_base (grammar.unary op text d) h = absurd h
open_base d h = refl

pub some_height : (d : Derivation) → 0 < height d
some_height (grammar.postfixed d p) = omega (arith, some_height d)
some_height d = omega arith

-- ---- what is kept

module _ (g : Text → Answer) where
  pub record Keeps (d : Derivation) (t : Tree) : Type 0 where
    pub formed : IsWellFormed (derive t)
    pub wide : openness d ≤ openness (derive t)
    pub low : height (derive t) ≤ height d
    pub root : (m : ℕ) → m ≤ 6 → Root m d → Root m (derive t)
    pub base : IsBase d → IsBase (derive t)
    pub words : HasWords (derive t)
    pub printable : Printable g t
    pub again : under g (build (derive t)) ≡ Ok (normal t)

  pub record AllKept (ds : Arguments) (ts : Trees) : Type 0 where
    pub formed : AreWellFormed (derive_all ts)
    pub low : greatest_height (derive_all ts) ≤ greatest_height ds
    pub words : AllHaveWords (derive_all ts)
    pub printable : AllPrintable g ts
    pub again : under g (build_all (derive_all ts)) ≡ Ok (all_normal ts)

  -- a tree without range mode, `@` and `offset` at its root
  abbrev pub core : Tree → Tree
  core (vector (selector name cs offset at)) = vector (selector name cs None None)
  core (matrix (selector name cs offset at) range mode) = matrix (selector name cs None None) range Plain
  core (subquery e offset at range step) = subquery e None None range step
  core t = t

  abbrev pub Suffixes : Tree → Type 0
  Suffixes (vector (selector name cs offset at)) = IsShift offset × IsAnyMoment at
  Suffixes (matrix (selector name cs offset at) range mode) = IsShift offset × IsAnyMoment at
  Suffixes (subquery e offset at range step) = IsShift offset × IsAnyMoment at
  Suffixes t = Unit {0}

  -- it is kept without them, and they read back
  pub record Canon (d : Derivation) (t : Tree) : Type 0 where
    pub kept : Keeps d (core t)
    pub suffixes : Suffixes t

  -- ---- range modes, `@` and `offset`

  moment_flat : (m : Moment) → added_height (moment m) ≡ 0
  moment_flat at_start = refl
  moment_flat at_end = refl
  moment_flat (at_time t) = refl

  shift_flat : (s : Shift) → added_height (shift s) ≡ 0
  shift_flat (back n) = refl
  shift_flat (ahead n) = refl

  at_formed : (a : Option Moment) (d : Derivation) → IsWellFormed d → IsBase d → IsWellFormed (with_at a d)
  at_formed None d h b = h
  at_formed (Some m) d h b = (h, b)

  at_base : (a : Option Moment) (d : Derivation) → IsBase d → IsBase (with_at a d)
  at_base None d b = b
  at_base (Some m) d b = tt

  suffix_formed : (o : Option Shift) (a : Option Moment) (d : Derivation) → IsWellFormed d → IsBase d → IsWellFormed (with_suffix o a d)
  suffix_formed None a d h b = at_formed a d h b
  suffix_formed (Some s) a d h b = (at_formed a d h b, at_base a d b)

  suffix_base : (o : Option Shift) (a : Option Moment) (d : Derivation) → IsBase d → IsBase (with_suffix o a d)
  suffix_base None a d b = at_base a d b
  suffix_base (Some s) a d b = tt

  at_height : (a : Option Moment) (d : Derivation) → height (with_at a d) ≡ height d
  at_height None d = refl
  at_height (Some m) d = omega (arith, moment_flat m)

  suffix_height : (o : Option Shift) (a : Option Moment) (d : Derivation) → height (with_suffix o a d) ≡ height d
  suffix_height None a d = at_height a d
  suffix_height (Some s) a d = omega (arith, shift_flat s, at_height a d)

  at_words : (a : Option Moment) (d : Derivation) → HasWords d → HasWords (with_at a d)
  at_words None d h = h
  at_words (Some m) d h = h

  suffix_words : (o : Option Shift) (a : Option Moment) (d : Derivation) → HasWords d → HasWords (with_suffix o a d)
  suffix_words None a d h = at_words a d h
  suffix_words (Some s) a d h = at_words a d h

  mode_base : (m : RangeMode) (d : Derivation) → IsBase d → IsBase (with_mode m d)
  mode_base Plain d b = b
  mode_base Smoothed d b = tt
  mode_base Anchored d b = tt

  mode_formed : (m : RangeMode) (d : Derivation) → IsWellFormed d → IsBase d → IsWellFormed (with_mode m d)
  mode_formed Plain d h b = h
  mode_formed Smoothed d h b = (h, b)
  mode_formed Anchored d h b = (h, b)

  mode_height : (m : RangeMode) (d : Derivation) → height (with_mode m d) ≡ height d
  mode_height Plain d = refl
  mode_height Smoothed d = omega arith
  mode_height Anchored d = omega arith

  mode_words : (m : RangeMode) (d : Derivation) → HasWords d → HasWords (with_mode m d)
  mode_words Plain d h = h
  mode_words Smoothed d h = h
  mode_words Anchored d h = h

  at_again : (m : Moment) (d : Derivation) (s t : Tree) → IsMoment m → under g (build d) ≡ Ok s → at_given s m ≡ passes t → under g (build (grammar.postfixed d (moment m))) ≡ Ok t
  at_again at_start d s t h e f = giving_leads g (build d) _ s _ e (passes_passing g (at_given s at_start) t f)
  at_again at_end d s t h e f = giving_leads g (build d) _ s _ e (passes_passing g (at_given s at_end) t f)
  at_again (at_time k) d s t h e f =
      giving_leads g (build d) _ s _ e
      (known_leads g (moment_value (sign (is_negative k)) (seconds_text k)) (λ m. from_verdict (at_given s m)) (at_time k) _ h (passes_passing g (at_given s (at_time k)) t f))

  shift_again : (b : Bool) (n : ℕ) → IsTime n → shift_value (sign b) (time n) ≡ Ok (cond b (ahead n) (back n))
  shift_again true n h = then_leads (time_value (time n)) _ n _ (time_again n h) refl
  shift_again false n h = then_leads (time_value (time n)) _ n _ (time_again n h) refl

  offset_again : (x : Shift) (d : Derivation) (s t : Tree) → IsShift (Some x) → under g (build d) ≡ Ok s → offset_given s x ≡ passes t → under g (build (grammar.postfixed d (shift x))) ≡ Ok t
  offset_again (back n) d s t h e f = giving_leads g (build d) _ s _ e (known_leads g (shift_value (sign false) (time n)) _ (back n) _ (shift_again false n h) (passes_passing g (offset_given s (back n)) t f))
  offset_again (ahead n) d s t h e f = giving_leads g (build d) _ s _ e (known_leads g (shift_value (sign true) (time n)) _ (ahead n) _ (shift_again true n h) (passes_passing g (offset_given s (ahead n)) t f))

  module _ (make : Option Shift → Option Moment → Tree) (at_set : (m : Moment) → at_given (make None None) m ≡ passes (make None (Some m))) (offset_set : (a : Option Moment) (x : Shift) → offset_given (make None a) x ≡ passes (make (Some x) a)) where
    timed_again : (a : Option Moment) (d : Derivation) → IsAnyMoment a → under g (build d) ≡ Ok (make None None) → under g (build (with_at a d)) ≡ Ok (make None a)
    timed_again None d h e = e
    timed_again (Some m) d h e = at_again m d (make None None) (make None (Some m)) h e (at_set m)

    suffix_again : (o : Option Shift) (a : Option Moment) (d : Derivation) → IsShift o → IsAnyMoment a → under g (build d) ≡ Ok (make None None) → under g (build (with_suffix o a d)) ≡ Ok (make o a)
    suffix_again None a d k h e = timed_again a d h e
    suffix_again (Some x) a d k h e = offset_again x (with_at a d) (make None a) (make (Some x) a) k (timed_again a d h e) (offset_set a x)

  mode_again : (m : RangeMode) (d : Derivation) (name : Option Text) (cs : PlainMatchers) (range : ℕ) → under g (build d) ≡ Ok (matrix (selector name cs None None) range Plain) → under g (build (with_mode m d)) ≡ Ok (matrix (selector name cs None None) range m)
  mode_again Plain d name cs range e = e
  mode_again Smoothed d name cs range e = giving_leads g (build d) _ _ _ e refl
  mode_again Anchored d name cs range e = giving_leads g (build d) _ _ _ e refl

  pub base_is : (name : Option Text) (b : Option part.Braces) → IsBase (derive_base name b)
  base_is (Some name) b = tt
  base_is None (Some b) = tt
  base_is None None = tt

  -- a tree whose derivation is a base is kept by each that is as high
  shift_to : (d e : Derivation) (s : Tree) → Keeps d s → height d ≤ height e → IsBase (derive s) → Keeps e s
  shift_to d e s k le b = record {
    formed = k.formed;
    wide = let o = open_base (derive s) b in omega (arith, open_most e);
    low = omega (arith, k.low);
    root = λ m le h. root_base m (derive s) b;
    base = λ h. b;
    words = k.words;
    printable = k.printable;
    again = k.again;
  }

  pub whole : (d : Derivation) (t : Tree) → Canon d t → Keeps d t
  whole d (vector (selector name cs o a)) c =
      let under_it = derive_base name (braces cs) in
      let b = base_is name (braces cs) in
      let base = suffix_base o a under_it b in
      record {
        formed = suffix_formed o a under_it c.kept.formed b;
        wide = let e = open_base (with_suffix o a under_it) base in omega (arith, open_most d);
        low = omega (arith, suffix_height o a under_it, c.kept.low);
        root = λ m le h. root_base m (with_suffix o a under_it) base;
        base = λ h. base;
        words = suffix_words o a under_it c.kept.words;
        printable = (c.kept.printable.0, c.suffixes.0, c.suffixes.1);
        again = suffix_again (λ o a. vector (selector name (normal_matchers cs) o a)) (λ m. refl) (λ a x. refl) o a under_it c.suffixes.0 c.suffixes.1 c.kept.again;
      }
  whole d (matrix (selector name cs o a) range mode) c =
      let below = grammar.postfixed (derive_base name (braces cs)) (part.range (time range)) in
      let under_it = with_mode mode below in
      let b = mode_base mode below tt in
      let base = suffix_base o a under_it b in
      record {
        formed = suffix_formed o a under_it (mode_formed mode below c.kept.formed tt) b;
        wide = let e = open_base (with_suffix o a under_it) base in omega (arith, open_most d);
        low = omega (arith, suffix_height o a under_it, mode_height mode below, c.kept.low);
        root = λ m le h. root_base m (with_suffix o a under_it) base;
        base = λ h. base;
        words = suffix_words o a under_it (mode_words mode below c.kept.words);
        printable = ((c.kept.printable.0.0, c.suffixes.0, c.suffixes.1), c.kept.printable.1);
        again = suffix_again (λ o a. matrix (selector name (normal_matchers cs) o a) range mode) (λ m. refl) (λ a x. refl) o a under_it c.suffixes.0 c.suffixes.1
            (mode_again mode below name (normal_matchers cs) range c.kept.again);
      }
  whole d (subquery e o a range step) c =
      let under_it = grammar.postfixed (derive e) (part.subquery (time range) (option_map time step)) in
      let base = suffix_base o a under_it tt in
      record {
        formed = suffix_formed o a under_it c.kept.formed tt;
        wide = let e = open_base (with_suffix o a under_it) base in omega (arith, open_most d);
        low = omega (arith, suffix_height o a under_it, c.kept.low);
        root = λ m le h. root_base m (with_suffix o a under_it) base;
        base = λ h. base;
        words = suffix_words o a under_it c.kept.words;
        printable = (c.kept.printable.0, c.kept.printable.1, c.kept.printable.2, c.suffixes.0, c.suffixes.1);
        again = suffix_again (λ o a. subquery (normal e) o a range step) (λ m. refl) (λ a x. refl) o a under_it c.suffixes.0 c.suffixes.1 c.kept.again;
      }
  whole d t c = c.kept

  pub canon_at : (d e : Derivation) (m : Moment) (s t : Tree) → Canon d s → IsMoment m → height d ≤ height e → at_given s m ≡ passes t → Canon e t
  canon_at d e m (vector (selector name cs o None)) t c k le h = subst (Canon e) (same_tree _ _ h) (record { kept = shift_to d e (vector (selector name cs None None)) c.kept le (base_is name (braces cs)); suffixes = (c.suffixes.0, k) })
  canon_at d e m (matrix (selector name cs o None) range mode) t c k le h = subst (Canon e) (same_tree _ _ h) (record { kept = shift_to d e (matrix (selector name cs None None) range Plain) c.kept le tt; suffixes = (c.suffixes.0, k) })
  canon_at d e m (subquery u o None range step) t c k le h = subst (Canon e) (same_tree _ _ h) (record { kept = shift_to d e (subquery u None None range step) c.kept le tt; suffixes = (c.suffixes.0, k) })
  canon_at d e m s t c k le h = cc

  pub canon_offset : (d e : Derivation) (x : Shift) (s t : Tree) → Canon d s → IsShift (Some x) → height d ≤ height e → offset_given s x ≡ passes t → Canon e t
  canon_offset d e x (vector (selector name cs None a)) t c k le h = subst (Canon e) (same_tree _ _ h) (record { kept = shift_to d e (vector (selector name cs None None)) c.kept le (base_is name (braces cs)); suffixes = (k, c.suffixes.1) })
  canon_offset d e x (matrix (selector name cs None a) range mode) t c k le h = subst (Canon e) (same_tree _ _ h) (record { kept = shift_to d e (matrix (selector name cs None None) range Plain) c.kept le tt; suffixes = (k, c.suffixes.1) })
  canon_offset d e x (subquery u None a range step) t c k le h = subst (Canon e) (same_tree _ _ h) (record { kept = shift_to d e (subquery u None None range step) c.kept le tt; suffixes = (k, c.suffixes.1) })
  canon_offset d e x s t c k le h = cc

  pub canon_mode : (d e : Derivation) (mode : RangeMode) (s t : Tree) → Canon d s → height d ≤ height e → mode_given s mode ≡ passes t → Canon e t
  canon_mode d e mode (matrix (selector name cs o a) range Plain) t c le h = subst (Canon e) (same_tree _ _ h) (record { kept = shift_to d e (matrix (selector name cs None None) range Plain) c.kept le tt; suffixes = c.suffixes })
  canon_mode d e mode s t c le h = cc
