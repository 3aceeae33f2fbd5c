-- The parts of a printable tree are what the printed text gives.
use Rattle.std.proofs.Common.{◌≡◌, ℕ, ℤ, refl, ap, Bool, true, false, cond, Option, Some, None, List, [], ◌∷◌}
use Rattle.std.specs.Prelude.{Ok, pos, unsigned_abs, FitsSigned}
use Rattle.std.specs.Int.{is_negative, w64}
use Rattle.promql_text.specs.NumberText.{read_number}
use Rattle.promql_text.specs.Texts.{Text}
use Rattle.promql_text.specs.Values.{neg}
use Rattle.promql_text.specs.declared.number.Number.{Number}
use Rattle.promql_token.specs.Ids.{is_set_operator, keyword_in_any_case}
use Rattle.promql_token.specs.Vocabulary.{is_word, word_id}
use Rattle.promql_grammar.specs.Symbols.{may_be_called, may_be_name, token_kind}
use Rattle.promql_label.specs.Answers.{Answer}
use Rattle.promql_label.specs.PlainMatchers.{equal, not_equal, matches, matches_not, PlainMatcher, plain_matcher, PlainMatchers, plain_matchers}
use Rattle.promql_kind.specs.Functions.{Signature, function_named, name_of}
use Rattle.promql_kind.proofs.NamedFunctions.{each_named}
use Rattle.promql_kind.specs.Modifiers.{Cardinality, Clause, one_to_one, many_to_one, one_to_many, many_to_many, fills, Matching, matching}
use Rattle.promql_ast.specs.AtTimes.{at_of_number}
use Rattle.promql_ast.specs.Shifts.{Shift, back, ahead, Moment, at_start, at_end, at_time, time_text}
use Rattle.promql_ast.specs.Typed.{IsManyToMany}
use Rattle.promql_ast.specs.check.BinaryChecks.{settle_matching, settled_set}
use Rattle.promql_ast.proofs.normal_form.PrintedMoments.{size_reads}
use Rattle.promql_syntax.specs.Asking.{under}
use Rattle.promql_syntax.specs.BuildErrors as errors
use Rattle.promql_syntax.specs.PartBuilding.{number_value, pattern_operator, signed_number, on_error}
use Rattle.promql_syntax.specs.Postfixes.{at_fault}
use Rattle.promql_syntax.proofs.readback.Printable.{IsAnyMoment, IsMoment, IsShift}
use Rattle.promql_syntax.proofs.printed.PrintedMatcherLists.{AllStand, AreAnyMatchers, GroupsStand, Stands}
use Rattle.promql_syntax.proofs.printed.PrintedModifiers.{Alike, AreFills, IsGroupedAfter, IsMatched, IsWritten}
use Rattle.promql_syntax.proofs.printed.PrintedParts.{sign, word_kind}
use Rattle.promql_syntax.proofs.printed.PrintedTimes.{moment_is}
use Rattle.promql_syntax.proofs.printed.PrintedTimesAndLabels.{IsStep, IsTime}
use Rattle.promql_syntax.proofs.building.SingleAnswers.{then_leads}
use Rattle.promql_rewrite.specs.Answered.{IsAnswered}
use Rattle.promql_rewrite.specs.PrintableConditions.{PrintableAt, PrintableFill, PrintableOffset, PrintableTime}
use Rattle.promql_rewrite.specs.PrintableNodes.{AllAnswered, FollowsLabels, GroupsAnswered, PrintableMatchers, PrintableModifier, PrintableStep}

-- ---- times

pub is_time : (n : ℕ) → PrintableTime n → IsTime n
is_time n h = record { some = h.0; less = h.1 }

pub is_step : (m : Option ℕ) → PrintableStep m → IsStep m
is_step None h = tt
is_step (Some n) h = is_time n h

pub is_offset : (o : Option Shift) → PrintableOffset o → IsShift o
is_offset None h = tt
is_offset (Some (back n)) h = is_time n h
is_offset (Some (ahead n)) h = is_time n h

signed_reads : (b : Bool) (text : Text) (n : Number) → read_number text ≡ Ok n → signed_number (sign b) text ≡ Ok (cond b (neg n) n)
signed_reads true text n e = then_leads (number_value text) _ n _ (ap (on_error errors.number) e) refl
signed_reads false text n e = then_leads (number_value text) _ n _ (ap (on_error errors.number) e) refl

-- milliseconds of 64 bits print as seconds that are read as they are
is_moment : (t : ℤ) → FitsSigned w64 t → IsMoment (at_time t)
is_moment t fits =
    let r = size_reads t fits in
    let size = time_text (pos (unsigned_abs t)) in
    moment_is (sign (is_negative t)) size (at_time t)
    (then_leads (signed_number (sign (is_negative t)) size) (λ n. at_fault (at_of_number n)) (cond (is_negative t) (neg r.0) r.0) _ (signed_reads (is_negative t) size r.0 r.1) (ap at_fault r.2))

pub is_at : (a : Option Moment) → PrintableAt a → IsAnyMoment a
is_at None h = tt
is_at (Some at_start) h = tt
is_at (Some at_end) h = tt
is_at (Some (at_time t)) h = is_moment t h

-- ---- names

pub name_kind : (name : Text) → may_be_name (token_kind (word_id name [])) ≡ true → may_be_name (word_kind name) ≡ true
unfolding word_kind
name_kind name h = h

-- the names of the table's functions are words that may be called
pub function_letters : (name : Text) (f : Signature) → function_named name ≡ Some f → is_word (name_of f) ≡ true
function_letters name f e = each_named (λ f. is_word (name_of f)) refl name f e

pub function_called : (name : Text) (f : Signature) → function_named name ≡ Some f → may_be_called (word_kind (name_of f)) ≡ true
unfolding keyword_in_any_case word_kind
function_called name f e = each_named (λ f. may_be_called (word_kind (name_of f))) refl name f e

-- ---- matchers

module _ (g : Text → Answer) where
  stands : (c : PlainMatcher) → IsAnswered g c → Stands g c
  stands (plain_matcher equal name v) h = refl
  stands (plain_matcher not_equal name v) h = refl
  stands (plain_matcher (matches w) name v) h = ap (λ a. under g (pattern_operator matches v a)) h
  stands (plain_matcher (matches_not w) name v) h = ap (λ a. under g (pattern_operator matches_not v a)) h

  all_stand : (cs : List PlainMatcher) → AllAnswered g cs → AllStand g cs
  all_stand [] h = tt
  all_stand (c ∷ cs) h = (stands c h.0, all_stand cs h.1)

  groups_stand : (gs : List (List PlainMatcher)) → GroupsAnswered g gs → GroupsStand g gs
  groups_stand [] h = tt
  groups_stand ([] ∷ gs) h = absurd h
  groups_stand ((c ∷ cs) ∷ gs) h = (all_stand (c ∷ cs) h.0, groups_stand gs h.1)

  pub are_matchers : (cs : PlainMatchers) → PrintableMatchers g cs → AreAnyMatchers g cs
  are_matchers (plain_matchers [] []) h = tt
  are_matchers (plain_matchers (c ∷ cs) []) h = all_stand (c ∷ cs) h
  are_matchers (plain_matchers [] (i ∷ [])) h = absurd h
  are_matchers (plain_matchers [] (i ∷ j ∷ gs)) h = groups_stand (i ∷ j ∷ gs) h
  are_matchers (plain_matchers (c ∷ cs) (i ∷ gs)) h = absurd h

-- ---- modifiers

are_fills : (r l : Option Number) → PrintableFill r → PrintableFill l → AreFills (fills r l)
are_fills None None h k = (tt, tt)
are_fills (Some r) None h k = (h, tt)
are_fills None (Some l) h k = (tt, k)
are_fills (Some r) (Some l) h k = (h, k)

follows : (c : Option Clause) (card : Cardinality) → FollowsLabels card c → IsGroupedAfter c card
follows (Some c) card h = tt
follows None one_to_one h = tt
follows None (many_to_one ls) h = cc
follows None (one_to_many ls) h = cc
follows None many_to_many h = tt

is_matched : (op : ℕ) (m : Option Matching) → PrintableModifier op m → IsMatched m
is_matched op None h = tt
is_matched op (Some (matching card c b (fills r l))) h = (follows c card h.0, are_fills r l h.2 h.3)

-- the modifier as it was before its operator settled it
abbrev pub written : Option Matching → Option Matching
written None = None
written (Some (matching one_to_one c b values)) = Some (matching one_to_one c b values)
written (Some (matching (many_to_one ls) c b values)) = Some (matching (many_to_one ls) c b values)
written (Some (matching (one_to_many ls) c b values)) = Some (matching (one_to_many ls) c b values)
written (Some (matching many_to_many c b values)) = Some (matching one_to_one c b values)

pub is_written : (m : Option Matching) → IsWritten (written m)
is_written None = tt
is_written (Some (matching one_to_one c b values)) = tt
is_written (Some (matching (many_to_one ls) c b values)) = tt
is_written (Some (matching (one_to_many ls) c b values)) = tt
is_written (Some (matching many_to_many c b values)) = tt

matched_before : (m : Option Matching) → IsMatched m → IsMatched (written m)
matched_before None h = tt
matched_before (Some (matching one_to_one c b values)) h = h
matched_before (Some (matching (many_to_one ls) c b values)) h = h
matched_before (Some (matching (one_to_many ls) c b values)) h = h
matched_before (Some (matching many_to_many None b values)) h = h
matched_before (Some (matching many_to_many (Some c) b values)) h = h

pub written_matched : (op : ℕ) (m : Option Matching) → PrintableModifier op m → IsMatched (written m)
written_matched op m h = matched_before m (is_matched op m h)

pub written_alike : (m : Option Matching) → Alike (written m) m
written_alike None = record { bool = refl; on = refl; joint = refl; grouped = refl; labels = refl }
written_alike (Some (matching one_to_one c b values)) = record { bool = refl; on = refl; joint = refl; grouped = refl; labels = refl }
written_alike (Some (matching (many_to_one ls) c b values)) = record { bool = refl; on = refl; joint = refl; grouped = refl; labels = refl }
written_alike (Some (matching (one_to_many ls) c b values)) = record { bool = refl; on = refl; joint = refl; grouped = refl; labels = refl }
written_alike (Some (matching many_to_many c b values)) = record { bool = refl; on = refl; joint = refl; grouped = refl; labels = refl }

-- only set operators settle it, and they make it the modifier again
pub written_settles : (op : ℕ) (m : Option Matching) → PrintableModifier op m → (is_set_operator op ≡ true → IsManyToMany m) → settle_matching op (written m) ≡ m
written_settles op m h many = go (is_set_operator op) refl m h many
  where
    go : (b : Bool) → is_set_operator op ≡ b → (m : Option Matching) → PrintableModifier op m → (is_set_operator op ≡ true → IsManyToMany m) → cond b (Some (settled_set (written m))) (written m) ≡ m
    go true is None h many = absurd (many is)
    go true is (Some (matching one_to_one c b values)) h many = let same : one_to_one ≡ many_to_many = many is in cc
    go true is (Some (matching (many_to_one ls) c b values)) h many = let same : many_to_one ls ≡ many_to_many = many is in cc
    go true is (Some (matching (one_to_many ls) c b values)) h many = let same : one_to_many ls ≡ many_to_many = many is in cc
    go true is (Some (matching many_to_many c b values)) h many = refl
    go false is None h many = refl
    go false is (Some (matching one_to_one c b values)) h many = refl
    go false is (Some (matching (many_to_one ls) c b values)) h many = refl
    go false is (Some (matching (one_to_many ls) c b values)) h many = refl
    go false is (Some (matching many_to_many c b (fills r l))) h many = let set : is_set_operator op ≡ true = h.1 refl in cc
