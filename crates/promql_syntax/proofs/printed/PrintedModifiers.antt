-- Printed modifiers of binary expressions read back, after every operator, and pass the same checks.
use Rattle.std.proofs.Common.{◌≡◌, ◌⊎◌, inl, inr, ⊎_elim, ℕ, refl, sym, ◌∙◌, ap, subst, Bool, true, false, cond, not, ◌&&◌, ◌||◌, Option, Some, None, is_some, List, [], ◌∷◌, codes}
use Rattle.std.specs.Prelude.{Result, Ok}
use Rattle.promql_text.specs.Texts.{Text}
use Rattle.promql_text.specs.Values.{IsNumber}
use Rattle.promql_text.specs.declared.number.Number.{Number}
use Rattle.promql_token.specs.Ids.{is_operator, is_comparison_operator, is_set_operator}
use Rattle.promql_grammar.specs.Results.{◌then◌}
use Rattle.promql_grammar.specs.GrammarParts as part
use Rattle.promql_grammar.specs.Grammar.{FitsMatching}
use Rattle.promql_grammar.specs.Symbols.{Symbol}
use Rattle.promql_kind.specs.Modifiers.{Clause, including, excluding, Cardinality, one_to_one, many_to_one, one_to_many, many_to_many, Fills, fills, Matching, matching, is_grouping, number_eq}
use Rattle.promql_kind.proofs.SameModifiersDecide.{number_eq-Decides}
use Rattle.promql_ast.specs.Checks.{when, first_fault, unless, is_scalar, is_vector, is_scalar_or_vector}
use Rattle.promql_ast.specs.Faults as build_errors
use Rattle.promql_ast.specs.Faults.{Verdict, passes}
use Rattle.promql_ast.specs.Normal.{normal_matched, normal_matching, unless_default}
use Rattle.promql_ast.specs.OptionalModifiers.{has_matching_labels, is_grouped, is_on, joint_labels, returns_bool}
use Rattle.promql_ast.specs.Tree.{Tree, binary}
use Rattle.promql_ast.specs.Types.{type_of}
use Rattle.promql_ast.specs.check.BinaryChecks.{checked_binary, first_twice, label_fault, operator_fault, set_fault, settle_matching, settled_set, side_fault}
use Rattle.promql_syntax.specs.BuildErrors.{BuildError}
use Rattle.promql_syntax.specs.PartBuilding.{fill_value, fills_value, group_value, label_values, matching_value, modifier_value}
use Rattle.promql_syntax.proofs.printed.PrintedParts.{fill_words, flag, group, labels, matching_of_clause, modifier, value}
use Rattle.promql_syntax.proofs.printed.PrintedTimesAndLabels.{signed_again, signed_is}
use Rattle.promql_syntax.proofs.printed.PrintedWords.{labels_again, labels_formed}
use Rattle.promql_syntax.proofs.building.SingleAnswers.{then_steps, then_leads, same_ok}
use Rattle.promql_syntax.specs.PartWords.{cardinality, is_blank}
use Rattle.promql_syntax.proofs.parsing.BlankModifiers.{by_blank}
use Rattle.promql_grammar.specs.PartTokens.{IsGroup}

-- ---- what is built of written modifiers

abbrev pub IsUngrouped : Cardinality → Type 0
IsUngrouped one_to_one = Unit {0}
IsUngrouped (many_to_one ls) = ⊥
IsUngrouped (one_to_many ls) = ⊥
IsUngrouped many_to_many = Unit {0}

-- a group word follows matching labels
abbrev pub IsGroupedAfter : Option Clause → Cardinality → Type 0
IsGroupedAfter None card = IsUngrouped card
IsGroupedAfter (Some c) card = Unit {0}

abbrev IsFill : Option Number → Type 0
IsFill None = Unit {0}
IsFill (Some n) = IsNumber n

abbrev pub AreFills : Fills → Type 0
AreFills (fills r l) = IsFill r × IsFill l

abbrev pub IsMatched : Option Matching → Type 0
IsMatched None = Unit {0}
IsMatched (Some (matching card c return_bool values)) = IsGroupedAfter c card × AreFills values

-- as long as no set operator settles it
abbrev IsWrittenCard : Cardinality → Type 0
IsWrittenCard many_to_many = ⊥
IsWrittenCard card = Unit {0}

abbrev pub IsWritten : Option Matching → Type 0
IsWritten None = Unit {0}
IsWritten (Some (matching card c return_bool values)) = IsWrittenCard card

cardinality_written : (left : Bool) (ls : List Text) → IsWrittenCard (cardinality left ls)
cardinality_written true ls = tt
cardinality_written false ls = tt

group_written : (g : part.Group) (card : Cardinality) → group_value g ≡ Ok card → IsWrittenCard card
group_written None card e = subst IsWrittenCard (same_ok _ _ _ _ refl refl e) tt
group_written (Some (left, text, None)) card e = subst IsWrittenCard (same_ok _ _ _ _ refl refl e) (cardinality_written left [])
group_written (Some (left, text, Some ls)) card e =
    let step = then_steps (label_values ls) (λ x. Ok (cardinality left x)) card e in
    subst IsWrittenCard (same_ok _ _ _ _ refl refl step.leads) (cardinality_written left step.value)

abbrev IsMatchedValue : Cardinality × Option Clause → Type 0
IsMatchedValue x = IsGroupedAfter x.1 x.0 × IsWrittenCard x.0

matching_is : (m : part.Matching) (x : Cardinality × Option Clause) → matching_value m ≡ Ok x → IsMatchedValue x
matching_is None x e = subst IsMatchedValue (same_ok _ _ _ _ refl refl e) (tt, tt)
matching_is (Some (on, text, ls, g)) x e =
    let step = then_steps (label_values ls) (λ y. group_value g then λ c. Ok (c, Some (cond on (including y) (excluding y)))) x e in
    let next = then_steps (group_value g) (λ c. Ok (c, Some (cond on (including step.value) (excluding step.value)))) x step.leads in
    subst IsMatchedValue (same_ok _ _ _ _ refl refl next.leads) (tt, group_written g next.value next.is)

fill_is : (v : part.FillValue) (n : Number) → fill_value v ≡ Ok n → IsNumber n
fill_is v n e = signed_is v.0 v.1 n e

fills_are : (f : part.Fills) (x : Fills) → fills_value f ≡ Ok x → AreFills x
fills_are part.no_fill x e = subst AreFills (same_ok _ _ _ _ refl refl e) (tt, tt)
fills_are (part.both text v) x e =
    let step = then_steps (fill_value v) (λ n. Ok (fills (Some n) (Some n))) x e in
    let is = fill_is v step.value step.is in
    subst AreFills (same_ok _ _ _ _ refl refl step.leads) (is, is)
fills_are (part.one true text v) x e =
    let step = then_steps (fill_value v) (λ n. Ok (fills None (Some n))) x e in
    subst AreFills (same_ok _ _ _ _ refl refl step.leads) (tt, fill_is v step.value step.is)
fills_are (part.one false text v) x e =
    let step = then_steps (fill_value v) (λ n. Ok (fills (Some n) None)) x e in
    subst AreFills (same_ok _ _ _ _ refl refl step.leads) (fill_is v step.value step.is, tt)
fills_are (part.two true text v text' w) x e =
    let step = then_steps (fill_value v) (λ n. fill_value w then λ m. Ok (fills (Some m) (Some n))) x e in
    let next = then_steps (fill_value w) (λ m. Ok (fills (Some m) (Some step.value))) x step.leads in
    subst AreFills (same_ok _ _ _ _ refl refl next.leads) (fill_is w next.value next.is, fill_is v step.value step.is)
fills_are (part.two false text v text' w) x e =
    let step = then_steps (fill_value v) (λ n. fill_value w then λ m. Ok (fills (Some n) (Some m))) x e in
    let next = then_steps (fill_value w) (λ m. Ok (fills (Some step.value) (Some m))) x step.leads in
    subst AreFills (same_ok _ _ _ _ refl refl next.leads) (fill_is v step.value step.is, fill_is w next.value next.is)

abbrev IsModifierValue : Option Matching → Type 0
IsModifierValue m = IsMatched m × IsWritten m

pub modifier_is : (w : part.Modifier) (m : Option Matching) → modifier_value w ≡ Ok m → IsModifierValue m
modifier_is w m e = go (is_blank w) (sym (by_blank w) ∙ e)
  where
    made : Cardinality × Option Clause → Fills → Result (Option Matching) BuildError
    made c f = Ok (Some (matching c.0 c.1 (is_some w.0) f))

    go : (b : Bool) → cond b (Ok None) (matching_value w.1 then λ c. fills_value w.2 then λ f. made c f) ≡ Ok m → IsModifierValue m
    go true e = subst IsModifierValue (same_ok _ _ _ _ refl refl e) (tt, tt)
    go false e =
        let step = then_steps (matching_value w.1) (λ c. fills_value w.2 then λ f. made c f) m e in
        let next = then_steps (fills_value w.2) (λ f. made step.value f) m step.leads in
        let is = matching_is w.1 step.value step.is in
        subst IsModifierValue (same_ok _ _ _ _ refl refl next.leads) ((is.0, fills_are w.2 next.value next.is), is.1)

-- ---- what a printed modifier builds

abbrev plain_card : Cardinality → Cardinality
plain_card one_to_one = one_to_one
plain_card (many_to_one ls) = many_to_one ls
plain_card (one_to_many ls) = one_to_many ls
plain_card many_to_many = one_to_one

-- the normal form, but for the cardinality of a set operator
abbrev pub normal_modifier : Option Matching → Option Matching
normal_modifier None = None
normal_modifier (Some (matching card c return_bool values)) = unless_default (matching (plain_card card) (normal_matched (is_grouping card) c) return_bool values)

group_again : (card : Cardinality) → group_value (group card) ≡ Ok (plain_card card)
group_again one_to_one = refl
group_again (many_to_one ls) = then_leads (label_values (labels ls)) _ ls _ (labels_again ls) refl
group_again (one_to_many ls) = then_leads (label_values (labels ls)) _ ls _ (labels_again ls) refl
group_again many_to_many = refl

matching_again : (c : Option Clause) (card : Cardinality) → IsGroupedAfter c card → matching_value (matching_of_clause c (group card)) ≡ Ok (plain_card card, c)
matching_again None one_to_one h = refl
matching_again None (many_to_one ls) h = absurd h
matching_again None (one_to_many ls) h = absurd h
matching_again None many_to_many h = refl
matching_again (Some (including ls)) card h =
    then_leads (label_values (labels ls)) _ ls _ (labels_again ls) (then_leads (group_value (group card)) _ (plain_card card) _ (group_again card) refl)
matching_again (Some (excluding ls)) card h =
    then_leads (label_values (labels ls)) _ ls _ (labels_again ls) (then_leads (group_value (group card)) _ (plain_card card) _ (group_again card) refl)

fills_again : (values : Fills) → AreFills values → fills_value (fill_words values) ≡ Ok values
fills_again (fills None None) h = refl
fills_again (fills (Some r) None) h = then_leads (fill_value (value r)) _ r _ (signed_again r h.0) refl
fills_again (fills None (Some l)) h = then_leads (fill_value (value l)) _ l _ (signed_again l h.1) refl
fills_again (fills (Some r) (Some l)) h = go (number_eq l r) refl
  where
    go : (b : Bool) → number_eq l r ≡ b → fills_value (cond b (part.both (codes "fill") (value l)) (part.two true (codes "fill_left") (value l) (codes "fill_right") (value r))) ≡ Ok (fills (Some r) (Some l))
    go true is =
        let same = (number_eq-Decides l r).0 is in
        then_leads (fill_value (value l)) _ l _ (signed_again l h.1) (ap (λ n. Ok (fills (Some n) (Some l))) same)
    go false is =
        then_leads (fill_value (value l)) _ l _ (signed_again l h.1) (then_leads (fill_value (value r)) _ r _ (signed_again r h.0) refl)

kept_bool : (card : Cardinality) (c : Option Clause) (values : Fills) → unless_default (matching card c true values) ≡ Some (matching card c true values)
kept_bool one_to_one None values = refl
kept_bool card c values = refl

kept_labels : (card : Cardinality) (c : Clause) (b : Bool) (values : Fills) → unless_default (matching card (Some c) b values) ≡ Some (matching card (Some c) b values)
kept_labels one_to_one c b values = refl
kept_labels card c b values = refl

-- nothing is written exactly where the rest is the default
abbrev BlankIfDefault : Bool → Option Clause → Cardinality → Fills → Type 0
BlankIfDefault b c card values =
    let blank = is_blank (flag b, matching_of_clause c (group card), fill_words values) in
    let kept = unless_default (matching (plain_card card) c b values) in
    ((blank ≡ true) × (kept ≡ None)) ⊎ ((blank ≡ false) × (kept ≡ Some (matching (plain_card card) c b values)))

blank_fills : (values : Fills) →
    let blank = is_blank (None, None, fill_words values) in
    let kept = unless_default (matching one_to_one None false values) in
    ((blank ≡ true) × (kept ≡ None)) ⊎ ((blank ≡ false) × (kept ≡ Some (matching one_to_one None false values)))
blank_fills (fills None None) = inl (refl, refl)
blank_fills (fills (Some r) None) = inr (refl, refl)
blank_fills (fills None (Some l)) = inr (refl, refl)
blank_fills (fills (Some r) (Some l)) = inr (go (number_eq l r), refl)
  where
    go : (b : Bool) → is_blank (None, None, cond b (part.both (codes "fill") (value l)) (part.two true (codes "fill_left") (value l) (codes "fill_right") (value r))) ≡ false
    go true = refl
    go false = refl

blank_modifier : (b : Bool) (c : Option Clause) (card : Cardinality) (values : Fills) → IsGroupedAfter c card → BlankIfDefault b c card values
blank_modifier true c card values h = inr (refl, kept_bool (plain_card card) c values)
blank_modifier false (Some (including ls)) card values h = inr (refl, kept_labels (plain_card card) (including ls) false values)
blank_modifier false (Some (excluding ls)) card values h = inr (refl, kept_labels (plain_card card) (excluding ls) false values)
blank_modifier false None (many_to_one ls) values h = absurd h
blank_modifier false None (one_to_many ls) values h = absurd h
blank_modifier false None one_to_one values h = blank_fills values
blank_modifier false None many_to_many values h = blank_fills values

flag_again : (b : Bool) → is_some (flag b) ≡ b
flag_again true = refl
flag_again false = refl

written_again : (b : Bool) (c : Option Clause) (card : Cardinality) (values : Fills) → IsGroupedAfter c card → AreFills values
    → modifier_value (flag b, matching_of_clause c (group card), fill_words values) ≡ Ok (unless_default (matching (plain_card card) c b values))
written_again b c card values h k = by_blank (flag b, matching_of_clause c (group card), fill_words values) ∙ ⊎_elim
    (λ x. ap (λ o. cond o (Ok None) rest) x.0 ∙ ap Ok (sym x.1))
    (λ x. ap (λ o. cond o (Ok None) rest) x.0 ∙ all ∙ ap Ok (sym x.1))
    (blank_modifier b c card values h)
  where
    rest : Result (Option Matching) BuildError
    rest = matching_value (matching_of_clause c (group card)) then λ x. fills_value (fill_words values) then λ f. Ok (Some (matching x.0 x.1 (is_some (flag b)) f))

    all : rest ≡ Ok (Some (matching (plain_card card) c b values))
    all =
        then_leads (matching_value (matching_of_clause c (group card))) _ (plain_card card, c) _ (matching_again c card h)
        (then_leads (fills_value (fill_words values)) _ values _ (fills_again values k)
        (ap (λ o. Ok (Some (matching (plain_card card) c o values))) (flag_again b)))

normal_grouped : (c : Option Clause) (card : Cardinality) → IsGroupedAfter c card → IsGroupedAfter (normal_matched (is_grouping card) c) card
normal_grouped None card h = go card h
  where
    go : (card : Cardinality) → IsUngrouped card → IsGroupedAfter (normal_matched (is_grouping card) None) card
    go one_to_one h = tt
    go (many_to_one ls) h = absurd h
    go (one_to_many ls) h = absurd h
    go many_to_many h = tt
normal_grouped (Some (including ls)) one_to_one h = tt
normal_grouped (Some (including ls)) (many_to_one ks) h = tt
normal_grouped (Some (including ls)) (one_to_many ks) h = tt
normal_grouped (Some (including ls)) many_to_many h = tt
normal_grouped (Some (excluding [])) one_to_one h = tt
normal_grouped (Some (excluding [])) (many_to_one ks) h = tt
normal_grouped (Some (excluding [])) (one_to_many ks) h = tt
normal_grouped (Some (excluding [])) many_to_many h = tt
normal_grouped (Some (excluding (l ∷ ls))) one_to_one h = tt
normal_grouped (Some (excluding (l ∷ ls))) (many_to_one ks) h = tt
normal_grouped (Some (excluding (l ∷ ls))) (one_to_many ks) h = tt
normal_grouped (Some (excluding (l ∷ ls))) many_to_many h = tt

pub modifier_again : (m : Option Matching) → IsMatched m → modifier_value (modifier m) ≡ Ok (normal_modifier m)
modifier_again None h = refl
modifier_again (Some (matching card c b values)) h = written_again b (normal_matched (is_grouping card) c) card values (normal_grouped c card h.0) h.1

-- ---- after an operator

-- a written modifier, or that of a set operator without grouping, is settled again to its normal form
written_settles : (m : Option Matching) → IsWritten m → normal_modifier m ≡ normal_matching m
written_settles None h = refl
written_settles (Some (matching one_to_one c b values)) h = refl
written_settles (Some (matching (many_to_one ls) c b values)) h = refl
written_settles (Some (matching (one_to_many ls) c b values)) h = refl
written_settles (Some (matching many_to_many c b values)) h = absurd h

set_kept : (c : Option Clause) (b : Bool) (values : Fills) → Some (settled_set (unless_default (matching one_to_one c b values))) ≡ unless_default (matching many_to_many c b values)
set_kept None false (fills None None) = refl
set_kept c b values = refl

set_settles : (m : Option Matching) → IsWritten m → is_grouped m ≡ false → Some (settled_set (normal_modifier (Some (settled_set m)))) ≡ normal_matching (Some (settled_set m))
set_settles None h e = refl
set_settles (Some (matching one_to_one c b values)) h e = set_kept (normal_matched false c) b values
set_settles (Some (matching (many_to_one ls) c b values)) h e = cc
set_settles (Some (matching (one_to_many ls) c b values)) h e = cc
set_settles (Some (matching many_to_many c b values)) h e = absurd h

pub settles : (op : ℕ) (m : Option Matching) → IsWritten m → (is_set_operator op ≡ true → is_grouped m ≡ false) → settle_matching op (normal_modifier (settle_matching op m)) ≡ normal_matching (settle_matching op m)
settles op m h e = go (is_set_operator op) e
  where
    go : (b : Bool) → (b ≡ true → is_grouped m ≡ false)
        → cond b (Some (settled_set (normal_modifier (cond b (Some (settled_set m)) m)))) (normal_modifier (cond b (Some (settled_set m)) m)) ≡ normal_matching (cond b (Some (settled_set m)) m)
    go true e = set_settles m h (e refl)
    go false e = written_settles m h

matched_settled : (m : Option Matching) → IsMatched m → IsMatched (Some (settled_set m))
matched_settled None h = (tt, (tt, tt))
matched_settled (Some (matching one_to_one None b values)) h = h
matched_settled (Some (matching one_to_one (Some c) b values)) h = h
matched_settled (Some (matching (many_to_one ls) c b values)) h = h
matched_settled (Some (matching (one_to_many ls) c b values)) h = h
matched_settled (Some (matching many_to_many c b values)) h = h

pub settled_matched : (op : ℕ) (m : Option Matching) → IsMatched m → IsMatched (settle_matching op m)
settled_matched op m h = go (is_set_operator op)
  where
    go : (b : Bool) → IsMatched (cond b (Some (settled_set m)) m)
    go true = matched_settled m h
    go false = h

-- ---- what the checks see of a modifier

pub record Alike (x y : Option Matching) : Type 0 where
  pub bool : returns_bool x ≡ returns_bool y
  pub on : is_on x ≡ is_on y
  pub joint : joint_labels x ≡ joint_labels y
  pub grouped : is_grouped x ≡ is_grouped y
  pub labels : has_matching_labels x ≡ has_matching_labels y

both_alike : (x y z : Option Matching) → Alike x y → Alike y z → Alike x z
both_alike x y z a b = record {
  bool = a.bool ∙ b.bool;
  on = a.on ∙ b.on;
  joint = a.joint ∙ b.joint;
  grouped = a.grouped ∙ b.grouped;
  labels = a.labels ∙ b.labels;
}

same_alike : (x : Option Matching) → Alike x x
same_alike x = record { bool = refl; on = refl; joint = refl; grouped = refl; labels = refl }

default_alike : (m : Matching) → Alike (unless_default m) (Some m)
default_alike (matching one_to_one None false (fills None None)) = record { bool = refl; on = refl; joint = refl; grouped = refl; labels = refl }
default_alike m = record { bool = refl; on = refl; joint = refl; grouped = refl; labels = refl }

reread_alike : (m : Option Matching) → Alike (normal_modifier m) m
reread_alike None = same_alike None
reread_alike (Some (matching card c b values)) =
    both_alike _ (Some (matching (plain_card card) (normal_matched (is_grouping card) c) b values)) _
    (default_alike (matching (plain_card card) (normal_matched (is_grouping card) c) b values)) (go card c)
  where
    go : (card : Cardinality) (c : Option Clause) → Alike (Some (matching (plain_card card) (normal_matched (is_grouping card) c) b values)) (Some (matching card c b values))
    go one_to_one (Some (excluding [])) = record { bool = refl; on = refl; joint = refl; grouped = refl; labels = refl }
    go many_to_many (Some (excluding [])) = record { bool = refl; on = refl; joint = refl; grouped = refl; labels = refl }
    go card c = record { bool = refl; on = refl; joint = refl; grouped = refl; labels = refl }

set_alike : (m : Option Matching) → Alike (Some (settled_set m)) m
set_alike None = record { bool = refl; on = refl; joint = refl; grouped = refl; labels = refl }
set_alike (Some (matching one_to_one c b values)) = record { bool = refl; on = refl; joint = refl; grouped = refl; labels = refl }
set_alike (Some (matching (many_to_one ls) c b values)) = record { bool = refl; on = refl; joint = refl; grouped = refl; labels = refl }
set_alike (Some (matching (one_to_many ls) c b values)) = record { bool = refl; on = refl; joint = refl; grouped = refl; labels = refl }
set_alike (Some (matching many_to_many c b values)) = record { bool = refl; on = refl; joint = refl; grouped = refl; labels = refl }

settled_alike : (op : ℕ) (m : Option Matching) → Alike (settle_matching op m) m
settled_alike op m = go (is_set_operator op)
  where
    go : (b : Bool) → Alike (cond b (Some (settled_set m)) m) m
    go true = set_alike m
    go false = same_alike m

pub read_alike : (op : ℕ) (m : Option Matching) → Alike (normal_modifier (settle_matching op m)) m
read_alike op m = both_alike _ (settle_matching op m) _ (reread_alike (settle_matching op m)) (settled_alike op m)

-- ---- the checks of a binary expression

unless_passes : (f : Option build_errors.Fault) (v : Verdict) (u : Tree) → unless f v ≡ passes u → (f ≡ None) × (v ≡ passes u)
unless_passes (Some f) v u e = cc
unless_passes None v u e = (refl, e)

no_fault : (f : Option build_errors.Fault) (v w : Verdict) → f ≡ None → v ≡ w → unless f v ≡ w
no_fault f v w e h = ap (λ f. unless f v) e ∙ h

when_none : (b : Bool) (f : build_errors.Fault) → when b f ≡ None → b ≡ false
when_none true f e = cc
when_none false f e = refl

both_none : (a b : Bool) (f g : build_errors.Fault) → first_fault (when a f ∷ when b g ∷ []) ≡ None → (a ≡ false) × (b ≡ false)
both_none true b f g e = cc
both_none false true f g e = cc
both_none false false f g e = (refl, refl)

ungrouped_of : (sl vl sr vr g : Bool) → (sl || sr) ≡ false → ((vl && vr) && g) ≡ false → not ((sl || vl) && (sr || vr)) ≡ false → g ≡ false
ungrouped_of sl vl sr vr false a b c = refl
ungrouped_of true vl sr vr true a b c = cc
ungrouped_of false vl true vr true a b c = cc
ungrouped_of false true false true true a b c = cc
ungrouped_of false true false false true a b c = cc
ungrouped_of false false false vr true a b c = cc

pub record PassesChecks (op : ℕ) (l r : Tree) (m : Option Matching) (t : Tree) : Type 0 where
  pub operator : operator_fault op (type_of l) (type_of r) m ≡ None
  pub label : label_fault m ≡ None
  pub set : set_fault op (type_of l) (type_of r) m ≡ None
  pub side : side_fault (type_of l) (type_of r) m ≡ None
  pub is : binary op l r (settle_matching op m) ≡ t

pub binary_checked : (op : ℕ) (l r : Tree) (m : Option Matching) (t : Tree) → checked_binary op l r m ≡ passes t → PassesChecks op l r m t
binary_checked op l r m t e =
    let one = unless_passes (operator_fault op (type_of l) (type_of r) m) _ t e in
    let two = unless_passes (label_fault m) _ t one.1 in
    let three = unless_passes (set_fault op (type_of l) (type_of r) m) _ t two.1 in
    let four = unless_passes (side_fault (type_of l) (type_of r) m) _ t three.1 in
    record { operator = one.0; label = two.0; set = three.0; side = four.0; is = cc }

pub set_has_no_group : (op : ℕ) (l r : Tree) (m : Option Matching) (t : Tree) → PassesChecks op l r m t → is_set_operator op ≡ true → is_grouped m ≡ false
set_has_no_group op l r m t c e =
    let set = both_none (is_set_operator op && (is_scalar (type_of l) || is_scalar (type_of r))) (is_set_operator op && ((is_vector (type_of l) && is_vector (type_of r)) && is_grouped m)) _ _ c.set in
    let side = both_none (not (is_scalar_or_vector (type_of l) && is_scalar_or_vector (type_of r))) (not (is_vector (type_of l) && is_vector (type_of r)) && has_matching_labels m) _ _ c.side in
    ungrouped_of (is_scalar (type_of l)) (is_vector (type_of l)) (is_scalar (type_of r)) (is_vector (type_of r)) (is_grouped m)
    (ap (λ b. b && (is_scalar (type_of l) || is_scalar (type_of r))) (sym e) ∙ set.0)
    (ap (λ b. b && ((is_vector (type_of l) && is_vector (type_of r)) && is_grouped m)) (sym e) ∙ set.1)
    side.0

-- trees of the same types and a modifier that says the same pass
pub checked_again : (op : ℕ) (l r l' r' : Tree) (m m' : Option Matching) (t : Tree) → type_of l' ≡ type_of l → type_of r' ≡ type_of r → Alike m' m → PassesChecks op l r m t
    → checked_binary op l' r' m' ≡ passes (binary op l' r' (settle_matching op m'))
checked_again op l r l' r' m m' t el er a c =
    no_fault (operator_fault op (type_of l') (type_of r') m') _ _ (operator ∙ c.operator)
    (no_fault (label_fault m') _ _ (label ∙ c.label)
    (no_fault (set_fault op (type_of l') (type_of r') m') _ _ (set ∙ c.set)
    (no_fault (side_fault (type_of l') (type_of r') m') _ _ (side ∙ c.side) refl)))
  where
    operator : operator_fault op (type_of l') (type_of r') m' ≡ operator_fault op (type_of l) (type_of r) m
    operator = λ i. first_fault (
        when (not (is_operator op)) (build_errors.binary_operator op)
        ∷ when (a.bool i && not (is_comparison_operator op)) build_errors.bool_modifier
        ∷ when (is_comparison_operator op && (is_scalar (el i) && (is_scalar (er i) && not (a.bool i)))) build_errors.scalar_comparison
        ∷ [])

    label : label_fault m' ≡ label_fault m
    label = λ i. cond (a.on i) (first_twice (a.joint i)) None

    set : set_fault op (type_of l') (type_of r') m' ≡ set_fault op (type_of l) (type_of r) m
    set = λ i. first_fault (
        when (is_set_operator op && (is_scalar (el i) || is_scalar (er i))) (build_errors.set_on_scalar op)
        ∷ when (is_set_operator op && ((is_vector (el i) && is_vector (er i)) && a.grouped i)) (build_errors.no_grouping op)
        ∷ [])

    side : side_fault (type_of l') (type_of r') m' ≡ side_fault (type_of l) (type_of r) m
    side = λ i. first_fault (
        when (not (is_scalar_or_vector (el i) && is_scalar_or_vector (er i))) build_errors.binary_types
        ∷ when (not (is_vector (el i) && is_vector (er i)) && a.labels i) build_errors.vector_matching
        ∷ [])

-- ---- the grammar's conditions

group_formed : (card : Cardinality) → IsGroup (group card)
group_formed one_to_one = tt
group_formed (many_to_one ls) = labels_formed ls
group_formed (one_to_many ls) = labels_formed ls
group_formed many_to_many = tt

matched_formed : (c : Option Clause) (card : Cardinality) → part.IsMatching (matching_of_clause c (group card))
matched_formed None card = tt
matched_formed (Some (including ls)) card = (labels_formed ls, group_formed card)
matched_formed (Some (excluding ls)) card = (labels_formed ls, group_formed card)

pub modifier_formed : (m : Option Matching) → part.IsMatching (modifier m).1
modifier_formed None = tt
modifier_formed (Some (matching card c b values)) = matched_formed (normal_matched (is_grouping card) c) card

-- a printed grouping word has its labels, so that a right side may begin with a parenthesis
fits_matched : (c : Option Clause) (card : Cardinality) (f : part.Fills) (ts : List Symbol) → FitsMatching (matching_of_clause c (group card)) f ts
fits_matched None card f ts = tt
fits_matched (Some (including ls)) one_to_one f ts = tt
fits_matched (Some (including ls)) (many_to_one ks) f ts = tt
fits_matched (Some (including ls)) (one_to_many ks) f ts = tt
fits_matched (Some (including ls)) many_to_many f ts = tt
fits_matched (Some (excluding ls)) one_to_one f ts = tt
fits_matched (Some (excluding ls)) (many_to_one ks) f ts = tt
fits_matched (Some (excluding ls)) (one_to_many ks) f ts = tt
fits_matched (Some (excluding ls)) many_to_many f ts = tt

pub fits_printed : (m : Option Matching) (ts : List Symbol) → FitsMatching (modifier m).1 (modifier m).2 ts
fits_printed None ts = tt
fits_printed (Some (matching card c b values)) ts = fits_matched (normal_matched (is_grouping card) c) card (fill_words values) ts
