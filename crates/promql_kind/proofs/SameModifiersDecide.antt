-- The tests of modifiers, numbers, value types and functions decide `≡`, and `==` is these tests.
use Rattle.std.proofs.Common.{◌≡◌, Bool, List, Option, Some, None, refl, ap}
use lib.Pointwise.{pointwise}
use Rattle.std.specs.Bool.{Decides}
use Rattle.std.specs.Cmp.{booleans_Decides}
use Rattle.std.specs.Option.{option_eq}
use Rattle.std.proofs.lemmas.Bool.Decides.{Decides-and, Decides-eqb, Decides-int_eq, Decides-like}
use Rattle.std.proofs.lemmas.Slice.Eq.{bytes_eq-Decides, slice_eq-Decides}
use Rattle.promql_text.specs.Numbers.{Exact}
use Rattle.promql_text.specs.declared.number.Number.{Number}
use Rattle.promql_text.specs.declared.number.Number.TheVariants.{Finite, Inf, NegInf, NaN}
use Rattle.promql_text.specs.Texts.{Text}
use Rattle.promql_kind.specs.Functions.{Signature, signature}
use Rattle.promql_kind.specs.Modifiers.{Clause, including, excluding, Cardinality, one_to_one, many_to_one, one_to_many, many_to_many, Fills, fills, Matching, matching, exact_eq, number_eq}
use Rattle.promql_kind.specs.SameModifiers.{texts_eq, clause_eq, cardinality_eq, fills_eq, matching_eq, signature_eq}
use Rattle.promql_kind.specs.ValueTypes.{type_eq}
use Rattle.promql_kind.specs.declared.value.ValueType.{ValueType}
use Rattle.promql_kind.specs.declared.value.ValueType.TheVariants as kind

pub option_eq-Decides : {X : Type 0} {same : X → X → Bool} → ((a b : X) → Decides (same a b) (a ≡ b))
    → (a b : Option X) → Decides (option_eq same a b) (a ≡ b)
option_eq-Decides each None None = ((λ _. refl), (λ _. refl))
option_eq-Decides each (Some a) (Some b) = Decides-like _ (λ e. ap Some e) (λ e. cc) (each a b)
option_eq-Decides each _ _ = ((λ h. cc), (λ h. cc))

pub texts_eq-Decides : (ls ks : List Text) → Decides (texts_eq ls ks) (ls ≡ ks)
texts_eq-Decides ls ks = slice_eq-Decides bytes_eq-Decides ls ks (texts_eq ls ks) refl

pub clause_eq-Decides : (a b : Clause) → Decides (clause_eq a b) (a ≡ b)
clause_eq-Decides (including ls) (including ks) = Decides-like _ (λ e. ap including e) (λ e. cc) (texts_eq-Decides ls ks)
clause_eq-Decides (excluding ls) (excluding ks) = Decides-like _ (λ e. ap excluding e) (λ e. cc) (texts_eq-Decides ls ks)
clause_eq-Decides _ _ = ((λ h. cc), (λ h. cc))

pub cardinality_eq-Decides : (a b : Cardinality) → Decides (cardinality_eq a b) (a ≡ b)
cardinality_eq-Decides one_to_one one_to_one = ((λ _. refl), (λ _. refl))
cardinality_eq-Decides (many_to_one ls) (many_to_one ks) = Decides-like _ (λ e. ap many_to_one e) (λ e. cc) (texts_eq-Decides ls ks)
cardinality_eq-Decides (one_to_many ls) (one_to_many ks) = Decides-like _ (λ e. ap one_to_many e) (λ e. cc) (texts_eq-Decides ls ks)
cardinality_eq-Decides many_to_many many_to_many = ((λ _. refl), (λ _. refl))
cardinality_eq-Decides _ _ = ((λ h. cc), (λ h. cc))

exact_eq-Decides : (a b : Exact) → Decides (exact_eq a b) (a ≡ b)
exact_eq-Decides a b =
    Decides-like _
    (λ same i. record { is_negative = same.1.1.1 i; digits = same.0 i; zeros = same.1.0 i; places = same.1.1.0 i })
    (λ same. (ap (λ d. d.digits) same, (ap (λ d. d.zeros) same, (ap (λ d. d.places) same, ap (λ d. d.is_negative) same))))
    (Decides-and _ _ (Decides-eqb a.digits b.digits)
    (Decides-and _ _ (Decides-eqb a.zeros b.zeros)
    (Decides-and _ _ (Decides-eqb a.places b.places) (booleans_Decides a.is_negative b.is_negative))))

pub number_eq-Decides : (a b : Number) → Decides (number_eq a b) (a ≡ b)
number_eq-Decides (Finite a) (Finite b) = Decides-like _ (λ e. ap Finite e) (λ e. cc) (exact_eq-Decides a b)
number_eq-Decides Inf Inf = ((λ _. refl), (λ _. refl))
number_eq-Decides NegInf NegInf = ((λ _. refl), (λ _. refl))
number_eq-Decides NaN NaN = ((λ _. refl), (λ _. refl))
number_eq-Decides _ _ = ((λ h. cc), (λ h. cc))

pub type_eq-Decides : (a b : ValueType) → Decides (type_eq a b) (a ≡ b)
type_eq-Decides kind.Vector kind.Vector = ((λ _. refl), (λ _. refl))
type_eq-Decides kind.Scalar kind.Scalar = ((λ _. refl), (λ _. refl))
type_eq-Decides kind.Matrix kind.Matrix = ((λ _. refl), (λ _. refl))
type_eq-Decides kind.String kind.String = ((λ _. refl), (λ _. refl))
type_eq-Decides _ _ = ((λ h. cc), (λ h. cc))

pub fills_eq-Decides : (a b : Fills) → Decides (fills_eq a b) (a ≡ b)
fills_eq-Decides (fills r l) (fills s m) =
    Decides-like _ (λ same. let right = same.0 in let left = same.1 in cc) (λ e. (cc, cc))
    (Decides-and _ _ (option_eq-Decides number_eq-Decides r s) (option_eq-Decides number_eq-Decides l m))

pub matching_eq-Decides : (a b : Matching) → Decides (matching_eq a b) (a ≡ b)
matching_eq-Decides (matching c m b f) (matching d n e g) =
    Decides-like _
    (λ same. let card = same.0 in let clause = same.1.0 in let bool = same.1.1.0 in let values = same.1.1.1 in cc)
    (λ same. (cc, (cc, (cc, cc))))
    (Decides-and _ _ (cardinality_eq-Decides c d)
    (Decides-and _ _ (option_eq-Decides clause_eq-Decides m n)
    (Decides-and _ _ (booleans_Decides b e) (fills_eq-Decides f g))))

pub signature_eq-Decides : (a b : Signature) → Decides (signature_eq a b) (a ≡ b)
signature_eq-Decides (signature n xs v g e) (signature m ys w h f) =
    Decides-like _
    (λ same. let name = same.0 in let types = same.1.0 in let more = same.1.1.0 in let gives = same.1.1.1.0 in let experimental = same.1.1.1.1 in cc)
    (λ same. (cc, (cc, (cc, (cc, cc)))))
    (Decides-and _ _ (bytes_eq-Decides n m)
    (Decides-and _ _ (slice_eq-Decides type_eq-Decides xs ys (pointwise type_eq xs ys) refl)
    (Decides-and _ _ (Decides-int_eq v w)
    (Decides-and _ _ (type_eq-Decides g h) (booleans_Decides e f)))))
