-- A status tells its error.
use Rattle.std.proofs.Common.{◌≡◌, ◌⊎◌, ℕ, ap, inl, inr, refl, sym}
use Rattle.std.specs.Prelude.{◌≢◌}
use Rattle.promql_syntax.specs.declared.parser.ParseError.{ParseError}
use Rattle.promql_run.specs.declared.run.RunError.{RunError}
use Rattle.promql_run.specs.declared.run.RunError.TheVariants.{Memory, Read, NotUtf8, Parse, Write, Json}
use Rattle.promql_run.specs.Running.{error_number}

-- where the status is another one than that of a failed read
pub not_two : (e : RunError) (fact : Type 0) → ¬ (error_number e ≡ 2) → (e ≢ Read → fact) → fact
not_two e fact other holds = holds (λ is. other (ap error_number is))

pub four_is_parse : (e : RunError) → error_number e ≡ 4 → (p : ParseError) × (e ≡ Parse p)
four_is_parse (Parse p) four = (p, refl)
four_is_parse Memory four = cc
four_is_parse Read four = cc
four_is_parse NotUtf8 four = cc
four_is_parse Write four = cc
four_is_parse Json four = cc

pub five_is_write : (e : RunError) → error_number e ≡ 5 → e ≡ Write
five_is_write Write five = refl
five_is_write Memory five = cc
five_is_write Read five = cc
five_is_write NotUtf8 five = cc
five_is_write (Parse p) five = cc
five_is_write Json five = cc

pub none_is_zero : (e : RunError) → ¬ (error_number e ≡ 0)
none_is_zero Memory zero = cc
none_is_zero Read zero = cc
none_is_zero NotUtf8 zero = cc
none_is_zero (Parse p) zero = cc
none_is_zero Write zero = cc
none_is_zero Json zero = cc

-- where it is another one than that of a failed write
pub not_five : (e : RunError) (fact : Type 0) → ¬ (error_number e ≡ 5) → (e ≢ Write → fact) → fact
not_five e fact other holds = holds (λ is. other (ap error_number is))

pub two_is_read : (e : RunError) → error_number e ≡ 2 → e ≡ Read
two_is_read Read two = refl
two_is_read Memory two = cc
two_is_read NotUtf8 two = cc
two_is_read (Parse p) two = cc
two_is_read Write two = cc
two_is_read Json two = cc

pub three_is_not_utf8 : (e : RunError) → error_number e ≡ 3 → e ≡ NotUtf8
three_is_not_utf8 NotUtf8 three = refl
three_is_not_utf8 Memory three = cc
three_is_not_utf8 Read three = cc
three_is_not_utf8 (Parse p) three = cc
three_is_not_utf8 Write three = cc
three_is_not_utf8 Json three = cc

-- what a status says of an error that is the parser's, or of a number that is too wide
pub reason_of : (e : RunError) (status : ℕ) → status ≡ error_number e → (Fails : RunError → Type 0) → ((p : ParseError) → e ≡ Parse p → Fails (Parse p)) → (e ≡ Json → Fails Json)
    → (status ≡ 0) ⊎ (status ≡ 1) ⊎ (status ≡ 2) ⊎ (status ≡ 3) ⊎ (status ≡ 5) ⊎ ((f : RunError) × (error_number f ≡ status) × Fails f)
reason_of Memory status is Fails parse json = inr (inl is)
reason_of Read status is Fails parse json = inr (inr (inl is))
reason_of NotUtf8 status is Fails parse json = inr (inr (inr (inl is)))
reason_of (Parse p) status is Fails parse json = inr (inr (inr (inr (inr (Parse p, sym is, parse p refl)))))
reason_of Write status is Fails parse json = inr (inr (inr (inr (inl is))))
reason_of Json status is Fails parse json = inr (inr (inr (inr (inr (Json, sym is, json refl)))))
