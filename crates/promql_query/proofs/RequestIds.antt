-- The id of a request.
use Rattle.std.proofs.Common.{◌≡◌, ◌⊎◌, ⊎_elim, inl, inr, ℕ, ◌≤◌, List, Some, ap, arith}
use Rattle.std.specs.Prelude.{Option}
use Rattle.std.specs.Cmp.Lexicographic.{slice_cmp}
use Rattle.std.specs.Ordering.{match_ordering, nat_cmp}
use Rattle.std.specs.declared.cmp.Ordering.{Ordering}
use Rattle.std.specs.declared.cmp.Ordering.TheVariants.{Less, Equal, Greater}
use Rattle.serde_json.specs.Data.{Data, null, boolean, number, string, array, object, Members, no_members, member, depth, members_depth}
use Rattle.serde_json.specs.Find.{get, get_member}

picked : {A : Type 0} (o : Ordering) (a b c : Option A) (x : A) → match_ordering o a b c ≡ Some x → (a ≡ Some x) ⊎ (b ≡ Some x) ⊎ (c ≡ Some x)
picked Less a b c x is = inl is
picked Equal a b c x is = inr (inl is)
picked Greater a b c x is = inr (inr is)

-- a member is no deeper than all members
member_depth : (key : List ℕ) (ms : Members) (d : Data) → get_member key ms ≡ Some d → depth d ≤ members_depth ms
member_depth key no_members d is = absurd cc
member_depth key (member k e ms) d is =
    let rest : get_member key ms ≡ Some d → depth d ≤ members_depth (member k e ms) = λ found. omega (arith, member_depth key ms d found) in
    ⊎_elim rest (⊎_elim (λ found. let same : e ≡ d = cc in omega (arith, ap depth same)) rest)
    (picked (slice_cmp nat_cmp key k) (get_member key ms) (Some e) (get_member key ms) d is)

pub id_depth : (key : List ℕ) (asked d : Data) → get key asked ≡ Some d → depth d ≤ depth asked
id_depth key (object ms) d is = omega (arith, member_depth key ms d is)
id_depth key null d is = absurd cc
id_depth key (boolean b) d is = absurd cc
id_depth key (number n) d is = absurd cc
id_depth key (string s) d is = absurd cc
id_depth key (array ds) d is = absurd cc
