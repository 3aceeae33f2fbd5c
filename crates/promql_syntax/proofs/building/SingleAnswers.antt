-- Building with one answer for each pattern, step by step.
use Rattle.std.proofs.Common.{◌≡◌, refl, ◌∙◌, ap}
use Rattle.std.specs.Prelude.{Result, Ok, Err}
use Rattle.promql_text.specs.Texts.{Text}
use Rattle.promql_label.specs.Answers.{Answer}
use Rattle.promql_ast.specs.Faults.{Verdict, passes, rejected}
use Rattle.promql_ast.specs.Tree.{Tree}
use Rattle.promql_ast.specs.Checked.{check_tree}
use Rattle.promql_grammar.specs.Results.{◌then◌}
use Rattle.promql_syntax.specs.Asking.{Asking, gives, fails, asks, ◌giving◌, known, under}
use Rattle.promql_syntax.specs.Building.{from_verdict, from_checked_verdict}
use Rattle.promql_syntax.specs.BuildErrors.{BuildError}

-- a step and what it leads to
pub record Steps {A B : Type 0} (first : Result A BuildError) (next : A → Result B BuildError) (y : B) : Type 0 where
  pub value : A
  pub is : first ≡ Ok value
  pub leads : next value ≡ Ok y

pub then_steps : {A B : Type 0} (r : Result A BuildError) (f : A → Result B BuildError) (y : B) → (r then f) ≡ Ok y → Steps r f y
then_steps (Ok x) f y e = record { value = x; is = refl; leads = e }
then_steps (Err u) f y e = cc

pub then_leads : {A B : Type 0} (r : Result A BuildError) (f : A → Result B BuildError) (x : A) (s : Result B BuildError) → r ≡ Ok x → f x ≡ s → (r then f) ≡ s
then_leads (Ok z) f x s e h = let same : z ≡ x = cc in ap f same ∙ h
then_leads (Err u) f x s e h = cc

pub same_ok : {A : Type 0} (x y : A) (a b : Result A BuildError) → a ≡ Ok x → b ≡ Ok y → a ≡ b → x ≡ y
same_ok x y a b e f g = cc

module _ (g : Text → Answer) where
  pub giving_steps : {A B : Type 0} (m : Asking A) (f : A → Asking B) (y : B) → under g (m giving f) ≡ Ok y → Steps (under g m) (λ x. under g (f x)) y
  giving_steps (gives x) f y e = record { value = x; is = refl; leads = e }
  giving_steps (fails u) f y e = cc
  giving_steps (asks v next) f y e = giving_steps (next (g v)) f y e

  pub giving_leads : {A B : Type 0} (m : Asking A) (f : A → Asking B) (x : A) (s : Result B BuildError) → under g m ≡ Ok x → under g (f x) ≡ s → under g (m giving f) ≡ s
  giving_leads (gives z) f x s e h = let same : z ≡ x = cc in ap (λ z. under g (f z)) same ∙ h
  giving_leads (fails u) f x s e h = cc
  giving_leads (asks v next) f x s e h = giving_leads (next (g v)) f x s e h

  pub known_steps : {A B : Type 0} (r : Result A BuildError) (f : A → Asking B) (y : B) → under g (known r giving f) ≡ Ok y → Steps r (λ x. under g (f x)) y
  known_steps (Ok x) f y e = record { value = x; is = refl; leads = e }
  known_steps (Err u) f y e = cc

  pub known_leads : {A B : Type 0} (r : Result A BuildError) (f : A → Asking B) (x : A) (s : Result B BuildError) → r ≡ Ok x → under g (f x) ≡ s → under g (known r giving f) ≡ s
  known_leads (Ok z) f x s e h = let same : z ≡ x = cc in ap (λ z. under g (f z)) same ∙ h
  known_leads (Err u) f x s e h = cc

  pub passing_passes : (v : Verdict) (t : Tree) → under g (from_verdict v) ≡ Ok t → v ≡ passes t
  passing_passes (passes u) t e = let same : u ≡ t = cc in ap passes same
  passing_passes (rejected u) t e = cc

  pub passes_passing : (v : Verdict) (t : Tree) → v ≡ passes t → under g (from_verdict v) ≡ Ok t
  passes_passing v t e = ap (λ v. under g (from_verdict v)) e

  pub record Checks (v : Verdict) (t : Tree) : Type 0 where
    pub tree : Tree
    pub made : v ≡ passes tree
    pub passes : check_tree tree ≡ passes t

  pub checks_pass : (v : Verdict) (t : Tree) → under g (from_checked_verdict v) ≡ Ok t → Checks v t
  checks_pass (passes u) t e = record { tree = u; made = refl; passes = passing_passes (check_tree u) t e }
  checks_pass (rejected u) t e = cc

  pub pass_checks : (v : Verdict) (u t : Tree) → v ≡ passes u → check_tree u ≡ passes t → under g (from_checked_verdict v) ≡ Ok t
  pass_checks v u t e h = ap (λ v. under g (from_checked_verdict v)) e ∙ passes_passing (check_tree u) t h
