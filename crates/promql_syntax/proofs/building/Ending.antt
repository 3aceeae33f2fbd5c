-- Building that asks: what follows a value, and what follows an error.
use Rattle.std.proofs.Common.{◌≡◌, ◌↔◌, refl, sym, ◌∙◌, ap, subst, List, [], ◌∷◌, ◌++◌}
use Rattle.std.specs.Prelude.{Result, Ok, Err}
use Rattle.std.specs.declared.alloc.Global.{Global}
use Rattle.std.specs.declared.boxed.Box.{Box}
use Rattle.promql_label.specs.Answers.{Answer}
use Rattle.promql_text.specs.Texts.{Text}
use Rattle.promql_syntax.specs.declared.grammar.build_error.BuildError as code
use Rattle.promql_syntax.specs.Asking.{Asking, gives, fails, asks, ◌giving◌, known, Asked, AreAllowed, AreAnswersOf, Ends, under, EndsIn}
use Rattle.promql_syntax.specs.BuildErrors.{BuildError, view_result}
use Rattle.promql_syntax.specs.ParsesPart.{IsBuiltBy}

-- the answers to both
allowed_both : (xs ys : List Asked) → AreAllowed xs → AreAllowed ys → AreAllowed (xs ++ ys)
allowed_both [] ys first second = second
allowed_both (a ∷ xs) ys first second = (first.0, allowed_both xs ys first.1 second)

ends_giving : {A B : Type 0} (m : Asking A) (f : A → Asking B) (xs ys : List Asked) (x : A) (r : Result B BuildError) → Ends m xs (Ok x) → Ends (f x) ys r → Ends (m giving f) (xs ++ ys) r
ends_giving (gives y) f [] ys x r ends after = let same : x ≡ y = cc in subst (λ z. Ends (f z) ys r) same after
ends_giving (gives y) f (a ∷ xs) ys x r ends after = absurd ends
ends_giving (fails e) f [] ys x r ends after = cc
ends_giving (fails e) f (a ∷ xs) ys x r ends after = absurd ends
ends_giving (asks v next) f [] ys x r ends after = absurd ends
ends_giving (asks v next) f (a ∷ xs) ys x r ends after = (ends.0, ends_giving (next a.answer) f xs ys x r ends.1 after)

ends_failing : {A B : Type 0} (m : Asking A) (f : A → Asking B) (xs : List Asked) (e : BuildError) → Ends m xs (Err e) → Ends (m giving f) xs (Err e)
ends_failing (gives y) f [] e ends = cc
ends_failing (gives y) f (a ∷ xs) e ends = absurd ends
ends_failing (fails d) f [] e ends = let same : e ≡ d = cc in ap Err same
ends_failing (fails d) f (a ∷ xs) e ends = absurd ends
ends_failing (asks v next) f [] e ends = absurd ends
ends_failing (asks v next) f (a ∷ xs) e ends = (ends.0, ends_failing (next a.answer) f xs e ends.1)

-- ---- with answers that are allowed

pub ends_known : {A : Type 0} (r : Result A BuildError) → EndsIn (known r) r
ends_known (Ok x) = record { answers = []; allowed = tt; ends = refl }
ends_known (Err e) = record { answers = []; allowed = tt; ends = refl }

pub then_value : {A B : Type 0} (m : Asking A) (f : A → Asking B) (x : A) (r : Result B BuildError) → EndsIn m (Ok x) → EndsIn (f x) r → EndsIn (m giving f) r
then_value m f x r before after = record {
  answers = before.answers ++ after.answers;
  allowed = allowed_both before.answers after.answers before.allowed after.allowed;
  ends = ends_giving m f before.answers after.answers x r before.ends after.ends;
}

pub then_fault : {A B : Type 0} (m : Asking A) (f : A → Asking B) (e : BuildError) → EndsIn m (Err e) → EndsIn (m giving f) (Err e)
then_fault m f e before = record {
  answers = before.answers;
  allowed = before.allowed;
  ends = ends_failing m f before.answers e before.ends;
}

pub ends_held : {V A : Type 0} (view : V → A) (value : Result V (Box code.BuildError Global)) (m : Asking A) → IsBuiltBy view value m → EndsIn m (view_result view value)
ends_held view value m built = record { answers = built.answers; allowed = built.allowed; ends = built.ends }

-- ---- one answer for each pattern

pub ends_under : {A : Type 0} (g : Text → Answer) (m : Asking A) (xs : List Asked) (r : Result A BuildError) → Ends m xs r → AreAnswersOf g xs → r ≡ under g m
ends_under g (gives x) [] r ends single = ends
ends_under g (gives x) (a ∷ xs) r ends single = absurd ends
ends_under g (fails e) [] r ends single = ends
ends_under g (fails e) (a ∷ xs) r ends single = absurd ends
ends_under g (asks v next) [] r ends single = absurd ends
ends_under g (asks v next) (a ∷ xs) r ends single =
    let same : a.answer ≡ g v = single.0 ∙ ap g ends.0 in
    ends_under g (next a.answer) xs r ends.1 single.1 ∙ ap (λ x. under g (next x)) same

-- what is asked, with these answers
abbrev pub path : {A : Type 0} → (Text → Answer) → Asking A → List Asked
path g (gives x) = []
path g (fails fault) = []
path g (asks v next) = record { about = v; answer = g v } ∷ path g (next (g v))

pub path_ends : {A : Type 0} (g : Text → Answer) (m : Asking A) → Ends m (path g m) (under g m)
path_ends g (gives x) = refl
path_ends g (fails fault) = refl
path_ends g (asks v next) = (refl, path_ends g (next (g v)))

path_answers : {A : Type 0} (g : Text → Answer) (m : Asking A) → AreAnswersOf g (path g m)
path_answers g (gives x) = tt
path_answers g (fails fault) = tt
path_answers g (asks v next) = (refl, path_answers g (next (g v)))

pub single_ends : {A : Type 0} (g : Text → Answer) (m : Asking A) (r : Result A BuildError) → (under g m ≡ r) ↔ ((answers : List Asked) × AreAnswersOf g answers × Ends m answers r)
single_ends g m r = (
  λ same. (path g m, path_answers g m, subst (Ends m (path g m)) same (path_ends g m)),
  λ h. sym (ends_under g m h.0 r h.2 h.1),
)
