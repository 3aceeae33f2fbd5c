-- What a compiled pattern finds is what its text says.
use Rattle.std.proofs.Common.{◌≡◌, ℕ, ◌<◌, true, false, List, [], get_or, Option, None, Some, is_some, option_map, unwrap_or, chars, ap, ◌∙◌, arith}
use Rattle.std.specs.Option.{IsSomeAnd}
use Rattle.regex_syntax.specs.Brackets.{Nested}
use Rattle.regex_syntax.specs.Grammar.{Names, read}
use Rattle.regex_hir.specs.Meaning.{meaning}
use Rattle.regex_hir.specs.declared.hir.Hir.{Hir}
use Rattle.regex.specs.Patterns.{Re, SameCaptures, Reads, default_config, find_str}
use Rattle.regex.specs.Strings.{regex_source, regex_config, regex_pattern, IsReadFromSource}
use Rattle.regex.specs.declared.string.regex.Regex.{Regex}
use Rattle.regex.proofs.ForCallers.{is_match_alike}
use Rattle.promql_label.specs.Answers.{finds}
use Rattle.promql_text.specs.Texts.{Text}

-- a pattern that matches as what was read finds the same
found_alike : (a : Re) (z : Text) → ((k : ℕ) → get_or z k 0 < 256) → (P : Nested Re × Names → Type 0) →
    ((p : Nested Re × Names) → P p → SameCaptures a p.0.value) → (o : Option (Nested Re × Names)) → IsSomeAnd o P →
    is_some (find_str a z 0) ≡ unwrap_or (option_map (λ p. is_some (find_str p.0.value z 0)) o) false
found_alike a z bytes P same None h = absurd h
found_alike a z bytes P same (Some p) h = is_match_alike (same p h) z bytes true 0

-- what the compiled pattern finds in a text is what its own text finds there
pub finds_of_read : (r : Regex) (z : Text) → ((k : ℕ) → get_or z k 0 < 256) → regex_config r ≡ default_config →
    IsReadFromSource r → is_some (find_str (regex_pattern r) z 0) ≡ finds (regex_source r) z
unfolding Reads
finds_of_read r z bytes default is =
    found_alike (regex_pattern r) z bytes _ (λ p h. h.1) (read (regex_config r) (chars (regex_source r))) is
    ∙ ap (λ config. unwrap_or (option_map (λ p. is_some (find_str p.0.value z 0)) (read config (chars (regex_source r)))) false) default

-- what the tree that was read finds in the empty text is what its text finds there
pub nothing_of_read : (w : Text) (tree : Hir) (names : List (Option Text)) → Reads default_config w tree names → is_some (find_str (meaning tree) [] 0) ≡ finds w []
unfolding Reads
nothing_of_read w tree names reads = found_alike (meaning tree) [] (λ k. omega arith) _ (λ p h. h.1) (read default_config (chars w)) reads
