-- What the forms of a value that were tried say of its answer.
use Rattle.std.proofs.Common.{◌≡◌, ◌≢◌, ◌<◌, ◌≤◌, true, false, Option, Some, None, option_map, unwrap_or, chars, is_some, subst, sym, refl, ap, ap₂, ◌&&◌, ◌∙◌, ⊎_elim, Bool, true≢false, le-leb, leb-true, arith}
use Rattle.std.specs.Prelude.{IfSome, nat_le}
use Rattle.std.specs.Option.{IsSomeAnd}
use Rattle.regex_syntax.specs.Brackets.{Nested}
use Rattle.regex_syntax.specs.Grammar.{Names, read}
use Rattle.regex_syntax.specs.declared.error.ErrorKind.{ErrorKind}
use Rattle.regex_syntax.specs.declared.error.ErrorKind.TheVariants as kind
use Rattle.regex.specs.Patterns.{Re, Reads, Refuses, default_config}
use Rattle.regex.specs.Names.{names_of}
use Rattle.regex.specs.Strings.{regex_source}
use Rattle.regex.specs.declared.string.regex.Regex.{Regex}
use Rattle.promql_label.specs.Answers.{Allows, anchor, Answer, as_it_is, built, by_escaping, is_read, is_read_pair, neither, rejected}
use Rattle.promql_label.specs.EngineAnswers.{AllowsBy, by_itself, by_its_escaped, by_none, IsCompiledFrom, IsReadPair, IsTriedBy, MayRejectBy}
use Rattle.promql_label.specs.Repeats.{escaped_repeats}
use Rattle.promql_text.specs.Texts.{Text}

module _ (Rejects : Text → Type 0) where
  tried_as : (u form : Text) (o made : Option Text) → o ≡ made → u ≡ form → IsTriedBy Rejects u o → IsTriedBy Rejects form made
  tried_as u form o made made_is form_is tried = subst (λ f. IsTriedBy Rejects f made) form_is (subst (IsTriedBy Rejects u) made_is tried)

  pub read_as_it_is : (v w : Text) (o : Option Text) → o ≡ Some w → IsTriedBy Rejects v o → AllowsBy Rejects v (built w)
  read_as_it_is v w o is tried =
      let read : IsTriedBy Rejects v (Some w) = subst (IsTriedBy Rejects v) is tried in
      subst (λ w. AllowsBy Rejects v (built w)) (sym read.0) (by_itself v read.1)

  pub read_escaped : (v u w : Text) (o : Option Text) → MayRejectBy Rejects v (anchor v) → u ≡ escaped_repeats v → o ≡ Some w → IsTriedBy Rejects u o → AllowsBy Rejects v (built w)
  read_escaped v u w o rejects form is tried =
      let read = tried_as u (escaped_repeats v) o (Some w) is form tried in
      subst (λ w. AllowsBy Rejects v (built w)) (sym read.0) (by_its_escaped v rejects read.1)

  pub rejected_twice : (v u : Text) (o : Option Text) → MayRejectBy Rejects v (anchor v) → u ≡ escaped_repeats v → o ≡ None → IsTriedBy Rejects u o → AllowsBy Rejects v rejected
  rejected_twice v u o rejects form is tried = by_none v rejects (tried_as u (escaped_repeats v) o None is form tried)

pub pair_read : (u : Text) → IsReadPair u → is_read_pair u ≡ true
pair_read u h = ap₂ (λ a b. a && b) h.0 h.1

-- what is allowed by some engine is allowed
pub allowed : (Rejects : Text → Type 0) (v : Text) (a : Answer) → AllowsBy Rejects v a → Allows v a
allowed Rejects v a (by_itself _ read) = as_it_is v (pair_read v read)
allowed Rejects v a (by_its_escaped _ rejects read) = by_escaping v rejects.0 (pair_read (escaped_repeats v) read)
allowed Rejects v a (by_none _ rejects again) = neither v rejects.0 again.0

-- what the grammar reads is nested no deeper than its limit
pub read_within_limit : (w : Text) (P : Nested Re × Names → Type 0) → ((p : Nested Re × Names) → P p → p.0.depth ≤ default_config.nest_limit)
    → IsSomeAnd (read default_config (chars w)) P → is_read w ≡ true
read_within_limit w P bound h = go (read default_config (chars w)) h
  where
    go : (o : Option (Nested Re × Names)) → IsSomeAnd o P → unwrap_or (option_map (λ p. nat_le p.0.depth default_config.nest_limit) o) false ≡ true
    go None h = absurd h
    go (Some p) h = le-leb _ _ (bound p h)

-- what is compiled is read
pub compiled_is_read : (w : Text) (r : Regex) → IsCompiledFrom w r → is_read w ≡ true
unfolding Reads
compiled_is_read w r (source, config, reads) =
    subst (λ v. is_read v ≡ true) source
    (read_within_limit (regex_source r) _ (λ p h. h.0) (subst (λ n. Reads n (regex_source r) r.pattern.program.hir (names_of r.pattern.names.items)) config reads))

-- what `regex` takes is read
pub taken_is_read : (w : Text) (o : Option Regex) (taken : Bool) → taken ≡ is_some o → IfSome o (IsCompiledFrom w) → taken ≡ true → is_read w ≡ true
taken_is_read w None taken is compiled took = absurd (true≢false (sym took ∙ is))
taken_is_read w (Some r) taken is compiled took = compiled_is_read w r compiled

past_limit : (o : Option (Nested Re × Names)) → IfSome o (λ p. default_config.nest_limit < p.0.depth) → unwrap_or (option_map (λ p. nat_le p.0.depth default_config.nest_limit) o) false ≡ false
past_limit None h = refl
past_limit (Some p) h = go (nat_le p.0.depth default_config.nest_limit) refl
  where
    go : (b : Bool) → nat_le p.0.depth default_config.nest_limit ≡ b → nat_le p.0.depth default_config.nest_limit ≡ false
    go true e = absurd (omega (arith, leb-true p.0.depth default_config.nest_limit e, h))
    go false e = e

-- an error of the grammar but for memory says that it doesn't read the text
pub rejected_by_grammar : (w : Text) (k : ErrorKind) → k ≢ kind.OutOfMemory → Refuses default_config w k → is_read w ≡ false
unfolding Refuses
rejected_by_grammar w k known refuses = ⊎_elim
    (λ memory. absurd (known memory))
    (λ other. ⊎_elim
    (λ none. ap (λ o. unwrap_or (option_map (λ (p : Nested Re × Names). nat_le p.0.depth default_config.nest_limit) o) false) none)
    (λ deep. past_limit (read default_config (chars w)) deep.1)
    other)
    refuses
