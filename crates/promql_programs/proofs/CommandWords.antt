-- What the first word of some asks for, by the words after it.
use Rattle.std.proofs.Common.{◌≡◌, ◌-◌, ◌<◌, ◌≤◌, ℕ, Bool, List, [], ◌∷◌, length, take, drop, map, get_or, Global, String, string_bytes, subst, sym, arith}
use Rattle.std.specs.Prelude.{Option, None}
use Rattle.std.proofs.lemmas.List.{take_rest}
use Rattle.promql_run.specs.declared.ended.Ended.{Ended}
use Rattle.promql_programs.specs.Commands.{IsMisused, Obeys, ObeysAll, ObeysName, ObeysNamed, ShowsOr, asked_text}
use Rattle.promql_programs.specs.Jobs.{subcommand_named}
use Rattle.promql_programs.specs.declared.usage.TheConstants.{HELP, USAGE}

module _ {R W E : Type 0} (remaining : R → Option (List ℕ)) (contents : W → Option (List ℕ)) (said : E → Option (List ℕ)) (usual : Bool)
    (reader reader_after : Ended R) (writer writer_after : Ended W) (errors errors_after : Ended E) (status : ℕ) where
  pub after_own : (args : List (String Global)) → 1 ≤ length args
      → ObeysAll remaining contents said usual (map string_bytes (take (length args - 1) (drop 1 args))) reader reader_after writer writer_after errors errors_after status
      → Obeys remaining contents said usual (map string_bytes args) reader reader_after writer writer_after errors errors_after status
  after_own [] long obeys = absurd (omega (arith, long))
  after_own (own ∷ words) long obeys =
      subst (λ ws. ObeysAll remaining contents said usual (map string_bytes ws) reader reader_after writer writer_after errors errors_after status) (take_rest (own ∷ words) 1) obeys

  pub after_name : (words : List (String Global)) (name : String Global) → 1 ≤ length words → name ≡ get_or words 0 name
      → asked_text HELP.now (map string_bytes words) ≡ None
      → ObeysName remaining contents said usual (subcommand_named (string_bytes name)) (map string_bytes (take (length words - 1) (drop 1 words))) reader reader_after writer writer_after errors errors_after status
      → ObeysAll remaining contents said usual (map string_bytes words) reader reader_after writer writer_after errors errors_after status
  after_name [] name long first none obeys = absurd (omega (arith, long))
  after_name (w ∷ words) name long first none obeys =
      subst
      (λ shown. ShowsOr remaining contents said usual shown (ObeysNamed remaining contents said usual (map string_bytes (w ∷ words))) reader reader_after writer writer_after errors errors_after status)
      (sym none)
      (subst (λ n. ObeysName remaining contents said usual (subcommand_named (string_bytes n)) (map string_bytes words) reader reader_after writer writer_after errors errors_after status) first
      (subst (λ ws. ObeysName remaining contents said usual (subcommand_named (string_bytes name)) (map string_bytes ws) reader reader_after writer writer_after errors errors_after status) (take_rest (w ∷ words) 1) obeys))

  pub no_words : (words : List (String Global)) → length words < 1
      → IsMisused remaining contents said usual USAGE.now reader reader_after writer writer_after errors errors_after status
      → ObeysAll remaining contents said usual (map string_bytes words) reader reader_after writer writer_after errors errors_after status
  no_words [] short misused = misused
  no_words (word ∷ words) short misused = absurd (omega (arith, short))

  pub no_args : (args : List (String Global)) → length args < 1
      → IsMisused remaining contents said usual USAGE.now reader reader_after writer writer_after errors errors_after status
      → Obeys remaining contents said usual (map string_bytes args) reader reader_after writer writer_after errors errors_after status
  no_args [] short misused = misused
  no_args (own ∷ words) short misused = absurd (omega (arith, short))
