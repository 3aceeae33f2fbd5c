use Rattle.std.proofs.Common.{◌≡◌, Option, Some, None, Ok, Err, option_map, sym}
use Rattle.std.specs.Prelude.{Result, IfOk, IfSome}
use Rattle.std.specs.declared.alloc.AllocError.{AllocError}
use Rattle.promql_text.specs.Texts.{Text}
use Rattle.promql_kind.specs.Functions.{function_named, name_of, signature_of}
use Rattle.promql_kind.specs.declared.function.Function.{Function}
use Rattle.promql_kind.proofs.NamedFunctions.{named_so}
use Rattle.promql_from_json.proofs.read_modifiers.named_function.Goals as goal

named : (r : Result (Option Function) AllocError) (name : Text) → IfOk r (λ found. option_map signature_of found ≡ function_named name)
    → IfOk r (λ found. IfSome found (λ f. name_of (signature_of f) ≡ name))
named (Ok (Some f)) name h = named_so name (signature_of f) (sym h)
named (Ok None) name h = tt
named (Err e) name h = tt

pub returns : goal.returns
returns c = record { found = named c.get_function.result c.args.name.now c.get_function.ensures.found; row = c.get_function.ensures.found }
