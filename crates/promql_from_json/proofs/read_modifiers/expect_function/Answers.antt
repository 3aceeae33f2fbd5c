use borrow.Author.Differences.{ints}
use Rattle.std.proofs.lemmas.Grind.{common_steps}
use Rattle.std.proofs.Common.{refl, sym, ap, Some, codes, inl, inr, arith, rules, ◌≡◌, map}
use Rattle.promql_from_json.specs.FormMisfits.{by_row, by_function, exactly, function, list_of, one, differs}
use Rattle.promql_from_json.specs.declared.from_error.Expected.TheVariants.{FunctionPart, List as ListThere}
use Rattle.promql_from_json.proofs.ErrorPlaces.{either_by_kind, moved}
use Rattle.promql_kind.specs.Functions.{signature_of}
use Rattle.serde_json.specs.Data.{string}
use Rattle.promql_json.specs.JsonParts.{list, whole}
use Rattle.promql_json.specs.FormNames.{type_json}
use Rattle.promql_from_json.proofs.read_modifiers.expect_function.Goals as goal

pub returns-in-Err-expect_flag-clause-place : goal.returns-in-Err-expect_flag-clause-place
returns-in-Err-expect_flag-clause-place c = λ d row name types experimental gives variadic.
    c.inside-in-Err-expect_flag.ensures.place function _ d _ (by_function (signature_of c.args.function.now) d _ (codes "experimental") row name refl) experimental
    (c.in-Err-expect_flag.ensures.place c.in-Err-expect_flag.ensures.err)

pub returns-in-Err-given-clause-place : goal.returns-in-Err-given-clause-place
returns-in-Err-given-clause-place c = λ d row name types experimental gives variadic.
    c.inside-in-Err-given.ensures.place function (exactly (string c.type_name.result.now)) d _
    (by_function (signature_of c.args.function.now) d (string c.type_name.result.now) (codes "returnType") row name (ap (λ s. Some (string s)) (sym c.type_name.ensures))) gives
    (c.in-Err-given.ensures.place (exactly (string c.type_name.result.now)) (differs _ _ c.in-Err-given.ensures.err))

pub returns-in-Err-clause-place : goal.returns-in-Err-clause-place
returns-in-Err-clause-place c = λ d row name types experimental gives variadic.
    let is : c.args.function.now.arg_types.items ≡ c.deref.result.now = sym c.deref.ensures.value in
    elim (either_by_kind _ _ _ _ _ c.in-Err.ensures.err c.in-Err.ensures.place) [
      | inl h ↦ c.inside.ensures.place function (list_of ListThere (one FunctionPart)) d _ (by_row function (list_of ListThere (one FunctionPart)) d (codes "argTypes") refl) types h
      | inr h ↦ c.inside.ensures.place function (exactly (list (map type_json c.deref.result.now))) d _
          (by_function (signature_of c.args.function.now) d (list (map type_json c.deref.result.now)) (codes "argTypes") row name (ap (λ ts. Some (list (map type_json ts))) is)) types h
    ]

pub returns-in-Err-expect_whole-clause-place : goal.returns-in-Err-expect_whole-clause-place
returns-in-Err-expect_whole-clause-place c = λ d row name types experimental gives variadic.
    c.inside-in-Err-expect_whole.ensures.place function (exactly (whole c.args.function.now.variadic)) d _
    (by_function (signature_of c.args.function.now) d (whole c.args.function.now.variadic) (codes "variadic") row name refl) variadic
    (moved _ _ _ _ (c.in-Err-expect_whole.ensures.place c.in-Err-expect_whole.ensures.err) (first_of (omega (arith, ints), grind (arith, common_steps), search rules)))
