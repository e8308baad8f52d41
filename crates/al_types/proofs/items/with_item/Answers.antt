use Rattle.al_rules.specs.declared.faults.TypeKind.TheVariants.{Shape, Mismatch}
use Rattle.std.proofs.Common.{not, [], refl}
use Rattle.al_rules.specs.Checks.{ensure}
use Rattle.al_rules.specs.Scopes.{is_struct}
use Rattle.al_rules.specs.Types.{type_checked, is_held, is_scalar, is_result}
use Rattle.al_rules.specs.Programs.{is_empty, may_start}
use Rattle.al_type_names.specs.Definitions.{fields_by, is_taken_in, struct_by, global_by, func_by}
use Rattle.al_type_names.specs.NameLists.{named_in}
use Rattle.al_types.proofs.ItemLemmas.{is_new}
use Rattle.std.proofs.lemmas.Result.{err_from_is_err_and}
use Rattle.al_types.proofs.Walked.{lined}
use Rattle.al_types.proofs.items.with_item.Goals as goal

pub with_struct-requires : goal.with_struct-requires
with_struct-requires c =
    let known = c.args.known in
    let anywhere = named_in c.args.anywhere.now in
    let s = c.in-Struct.s in
    is_new (is_struct known.structs s.name) (ensure (not (is_empty s.fields)) Shape)
    (fields_by (is_struct known.structs) anywhere is_held [] s.fields) s.line c.in_ok-at_line-in-Struct.field-0
    (c.in_ok-at_line-in-Struct.ensures (struct_by known anywhere s) c.check_struct.ensures)

pub with_global-requires : goal.with_global-requires
with_global-requires c =
    let known = c.args.known in
    let anywhere = named_in c.args.anywhere.now in
    let g = c.in-Global.g in
    is_new (is_taken_in known g.name) (type_checked (is_struct known.structs) anywhere is_held g.ty)
    (ensure (may_start g.start g.ty) Mismatch) g.line c.in_ok-at_line-in-Global.field-0
    (c.in_ok-at_line-in-Global.ensures (global_by known anywhere g) c.check_global.ensures)

pub with_func-requires : goal.with_func-requires
with_func-requires c =
    let known = c.args.known in
    let anywhere = named_in c.args.anywhere.now in
    let f = c.in-Func.f in
    is_new (is_taken_in known f.name) (type_checked (is_struct known.structs) anywhere is_result f.result)
    (fields_by (is_struct known.structs) anywhere is_scalar [] f.params) f.line c.in_ok-at_line-in-Func.field-0
    (c.in_ok-at_line-in-Func.ensures (func_by known anywhere f) c.check_func.ensures)

pub returns-in_err-at_line-in-Struct : goal.returns-in_err-at_line-in-Struct
returns-in_err-at_line-in-Struct c =
    let p = err_from_is_err_and c.from_residual.result c.from_residual.ensures.1 in
    let s = c.in-Struct.s in
    let check = struct_by c.args.known (named_in c.args.anywhere.now) s in
    rw (p.1, p.2, c.in-Struct.is)
    (lined s.line check _ c.check_struct.result c.in_err-at_line-in-Struct.field-0.0 c.check_struct.ensures
    c.in_err-at_line-in-Struct.ensures (λ d is. rw is refl))

pub returns-in_err-at_line-in-Global : goal.returns-in_err-at_line-in-Global
returns-in_err-at_line-in-Global c =
    let p = err_from_is_err_and c.from_residual-in_err-at_line-in-Global.result c.from_residual-in_err-at_line-in-Global.ensures.1 in
    let g = c.in-Global.g in
    let check = global_by c.args.known (named_in c.args.anywhere.now) g in
    rw (p.1, p.2, c.in-Global.is)
    (lined g.line check _ c.check_global.result c.in_err-at_line-in-Global.field-0.0 c.check_global.ensures
    c.in_err-at_line-in-Global.ensures (λ d is. rw is refl))

pub returns-in_err-at_line-in-Func : goal.returns-in_err-at_line-in-Func
returns-in_err-at_line-in-Func c =
    let p = err_from_is_err_and c.from_residual-in_err-at_line-in-Func.result c.from_residual-in_err-at_line-in-Func.ensures.1 in
    let f = c.in-Func.f in
    let check = func_by c.args.known (named_in c.args.anywhere.now) f in
    rw (p.1, p.2, c.in-Func.is)
    (lined f.line check _ c.check_func.result c.in_err-at_line-in-Func.field-0.0 c.check_func.ensures
    c.in_err-at_line-in-Func.ensures (λ d is. rw is refl))
