use Rattle.std.proofs.Common.{[], Result, sym, subst}
use Rattle.std.proofs.lemmas.Result.{err_from_is_err_and}
use Rattle.al_source.specs.Answers.{Fails}
use Rattle.al_rules.specs.Checks.{Checked}
use Rattle.al_rules.specs.Scopes.{is_struct}
use Rattle.al_type_names.specs.NameLists.{named_in}
use Rattle.al_type_names.specs.Roles.{allowed_for}
use Rattle.al_type_names.specs.Steps.{kind_of}
use Rattle.al_types.proofs.ItemLemmas.{fields_stop}
use Rattle.al_types.proofs.items.check_fields.Goals as goal

pub returns-in_err-check_field : goal.returns-in_err-check_field
returns-in_err-check_field c =
    let p = err_from_is_err_and c.from_residual.result c.from_residual.ensures.1 in
    let known = is_struct c.args.known.now.structs in
    let anywhere = named_in c.args.anywhere.now in
    let fault = kind_of c.in_err-check_field.field-0.0 in
    let stops =
    fields_stop known anywhere (allowed_for c.args.role) c.loop-fields.names c.loop-fields.fields.now c.field-item.result
    c.in-len1-up.len_at_least c.field-item.is fault c.in_err-check_field.ensures.checked in
    rw (p.1, p.2) (subst (λ (r : Checked (Unit {0})). Fails r fault) (sym c.loop-fields.invariant) stops)
