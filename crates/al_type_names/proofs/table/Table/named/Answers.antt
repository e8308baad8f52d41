use Rattle.std.proofs.Common.{ℕ, Option, ap, sym, ◌∙◌}
use Rattle.std.specs.Prelude.{option_and_then, option_map, slice_get}
use Rattle.std.specs.Str.{bytes_eq}
use Rattle.al_type_names.proofs.NameLookups.{find_at_place}
use Rattle.al_type_names.proofs.table.Table.named.Goals as goal

pub returns-in_err-place : goal.returns-in_err-place
returns-in_err-place g c =
    let xs = c.args.self.now in
    ap (λ r. option_map (λ x. x.now) r) c.from_residual.ensures ∙ ap (λ (r : Option ℕ). option_and_then (λ k. slice_get xs k) r) c.in_err-place.ensures
    ∙ sym (find_at_place (λ x. bytes_eq (g.T.Named.name_of x) c.args.name.now) xs)

pub returns : goal.returns
returns g c =
    let xs = c.args.self.now in
    c.get.ensures ∙ ap (λ (r : Option ℕ). option_and_then (λ k. slice_get xs k) r) c.in_ok-place.ensures
    ∙ sym (find_at_place (λ x. bytes_eq (g.T.Named.name_of x) c.args.name.now) xs)
