use Rattle.std.proofs.Common.{unwrap_or, ap, ◌∙◌}
use Rattle.std.proofs.lemmas.Option.{unwrap_or-slice_get}
use Rattle.al_type_names.proofs.known.offset_at.Goals as goal

pub returns : goal.returns
returns c =
    c.unwrap_or.ensures ∙ ap (λ r. unwrap_or r 0) (c.copied.ensures ∙ c.get.ensures.value)
    ∙ unwrap_or-slice_get c.args.layout.now.offsets c.args.at 0
