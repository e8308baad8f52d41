use Rattle.std.proofs.Common.{◌≡◌, Ok, sym, ap, ◌∙◌}
use Rattle.al_rules_laws.proofs.AcceptedSources.{accepted_is_formed}
use Rattle.chunk_speed.proofs.lowered.Goals as goal

pub lower-requires-clause-formed : goal.lower-requires-clause-formed
lower-requires-clause-formed c = (accepted_is_formed _ c.in-Ok.typed _ c.in-Ok.ensures.answer).formed

pub lower-requires-clause-entries : goal.lower-requires-clause-entries
lower-requires-clause-entries c = (accepted_is_formed _ c.in-Ok.typed _ c.in-Ok.ensures.answer).entries ∙ ap Ok (sym c.as_slice.ensures)
