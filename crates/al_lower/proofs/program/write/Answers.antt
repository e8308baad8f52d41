use Rattle.std.proofs.Common.{◌∙◌}
use Rattle.al_lower.proofs.Functions.{written}
use Rattle.al_lower.proofs.program.write.Goals as goal

pub returns : goal.returns
returns c =
    written c.args.typed.now c.args.infos.now _ _ _ _ c.in_ok-from_end.from_end.items _ _ _
    c.as_slice.ensures c.in_ok-from_end.ensures.code c.in_ok-from_end.ensures.entries
    (c.in_ok-total.ensures ∙ c.len.ensures) c.in_ok-parts.ensures (c.in_ok-copy_globals.ensures ∙ c.as_slice-2.ensures) c.in_ok-turn.ensures
    c.in_ok-copy_infos.ensures
