use Rattle.std.proofs.Common.{ap, ◌∙◌}
use Rattle.al_core.specs.Chunk.{writes_of}
use Rattle.al_snap.specs.Layers.{Layers, seen}
use Rattle.al_snap.proofs.Outcomes.{writes_told, made_shown}
use Rattle.al_snap.proofs.layers.Layers.into_parts.Goals as goal

pub returns-clause-writes : goal.returns-clause-writes
returns-clause-writes g c =
    writes_told _ c.self.invariant ∙ ap (λ (l : Layers). writes_of (seen l) l.touched) c.self.view_is

pub returns-clause-made : goal.returns-clause-made
returns-clause-made g c = made_shown _ c.args.self c.self.view_is
