-- What a round keeps of the outcomes that are committed, one after another.
use Rattle.std.specs.Prelude.{List, [], ◌∷◌, ◌++◌}
use Rattle.al_core.specs.declared.choices.Red.{Red}
use Rattle.al_core.specs.Chunk.{Outcome}
use Rattle.al_core.specs.Applied.{applied}
use Rattle.al_core.specs.Round.{Round}

-- the memory, the bytes and the ending
abbrev pub kept : List Red → Outcome → Round → Round
kept reds o r =
    record r { memory = applied reds r.memory o; printed = r.printed ++ o.printed; ending = o.ending }

abbrev pub all_kept : List Red → List Outcome → Round → Round
all_kept reds [] r = r
all_kept reds (o ∷ os) r = all_kept reds os (kept reds o r)
