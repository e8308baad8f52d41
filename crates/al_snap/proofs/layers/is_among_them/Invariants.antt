use Rattle.std.proofs.Common.{◌≡◌, take, false}
use Rattle.al_snap.specs.Layers.{is_among}
use Rattle.al_snap.proofs.layers.is_among_them.Given as goal

abbrev pub invariant-loop-o : goal.invariant-loop-o
invariant-loop-o l = is_among (take l.o-index l.objects) l.obj ≡ false
