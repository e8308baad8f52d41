use Rattle.std.proofs.Common.{◌≡◌, ◌++◌, take, drop}
use Rattle.al_exec.proofs.active.Active.set_locals.Given as goal

abbrev pub invariant-loop-i : goal.invariant-loop-i
invariant-loop-i l = l.self ≡ record l.fn.self { locals = take l.i l.locals ++ drop l.i l.fn.self.locals }
