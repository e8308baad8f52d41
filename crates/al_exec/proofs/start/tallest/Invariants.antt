use Rattle.std.proofs.Common.{◌≡◌, ◌<◌, ◌≤◌, ℕ, Some}
use Rattle.std.specs.Prelude.{slice_get}
use Rattle.al_exec.proofs.start.tallest.Given as goal

abbrev pub invariant-loop-h : goal.invariant-loop-h
invariant-loop-h l = (q h : ℕ) → q < l.h-index → slice_get l.code.heights q ≡ Some h → h ≤ l.tallest
