-- Iterations in parts, and what runs print.
use Rattle.std.specs.Prelude.{◌≡◌, ℕ, ◌+◌, ℤ, List, ◌++◌}
use Rattle.al_core.specs.declared.typed_tree.TStmt.{TStmt}
use Rattle.al_core.specs.declared.typed_tree.TFunc.{TFunc}
use Rattle.al_core.specs.World.{World}
use Rattle.al_core.specs.Action.{State}
use Rattle.al_core.specs.Access.{Content}
use Rattle.al_core.specs.Meaning.{Where, execute, call_to}
use Rattle.al_core.specs.Iteration.{Execution, then_runs, iterations}
use Rattle.al_core.specs.Serial.{chunks_run}
use Rattle.al_core.specs.Run.{Setting, outside}

-- so many iterations and so many more are the first ones and then, where they did not trap, the others
abbrev pub IterationsSplit : Type 0
IterationsSplit =
    (x : Execution) (m n j : ℕ) (c : Content)
    → iterations x (m + n) j c ≡ then_runs (iterations x m j c) (iterations x n (j + m))

-- ---- what is printed

-- bytes, and then maybe more
abbrev pub Continues : List ℕ → List ℕ → Type 0
Continues before after = (more : List ℕ) × (after ≡ before ++ more)

abbrev pub IterationsOnlyAppend : Type 0
IterationsOnlyAppend =
    (x : Execution) (n j : ℕ) (c : Content) → Continues c.printed (iterations x n j c).content.printed

abbrev pub ChunksOnlyAppend : Type 0
ChunksOnlyAppend =
    (x : Execution) (cs : List ℕ) (c : Content) → Continues c.printed (chunks_run x cs c).content.printed

-- whatever a statement does in a world whose states have these bytes
abbrev pub StatementsOnlyAppend : {S : Type 0} → World S → (S → List ℕ) → Type 0
StatementsOnlyAppend {S} world bytes =
    (here : Where) (funcs : List TFunc) (input : List ℤ) (calls : ℕ) (stmt : TStmt) (s : State S)
    → Continues (bytes s.world) (bytes (execute world here input (call_to world here funcs input calls) stmt s).1.world)

abbrev pub RunsOnlyAppend : Type 0
RunsOnlyAppend = (g : Setting) → StatementsOnlyAppend (outside g) (λ w. w.content.printed)
