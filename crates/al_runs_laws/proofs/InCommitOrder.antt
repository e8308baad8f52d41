-- A whole run shows what the run shows in which each execution runs its chunks one after another, in commit order; and in
-- order what the plain run shows.
use Rattle.std.proofs.Common.{◌≡◌, ℕ, suc, ◌+◌, ◌<◌, List, [], ◌++◌, Some, None, refl, sym, ap, subst, ◌∙◌, arith, append_assoc, w64, FitsSigned}
use Rattle.std.specs.Prelude.{ℤ, pos, ◌+ℤ◌}
use Rattle.al_core.specs.declared.reports.Event.{Event}
use Rattle.al_core.specs.declared.typed_tree.Typed.{Typed}
use Rattle.al_core.specs.declared.values.Val.{Val}
use Rattle.al_core.specs.Memory.{Memory}
use Rattle.al_core.specs.Iteration.{Execution}
use Rattle.al_core.specs.Loops.{Loop, loop_at}
use Rattle.al_core.specs.Chunk.{chunk_count}
use Rattle.al_core.specs.Lockstep.{lockstep, commits_of}
use Rattle.al_core.specs.Serial.{serial}
use Rattle.al_core.specs.Run.{Setting, Mode, Plainly, InRounds, InChunks, Whole, list_or_all, by_mode, execution, at_loop, run_loop, whole_run}
use Rattle.al_core.specs.Report.{commit_order, in_commit_order, serial_run}
use Rattle.al_laws.specs.Names.{HasOnly}
use Rattle.al_rounds_laws.specs.Loops.{end_of}
use Rattle.al_rounds_laws.proofs.Plain.{plain_is_serial}
use Rattle.al_kinds_laws.specs.Programs.{IsProgram}
use Rattle.al_runs_laws.specs.Modes.{IsSerializable, AreSerializable, IsAllowed, AreAllowed, IsOrdered, AreOrdered}
use Rattle.al_runs_laws.specs.Runs.{RunsAreSerial, RunsInOrderArePlain}
use Rattle.al_runs_laws.proofs.Events.{Below, From, Begins, commit_skip, commit_none, commit_here, from_rounds, from_less, append_nothing, append_order}
use Rattle.al_runs_laws.proofs.LoopsInRounds.{IsBefore, KeptHere, in_rounds, in_order}
use Rattle.al_runs_laws.proofs.Outside.{Matching, result_end}
use Rattle.al_runs_laws.proofs.WholeRuns.{whole_follows}
use Rattle.al_runs_laws.proofs.Starts.{starts_known, starts_named}

allowed : (typed : Typed) (l : Loop) (mode : Mode) → IsSerializable typed l mode → IsAllowed typed l mode
allowed typed l Plainly s = tt
allowed typed l (InRounds choice) s = s.1
allowed typed l (InChunks cs) s = tt

all_allowed : (g : Setting) → AreSerializable g → AreAllowed g
all_allowed g fits number l e at = allowed g.typed l (g.modes l.info.number e) (fits number l e at)

-- the events so far are a beginning of these
record IsBeginning (final : List Event) (w : Whole) : Type 0 where
  pub rest : List Event
  pub is : final ≡ w.counts.events ++ rest
  pub begins : Begins rest
  pub from : From w.executions rest

from_next : (e : ℕ) (es : List Event) → From (e + 1) es → From (suc e) es
from_next e es h = let next : e + 1 ≡ suc e = omega arith in subst (λ n. From n es) next h

module _ (g : Setting) (p : IsProgram g.typed g.input) (fits : AreSerializable g) (full : 0 < g.sizes.factor) (final : List Event) where
  -- the events that an execution adds
  abbrev added : Execution → Memory → Mode → List Event
  added x m mode = (by_mode x g.sizes.lanes m mode).counts.events

  began : (x : Execution) (m : Memory) (mode : Mode) (l : Loop) → IsSerializable g.typed l mode → (rest : List Event) → Begins rest → From (suc x.number) rest
      → Begins (added x m mode ++ rest) × From x.number (added x m mode ++ rest)
  began x m Plainly l s rest b f = (b, from_less x.number rest f)
  began x m (InRounds choice) l s rest b f =
      (tt, (omega arith, from_rounds x.number (lockstep x choice g.sizes.lanes m).rounds rest (from_less x.number rest f)))
  began x m (InChunks cs) l s rest b f = absurd s

  before_loop : (number : ℕ) (l : Loop) (lo hi : ℤ) (n : ℕ) (vs : List Val) (w : Whole) → loop_at g.typed number ≡ Some l
      → IsBeginning final (run_loop g (execution g l w.executions lo n) hi vs w).1 → IsBeginning final w
  before_loop number l lo hi n vs w at b =
      let x = execution g l w.executions lo n in
      let m = at_loop w.content vs in
      let mode = g.modes l.info.number w.executions in
      let k = began x m mode l (fits number l w.executions at) b.rest b.begins (from_next w.executions b.rest b.from) in
      record {
        rest = added x m mode ++ b.rest;
        is = b.is ∙ append_assoc w.counts.events (added x m mode) b.rest;
        begins = k.0;
        from = k.1;
      }

  module _ (number : ℕ) (l : Loop) (at : loop_at g.typed number ≡ Some l) (e : ℕ) (lo : ℤ) (n : ℕ)
      (counters : (j : ℕ) → j < n → FitsSigned w64 (lo +ℤ pos j)) (m : Memory) (kept : KeptHere g p number l at e lo n counters m)
      (names : HasOnly (IsBefore e) m) (so_far rest : List Event) (below : Below e so_far) (begins : Begins rest) (from : From (suc e) rest) where
    abbrev x : Execution
    x = execution g l e lo n

    -- as its chunks in the order that the events tell
    same_in_order : (mode : Mode) → IsSerializable g.typed l mode → final ≡ (so_far ++ added x m mode) ++ rest
        → result_end (by_mode x g.sizes.lanes m mode) ≡ result_end (by_mode x g.sizes.lanes m (in_commit_order final l.info.number e))
    same_in_order Plainly s is =
        let none : commit_order final e ≡ None =
        ap (λ z. commit_order z e) is ∙ append_order so_far [] rest e ∙ commit_skip e so_far rest below ∙ commit_none e rest from in
        ap end_of (sym (plain_is_serial x m full)) ∙ ap (λ o. end_of (serial x (list_or_all x o) m)) (sym none)
    same_in_order (InRounds choice) s is =
        let rs = (lockstep x choice g.sizes.lanes m).rounds in
        let order : commit_order final e ≡ Some (commits_of rs) =
        ap (λ z. commit_order z e) is ∙ append_order so_far (added x m (InRounds choice)) rest e
        ∙ commit_skip e so_far (added x m (InRounds choice) ++ rest) below
        ∙ commit_here e l.info.number l.info.line n (chunk_count x) rs rest begins in
        in_rounds g p number l at e lo n counters choice m s.0 s.1 kept names ∙ ap (λ o. end_of (serial x (list_or_all x o) m)) (sym order)
    same_in_order (InChunks cs) s is = absurd s

  in_commit_order_matches : Matching g p (in_commit_order final) (IsBeginning final)
  in_commit_order_matches = record {
    content = λ w c b. record { rest = b.rest; is = b.is; begins = b.begins; from = b.from };
    before = λ number l lo hi n vs w at o b. before_loop number l lo hi n vs w at b;
    same = λ number l lo hi n vs w at counters o kept b.
        same_in_order number l at w.executions lo n counters (at_loop w.content vs) kept o.names w.counts.events b.rest o.events b.begins
        (from_next w.executions b.rest b.from) (g.modes l.info.number w.executions) (fits number l w.executions at) b.is;
  }

pub runs_are_serial : RunsAreSerial
unfolding serial_run
runs_are_serial g p full fits =
    let final = (whole_run g).1.world.counts.events in
    whole_follows g p (in_commit_order final) (IsBeginning final) (all_allowed g fits) (in_commit_order_matches g p fits full final) (starts_known g p)
    (starts_named g p)
    (record { rest = []; is = append_nothing final; begins = tt; from = tt })

-- ---- plain

module _ (g : Setting) (p : IsProgram g.typed g.input) (fits : AreSerializable g) (full : 0 < g.sizes.factor) (some : 0 < g.sizes.lanes)
    (ordered : AreOrdered g) where
  same_plain : (number : ℕ) (l : Loop) (at : loop_at g.typed number ≡ Some l) (e : ℕ) (lo : ℤ) (n : ℕ)
      (counters : (j : ℕ) → j < n → FitsSigned w64 (lo +ℤ pos j)) (m : Memory) → KeptHere g p number l at e lo n counters m → HasOnly (IsBefore e) m
      → (mode : Mode) → IsSerializable g.typed l mode → IsOrdered mode
      → result_end (by_mode (execution g l e lo n) g.sizes.lanes m mode) ≡ result_end (by_mode (execution g l e lo n) g.sizes.lanes m Plainly)
  same_plain number l at e lo n counters m kept names Plainly s o = refl
  same_plain number l at e lo n counters m kept names (InRounds choice) s o =
      in_order g p number l at e lo n counters choice m s.0 o some full s.1 kept names
  same_plain number l at e lo n counters m kept names (InChunks cs) s o = absurd s

  plain_matches : Matching g p (λ number e. Plainly) (λ w. Unit {0})
  plain_matches = record {
    content = λ w c b. tt;
    before = λ number l lo hi n vs w at o b. tt;
    same = λ number l lo hi n vs w at counters o kept b.
        same_plain number l at w.executions lo n counters (at_loop w.content vs) kept o.names (g.modes l.info.number w.executions)
        (fits number l w.executions at) (ordered number l w.executions at);
  }

pub runs_in_order_are_plain : RunsInOrderArePlain
runs_in_order_are_plain g p full some fits ordered =
    whole_follows g p (λ number e. Plainly) (λ w. Unit {0}) (all_allowed g fits) (plain_matches g p fits full some ordered) (starts_known g p)
    (starts_named g p) tt
