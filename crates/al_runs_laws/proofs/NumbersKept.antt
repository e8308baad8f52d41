-- The loops and runs of a program keep it that integers are held where they have to be.
use Rattle.std.proofs.Common.{◌≡◌, ℕ, ◌≤◌, List, length, Some, refl, sym, ap, subst, ◌∙◌, arith, All}
use Rattle.std.specs.Prelude.{slice_get, is_some}
use Rattle.std.proofs.Math.Bool.{true≢false}
use Rattle.al_core.specs.declared.choices.Red.{Red}
use Rattle.al_core.specs.declared.typed_tree.TFunc.{TFunc}
use Rattle.al_core.specs.declared.values.Val.{Val}
use Rattle.al_core.specs.declared.values.Val.TheVariants.{Int, Ptr}
use Rattle.al_core.specs.Accepted.{IsAccepted}
use Rattle.al_core.specs.Access.{red_index}
use Rattle.al_core.specs.Memory.{Memory, value_at}
use Rattle.al_core.specs.Iteration.{Execution}
use Rattle.al_core.specs.Readiness.{LeadsTo}
use Rattle.al_core.specs.Serial.{serial}
use Rattle.al_core.specs.Run.{Setting, Whole, whole_run}
use Rattle.al_laws.proofs.Words.{same_some}
use Rattle.al_graded_laws.proofs.Values.{zero_fits}
use Rattle.al_reductions_laws.proofs.Joined.{index_of}
use Rattle.al_reductions_laws.proofs.AcceptedReds.{all_of, Reducing, variable_at, differ}
use Rattle.al_kinds_laws.specs.Whole.{is_shut}
use Rattle.al_kinds_laws.specs.Numbers.{IsOpenVal, HoldsNumbers}
use Rattle.al_kinds_laws.proofs.Numbers.{holds_numbers, kept_numbers}
use Rattle.al_kinds_laws.proofs.KeptKinds.{KeptMemory}
use Rattle.al_kinds_laws.proofs.KindedIterations.{chunk_known, serial_known, plain_known}
use Rattle.al_kinds_laws.proofs.NumbersCommitted.{lockstep_known}
use Rattle.al_runs_laws.specs.Numbers.{IsLoopOf, SerialKeepsNumbers, PlainKeepsNumbers, LockstepKeepsNumbers, NumbersAreReducible, RunsKeepNumbers}
use Rattle.al_runs_laws.specs.Modes.{AreAllowed}
use Rattle.al_kinds_laws.specs.Programs.{IsProgram}
use Rattle.al_runs_laws.proofs.Outside.{OuterSane, Matching}
use Rattle.al_runs_laws.proofs.WholeRuns.{whole_sound}
use Rattle.al_runs_laws.proofs.Starts.{starts_known, starts_named}
use Rattle.al_runs_laws.proofs.ProgramLoops.{LoopFacts, loop_facts}
use Rattle.al_runs_laws.proofs.LoopsInRounds.{variables, red_number, open_apart}

module _ (x : Execution) (func : TFunc) (h : IsLoopOf x func) where
  abbrev facts : LoopFacts x.typed x.input h.program x.loop
  facts = loop_facts x.typed x.input h.program h.number x.loop h.loop

  same : facts.func ≡ func
  same = same_some facts.func func (sym facts.stands ∙ h.stands)

  abbrev Kept : TFunc → Memory → Type 0
  Kept f m = KeptMemory zero_fits (is_shut x.typed) f.locals m

  kept : (m : Memory) → HoldsNumbers x.typed func.locals m → Kept facts.func m
  kept m k = subst (λ (f : TFunc). Kept f m) (sym same) (kept_numbers x.typed func.locals m k)

  held : (m : Memory) → Kept facts.func m → HoldsNumbers x.typed func.locals m
  held m k = holds_numbers x.typed func.locals m (subst (λ (f : TFunc). Kept f m) same k)

  enough : length facts.func.locals ≤ x.loop.locals
  enough = omega (arith, facts.locals)

  after_serial : (cs : List ℕ) (m : Memory) → HoldsNumbers x.typed func.locals m → HoldsNumbers x.typed func.locals (serial x cs m).content.memory
  after_serial cs m k =
      held (serial x cs m).content.memory (serial_known x h.program facts.func.locals facts.result facts.kinded enough h.counters cs m (kept m k))

  reducing_here : (reds : List Red) → IsAccepted x.typed x.loop reds → Reducing x reds
  reducing_here reds a = record { program = h.program.numbers; body = facts.ranged; counters = h.counters; accepted = a }

pub serial_keeps_numbers : SerialKeepsNumbers
serial_keeps_numbers x func cs m h k = after_serial x func h cs m k

pub plain_keeps_numbers : PlainKeepsNumbers
plain_keeps_numbers x func m h k =
    let f = facts x func h in
    held x func h _ (plain_known x h.program f.func.locals f.result f.kinded (enough x func h) h.counters m (kept x func h m k))

pub lockstep_keeps_numbers : LockstepKeepsNumbers
lockstep_keeps_numbers x func choice lanes m h a k =
    let f = facts x func h in
    let chunks = chunk_known x h.program f.func.locals f.result f.kinded (enough x func h) h.counters choice.reds
    (variables x choice.reds (reducing_here x func h choice.reds a) f.func f.stands) in
    held x func h _ (lockstep_known x.typed f.func.locals x choice chunks lanes m (kept x func h m k))

pub numbers_are_reducible : NumbersAreReducible
numbers_are_reducible x func reds m c h a fresh values k =
    let r = reducing_here x func h reds a in
    let f = facts x func h in
    let n = kept x func h m k in
    record {
      fresh = fresh;
      values = values;
      reductions = all_of (λ r. (n : _) × (value_at m r.at ≡ Some (Int n))) reds
          (λ i q e. red_number x reds r f.func f.stands m n q.at (variable_at x reds r i q e));
      unaliased = λ b v e. unaliased_by v (k.values b v e);
    }
  where
    leads : (v : Val) (i : ℕ) (q : Red) → IsOpenVal x.typed v → slice_get reds i ≡ Some q → LeadsTo v q → ⊥
    leads (Int n) i q o e l = l
    leads (Ptr p w) i q o e l =
        let r = reducing_here x func h reds a in
        let f = facts x func h in
        true≢false (sym (ap is_some (ap (red_index reds) (sym l.1) ∙ index_of reds i q (differ x reds r) e))
        ∙ open_apart x reds r f.func f.stands m (kept x func h m k) p o.0 l.0)

    unaliased_by : (v : Val) → IsOpenVal x.typed v → All (λ r. ¬ (LeadsTo v r)) reds
    unaliased_by v o = all_of (λ r. ¬ (LeadsTo v r)) reds (λ i q e l. leads v i q o e l)

-- ---- runs

module _ (g : Setting) (p : IsProgram g.typed g.input) (fits : AreAllowed g) where
  abbrev Anything : Whole → Type 0
  Anything w = Unit {0}

  itself : Matching g p g.modes Anything
  itself = record {
    content = λ w c b. tt;
    before = λ number l lo hi n vs w at o b. tt;
    same = λ number l lo hi n vs w at counters o k b. refl;
  }

  ends_sound : OuterSane g p (whole_run g).1.world
  ends_sound = whole_sound g p g.modes Anything fits itself (starts_known g p) (starts_named g p)

pub runs_keep_numbers : RunsKeepNumbers
runs_keep_numbers g p fits k s = (ends_sound g p fits).known.memory.shuts k s
