-- Loops without reductions, on memories that have no names of their chunks.
use Rattle.std.proofs.Common.{◌≡◌, ℕ, zero, suc, [], refl, sym, subst, arith}
use Rattle.al_core.specs.declared.choices.Choice.{Choice}
use Rattle.al_core.specs.declared.values.Obj.{Obj}
use Rattle.al_core.specs.declared.values.Obj.TheVariants.{Global, Serial, Iter}
use Rattle.al_core.specs.Memory.{Memory}
use Rattle.al_core.specs.Iteration.{Execution}
use Rattle.al_core.specs.Chunk.{chunk_start, chunk_end, chunk_count}
use Rattle.al_core.specs.Readiness.{IsNameFrom, IsFresh}
use Rattle.al_core.specs.Lockstep.{up_from}
use Rattle.al_laws.proofs.DirectRuns.{chunk_is_direct_run}
use Rattle.al_laws.proofs.Naming.{others_stay_fresh}
use Rattle.al_rounds_laws.specs.Loops.{Each}
use Rattle.al_rounds_laws.specs.Serially.{Serially}
use Rattle.al_rounds_laws.specs.Serial.{UnnamedIsFresh, RoundIsSerial, LockstepIsSerial, LockstepIsPlain}
use Rattle.al_rounds_laws.proofs.OneRound.{round_is_serial}
use Rattle.al_rounds_laws.proofs.AllRounds.{lockstep_is_serial}
use Rattle.al_rounds_laws.proofs.InOrder.{lockstep_is_plain}

abbrev pub Fresh : Execution → ℕ → Memory → Type 0
Fresh x c m = IsFresh x m c

pub no_reds_serially : (x : Execution) → Serially x [] (Fresh x)
no_reds_serially x = record {
  direct_run = λ c m f. chunk_is_direct_run x m c f;
  unread = λ c m a e. refl;
  ready = λ c d m n f g. others_stay_fresh x [] m c d n g;
}

choice_serially : (x : Execution) (choice : Choice) → choice.reds ≡ [] → Serially x choice.reds (Fresh x)
choice_serially x choice none = subst (λ reds. Serially x reds (Fresh x)) (sym none) (no_reds_serially x)

pub rounds_without_reds : RoundIsSerial
rounds_without_reds x choice m cs none looks differ fresh = round_is_serial x choice (Fresh x) (choice_serially x choice none) looks m cs fresh differ

pub lockstep_without_reds : LockstepIsSerial
lockstep_without_reds x choice lanes m none looks fresh = lockstep_is_serial x choice (Fresh x) (choice_serially x choice none) looks lanes m fresh

pub plain_without_reds : LockstepIsPlain
plain_without_reds x choice lanes m none looks ordered some factor fresh =
    lockstep_is_plain x choice (Fresh x) (choice_serially x choice none) looks ordered lanes some m factor fresh

-- ---- names

in_execution : (x : Execution) (c : ℕ) (o : Obj) → IsNameFrom x.number (chunk_start x c) (chunk_end x c) o → IsNameFrom x.number 0 x.trips o
in_execution x c (Global k) h = h
in_execution x c (Serial k) h = h
in_execution x c (Iter e j k) h = (h.0, omega arith, omega (arith, h.2))

each_up : (P : ℕ → Type 0) (n k : ℕ) → ((c : ℕ) → P c) → Each P (up_from n k)
each_up P zero k f = tt
each_up P (suc n) k f = (f k, each_up P n (suc k) f)

pub unnamed_is_fresh : UnnamedIsFresh
unnamed_is_fresh x m h = each_up (IsFresh x m) (chunk_count x) 0 (λ c o name. h o (in_execution x c o name))
