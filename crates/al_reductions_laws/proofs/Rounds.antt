-- Rounds of a loop whose reductions are accepted.
use Rattle.std.proofs.Common.{ℕ, List}
use Rattle.al_core.specs.Iteration.{Execution}
use Rattle.al_core.specs.Memory.{Memory}
use Rattle.al_core.specs.declared.choices.Red.{Red}
use Rattle.al_rounds_laws.proofs.OneRound.{round_comes, round_is_serial}
use Rattle.al_rounds_laws.proofs.AllRounds.{lockstep_is_serial}
use Rattle.al_rounds_laws.proofs.InOrder.{lockstep_is_plain}
use Rattle.al_reductions_laws.specs.Reducible.{IsReducible}
use Rattle.al_reductions_laws.specs.Serial.{ChunkIsDirectRun, OthersStayReducible, RoundIsSerial, RoundKeepsReducible, LockstepIsSerial, LockstepIsPlain}
use Rattle.al_reductions_laws.proofs.AcceptedReds.{reducible_serially}

abbrev MayRun : Execution → List Red → ℕ → Memory → Type 0
MayRun x reds c m = IsReducible x reds m c

pub chunk_is_direct_run : ChunkIsDirectRun
chunk_is_direct_run x reds m c h k = (reducible_serially x reds h).direct_run c m k

pub others_stay_reducible : OthersStayReducible
others_stay_reducible x reds m c d h n k l = (reducible_serially x reds h).ready c d m n k l

pub rounds_with_reds : RoundIsSerial
rounds_with_reds x choice m cs h looks d r =
    round_is_serial x choice (MayRun x choice.reds) (reducible_serially x choice.reds h) looks m cs r d

pub rounds_keep_reducible : RoundKeepsReducible
rounds_keep_reducible x choice m cs h looks differ r d apart k =
    (round_comes x choice (MayRun x choice.reds) (reducible_serially x choice.reds h) looks m cs r differ).ready d apart k

pub lockstep_with_reds : LockstepIsSerial
lockstep_with_reds x choice lanes m h looks r =
    lockstep_is_serial x choice (MayRun x choice.reds) (reducible_serially x choice.reds h) looks lanes m r

pub plain_with_reds : LockstepIsPlain
plain_with_reds x choice lanes m h looks ordered some p r =
    lockstep_is_plain x choice (MayRun x choice.reds) (reducible_serially x choice.reds h) looks ordered lanes some m p r
