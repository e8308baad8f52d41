-- What the threads of a round share.
use denote.RattleType.{RattleType}
use denote.Ref.{NamedLft}
use denote.Builtin.{u32}
use denote.Param.Send.{IsSync, sendable}
use Rattle.std.proofs.Common.{rules}
use Rattle.std.proofs.Crossing.{Vec-sync, crosses}
use Rattle.sqlite_items.specs.contracts.items.Items as items
use Rattle.al_source.specs.contracts.texts.Piece as piece
use Rattle.al_core.specs.contracts.choices.Red as red
use Rattle.al_core.specs.contracts.choices.Choice as choice
use Rattle.al_core.specs.contracts.choices.Bound as bound
use Rattle.al_core.specs.contracts.choices.LoopInfo as info
use Rattle.al_core.specs.contracts.typed_tree.TGlobal as global
use Rattle.al_code.specs.contracts.instructions.Instr as instr
use Rattle.al_code.specs.contracts.lowered.Entry as entry
use Rattle.al_code.specs.contracts.lowered.Body as body
use Rattle.al_code.specs.contracts.lowered.Code as code
use Rattle.al_chunk.specs.contracts.env.LoopEnv as env
use Rattle.al_round.specs.contracts.piece.Plan as plan
use Rattle.al_round.specs.contracts.piece.Task as task
use Rattle.al_heap.specs.declared.store.Store as store
use Rattle.al_round.specs.contracts.runner.Runner as runner

pub items_sync : (T : RattleType) → IsSync T → IsSync (items.the_field T).row
items_sync T s = search (Vec-sync, sendable) depth 20

pub number_sync : IsSync u32
number_sync = search sendable

pub instr_sync : IsSync instr.the_row
instr_sync = search rules

pub piece_sync : IsSync piece.the_row
piece_sync = search (items_sync, sendable) depth 20

pub red_sync : IsSync red.the_row
red_sync = search sendable depth 20

pub choice_sync : IsSync choice.the_row
choice_sync = search (items_sync, red_sync, sendable) depth 20

pub bound_sync : IsSync bound.the_row
bound_sync = search rules

-- the same of a field
choice_field : IsSync (choice.the_field).row
choice_field = search (items_sync, red_sync, sendable) depth 20

bound_field : IsSync (bound.the_field).row
bound_field = search rules

pub info_sync : IsSync info.the_row
info_sync = search (choice_field, bound_field, number_sync, sendable) depth 40

pub global_sync : IsSync global.the_row
global_sync = search (items_sync, sendable) depth 20

pub entry_sync : IsSync entry.the_row
entry_sync = search sendable depth 20

pub body_sync : IsSync body.the_row
body_sync = search sendable depth 20

pub env_sync : IsSync env.the_row
env_sync = search sendable depth 20

pub code_sync : IsSync code.the_row
code_sync = search (items_sync, instr_sync, piece_sync, info_sync, global_sync, entry_sync, body_sync, sendable) depth 100

pub plan_sync : (κ : NamedLft) → IsSync (plan.the_row κ)
plan_sync κ = search (code_sync, info_sync, choice_sync, env_sync, sendable) depth 40

pub plan_field : (κ : NamedLft) → IsSync (plan.the_field κ).row
plan_field κ = search (code_sync, info_sync, choice_sync, env_sync, sendable) depth 40

pub task_sync : (κ : NamedLft) (S : RattleType) → IsSync (task.the_row κ S)
task_sync κ S = search (plan_field, crosses, sendable) depth 20

pub task_field : (κ : NamedLft) (S : RattleType) → IsSync (task.the_field κ S).row
task_field κ S = search (plan_field, crosses, sendable) depth 20

pub runner_sync : (κ ι : NamedLft) (S : RattleType) (g : store.Ghosts S.Denot) → IsSync S → IsSync (runner.the_row κ ι S g)
runner_sync κ ι S g s = search (task_field, crosses, sendable) depth 20

pub runner_field : (κ ι : NamedLft) (S : RattleType) (g : store.Ghosts S.Denot) → IsSync S → IsSync (runner.the_field κ ι S g).row
runner_field κ ι S g s = search (task_field, crosses, sendable) depth 20
