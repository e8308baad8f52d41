use Rattle.al_premises_laws.proofs.loops.first_loop_meets.Goals as goal
use Rattle.al_premises_laws.proofs.FirstLoop.{loops_stand, first_is_at_start, first_is_unnamed, first_chunks_are_fresh, first_round_is_met, first_lockstep_is_met, first_in_order_is_met, chunks_ascend, first_in_any_order_is_met}

pub returns-clause-stands : goal.returns-clause-stands
returns-clause-stands c = loops_stand

pub returns-clause-starts : goal.returns-clause-starts
returns-clause-starts c = first_is_at_start

pub returns-clause-names : goal.returns-clause-names
returns-clause-names c = first_is_unnamed

pub returns-clause-chunks : goal.returns-clause-chunks
returns-clause-chunks c = first_chunks_are_fresh

pub returns-clause-round : goal.returns-clause-round
returns-clause-round c = first_round_is_met

pub returns-clause-all : goal.returns-clause-all
returns-clause-all c = first_lockstep_is_met

pub returns-clause-in_order : goal.returns-clause-in_order
returns-clause-in_order c = first_in_order_is_met

pub returns-clause-ascend : goal.returns-clause-ascend
returns-clause-ascend c = chunks_ascend

pub returns-clause-any_order : goal.returns-clause-any_order
returns-clause-any_order c = first_in_any_order_is_met
