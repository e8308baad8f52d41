use Rattle.al_premises_laws.proofs.loops.second_loop_meets.Goals as goal
use Rattle.al_premises_laws.proofs.SecondLoop.{variables_are_reduced, reads_agree, second_chunks_are_reducible, second_is_ready, second_round_is_met, second_in_order_is_met, second_in_any_order_is_met}

pub returns-clause-variables : goal.returns-clause-variables
returns-clause-variables c = variables_are_reduced

pub returns-clause-reads : goal.returns-clause-reads
returns-clause-reads c = reads_agree

pub returns-clause-chunks : goal.returns-clause-chunks
returns-clause-chunks c = second_chunks_are_reducible

pub returns-clause-ready : goal.returns-clause-ready
returns-clause-ready c = second_is_ready

pub returns-clause-round : goal.returns-clause-round
returns-clause-round c = second_round_is_met

pub returns-clause-in_order : goal.returns-clause-in_order
returns-clause-in_order c = second_in_order_is_met

pub returns-clause-any_order : goal.returns-clause-any_order
returns-clause-any_order c = second_in_any_order_is_met
