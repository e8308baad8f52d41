use Rattle.al_premises_laws.proofs.runs.runs_meet.Goals as goal
use Rattle.al_premises_laws.proofs.WholeRuns.{values_are_met, numbers_are_met, runs_are_met, runs_in_order_are_met, reports_in_order_are_met, limits_are_met, input_is_met, annotations_are_met}

pub returns-clause-values : goal.returns-clause-values
returns-clause-values c = values_are_met

pub returns-clause-numbers : goal.returns-clause-numbers
returns-clause-numbers c = numbers_are_met

pub returns-clause-runs : goal.returns-clause-runs
returns-clause-runs c = runs_are_met

pub returns-clause-runs_in_order : goal.returns-clause-runs_in_order
returns-clause-runs_in_order c = runs_in_order_are_met

pub returns-clause-reports_in_order : goal.returns-clause-reports_in_order
returns-clause-reports_in_order c = reports_in_order_are_met

pub returns-clause-limits : goal.returns-clause-limits
returns-clause-limits c = limits_are_met

pub returns-clause-input : goal.returns-clause-input
returns-clause-input c = input_is_met

pub returns-clause-annotations : goal.returns-clause-annotations
returns-clause-annotations c = annotations_are_met
