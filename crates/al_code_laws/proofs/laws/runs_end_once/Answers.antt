use Rattle.al_code_laws.proofs.Ends.{runs_end_once, stops_are_once}
use Rattle.al_code_laws.proofs.laws.runs_end_once.Goals as goal

pub returns-clause-content : goal.returns-clause-content
returns-clause-content c = runs_end_once

pub returns-clause-whole : goal.returns-clause-whole
returns-clause-whole c = runs_end_once

pub returns-clause-content_stops : goal.returns-clause-content_stops
returns-clause-content_stops c = stops_are_once

pub returns-clause-whole_stops : goal.returns-clause-whole_stops
returns-clause-whole_stops c = stops_are_once
