use Rattle.al_cli.proofs.Lined.{formed_of}
use Rattle.al_cli.proofs.runs.answer_of.Goals as goal

pub in_lockstep-requires-clause-formed : goal.in_lockstep-requires-clause-formed
in_lockstep-requires-clause-formed g c κs within = formed_of c.args.source.now c.args.program.now c.requires.source

pub plain-requires-clause-formed : goal.plain-requires-clause-formed
plain-requires-clause-formed g c κs within = formed_of c.args.source.now c.args.program.now c.requires.source

pub in_lockstep-requires-in-Trace-clause-formed : goal.in_lockstep-requires-in-Trace-clause-formed
in_lockstep-requires-in-Trace-clause-formed g c κs within = formed_of c.args.source.now c.args.program.now c.requires.source

pub in_lockstep-requires-in-Demo-clause-formed : goal.in_lockstep-requires-in-Demo-clause-formed
in_lockstep-requires-in-Demo-clause-formed g c κs within = formed_of c.args.source.now c.args.program.now c.requires.source

pub inferred-requires-clause-formed : goal.inferred-requires-clause-formed
inferred-requires-clause-formed g c κs within = formed_of c.args.source.now c.args.program.now c.requires.source
