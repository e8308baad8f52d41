use Rattle.al_exec.proofs.machine.Machine.call.Goals as goal

pub lay-requires-clause-params : goal.lay-requires-clause-params
lay-requires-clause-params c = (c.requires.valid.functions c.args.func c.entry_at-entry.result c.entry_at-entry.ensures).params
